-- What is read from a word is called by it.
use Rattle.std.proofs.Common.{refl}
use Rattle.plan_dsl.specs.Words.{function_name, method_name}
use Rattle.plan_dsl.specs.declared.aggregate.GroupByMethod.TheVariants.{Min, Max, NUnique, First, Last, Implode, Sum, Count, Groups}
use Rattle.plan_dsl.specs.declared.function_expr.FunctionExpr.TheVariants.{AllHorizontal, AnyHorizontal, IsNull, IsNotNull, FillNull, IsIn, ShiftAndFill, ListGet}
use Rattle.plan_json.proofs.Names.{List, None, Option, Some, ap, bytes_eq, bytes_eq-Decides, cond, false, same_Some, sym, true, ℕ, ◌∙◌, ◌≡◌}
use Rattle.plan_json.specs.Leaves.{count_named, function_named, method_named, value_named}
use Rattle.std.specs.Option.{option_or}

module _ {A : Type 0} (called : A → List ℕ) (name : List ℕ) where
  -- all that is read is called by the name
  abbrev Reads : Option A → Type 0
  Reads read = (found : A) → read ≡ Some found → called found ≡ name

  nothing_read : Reads None
  nothing_read found e = cc

  -- one more word in front
  word_before : (made : A) (rest : Option A) → Reads rest → Reads (cond (bytes_eq name (called made)) (Some made) rest)
  word_before made rest others found =
      elim (bytes_eq name (called made)) as (λ b. bytes_eq name (called made) ≡ b → cond b (Some made) rest ≡ Some found → called found ≡ name) [
        | true ↦ λ same e. ap called (sym (same_Some made found e)) ∙ sym ((bytes_eq-Decides name (called made)).0 same)
        | false ↦ λ other e. others found e
      ] refl

  either_read : (read other : Option A) → Reads read → Reads other → Reads (option_or read other)
  either_read None other first second = second
  either_read (Some made) other first second = first

module _ (name : List ℕ) where
  values_read : Reads method_name name (value_named name)
  values_read =
      word_before method_name name Min _ (word_before method_name name Max _ (word_before method_name name First _ (word_before method_name name Last _ (
      word_before method_name name Sum _ (nothing_read method_name name)))))

  counts_read : Reads method_name name (count_named name)
  counts_read =
      word_before method_name name NUnique _ (word_before method_name name Implode _ (word_before method_name name (Count false) _ (
      word_before method_name name (Count true) _ (word_before method_name name Groups _ (nothing_read method_name name)))))

  pub methods_read : Reads method_name name (method_named name)
  methods_read = either_read method_name name (value_named name) (count_named name) values_read counts_read

  pub functions_read : Reads function_name name (function_named name)
  functions_read =
      let before = word_before function_name name in
      before AllHorizontal _ (before AnyHorizontal _ (before IsNull _ (before IsNotNull _ (before FillNull _ (before IsIn _ (before ShiftAndFill _ (
      before (ListGet false) _ (before (ListGet true) _ (nothing_read function_name name)))))))))
