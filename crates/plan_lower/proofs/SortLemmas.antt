-- Sorts: expressions that are expanded to keys one by one, flags, sorts as nodes over one input, and why one isn't lowered.
use Rattle.std.proofs.Common.{◌≡◌, ℕ, zero, suc, ◌<◌, ◌+◌, Bool, cond, not, List, [], ◌∷◌, ◌++◌, length, map, drop, replicate, get_or, slice_get, Some, None, Result, Ok, Err, refl, sym, ap, ◌∙◌, subst, arith, append_assoc, append-nil, ⊎_elim}
use Rattle.std.specs.Prelude.{◌==◌}
use Rattle.std.specs.List.{Contains}
use Rattle.std.proofs.lemmas.Bool.{eq-eqb, ne_eqb}
use Rattle.std.proofs.lemmas.List.{length-map}
use Rattle.std.proofs.lemmas.List.Elements.{Contains-push}
use Rattle.plan_types.specs.Errors.{at_top, IsRefusal, no_room as short, broken}
use Rattle.plan_types.specs.Schemas.{Columns}
use Rattle.plan_types.specs.declared.error.ErrorKind.{ErrorKind}
use Rattle.plan_types.specs.declared.error.ErrorKind.TheVariants.{ComputeError}
use Rattle.plan_types.specs.declared.error.PlanError.{PlanError}
use Rattle.plan_types.proofs.ListLemmas.{pair_left}
use Rattle.plan_dsl.specs.Expansion.{expansion, expansions}
use Rattle.plan_dsl.specs.Expressions.{plain_tree, tree_of}
use Rattle.plan_dsl.specs.Names.{name_of}
use Rattle.plan_dsl.specs.Ops.{Expression}
use Rattle.plan_dsl.specs.PlanRules.{kind_where}
use Rattle.plan_dsl.specs.Plans.{Named, SortWork, over_op, sort_work}
use Rattle.plan_dsl.specs.Refusals.{joined, then_ok, with_kinds}
use Rattle.plan_dsl.specs.Registry.{Registry}
use Rattle.plan_dsl.specs.Resolving.{expanded_over, over_expanded, over_named, resolved_work}
use Rattle.plan_dsl.specs.Signatures.{has_flags}
use Rattle.plan_dsl.specs.SortFlags.{both_served, count_of, each_served, flags_served, key_counts, keys_served, sort_flags}
use Rattle.plan_dsl.specs.Sources.{ColumnsOp, Source}
use Rattle.plan_dsl.specs.Trees.{node, no_more}
use Rattle.plan_dsl.specs.declared.expr.Expr.{Expr}
use Rattle.plan_dsl.specs.declared.expr.Expr.TheVariants.{Columns as ListOfNames, Function'}
use Rattle.plan_dsl.specs.declared.function_expr.FunctionExpr.TheVariants.{FieldByIndex}
use Rattle.plan_dsl.specs.declared.sort_options.SortMultipleOptions.{SortMultipleOptions}
use Rattle.plan_dsl.proofs.SortFlagLemmas.{sorts_have_flags}
use Rattle.plan_arena.specs.declared.aexpr.AExpr.{AExpr}
use Rattle.plan_arena.specs.declared.ir.IR.{IR}
use Rattle.plan_arena.specs.Items.{plan_layer}
use Rattle.plan_arena.specs.Layers.{layer}
use Rattle.plan_expand.specs.Refusals.{IsUnexpanded, no_room as no_place, unexpanded}
use Rattle.plan_lower.specs.declared.conversion.asked.Asked.TheVariants.{Order}
use Rattle.plan_lower.specs.Outputs.{HasOutputs, Lowered}
use Rattle.plan_lower.specs.Projection.{IsProjectionRefusal}
use Rattle.plan_lower.specs.Sorts.{HasKeys, falling, nulls_behind}
use Rattle.plan_lower.specs.Works.{IsWorkAt, IsWorkRefusal, against_a_rule, lowered_names, without_memory}
use Rattle.plan_lower.proofs.BuiltLemmas.{unexpanded_then}
use Rattle.plan_lower.proofs.WorkLemmas.{list_expanded, types_against}

-- ---- how many keys each flag serves

-- of a list of names each is one key
ones : {A : Type 0} (names : List A) → map {B = ℕ} (λ name. 1) names ≡ replicate (length names) 1
ones [] = refl
ones (name ∷ names) = ap (λ l. 1 ∷ l) (ones names)

-- an expression that is none
no_list : (schema : Columns) (expr : Expr) → ((names : _) → expr ≡ ListOfNames names → ⊥) → keys_served schema (tree_of expr ∷ []) ≡ key_counts schema (tree_of expr ∷ [])
no_list schema (ListOfNames names) other = absurd (other names refl)
no_list schema (Function' shape input (FieldByIndex place)) other = refl
no_list schema _ other = refl

-- so it is of two or more
many_counted : (schema : Columns) (first second : Source) (rest : List Source) → keys_served schema (first ∷ second ∷ rest) ≡ key_counts schema (first ∷ second ∷ rest)
many_counted schema (node (ColumnsOp names) no_more) second rest = refl
many_counted schema first second rest = refl

pub other_counted : (schema : Columns) (by : List Expr) → (length by ≡ 1 → ⊥) → keys_served schema (map tree_of by) ≡ key_counts schema (map tree_of by)
other_counted schema [] many = refl
other_counted schema (expr ∷ []) many = absurd (many refl)
other_counted schema (first ∷ second ∷ rest) many = many_counted schema (tree_of first) (tree_of second) (map tree_of rest)

only_item : {A : Type 0} (items : List A) (item : A) → length items ≡ 1 → item ≡ get_or items 0 item → items ≡ item ∷ []
only_item [] item one is = absurd (omega (arith, one))
only_item (other ∷ []) item one is = ap (λ x. x ∷ []) (sym is)
only_item (first ∷ second ∷ rest) item one is = absurd (omega (arith, one))

pub alone_counted : (schema : Columns) (by : List Expr) (expr : Expr) → length by ≡ 1 → expr ≡ get_or by 0 expr → ((names : _) → expr ≡ ListOfNames names → ⊥) → keys_served schema (map tree_of by) ≡ key_counts schema (map tree_of by)
alone_counted schema by expr one is other =
    subst (λ es. keys_served schema (map tree_of es) ≡ key_counts schema (map tree_of es)) (sym (only_item by expr one is)) (no_list schema expr other)

pub names_counted : (schema : Columns) (by : List Expr) (expr : Expr) (names : _) → length by ≡ 1 → expr ≡ get_or by 0 expr → expr ≡ ListOfNames names → keys_served schema (map tree_of by) ≡ replicate (length names.items) 1
names_counted schema by expr names one is listed =
    ap (λ es. keys_served schema (map tree_of es)) (only_item by expr one is ∙ ap (λ e. e ∷ []) listed) ∙ ones names.items

-- ---- expressions that are expanded one by one

pub one_found : (answer : Result (List Expression) ErrorKind) (trees : List Expression) → joined (with_kinds answer) (Ok []) ≡ Ok trees → answer ≡ Ok trees
one_found (Ok found) trees h = let same : found ++ [] ≡ trees = cc in ap Ok (sym (append-nil found) ∙ same)
one_found (Err kind) trees h = absurd cc

only_kind : (own kind : ErrorKind) → Contains (own ∷ []) kind → own ≡ kind
only_kind own kind (zero, within, is) = is
only_kind own kind (suc n, within, is) = absurd (omega (arith, within))

pub one_refused : (answer : Result (List Expression) ErrorKind) (error : PlanError) → IsUnexpanded (joined (with_kinds answer) (Ok [])) error → IsRefusal answer error
one_refused answer error (no_place e) = short e
one_refused (Ok found) error (unexpanded kinds kind told by among) = absurd cc
one_refused (Err own) error (unexpanded kinds kind told by among) =
    let same : own ∷ [] ≡ kinds = cc in
    broken kind told (ap Err (only_kind own kind (subst (λ l. Contains l kind) (sym same) among)))

-- one more number of keys
pub counted_more : (schema : Columns) (whole counts grown : List ℕ) (source : Source) (rest : List Source) (keys : List Expr) (n : ℕ) → whole ≡ counts ++ key_counts schema (source ∷ rest) → expansion [] schema source ≡ Ok (map plain_tree keys) → n ≡ length keys → grown ≡ counts ++ n ∷ [] → whole ≡ grown ++ key_counts schema rest
counted_more schema whole counts grown source rest keys n so_far found is put =
    let many : count_of (expansion [] schema source) ≡ n = ap count_of found ∙ length-map keys plain_tree ∙ sym is in
    so_far ∙ ap (λ k. counts ++ k ∷ key_counts schema rest) many ∙ sym (append_assoc counts (n ∷ []) (key_counts schema rest)) ∙ ap (λ l. l ++ key_counts schema rest) (sym put)

-- ---- flags

-- one flag more, as often as it serves
pub served_more : (counts : List ℕ) (flags whole : List Bool) (i n : ℕ) (flag : Bool) (served own grown : List Bool) → i < length counts → i < length flags → n ≡ get_or counts i n → flag ≡ get_or flags i flag → own ≡ replicate n flag → grown ≡ served ++ own → served ++ each_served (drop i counts) (drop i flags) ≡ whole → grown ++ each_served (drop (i + 1) counts) (drop (i + 1) flags) ≡ whole
served_more counts flags whole i n flag served own grown within also is_n is_flag made put so_far =
    let rest = each_served (drop (i + 1) counts) (drop (i + 1) flags) in
    ap (λ l. l ++ rest) (put ∙ ap (λ l. served ++ l) made) ∙ append_assoc served (replicate n flag) rest ∙ ap (λ l. served ++ l) (sym (pair_left each_served counts flags i n n flag flag within also is_n is_flag)) ∙ so_far

-- one list of flags: one for all stays, as many as are counted serve, and any other number is refused
module _ (counts : List ℕ) (flags : List Bool) where
  pub one_serves : length flags ≡ 1 → flags_served counts flags ≡ Ok flags
  one_serves one = ap (λ b. cond b (Ok flags) (cond (length flags == length counts) (Ok (each_served counts flags)) (Err (ComputeError ∷ [])))) (eq-eqb (length flags) 1 one)

  several : (length flags ≡ 1 → ⊥) → flags_served counts flags ≡ cond (length flags == length counts) (Ok (each_served counts flags)) (Err (ComputeError ∷ []))
  several many = ap (λ b. cond b (Ok flags) (cond (length flags == length counts) (Ok (each_served counts flags)) (Err (ComputeError ∷ [])))) (ne_eqb (length flags) 1 many)

  pub each_serves : (length flags ≡ 1 → ⊥) → length flags ≡ length counts → flags_served counts flags ≡ Ok (each_served counts flags)
  each_serves many same = several many ∙ ap (λ b. cond b (Ok (each_served counts flags)) (Err (ComputeError ∷ []))) (eq-eqb (length flags) (length counts) same)

  pub other_number : (error : PlanError) → (length flags ≡ 1 → ⊥) → (length flags ≡ length counts → ⊥) → error ≡ at_top ComputeError → IsUnexpanded (flags_served counts flags) error
  other_number error many other told =
      let refusal = several many ∙ ap (λ b. cond b (Ok (each_served counts flags)) (Err (ComputeError ∷ []))) (ne_eqb (length flags) (length counts) other) in
      unexpanded (ComputeError ∷ []) ComputeError told refusal (Contains-push [] ComputeError)

-- both lists of flags
module _ (counts : List ℕ) (options : SortMultipleOptions) where
  pub both_found : (down last : List Bool) → flags_served counts (falling options) ≡ Ok down → flags_served counts (nulls_behind options) ≡ Ok last → both_served counts (falling options) (nulls_behind options) ≡ Ok (down, last)
  both_found down last first second =
      ap (λ r. then_ok r (λ d. then_ok (flags_served counts (nulls_behind options)) (λ l. Ok (d, l)))) first ∙ ap (λ r. then_ok r (λ l. Ok (down, l))) second

  pub first_unserved : (error : PlanError) → IsUnexpanded (flags_served counts (falling options)) error → IsUnexpanded (both_served counts (falling options) (nulls_behind options)) error
  first_unserved error r = unexpanded_then (flags_served counts (falling options)) (λ d. then_ok (flags_served counts (nulls_behind options)) (λ l. Ok (d, l))) error r

  pub second_unserved : (down : List Bool) (error : PlanError) → flags_served counts (falling options) ≡ Ok down → IsUnexpanded (flags_served counts (nulls_behind options)) error → IsUnexpanded (both_served counts (falling options) (nulls_behind options)) error
  second_unserved down error first r =
      subst (λ r. IsUnexpanded {A = List Bool × List Bool} (then_ok r (λ d. then_ok (flags_served counts (nulls_behind options)) (λ l. Ok (d, l)))) error) (sym first) (unexpanded_then (flags_served counts (nulls_behind options)) (λ l. Ok (down, l)) error r)

-- ---- resolution

module _ (schema : Columns) (by : List Source) (options : SortMultipleOptions) where
  pub flags_unserved : (counts : List ℕ) (trees : List Expression) (error : PlanError) → expansions [] schema by ≡ Ok trees → counts ≡ keys_served schema by → IsUnexpanded (both_served counts (falling options) (nulls_behind options)) error → IsUnexpanded (expanded_over schema (sort_work options) (by ∷ [])) error
  flags_unserved counts trees error is are r =
      let flags = subst (λ cs. IsUnexpanded (both_served cs (falling options) (nulls_behind options)) error) are r in
      let own = sort_flags schema by (falling options) (nulls_behind options) in
      let work = unexpanded_then own (λ flags. Ok (SortWork flags.0 flags.1)) error flags in
      let whole = unexpanded_then (resolved_work schema (sort_work options) (by ∷ [])) (λ work. Ok (over_named (trees ∷ []) work)) error work in
      subst (λ r. IsUnexpanded (then_ok r (over_expanded (resolved_work schema (sort_work options) (by ∷ [])))) error) (sym (list_expanded schema by trees is)) whole

  pub keys_are : (counts : List ℕ) (trees : List Expression) (own : SortMultipleOptions) → expansions [] schema by ≡ Ok trees → counts ≡ keys_served schema by → both_served counts (falling options) (nulls_behind options) ≡ Ok (falling own, nulls_behind own) → HasKeys schema by options trees own
  keys_are counts trees own is are served =
      record { expanded = is; flags = ap (λ cs. both_served cs (falling options) (nulls_behind options)) (sym are) ∙ served }

-- ---- sorts as nodes

module _ (registry : Registry) (schema : Columns) (by : List Source) (options own : SortMultipleOptions) (trees : List Expression) (keys : HasKeys schema by options trees own) where
  flags_resolved : resolved_work schema (sort_work options) (by ∷ []) ≡ Ok (sort_work own)
  flags_resolved = ap (λ r. then_ok r (λ flags. Ok (SortWork flags.0 flags.1))) keys.flags

  -- a sort by what stands for its keys is a node over one input
  pub sort_at : (items : List AExpr) (plans : List IR) (n input : ℕ) (none columns : Columns) (nodes : List (Named ℕ)) → HasOutputs registry schema Order items trees nodes none → columns ≡ schema → slice_get (map plan_layer plans) n ≡ Some (layer (over_op (sort_work own) (nodes ∷ []) None) (input ∷ [])) → IsWorkAt registry schema items plans n input (sort_work options) (by ∷ []) columns
  sort_at items plans n input none columns nodes has copy item =
      let outputs = has.outputs in
      let many : length (lowered_names outputs) ≡ length trees = length-map outputs (λ (o : Lowered). name_of o.tree) ∙ sym (length-map outputs (λ (o : Lowered). o.tree)) ∙ ap length has.trees_are in
      let flags = ap (has_flags (falling own) (nulls_behind own)) many ∙ sorts_have_flags schema by (falling options) (nulls_behind options) trees (falling own, nulls_behind own) keys.expanded keys.flags in
      record {
        trees = trees ∷ [];
        expanded = list_expanded schema by trees keys.expanded;
        own = sort_work own;
        resolved = flags_resolved;
        outputs = outputs ∷ [];
        trees_are = ap (λ trees. trees ∷ []) has.trees_are;
        unbroken = record { each = (has.each, tt); types = append-nil _ ∙ has.types; kinds = ap (λ b. kind_where (not b) ComputeError) flags };
        whole = tt;
        columns_are = copy;
        nodes = nodes ∷ [];
        denote = (has.denotes, tt);
        below = input;
        nothing = λ e. absurd cc;
        something = λ e. refl;
        item = item;
      }

  -- and a refusal of its keys is one of a node over one input
  pub sort_refusal : (error : PlanError) → IsProjectionRefusal registry schema Order trees error → IsWorkRefusal registry schema (sort_work options) (by ∷ []) error
  sort_refusal error r =
      ⊎_elim (λ e. without_memory e) (λ a. against_a_rule (trees ∷ []) (sort_work own) a.0 (list_expanded schema by trees keys.expanded) flags_resolved a.1 a.2) (types_against registry schema (sort_work own) Order (λ before name typed. refl) trees error r)
