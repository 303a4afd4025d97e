-- Fields at a place and their names.
use Rattle.std.proofs.Common.{◌≡◌, ℕ, suc, zero, ℤ, pos, negsuc, List, [], ◌∷◌, ◌++◌, map, length, slice_get, Option, Some, None, true, false, cond, Result, Ok, Err, refl, sym, ap, ◌∙◌}
use Rattle.std.specs.Option.{ok_or}
use Rattle.plan_types.specs.Errors.{IsRefusal, no_room, broken}
use Rattle.plan_types.specs.Schemas.{Name, Columns, type_at}
use Rattle.plan_types.specs.Types.{ty, fields_in, StructType}
use Rattle.plan_types.specs.declared.dtype.DataType.{DataType, Struct}
use Rattle.plan_types.specs.declared.dtype.Fields.{Fields as StructFields}
use Rattle.plan_types.specs.declared.field.Field.{Field}
use Rattle.plan_types.specs.declared.error.ErrorKind.{ErrorKind}
use Rattle.plan_types.specs.declared.error.ErrorKind.TheVariants.{InvalidOperation}
use Rattle.plan_types.specs.declared.error.PlanError.{PlanError}
use Rattle.plan_dsl.specs.Expansion.{all_fields_named, all_markers_in, column_field, field_at, field_from, field_named, field_names, fields_named, is_marker, markers_in, with_column_put, all_with_column_put}
use Rattle.plan_dsl.specs.Expressions.{tree_of}
use Rattle.plan_dsl.specs.Ops.{ColumnOp}
use Rattle.plan_dsl.specs.Refusals.{then_ok, each_ok}
use Rattle.plan_dsl.specs.Slices.{slice_start}
use Rattle.plan_dsl.specs.Sources.{Plain, FieldAtOp, Source, SourceOp}
use Rattle.plan_dsl.specs.Trees.{Trees, node, no_more, more, children_from, top_op}
use Rattle.plan_dsl.specs.declared.expr.Expr.{Expr, Column}
use Rattle.plan_dsl.specs.declared.expr.Expr.TheVariants.{Function'}
use Rattle.plan_dsl.specs.declared.function_expr.FunctionExpr.TheVariants.{FieldByIndex}
use Rattle.plan_expand.specs.Changes.{only_column, own_field_named}
use Rattle.plan_expand.specs.Names.{as_number}
use Rattle.plan_expand.specs.Walks.{below, children_of}
use Rattle.plan_expand.proofs.ChangeLemmas.{children_again}

-- ---- markers are no fields

-- where an expression has no marker, none of its operands has one
both_empty : {A : Type 0} (xs ys : List A) → xs ++ ys ≡ [] → (xs ≡ []) × (ys ≡ [])
both_empty [] ys none = (refl, none)
both_empty (x ∷ xs) ys none = absurd cc

below_unmarked : (children : Trees SourceOp) (place : ℕ) (operand : Source) → all_markers_in children ≡ [] → Some operand ≡ slice_get (children_of children) place → markers_in operand ≡ []
below_unmarked no_more place operand none at = absurd cc
below_unmarked (more child rest) zero operand none at = let same : operand ≡ child = cc in ap markers_in same ∙ (both_empty (markers_in child) (all_markers_in rest) none).0
below_unmarked (more child rest) (suc place) operand none at = below_unmarked rest place operand (both_empty (markers_in child) (all_markers_in rest) none).1 at

pub operand_unmarked : (source : Source) (place : ℕ) (operand : Source) → is_marker (top_op source) ≡ false → markers_in source ≡ [] → Some operand ≡ slice_get (below source) place → markers_in operand ≡ []
operand_unmarked (node op children) place operand marks none at = below_unmarked children place operand (sym (ap (λ b. cond b (node op children ∷ []) (all_markers_in children)) marks) ∙ none) at

-- a column in place of all markers leaves none
mutual
  pub unmarked_put : (name : Name) (source : Source) → markers_in (with_column_put name source) ≡ []
  unmarked_put name (node op children) =
      elim (is_marker op) as (λ b. is_marker op ≡ b → markers_in (cond b (node (Plain (ColumnOp name)) no_more) (node op (all_with_column_put name children))) ≡ []) [ true ↦ λ e. refl | false ↦ λ e. ap (λ b. cond b (node op (all_with_column_put name children) ∷ []) (all_markers_in (all_with_column_put name children))) e ∙ all_unmarked_put name children ] refl

  all_unmarked_put : (name : Name) (children : Trees SourceOp) → all_markers_in (all_with_column_put name children) ≡ []
  all_unmarked_put name no_more = refl
  all_unmarked_put name (more child rest) = λ i. unmarked_put name child i ++ all_unmarked_put name rest i

-- ---- operand by operand

all_named : (schema : Columns) (children : Trees SourceOp) → all_fields_named schema children ≡ then_ok (each_ok (fields_named schema) (children_of children)) (λ l. Ok (children_from l))
all_named schema no_more = refl
all_named schema (more child rest) =
    elim (fields_named schema child) as (λ r. then_ok r (λ first. then_ok (all_fields_named schema rest) (λ others. Ok (more first others))) ≡ then_ok (then_ok r (λ found. then_ok (each_ok (fields_named schema) (children_of rest)) (λ others. Ok (found ∷ others)))) (λ l. Ok (children_from l))) [
      | Err kind ↦ refl
      | Ok first ↦
          ap (λ r. then_ok r (λ others. Ok (more first others))) (all_named schema rest)
          ∙ elim (each_ok (fields_named schema) (children_of rest)) as (λ r. then_ok (then_ok r (λ l. Ok (children_from l))) (λ others. Ok (more first others)) ≡ then_ok (then_ok r (λ others. Ok (first ∷ others))) (λ l. Ok (children_from l))) [ Ok others ↦ refl | Err kind ↦ refl ]
    ]

named_by_each : (schema : Columns) (op : SourceOp) (children : Trees SourceOp) → fields_named schema (node op children) ≡ then_ok (then_ok (each_ok (fields_named schema) (children_of children)) (λ l. Ok (children_from l))) (field_named schema op)
named_by_each schema op children = ap (λ r. then_ok r (field_named schema op)) (all_named schema children)

pub operands_refused : (schema : Columns) (source : Source) (error : PlanError) → IsRefusal (each_ok (fields_named schema) (below source)) error → IsRefusal (fields_named schema source) error
operands_refused schema (node op children) error (no_room e) = no_room e
operands_refused schema (node op children) error (broken kind told by) =
    broken kind told (named_by_each schema op children ∙ ap (λ r. then_ok (then_ok r (λ l. Ok (children_from l))) (field_named schema op)) by)

pub own_then : (schema : Columns) (source now : Source) → (each_ok (fields_named schema) (below source) ≡ Ok (below now)) × (top_op now ≡ top_op source) → fields_named schema source ≡ own_field_named schema now
own_then schema (node op children) (node own others) (each, same) =
    named_by_each schema op children ∙ ap (λ r. then_ok (then_ok r (λ l. Ok (children_from l))) (field_named schema op)) each
    ∙ (λ i. field_named schema (sym same i) (children_again others i))

-- ---- a field at a place

by_column : Columns → ℤ → Option Name → Result Source ErrorKind
by_column schema place None = Err InvalidOperation
by_column schema place (Some column) = then_ok (field_at (type_at schema column) place) (λ field. Ok (column_field column field))

named_by_column : (schema : Columns) (place : ℤ) (sources : List Source) → field_named schema (FieldAtOp place) (children_from sources) ≡ by_column schema place (only_column sources)
unfolding by_column
named_by_column schema place (node (Plain (ColumnOp name)) no_more ∷ []) = refl
named_by_column schema place _ = refl

module _ (schema : Columns) (place : ℤ) (sources : List Source) where
  pub no_only_column : None ≡ only_column sources → field_named schema (FieldAtOp place) (children_from sources) ≡ Err InvalidOperation
  unfolding by_column
  no_only_column none = named_by_column schema place sources ∙ ap (by_column schema place) (sym none)

  only_named : (column : Name) → Some column ≡ only_column sources → field_named schema (FieldAtOp place) (children_from sources) ≡ then_ok (field_at (type_at schema column) place) (λ field. Ok (column_field column field))
  unfolding by_column
  only_named column some = named_by_column schema place sources ∙ ap (by_column schema place) (sym some)

  pub unnamed_field : (column : Name) (error : PlanError) → Some column ≡ only_column sources → IsRefusal (field_at (type_at schema column) place) error → IsRefusal (field_named schema (FieldAtOp place) (children_from sources)) error
  unnamed_field column error some (no_room e) = no_room e
  unnamed_field column error some (broken kind told by) = broken kind told (only_named column some ∙ ap (λ r. then_ok r (λ field. Ok (column_field column field))) by)

  pub named_field : (column field : Name) (made : Source) → Some column ≡ only_column sources → field_at (type_at schema column) place ≡ Ok field → made ≡ column_field column field → field_named schema (FieldAtOp place) (children_from sources) ≡ Ok made
  named_field column field made some found is = only_named column some ∙ ap (λ r. then_ok r (λ field. Ok (column_field column field))) found ∙ ap Ok (sym is)

-- the only one of some
pub only_one : (exprs : List Expr) (expr : Expr) → exprs ≡ expr ∷ [] → ((name : Name) → expr ≡ Column name → ⊥) → only_column (map tree_of exprs) ≡ None
only_one exprs expr is other = ap (λ l. only_column (map tree_of l)) is ∙ no_column expr other
  where
    no_column : (expr : Expr) → ((name : Name) → expr ≡ Column name → ⊥) → only_column (tree_of expr ∷ []) ≡ None
    no_column (Column name) other = absurd (other name refl)
    no_column (Function' shape input (FieldByIndex place)) other = refl
    no_column _ other = refl

-- ---- the field of a type

names_listed : (fields : List Field) → field_names (fields_in fields) ≡ map (λ field. field.name) fields
names_listed [] = refl
names_listed (field ∷ fields) = ap (λ l. field.name ∷ l) (names_listed fields)

pub no_struct : (dtype : DataType) (place : ℤ) → ((fields : StructFields) → dtype ≡ Struct fields → ⊥) → field_at (Some (ty dtype)) place ≡ Err InvalidOperation
no_struct (Struct fields) place other = absurd (other fields refl)
no_struct _ place other = refl

names_length : (fields : List Field) → length (map (λ field. field.name) fields) ≡ length fields
names_length [] = refl
names_length (field ∷ fields) = ap suc (names_length fields)

module _ (dtype : DataType) (items : List Field) (is : ty dtype ≡ StructType (fields_in items)) (place : ℤ) where
  from_names : field_at (Some (ty dtype)) place ≡ field_from (map (λ field. field.name) items) (slice_start place (length items))
  from_names =
      ap (λ t. field_at (Some t) place) is
      ∙ (λ i. field_from (names_listed items i) (slice_start place (length (names_listed items i))))
      ∙ ap (λ n. field_from (map (λ field. field.name) items) (slice_start place n)) (names_length items)

  by_number : (names : List Name) (start : ℤ) (number : ℕ) → Some number ≡ as_number start → field_from names start ≡ ok_or (slice_get names number) InvalidOperation
  by_number names (pos own) number is = let same : number ≡ own = cc in ap (λ n. ok_or (slice_get names n) InvalidOperation) (sym same)
  by_number names (negsuc before) number is = absurd cc

  no_number : (names : List Name) (start : ℤ) → None ≡ as_number start → field_from names start ≡ Err InvalidOperation
  no_number names (pos own) is = absurd cc
  no_number names (negsuc before) is = refl

  pub out_of_range : None ≡ as_number (slice_start place (length items)) → Err InvalidOperation ≡ field_at (Some (ty dtype)) place
  out_of_range none = sym (from_names ∙ no_number _ _ none)

  pub at_number : (number : ℕ) (found : Option Name) → Some number ≡ as_number (slice_start place (length items)) → found ≡ slice_get (map (λ field. field.name) items) number → ok_or found InvalidOperation ≡ field_at (Some (ty dtype)) place
  at_number number found some is = ap (λ f. ok_or f InvalidOperation) is ∙ sym (from_names ∙ by_number _ _ number some)
