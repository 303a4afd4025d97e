use Rattle.std.proofs.Common.{◌≡◌, [], codes, refl, sym, ap, subst}
use Rattle.plan_types.specs.Errors.{IsRefusal, at_top, no_room, broken}
use Rattle.plan_types.specs.declared.error.PlanError.{PlanError}
use Rattle.plan_types.specs.declared.error.ErrorKind.TheVariants.{ColumnNotFound, NoMemory, SchemaMismatch}
use Rattle.plan_dsl.specs.Ops.{ColumnOp}
use Rattle.plan_dsl.specs.Typing.{typing}
use Rattle.plan_infer.specs.Samples.{int8, one_column, a}
use Rattle.plan_infer.proofs.ItemTreeLemmas.{leaf_item}
use Rattle.plan_infer.proofs.examples.fields.refusals_of_items.Goals as goal

pub returns-clause-no_such_column : goal.returns-clause-no_such_column
returns-clause-no_such_column c = λ t d.
    subst (λ t. IsRefusal (typing [] [] t) (at_top ColumnNotFound)) (sym (leaf_item [] (ColumnOp (codes "a")) t d)) (broken ColumnNotFound refl refl)

pub returns-clause-memory : goal.returns-clause-memory
returns-clause-memory c = λ t d. no_room refl

other_kind : IsRefusal (typing [] [] a) (at_top SchemaMismatch) → ⊥
other_kind (no_room e) = let told : SchemaMismatch ≡ NoMemory = ap (λ (error : PlanError). error.kind) e in cc
other_kind (broken kind e f) = let told : SchemaMismatch ≡ kind = ap (λ (error : PlanError). error.kind) e in cc

is_typed : IsRefusal (typing [] (one_column int8) a) (at_top ColumnNotFound) → ⊥
is_typed (no_room e) = let told : ColumnNotFound ≡ NoMemory = ap (λ (error : PlanError). error.kind) e in cc
is_typed (broken kind e f) = cc

pub returns-clause-other_kind : goal.returns-clause-other_kind
returns-clause-other_kind c = λ is. other_kind (is a (refl, tt))

pub returns-clause-typed : goal.returns-clause-typed
returns-clause-typed c = λ is. is_typed (is a (refl, tt))
