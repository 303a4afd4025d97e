use Rattle.std.proofs.Common.{◌≡◌, [], refl, ap, subst}
use Rattle.plan_types.specs.Errors.{IsRefusal, at_top, broken, no_room}
use Rattle.plan_types.specs.declared.error.PlanError.{PlanError}
use Rattle.plan_types.specs.declared.error.ErrorKind.TheVariants.{ColumnNotFound, NoMemory, SchemaMismatch, InvalidOperation}
use Rattle.plan_dsl.specs.Typing.{typing}
use Rattle.plan_infer.specs.Samples.{a, a_items, int8, one_column}
use Rattle.plan_infer.proofs.ExampleLemmas.{one_expression}
use Rattle.plan_infer.proofs.examples.types.refusals_of_expressions.Goals as goal

pub returns-clause-no_such_column : goal.returns-clause-no_such_column
returns-clause-no_such_column c = (broken ColumnNotFound refl refl, tt)

pub returns-clause-texts_and_times : goal.returns-clause-texts_and_times
returns-clause-texts_and_times c = (broken InvalidOperation refl refl, (broken InvalidOperation refl refl, (broken InvalidOperation refl refl, (broken InvalidOperation refl refl, (broken InvalidOperation refl refl, (broken InvalidOperation refl refl, tt))))))

pub returns-clause-lists : goal.returns-clause-lists
returns-clause-lists c = (broken InvalidOperation refl refl, (broken InvalidOperation refl refl, (broken InvalidOperation refl refl, (broken InvalidOperation refl refl, tt))))

pub returns-clause-structs : goal.returns-clause-structs
returns-clause-structs c = (broken InvalidOperation refl refl, (broken InvalidOperation refl refl, tt))

pub returns-clause-windows : goal.returns-clause-windows
returns-clause-windows c = (broken InvalidOperation refl refl, (broken InvalidOperation refl refl, (broken InvalidOperation refl refl, tt)))

pub returns-clause-no_common_type : goal.returns-clause-no_common_type
returns-clause-no_common_type c = (broken SchemaMismatch refl refl, (broken SchemaMismatch refl refl, (broken SchemaMismatch refl refl, tt)))

pub returns-clause-of_a_node : goal.returns-clause-of_a_node
returns-clause-of_a_node c = λ t d. subst (λ t. IsRefusal (typing [] [] t) (at_top ColumnNotFound)) (one_expression a_items 0 a t ([], refl, tt) d) (broken ColumnNotFound refl refl)

typed : IsRefusal (typing [] (one_column int8) a) (at_top ColumnNotFound) → ⊥
typed (no_room e) = let told : ColumnNotFound ≡ NoMemory = ap (λ (error : PlanError). error.kind) e in cc
typed (broken kind e f) = cc

pub returns-clause-of_a_typed_node : goal.returns-clause-of_a_typed_node
returns-clause-of_a_typed_node c = λ is. typed (is a ([], refl, tt))
