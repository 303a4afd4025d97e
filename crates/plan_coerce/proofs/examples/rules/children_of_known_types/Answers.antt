use Rattle.std.proofs.Common.{◌≡◌, [], Ok, Err, pos, true, refl, ap}
use Rattle.std.proofs.lemmas.Bool.{false≢true}
use Rattle.plan_types.specs.Types.{Untyped, is_known}
use Rattle.plan_types.specs.declared.error.ErrorKind.TheVariants.{ColumnNotFound}
use Rattle.plan_dsl.specs.Typing.{Typed, typing}
use Rattle.plan_dsl.proofs.TypingLemmas.{ok_same}
use Rattle.plan_infer.specs.Samples.{int8, two_columns, a, of_one, of_type}
use Rattle.plan_coerce.proofs.examples.rules.children_of_known_types.Goals as goal

pub returns-clause-column : goal.returns-clause-column
returns-clause-column c = (λ typed is. ap (λ (t : Typed). is_known t.type) (ok_same (typing [] two_columns a) typed (of_type int8) is refl), tt)

pub returns-clause-number : goal.returns-clause-number
returns-clause-number c = λ known. false≢true (known.1.0 (of_one (Untyped (pos 5))) refl)

no_typing : (typed : Typed) → typing [] [] a ≡ Ok typed → is_known typed.type ≡ true
no_typing typed h =
    let is : Err ColumnNotFound ≡ Ok typed = h in
    cc

pub returns-clause-no_such_column : goal.returns-clause-no_such_column
returns-clause-no_such_column c = (no_typing, tt)

pub returns-clause-number_beside : goal.returns-clause-number_beside
returns-clause-number_beside c = λ known. false≢true (known.1.0 (of_one (Untyped (pos 5))) refl)
