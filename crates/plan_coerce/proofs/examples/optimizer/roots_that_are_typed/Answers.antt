use Rattle.std.proofs.Common.{◌≡◌, [], ◌∷◌, Ok, Err, pos, true, false, refl, ap, subst, arith}
use Rattle.plan_types.specs.Types.{Untyped, is_known}
use Rattle.plan_types.specs.declared.error.ErrorKind.TheVariants.{ColumnNotFound}
use Rattle.plan_dsl.specs.declared.literal.LiteralValue.TheVariants.{Int}
use Rattle.plan_dsl.specs.Typing.{Typed, typing}
use Rattle.plan_dsl.proofs.TypingLemmas.{ok_same}
use Rattle.plan_arena.specs.declared.aexpr.AExpr.TheVariants.{Literal}
use Rattle.plan_infer.specs.Samples.{int8, int32, of_type, of_one, a, five, sum, sum_items, a_items}
use Rattle.plan_coerce.proofs.ExampleLemmas.{any_settled, no_node, one_denoted, sum_denotes}
use Rattle.plan_coerce.proofs.SettledLemmas.{settled_no_number}
use Rattle.plan_coerce.proofs.examples.optimizer.roots_that_are_typed.Goals as goal

pub returns-clause-sum : goal.returns-clause-sum
returns-clause-sum c = record { tree = sum; denotes = sum_denotes; typed = of_type int32; is = refl; known = λ settles. refl }

pub returns-clause-number : goal.returns-clause-number
returns-clause-number c = λ root.
    let is = subst (λ t. typing [] [] t ≡ Ok root.typed) (one_denoted (Literal (Int (pos 5)) ∷ []) 0 root.tree five root.denotes ([], refl, tt)) root.is in
    let known : false ≡ true = subst (λ (t : Typed). is_known t.type ≡ true) (ok_same (typing [] [] five) root.typed (of_one (Untyped (pos 5))) is refl) (root.known (settled_no_number [] [])) in
    cc

pub returns-clause-number_of_another_rule : goal.returns-clause-number_of_another_rule
returns-clause-number_of_another_rule c = record { tree = five; denotes = ([], refl, tt); typed = of_one (Untyped (pos 5)); is = refl; known = λ settles. absurd (any_settled settles) }

pub returns-clause-no_such_column : goal.returns-clause-no_such_column
returns-clause-no_such_column c = λ root.
    let is : Err ColumnNotFound ≡ Ok root.typed = subst (λ t. typing [] [] t ≡ Ok root.typed) (one_denoted a_items 0 root.tree a root.denotes ([], refl, tt)) root.is in
    cc

pub returns-clause-no_such_node : goal.returns-clause-no_such_node
returns-clause-no_such_node c = λ root. no_node sum_items 3 root.tree (omega arith) root.denotes

pub returns-clause-all : goal.returns-clause-all
returns-clause-all c = (
  record { tree = sum; denotes = sum_denotes; typed = of_type int32; is = refl; known = λ settles. refl },
  (record { tree = a; denotes = ([], refl, tt); typed = of_type int8; is = refl; known = λ settles. refl }, tt),
)

pub returns-clause-not_all : goal.returns-clause-not_all
returns-clause-not_all c = λ all. no_node sum_items 3 all.1.0.tree (omega arith) all.1.0.denotes

pub returns-clause-number_has_a_typing : goal.returns-clause-number_has_a_typing
returns-clause-number_has_a_typing c = λ t d.
    (of_one (Untyped (pos 5)), ap (typing [] []) (one_denoted (Literal (Int (pos 5)) ∷ []) 0 t five d ([], refl, tt)))

pub returns-clause-column_has_none : goal.returns-clause-column_has_none
returns-clause-column_has_none c = λ has.
    let found = has a ([], refl, tt) in
    let differs : Err ColumnNotFound ≡ Ok found.0 = found.1 in
    cc
