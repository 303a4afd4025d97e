use Rattle.std.proofs.Common.{◌≡◌, suc, zero, [], ◌∷◌, None, Some, pos, true, false, inl, refl, sym, ap, arith}
use Rattle.plan_types.specs.Types.{Untyped, is_known, same_type}
use Rattle.plan_dsl.specs.declared.literal.LiteralValue.TheVariants.{Int32}
use Rattle.plan_dsl.specs.Typing.{Typed, typing}
use Rattle.plan_dsl.proofs.TypingLemmas.{ok_same}
use Rattle.plan_arena.specs.declared.aexpr.AExpr.TheVariants.{Literal}
use Rattle.plan_infer.specs.Samples.{int8, int32, two_columns, of_type, of_one, a, a_items, five, literal}
use Rattle.plan_coerce.specs.Optimizer.{StaysLikeTyped}
use Rattle.plan_coerce.specs.Rules.{HasSameWritten, is_settled}
use Rattle.plan_coerce.proofs.ExampleLemmas.{any_settled, no_column_typed, no_node, number_denotes, number_items, number_root, same_tree}
use Rattle.plan_coerce.proofs.SettledLemmas.{settled_no_number}
use Rattle.plan_coerce.proofs.examples.optimizer.nodes_beside_other_roots.Goals as goal

not_typed : StaysLikeTyped (is_settled [] []) (HasSameWritten [] []) (Some 1) [] [] a_items (Literal (Int32 (pos 5)) ∷ []) (0 ∷ [])
not_typed zero t typed d h apart = absurd (no_column_typed t typed d h)
not_typed (suc n) t typed d h apart = absurd (no_node a_items (suc n) t (omega arith) d)

pub returns-clause-not_typed : goal.returns-clause-not_typed
returns-clause-not_typed c = not_typed

pub returns-clause-typed : goal.returns-clause-typed
returns-clause-typed c = λ stays.
    let now = stays 0 a (of_type int8) ([], refl, tt) refl (λ none m among. absurd among) in
    let same = same_tree (HasSameWritten [] two_columns) [] two_columns (Literal (Int32 (pos 5)) ∷ []) 0 a (literal int32 (pos 5)) now ([], refl, tt) in
    let types = ok_same (typing [] two_columns a) (of_type int8) (of_one int32) refl (sym same.typing) in
    let differs : true ≡ false = ap (λ (t : Typed). same_type int8 t.type) types in
    cc

number : StaysLikeTyped (is_settled [] []) (HasSameWritten [] []) (Some 1) [] [] number_items (Literal (Int32 (pos 5)) ∷ []) (0 ∷ [])
number zero t typed d h apart = absurd ((apart (settled_no_number [] []) 0 (inl refl) number_root).2 (record { steps = 0; path = inl refl }))
number (suc n) t typed d h apart = absurd (no_node number_items (suc n) t (omega arith) d)

pub returns-clause-number : goal.returns-clause-number
returns-clause-number c = number

pub returns-clause-number_of_another_rule : goal.returns-clause-number_of_another_rule
returns-clause-number_of_another_rule c = λ stays.
    let now = stays 0 five (of_one (Untyped (pos 5))) number_denotes refl (λ settles m among root. absurd (any_settled settles)) in
    let same = same_tree (HasSameWritten [] []) [] [] (Literal (Int32 (pos 5)) ∷ []) 0 five (literal int32 (pos 5)) now ([], refl, tt) in
    let types = ok_same (typing [] [] five) (of_one (Untyped (pos 5))) (of_one int32) refl (sym same.typing) in
    let known : false ≡ true = ap (λ (t : Typed). is_known t.type) types in
    cc

pub returns-clause-leads : goal.returns-clause-leads
returns-clause-leads c = λ leads. (leads (settled_no_number [] []) 0 (inl refl) number_root).2 (record { steps = 0; path = inl refl })

pub returns-clause-without_turns : goal.returns-clause-without_turns
returns-clause-without_turns c = λ leads.
    let found = leads (settled_no_number [] []) 0 (inl refl) number_root in
    let some : None ≡ Some found.0 = found.1 in
    cc

pub returns-clause-no_root : goal.returns-clause-no_root
returns-clause-no_root c = λ settles m among. absurd among
