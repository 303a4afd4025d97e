use Rattle.std.proofs.Common.{◌≡◌, ℕ, suc, zero, List, [], ◌∷◌, Ok, pos, true, false, inl, refl, sym, ap, subst, arith, ◌∙◌, ⊎_elim}
use Rattle.plan_types.specs.Types.{Untyped, is_known, same_type}
use Rattle.plan_dsl.specs.declared.literal.LiteralValue.TheVariants.{Int8, Int32}
use Rattle.plan_dsl.specs.Literals.{settled as with_own_type}
use Rattle.plan_dsl.specs.Typing.{Typed, typing}
use Rattle.plan_dsl.proofs.TypingLemmas.{ok_same}
use Rattle.plan_arena.specs.declared.aexpr.AExpr.{AExpr}
use Rattle.plan_arena.specs.declared.aexpr.AExpr.TheVariants.{Literal}
use Rattle.plan_arena.specs.Denotation.{Denotes}
use Rattle.plan_arena.specs.Items.{HoldsExpression}
use Rattle.plan_infer.specs.Samples.{int8, int32, two_columns, of_type, of_one, a, five, literal, sum, sum_items}
use Rattle.plan_coerce.specs.Optimizer.{EndsTyped, IsSettled, StaysLikeBeside}
use Rattle.plan_coerce.specs.Rules.{HasSameWritten, is_settled}
use Rattle.plan_coerce.proofs.ExampleLemmas.{no_column_root, no_column_typed, no_node, none_beside, number_alone, number_denotes, number_items, number_root, one_denoted, same_tree, sum_denotes}
use Rattle.plan_coerce.proofs.SettledLemmas.{settled_no_number}
use Rattle.plan_coerce.proofs.examples.optimizer.roots_that_are_numbers.Goals as goal

pub returns-clause-number : goal.returns-clause-number
returns-clause-number c = number_root

pub returns-clause-column : goal.returns-clause-column
returns-clause-column c = λ r.
    let is = subst (λ t. typing [] two_columns t ≡ Ok (record { type = Untyped r.number; many = r.many })) (one_denoted sum_items 0 r.tree a r.denotes ([], refl, tt)) r.is in
    let known : true ≡ false = ap (λ (t : Typed). is_known t.type) (ok_same (typing [] two_columns a) (of_type int8) (record { type = Untyped r.number; many = r.many }) refl is) in
    cc

pub returns-clause-no_such_column : goal.returns-clause-no_such_column
returns-clause-no_such_column c = λ r. no_column_typed r.tree (record { type = Untyped r.number; many = r.many }) r.denotes r.is

pub returns-clause-alone : goal.returns-clause-alone
returns-clause-alone c = number_alone

pub returns-clause-twice : goal.returns-clause-twice
returns-clause-twice c = λ roots. roots.apart [] (0 ∷ []) 0 refl number_root 0 (inl refl) (record { steps = 0; path = inl refl })

pub returns-clause-typed : goal.returns-clause-typed
returns-clause-typed c = record {
  each = (inl (record { tree = sum; denotes = sum_denotes; typed = of_type int32; is = refl; known = λ settles. refl }), tt);
  apart = λ front back m is number n among reaches. none_beside 2 front back m is n among;
}

pub returns-clause-not_typed : goal.returns-clause-not_typed
returns-clause-not_typed c = no_column_root

abbrev typed_items : List AExpr
typed_items = Literal (Int32 (pos 5)) ∷ []

ends : EndsTyped (is_settled [] []) (HasSameWritten [] []) [] [] typed_items 0 five
ends = record { tree = literal int32 (pos 5); denotes = ([], refl, tt); each = (refl, tt); like = inl (record { same = record { typing = refl; name = refl; meaning = λ rows is numbers within. refl }; relates = refl }) }

pub returns-clause-ends_typed : goal.returns-clause-ends_typed
returns-clause-ends_typed c = ends

-- five is a number of 32 bits
other_type : EndsTyped (is_settled [] []) (HasSameWritten [] []) [] [] (Literal (Int8 (pos 5)) ∷ []) 0 five → ⊥
other_type e =
    let same = one_denoted (Literal (Int8 (pos 5)) ∷ []) 0 e.tree (literal int8 (pos 5)) e.denotes ([], refl, tt) in
    ⊎_elim
    (λ like.
    let is = subst (λ t. typing [] [] t ≡ typing [] [] (with_own_type five)) same like.same.typing in
    let types = ok_same (typing [] [] (literal int8 (pos 5))) (of_one int8) (of_one int32) refl is in
    let differs : true ≡ false = ap (λ (t : Typed). same_type int8 t.type) types in
    cc)
    (λ as_it_was.
    let is : literal int8 (pos 5) ≡ five = sym same ∙ as_it_was in
    cc)
    e.like

pub returns-clause-other_type : goal.returns-clause-other_type
returns-clause-other_type c = other_type

without_a_type : EndsTyped (is_settled [] []) (HasSameWritten [] []) [] [] number_items 0 five → ⊥
without_a_type e =
    let each = subst (IsSettled (is_settled [] [])) (one_denoted number_items 0 e.tree five e.denotes number_denotes) e.each in
    let top : false ≡ true = each.0 in
    cc

pub returns-clause-without_a_type : goal.returns-clause-without_a_type
returns-clause-without_a_type c = without_a_type

pub returns-clause-ends_settled : goal.returns-clause-ends_settled
returns-clause-ends_settled c = record {
  each = record { tree = literal int32 (pos 5); denotes = ([], refl, tt); each = (refl, tt) };
  number = λ number many t d is. subst (EndsTyped (is_settled [] []) (HasSameWritten [] []) [] [] typed_items 0) (one_denoted number_items 0 five t number_denotes d) ends;
}

pub returns-clause-ends_with_other_type : goal.returns-clause-ends_with_other_type
returns-clause-ends_with_other_type c = λ e. other_type (e.number (pos 5) false five number_denotes refl)

only_root : (m n : ℕ) → m ∷ [] ≡ n ∷ [] → m ≡ n
only_root m n e = cc

pub returns-clause-typed_alone : goal.returns-clause-typed_alone
returns-clause-typed_alone c = λ root number many t settles is d typed.
    let at = only_root 0 root is in
    subst (λ n. EndsTyped (is_settled [] []) (HasSameWritten [] []) [] [] typed_items n t) at
    (subst (EndsTyped (is_settled [] []) (HasSameWritten [] []) [] [] typed_items 0) (one_denoted number_items 0 five t number_denotes (subst (λ n. Denotes (HoldsExpression number_items) n t) (sym at) d)) ends)

pub returns-clause-left_alone : goal.returns-clause-left_alone
returns-clause-left_alone c = λ types. without_a_type (types 0 (pos 5) false five (settled_no_number [] []) refl number_denotes refl)

beside : StaysLikeBeside (HasSameWritten [] []) [] [] number_items typed_items (0 ∷ [])
beside zero t d apart = absurd (apart 0 (inl refl) number_root (record { steps = 0; path = inl refl }))
beside (suc n) t d apart = absurd (no_node number_items (suc n) t (omega arith) d)

pub returns-clause-beside : goal.returns-clause-beside
returns-clause-beside c = beside

pub returns-clause-no_root : goal.returns-clause-no_root
returns-clause-no_root c = λ stays.
    let same = same_tree (HasSameWritten [] []) [] [] typed_items 0 five (literal int32 (pos 5)) (stays 0 five number_denotes (λ m none. absurd none)) ([], refl, tt) in
    let types = ok_same (typing [] [] five) (of_one (Untyped (pos 5))) (of_one int32) refl (sym same.typing) in
    let known : false ≡ true = ap (λ (t : Typed). is_known t.type) types in
    cc
