use Rattle.std.proofs.Common.{◌≡◌, ◌≤◌, ◌+◌, ◌*◌, ℕ, ℤ, Bool, zero, suc, List, [], ◌∷◌, Ok, Some, true, false, length, refl, sym, ap, subst, arith, inl, inr, ◌∙◌}
use Rattle.plan_types.specs.Types.{Untyped, is_known}
use Rattle.plan_dsl.specs.declared.operator.Operator.TheVariants.{Plus}
use Rattle.plan_dsl.specs.Ops.{Op, BinaryOp, Expression}
use Rattle.plan_dsl.specs.Trees.{no_more, more}
use Rattle.plan_dsl.specs.Typing.{Typed, typing}
use Rattle.plan_dsl.proofs.TypingLemmas.{ok_same}
use Rattle.plan_arena.specs.Denotation.{Denotes}
use Rattle.plan_arena.specs.Items.{HoldsExpression}
use Rattle.plan_infer.proofs.TableLemmas.{extends_itself, right_start}
use Rattle.plan_infer.specs.declared.type_table.TypeTable.{TypeTable}
use Rattle.plan_infer.specs.Samples.{int8, int32, two_columns, of_type, a, b, sum, sum_items}
use Rattle.plan_coerce.specs.CoercedLaws.{coercion_congruent}
use Rattle.plan_coerce.specs.CoercionRule.{IsCoercion}
use Rattle.plan_coerce.specs.Optimizer.{DenotesLike, DenotesSettled, EndsSettled, IsSettled, HasTyping, IsTypedRoot, LoopLeaves, StaysFinite}
use Rattle.plan_coerce.specs.Reaching.{IsReached, Near}
use Rattle.plan_coerce.specs.Rules.{KeepsNone, is_settled}
use Rattle.plan_coerce.specs.Samples.{strict_items, strict_sum}
use Rattle.plan_coerce.proofs.ExampleLemmas.{entry_kept, near_sum, no_entry_kept, no_node, one_denoted, strict_denotes, sum_denotes, sum_nodes, sum_once, sums_alike}
use Rattle.plan_coerce.proofs.TurnLemmas.{like_itself}
use Rattle.plan_coerce.proofs.examples.optimizer.what_a_loop_leaves.Goals as goal

-- the columns stay, and the sum becomes the one with a cast
stays_like : (n : ℕ) (t : Expression) → Denotes (HoldsExpression sum_items) n t → DenotesLike (IsCoercion [] two_columns) [] two_columns strict_items n t
stays_like zero t d = subst (DenotesLike (IsCoercion [] two_columns) [] two_columns strict_items 0) (one_denoted sum_items 0 a t ([], refl, tt) d)
    (record { tree = a; denotes = ([], refl, tt); like = like_itself (IsCoercion [] two_columns) [] two_columns (coercion_congruent [] two_columns) a })
stays_like (suc zero) t d = subst (DenotesLike (IsCoercion [] two_columns) [] two_columns strict_items 1) (one_denoted sum_items 1 b t ([], refl, tt) d)
    (record { tree = b; denotes = ([], refl, tt); like = like_itself (IsCoercion [] two_columns) [] two_columns (coercion_congruent [] two_columns) b })
stays_like (suc (suc zero)) t d = subst (DenotesLike (IsCoercion [] two_columns) [] two_columns strict_items 2) (one_denoted sum_items 2 sum t sum_denotes d)
    (record { tree = strict_sum; denotes = strict_denotes; like = sums_alike })
stays_like (suc (suc (suc n))) t d = absurd (no_node sum_items (suc (suc (suc n))) t (omega arith) d)

finite : StaysFinite sum_items strict_items
finite n tree = let like = stays_like n tree.tree tree.denotes in record { tree = like.tree; denotes = like.denotes }

apart : (roots : List ℕ) → IsReached sum_items roots 2 → (n : ℕ) (op : Op) (inputs : List ℕ) → ¬ (IsReached sum_items roots n) → HoldsExpression sum_items n op inputs → HoldsExpression strict_items n op inputs
apart roots there zero op inputs absent h = h
apart roots there (suc zero) op inputs absent h = h
apart roots there (suc (suc zero)) op inputs absent h = absurd (absent there)
apart roots there (suc (suc (suc n))) op inputs absent h = cc

few_steps : (n after : ℕ) → Some 8 ≡ Some n → after ≤ 7 → after ≤ 0 + (2 * n + 2) * length strict_items
few_steps n after is few =
    let eight : 8 ≡ n = cc in
    subst (λ k. after ≤ 0 + (2 * k + 2) * length strict_items) eight (omega (arith, few))

leaves : (table : TypeTable) (roots : List ℕ) (after : ℕ) → KeepsNone table → IsReached sum_items roots 2 → ((n : ℕ) → IsReached strict_items roots n → Near sum_items roots n) → after ≤ 7 → LoopLeaves (is_settled [] two_columns) (IsCoercion [] two_columns) (Some 8) [] two_columns sum_items strict_items roots table 0 after
leaves table roots after none there near few = record {
  typed = λ n t typed d is away. stays_like n t d;
  like = λ typed. stays_like;
  beside = λ n is settles are m t d away. stays_like m t d;
  finite = finite;
  elsewhere = λ n is. apart roots there;
  reaches = λ n is. near;
  longer = omega arith;
  right = right_start [] two_columns strict_items table none;
  bounded = λ n is once. few_steps n after is few;
}

pub returns-clause-one_root : goal.returns-clause-one_root
returns-clause-one_root c = λ table first entries.
    leaves table (2 ∷ []) 6 (no_entry_kept table first entries) (record { steps = 0; path = inl refl }) (λ n r. near_sum n) (omega arith)

-- the sum and its operand reach what the sum does
near_both : (n : ℕ) → Near sum_items (2 ∷ 0 ∷ []) n
near_both zero = inr (record { steps = 0; path = inr (inl refl) })
near_both (suc zero) = inr (record { steps = 1; path = (2, BinaryOp Plus, 0 ∷ 1 ∷ [], inl refl, refl, inr (inl refl)) })
near_both (suc (suc zero)) = inr (record { steps = 0; path = inl refl })
near_both (suc (suc (suc n))) = inl (omega arith)

pub returns-clause-two_roots : goal.returns-clause-two_roots
returns-clause-two_roots c = λ table first entries.
    leaves table (2 ∷ 0 ∷ []) 7 (no_entry_kept table first entries) (record { steps = 0; path = inl refl }) (λ n r. near_both n) (omega arith)

pub returns-clause-too_many_steps : goal.returns-clause-too_many_steps
returns-clause-too_many_steps c = λ table leaves.
    let few : 73 ≤ 0 + (2 * 8 + 2) * length strict_items = leaves.bounded 8 refl (record {
      trees = more sum no_more;
      nodes = 2 ∷ 0 ∷ 1 ∷ [];
      have = (2 ∷ 0 ∷ 1 ∷ [], [], refl, sum_nodes, refl);
      once = sum_once;
    }) in
    omega (arith, few)

-- the roots are typed, and none is a number without a type
sum_settled : DenotesSettled (is_settled [] two_columns) strict_items 2
sum_settled = record { tree = strict_sum; denotes = strict_denotes; each = (refl, ((refl, ((refl, tt), tt)), ((refl, tt), tt))) }

column_settled : DenotesSettled (is_settled [] two_columns) strict_items 0
column_settled = record { tree = a; denotes = ([], refl, tt); each = (refl, tt) }

no_number : (n : ℕ) (before : Expression) (own : Typed) → Denotes (HoldsExpression sum_items) n before → typing [] two_columns before ≡ Ok own → is_known own.type ≡ true → (number : ℤ) (many : Bool) (t : Expression) → Denotes (HoldsExpression sum_items) n t → typing [] two_columns t ≡ Ok (record { type = Untyped number; many = many }) → ⊥
no_number n before own d is known number many t e h =
    let typed = subst (λ u. typing [] two_columns u ≡ Ok (record { type = Untyped number; many = many })) (one_denoted sum_items n t before e d) h in
    let same = ok_same (typing [] two_columns before) own (record { type = Untyped number; many = many }) is typed in
    let differs : true ≡ false = sym known ∙ ap (λ (x : Typed). is_known x.type) same in
    cc

sum_no_number : (number : ℤ) (many : Bool) (t : Expression) → Denotes (HoldsExpression sum_items) 2 t → typing [] two_columns t ≡ Ok (record { type = Untyped number; many = many }) → ⊥
sum_no_number = no_number 2 sum (of_type int32) sum_denotes refl refl

column_no_number : (number : ℤ) (many : Bool) (t : Expression) → Denotes (HoldsExpression sum_items) 0 t → typing [] two_columns t ≡ Ok (record { type = Untyped number; many = many }) → ⊥
column_no_number = no_number 0 a (of_type int8) ([], refl, tt) refl refl

sum_typed : HasTyping [] two_columns sum_items 2
sum_typed t d = (of_type int32, ap (typing [] two_columns) (one_denoted sum_items 2 t sum d sum_denotes))

column_typed : HasTyping [] two_columns sum_items 0
column_typed t d = (of_type int8, ap (typing [] two_columns) (one_denoted sum_items 0 t a d ([], refl, tt)))

sum_ends : EndsSettled (is_settled [] two_columns) (IsCoercion [] two_columns) [] two_columns sum_items strict_items 2
sum_ends = record { each = sum_settled; number = λ number many t d h. absurd (sum_no_number number many t d h) }

column_ends : EndsSettled (is_settled [] two_columns) (IsCoercion [] two_columns) [] two_columns sum_items strict_items 0
column_ends = record { each = column_settled; number = λ number many t d h. absurd (column_no_number number many t d h) }

only_root : (n : ℕ) → 2 ∷ [] ≡ n ∷ [] → 2 ≡ n
only_root n e = cc

pub returns-clause-one_ends : goal.returns-clause-one_ends
returns-clause-one_ends c = record {
  roots_typed = (sum_typed, tt);
  settled = (sum_settled, tt);
  alone = λ root number many t settles is d h. absurd (sum_no_number number many t (subst (λ n. Denotes (HoldsExpression sum_items) n t) (sym (only_root root is)) d) h);
  ends = λ n is settles are. (sum_ends, tt);
}

two_roots : (n : ℕ) → 2 ∷ 0 ∷ [] ≡ n ∷ [] → ⊥
two_roots n e = cc

pub returns-clause-two_end : goal.returns-clause-two_end
returns-clause-two_end c = record {
  roots_typed = (sum_typed, (column_typed, tt));
  settled = (sum_settled, (column_settled, tt));
  alone = λ root number many t settles is d h. absurd (two_roots root is);
  ends = λ n is settles are. (sum_ends, (column_ends, tt));
}

pub returns-clause-unsettled : goal.returns-clause-unsettled
returns-clause-unsettled c = λ ends.
    let d = ends.settled.0 in
    let each = subst (IsSettled (is_settled [] two_columns)) (one_denoted sum_items 2 d.tree sum d.denotes sum_denotes) d.each in
    let top : false ≡ true = each.0 in
    cc

pub returns-clause-kept : goal.returns-clause-kept
returns-clause-kept c = λ table never typed. extends_itself table

typed_root : IsTypedRoot (is_settled [] two_columns) [] two_columns sum_items 2
typed_root = record { tree = sum; denotes = sum_denotes; typed = of_type int32; is = refl; known = λ settles. refl }

pub returns-clause-lost : goal.returns-clause-lost
returns-clause-lost c = λ own n d m o table first entries none first' entries' keeps.
    let extends = keeps (λ items table n f. f) (typed_root, tt) in
    no_entry_kept none first' entries' 2 (record { own = own; keeps = extends.entries 2 own (entry_kept table own first entries) })

pub returns-clause-forgotten : goal.returns-clause-forgotten
returns-clause-forgotten c = λ table none never. absurd (never [] table 0 tt)
