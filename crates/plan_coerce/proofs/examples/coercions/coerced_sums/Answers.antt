use Rattle.std.proofs.Common.{◌≡◌, ◌≤◌, ℕ, zero, suc, List, [], ◌∷◌, pos, codes, true, false, Some, slice_get, refl, sym, ap, subst, arith, zero-le}
use Rattle.plan_types.specs.Types.{Untyped, same_type}
use Rattle.plan_types.specs.Schemas.{Columns, Name}
use Rattle.plan_dsl.specs.Registry.{Registry}
use Rattle.plan_dsl.specs.Strictness.{IsSame, IsStrict}
use Rattle.plan_types.specs.Values.{IntValue}
use Rattle.plan_types.specs.declared.dtype.DataType.TheVariants as dtype
use Rattle.plan_dsl.specs.declared.literal.LiteralValue.TheVariants.{Int}
use Rattle.plan_dsl.specs.declared.operator.Operator.TheVariants.{Plus}
use Rattle.plan_dsl.specs.Trees.{node, no_more}
use Rattle.plan_dsl.specs.Ops.{Op, ColumnOp, LiteralOp, Expression}
use Rattle.plan_dsl.specs.Typing.{typing}
use Rattle.plan_dsl.proofs.TypingLemmas.{ok_same}
use Rattle.plan_arena.specs.declared.aexpr.AExpr.{AExpr}
use Rattle.plan_arena.specs.declared.aexpr.AExpr.TheVariants.{Column, Literal}
use Rattle.plan_arena.specs.Denotation.{Denotes}
use Rattle.plan_arena.specs.Layers.{layer}
use Rattle.plan_arena.specs.Items.{HoldsExpression}
use Rattle.plan_arena.proofs.ItemLemmas.{got_held}
use Rattle.plan_coerce.specs.Optimizer.{IsWrittenOut}
use Rattle.plan_coerce.specs.Rules.{HasSameWritten}
use Rattle.plan_infer.specs.Samples.{int8, int32, int64, columns_of, two_columns, of_type, a, b, binary, cast_to, sum, pair, columns_and, sum_items}
use Rattle.plan_coerce.specs.Samples.{strict_sum, cast_of, strict_items}
use Rattle.plan_coerce.proofs.ExampleLemmas.{one_denoted, same_tree, other_name, other_label}
use Rattle.plan_coerce.proofs.examples.coercions.coerced_sums.Goals as goal

abbrev wide : List AExpr
wide = columns_and (pair 3 Plus 4 ∷ cast_of 0 dtype.Int64 ∷ cast_of 1 dtype.Int64 ∷ [])

abbrev turned : List AExpr
turned = columns_and (pair 1 Plus 3 ∷ cast_of 0 dtype.Int32 ∷ [])

column_denotes : (items : List AExpr) (n : ℕ) (name : Name) → slice_get items n ≡ Some (Column name) → Denotes (HoldsExpression items) n (node (ColumnOp name) no_more)
column_denotes items n name got = ([], got_held items n (Column name) (ColumnOp name) [] got refl, tt)

before_denotes : Denotes (HoldsExpression sum_items) 2 sum
before_denotes = (0 ∷ 1 ∷ [], refl, (column_denotes sum_items 0 (codes "a") refl, (column_denotes sum_items 1 (codes "b") refl, tt)))

after_denotes : Denotes (HoldsExpression strict_items) 2 strict_sum
after_denotes = (3 ∷ 1 ∷ [], refl, ((0 ∷ [], refl, (column_denotes strict_items 0 (codes "a") refl, tt)), (column_denotes strict_items 1 (codes "b") refl, tt)))

wide_denotes : Denotes (HoldsExpression wide) 2 (binary Plus (cast_to int64 a) (cast_to int64 b))
wide_denotes = (3 ∷ 4 ∷ [], refl, ((0 ∷ [], refl, (column_denotes wide 0 (codes "a") refl, tt)), ((1 ∷ [], refl, (column_denotes wide 1 (codes "b") refl, tt)), tt)))

turned_denotes : Denotes (HoldsExpression turned) 2 (binary Plus b (cast_to int32 a))
turned_denotes = (1 ∷ 3 ∷ [], refl, (column_denotes turned 1 (codes "b") refl, ((0 ∷ [], refl, (column_denotes turned 0 (codes "a") refl, tt)), tt)))

pub returns-clause-cast : goal.returns-clause-cast
returns-clause-cast c = record {
  below = λ n op inputs lower held. absurd (lower zero-le);
  each = (
    λ t d. subst (IsWrittenOut [] two_columns strict_items 2) (sym (one_denoted sum_items 2 t sum d before_denotes))
        (record { tree = strict_sum; denotes = after_denotes; same = record { typing = refl; name = refl; meaning = λ rows. refl }; strict = refl; is = refl }),
    tt,
  );
}

-- what a root denotes, written out
strict_root : (registry : Registry) (schema : Columns) (items : List AExpr) (n : ℕ) (before tree : Expression) → IsWrittenOut registry schema items n before → Denotes (HoldsExpression items) n tree → IsStrict registry schema tree
strict_root registry schema items n before tree root d = subst (IsStrict registry schema) (one_denoted items n root.tree tree root.denotes d) root.strict

same_root : (registry : Registry) (schema : Columns) (items : List AExpr) (n : ℕ) (before tree : Expression) → IsWrittenOut registry schema items n before → Denotes (HoldsExpression items) n tree → IsSame registry schema before tree
same_root registry schema items n before tree root d = subst (IsSame registry schema before) (one_denoted items n root.tree tree root.denotes d) root.same

pub returns-clause-unchanged : goal.returns-clause-unchanged
returns-clause-unchanged c = λ coerced.
    let same : false ≡ true = strict_root [] two_columns sum_items 2 sum sum (coerced.each.0 sum before_denotes) before_denotes in
    cc

pub returns-clause-both_to_another_type : goal.returns-clause-both_to_another_type
returns-clause-both_to_another_type c = λ coerced.
    let tree = binary Plus (cast_to int64 a) (cast_to int64 b) in
    let same = same_root [] two_columns wide 2 sum tree (coerced.each.0 sum before_denotes) wide_denotes in
    let one = ok_same (typing [] two_columns tree) (of_type int64) (of_type int32) refl same.typing in
    let differs : true ≡ false = ap (λ t. same_type int64 t.type) one in
    cc

-- the sum has the name of the other column
pub returns-clause-turned_round : goal.returns-clause-turned_round
returns-clause-turned_round c = λ coerced.
    other_label (same_root [] two_columns turned 2 sum (binary Plus b (cast_to int32 a)) (coerced.each.0 sum before_denotes) turned_denotes).name

pub returns-clause-number_left : goal.returns-clause-number_left
returns-clause-number_left c = λ coerced.
    let items = Literal (Int (pos 5)) ∷ [] in
    let number = node (LiteralOp (Untyped (pos 5)) (IntValue (pos 5))) no_more in
    let known : false ≡ true = strict_root [] [] items 0 number number (coerced.each.0 number ([], refl, tt)) ([], refl, tt) in
    cc

column_name : (m n : Name) → Some (layer (ColumnOp m) []) ≡ Some (layer (ColumnOp n) []) → m ≡ n
column_name m n e = cc

pub returns-clause-item_below : goal.returns-clause-item_below
returns-clause-item_below c = λ coerced.
    other_name (column_name (codes "b") (codes "a") (coerced.below 0 (ColumnOp (codes "a")) [] (λ le. omega (arith, le)) refl))

pub returns-clause-nothing_done : goal.returns-clause-nothing_done
returns-clause-nothing_done c = λ n t d. record { tree = t; denotes = d; like = record { same = record { typing = refl; name = refl; meaning = λ rows is numbers within. refl }; relates = refl } }

pub returns-clause-other_tree : goal.returns-clause-other_tree
returns-clause-other_tree c = λ stays.
    other_label (same_tree (HasSameWritten [] (columns_of int8 int8)) [] (columns_of int8 int8) (Column (codes "b") ∷ []) 0 a b (stays 0 a ([], refl, tt)) ([], refl, tt)).name

kept_first : (n : ℕ) (op : Op) (inputs : List ℕ) → ¬ (1 ≤ n) → HoldsExpression (columns_and []) n op inputs → HoldsExpression (Column (codes "a") ∷ Column (codes "c") ∷ []) n op inputs
kept_first zero op inputs below h = h
kept_first (suc n) op inputs below h = absurd (below (omega arith))

pub returns-clause-items_below : goal.returns-clause-items_below
returns-clause-items_below c = kept_first

pub returns-clause-same : goal.returns-clause-same
returns-clause-same c = record { tree = a; denotes = ([], refl, tt); like = record { same = record { typing = refl; name = refl; meaning = λ rows is numbers within. refl }; relates = refl } }

pub returns-clause-not_same : goal.returns-clause-not_same
returns-clause-not_same c = λ found.
    other_label (same_tree (HasSameWritten [] (columns_of int8 int8)) [] (columns_of int8 int8) (Column (codes "b") ∷ []) 0 a b found ([], refl, tt)).name
