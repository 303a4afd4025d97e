-- Aggregates of nodes.
use Rattle.std.specs.Prelude.{◌≡◌, ◌==◌, ◌&&◌, ℕ, Bool, true, List}
use Rattle.std.specs.Cmp.{IsEquivalence}
use Rattle.std.specs.Hash as fed
use Rattle.std.proofs.Common.{refl, ap}
use Rattle.std.proofs.lemmas.Bool.{and_parts, and_from}
use Rattle.std.proofs.lemmas.Bool.Decides.{Decides-eqb}
use Rattle.std.proofs.lemmas.Cmp.{on_equiv}
use Rattle.plan_types.specs.TypeLaws.{equivalence_from_exact}
use Rattle.plan_dsl.specs.declared.aggregate.GroupByMethod.{GroupByMethod}
use Rattle.plan_dsl.specs.declared.aggregate.GroupByMethod.TheVariants as method
use Rattle.plan_dsl.specs.Expressions.{greatest_by, least_by}
use Rattle.plan_dsl.specs.SameExpressions.{method_rank}
use Rattle.plan_arena.specs.declared.arena.Node.{Node}
use Rattle.plan_arena.specs.declared.aggregate.IRAggExpr.{IRAggExpr}
use Rattle.plan_arena.specs.declared.aggregate.IRAggExpr.TheVariants.{Min, Max, NUnique, First, Last, Implode, Count, Sum, AggGroups}

-- what an aggregate makes of its input
abbrev pub method_at : IRAggExpr → GroupByMethod
method_at (Min input propagate_nans) = least_by propagate_nans
method_at (Max input propagate_nans) = greatest_by propagate_nans
method_at (NUnique input) = method.NUnique
method_at (First input) = method.First
method_at (Last input) = method.Last
method_at (Implode input) = method.Implode
method_at (Count input include_nulls) = method.Count include_nulls
method_at (Sum input) = method.Sum
method_at (AggGroups input) = method.Groups

-- and the input
abbrev pub input_at : IRAggExpr → Node
input_at (Min input propagate_nans) = input
input_at (Max input propagate_nans) = input
input_at (NUnique input) = input
input_at (First input) = input
input_at (Last input) = input
input_at (Implode input) = input
input_at (Count input include_nulls) = input
input_at (Sum input) = input
input_at (AggGroups input) = input

-- the number of the method, and that of the input: two aggregates are one where these are
abbrev pub parts_at : IRAggExpr → ℕ × ℕ
parts_at aggregate = (method_rank (method_at aggregate), (input_at aggregate).0)

abbrev pub same_parts : ℕ × ℕ → ℕ × ℕ → Bool
same_parts left right = left.0 == right.0 && left.1 == right.1

abbrev pub same_aggregate : IRAggExpr → IRAggExpr → Bool
same_aggregate left right = same_parts (parts_at left) (parts_at right)

same_parts_exact : (a b : ℕ × ℕ) → same_parts a b ≡ true → a ≡ b
same_parts_exact a b h =
    let parts = and_parts (a.0 == b.0) (a.1 == b.1) h in
    let method = (Decides-eqb a.0 b.0).0 parts.0 in
    let input = (Decides-eqb a.1 b.1).0 parts.1 in
    λ i. (method i, input i)

same_parts_own : (a : ℕ × ℕ) → same_parts a a ≡ true
same_parts_own a = and_from _ _ ((Decides-eqb a.0 a.0).1 refl) ((Decides-eqb a.1 a.1).1 refl)

pub same_aggregate_is_equivalence : IsEquivalence same_aggregate
same_aggregate_is_equivalence = on_equiv parts_at (equivalence_from_exact same_parts same_parts_exact same_parts_own)

-- what is hashed of an aggregate: the input isn't
abbrev pub aggregate_writes : IRAggExpr → List (List ℕ)
aggregate_writes aggregate = fed.u8 (method_rank (method_at aggregate))

pub same_aggregate_hash : (a b : IRAggExpr) → same_aggregate a b ≡ true → aggregate_writes a ≡ aggregate_writes b
same_aggregate_hash a b h = ap (λ parts. fed.u8 parts.0) (same_parts_exact (parts_at a) (parts_at b) h)
