use Rattle.std.proofs.Common.{◌≡◌, ◌∷◌, ◌++◌, [], List, refl, ap}
use Rattle.std.proofs.lemmas.List.Elements.{Contains-push}
use Rattle.plan_types.specs.Errors.{at_top, no_memory}
use Rattle.plan_types.specs.declared.error.ErrorKind.TheVariants.{ColumnNotFound, Duplicate, NoMemory}
use Rattle.plan_dsl.specs.Ops.{Expression}
use Rattle.plan_expand.specs.Refusals.{unexpanded}
use Rattle.plan_infer.specs.Samples.{int8, of_type, one_column, a}
use Rattle.plan_lower.specs.declared.conversion.asked.Asked.TheVariants.{NewName}
use Rattle.plan_lower.specs.Groups.{IsAggregateRefusal, aggregates_unexpanded, keys_unexpanded, not_grouped, not_typed, of_aggregates, of_keys, twice, without_keys}
use Rattle.plan_lower.specs.Projection.{IsProjectionRefusal, against, out_of_memory, refused}
use Rattle.plan_lower.proofs.examples.groups.refusals_of_groups.Goals as goal

pub returns-clause-without_keys : goal.returns-clause-without_keys
returns-clause-without_keys c = without_keys refl refl

pub returns-clause-key_twice : goal.returns-clause-key_twice
returns-clause-key_twice c = of_keys (refused (record {
  front = a ∷ [];
  tree = a;
  back = [];
  split = refl;
  before = one_column int8;
  names = refl;
  refusal = against (of_type int8) Duplicate refl refl refl;
}))

pub returns-clause-aggregate_named_as_a_key : goal.returns-clause-aggregate_named_as_a_key
returns-clause-aggregate_named_as_a_key c = of_aggregates (twice refl refl)

no_memory_else : at_top Duplicate ≡ no_memory → ⊥
no_memory_else e = let differs : Duplicate ≡ NoMemory = ap (λ error. error.kind) e in cc

no_split : (front back : List Expression) (tree : Expression) → [] ≡ front ++ tree ∷ back → ⊥
no_split [] back tree e = cc
no_split (first ∷ front) back tree e = cc

none_refused : IsProjectionRefusal [] [] (NewName Duplicate) [] (at_top Duplicate) → ⊥
none_refused (out_of_memory e) = no_memory_else e
none_refused (refused r) = no_split r.front r.back r.tree r.split

none_behind : IsAggregateRefusal [] [] [] [] (at_top Duplicate) → ⊥
none_behind (not_typed r) = none_refused r
none_behind (twice e again) = cc

pub returns-clause-of_no_aggregates : goal.returns-clause-of_no_aggregates
returns-clause-of_no_aggregates c = none_behind

pub returns-clause-place_beyond_the_columns : goal.returns-clause-place_beyond_the_columns
returns-clause-place_beyond_the_columns c = keys_unexpanded (unexpanded (ColumnNotFound ∷ []) ColumnNotFound refl refl (Contains-push [] ColumnNotFound))

pub returns-clause-nothing_left_for_aggregates : goal.returns-clause-nothing_left_for_aggregates
returns-clause-nothing_left_for_aggregates c = aggregates_unexpanded (a ∷ []) refl (unexpanded (ColumnNotFound ∷ []) ColumnNotFound refl refl (Contains-push [] ColumnNotFound))

pub returns-clause-no_keys_written : goal.returns-clause-no_keys_written
returns-clause-no_keys_written c = not_grouped [] (a ∷ []) refl refl (without_keys refl refl)
