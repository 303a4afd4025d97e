use Rattle.std.proofs.Common.{◌≡◌, ◌∷◌, [], refl}
use Rattle.std.proofs.lemmas.List.Elements.{Contains-push}
use Rattle.plan_types.specs.declared.error.ErrorKind.TheVariants.{ColumnNotFound, ComputeError, Duplicate, InvalidOperation, SchemaMismatch}
use Rattle.plan_dsl.specs.Plans.{GroupByWork, SelectWork}
use Rattle.plan_expand.specs.Refusals.{unexpanded}
use Rattle.plan_infer.specs.Samples.{a}
use Rattle.plan_lower.specs.Works.{against_a_rule, unresolved, without_memory}
use Rattle.plan_lower.proofs.ExamplePlanLemmas.{grouped}
use Rattle.plan_lower.proofs.examples.works.works_that_are_lowered.Goals as goal

pub returns-clause-select : goal.returns-clause-select
returns-clause-select c = record { each = ((grouped.each_key.0, (grouped.each_agg.0, tt)), tt); types = refl; kinds = refl }

pub returns-clause-repeated : goal.returns-clause-repeated
returns-clause-repeated c = λ u. let e : Duplicate ∷ [] ≡ [] = u.kinds in cc

pub returns-clause-number : goal.returns-clause-number
returns-clause-number c = λ u. let e : InvalidOperation ∷ [] ≡ [] = u.types in cc

pub returns-clause-other_lists : goal.returns-clause-other_lists
returns-clause-other_lists c = λ u. let e : SchemaMismatch ∷ [] ≡ [] = u.kinds in cc

pub returns-clause-memory : goal.returns-clause-memory
returns-clause-memory c = without_memory refl

pub returns-clause-place_beyond_the_columns : goal.returns-clause-place_beyond_the_columns
returns-clause-place_beyond_the_columns c = unresolved (unexpanded (ColumnNotFound ∷ []) ColumnNotFound refl refl (Contains-push [] ColumnNotFound))

pub returns-clause-name_twice : goal.returns-clause-name_twice
returns-clause-name_twice c = against_a_rule ((a ∷ a ∷ []) ∷ []) SelectWork Duplicate refl refl refl (Contains-push [] Duplicate)

pub returns-clause-no_keys : goal.returns-clause-no_keys
returns-clause-no_keys c = against_a_rule ([] ∷ (a ∷ []) ∷ []) GroupByWork ComputeError refl refl refl (Contains-push [] ComputeError)

pub returns-clause-absent : goal.returns-clause-absent
returns-clause-absent c = unresolved (unexpanded (ColumnNotFound ∷ []) ColumnNotFound refl refl (Contains-push [] ColumnNotFound))
