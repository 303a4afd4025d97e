-- Distincts by names that stand in their input's schema, and why there are no such names.
use Rattle.std.proofs.Common.{◌≡◌, List, [], ◌∷◌, None, Some, true, false, not, Ok, refl, sym, ap, subst}
use Rattle.std.specs.List.{Contains}
use Rattle.std.proofs.lemmas.List.Elements.{Contains-push}
use Rattle.plan_types.specs.Schemas.{Name, Columns}
use Rattle.plan_types.specs.Errors.{at_top}
use Rattle.plan_types.specs.declared.error.ErrorKind.TheVariants.{ColumnNotFound}
use Rattle.plan_types.specs.declared.error.PlanError.{PlanError}
use Rattle.plan_dsl.specs.Drops.{have_names}
use Rattle.plan_dsl.specs.Markers.{names_of_selectors}
use Rattle.plan_dsl.specs.Plans.{DistinctWork}
use Rattle.plan_dsl.specs.PlanRules.{kind_where}
use Rattle.plan_dsl.specs.Refusals.{then_ok}
use Rattle.plan_dsl.specs.Resolving.{over_named}
use Rattle.plan_dsl.specs.Sources.{Source}
use Rattle.plan_dsl.specs.declared.distinct_options.UniqueKeepStrategy.{UniqueKeepStrategy}
use Rattle.plan_dsl.proofs.RuleLemmas.{work_refused as broken_whatever}
use Rattle.plan_expand.specs.Refusals.{IsUnexpanded}
use Rattle.plan_lower.specs.Works.{IsPlain, IsPlainRefusal, against_a_rule, unresolved}
use Rattle.plan_lower.proofs.BuiltLemmas.{unexpanded_then}

pub by_all : (schema : Columns) (keep : UniqueKeepStrategy) → IsPlain schema (DistinctWork keep None) [] (DistinctWork keep None)
by_all schema keep = record { expanded = refl; resolved = refl; unbroken = refl; whole = tt; something = refl; other = refl }

module _ (schema : Columns) (selectors : List Source) (keep : UniqueKeepStrategy) where
  module _ (names : List Name) (made : names_of_selectors schema selectors ≡ Ok names) where
    pub by_names : have_names schema names ≡ true → IsPlain schema (DistinctWork keep None) (selectors ∷ []) (DistinctWork keep (Some names))
    by_names stand =
        record { expanded = refl; resolved = ap (λ r. then_ok r (λ found. Ok (DistinctWork keep (Some found)))) made; unbroken = ap (λ b. kind_where (not b) ColumnNotFound) stand; whole = tt; something = refl; other = refl }

    pub lacking : (error : PlanError) → have_names schema names ≡ false → error ≡ at_top ColumnNotFound → IsPlainRefusal schema (DistinctWork keep None) (selectors ∷ []) error
    lacking error lacks told = λ registry.
        let breaks = subst (λ b. Contains (kind_where (not b) ColumnNotFound) ColumnNotFound) (sym lacks) (Contains-push [] ColumnNotFound) in
        against_a_rule [] (DistinctWork keep (Some names)) ColumnNotFound refl (ap (λ r. then_ok r (λ found. Ok (DistinctWork keep (Some found)))) made) told (broken_whatever registry schema (DistinctWork keep (Some names)) [] None ColumnNotFound breaks)

  pub unmade : (error : PlanError) → IsUnexpanded (names_of_selectors schema selectors) error → IsPlainRefusal schema (DistinctWork keep None) (selectors ∷ []) error
  unmade error r = λ registry.
      unresolved (unexpanded_then (then_ok (names_of_selectors schema selectors) (λ names. Ok (DistinctWork keep (Some names)))) (λ own. Ok (over_named [] own)) error (unexpanded_then (names_of_selectors schema selectors) (λ names. Ok (DistinctWork keep (Some names))) error r))
