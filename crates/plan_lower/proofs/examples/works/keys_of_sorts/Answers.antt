use Rattle.std.proofs.Common.{◌≡◌, Bool, List, [], ◌∷◌, Ok, Err, refl, sym, ◌∙◌}
use Rattle.plan_types.specs.declared.error.ErrorKind.{ErrorKind}
use Rattle.plan_types.specs.declared.error.ErrorKind.TheVariants.{ComputeError}
use Rattle.plan_dsl.specs.Samples.{all}
use Rattle.plan_dsl.specs.SortFlags.{sort_flags}
use Rattle.plan_dsl.specs.Sources.{written}
use Rattle.plan_infer.specs.Samples.{a, two_columns}
use Rattle.plan_lower.specs.Sorts.{falling, nulls_behind}
use Rattle.plan_lower.proofs.examples.works.keys_of_sorts.Goals as goal

pub returns-clause-keys : goal.returns-clause-keys
returns-clause-keys c = λ options own down last falls behind. record {
  expanded = refl;
  flags = (λ i. sort_flags two_columns (all ∷ written a ∷ []) (down i) (last i)) ∙ (λ i. Ok (sym falls i, sym behind i));
}

refused : (kinds : List ErrorKind) (flags : List Bool × List Bool) → Err kinds ≡ Ok flags → ⊥
refused kinds flags e = cc

pub returns-clause-a_flag_too_many : goal.returns-clause-a_flag_too_many
returns-clause-a_flag_too_many c = λ options own down last has.
    refused (ComputeError ∷ []) (falling own, nulls_behind own) ((λ i. sort_flags two_columns (written a ∷ []) (sym down i) (sym last i)) ∙ has.flags)

pub returns-clause-other_keys : goal.returns-clause-other_keys
returns-clause-other_keys c = λ options own has. let expanded = has.expanded in cc
