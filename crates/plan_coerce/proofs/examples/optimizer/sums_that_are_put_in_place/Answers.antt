use Rattle.std.proofs.Common.{ap, arith, length, ◌≡◌, [], ◌∷◌, codes, true, refl, subst}
use Rattle.plan_types.specs.declared.dtype.DataType.TheVariants as dtype
use Rattle.plan_dsl.specs.declared.operator.Operator.TheVariants.{Plus}
use Rattle.plan_dsl.specs.Names.{column_label, label_of}
use Rattle.plan_infer.specs.Samples.{sum_items, a_items, two_columns, int32, of_type, a, b, binary, cast_to, pair, columns_and, a_items}
use Rattle.plan_coerce.specs.Rules.{is_settled}
use Rattle.plan_coerce.specs.Samples.{cast_of, strict_items, strict_sum}
use Rattle.plan_coerce.proofs.ExampleLemmas.{one_denoted, other_label, strict_denotes, sum_not_found, sum_not_left, sum_placed, sum_replaced}
use Rattle.plan_coerce.proofs.examples.optimizer.sums_that_are_put_in_place.Goals as goal

pub returns-clause-replacement : goal.returns-clause-replacement
returns-clause-replacement c = sum_replaced

pub returns-clause-other_name : goal.returns-clause-other_name
returns-clause-other_name c = λ r.
    let turned = binary Plus b (cast_to int32 a) in
    let same = one_denoted (columns_and (pair 1 Plus 3 ∷ cast_of 0 dtype.Int32 ∷ [])) 2 r.tree turned r.denotes (1 ∷ 3 ∷ [], refl, (([], refl, tt), ((0 ∷ [], refl, (([], refl, tt), tt)), tt))) in
    other_label (subst (λ t. label_of t ≡ column_label (codes "a")) same (r.like (of_type int32) refl).same.name)

pub returns-clause-placed : goal.returns-clause-placed
returns-clause-placed c = sum_placed

pub returns-clause-unchanged : goal.returns-clause-unchanged
returns-clause-unchanged c = sum_not_left

pub returns-clause-found : goal.returns-clause-found
returns-clause-found c = record {
  same = refl;
  is = λ t d. subst (λ u. is_settled [] two_columns u ≡ true) (one_denoted strict_items 2 strict_sum t strict_denotes d) refl;
}

longer_by_two : sum_items ≡ a_items → ⊥
longer_by_two e = absurd (omega (arith, ap length e))

pub returns-clause-found_with_more : goal.returns-clause-found_with_more
returns-clause-found_with_more c = λ found. longer_by_two found.same

pub returns-clause-not_found : goal.returns-clause-not_found
returns-clause-not_found c = λ found. sum_not_found _ found
