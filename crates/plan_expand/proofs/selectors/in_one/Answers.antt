use Rattle.std.proofs.Common.{◌≡◌, [], rules, false, sym, ◌∙◌, subst}
use Rattle.std.specs.List.{IsDistinct}
use Rattle.indexmap.specs.IndexSet.{insert_all}
use Rattle.plan_types.specs.Schemas.{same_name, repeats}
use Rattle.plan_dsl.specs.Markers.{set_of}
use Rattle.plan_dsl.specs.Sources.{ExclusiveOr}
use Rattle.plan_expand.proofs.NameLemmas.{put_once, all_put, set_distinct}
use Rattle.plan_expand.proofs.selectors.in_one.Goals as goal

pub loop-name-init : goal.loop-name-init
loop-name-init c =
    let names = c.symmetric_difference-name-items in
    let start = c.into_iter-name-iterator.ensures.into_iter_gives ∙ names.ensures.rest in
    record { can = tt; finite = tt; so_far = (λ i. insert_all same_name (c.new-apart.ensures.empty i) (start i)) ∙ put_once (set_of ExclusiveOr c.args.names.now.keys c.args.others.now.keys) }

pub returns-clause-ok : goal.returns-clause-ok
returns-clause-ok c =
    let names = c.symmetric_difference-name-items.ensures in
    let none : c.loop-name.name-iterator ≡ [] = search rules in
    all_put _ c.loop-name.apart.keys c.loop-name.name-iterator (subst (IsDistinct same_name) names.rest names.unique) c.loop-name.invariant.so_far none

pub returns-clause-once : goal.returns-clause-once
returns-clause-once c =
    let names = c.symmetric_difference-name-items.ensures in
    let distinct = subst (IsDistinct same_name) names.rest names.unique in
    let none : c.loop-name.name-iterator ≡ [] = search rules in
    subst (λ l. repeats l ≡ false) (sym (all_put _ c.loop-name.apart.keys c.loop-name.name-iterator distinct c.loop-name.invariant.so_far none)) (set_distinct _ distinct)
