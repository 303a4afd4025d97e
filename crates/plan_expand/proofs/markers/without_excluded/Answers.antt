use Rattle.std.proofs.Common.{map, rules, ◌∙◌}
use Rattle.std.proofs.lemmas.Fn.{filter_same}
use Rattle.plan_types.specs.Schemas.{columns}
use Rattle.plan_types.specs.Types.{ty}
use Rattle.plan_dsl.specs.Expressions.{excluded_of}
use Rattle.plan_expand.proofs.MarkerLemmas.{is_kept, not_excluded}
use Rattle.plan_expand.proofs.markers.without_excluded.Goals as goal

pub returns-clause-ok : goal.returns-clause-ok
returns-clause-ok c =
    let keys = c.args.keys.now.keys in
    let left_out = c.in_ok-left_out.left_out.keys in
    let types = map (λ dtype. ty dtype.now) c.in_ok-types.types.items in
    let schema = columns c.args.schema.now in
    let excluded = map excluded_of c.args.excluded.now in
    filter_same _ (is_kept keys left_out types schema) _ (λ x b f' k. search rules) c.args.names.items c.retain.new.self.items c.retain.ensures.filtered ∙ not_excluded keys left_out types schema excluded c.args.names.items c.in_ok-left_out.ensures.ok c.in_ok-types.ensures.ok
