use Rattle.std.proofs.Common.{◌∙◌, sym, subst, is_some, IsTrue}
use Rattle.plan_lower.proofs.RecordedLemmas.{records_within, recorded_got, columns_of_recorded}
use Rattle.plan_lower.proofs.conversion.nodes.recorded_schema.Goals as goal

pub get-requires : goal.get-requires
get-requires c = records_within c.args.lp_arena.now c.args.node.0 c.requires

pub recorded_schema-requires : goal.recorded_schema-requires
recorded_schema-requires c =
    subst (λ recorded. IsTrue (is_some recorded)) (recorded_got c.args.lp_arena.now c.args.node.0 c.get.result.now c.get.ensures) c.requires

pub returns : goal.returns
returns c =
    sym (columns_of_recorded c.args.lp_arena.now c.args.node.0 _ (recorded_got c.args.lp_arena.now c.args.node.0 c.get.result.now c.get.ensures ∙ c.recorded_schema.ensures))
