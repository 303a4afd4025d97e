use Rattle.std.proofs.Common.{sym, subst}
use Rattle.plan_types.specs.Schemas.{columns}
use Rattle.plan_arena.specs.PlanSchemas.{IsSchemaAt}
use Rattle.plan_arena.specs.RecordedSchemas.{IsRecordedAt}
use Rattle.plan_arena.specs.Unchecked.{IsUncheckedAt}
use Rattle.plan_arena.proofs.ItemLemmas.{plan_within, item_inputs}
use Rattle.plan_arena.proofs.PlanSchemaLemmas.{keeps_with, others_stay, schema_at_item, unchecked_at_item}
use Rattle.plan_arena.proofs.RecordedSchemaLemmas.{recorded_at_node}
use Rattle.plan_arena.proofs.ir.IR.schema_with_cache.Goals as goal

pub get-requires-2 : goal.get-requires-2
get-requires-2 c = plan_within c.requires.plan.expressions c.args.arena.now c.args.node.0 c.requires.plan.tree

pub schema-requires : goal.schema-requires
schema-requires c = item_inputs c.requires.plan.expressions c.args.arena.now c.args.node.0 c.get-2.result.now c.get-2.ensures c.requires.plan.tree

pub returns-clause-ok : goal.returns-clause-ok
returns-clause-ok c =
    schema_at_item c.args.arena.now c.args.node.0 c.get-2.result.now (columns c.in_ok-schema-2.schema) c.get-2.ensures c.in_ok-schema-2.ensures.recorded c.in_ok-schema-2.ensures.denoted

pub returns-clause-right : goal.returns-clause-right
returns-clause-right c =
    keeps_with c.args.cache.now c.insert.new.self c.args.node c.in_ok-kept.kept c.in_ok-insert.ensures.updates.0 (IsSchemaAt c.args.arena.now) (subst (IsSchemaAt c.args.arena.now c.args.node.0) (sym c.in_ok-kept.ensures.ok) (returns-clause-ok c)) c.requires.right

pub returns-clause-denoted : goal.returns-clause-denoted
returns-clause-denoted c keeps =
    recorded_at_node c.args.arena.now c.args.node.0 c.get-2.result.now (columns c.in_ok-schema-2.schema) c.get-2.ensures c.in_ok-schema-2.ensures.denoted

pub returns-clause-recorded : goal.returns-clause-recorded
returns-clause-recorded c keeps =
    keeps_with c.args.cache.now c.insert.new.self c.args.node c.in_ok-kept.kept c.in_ok-insert.ensures.updates.0 (IsRecordedAt c.args.arena.now) (subst (IsRecordedAt c.args.arena.now c.args.node.0) (sym c.in_ok-kept.ensures.ok) (returns-clause-denoted c keeps)) keeps

pub returns-clause-unchecked : goal.returns-clause-unchecked
returns-clause-unchecked c keeps =
    unchecked_at_item c.args.arena.now c.args.node.0 c.get-2.result.now (columns c.in_ok-schema-2.schema) c.get-2.ensures c.in_ok-schema-2.ensures.denoted

pub returns-clause-keeps_unchecked : goal.returns-clause-keeps_unchecked
returns-clause-keeps_unchecked c keeps =
    keeps_with c.args.cache.now c.insert.new.self c.args.node c.in_ok-kept.kept c.in_ok-insert.ensures.updates.0 (IsUncheckedAt c.args.arena.now) (subst (IsUncheckedAt c.args.arena.now c.args.node.0) (sym c.in_ok-kept.ensures.ok) (returns-clause-unchecked c keeps)) keeps

pub returns-clause-others : goal.returns-clause-others
returns-clause-others c =
    others_stay c.args.cache.now c.insert.new.self c.args.node c.in_ok-kept.kept c.in_ok-insert.ensures.updates.0
