use Rattle.std.proofs.Common.{◌∙◌}
use Rattle.plan_types.specs.Schemas.{columns}
use Rattle.plan_arena.proofs.ItemLemmas.{plan_within, item_inputs}
use Rattle.plan_arena.proofs.PlanSchemaLemmas.{first_plan}
use Rattle.plan_arena.proofs.RecordedSchemaLemmas.{first_records}
use Rattle.plan_arena.proofs.UncheckedLemmas.{into_accepted, into_is}
use Rattle.plan_arena.proofs.ir.IR.input_schema.Goals as goal

pub get-requires : goal.get-requires
get-requires c =
    plan_within c.requires.expressions c.args.arena.now c.in-Some.first.0 (first_plan c.args.arena.now c.args.self.now c.requires c.in-Some.first.0 c.in-Some.ensures)

pub schema-requires : goal.schema-requires
schema-requires c =
    item_inputs c.requires.expressions c.args.arena.now c.in-Some.first.0 c.get.result.now c.get.ensures (first_plan c.args.arena.now c.args.self.now c.requires c.in-Some.first.0 c.in-Some.ensures)

pub returns-in_ok-schema-in-Some-clause-denoted : goal.returns-in_ok-schema-in-Some-clause-denoted
returns-in_ok-schema-in-Some-clause-denoted c =
    first_records c.args.arena.now c.args.self.now c.get.result.now c.in-Some.first.0 (columns c.in_ok-schema-in-Some.schema) c.in-Some.ensures c.get.ensures c.in_ok-schema-in-Some.ensures.denoted

pub returns-in_ok-schema-in-Some-clause-unchecked : goal.returns-in_ok-schema-in-Some-clause-unchecked
returns-in_ok-schema-in-Some-clause-unchecked c expressions registry op ts d keeps =
    returns-in_ok-schema-in-Some-clause-denoted c expressions op ts d ∙ into_is expressions c.args.arena.now registry op.kind d.0 ts d.2 keeps

pub returns-in_ok-schema-in-Some-clause-rule : goal.returns-in_ok-schema-in-Some-clause-rule
returns-in_ok-schema-in-Some-clause-rule c expressions registry op ts d accepted =
    returns-in_ok-schema-in-Some-clause-denoted c expressions op ts d ∙ into_accepted registry expressions c.args.arena.now op.kind d.0 ts d.2 accepted
