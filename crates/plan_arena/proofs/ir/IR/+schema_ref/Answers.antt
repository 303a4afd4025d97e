use Rattle.std.proofs.Common.{arith, refl}
use Rattle.plan_types.specs.Schemas.{columns}
use Rattle.plan_arena.proofs.ItemLemmas.{plan_within, item_inputs, only_input, only_input_less_deep}
use Rattle.plan_arena.proofs.RecordedSchemaLemmas.{kept_records, item_records}
use Rattle.plan_arena.proofs.UncheckedLemmas.{records_accepted, records_unchecked}
use Rattle.plan_arena.proofs.ir.IR.+schema_ref.Goals as goal

pub get-requires : goal.get-requires
get-requires t c =
    let input = only_input c.args.arena.now c.args.self.now _ c.in-Some.input.0 c.in-Some.ensures.is c.requires in
    plan_within c.requires.expressions c.args.arena.now c.in-Some.input.0 input

pub schema_ref-requires : goal.schema_ref-requires
schema_ref-requires t c =
    let input = only_input c.args.arena.now c.args.self.now _ c.in-Some.input.0 c.in-Some.ensures.is c.requires in
    let less = only_input_less_deep c.args.arena.now c.args.self.now _ c.in-Some.input.0 c.in-Some.ensures.is c.requires c.get.result.now c.get.ensures in
    (omega (arith, c.decreases, less), item_inputs c.requires.expressions c.args.arena.now c.in-Some.input.0 c.get.result.now c.get.ensures input)

pub recorded_schema-requires : goal.recorded_schema-requires
recorded_schema-requires t c = c.in-None.ensures c.requires.valid

pub returns-in-None-clause-denoted : goal.returns-in-None-clause-denoted
returns-in-None-clause-denoted t c =
    item_records c.args.arena.now c.args.self.now (columns c.recorded_schema.result.now) c.recorded_schema.ensures

pub returns-in-None-clause-unchecked : goal.returns-in-None-clause-unchecked
returns-in-None-clause-unchecked t c =
    records_unchecked c.args.arena.now c.args.self.now (columns c.recorded_schema.result.now) (returns-in-None-clause-denoted t c)

pub returns-in-None-clause-rule : goal.returns-in-None-clause-rule
returns-in-None-clause-rule t c expressions registry =
    records_accepted registry c.args.arena.now c.args.self.now (columns c.recorded_schema.result.now) (returns-in-None-clause-denoted t c) expressions

pub returns-in-Some-clause-denoted : goal.returns-in-Some-clause-denoted
returns-in-Some-clause-denoted t c =
    kept_records c.args.arena.now c.args.self.now c.get.result.now _ c.in-Some.input.0 (columns c.schema_ref.result.now) c.in-Some.ensures.is refl c.get.ensures c.schema_ref.ensures.denoted

pub returns-in-Some-clause-unchecked : goal.returns-in-Some-clause-unchecked
returns-in-Some-clause-unchecked t c =
    records_unchecked c.args.arena.now c.args.self.now (columns c.schema_ref.result.now) (returns-in-Some-clause-denoted t c)

pub returns-in-Some-clause-rule : goal.returns-in-Some-clause-rule
returns-in-Some-clause-rule t c expressions registry =
    records_accepted registry c.args.arena.now c.args.self.now (columns c.schema_ref.result.now) (returns-in-Some-clause-denoted t c) expressions
