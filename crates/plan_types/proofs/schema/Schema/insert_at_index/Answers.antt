use Rattle.std.proofs.Common.{sym, ◌∙◌, ◌≤◌, length, arith}
use Rattle.std.proofs.lemmas.List.{length-map}
use Rattle.plan_types.specs.Schemas.{column_of}
use Rattle.plan_types.proofs.SchemaLemmas.{none_there, unrepeated}
use Rattle.plan_types.proofs.SchemaPairLemmas.{put_in}
use Rattle.plan_types.proofs.schema.Schema.insert_at_index.Goals as goal

pub invariant_of-self : goal.invariant_of-self
invariant_of-self c = record { distinct = unrepeated _ c.insert_before.ensures.unique }

pub returns-clause-ok : goal.returns-clause-ok
returns-clause-ok c =
    let es = c.args.self.now.fields.entries in
    let within : c.args.index ≤ length es = omega (arith, c.requires, length-map es column_of) in
    put_in es c.insert_before.new.self.entries c.args.name c.args.dtype c.args.index _ (none_there _ (sym c.contains.ensures ∙ c.if-contains.false)) within c.in_ok-_before.ensures.index c.in_ok-_before.ensures.entries
