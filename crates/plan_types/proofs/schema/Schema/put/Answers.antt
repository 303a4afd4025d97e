use Rattle.std.proofs.Common.{is_some, map, sym, ap, ◌∙◌}
use Rattle.std.specs.Option.{option_map}
use Rattle.plan_types.specs.Types.{ty}
use Rattle.plan_types.specs.Schemas.{column_of}
use Rattle.plan_types.proofs.SchemaLemmas.{columns-insert_entry, is_some-option_map, type_at-entries, unrepeated}
use Rattle.plan_types.proofs.schema.Schema.put.Goals as goal

pub invariant_of-self : goal.invariant_of-self
invariant_of-self c = record { distinct = unrepeated _ c.insert.ensures.unique }

pub returns-clause-ok : goal.returns-clause-ok
returns-clause-ok c =
    ap (map column_of) c.in_ok-replaced.ensures.entries ∙ columns-insert_entry c.args.self.now.fields.entries c.args.name c.args.dtype

pub returns-clause-before : goal.returns-clause-before
returns-clause-before c =
    let found = ap (option_map ty) c.in_ok-replaced.ensures.old ∙ sym (type_at-entries c.args.self.now.fields.entries c.args.name) in
    c.is_some.ensures ∙ sym (is_some-option_map ty _) ∙ ap is_some found
