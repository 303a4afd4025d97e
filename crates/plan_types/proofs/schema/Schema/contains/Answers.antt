use Rattle.std.proofs.Common.{sym, ap, ◌∙◌, is_some}
use Rattle.plan_types.specs.Types.{ty}
use Rattle.plan_types.proofs.SchemaLemmas.{type_at-entries, is_some-option_map}
use Rattle.plan_types.proofs.schema.Schema.contains.Goals as goal

pub returns : goal.returns
returns c =
    c.contains_key.ensures ∙ sym (is_some-option_map ty _) ∙ sym (ap is_some (type_at-entries c.args.self.now.fields.entries c.args.name.now))
