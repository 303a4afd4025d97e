use Rattle.std.proofs.Common.{sym, ap, ◌∙◌}
use Rattle.std.specs.Option.{option_map}
use Rattle.plan_types.specs.Types.{ty}
use Rattle.plan_types.proofs.SchemaLemmas.{type_at-entries, option_map-copied}
use Rattle.plan_types.proofs.schema.Schema.get.Goals as goal

pub returns : goal.returns
returns c =
    option_map-copied ty c.get.result ∙ ap (option_map ty) c.get.ensures.value ∙ sym (type_at-entries c.args.self.now.fields.entries c.args.name.now)
