use Rattle.plan_types.proofs.SchemaCallLemmas.{found_column}
use Rattle.plan_types.proofs.schema.Schema.get_full.Goals as goal

pub returns : goal.returns
returns c = found_column c.args.self.now.fields.entries c.args.name.now c.get_full.result c.get_full.ensures.index c.get_full.ensures.entry
