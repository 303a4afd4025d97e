use Rattle.std.proofs.Common.{sym, ◌∙◌}
use Rattle.plan_types.specs.Schemas.{column_of}
use Rattle.plan_types.proofs.ListLemmas.{map-map}
use Rattle.plan_types.proofs.schema.Schema.iter_names.Goals as goal

pub returns-clause-names : goal.returns-clause-names
returns-clause-names c = c.keys.ensures.rest ∙ sym (map-map (λ column. column.0) column_of c.args.self.now.fields.entries)
