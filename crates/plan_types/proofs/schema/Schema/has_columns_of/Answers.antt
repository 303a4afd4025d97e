use Rattle.plan_types.proofs.SchemaPairLemmas.{same_columns}
use Rattle.plan_types.proofs.schema.Schema.has_columns_of.Goals as goal

pub returns : goal.returns
returns c =
    same_columns c.args.self.now.fields.entries c.args.other.now.fields.entries c.eq.result (rw (c.as_slice.ensures.entries, c.as_slice-2.ensures.entries) at c.eq.ensures)
