use Rattle.std.proofs.Common.{◌∙◌, ap}
use Rattle.plan_types.specs.Columns.{repeats}
use Rattle.plan_types.proofs.SchemaLemmas.{cloned_columns, cloned_names}
use Rattle.plan_types.proofs.schema.Schema.try_clone.Goals as goal

pub invariant_of-result : goal.invariant_of-result
invariant_of-result c = record {
  distinct = ap repeats (cloned_names c.args.self.now.fields.entries c.in_ok-fields.fields.entries c.in_ok-fields.ensures.cases) ∙ c.args.self.now.distinct;
}

pub returns-clause-ok : goal.returns-clause-ok
returns-clause-ok c = cloned_columns c.args.self.now.fields.entries c.in_ok-fields.fields.entries c.in_ok-fields.ensures.cases
