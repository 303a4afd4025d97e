use Rattle.plan_report.proofs.TextLemmas.{fields_as_schema}
use Rattle.plan_report.proofs.examples.nested_type_examples.Goals as goal

pub returns-clause-as_schema : goal.returns-clause-as_schema
returns-clause-as_schema c columns = fields_as_schema columns
