use Rattle.plan_json.proofs.Names.{refl, type_rows}
use Rattle.plan_json.proofs.FormLemmas.{named_plain}
use Rattle.plan_json.proofs.forms.find_type.Goals as goal

pub returns-in-Some-clause-plain : goal.returns-in-Some-clause-plain
returns-in-Some-clause-plain c = named_plain type_rows c.args.word.now (c.in-Some.word.now, c.in-Some.key) refl c.in-Some.ensures.row
