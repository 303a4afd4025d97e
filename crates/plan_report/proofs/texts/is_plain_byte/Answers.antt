use Rattle.std.proofs.Common.{rules}
use Rattle.std.proofs.lemmas.Bool.{leb-true}
use Rattle.plan_report.proofs.PlainLemmas.{plain_byte}
use Rattle.plan_report.proofs.texts.is_plain_byte.Goals as goal

pub returns-in_default : goal.returns-in_default
returns-in_default c h = plain_byte c.args.byte (leb-true 32 c.args.byte h) (search rules) (search rules)
