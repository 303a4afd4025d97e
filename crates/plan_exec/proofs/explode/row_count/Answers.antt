use Rattle.std.proofs.Common.{rules}
use Rattle.std.proofs.Common.{ap, length, refl, sym}
use Rattle.plan_exec.proofs.ItemLemmas.{list_counted, other_exploded}
use Rattle.plan_exec.proofs.explode.row_count.Goals as goal

pub returns-in-List : goal.returns-in-List
returns-in-List c = list_counted c.args.value.now c.in-List.parts c.in-List.parts.items.items c.max.result c.in-List.is refl (search rules)

pub returns-in_default : goal.returns-in_default
returns-in_default c = sym (ap length (other_exploded c.args.value.now c.in_default.not-List))
