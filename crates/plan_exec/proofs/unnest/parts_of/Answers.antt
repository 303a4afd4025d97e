use Rattle.plan_exec.proofs.PartedLemmas.{no_parts, struct_parts}
use Rattle.plan_exec.proofs.unnest.parts_of.Goals as goal

pub returns-in-Struct : goal.returns-in-Struct
returns-in-Struct c = struct_parts c.args.value c.in-Struct.parts c.in-Struct.is

pub returns : goal.returns
returns c = no_parts c.args.value c.new.result.items c.in_default.not-Struct c.new.ensures.items
