use Rattle.plan_arena.proofs.ItemLemmas.{any_node}
use Rattle.checks.proofs.fields.ask_recorded.Goals as goal

pub field-field-requires : goal.field-field-requires
field-field-requires c w = record { tree = _; denotes = any_node _ _ _ _ w.in-Ok.ensures.denotes }
