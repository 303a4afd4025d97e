use Rattle.plan_arena.proofs.ItemLemmas.{item_depth}
use Rattle.plan_arena.proofs.ir.IR.+schema_ref.Given as goal

abbrev pub decreases-schema_ref : goal.decreases-schema_ref
decreases-schema_ref l = item_depth l.arena.now l.self.now
