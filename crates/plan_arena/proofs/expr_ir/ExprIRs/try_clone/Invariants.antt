use Rattle.std.proofs.Common.{◌≡◌, take}
use Rattle.plan_arena.proofs.expr_ir.ExprIRs.try_clone.Given as goal

abbrev pub invariant-loop-expr : goal.invariant-loop-expr
invariant-loop-expr l = l.items.items ≡ take l.expr-index l.expr-items
