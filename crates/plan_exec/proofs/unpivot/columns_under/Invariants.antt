use Rattle.std.proofs.Common.{◌≡◌, map, take}
use Rattle.plan_types.specs.FrameFaults.{shown}
use Rattle.plan_exec.specs.ColumnFunctions.{columns_named}
use Rattle.plan_exec.proofs.unpivot.columns_under.Given as goal

abbrev pub invariant-loop-name : goal.invariant-loop-name
invariant-loop-name l = map (λ column. shown column.now) l.found.items ≡ columns_named (map shown l.columns) (take l.name-index l.names)
