use Rattle.std.proofs.Common.{◌≡◌, filter, map, not, take}
use Rattle.plan_types.specs.FrameFaults.{shown}
use Rattle.plan_types.specs.Schemas.{is_among}
use Rattle.plan_exec.proofs.unpivot.columns_beside.Given as goal

abbrev pub invariant-loop-column : goal.invariant-loop-column
invariant-loop-column l = map (λ column. shown column.now) l.found.items ≡ filter (λ column. not (is_among column.0.0 l.fn.names)) (map shown (take l.column-index l.columns))
