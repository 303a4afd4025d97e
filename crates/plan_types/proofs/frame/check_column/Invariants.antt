use Rattle.std.proofs.Common.{◌≡◌, drop}
use Rattle.plan_types.specs.Types.{ty}
use Rattle.plan_types.specs.FrameFaults.{vals_of, misfit_from}
use Rattle.plan_types.proofs.frame.check_column.Given as goal

abbrev pub invariant-loop-row : goal.invariant-loop-row
invariant-loop-row l =
    misfit_from 0 l.column.name (ty l.column.dtype) (vals_of l.column.values)
    ≡ misfit_from l.row l.column.name (ty l.column.dtype) (drop l.row (vals_of l.column.values))
