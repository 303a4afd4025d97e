use Rattle.std.proofs.Common.{◌≡◌, map, take}
use Rattle.plan_types.specs.FrameFaults.{shown}
use Rattle.plan_types.specs.Types.{ty}
use Rattle.plan_types.specs.ValueViews.{val_of}
use Rattle.plan_exec.specs.ColumnFunctions.{values_below}
use Rattle.plan_exec.proofs.unpivot.values_column.Given as goal

abbrev pub invariant-loop-column : goal.invariant-loop-column
invariant-loop-column l = (map val_of l.values.items ≡ values_below (ty l.dtype) (map (λ column. shown column.now) (take l.column-index l.columns))) × (ty l.dtype ≡ ty l.initial.dtype)
