use Rattle.std.proofs.Common.{map, option_map, take}
use Rattle.plan_types.specs.FrameFaults.{shown}
use Rattle.plan_exec.specs.ColumnFunctions.{is_kept}
use Rattle.plan_exec.proofs.CountLemmas.{Counted}
use Rattle.plan_exec.proofs.explode.row_counts.Given as goal

abbrev pub invariant-loop-column : goal.invariant-loop-column
invariant-loop-column l = Counted (is_kept l.names.keys) (option_map (λ counts. counts.items) l.found) (map shown (take l.column-index l.columns))
