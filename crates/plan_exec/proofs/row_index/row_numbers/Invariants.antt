use Rattle.std.proofs.Common.{◌≡◌, ◌+◌, ◌%◌, ◌^◌, false, map}
use Rattle.std.specs.List.{range_with_len}
use Rattle.plan_types.specs.Types.{Integer}
use Rattle.plan_types.specs.ValueViews.{val_of}
use Rattle.plan_dsl.specs.Aggregates.{count_value}
use Rattle.plan_exec.proofs.row_index.row_numbers.Given as goal

abbrev pub invariant-loop : goal.invariant-loop
invariant-loop l = (map val_of l.values.items ≡ map (λ number. count_value (Integer false 32) (l.fn.first + number)) (range_with_len 0 l.counter)) × (l.number ≡ (l.fn.first + l.counter) % 2 ^ 32)
