use Rattle.std.proofs.Common.{◌≡◌, ◌++◌, ◌+◌, ◌≤◌, length, reverse, take}
use Rattle.plan_arena.specs.Items.{numbers}
use Rattle.plan_arena.proofs.aexpr.push_in_room.Given as goal

-- the inputs from a number on are appended, and there is room for the others
abbrev pub invariant-loop-left : goal.invariant-loop-left
invariant-loop-left l =
    record {
      appended : numbers l.nodes.items ++ reverse (take l.left l.inputs) ≡ numbers l.initial.nodes.items ++ reverse l.inputs;
      within : l.left ≤ length l.inputs;
      room : length l.nodes.items + l.left ≤ l.nodes.capacity;
    }

abbrev pub decreases-loop-left : goal.decreases-loop-left
decreases-loop-left l = l.left
