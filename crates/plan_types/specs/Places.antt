-- Places in a plan.
-- A place is the list of the child numbers on the way from the top node to a node.
use Rattle.std.specs.Prelude.{ℕ, List, [], Option, Some, None, reverse}
use Rattle.std.specs.Global.{Vec}

-- steps that are kept from the node upwards, in the order from the top
abbrev pub outermost_first : Option (Vec ℕ) → List ℕ
outermost_first None = []
outermost_first (Some steps) = reverse steps.items
