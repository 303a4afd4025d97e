-- Layers.
-- An item of an arena is what it does, and the numbers of its inputs in order.
use Rattle.std.specs.Prelude.{ℕ, List, map}

pub data Layer (Op : Type 0) : Type 0 where
  layer : Op → List ℕ → Layer Op

abbrev pub inputs_of : {Op : Type 0} → Layer Op → List ℕ
inputs_of (layer op inputs) = inputs

abbrev pub op_of : {Op : Type 0} → Layer Op → Op
op_of (layer op inputs) = op

-- the inputs of each item
abbrev pub shape_of : {Op : Type 0} → List (Layer Op) → List (List ℕ)
shape_of layers = map inputs_of layers
