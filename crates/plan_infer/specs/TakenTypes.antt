-- The types to which a node takes its operands.
use Rattle.std.specs.Prelude.{List, [], ◌∷◌}
use Rattle.plan_types.specs.declared.dtype.DataType.{DataType}
use Rattle.plan_infer.specs.declared.taken_types.Kept.{Kept}
use Rattle.plan_infer.specs.declared.taken_types.Kept.TheVariants.{Nothing, Both, Listed}

-- the types that are kept, in order
abbrev pub kept_types : Kept → List DataType
kept_types Nothing = []
kept_types (Both dtype) = dtype ∷ dtype ∷ []
kept_types (Listed types) = types.items
