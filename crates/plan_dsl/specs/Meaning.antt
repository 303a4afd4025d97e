-- What an expression means.
-- Each node first casts its operands, not strictly, to the types to which it takes them, and then does
-- what its kernel says; a window asks its first operand on the rows of each group, and not on all. A fault of an operand is a
-- fault of the node. What has no type means nothing.
use Rattle.std.specs.Prelude.{List, [], ◌∷◌, Result, Ok, Err}
use Rattle.plan_types.specs.Types.{Ty}
use Rattle.plan_types.specs.Outcomes.{then_do}
use Rattle.plan_types.specs.Frames.{Frame}
use Rattle.plan_types.specs.declared.error.ErrorKind.{ErrorKind}
use Rattle.plan_types.specs.declared.dtype.CastOptions.TheVariants.{NonStrict}
use Rattle.plan_dsl.specs.Registry.{Registry}
use Rattle.plan_dsl.specs.Trees.{Trees, node, no_more, more}
use Rattle.plan_dsl.specs.Ops.{Op, WindowOp, Expression}
use Rattle.plan_dsl.specs.Typing.{Typed, Ruling, rule, types_of, typing_all}
use Rattle.plan_dsl.specs.Kernels.{Meaning, stuck, given, cast_meaning, kernel}
use Rattle.plan_dsl.specs.Windows.{window_values}

-- operands of the first types, cast to the second
abbrev pub taken_to : List Ty → List Ty → List Meaning → List Meaning
taken_to [] targets operands = []
taken_to (from ∷ types) [] operands = []
taken_to (from ∷ types) (target ∷ targets) [] = []
taken_to (from ∷ types) (target ∷ targets) (operand ∷ operands) = cast_meaning from target NonStrict operand ∷ taken_to types targets operands

-- what a node gives of operands that have the types to which it takes them
abbrev pub applied : Registry → Frame → Op → Ruling → List Meaning → Meaning
applied registry frame (WindowOp order) ruling (function ∷ operands) rows = then_do (given operands rows) (window_values order function rows)
applied registry frame op ruling operands rows =
    then_do (given operands rows) (kernel registry frame rows op ruling.operands ruling.own.type)

-- a node over operands of these types, by its rule
abbrev pub ruled_meaning : Registry → Frame → Op → List Ty → Result Ruling ErrorKind → List Meaning → Meaning
ruled_meaning registry frame op types (Err kind) operands = stuck
ruled_meaning registry frame op types (Ok ruling) operands = applied registry frame op ruling (taken_to types ruling.operands operands)

abbrev pub node_meaning : Registry → Frame → Op → Result (List Typed) ErrorKind → List Meaning → Meaning
node_meaning registry frame op (Err kind) operands = stuck
node_meaning registry frame op (Ok typed) operands = ruled_meaning registry frame op (types_of typed) (rule registry frame.schema op typed) operands

abbrev mutual
  pub meaning : Registry → Frame → Expression → Meaning
  meaning registry frame (node op children) = node_meaning registry frame op (typing_all registry frame.schema children) (meaning_all registry frame children)

  pub meaning_all : Registry → Frame → Trees Op → List Meaning
  meaning_all registry frame no_more = []
  meaning_all registry frame (more child rest) = meaning registry frame child ∷ meaning_all registry frame rest
