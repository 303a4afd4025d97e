-- How an expression runs as it is written.
-- Nothing is cast but by the casts that are written: a node whose operands have other types than those to
-- which it takes them is stuck, and so are an alias, a number without a type, and what has no type at all. Else the node
-- does what its kernel says.
use Rattle.std.specs.Prelude.{List, [], ◌∷◌, ◌&&◌, Result, Ok, Err, if◌then◌else◌}
use Rattle.plan_types.specs.Types.{Ty}
use Rattle.plan_types.specs.Frames.{Frame}
use Rattle.plan_types.specs.declared.error.ErrorKind.{ErrorKind}
use Rattle.plan_dsl.specs.Registry.{Registry}
use Rattle.plan_dsl.specs.Aliases.{is_core_op}
use Rattle.plan_dsl.specs.Trees.{Trees, node, no_more, more}
use Rattle.plan_dsl.specs.Ops.{Op, Expression}
use Rattle.plan_dsl.specs.Typing.{Typed, Ruling, rule, types_of, typing_all}
use Rattle.plan_dsl.specs.Kernels.{Meaning, stuck}
use Rattle.plan_dsl.specs.Meaning.{applied}
use Rattle.plan_dsl.specs.Strictness.{takes_own}

-- a node over operands of these types, by its rule
abbrev pub ruled_run : Registry → Frame → Op → List Ty → Result Ruling ErrorKind → List Meaning → Meaning
ruled_run registry frame op types (Err kind) operands = stuck
ruled_run registry frame op types (Ok ruling) operands = if is_core_op op && takes_own types ruling then applied registry frame op ruling operands else stuck

abbrev pub node_run : Registry → Frame → Op → Result (List Typed) ErrorKind → List Meaning → Meaning
node_run registry frame op (Err kind) operands = stuck
node_run registry frame op (Ok typed) operands = ruled_run registry frame op (types_of typed) (rule registry frame.schema op typed) operands

abbrev mutual
  pub strict_run : Registry → Frame → Expression → Meaning
  strict_run registry frame (node op children) = node_run registry frame op (typing_all registry frame.schema children) (strict_run_all registry frame children)

  pub strict_run_all : Registry → Frame → Trees Op → List Meaning
  strict_run_all registry frame no_more = []
  strict_run_all registry frame (more child rest) = strict_run registry frame child ∷ strict_run_all registry frame rest
