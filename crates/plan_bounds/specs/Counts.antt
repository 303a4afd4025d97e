-- What coercion adds to an expression, and how many casts and nodes there are: as it stands, or with its horizontals written
-- out.
use Rattle.std.specs.Prelude.{ℕ, zero, suc, ◌+◌, sum, length, is_some, Bool, false, not, ◌&&◌, List, [], ◌∷◌, Result, Ok, Err, if◌then◌else◌}
use Rattle.plan_types.specs.declared.error.ErrorKind.{ErrorKind}
use Rattle.plan_types.specs.Types.{Ty, Truth, Untyped, same_type}
use Rattle.plan_types.specs.Schemas.{Columns}
use Rattle.plan_types.specs.Values.{IntValue}
use Rattle.plan_types.specs.declared.dtype.CastOptions.TheVariants.{NonStrict}
use Rattle.plan_dsl.specs.InlinedCasts.{literal_cast}
use Rattle.plan_dsl.specs.Registry.{Registry}
use Rattle.plan_dsl.specs.Trees.{Trees, node, no_more, more, fold}
use Rattle.plan_dsl.specs.Literals.{settled_type}
use Rattle.plan_dsl.specs.Ops.{Op, CastOp, Expression}
use Rattle.plan_dsl.specs.Counts.{expression_casts}
use Rattle.plan_dsl.specs.Typing.{Typed, Ruling, rule, types_of, typing_all}
use Rattle.plan_bounds.specs.LoweredPlans.{is_wide}

-- a cast stands round an operand that is made of another type, and round a number without a type only where no literal of the
-- type stands for it
abbrev pub changed_casts : Ty → Ty → ℕ
changed_casts (Untyped number) target = if is_some (literal_cast (settled_type (Untyped number)) (IntValue number) target NonStrict) then 0 else 1
changed_casts from target = 1

abbrev pub operand_casts : Ty → Ty → ℕ
operand_casts from target = if same_type from target then 0 else changed_casts from target

abbrev pub operands_casts : List Ty → List Ty → ℕ
operands_casts [] targets = 0
operands_casts (from ∷ types) [] = 0
operands_casts (from ∷ types) (target ∷ targets) = operand_casts from target + operands_casts types targets

-- ---- horizontals that are written out

-- A count goes by the nodes as they stand, or, where it says so, by what horizontals over few operands are written out to: a
-- literal over none, a cast over one, and over more the operators between them.
abbrev pub chain_nodes : ℕ → ℕ
chain_nodes zero = 1
chain_nodes (suc count) = count

-- whether a node over typed children is written out to a cast
abbrev pub becomes_cast : Op → List Typed → Bool
becomes_cast op (from ∷ []) = not (is_wide op 1)
becomes_cast op typed = false

-- ---- casts that are needed

-- round the operands of a node over typed children
abbrev pub ruled_casts : List Ty → Result Ruling ErrorKind → ℕ
ruled_casts types (Err kind) = 0
ruled_casts types (Ok ruling) = operands_casts types ruling.operands

-- such as is written out to a cast needs that one
abbrev pub node_casts : Bool → Registry → Columns → Op → Result (List Typed) ErrorKind → ℕ
node_casts write registry schema op (Err kind) = 0
node_casts write registry schema op (Ok typed) = if write && becomes_cast op typed then 1 else ruled_casts (types_of typed) (rule registry schema op typed)

-- those that coercion, or writing out, puts into an expression
abbrev mutual
  pub implicit_casts : Bool → Registry → Columns → Expression → ℕ
  implicit_casts write registry schema (node op children) = node_casts write registry schema op (typing_all registry schema children) + all_implicit_casts write registry schema children

  pub all_implicit_casts : Bool → Registry → Columns → Trees Op → ℕ
  all_implicit_casts write registry schema no_more = 0
  all_implicit_casts write registry schema (more child rest) = implicit_casts write registry schema child + all_implicit_casts write registry schema rest

-- the casts that an expression needs: those that are written, and these
abbrev pub needed_casts : Bool → Registry → Columns → Expression → ℕ
needed_casts write registry schema tree = expression_casts tree + implicit_casts write registry schema tree

-- ---- other nodes

-- how many nodes but casts there are, of a node over so many children, and at and below it
abbrev pub own_nodes : Bool → Op → ℕ → ℕ
own_nodes write (CastOp target options) count = 0
own_nodes write op count = if write && not (is_wide op count) then chain_nodes count else 1

abbrev pub other_nodes_step : Bool → Op → List ℕ → ℕ
other_nodes_step write op below = own_nodes write op (length below) + sum below

abbrev pub other_nodes : Bool → Expression → ℕ
other_nodes write tree = fold (other_nodes_step write) tree

-- ---- idle casts

-- whether the only operand has the type, or is a number without a type, that has it alone
abbrev pub is_already : Ty → Result (List Typed) ErrorKind → Bool
is_already target (Ok (from ∷ [])) = same_type (settled_type from.type) target
is_already target typed = false

-- whether a node is a cast to the type that its operand has so, or is written out to such a cast
abbrev pub is_idle : Bool → Op → Result (List Typed) ErrorKind → Bool
is_idle write (CastOp target options) typed = is_already target typed
is_idle write op typed = write && (not (is_wide op 1) && is_already Truth typed)

-- how many such casts there are
abbrev mutual
  pub idle_casts : Bool → Registry → Columns → Expression → ℕ
  idle_casts write registry schema (node op children) = (if is_idle write op (typing_all registry schema children) then 1 else 0) + all_idle_casts write registry schema children

  pub all_idle_casts : Bool → Registry → Columns → Trees Op → ℕ
  all_idle_casts write registry schema no_more = 0
  all_idle_casts write registry schema (more child rest) = idle_casts write registry schema child + all_idle_casts write registry schema rest
