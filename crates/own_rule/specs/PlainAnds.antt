-- LogicalAnd of two operands of truth values. Of such values And gives the same, so it may stand in its place.
use Rattle.std.specs.Prelude.{ℕ, Bool, true, false, ◌&&◌, List, [], ◌∷◌, Result, Ok, if◌then◌else◌}
use Rattle.plan_types.specs.Types.{is_truth}
use Rattle.plan_types.specs.Schemas.{Columns}
use Rattle.plan_types.specs.declared.error.ErrorKind.{ErrorKind}
use Rattle.plan_dsl.specs.declared.operator.Operator.TheVariants.{And, LogicalAnd}
use Rattle.plan_dsl.specs.Ops.{Op, BinaryOp, Expression}
use Rattle.plan_dsl.specs.Registry.{Registry}
use Rattle.plan_dsl.specs.Typing.{Typed}
use Rattle.plan_coerce.specs.Rules.{Inputs}
use Rattle.own_rule.specs.OpChanges.{HasSameChanged, changed, stays_by, until_stays_by}

abbrev pub is_logical_and : Op → Bool
is_logical_and (BinaryOp LogicalAnd) = true
is_logical_and op = false

-- whether operands that are typed so are two of truth values
abbrev pub are_truths : Result (List Typed) ErrorKind → Bool
are_truths (Ok (left ∷ right ∷ [])) = is_truth left.type && is_truth right.type
are_truths typings = false

-- whether the node is one of these, where operands are typed so, and what it does instead
abbrev pub is_of_truths : Op → Result (List Typed) ErrorKind → Bool
is_of_truths op typings = is_logical_and op && are_truths typings

abbrev pub plain_op : Op → Result (List Typed) ErrorKind → Op
plain_op op typings = if is_of_truths op typings then BinaryOp And else op

-- an expression with none of them
abbrev pub plain : Registry → Columns → Expression → Expression
plain = changed plain_op

-- ---- what the rule says

-- whether a node stays as it is, and how often it is replaced until it does
abbrev pub is_plain : Registry → Columns → Op → Inputs → Bool
is_plain = stays_by is_of_truths

abbrev pub until_plain : Registry → Columns → Op → Inputs → ℕ
until_plain = until_stays_by is_of_truths

-- both are one expression without such nodes
abbrev pub HasSamePlain : Registry → Columns → Expression → Expression → Type 0
HasSamePlain = HasSameChanged plain_op
