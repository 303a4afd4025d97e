-- Strict casts to the type that their operand has. They have no fault, so they needn't be strict.
use Rattle.std.specs.Prelude.{ℕ, Bool, true, false, List, [], ◌∷◌, Result, Ok, if◌then◌else◌}
use Rattle.plan_types.specs.Types.{same_type}
use Rattle.plan_types.specs.Schemas.{Columns}
use Rattle.plan_types.specs.declared.error.ErrorKind.{ErrorKind}
use Rattle.plan_types.specs.declared.dtype.CastOptions.TheVariants.{Strict, NonStrict}
use Rattle.plan_dsl.specs.Ops.{Op, CastOp, Expression}
use Rattle.plan_dsl.specs.Registry.{Registry}
use Rattle.plan_dsl.specs.Trees.{Trees}
use Rattle.plan_dsl.specs.Typing.{Typed}
use Rattle.plan_coerce.specs.Rules.{Inputs}
use Rattle.own_rule.specs.OpChanges.{HasSameChanged, all_changed, changed, stays_by, until_stays_by}

abbrev pub is_strict_cast : Op → Bool
is_strict_cast (CastOp target Strict) = true
is_strict_cast op = false

-- whether it is one to the type that its operand has, where operands are typed so
abbrev pub is_needless : Op → Result (List Typed) ErrorKind → Bool
is_needless (CastOp target Strict) (Ok (operand ∷ [])) = same_type operand.type target
is_needless op typings = false

-- what it does instead
abbrev pub relaxed_op : Op → Result (List Typed) ErrorKind → Op
relaxed_op (CastOp target Strict) (Ok (operand ∷ [])) =
    if same_type operand.type target then CastOp target NonStrict else CastOp target Strict
relaxed_op op typings = op

-- an expression with none of them
abbrev pub relaxed : Registry → Columns → Expression → Expression
relaxed = changed relaxed_op

abbrev pub relaxed_all : Registry → Columns → Trees Op → Trees Op
relaxed_all = all_changed relaxed_op

-- ---- what the rule says

-- whether a node stays as it is, and how often it is replaced until it does
abbrev pub is_relaxed : Registry → Columns → Op → Inputs → Bool
is_relaxed = stays_by is_needless

abbrev pub until_relaxed : Registry → Columns → Op → Inputs → ℕ
until_relaxed = until_stays_by is_needless

-- both are one expression without such casts
abbrev pub HasSameRelaxed : Registry → Columns → Expression → Expression → Type 0
HasSameRelaxed = HasSameChanged relaxed_op
