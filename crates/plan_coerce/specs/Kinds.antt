-- What coercion makes of an expression, one replacement after another. These are of four kinds.
use Rattle.std.specs.Prelude.{◌≡◌, ◌⊎◌, ℕ, ℤ, zero, suc, true, false, Some, Ok}
use Rattle.plan_types.specs.Schemas.{Columns}
use Rattle.plan_types.specs.Types.{Ty, Truth, Untyped, same_type}
use Rattle.plan_types.specs.Values.{Val}
use Rattle.plan_types.specs.declared.dtype.CastOptions.{CastOptions}
use Rattle.plan_dsl.specs.declared.operator.Operator.{Operator}
use Rattle.plan_dsl.specs.InlinedCasts.{is_logical, literal_cast}
use Rattle.plan_dsl.specs.Ops.{Op, BinaryOp, CastOp, LiteralOp, Expression}
use Rattle.plan_dsl.specs.Registry.{Registry}
use Rattle.plan_dsl.specs.Strictness.{cast_to, integer_has, number_literal}
use Rattle.plan_dsl.specs.Trees.{Trees, node, no_more, more}
use Rattle.plan_dsl.specs.Typing.{Typed, typing}

-- A cast to another type is put round an expression; a number without a type gets one that has it; a cast of a literal
-- becomes a literal; a cast of LogicalAnd or LogicalOr to truth values is gone.
pub data IsOfAKind (registry : Registry) (schema : Columns) (before after : Expression) : Type 0 where
  cast_put : (own : Typed) (target : Ty) (typed : typing registry schema before ≡ Ok own) (other : same_type own.type target ≡ false) (is : after ≡ cast_to target before) → IsOfAKind registry schema before after
  number_typed : (number : ℤ) (type : Ty) (has : integer_has type number ≡ true) (was : before ≡ number_literal (Untyped number) number) (is : after ≡ number_literal type number) → IsOfAKind registry schema before after
  literal_told : (from target : Ty) (value : Val) (options : CastOptions) (was : before ≡ node (CastOp target options) (more (node (LiteralOp from value) no_more) no_more)) (is : literal_cast from value target options ≡ Some after) → IsOfAKind registry schema before after
  cast_gone : (options : CastOptions) (operator : Operator) (operands : Trees Op) (logical : is_logical operator ≡ true) (was : before ≡ node (CastOp Truth options) (more (node (BinaryOp operator) operands) no_more)) (is : after ≡ node (BinaryOp operator) operands) → IsOfAKind registry schema before after

-- one replacement, at one node of an expression, or of one of several
abbrev mutual
  pub IsStep : Registry → Columns → Expression → Expression → Type 0
  IsStep registry schema (node op ts) after =
      IsOfAKind registry schema (node op ts) after ⊎ ((us : Trees Op) × (after ≡ node op us) × IsStepAmong registry schema ts us)

  pub IsStepAmong : Registry → Columns → Trees Op → Trees Op → Type 0
  IsStepAmong registry schema (more t ts) (more u us) = (IsStep registry schema t u × (us ≡ ts)) ⊎ ((u ≡ t) × IsStepAmong registry schema ts us)
  IsStepAmong registry schema no_more us = ⊥
  IsStepAmong registry schema (more t ts) no_more = ⊥

-- so many, one after another
abbrev pub AreSteps : Registry → Columns → ℕ → Expression → Expression → Type 0
AreSteps registry schema zero before after = after ≡ before
AreSteps registry schema (suc n) before after = (between : Expression) × IsStep registry schema before between × AreSteps registry schema n between after

-- the one expression becomes the other by such replacements
pub record Becomes (registry : Registry) (schema : Columns) (before after : Expression) : Type 0 where
  pub count : ℕ
  pub steps : AreSteps registry schema count before after
