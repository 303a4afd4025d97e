use Rattle.std.proofs.Common.{◌≡◌, [], true, false, pos, refl, ap, ◌∙◌, inl, inr}
use Rattle.plan_types.specs.Types.{Ty, same_type}
use Rattle.plan_types.specs.Values.{IntValue}
use Rattle.plan_types.specs.declared.dtype.CastOptions.TheVariants.{NonStrict}
use Rattle.plan_dsl.specs.Ops.{Expression}
use Rattle.plan_dsl.specs.Strictness.{cast_to}
use Rattle.plan_dsl.specs.Trees.{no_more, more}
use Rattle.plan_dsl.specs.Typing.{Typed, typing}
use Rattle.plan_dsl.proofs.TypingLemmas.{ok_same}
use Rattle.plan_dsl.specs.declared.operator.Operator.TheVariants.{LogicalAnd}
use Rattle.plan_infer.specs.Samples.{int8, int32, two_columns, of_type, a, b}
use Rattle.plan_coerce.specs.Kinds.{cast_gone, cast_put, literal_told, number_typed}
use Rattle.plan_coerce.specs.Samples.{wide}
use Rattle.plan_coerce.proofs.examples.coercions.replacements_by_kind.Goals as goal

pub returns-clause-cast_put : goal.returns-clause-cast_put
returns-clause-cast_put c = inr (more wide (more b no_more), refl, inl (inl (cast_put (of_type int8) int32 refl refl refl), refl))

one_target : (target : Ty) (x : Expression) → cast_to int8 x ≡ cast_to target x → int8 ≡ target
one_target target x e = cc

pub returns-clause-same_type : goal.returns-clause-same_type
returns-clause-same_type c = λ kind. elim kind as (λ _. ⊥) [
  | cast_put own target typed other is ↦
      let type : int8 ≡ own.type = ap (λ (t : Typed). t.type) (ok_same (typing [] two_columns a) (of_type int8) own refl typed) in
      let differs : true ≡ false = ap (same_type int8) (one_target target a is) ∙ ap (λ t. same_type t target) type ∙ other in
      cc
  | number_typed number type has was is ↦ cc
  | literal_told from target value options was is ↦ cc
  | cast_gone options operator operands logical was is ↦ cc
]

pub returns-clause-number_typed : goal.returns-clause-number_typed
returns-clause-number_typed c = number_typed (pos 5) int8 refl refl refl

pub returns-clause-literal_told : goal.returns-clause-literal_told
returns-clause-literal_told c = literal_told int32 int8 (IntValue (pos 5)) NonStrict refl refl

pub returns-clause-cast_gone : goal.returns-clause-cast_gone
returns-clause-cast_gone c = cast_gone NonStrict LogicalAnd (more a (more b no_more)) refl refl refl
