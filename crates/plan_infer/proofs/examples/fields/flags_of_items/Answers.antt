use Rattle.std.proofs.Common.{◌≡◌, ◌&&◌, [], Bool, true, false, Ok, pos, codes, refl, ap, ◌∙◌}
use Rattle.plan_types.specs.Schemas.{Columns}
use Rattle.plan_dsl.specs.Literals.{literal_op}
use Rattle.plan_dsl.specs.declared.literal.LiteralValue.TheVariants.{Int}
use Rattle.plan_dsl.specs.Ops.{ColumnOp, Expression}
use Rattle.plan_dsl.specs.Typing.{Typed, typing}
use Rattle.plan_infer.specs.Samples.{int8, of_type, one_column, a, five}
use Rattle.plan_infer.proofs.ItemTreeLemmas.{flag_stays, leaf_item}
use Rattle.plan_infer.proofs.examples.fields.flags_of_items.Goals as goal

-- the flag over an expression of a known typing
over : (schema : Columns) (t u : Expression) (own typed : Typed) (old new : Bool) → t ≡ u → typing [] schema u ≡ Ok own → new ≡ (old && own.many) → typing [] schema t ≡ Ok typed → new ≡ (old && typed.many)
over schema t u own typed old new same is flag also = flag_stays [] schema t own typed old new flag (ap (typing [] schema) same ∙ is) also

pub returns-clause-column : goal.returns-clause-column
returns-clause-column c = λ t typed d is. over (one_column int8) t a (of_type int8) typed true true (leaf_item [] (ColumnOp (codes "a")) t d) refl refl is

pub returns-clause-falls : goal.returns-clause-falls
returns-clause-falls c = λ stays. let e = stays a (of_type int8) (refl, tt) refl in cc

pub returns-clause-fallen : goal.returns-clause-fallen
returns-clause-fallen c = λ t typed d is. refl

pub returns-clause-number : goal.returns-clause-number
returns-clause-number c = λ t typed d is. over [] t five _ typed true false (leaf_item [] (literal_op (Int (pos 5))) t d) refl refl is
