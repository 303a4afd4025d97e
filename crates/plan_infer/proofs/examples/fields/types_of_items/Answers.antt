use Rattle.std.proofs.Common.{◌≡◌, [], codes, get_or, refl, sym, ap, ◌∙◌, subst, arith}
use Rattle.plan_types.specs.Types.{ty}
use Rattle.plan_types.specs.declared.dtype.DataType.TheVariants.{Int8}
use Rattle.plan_dsl.specs.Ops.{ColumnOp}
use Rattle.plan_infer.specs.declared.field.Context.TheVariants.{Default, Aggregation}
use Rattle.plan_infer.specs.Fields.{IsFieldOf}
use Rattle.plan_infer.specs.ItemTrees.{IsTypeOf}
use Rattle.plan_infer.specs.Samples.{int8, of_type, one_column, a}
use Rattle.plan_infer.proofs.ItemTreeLemmas.{leaf_item}
use Rattle.plan_infer.proofs.examples.fields.types_of_items.Goals as goal

pub returns-clause-alone : goal.returns-clause-alone
returns-clause-alone c = record { typed = of_type int8; typed_is = refl; type = refl }

pub returns-clause-in_an_aggregation : goal.returns-clause-in_an_aggregation
returns-clause-in_an_aggregation c = λ dtype is. record { typed = of_type int8; typed_is = refl; type = is }

not_wide : IsTypeOf [] (one_column int8) Default a Rattle.plan_types.specs.declared.dtype.DataType.TheVariants.Int16 → ⊥
not_wide is = let e = is.typed_is in let f = is.type in cc

not_alone : IsTypeOf [] (one_column int8) Aggregation a Int8 → ⊥
not_alone is = let e = is.typed_is in let f = is.type in cc

no_column : IsTypeOf [] [] Default a Int8 → ⊥
no_column is = let e = is.typed_is in cc

pub returns-clause-other : goal.returns-clause-other
returns-clause-other c = (λ is. not_wide is, λ is. not_alone is, λ is. no_column is)

pub returns-clause-item : goal.returns-clause-item
returns-clause-item c = λ t d.
    subst (λ t. IsTypeOf [] (one_column int8) Default t Int8) (sym (leaf_item [] (ColumnOp (codes "a")) t d)) (record { typed = of_type int8; typed_is = refl; type = refl })

pub returns-clause-other_item : goal.returns-clause-other_item
returns-clause-other_item c = λ is. not_wide (is a (refl, tt))

pub returns-clause-field : goal.returns-clause-field
returns-clause-field c = λ field name dtype t d.
    subst (λ t. IsFieldOf [] (one_column int8) Default t field) (sym (leaf_item [] (ColumnOp (codes "a")) t d)) (record { name = name; typed = of_type int8; typed_is = refl; type = ap ty dtype })

pub returns-clause-other_name : goal.returns-clause-other_name
returns-clause-other_name c = λ field name is.
    let first : 98 ≡ 97 = ap (λ l. get_or l 0 0) (sym name ∙ (is a (refl, tt)).name) in
    absurd (omega (arith, first))
