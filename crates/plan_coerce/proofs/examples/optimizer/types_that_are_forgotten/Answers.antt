use Rattle.std.proofs.Common.{◌≡◌, ℕ, zero, suc, true, List, [], ◌∷◌, Some, refl, sym, ap, ◌∙◌, subst, inl, inr, ⊎_elim}
use Rattle.plan_types.specs.declared.dtype.DataType.{DataType}
use Rattle.plan_types.specs.declared.dtype.DataType.TheVariants as dtype
use Rattle.plan_types.specs.declared.dtype.CastOptions.TheVariants.{NonStrict}
use Rattle.plan_dsl.specs.declared.operator.Operator.{Operator}
use Rattle.plan_dsl.specs.InlinedCasts.{is_cast_op}
use Rattle.plan_dsl.specs.Ops.{Op, BinaryOp, CastOp}
use Rattle.plan_arena.specs.declared.aexpr.AExpr.{AExpr}
use Rattle.plan_arena.specs.Items.{HoldsExpression}
use Rattle.plan_infer.specs.declared.type_table.Inferred.{Inferred}
use Rattle.plan_infer.specs.declared.type_table.TypeTable.{TypeTable}
use Rattle.plan_infer.specs.KeptTypes.{KeepsEntry}
use Rattle.plan_infer.proofs.TableLemmas.{extends_itself}
use Rattle.plan_infer.specs.Samples.{int32, columns_and, sum_items}
use Rattle.plan_coerce.specs.CoercionRule.{ForgetsAt}
use Rattle.plan_coerce.specs.Samples.{cast_of}
use Rattle.plan_coerce.proofs.ExampleLemmas.{entry_kept, no_entry_kept, one_entry_kept}
use Rattle.plan_coerce.proofs.examples.optimizer.types_that_are_forgotten.Goals as goal

abbrev cast_items : List AExpr
cast_items = columns_and (cast_of 0 dtype.Int32 ∷ [])

pub returns-clause-as_they_are : goal.returns-clause-as_they_are
returns-clause-as_they_are c = λ own n d m o table first entries. record { own = own; keeps = entry_kept table own first entries; none = o }

some_types : (t : DataType) (ts : List DataType) → t ∷ ts ≡ [] → ⊥
some_types t ts e = cc

pub returns-clause-listed : goal.returns-clause-listed
returns-clause-listed c = λ own n d m o table first entries kept.
    some_types dtype.Int8 [] (sym o ∙ ap (λ (e : Inferred). e.operands) (one_entry_kept table own kept.own first entries kept.keeps) ∙ kept.none)

pub returns-clause-nothing : goal.returns-clause-nothing
returns-clause-nothing c = λ table first entries. no_entry_kept table first entries

pub returns-clause-something : goal.returns-clause-something
returns-clause-something c = λ own n d m o table first entries none. none 2 (record { own = own; keeps = entry_kept table own first entries })

pub returns-clause-stays : goal.returns-clause-stays
returns-clause-stays c = λ table. inl (extends_itself table)

pub returns-clause-forgotten : goal.returns-clause-forgotten
returns-clause-forgotten c = λ table none first entries. inr (tt, no_entry_kept none first entries)

pub returns-clause-lost : goal.returns-clause-lost
returns-clause-lost c = λ own n d m o table first entries none first' entries' kept.
    ⊎_elim
    (λ extends. no_entry_kept none first' entries' 2 (record { own = own; keeps = extends.entries 2 own (entry_kept table own first entries) }))
    (λ forgets. absurd forgets.0)
    kept

forgets : (own : Inferred) (table : TypeTable) → own.operands ≡ dtype.Int8 ∷ [] → table.first ≡ 2 → table.entries.items ≡ Some own ∷ [] → ForgetsAt cast_items table 2
forgets own table o first entries = record {
  op = CastOp int32 NonStrict;
  inputs = 0 ∷ [];
  held = refl;
  cast = refl;
  node = 2;
  is = inl refl;
  own = own;
  keeps = entry_kept table own first entries;
  listed = λ none. some_types dtype.Int8 [] (sym o ∙ none);
}

pub returns-clause-cast : goal.returns-clause-cast
returns-clause-cast c = λ own n d m o table first entries. forgets own table o first entries

pub returns-clause-once_typed : goal.returns-clause-once_typed
returns-clause-once_typed c = λ own n d m o table first entries none first' entries'. record {
  typed = table;
  extends = record { entries = λ k other keeps. absurd (no_entry_kept none first' entries' k (record { own = other; keeps = keeps })) };
  forgets = forgets own table o first entries;
}

-- the table keeps nothing of an operator there, since the arena has none
no_operator : (k : ℕ) (operator : Operator) (operands : List ℕ) → HoldsExpression cast_items k (BinaryOp operator) operands → ⊥
no_operator zero operator operands held = cc
no_operator (suc zero) operator operands held = cc
no_operator (suc (suc zero)) operator operands held = cc
no_operator (suc (suc (suc k))) operator operands held = cc

pub returns-clause-strict_cast : goal.returns-clause-strict_cast
returns-clause-strict_cast c = λ own n d m o table first entries f.
    ⊎_elim
    (λ here. f.listed (subst (λ (e : Inferred). e.operands ≡ []) (one_entry_kept table own f.own first entries (subst (λ k. KeepsEntry table k f.own) here f.keeps)) o))
    (λ below. no_operator f.node below.0 below.1 below.3)
    f.is

no_cast : (op : Op) (inputs : List ℕ) → HoldsExpression sum_items 2 op inputs → is_cast_op op ≡ true → ⊥
no_cast (CastOp target options) inputs held cast = cc
no_cast op inputs held cast = cc

pub returns-clause-sum : goal.returns-clause-sum
returns-clause-sum c = λ table f. no_cast f.op f.inputs f.held f.cast

pub returns-clause-anywhere : goal.returns-clause-anywhere
returns-clause-anywhere c = λ table never. never [] table 0 tt

pub returns-clause-always : goal.returns-clause-always
returns-clause-always c = λ items table n f. f
