use Rattle.std.proofs.Common.{◌≡◌, ℕ, List, [], ◌∷◌, pos, true, false, Some, sym, ap, ◌∙◌, subst, arith}
use Rattle.plan_types.specs.Types.{Ty, Untyped, is_known, ty}
use Rattle.plan_types.specs.declared.dtype.CastOptions.{CastOptions}
use Rattle.plan_types.specs.declared.dtype.DataType.{DataType}
use Rattle.plan_types.specs.declared.dtype.DataType.TheVariants as dtype
use Rattle.plan_infer.specs.declared.type_table.Inferred.{Inferred}
use Rattle.plan_infer.specs.declared.type_table.TypeTable.{TypeTable}
use Rattle.plan_arena.specs.Items.{HoldsExpression}
use Rattle.plan_dsl.specs.Ops.{CastOp}
use Rattle.plan_infer.specs.Samples.{sum_items}
use Rattle.plan_coerce.specs.Coercion.{KeepsStrict}
use Rattle.plan_coerce.proofs.ExampleLemmas.{entry_kept, no_entry_kept, one_entry_kept}
use Rattle.plan_coerce.proofs.examples.optimizer.entries_of_strict_nodes.Goals as goal

keeps_strict : (table : TypeTable) (own : Inferred) → table.first ≡ 2 → table.entries.items ≡ Some own ∷ [] → own.dtype ≡ dtype.Int32 → own.operands ≡ [] → KeepsStrict table 2
keeps_strict table own first entries d o = record { own = own; keeps = entry_kept table own first entries; none = o; known = ap (λ t. is_known (ty t)) d }

pub returns-clause-strict : goal.returns-clause-strict
returns-clause-strict c = λ own n d m o table first entries. keeps_strict table own first entries d o

some_types : (t : DataType) (ts : List DataType) → t ∷ ts ≡ [] → ⊥
some_types t ts e = cc

pub returns-clause-taken_to_another : goal.returns-clause-taken_to_another
returns-clause-taken_to_another c = λ own n d m o table first entries strict.
    some_types dtype.Int32 (dtype.Int32 ∷ []) (sym o ∙ ap (λ (e : Inferred). e.operands) (one_entry_kept table own strict.own first entries strict.keeps) ∙ strict.none)

pub returns-clause-number : goal.returns-clause-number
returns-clause-number c = λ own n d m o table first entries strict.
    let known : false ≡ true = sym (ap (λ t. is_known (ty t)) d) ∙ ap (λ (e : Inferred). is_known (ty e.dtype)) (one_entry_kept table own strict.own first entries strict.keeps) ∙ strict.known in
    cc

pub returns-clause-nothing_kept : goal.returns-clause-nothing_kept
returns-clause-nothing_kept c = λ table first entries strict. no_entry_kept table first entries 2 (record { own = strict.own; keeps = strict.keeps })

-- the sum is no cast
no_cast : (target : Ty) (options : CastOptions) (i : ℕ) → HoldsExpression sum_items 2 (CastOp target options) (i ∷ []) → ⊥
no_cast target options i held = cc

pub returns-clause-last : goal.returns-clause-last
returns-clause-last c = λ own n d m o table first entries k from below.
    let place : 2 ≡ k = omega (arith, from, below) in
    (subst (KeepsStrict table) place (keeps_strict table own first entries d o), λ target options i held. absurd (no_cast target options i (subst (λ j. HoldsExpression sum_items j (CastOp target options) (i ∷ [])) (sym place) held)))

pub returns-clause-those_before : goal.returns-clause-those_before
returns-clause-those_before c = λ own n d m o table first entries all.
    let strict = (all 1 (omega arith) (omega arith)).0 in
    omega (arith, first, strict.keeps.0)

pub returns-clause-none_left : goal.returns-clause-none_left
returns-clause-none_left c = λ table first entries k from below. absurd (omega (arith, from, below))

pub returns-clause-keeps_number : goal.returns-clause-keeps_number
returns-clause-keeps_number c = λ own n d m o table first entries. record { own = own; number = pos 5; keeps = entry_kept table own first entries; is = ap ty d }

pub returns-clause-type_of_columns : goal.returns-clause-type_of_columns
returns-clause-type_of_columns c = λ own n d m o table first entries kept.
    let same : ty dtype.Int32 ≡ Untyped kept.number = sym (ap ty d) ∙ ap (λ (e : Inferred). ty e.dtype) (one_entry_kept table own kept.own first entries kept.keeps) ∙ kept.is in
    let known : true ≡ false = ap is_known same in
    cc

pub returns-clause-no_number_kept : goal.returns-clause-no_number_kept
returns-clause-no_number_kept c = λ table first entries kept. no_entry_kept table first entries 2 (record { own = kept.own; keeps = kept.keeps })
