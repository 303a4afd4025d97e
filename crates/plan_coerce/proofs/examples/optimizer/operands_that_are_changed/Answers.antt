use Rattle.std.proofs.Common.{◌≡◌, ℤ, List, [], ◌∷◌, map, pos, codes, true, false, Some, inl, inr, refl, sym, ap, ◌∙◌, ⊎_elim, arith}
use Rattle.plan_types.specs.Types.{Ty, Untyped, is_known, same_type, ty}
use Rattle.plan_types.specs.declared.dtype.DataType.TheVariants as dtype
use Rattle.plan_dsl.specs.Strictness.{CanBecome}
use Rattle.plan_dsl.specs.Typing.{typing}
use Rattle.plan_dsl.proofs.TypingLemmas.{ok_same}
use Rattle.plan_arena.specs.declared.aexpr.AExpr.{AExpr}
use Rattle.plan_arena.specs.declared.aexpr.AExpr.TheVariants.{Column}
use Rattle.plan_arena.proofs.ItemLemmas.{tree_grown}
use Rattle.plan_infer.specs.declared.type_table.Inferred.{Inferred}
use Rattle.plan_infer.specs.declared.type_table.TypeTable.{TypeTable}
use Rattle.plan_infer.specs.KeptTypes.{KeepsEntry}
use Rattle.plan_infer.specs.Samples.{int8, int32, int64, one_column, of_type, a, a_items, cast_to}
use Rattle.plan_infer.proofs.ExampleLemmas.{one_tree}
use Rattle.plan_coerce.specs.Coercion.{IsChanged, IsReady, Operand}
use Rattle.plan_coerce.specs.Samples.{cast_of}
use Rattle.plan_coerce.proofs.examples.optimizer.operands_that_are_changed.Goals as goal

abbrev cast_items : List AExpr
cast_items = Column (codes "a") ∷ cast_of 0 dtype.Int32 ∷ []

no_number : (type : Ty) (number : ℤ) → is_known type ≡ true → type ≡ Untyped number → ⊥
no_number type number known is =
    let same : true ≡ false = sym known ∙ ap is_known is in
    cc

becomes : CanBecome int8 int32
becomes = record { known = refl; casts = λ none. refl; has = λ number e. absurd (no_number int8 number refl e) }

-- what a table of one entry keeps
module _ (table : TypeTable) (own : Inferred) (first : table.first ≡ 0) (entries : table.entries.items ≡ Some own ∷ []) where
  keeps_own : KeepsEntry table 0 own
  keeps_own = rw (first, entries) (omega arith, refl)

  one_kept : (found : Inferred) → KeepsEntry table 0 found → own ≡ found
  one_kept found keeps =
      let item = keeps.1 in
      cc

  module _ (d : own.dtype ≡ dtype.Int8) where
    ready : IsReady table 0 int32
    ready = record { dtype = dtype.Int8; keeps = record { own = own; keeps = keeps_own; is = d }; becomes = inr becomes }

    own_ready : IsReady table 0 int8
    own_ready = record { dtype = dtype.Int8; keeps = record { own = own; keeps = keeps_own; is = d }; becomes = inl refl }

    never_ready : IsReady table 0 (Untyped (pos 5)) → ⊥
    never_ready r =
        let is : dtype.Int8 ≡ r.dtype = sym d ∙ ap (λ (e : Inferred). e.dtype) (one_kept r.keeps.own r.keeps.keeps) ∙ r.keeps.is in
        ⊎_elim (λ e. no_number int8 (pos 5) refl (ap ty is ∙ e)) (λ (b : CanBecome (ty r.dtype) (Untyped (pos 5))). let known : false ≡ true = b.known in cc) r.becomes

    changed : IsChanged a_items cast_items table (record { input = 0; changed = 1; from = int8; target = int32 })
    changed = record {
      keeps = record { dtype = dtype.Int8; keeps = record { own = own; keeps = keeps_own; is = d }; is = refl };
      denotes = λ first t le d. (0 ∷ [], (le, refl), (tree_grown first first a_items cast_items (omega arith) (record { added = cast_of 0 dtype.Int32 ∷ []; longer = refl }) 0 t d, tt));
      stays = λ same. absurd (cc);
      fresh = λ other. omega arith;
    }

pub returns-clause-ready : goal.returns-clause-ready
returns-clause-ready c = λ own n d m o table first entries. ready table own first entries d

pub returns-clause-of_its_type : goal.returns-clause-of_its_type
returns-clause-of_its_type c = λ own n d m o table first entries. own_ready table own first entries d

pub returns-clause-no_type : goal.returns-clause-no_type
returns-clause-no_type c = λ own n d m o table first entries. never_ready table own first entries d

none_kept : (table : TypeTable) (own : Inferred) → table.first ≡ 0 → table.entries.items ≡ [] → KeepsEntry table 0 own → ⊥
none_kept table own first entries keeps =
    let item = keeps.1 in
    cc

pub returns-clause-nothing_kept : goal.returns-clause-nothing_kept
returns-clause-nothing_kept c = λ table first entries r. none_kept table r.keeps.own first entries r.keeps.keeps

pub returns-clause-all_ready : goal.returns-clause-all_ready
returns-clause-all_ready c = λ own n d m o table first entries. (ready table own first entries d, (own_ready table own first entries d, tt))

pub returns-clause-at_a_place : goal.returns-clause-at_a_place
returns-clause-at_a_place c = λ own n d m o table first entries. record { target = dtype.Int32; there = refl; ready = ready table own first entries d }

pub returns-clause-past_the_list : goal.returns-clause-past_the_list
returns-clause-past_the_list c = λ table r.
    let there = r.there in
    cc

pub returns-clause-cast : goal.returns-clause-cast
returns-clause-cast c = λ own n d m o table first entries. changed table own first entries d

-- a cast to another type has that type
pub returns-clause-other_cast : goal.returns-clause-other_cast
returns-clause-other_cast c = λ table r.
    let made = r.denotes 0 a (omega arith) ([], (omega arith, refl), tt) in
    let one = one_tree 0 (Column (codes "a") ∷ cast_of 0 dtype.Int64 ∷ []) 1 (cast_to int32 a) (cast_to int64 a) made (0 ∷ [], (omega arith, refl), (([], (omega arith, refl), tt), tt)) in
    let types = ok_same (typing [] (one_column int8) (cast_to int32 a)) (of_type int32) (of_type int64) refl (ap (typing [] (one_column int8)) one) in
    let differs : true ≡ false = ap (λ t. same_type int32 t.type) types in
    cc

pub returns-clause-no_cast : goal.returns-clause-no_cast
returns-clause-no_cast c = λ table r. omega (arith, r.fresh refl)

pub returns-clause-each : goal.returns-clause-each
returns-clause-each c = λ own n d m o table first entries. record {
  operands = record { input = 0; changed = 1; from = int8; target = int32 } ∷ [];
  inputs_are = refl;
  changed_are = refl;
  targets_are = refl;
  each = (changed table own first entries d, tt);
}

left_out : (operands : List Operand) → map (λ o. o.input) operands ≡ 0 ∷ [] → map (λ o. o.changed) operands ≡ [] → ⊥
left_out [] inputs changed = cc
left_out (o ∷ os) inputs changed = cc

pub returns-clause-one_left_out : goal.returns-clause-one_left_out
returns-clause-one_left_out c = λ table r. left_out r.operands r.inputs_are r.changed_are
