-- What values of the code explode to, and how often a value is repeated.
use Rattle.std.proofs.Common.{◌≡◌, ◌∙◌, ◌+◌, ◌==◌, ℕ, List, [], ◌∷◌, ◌++◌, false, length, map, max, replicate, slice_get, true, Some, take, OnOk, Result, Vec, refl, sym, ap, arith, append_assoc, eq-eqb}
use Rattle.std.specs.Global.{Global}
use Rattle.std.proofs.lemmas.Bool.{eqb-true}
use Rattle.std.proofs.lemmas.List.{length-map, map-append, nil_from_length, replicate-append-replicate, take_more}
use Rattle.std.proofs.lemmas.Option.{get_or_from_slice_get, slice_get_within}
use Rattle.plan_types.specs.Values.{Val}
use Rattle.plan_types.specs.ValueViews.{val_of, values_from}
use Rattle.plan_types.specs.declared.value.Parts.{Parts}
use Rattle.plan_types.specs.declared.value.Value.{Value, List as ListOf, List'}
use Rattle.plan_types.specs.declared.value.Value.TheVariants.{Null}
use Rattle.plan_types.specs.declared.value.Value.TheViews.{outs-List', roll-Value, roll-out-Value, rolls-List}
use Rattle.plan_types.proofs.PartLemmas.{list_of}
use Rattle.plan_dsl.specs.Picks.{exploded, items_in, or_null}
use Rattle.plan_exec.specs.ColumnFunctions.{counts_in}

pub items_listed : (values : List Val) → items_in (values_from values) ≡ values
items_listed [] = refl
items_listed (value ∷ values) = ap (λ l. value ∷ l) (items_listed values)

null_counted : (values : List Val) → length (or_null values) ≡ max (length values) 1
null_counted [] = refl
null_counted (value ∷ values) = omega arith

-- a list explodes to its items, and to a null where it has none
pub list_exploded : (value : Value) (parts : Parts) (items : List Value) → value ≡ ListOf parts → items ≡ parts.items.items → exploded (val_of value) ≡ or_null (map val_of items)
list_exploded value parts items is shown = ap exploded (list_of value parts items is shown) ∙ ap or_null (items_listed (map val_of items))

pub list_counted : (value : Value) (parts : Parts) (items : List Value) (count : ℕ) → value ≡ ListOf parts → items ≡ parts.items.items → count ≡ max (length items) 1 → count ≡ length (exploded (val_of value))
list_counted value parts items count is shown counted =
    counted ∙ ap (λ n. max n 1) (sym (length-map items val_of)) ∙ sym (null_counted (map val_of items)) ∙ ap length (sym (list_exploded value parts items is shown))

-- any other value explodes to itself
pub other_exploded : (value : Value) → ((parts : Parts) → value ≡ ListOf parts → ⊥) → exploded (val_of value) ≡ val_of value ∷ []
other_exploded (List' shape row) other = absurd (other _ (sym (roll-out-Value (List' shape row)) ∙ ap roll-Value (outs-List' shape row) ∙ rolls-List _))
other_exploded value other = refl

-- what a value explodes to is put behind others
pub list_pushed : (value : Value) (parts : Parts) (before after : List Val) → value ≡ ListOf parts → after ≡ before ++ or_null (map val_of parts.items.items) → after ≡ before ++ exploded (val_of value)
list_pushed value parts before after is put = put ∙ ap (λ l. before ++ l) (sym (list_exploded value parts parts.items.items is refl))

pub other_pushed : (value : Value) (before after : List Value) → ((parts : Parts) → value ≡ ListOf parts → ⊥) → after ≡ before ++ value ∷ [] → map val_of after ≡ map val_of before ++ exploded (val_of value)
other_pushed value before after other put = ap (map val_of) put ∙ map-append val_of before (value ∷ []) ∙ ap (λ l. map val_of before ++ l) (sym (other_exploded value other))

-- a list's items are put behind others, or a null in place of none
pub items_put : {E : Type 0} (result : Result (Unit {0}) E) (before : List Val) (own : Vec Value Global) (after : List Val) → false ≡ (own.len == 0) → OnOk result (after ≡ before ++ map val_of own.items) → OnOk result (after ≡ before ++ or_null (map val_of own.items))
items_put result before own after some put =
    elim own.items as (λ items. own.items ≡ items → OnOk result (after ≡ before ++ map val_of items) → OnOk result (after ≡ before ++ or_null (map val_of items))) [
      | [] ↦ λ e p. let none = eq-eqb own.len 0 (own.ok.0 ∙ ap length e) in absurd cc
      | item ∷ items ↦ λ e p. p
    ] refl put

pub null_put : (before after : List Value) (own : Vec Value Global) → true ≡ (own.len == 0) → after ≡ before ++ Null ∷ [] → map val_of after ≡ map val_of before ++ or_null (map val_of own.items)
null_put before after own none put =
    let empty = nil_from_length own.items (sym own.ok.0 ∙ eqb-true own.len 0 (sym none)) in
    ap (map val_of) put ∙ map-append val_of before (Null ∷ []) ∙ ap (λ l. map val_of before ++ or_null (map val_of l)) (sym empty)

-- one more value is counted
pub one_counted : (values : List Val) (counts new : List ℕ) (row : ℕ) (value : Val) (count : ℕ) → slice_get values row ≡ Some value → counts ≡ counts_in (take row values) → new ≡ counts ++ count ∷ [] → count ≡ length (exploded value) → new ≡ counts_in (take (row + 1) values)
one_counted values counts new row value count at so_far put is =
    let count_of : Val → ℕ = λ v. length (exploded v) in
    let there = take_more values row value (slice_get_within values row value at) ∙ ap (λ v. take row values ++ v ∷ []) (get_or_from_slice_get values row value value at) in
    put ∙ ap (λ l. l ++ count ∷ []) so_far ∙ ap (λ n. counts_in (take row values) ++ n ∷ []) is
    ∙ sym (map-append count_of (take row values) (value ∷ [])) ∙ ap counts_in (sym there)

-- a value that is put behind others once more
pub once_more : (before now after : List Value) (value copy : Value) (count : ℕ) → map val_of now ≡ map val_of before ++ replicate count (val_of value) → after ≡ now ++ copy ∷ [] → val_of copy ≡ val_of value → map val_of after ≡ map val_of before ++ replicate (count + 1) (val_of value)
once_more before now after value copy count so_far put same =
    let own = val_of value in
    ap (map val_of) put ∙ map-append val_of now (copy ∷ []) ∙ ap (λ v. map val_of now ++ v ∷ []) same ∙ ap (λ l. l ++ own ∷ []) so_far ∙ append_assoc (map val_of before) (replicate count own) (own ∷ [])
    ∙ ap (λ l. map val_of before ++ l) (replicate-append-replicate count 1 own)
