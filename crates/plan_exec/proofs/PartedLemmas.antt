-- The parts of structs, row by row, as columns are made of them.
use Rattle.std.proofs.Common.{◌≡◌, ◌∙◌, ◌+◌, ◌<◌, ℕ, List, [], ◌∷◌, ◌++◌, drop, get_or, length, map, set, take, refl, sym, ap, arith}
use Rattle.std.specs.Global.{Global}
use Rattle.std.specs.Vec.Iter.{into_iter_items}
use Rattle.std.specs.declared.vec.IntoIter.{IntoIter}
use Rattle.std.proofs.lemmas.Grind.{drop_more_same}
use Rattle.std.proofs.lemmas.List.{drop-set-lt, drop_more, length-drop, map-append, nil_from_length, take_more, take_more_set}
use Rattle.plan_types.specs.Values.{Val, NullValue}
use Rattle.plan_types.specs.ValueViews.{val_of}
use Rattle.plan_types.specs.declared.value.Parts.{Parts}
use Rattle.plan_types.specs.declared.value.Value.{Value, Struct as StructOf, Struct'}
use Rattle.plan_types.specs.declared.value.Value.TheViews.{outs-Struct', roll-Value, roll-out-Value, rolls-Struct}
use Rattle.plan_types.proofs.PartLemmas.{struct_of}
use Rattle.plan_dsl.specs.Aggregates.{first_value}
use Rattle.plan_exec.specs.ColumnFunctions.{parts_in}
use Rattle.plan_exec.proofs.ItemLemmas.{items_listed}

-- a struct has these parts
pub struct_parts : (value : Value) (parts : Parts) → value ≡ StructOf parts → map val_of parts.items.items ≡ parts_in (val_of value)
struct_parts value parts is = sym (items_listed (map val_of parts.items.items)) ∙ ap parts_in (sym (struct_of value parts parts.items.items is refl))

-- any other value has none
pub no_parts : (value : Value) (items : List Value) → ((parts : Parts) → value ≡ StructOf parts → ⊥) → items ≡ [] → map val_of items ≡ parts_in (val_of value)
no_parts (Struct' shape row) items other none = absurd (other _ (sym (roll-out-Value (Struct' shape row)) ∙ ap roll-Value (outs-Struct' shape row) ∙ rolls-Struct _))
no_parts value items other none = ap (map val_of) none

-- ---- a part of each row

-- the parts that are left of a row
abbrev pub parts_left : IntoIter Value Global → List Val
parts_left row = map val_of (into_iter_items row)

-- the row's next part, and those behind it
abbrev pub IsTaken : IntoIter Value Global → IntoIter Value Global → Val → Type 0
IsTaken row later value = (value ≡ first_value (parts_left row)) × (parts_left later ≡ drop 1 (parts_left row))

-- where a part is there, it is taken
pub some_taken : (row later : IntoIter Value Global) (value : Value) → into_iter_items row ≡ value ∷ into_iter_items later → IsTaken row later (val_of value)
some_taken row later value items = let whole = ap (map val_of) items in (sym (ap first_value whole), sym (ap (drop 1) whole))

-- and where none is, a null
pub none_taken : (row later : IntoIter Value Global) → into_iter_items row ≡ into_iter_items later → length (into_iter_items row) ≡ 0 → IsTaken row later NullValue
none_taken row later same none =
    let empty = nil_from_length (into_iter_items row) none in
    let whole = ap (map val_of) empty in
    (sym (ap first_value whole), ap (map val_of) (sym same ∙ empty) ∙ sym (ap (drop 1) whole))

module _ {I : Type 0} (parts : I → List Val) (rows now : List I) (index : ℕ) (row : I) (within : index < length now) (at : row ≡ get_or now index row) (left : drop index now ≡ drop index rows) where
  -- the row that is next, behind those before it
  next_row : take (index + 1) rows ≡ take index rows ++ row ∷ []
  next_row =
      let inside : index < length rows = omega (arith, within, length-drop index now, length-drop index rows, ap length left) in
      let first = drop_more now index row within in
      let other = drop_more rows index row inside in
      let same : get_or rows index row ≡ row = cc in
      take_more rows index row inside ∙ ap (λ r. take index rows ++ r ∷ []) same

  -- one more row gives a value
  pub value_next : (values new : List Value) (value : Value) → new ≡ values ++ value ∷ [] → val_of value ≡ first_value (parts row) → map val_of values ≡ map first_value (map parts (take index rows)) → map val_of new ≡ map first_value (map parts (take (index + 1) rows))
  value_next values new value put is so_far =
      ap (map val_of) put ∙ map-append val_of values (value ∷ []) ∙ (λ i. so_far i ++ is i ∷ [])
      ∙ sym (ap (λ l. map first_value (map parts l)) next_row ∙ ap (map first_value) (map-append parts (take index rows) (row ∷ [])) ∙ map-append first_value (map parts (take index rows)) (parts row ∷ []))

  -- and is left without it
  pub row_next : (later : I) → parts later ≡ drop 1 (parts row) → map parts (take index now) ≡ map (drop 1) (map parts (take index rows)) → map parts (take (index + 1) (set now index later)) ≡ map (drop 1) (map parts (take (index + 1) rows))
  row_next later is so_far =
      ap (map parts) (take_more_set now index later within) ∙ map-append parts (take index now) (later ∷ []) ∙ (λ i. so_far i ++ is i ∷ [])
      ∙ sym (ap (λ l. map (drop 1) (map parts l)) next_row ∙ ap (map (drop 1)) (map-append parts (take index rows) (row ∷ [])) ∙ map-append (drop 1) (map parts (take index rows)) (parts row ∷ []))

  -- those behind it stay
  pub left_next : (later : I) → drop (index + 1) (set now index later) ≡ drop (index + 1) rows
  left_next later =
      let past : index < index + 1 = omega arith in
      drop-set-lt (index + 1) now index later past ∙ drop_more_same now rows index left
