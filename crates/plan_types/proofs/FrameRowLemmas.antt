-- The columns of a frame have its values, row by row.
use Rattle.std.proofs.Common.{arith, ◌≡◌, ℕ, zero, suc, ◌+◌, ◌<◌, ◌==◌, List, [], ◌∷◌, length, map, drop, get_or, Some, None, true, false, cond, refl, sym, ap, ◌∙◌, subst, is_none, slice_get, unwrap_or}
use Rattle.std.specs.List.{range_with_len}
use Rattle.std.proofs.lemmas.Bool.{eqb-true}
use Rattle.std.proofs.lemmas.Cmp.{nat_list_eq_equiv}
use Rattle.std.proofs.lemmas.List.FromFn.{length-map-range_with_len, get_or-map-range_with_len}
use Rattle.std.proofs.lemmas.Option.{slice_get-get_or, slice_get-map}
use Rattle.std.specs.Option.{option_map}
use Rattle.plan_types.specs.Types.{ty}
use Rattle.plan_types.specs.Values.{Val, NullValue}
use Rattle.plan_types.specs.Schemas.{Name, same_name, type_at, IsNewName, HasDistinctNames}
use Rattle.plan_types.specs.Frames.{value_in, row_at}
use Rattle.plan_types.specs.FrameFaults.{count_of, head_of, heads_of, height_of, row_of, framed, vals_of, other_length, misfit, repeated_name, frame_fault}
use Rattle.plan_types.specs.declared.column.Column.{Column}
use Rattle.plan_types.specs.declared.frame.FrameError.TheVariants.{Length}
use Rattle.plan_types.proofs.ListLemmas.{item_left}
use Rattle.plan_types.proofs.SchemaLemmas.{IsNewName-head, IsNewName-tail}
use Rattle.plan_types.proofs.FrameCallLemmas.{none_of_both, none_there, sound_is_frame}

length_parts : (wanted : ℕ) (c : Column) (cs : List Column) → other_length wanted (c ∷ cs) ≡ None → (count_of c ≡ wanted) × (other_length wanted cs ≡ None)
length_parts wanted c cs h =
    elim (count_of c == wanted) as (λ b. count_of c == wanted ≡ b → cond b (other_length wanted cs) (Some (Length c.name (count_of c) wanted)) ≡ None → (count_of c ≡ wanted) × (other_length wanted cs ≡ None)) [ true ↦ λ e g. (eqb-true (count_of c) wanted e, g) | false ↦ λ e g. cc ] refl h

-- each column has as many values as are wanted
same_length : (wanted : ℕ) (columns : List Column) (index : ℕ) (c : Column) → other_length wanted columns ≡ None → slice_get columns index ≡ Some c → count_of c ≡ wanted
same_length wanted [] index c h at = cc
same_length wanted (x ∷ xs) zero c h at = let same : x ≡ c = cc in ap count_of (sym same) ∙ (length_parts wanted x xs h).0
same_length wanted (x ∷ xs) (suc index) c h at = same_length wanted xs index c (length_parts wanted x xs h).1 at

-- a new name isn't that of any column
other_name : (columns : List Column) (index : ℕ) (c : Column) (name : Name) → IsNewName (heads_of columns) name → slice_get columns index ≡ Some c → same_name name c.name ≡ false
other_name [] index c name new at = cc
other_name (x ∷ xs) zero c name new at = let same : x ≡ c = cc in ap (λ y. same_name name y.name) (sym same) ∙ IsNewName-head (head_of x) (heads_of xs) name new
other_name (x ∷ xs) (suc index) c name new at = other_name xs index c name (IsNewName-tail (head_of x) (heads_of xs) name new) at

abbrev pub value_of : Column → ℕ → Val
value_of c number = unwrap_or (slice_get (vals_of c.values) number) NullValue

-- a row has each column's value under its name
value_there : (columns : List Column) (index : ℕ) (c : Column) (number : ℕ) → HasDistinctNames (heads_of columns) → slice_get columns index ≡ Some c → value_in (heads_of columns) c.name (row_of columns number) ≡ value_of c number
value_there [] index c number h at = cc
value_there (x ∷ xs) zero c number h at =
    let same : x ≡ c = cc in
    ap (λ b. cond b (value_of x number) (value_in (heads_of xs) c.name (row_of xs number))) (ap (λ y. same_name c.name y.name) same ∙ nat_list_eq_equiv.refl c.name) ∙ ap (λ y. value_of y number) same
value_there (x ∷ xs) (suc index) c number h at =
    ap (λ b. cond b (value_of x number) (value_in (heads_of xs) c.name (row_of xs number))) (nat_list_eq_equiv.symm c.name x.name ∙ other_name xs index c x.name h.0 at) ∙ value_there xs index c number h.1 at

row_there : (columns : List Column) (number : ℕ) → number < height_of columns → row_at (framed columns) number ≡ row_of columns number
row_there columns number within =
    let rows = map (row_of columns) (range_with_len 0 (height_of columns)) in
    let longer : number < length rows = subst (λ n. number < n) (sym (length-map-range_with_len (row_of columns) 0 (height_of columns))) within in
    ap (λ found. unwrap_or found []) (slice_get-get_or rows number [] longer ∙ ap Some (get_or-map-range_with_len (row_of columns) 0 (height_of columns) number number [] within (omega arith)))

-- a column of sound columns has as many values as there are rows
pub column_height : (columns : List Column) (index : ℕ) (c : Column) → is_none (frame_fault columns) ≡ true → slice_get columns index ≡ Some c → count_of c ≡ length (framed columns).rows
column_height columns index c h at =
    let behind = (none_of_both (repeated_name [] columns) _ (none_there _ h)).1 in
    let even = (none_of_both (other_length (height_of columns) columns) (misfit columns) behind).0 in
    same_length (height_of columns) columns index c even at ∙ sym (length-map-range_with_len (row_of columns) 0 (height_of columns))

pub column_head : (columns : List Column) (index : ℕ) (c : Column) → slice_get columns index ≡ Some c → slice_get (heads_of columns) index ≡ Some (head_of c)
column_head columns index c at = slice_get-map head_of columns index ∙ ap (option_map head_of) at

-- and they are the rows' values under its name
pub column_values : (columns : List Column) (index : ℕ) (c : Column) → is_none (frame_fault columns) ≡ true → slice_get columns index ≡ Some c → (number : ℕ) → number < count_of c → slice_get (vals_of c.values) number ≡ Some (value_in (heads_of columns) c.name (row_at (framed columns) number))
column_values columns index c h at number within =
    let height = column_height columns index c h at ∙ length-map-range_with_len (row_of columns) 0 (height_of columns) in
    let row = row_there columns number (subst (λ n. number < n) height within) in
    let value = ap (value_in (heads_of columns) c.name) row ∙ value_there columns index c number (sound_is_frame columns h).distinct at in
    let there = slice_get-get_or (vals_of c.values) number NullValue within in
    there ∙ ap Some (sym (value ∙ ap (λ found. unwrap_or found NullValue) there))

-- under any name that is the column's
pub named_values : (columns : List Column) (index : ℕ) (c : Column) (name : Name) → is_none (frame_fault columns) ≡ true → slice_get columns index ≡ Some c → c.name ≡ name → (number : ℕ) → number < count_of c → slice_get (vals_of c.values) number ≡ Some (value_in (heads_of columns) name (row_at (framed columns) number))
named_values columns index c name h at same number within =
    column_values columns index c h at number within ∙ ap (λ n. Some (value_in (heads_of columns) n (row_at (framed columns) number))) same

-- the column that a loop over columns is at
pub column_at : (items columns : List Column) (index : ℕ) (c : Column) → items ≡ columns → index < length items → c ≡ get_or items index c → slice_get columns index ≡ Some c
column_at items columns index c all within is =
    subst (λ l. slice_get l index ≡ Some c) all (slice_get-get_or items index c within ∙ ap Some (sym is))

-- a column of another name is passed by
pub other_passed : (columns : List Column) (index : ℕ) (c : Column) (name : Name) → index < length columns → c ≡ get_or columns index c → same_name c.name name ≡ false → type_at (heads_of (drop index columns)) name ≡ type_at (heads_of (drop (index + 1) columns)) name
other_passed columns index c name within is other =
    let later = heads_of (drop (index + 1) columns) in
    ap (λ l. type_at (heads_of l) name) (item_left columns index c c within is) ∙ ap (λ b. cond b (Some (ty c.dtype)) (type_at later name)) (nat_list_eq_equiv.symm name c.name ∙ other)
