-- The fields of a type of structs, as a row and as a list.
use Rattle.std.proofs.Common.{◌≡◌, ℕ, ◌≤◌, List, length, map, take, Vec, Global, refl, sym, ap, ◌∙◌, ◌≢◌, suc, ◌+◌, ◌<◌, Bool, true, false, ◌&&◌, [], ◌∷◌, drop, slice_index_or, arith}
use Rattle.std.proofs.lemmas.List.{take_all, drop_more}
use Rattle.plan_types.specs.Types.{StructType, with_field, field_of, ty, row_fields, fields_from, fields_of, fields_in, same_type, same_fields, same_field}
use Rattle.plan_types.specs.declared.dtype.DataType.{DataType, Struct}
use Rattle.std.specs.Str.{bytes_eq}
use Rattle.plan_types.specs.declared.field.Field.{Field}
use Rattle.plan_types.specs.declared.dtype.Fields.{Fields as StructFields, Fields', Row_of-Field, end_of-Field, more_of-Field, items-the_row-Field, items_shown-the_row-Field-0, out-Fields, out-roll-Fields, roll-Fields}

row_list : (n : _) (row : Row_of-Field n) → row_fields row ≡ fields_in (items-the_row-Field n row)
row_list n end_of-Field = refl
row_list n (more_of-Field name dtype rest) = ap (with_field name (ty dtype)) (row_list _ rest)

pub listed_fields : (fields : StructFields) → fields_of fields ≡ fields_in (out-Fields fields).items.items
unfolding out-Fields Rattle.plan_types.specs.declared.dtype.DataType.TheBlock.shown-the_row-Field-0 denote.Hole.Carrier.out denote.Hole.Carrier.shown
listed_fields (Fields' shape row) = row_list _ row ∙ sym (ap fields_in (items_shown-the_row-Field-0 shape row))

-- a type of structs, by the fields that a slice shows
pub struct_type : (dtype : DataType) (fields : StructFields) (items : List Field) → dtype ≡ Struct fields → items ≡ (out-Fields fields).items.items → ty dtype ≡ StructType (fields_in items)
struct_type dtype fields items is shown = ap ty is ∙ ap StructType (listed_fields fields ∙ ap fields_in (sym shown))

-- the fields of a list that was made
pub rolled_fields : (made : Vec Field Global) → fields_of (roll-Fields (record { items = made })) ≡ fields_in made.items
rolled_fields made = listed_fields (roll-Fields (record { items = made })) ∙ ap (λ opened. fields_in opened.items.items) (out-roll-Fields (record { items = made }))

-- a list of copies has the fields that were copied
pub copied_fields : (made : Vec Field Global) (original : StructFields) (n : ℕ) (items : List Field) → items ≡ (out-Fields original).items.items → length items ≤ n → map field_of made.items ≡ map field_of (take n items) → fields_of (roll-Fields (record { items = made })) ≡ fields_of original
copied_fields made original n items is all same =
    rolled_fields made ∙ ap fields_from (same ∙ ap (map field_of) (take_all n items all ∙ is)) ∙ sym (listed_fields original)

-- ---- fields side by side

and_false : (a b : Bool) → b ≡ false → (a && b) ≡ false
and_false true b h = h
and_false false b h = refl

and_grouped : (a b r : Bool) → (a && (b && r)) ≡ ((a && b) && r)
and_grouped true b r = refl
and_grouped false b r = refl

pub fields_apart : (fs gs : List Field) → length fs ≢ length gs → false ≡ same_fields (fields_in fs) (fields_in gs)
fields_apart [] [] n = absurd (n refl)
fields_apart [] (g ∷ gs) n = refl
fields_apart (f ∷ fs) [] n = refl
fields_apart (f ∷ fs) (g ∷ gs) n =
    let rest = and_false (same_type (ty f.dtype) (ty g.dtype)) _ (sym (fields_apart fs gs (λ e. n (ap suc e)))) in
    sym (and_false (bytes_eq f.name g.name) _ rest)

-- the fields from a place on are the one at the place and those after it
pub fields_from_place : (fs : List Field) (n : ℕ) (f : Field) → n < length fs → f ≡ slice_index_or fs n f → fields_in (drop n fs) ≡ with_field f.name (ty f.dtype) (fields_in (drop (n + 1) fs))
fields_from_place fs n f within is =
    ap fields_in (drop_more fs n f within) ∙ ap (λ at. with_field at.name (ty at.dtype) (fields_in (drop (n + 1) fs))) (sym is)

-- one more pair of fields is compared
pub pair_compared : (fs gs : List Field) (n : ℕ) (f g : Field) (same : Bool) → n < length fs → length fs ≡ length gs → f ≡ slice_index_or fs n f → g ≡ slice_index_or gs n g → same ≡ same_field (field_of f) (field_of g) → same_fields (fields_in fs) (fields_in gs) ≡ same_fields (fields_in (drop n fs)) (fields_in (drop n gs)) → same_fields (fields_in fs) (fields_in gs) ≡ (same && same_fields (fields_in (drop (n + 1) fs)) (fields_in (drop (n + 1) gs)))
pair_compared fs gs n f g same within long left right told before =
    let rest = same_fields (fields_in (drop (n + 1) fs)) (fields_in (drop (n + 1) gs)) in
    let opened = ap (λ l. same_fields l (fields_in (drop n gs))) (fields_from_place fs n f within left) ∙ ap (same_fields (with_field f.name (ty f.dtype) (fields_in (drop (n + 1) fs)))) (fields_from_place gs n g (omega (arith, within, long)) right) in
    before ∙ opened ∙ and_grouped (bytes_eq f.name g.name) (same_type (ty f.dtype) (ty g.dtype)) rest ∙ ap (λ b. b && rest) (sym told)
