-- Columns that nothing keeps from being a frame are one, and their schema is copied name by name.
use Rattle.std.proofs.Common.{◌≡◌, ℕ, zero, suc, ◌+◌, ◌<◌, List, [], ◌∷◌, ◌++◌, length, map, drop, get_or, Option, Some, None, is_none, true, false, IsTrue, cond, refl, sym, ap, ◌∙◌, ◌||◌, not, subst, append_assoc, append-nil, slice_get, unwrap_or, Bool}
use Rattle.std.proofs.lemmas.List.{drop_more, map-append}
use Rattle.std.proofs.lemmas.Option.{slice_get_within, get_or_from_slice_get}
use Rattle.std.specs.List.{AllByRecursion, list_any, range_with_len}
use Rattle.std.specs.Borrow.{Bor}
use Rattle.indexmap.specs.IndexSet.{insert_key}
use Rattle.plan_types.specs.Types.{Ty, ty}
use Rattle.plan_types.specs.Schemas.{Name, Columns, HasDistinctNames, is_among, repeats, same_name, with_column}
use Rattle.plan_types.specs.Values.{Val, NullValue, fits}
use Rattle.plan_types.specs.Frames.{RowFits, HasNoRowsWithoutColumns, IsFrame}
use Rattle.plan_types.specs.FrameFaults.{repeated_name, other_length, misfit_from, misfit, else_fault, frame_fault, vals_of, framed, heads_of, head_of, height_of, row_of}
use Rattle.plan_types.specs.FrameViews.{frame_of}
use Rattle.plan_types.specs.declared.column.Column.{Column}
use Rattle.plan_types.specs.declared.frame.Frame.{Frame}
use Rattle.plan_types.specs.declared.frame.FrameError.{FrameError}
use Rattle.plan_types.specs.declared.frame.FrameError.TheVariants.{Duplicate, Misfit}
use Rattle.plan_types.proofs.ListLemmas.{item_left, map-map}
use Rattle.plan_types.proofs.NameLemmas.{repeats-push}
use Rattle.plan_types.proofs.SchemaLemmas.{distinct_from_test, copied_more}

pub none_there : (fault : Option FrameError) → is_none fault ≡ true → fault ≡ None
none_there None h = refl
none_there (Some fault) h = cc

pub none_of_both : (a b : Option FrameError) → else_fault a b ≡ None → (a ≡ None) × (b ≡ None)
none_of_both None b h = (refl, h)
none_of_both (Some fault) b h = cc

abbrev names_in : List Column → List Name
names_in columns = map (λ column. column.name) columns

-- where no name stands before, the names are distinct
distinct_behind : (before : List Name) (columns : List Column) → repeats before ≡ false → repeated_name before columns ≡ None → repeats (before ++ names_in columns) ≡ false
distinct_behind before [] none h = subst (λ l. repeats l ≡ false) (sym (append-nil before)) none
distinct_behind before (c ∷ cs) none h =
    elim (is_among c.name before) as (λ b. is_among c.name before ≡ b → cond b (Some (Duplicate c.name)) (repeated_name (before ++ c.name ∷ []) cs) ≡ None → repeats (before ++ c.name ∷ names_in cs) ≡ false) [ true ↦ λ e g. cc | false ↦ λ e g. subst (λ l. repeats l ≡ false) (append_assoc before (c.name ∷ []) (names_in cs)) (distinct_behind (before ++ c.name ∷ []) cs (repeats-push before c.name none e) g) ] refl h

distinct_heads : (columns : List Column) → repeated_name [] columns ≡ None → HasDistinctNames (heads_of columns)
distinct_heads columns h = distinct_from_test (heads_of columns) (ap repeats (map-map (λ entry. entry.0) head_of columns) ∙ distinct_behind [] columns refl h)

-- a value that fits, and those behind it
fitting_parts : (row : ℕ) (name : Name) (type : Ty) (value : Val) (values : List Val) → misfit_from row name type (value ∷ values) ≡ None → (fits value type ≡ true) × (misfit_from (row + 1) name type values ≡ None)
fitting_parts row name type value values h =
    elim (fits value type) as (λ b. cond b (misfit_from (row + 1) name type values) (Some (Misfit name row)) ≡ None → (b ≡ true) × (misfit_from (row + 1) name type values ≡ None)) [ true ↦ λ e. (refl, e) | false ↦ λ e. cc ] h

-- a column's value fits, and so does null past its end
value_fits : (row : ℕ) (name : Name) (type : Ty) (values : List Val) → misfit_from row name type values ≡ None → (number : ℕ) → IsTrue (fits (unwrap_or (slice_get values number) NullValue) type)
value_fits row name type [] h number = refl
value_fits row name type (value ∷ values) h zero = (fitting_parts row name type value values h).0
value_fits row name type (value ∷ values) h (suc number) = value_fits (row + 1) name type values (fitting_parts row name type value values h).1 number

-- the value in the row that is looked at
pub met_value : (row : ℕ) (name : Name) (type : Ty) (values : List Val) (value : Val) (b : Bool) → slice_get values row ≡ Some value → fits value type ≡ b → misfit_from row name type (drop row values) ≡ cond b (misfit_from (row + 1) name type (drop (row + 1) values)) (Some (Misfit name row))
met_value row name type values value b at e =
    let left = item_left values row value value (slice_get_within values row value at) (sym (get_or_from_slice_get values row value value at)) in
    ap (misfit_from row name type) left ∙ ap (λ b. cond b (misfit_from (row + 1) name type (drop (row + 1) values)) (Some (Misfit name row))) e

row_fits : (columns : List Column) → misfit columns ≡ None → (number : ℕ) → RowFits (heads_of columns) (row_of columns number)
row_fits [] h number = tt
row_fits (c ∷ cs) h number =
    let parts = none_of_both (misfit_from 0 c.name (ty c.dtype) (vals_of c.values)) (misfit cs) h in
    (value_fits 0 c.name (ty c.dtype) (vals_of c.values) parts.0 number, row_fits cs parts.1 number)

all_mapped : {A B : Type 0} (P : B → Type 0) (f : A → B) (xs : List A) → ((x : A) → P (f x)) → AllByRecursion P (map f xs)
all_mapped P f [] each = tt
all_mapped P f (x ∷ xs) each = (each x, all_mapped P f xs each)

no_bare_rows : (columns : List Column) → HasNoRowsWithoutColumns (heads_of columns) (map (row_of columns) (range_with_len 0 (height_of columns)))
no_bare_rows [] = refl
no_bare_rows (c ∷ cs) = tt

-- columns that nothing keeps from being a frame are one
pub framed_is_frame : (columns : List Column) → frame_fault columns ≡ None → IsFrame (framed columns)
framed_is_frame columns h =
    let names = none_of_both (repeated_name [] columns) _ h in
    let values = none_of_both (other_length (height_of columns) columns) (misfit columns) names.1 in
    record {
      distinct = distinct_heads columns names.0;
      fitting = all_mapped (RowFits (heads_of columns)) (row_of columns) (range_with_len 0 (height_of columns)) (row_fits columns values.1);
      bare = no_bare_rows columns;
    }

pub sound_is_frame : (columns : List Column) → is_none (frame_fault columns) ≡ true → IsFrame (framed columns)
sound_is_frame columns h = framed_is_frame columns (none_there _ h)

-- one more column's name and type is copied
pub copied_head : (done : Columns) (cs : List Column) (i : ℕ) (c : Column) (all : Columns) → HasDistinctNames all → i < length cs → c ≡ get_or cs i c → done ++ heads_of (drop i cs) ≡ all → with_column done c.name (ty c.dtype) ++ heads_of (drop (i + 1) cs) ≡ all
copied_head done cs i c all distinct within at e =
    let left : c ∷ drop (i + 1) cs ≡ drop i cs = ap (λ y. y ∷ drop (i + 1) cs) at ∙ sym (drop_more cs i c within) in
    copied_more done (head_of c) (heads_of (drop (i + 1) cs)) all distinct (ap (λ l. done ++ heads_of l) left ∙ e)

-- the names that references show
abbrev pub names_shown : List (Bor Name) → List Name
names_shown keys = map (λ key. key.now) keys

among_shown : (keys : List (Bor Name)) (name : Name) → list_any (λ key. same_name name key.now) keys ≡ is_among name (names_shown keys)
among_shown [] name = refl
among_shown (key ∷ keys) name = ap (λ b. same_name name key.now || b) (among_shown keys name)

-- a column's name is looked up among those before it
met_name : (seen : List (Bor Name)) (cs : List Column) (i : ℕ) (c : Column) (b : Bool) → i < length cs → c ≡ get_or cs i c → list_any (λ key. same_name c.name key.now) seen ≡ b → repeated_name (names_shown seen) (drop i cs) ≡ cond b (Some (Duplicate c.name)) (repeated_name (names_shown seen ++ c.name ∷ []) (drop (i + 1) cs))
met_name seen cs i c b within at e =
    let left : c ∷ drop (i + 1) cs ≡ drop i cs = ap (λ y. y ∷ drop (i + 1) cs) at ∙ sym (drop_more cs i c within) in
    ap (repeated_name (names_shown seen)) (sym left) ∙ ap (λ b. cond b (Some (Duplicate c.name)) (repeated_name (names_shown seen ++ c.name ∷ []) (drop (i + 1) cs))) (sym (among_shown seen c.name) ∙ e)

was_there : (new b : Bool) → new ≡ not b → new ≡ false → b ≡ true
was_there new true h f = refl
was_there new false h f = cc

was_new : (new b : Bool) → new ≡ not b → new ≡ true → b ≡ false
was_new new false h t = refl
was_new new true h t = cc

-- the set of names says whether it had the name
pub met_again : (fault : Option FrameError) (seen : List (Bor Name)) (cs : List Column) (i : ℕ) (c : Column) (new : Bool) → i < length cs → c ≡ get_or cs i c → new ≡ not (list_any (λ key. same_name c.name key.now) seen) → new ≡ false → fault ≡ repeated_name (names_shown seen) (drop i cs) → fault ≡ Some (Duplicate c.name)
met_again fault seen cs i c new within at told old is = is ∙ met_name seen cs i c true within at (was_there new _ told old)

pub met_first : (fault : Option FrameError) (seen more : List (Bor Name)) (cs : List Column) (i : ℕ) (c : Column) (key : Bor Name) (new : Bool) → key.now ≡ c.name → i < length cs → c ≡ get_or cs i c → new ≡ not (list_any (λ other. same_name key.now other.now) seen) → new ≡ true → more ≡ insert_key (λ x y. same_name x.now y.now) seen key → fault ≡ repeated_name (names_shown seen) (drop i cs) → fault ≡ repeated_name (names_shown more) (drop (i + 1) cs)
met_first fault seen more cs i c key new shows within at told fresh grown is =
    let none : list_any (λ other. same_name key.now other.now) seen ≡ false = was_new new _ told fresh in
    let last : more ≡ seen ++ key ∷ [] = grown ∙ ap (λ b. cond b seen (seen ++ key ∷ [])) none in
    let names : names_shown more ≡ names_shown seen ++ c.name ∷ [] = ap names_shown last ∙ map-append (λ k. k.now) seen (key ∷ []) ∙ ap (λ n. names_shown seen ++ n ∷ []) shows in
    let apart : list_any (λ other. same_name c.name other.now) seen ≡ false = ap (λ n. list_any (λ other. same_name n other.now) seen) (sym shows) ∙ none in
    is ∙ met_name seen cs i c false within at apart ∙ ap (λ names. repeated_name names (drop (i + 1) cs)) (sym names)

-- each frame of the code is one
pub frame_is_frame : (frame : Frame) → IsFrame (frame_of frame)
frame_is_frame frame = sound_is_frame frame.columns.items frame.sound
