-- A frame of the code is laid of its columns, and columns of which a frame is laid are that frame of the code.
use Rattle.std.proofs.Common.{◌≡◌, ◌∙◌, ◌+◌, ℕ, ◌==◌, List, [], ◌∷◌, ◌++◌, length, map, true, false, cond, Some, None, IsTrue, refl, sym, ap, subst, arith, slice_get, unwrap_or, eq-eqb, append_assoc}
use Rattle.std.specs.List.{AllByRecursion, range_with_len}
use Rattle.std.proofs.lemmas.Bool.{and_from, and_parts, eqb-true}
use Rattle.std.proofs.lemmas.List.{length_push}
use Rattle.std.proofs.lemmas.List.FromFn.{length-range_with_len}
use Rattle.plan_types.specs.Types.{Ty, ty}
use Rattle.plan_types.specs.Schemas.{Name, Columns, HasDistinctNames, is_among, repeats}
use Rattle.plan_types.specs.Values.{Val, NullValue, fits, all_fit}
use Rattle.plan_types.specs.Frames.{Row, Frame, RowFits, IsFrame}
use Rattle.plan_types.specs.FrameFaults.{count_of, else_fault, frame_fault, framed, head_of, heads_of, height_of, misfit, misfit_from, other_length, repeated_name, row_of, shown, vals_of}
use Rattle.plan_types.specs.declared.column.Column.{Column}
use Rattle.plan_types.specs.declared.frame.FrameError.TheVariants.{Duplicate, Length, Misfit}
use Rattle.plan_types.proofs.FrameCallLemmas.{none_of_both}
use Rattle.plan_types.proofs.ListLemmas.{map-map}
use Rattle.plan_types.proofs.NameLemmas.{repeats-again}
use Rattle.plan_types.proofs.SchemaLemmas.{test_from_distinct}
use Rattle.plan_dsl.specs.Rows.{in_front}
use Rattle.plan_exec.specs.LaidFrames.{Shown, HaveRows, beside, contents, heads, laid}
use Rattle.plan_exec.proofs.LaidLemmas.{beside_many, rows_by_columns}

-- ---- as many values in each column

pub all_even : (wanted : ℕ) (columns : List Column) → other_length wanted columns ≡ None → HaveRows wanted (map shown columns)
all_even wanted [] h = tt
all_even wanted (c ∷ cs) h =
    elim (count_of c == wanted) as (λ b. count_of c == wanted ≡ b → cond b (other_length wanted cs) (Some (Length c.name (count_of c) wanted)) ≡ None → HaveRows wanted (map shown (c ∷ cs))) [ true ↦ λ e g. (eqb-true (count_of c) wanted e, all_even wanted cs g) | false ↦ λ e g. cc ] refl h

even_all : (wanted : ℕ) (columns : List Column) → HaveRows wanted (map shown columns) → other_length wanted columns ≡ None
even_all wanted [] h = refl
even_all wanted (c ∷ cs) h =
    ap (λ b. cond b (other_length wanted cs) (Some (Length c.name (count_of c) wanted))) (eq-eqb (count_of c) wanted h.0) ∙ even_all wanted cs h.1

-- so many as the first column has, where there is one
even_first : (wanted : ℕ) (columns : List Column) → HaveRows wanted (map shown columns) → other_length (height_of columns) columns ≡ None
even_first wanted [] h = refl
even_first wanted (c ∷ cs) h = subst (λ n. other_length n (c ∷ cs) ≡ None) (sym h.0) (even_all wanted (c ∷ cs) h)

-- ---- values by their numbers

behind : (before : List Val) (value : Val) (values : List Val) → slice_get (before ++ value ∷ values) (length before) ≡ Some value
behind [] value values = refl
behind (first ∷ before) value values = behind before value values

numbered : (before values : List Val) (start : ℕ) → start ≡ length before → map (λ number. unwrap_or (slice_get (before ++ values) number) NullValue) (range_with_len start (length values)) ≡ values
numbered before [] start h = refl
numbered before (value ∷ values) start h =
    let there = ap (slice_get (before ++ value ∷ values)) h ∙ behind before value values in
    let whole : (before ++ value ∷ []) ++ values ≡ before ++ value ∷ values = append_assoc before (value ∷ []) values in
    let pushed = length_push before value in
    let rest = numbered (before ++ value ∷ []) values (start + 1) (omega (arith, h, pushed)) in
    let parted = ap (λ l. map (λ number. unwrap_or (slice_get l number) NullValue) (range_with_len (start + 1) (length values))) (sym whole) in
    (λ i. unwrap_or (there i) NullValue ∷ parted i) ∙ ap (λ l. value ∷ l) rest

-- ---- rows

abbrev value_of : Column → ℕ → Val
value_of column number = unwrap_or (slice_get (vals_of column.values) number) NullValue

own_values : (count : ℕ) (columns : List Column) → HaveRows count (map shown columns) → map (λ column. map (value_of column) (range_with_len 0 count)) columns ≡ contents (map shown columns)
own_values count [] h = refl
own_values count (c ∷ cs) h =
    ap (λ n. map (value_of c) (range_with_len 0 n) ∷ map (λ column. map (value_of column) (range_with_len 0 count)) cs) (sym h.0)
    ∙ ap (λ l. l ∷ map (λ column. map (value_of column) (range_with_len 0 count)) cs) (numbered [] (vals_of c.values) 0 refl)
    ∙ ap (λ l. vals_of c.values ∷ l) (own_values count cs h.1)

rows_of_functions : (numbers : List ℕ) (columns : List Column) → map (row_of columns) numbers ≡ map (λ number. map (λ f. f number) (map value_of columns)) numbers
rows_of_functions [] columns = refl
rows_of_functions (number ∷ numbers) columns =
    let first = sym (map-map (λ (f : ℕ → Val). f number) value_of columns) in
    let later = rows_of_functions numbers columns in
    (λ i. first i ∷ later i)

-- the rows of columns with so many values stand side by side
rows_beside : (count : ℕ) (columns : List Column) → HaveRows count (map shown columns) → map (row_of columns) (range_with_len 0 count) ≡ beside count (contents (map shown columns))
rows_beside count columns h =
    let numbers = range_with_len 0 count in
    let functions = map value_of columns in
    let by_functions : map (λ number. map (λ f. f number) functions) numbers ≡ beside (length numbers) (map (λ f. map f numbers) functions) = rows_by_columns functions numbers in
    let each : map (λ f. map f numbers) functions ≡ contents (map shown columns) = map-map (λ f. map f numbers) value_of columns ∙ own_values count columns h in
    let many = length-range_with_len 0 count in
    rows_of_functions numbers columns ∙ by_functions ∙ (λ i. beside (many i) (each i))

pub heads_shown : (columns : List Column) → heads_of columns ≡ heads (map shown columns)
heads_shown columns = sym (map-map (λ (column : Shown). column.0) shown columns)

-- ---- what keeps columns from being a frame

abbrev names_of_columns : List Column → List Name
names_of_columns columns = map (λ column. column.name) columns

apart_behind : (before : List Name) (columns : List Column) → repeats (before ++ names_of_columns columns) ≡ false → repeated_name before columns ≡ None
apart_behind before [] h = refl
apart_behind before (c ∷ cs) h =
    let names = names_of_columns cs in
    elim (is_among c.name before) as (λ b. is_among c.name before ≡ b → cond b (Some (Duplicate c.name)) (repeated_name (before ++ c.name ∷ []) cs) ≡ None) [
      | true ↦ λ e. let twice = repeats-again before c.name names e in absurd cc
      | false ↦ λ e. apart_behind (before ++ c.name ∷ []) cs (ap repeats (append_assoc before (c.name ∷ []) names) ∙ h)
    ] refl

apart : (columns : List Column) → HasDistinctNames (heads (map shown columns)) → repeated_name [] columns ≡ None
apart columns h =
    let names = sym (map-map (λ (column : Name × Ty). column.0) head_of columns) in
    apart_behind [] columns (ap repeats names ∙ test_from_distinct (heads_of columns) (subst HasDistinctNames (sym (heads_shown columns)) h))

all_in_place : (row : ℕ) (name : Name) (type : Ty) (values : List Val) → IsTrue (all_fit values type) → misfit_from row name type values ≡ None
all_in_place row name type [] h = refl
all_in_place row name type (value ∷ values) h =
    let both = and_parts (fits value type) (all_fit values type) h in
    ap (λ b. cond b (misfit_from (row + 1) name type values) (Some (Misfit name row))) both.0 ∙ all_in_place (row + 1) name type values both.1

-- values that stand in front of rows fit their type where the rows fit the columns
pub front_fits : (own : Name × Ty) (columns : Columns) (values : List Val) (rows : List Row) → length values ≡ length rows → AllByRecursion (RowFits (own ∷ columns)) (in_front values rows) → IsTrue (all_fit values own.1) × AllByRecursion (RowFits columns) rows
front_fits own columns [] [] many h = (refl, tt)
front_fits own columns [] (row ∷ rows) many h = cc
front_fits own columns (value ∷ values) [] many h = cc
front_fits own columns (value ∷ values) (row ∷ rows) many h =
    let later = front_fits own columns values rows (omega (arith, many)) h.1 in
    (and_from (fits value own.1) (all_fit values own.1) h.0.0 later.0, (h.0.1, later.1))

all_fitting : (count : ℕ) (columns : List Column) → HaveRows count (map shown columns) → AllByRecursion (RowFits (heads (map shown columns))) (beside count (contents (map shown columns))) → misfit columns ≡ None
all_fitting count [] h fit = refl
all_fitting count (c ∷ cs) h fit =
    let others = map shown cs in
    let parts = front_fits (head_of c) (heads others) (vals_of c.values) (beside count (contents others)) (h.0 ∙ sym (beside_many count others h.1)) fit in
    let rest = misfit cs in
    ap (λ f. else_fault f rest) (all_in_place 0 c.name (ty c.dtype) (vals_of c.values) parts.0) ∙ all_fitting count cs h.1 parts.1

-- ---- frames

-- a frame of the code is laid of its columns, which have as many values as there are rows
pub record IsLaid (columns : List Column) : Type 0 where
  pub even : HaveRows (height_of columns) (map shown columns)
  pub frame : framed columns ≡ laid (height_of columns) (map shown columns)

pub sound_is_laid : (columns : List Column) → frame_fault columns ≡ None → IsLaid columns
sound_is_laid columns h =
    let behind = (none_of_both (repeated_name [] columns) _ h).1 in
    let even = all_even (height_of columns) columns (none_of_both (other_length (height_of columns) columns) (misfit columns) behind).0 in
    let schema = heads_shown columns in
    let rows = rows_beside (height_of columns) columns even in
    record { even = even; frame = λ i. record { schema = schema i; rows = rows i } }

-- columns of which a frame is laid are sound, and are that frame
pub record IsFrameOfColumns (columns : List Column) (frame : Frame) : Type 0 where
  pub sound : frame_fault columns ≡ None
  pub frame_is : framed columns ≡ frame

height_or_none : (count : ℕ) (columns : List Column) (frame : Frame) → HaveRows count (map shown columns) → laid count (map shown columns) ≡ frame → IsFrame frame → map (row_of columns) (range_with_len 0 (height_of columns)) ≡ frame.rows
height_or_none count [] frame even is h =
    let bare : beside count [] ≡ [] = (subst IsFrame (sym is) h).bare in sym bare ∙ ap (λ f. f.rows) is
height_or_none count (c ∷ cs) frame even is h =
    ap (λ n. map (row_of (c ∷ cs)) (range_with_len 0 n)) even.0 ∙ rows_beside count (c ∷ cs) even ∙ ap (λ f. f.rows) is

pub laid_is_sound : (count : ℕ) (columns : List Column) (frame : Frame) → HaveRows count (map shown columns) → laid count (map shown columns) ≡ frame → IsFrame frame → IsFrameOfColumns columns frame
laid_is_sound count columns frame even is h =
    let own = subst IsFrame (sym is) h in
    let names = apart columns own.distinct in
    let lengths = even_first count columns even in
    let values = all_fitting count columns even own.fitting in
    let schema = heads_shown columns ∙ ap (λ f. f.schema) is in
    let rows = height_or_none count columns frame even is h in
    record {
      sound = (λ i. else_fault (names i) (else_fault (lengths i) (values i)));
      frame_is = λ i. record { schema = schema i; rows = rows i };
    }
