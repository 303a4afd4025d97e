-- Unpivots of frames that are laid of columns: the frame of the index's columns, each so often, of the names of the others and of
-- their values.
use Rattle.std.proofs.Common.{◌≡◌, ◌∙◌, ◌+◌, ◌*◌, ℕ, suc, List, [], ◌∷◌, ◌++◌, length, map, true, Option, None, unwrap_or, refl, sym, ap, subst, arith, append_assoc, length-append}
use native.Mathlib.Nat.{suc-mul, zero-mul}
use Rattle.std.specs.List.{AllByRecursion, flat_map}
use Rattle.std.proofs.lemmas.List.{length-map, map-append}
use Rattle.std.proofs.lemmas.List.Concat.{flat_map-cons}
use Rattle.std.proofs.lemmas.List.Folds.{flat_map-map}
use Rattle.plan_types.specs.Types.{Ty, NullType, TextType}
use Rattle.plan_types.specs.Schemas.{Name, Columns, is_among, names_of, type_at}
use Rattle.plan_types.specs.Values.{Val, TextValue}
use Rattle.plan_types.specs.Casts.{cast}
use Rattle.plan_types.specs.Frames.{Frame, IsFrameOf, Row, value_in}
use Rattle.plan_types.specs.FrameFaults.{frame_fault, framed, heads_of, height_of, shown}
use Rattle.plan_types.specs.FrameViews.{columns_of, frame_of}
use Rattle.plan_types.specs.declared.column.Column.{Column}
use Rattle.plan_types.specs.declared.dtype.CastOptions.TheVariants.{NonStrict}
use Rattle.plan_types.specs.declared.frame.Frame.{Frame as Held}
use Rattle.plan_types.proofs.FrameCallLemmas.{framed_is_frame}
use Rattle.plan_types.proofs.ListLemmas.{map-map}
use Rattle.plan_dsl.specs.TableFrames.{given_or_null, unpivoted_on, unpivoted_row, unpivoted_rows}
use Rattle.plan_dsl.specs.TableRules.{columns_under, unpivot_kinds, value_columns, value_name, variable_name}
use Rattle.plan_dsl.proofs.UnpivotLemmas.{unpivot_keeps, values_cast}
use Rattle.plan_exec.specs.ColumnFunctions.{AllCast, below_type, cast_values, column_times, columns_named, name_values, names_below, times, unpivoted_shown, values_below}
use Rattle.plan_exec.specs.LaidFrames.{Shown, HaveRows, beside, column_under, contents, heads, laid}
use Rattle.plan_exec.proofs.ColumnUnderLemmas.{AllStand, each_stands, sound_cast, under_head, under_many, under_values, unpivoted_stand, values_stand}
use Rattle.plan_exec.proofs.LaidLemmas.{beside_joined, beside_many, rows_by_columns}
use Rattle.plan_exec.proofs.SoundLemmas.{IsFrameOfColumns, heads_shown, laid_is_sound, sound_is_laid}

-- ---- columns that are made name by name

-- what makes the values of a column, those of one name after those of another
abbrev Make : Type 0
Make = Name → List Val

-- the values of each column
abbrev each_made : List Make → List Name → List (List Val)
each_made makes names = map (λ make. flat_map make names) makes

module _ (count : ℕ) where
  -- each makes so many values of each name
  abbrev EachMany : List Make → List Name → Type 0
  EachMany makes names = AllByRecursion (λ make. AllByRecursion (λ name. length (make name) ≡ count) names) makes

  -- of the first name, and of later ones
  first_many : (makes : List Make) (name : Name) (names : List Name) → EachMany makes (name ∷ names) → AllByRecursion (λ make. length (make name) ≡ count) makes
  first_many [] name names h = tt
  first_many (make ∷ makes) name names h = (h.0.0, first_many makes name names h.1)

  later_many : (makes : List Make) (name : Name) (names : List Name) → EachMany makes (name ∷ names) → EachMany makes names
  later_many [] name names h = tt
  later_many (make ∷ makes) name names h = (h.0.1, later_many makes name names h.1)

  -- of no name there are no rows
  none_made : (makes : List Make) → beside 0 (each_made makes []) ≡ []
  none_made [] = refl
  none_made (make ∷ makes) = refl

  -- as many for one more name
  next_many : (names : List Name) → count + length names * count ≡ suc (length names) * count
  next_many names = omega (arith, suc-mul (length names) count)

  -- rows that are made name by name are those of the columns that are
  made_below : (makes : List Make) (names : List Name) → EachMany makes names → flat_map (λ name. beside count (map (λ make. make name) makes)) names ≡ beside (length names * count) (each_made makes names)
  made_below makes [] h = sym (ap (λ n. beside n (each_made makes [])) (zero-mul count) ∙ none_made makes)
  made_below makes (name ∷ names) h =
      let rows : Name → List Row = λ name. beside count (map (λ make. make name) makes) in
      let first : Make → List Val = λ make. make name in
      let later : Make → List Val = λ make. flat_map make names in
      flat_map-cons rows name names ∙ ap (λ l. rows name ++ l) (made_below makes names (later_many makes name names h))
      ∙ sym (beside_joined first later count (length names * count) makes (first_many makes name names h)) ∙ ap (λ n. beside n (each_made makes (name ∷ names))) (next_many names)

  -- so many values for each name
  flat_many : (make : Make) (names : List Name) → AllByRecursion (λ name. length (make name) ≡ count) names → length (flat_map make names) ≡ length names * count
  flat_many make [] h = sym (zero-mul count)
  flat_many make (name ∷ names) h =
      let later = flat_many make names h.1 in
      ap length (flat_map-cons make name names) ∙ length-append (make name) (flat_map make names) ∙ (λ i. h.0 i + later i) ∙ next_many names

  -- lists that are one have one first item, and one rest
  same_lists : (first other : List Val) (rest others : List (List Val)) → first ∷ rest ≡ other ∷ others → (first ≡ other) × (rest ≡ others)
  same_lists first other rest others is = (cc, cc)

  -- columns of what is made have as many values
  made_even : (makes : List Make) (names : List Name) (columns : List Shown) → contents columns ≡ each_made makes names → EachMany makes names → HaveRows (length names * count) columns
  made_even [] names [] is h = tt
  made_even [] names (c ∷ cs) is h = cc
  made_even (make ∷ makes) names [] is h = cc
  made_even (make ∷ makes) names (c ∷ cs) is h =
      let both = same_lists c.1 (flat_map make names) (contents cs) (each_made makes names) is in
      (ap length both.0 ∙ flat_many make names h.0, made_even makes names cs both.1 h.1)

-- the same values for each name
times_made : (values : List Val) (names : List Name) → times (length names) values ≡ flat_map (λ name. values) names
times_made values [] = refl
times_made values (name ∷ names) = ap (λ l. values ++ l) (times_made values names)

-- ---- rows

module _ (count : ℕ) (columns : List Shown) (even : HaveRows count columns) (index : List Name) (type : Ty) where
  -- the columns' names and types, and their rows
  abbrev schema : Columns
  schema = heads columns

  abbrev rows : List Row
  rows = beside count (contents columns)

  -- the names of a column, and its values in the type
  abbrev last_makes : List Make
  last_makes = (λ name. name_values (column_under columns name)) ∷ (λ name. cast_values type (column_under columns name)) ∷ []

  -- behind the values of each column of the index
  abbrev makes_of : List Name → List Make
  makes_of names = map (λ own name. (column_under columns own).1) names ++ last_makes

  -- the last two values of a row for a column, behind those of the index
  abbrev last_parts : Name → List (Row → Val)
  last_parts name = (λ row. TextValue name) ∷ (λ row. given_or_null (cast (value_in schema name row) (unwrap_or (type_at schema name) NullType) type NonStrict)) ∷ []

  abbrev parts_of : Name → List (Row → Val)
  parts_of name = map (value_in schema) index ++ last_parts name

  -- a row is made part by part
  row_parts : (name : Name) (row : Row) → unpivoted_row schema index type name row ≡ map (λ part. part row) (parts_of name)
  row_parts name row =
      ap (λ l. l ++ map (λ part. part row) (last_parts name)) (sym (map-map (λ (part : Row → Val). part row) (value_in schema) index)) ∙ sym (map-append (λ (part : Row → Val). part row) (map (value_in schema) index) (last_parts name))

  -- what each part of a row gives of all rows is the values of a column
  index_parts : (names : List Name) → AllStand schema names → map (λ part. map part rows) (map (value_in schema) names) ≡ map (λ own. (column_under columns own).1) names
  index_parts [] h = refl
  index_parts (own ∷ names) h =
      let first = under_values count columns own even h.0 in
      let later = index_parts names h.1 in
      (λ i. first i ∷ later i)

  name_part : (name : Name) → is_among name (names_of schema) ≡ true → map (λ row. TextValue name) rows ≡ name_values (column_under columns name)
  name_part name there =
      let values = under_values count columns name even there in
      let head = under_head columns name in
      sym (map-map (λ (value : Val). TextValue name) (value_in schema name) rows) ∙ (λ i. map (λ value. TextValue (sym head i).0) (values i))

  cast_part : (name : Name) → is_among name (names_of schema) ≡ true → map (λ row. given_or_null (cast (value_in schema name row) (unwrap_or (type_at schema name) NullType) type NonStrict)) rows ≡ cast_values type (column_under columns name)
  cast_part name there =
      let values = under_values count columns name even there in
      let head = under_head columns name in
      let from = unwrap_or (type_at schema name) NullType in
      sym (map-map (λ (value : Val). given_or_null (cast value from type NonStrict)) (value_in schema name) rows) ∙ (λ i. map (λ value. given_or_null (cast value (sym head i).1 type NonStrict)) (values i))

  -- so are all parts of the rows of one column's values
  parts_made : (name : Name) → AllStand schema index → is_among name (names_of schema) ≡ true → map (λ part. map part rows) (parts_of name) ≡ map (λ make. make name) (makes_of index)
  parts_made name stand there =
      let own : Name → Make = λ own name. (column_under columns own).1 in
      let names = name_part name there in
      let values = cast_part name there in
      let front = index_parts index stand ∙ sym (map-map (λ (make : Make). make name) own index) in
      map-append (λ (part : Row → Val). map part rows) (map (value_in schema) index) (last_parts name) ∙ (λ i. front i ++ names i ∷ values i ∷ []) ∙ sym (map-append (λ (make : Make). make name) (map own index) last_makes)

  -- the rows of one column's values
  rows_of_one : (name : Name) → AllStand schema index → is_among name (names_of schema) ≡ true → map (unpivoted_row schema index type name) rows ≡ beside count (map (λ make. make name) (makes_of index))
  rows_of_one name stand there =
      let many = beside_many count columns even in
      let made = parts_made name stand there in
      (λ i. map (λ row. row_parts name row i) rows) ∙ rows_by_columns (parts_of name) rows ∙ (λ i. beside (many i) (made i))

  rows_of_each : (names : List Name) → AllStand schema index → AllStand schema names → unpivoted_rows schema index type names rows ≡ flat_map (λ name. beside count (map (λ make. make name) (makes_of index))) names
  rows_of_each [] stand there = refl
  rows_of_each (name ∷ names) stand there =
      let first = rows_of_one name stand there.0 in
      let later = rows_of_each names stand there.1 in
      (λ i. first i ++ later i)

  -- what makes so many of each name that stands
  all_many : (make : Make) (names : List Name) → ((name : Name) → is_among name (names_of schema) ≡ true → length (make name) ≡ count) → AllStand schema names → AllByRecursion (λ name. length (make name) ≡ count) names
  all_many make [] each there = tt
  all_many make (name ∷ names) each there = (each name there.0, all_many make names each there.1)

  -- so many values of each name
  ends_many : (names : List Name) → AllStand schema names → EachMany count last_makes names
  ends_many names there =
      let many : (name : Name) → is_among name (names_of schema) ≡ true → length (column_under columns name).1 ≡ count = λ name there. under_many count columns name even there in
      let named = all_many (λ name. name_values (column_under columns name)) names (λ name there. length-map (column_under columns name).1 _ ∙ many name there) there in
      let valued = all_many (λ name. cast_values type (column_under columns name)) names (λ name there. length-map (column_under columns name).1 _ ∙ many name there) there in
      (named, (valued, tt))

  makes_many : (own names : List Name) → AllStand schema own → AllStand schema names → EachMany count (makes_of own) names
  makes_many [] names stand there = ends_many names there
  makes_many (own ∷ more) names stand there =
      (all_many (λ name. (column_under columns own).1) names (λ name there. under_many count columns own even stand.0) there, makes_many more names stand.1 there)

  -- ---- the columns that are made

  module _ (names : List Name) (variable value : Name) where
    abbrev below : List Shown
    below = columns_named columns names

    abbrev ends : List Shown
    ends = ((variable, TextType), names_below below) ∷ ((value, type), values_below type below) ∷ []

    abbrev made_columns : List Name → List Shown
    made_columns own = map (column_times (length below)) (columns_named columns own) ++ ends

    -- their values are made name by name
    values_made : (own : List Name) → contents (made_columns own) ≡ each_made (makes_of own) names
    values_made [] =
        let first = flat_map-map name_values (column_under columns) names in
        let second = flat_map-map (cast_values type) (column_under columns) names in
        (λ i. first i ∷ second i ∷ [])
    values_made (own ∷ more) =
        let values = (column_under columns own).1 in
        let first = ap (λ n. times n values) (length-map names (column_under columns)) ∙ times_made values names in
        let later = values_made more in
        (λ i. first i ∷ later i)

    -- their names and types are those of the schema
    heads_made : (own : List Name) → heads (made_columns own) ≡ columns_under schema own ++ (variable, TextType) ∷ (value, type) ∷ []
    heads_made [] = refl
    heads_made (own ∷ more) =
        let first = under_head columns own in
        let later = heads_made more in
        (λ i. first i ∷ later i)

    pub made_even_columns : AllStand schema index → AllStand schema names → HaveRows (length names * count) (made_columns index)
    made_even_columns stand there = made_even count (makes_of index) names (made_columns index) (values_made index) (makes_many index names stand there)

    pub made_frame : AllStand schema index → AllStand schema names → laid (length names * count) (made_columns index) ≡ record { schema = columns_under schema index ++ (variable, TextType) ∷ (value, type) ∷ []; rows = unpivoted_rows schema index type names rows }
    made_frame stand there =
        let own = heads_made index in
        let made = ap (beside (length names * count)) (values_made index) ∙ sym (made_below count (makes_of index) names (makes_many index names stand there)) ∙ sym (rows_of_each names stand there) in
        (λ i. record { schema = own i; rows = made i })

-- ---- unpivots

-- the columns that an unpivot makes are its frame
pub unpivoted_is : (on index : List Name) (variable value : Option Name) (old new : List Column) → frame_fault old ≡ None → unpivot_kinds (framed old).schema on index variable value ≡ [] → map shown new ≡ unpivoted_shown on index variable value (map shown old) → IsFrameOfColumns new (unpivoted_on on index variable value (framed old))
unpivoted_is on index variable value old new sound kinds are =
    let is_laid = sound_is_laid old sound in
    let columns = map shown old in
    let count = height_of old in
    let schema = heads columns in
    let names = value_columns schema on index in
    let type = below_type schema on index in
    let unbroken = subst (λ (f : Frame). unpivot_kinds f.schema on index variable value ≡ []) is_laid.frame kinds in
    let both = unpivoted_stand schema on index variable value unbroken in
    let stand = each_stands schema index both.1 in
    let there = values_stand schema on index both.0 in
    let even = subst (HaveRows (length names * count)) (sym are) (made_even_columns count columns is_laid.even index type names (variable_name variable) (value_name value) stand there) in
    let frame = made_frame count columns is_laid.even index type names (variable_name variable) (value_name value) stand there in
    let own : IsFrameOf (framed old).schema (framed old) = record { schema_is = refl; frame_is = framed_is_frame old sound } in
    laid_is_sound (length names * count) new (unpivoted_on on index variable value (framed old)) even
    (ap (laid (length names * count)) are ∙ frame ∙ ap (unpivoted_on on index variable value) (sym is_laid.frame)) (unpivot_keeps (framed old).schema (framed old) on index variable value own kinds).frame_is

-- and so they are of a frame's own columns
pub unpivoted_frame : (on index : List Name) (variable value : Option Name) (frame : Held) (moved columns new : List Column) → moved ≡ columns_of frame → frame_fault moved ≡ None → columns ≡ moved → unpivot_kinds (frame_of frame).schema on index variable value ≡ [] → map shown new ≡ unpivoted_shown on index variable value (map shown columns) → IsFrameOfColumns new (unpivoted_on on index variable value (frame_of frame))
unpivoted_frame on index variable value frame moved columns new is sound same kinds are =
    let own = subst (λ columns. frame_fault columns ≡ None) is sound in
    unpivoted_is on index variable value (columns_of frame) new own kinds (are ∙ ap (λ columns. unpivoted_shown on index variable value (map shown columns)) (same ∙ is))

-- what is asked of the columns whose values are put below each other
pub values_castable : (schema : Columns) (columns : List Column) (on index : List Name) (variable value : Option Name) (found : List Shown) → schema ≡ heads_of columns → frame_fault columns ≡ None → unpivot_kinds (heads_of columns) on index variable value ≡ [] → found ≡ columns_named (map shown columns) (value_columns (heads_of columns) on index) → AllCast (below_type schema on index) found
values_castable given columns on index variable value found is sound kinds are =
    let own = is ∙ heads_shown columns in
    let unbroken = subst (λ s. unpivot_kinds s on index variable value ≡ []) (heads_shown columns) kinds in
    let type = below_type (heads (map shown columns)) on index in
    let names = value_columns (heads (map shown columns)) on index in
    let casts = sound_cast type columns names sound (values_cast (heads (map shown columns)) on index variable value unbroken).1 in
    let shown_are = are ∙ ap (λ s. columns_named (map shown columns) (value_columns s on index)) (heads_shown columns) in
    subst (λ (s : Columns). AllCast (below_type s on index) found) (sym own) (subst (AllCast type) (sym shown_are) casts)

-- the columns that are made one behind the other
pub all_made : (schema : Columns) (columns : List Column) (on index : List Name) (variable value : Option Name) (below beside : List Shown) (made more all : List Column) (names values : Column) (count : ℕ) → schema ≡ heads_of columns → below ≡ columns_named (map shown columns) (value_columns (heads_of columns) on index) → beside ≡ columns_named (map shown columns) index → count ≡ length below → map shown made ≡ map (column_times count) beside → more ≡ made ++ names ∷ [] → all ≡ more ++ values ∷ [] → shown names ≡ ((variable_name variable, TextType), names_below below) → let type = below_type schema on index in shown values ≡ ((value_name value, type), values_below type below) → map shown all ≡ unpivoted_shown on index variable value (map shown columns)
all_made given columns on index variable value below beside made more all names values count is are index_are many repeated put also named valued =
    let old = map shown columns in
    let behind = also ∙ ap (λ l. l ++ values ∷ []) put ∙ append_assoc made (names ∷ []) (values ∷ []) in
    let own = is ∙ heads_shown columns in
    let types = ap (λ (s : Columns). below_type s on index) own in
    let lower : below ≡ columns_named old (value_columns (heads old) on index) = are ∙ ap (λ s. columns_named old (value_columns s on index)) (heads_shown columns) in
    let counted = many ∙ ap length lower in
    ap (map shown) behind ∙ map-append shown made (names ∷ values ∷ []) ∙ (λ i. repeated i ++ named i ∷ valued i ∷ [])
    ∙ (λ i. map (column_times (counted i)) (index_are i) ++ ((variable_name variable, TextType), names_below (lower i)) ∷ ((value_name value, types i), values_below (types i) (lower i)) ∷ [])
