-- An explode of a frame is a frame of its columns, in which those of lists are those of their items. What is found in these.
use Rattle.std.proofs.Common.{◌≡◌, ◌∙◌, ◌+◌, ℕ, Bool, true, false, ◌||◌, ◌==◌, cond, List, [], ◌∷◌, ◌++◌, length, map, replicate, Option, Some, None, IsTrue, refl, sym, ap, subst, arith, unwrap_or, length-append}
use Rattle.std.specs.List.{AllByRecursion, flat_map, list_all, sum_by}
use Rattle.std.proofs.lemmas.Bool.{and_from, and_parts, eq-eqb, eqb-true}
use Rattle.std.proofs.lemmas.Cmp.{nat_list_eq_equiv}
use Rattle.std.proofs.lemmas.List.{length-replicate, map-append}
use Rattle.std.proofs.lemmas.List.Folds.{flat_map-map}
use Rattle.std.proofs.lemmas.List.Sums.{sum_by-cons}
use Rattle.std.proofs.lemmas.Slice.Eq.{bytes_eq-Decides}
use Rattle.plan_types.specs.Types.{Ty}
use Rattle.plan_types.specs.Schemas.{Name, Columns, HasDistinctNames, IsNewName, is_among, names_of, repeats, same_name, type_at}
use Rattle.plan_types.specs.Values.{Val}
use Rattle.plan_types.specs.Outcomes.{Done, Meets, then_do}
use Rattle.plan_types.specs.Frames.{Row, Frame, RowFits, IsFrame, IsFrameOf, value_in}
use Rattle.plan_types.proofs.ListLemmas.{map-map}
use Rattle.plan_types.proofs.SchemaLemmas.{IsNewName-head, IsNewName-tail, distinct_from_test, test_from_distinct}
use Rattle.plan_types.proofs.ValueLemmas.{meets_then}
use Rattle.plan_dsl.specs.declared.signature.OwnType.TheVariants.{Item}
use Rattle.plan_dsl.specs.Picks.{exploded}
use Rattle.plan_dsl.specs.Rows.{at_length, in_front}
use Rattle.plan_dsl.specs.Signatures.{own_type}
use Rattle.plan_dsl.specs.TableFrames.{list_lengths, agreed, rows_of_items, exploded_row, exploded_rows, exploded_on}
use Rattle.plan_dsl.specs.TableLaws.{rows_made, IsExplodeOf, ExplodesHaveTheItems, OneColumnExplodes}
use Rattle.plan_dsl.specs.TableRules.{exploded_columns}
use Rattle.plan_dsl.proofs.ColumnLemmas.{replicate_fits}
use Rattle.plan_dsl.proofs.OrderLemmas.{done_parts}
use Rattle.plan_dsl.proofs.PickLemmas.{exploded_fits}
use Rattle.plan_dsl.proofs.RowFitLemmas.{rows_in_front, bare_rows, without_columns}
use Rattle.plan_dsl.proofs.RowWorkLemmas.{both_have}
use Rattle.plan_dsl.proofs.SortLemmas.{in_front_many}

module _ (names : List Name) where
  -- the columns keep their names
  exploded_names : (schema : Columns) → names_of (exploded_columns names schema) ≡ names_of schema
  exploded_names schema = map-map (λ column. column.0) _ schema

  exploded_distinct : (schema : Columns) → HasDistinctNames schema → HasDistinctNames (exploded_columns names schema)
  exploded_distinct schema h = distinct_from_test (exploded_columns names schema) (ap repeats (exploded_names schema) ∙ test_from_distinct schema h)

  abbrev Fit : Columns → List Row → Type 0
  Fit schema = AllByRecursion (RowFits (exploded_columns names schema))

  -- what is made of a fitting row fits them
  rows_of_items_fit : (count : ℕ) (schema : Columns) (row : Row) → RowFits schema row → Fit schema (rows_of_items count names schema row)
  rows_of_items_fit count [] row h = bare_rows count
  rows_of_items_fit count (column ∷ columns) [] h = absurd h
  rows_of_items_fit count (column ∷ columns) (value ∷ row) h =
      let rest = rows_of_items_fit count columns row h.1 in
      let others = rows_of_items count names columns row in
      elim (is_among column.0 names) as (λ b. AllByRecursion (RowFits ((column.0, cond b (own_type Item column.1) column.1) ∷ exploded_columns names columns)) (in_front (cond b (exploded value) (replicate count value)) others)) [
        | true ↦ rows_in_front (exploded_columns names columns) column.0 (own_type Item column.1) (exploded value) others (exploded_fits value column.1 h.0) rest
        | false ↦ rows_in_front (exploded_columns names columns) column.0 column.1 (replicate count value) others (replicate_fits count value column.1 h.0) rest
      ]

  exploded_row_fits : (schema : Columns) (row : Row) → RowFits schema row → Meets (Fit schema) (exploded_row names schema row)
  exploded_row_fits schema row h =
      elim (agreed (list_lengths names schema row)) as (λ o. Meets (Fit schema) (at_length o (λ count. rows_of_items count names schema row))) [ None ↦ tt | Some count ↦ rows_of_items_fit count schema row h ]

  exploded_rows_fit : (schema : Columns) (rows : List Row) → AllByRecursion (RowFits schema) rows → Meets (Fit schema) (exploded_rows names schema rows)
  exploded_rows_fit schema [] h = tt
  exploded_rows_fit schema (row ∷ rows) h =
      let later = exploded_rows names schema rows in
      meets_then (Fit schema) (Fit schema) (exploded_row names schema row) (λ first. then_do later (λ rest. Done (first ++ rest))) (exploded_row_fits schema row h.0) (λ first f.
      meets_then (Fit schema) (Fit schema) later (λ rest. Done (first ++ rest)) (exploded_rows_fit schema rows h.1) (λ rest g. both_have (RowFits (exploded_columns names schema)) first rest f g))

  -- without columns there is no row that makes one
  exploded_frame : (schema : Columns) (rows : List Row) → IsFrame (record { schema = schema; rows = rows }) → Meets (IsFrameOf (exploded_columns names schema)) (exploded_on names (record { schema = schema; rows = rows }))
  exploded_frame [] rows h = subst (λ rows. Meets (IsFrameOf []) (exploded_on names (record { schema = []; rows = rows }))) (sym h.bare) (without_columns [] refl)
  exploded_frame (column ∷ columns) rows h =
      let schema = column ∷ columns in
      let own = exploded_columns names schema in
      meets_then (Fit schema) (IsFrameOf own) (exploded_rows names schema rows) (λ found. Done (record { schema = own; rows = found })) (exploded_rows_fit schema rows h.fitting) (λ found fit. record {
        schema_is = refl;
        frame_is = record { distinct = exploded_distinct schema h.distinct; fitting = fit; bare = tt };
      })

-- an explode of a frame, whatever its names, is one of its columns, or there is a fault
pub explode_keeps : (schema : Columns) (frame : Frame) (names : List Name) → IsFrameOf schema frame → Meets (IsFrameOf (exploded_columns names schema)) (exploded_on names frame)
explode_keeps schema frame names h =
    subst (λ columns. Meets (IsFrameOf (exploded_columns names columns)) (exploded_on names frame)) h.schema_is (exploded_frame names frame.schema frame.rows h.frame_is)

-- ---- what is found in the columns

-- where a column is put in front of as many rows, it is found under its name, and the others under theirs
values_in_front : (own : Name × Ty) (columns : Columns) (name : Name) (values : List Val) (rows : List Row) → length values ≡ length rows → map (value_in (own ∷ columns) name) (in_front values rows) ≡ cond (same_name name own.0) values (map (value_in columns name) rows)
values_in_front own columns name [] [] h = let none : List Val = [] in elim (same_name name own.0) as (λ b. none ≡ cond b none none) [ true ↦ refl | false ↦ refl ]
values_in_front own columns name [] (row ∷ rows) h = cc
values_in_front own columns name (value ∷ values) [] h = cc
values_in_front own columns name (value ∷ values) (row ∷ rows) h =
    let other = value_in columns name row in
    let others = map (value_in columns name) rows in
    ap (λ l. cond (same_name name own.0) value other ∷ l) (values_in_front own columns name values rows (omega (arith, h)))
    ∙ elim (same_name name own.0) as (λ b. cond b value other ∷ cond b values others ≡ cond b (value ∷ values) (other ∷ others)) [ true ↦ refl | false ↦ refl ]

-- lists that agree all have so many items
abbrev AreAll : ℕ → List ℕ → Type 0
AreAll count lengths = IsTrue (list_all (λ other. other == count) lengths)

agreed_all : (count : ℕ) (lengths : List ℕ) → agreed lengths ≡ Some count → AreAll count lengths
agreed_all count [] h = refl
agreed_all count (first ∷ lengths) h =
    elim (list_all (λ other. other == first) lengths) as (λ b. list_all (λ other. other == first) lengths ≡ b → cond b (Some first) None ≡ Some count → AreAll count (first ∷ lengths)) [
      | true ↦ λ e k. let same : first ≡ count = cc in subst (λ n. AreAll n (first ∷ lengths)) same (and_from (first == first) _ (eq-eqb first first refl) e)
      | false ↦ λ e k. cc
    ] refl h

-- what a row's value becomes: the items of a list, or as many of any other
abbrev shown : Bool → ℕ → Val → List Val
shown listed count value = cond listed (exploded value) (replicate count value)

count_done : {A : Type 0} (count : Option ℕ) (make : ℕ → A) (found : A) → at_length count make ≡ Done found → (n : ℕ) × (count ≡ Some n) × (make n ≡ found)
count_done None make found h = cc
count_done (Some n) make found h = (n, refl, cc)

module _ (names : List Name) where
  -- so each column has as many values, and there are as many rows
  first_many : (count : ℕ) (column : Name × Ty) (columns : Columns) (value : Val) (row : Row) → AreAll count (list_lengths names (column ∷ columns) (value ∷ row)) → (length (shown (is_among column.0 names) count value) ≡ count) × AreAll count (list_lengths names columns row)
  first_many count column columns value row h =
      let others = list_lengths names columns row in
      let many = length (exploded value) in
      elim (is_among column.0 names) as (λ b. AreAll count (cond b (many ∷ others) others) → (length (shown b count value) ≡ count) × AreAll count others) [
        | true ↦ λ all. let parts = and_parts (many == count) _ all in (eqb-true many count parts.0, parts.1)
        | false ↦ λ all. (length-replicate count value, all)
      ] h

  rows_many : (count : ℕ) (schema : Columns) (row : Row) → RowFits schema row → AreAll count (list_lengths names schema row) → length (rows_of_items count names schema row) ≡ count
  rows_many count [] row h all = length-replicate count []
  rows_many count (column ∷ columns) [] h all = absurd h
  rows_many count (column ∷ columns) (value ∷ row) h all =
      let first = first_many count column columns value row all in
      in_front_many count (shown (is_among column.0 names) count value) (rows_of_items count names columns row) first.0 (rows_many count columns row h.1 first.1)

  -- a row's value is found as its items, or as often as there are items
  values_of_row : (count : ℕ) (schema : Columns) (row : Row) (name : Name) (type : Ty) → RowFits schema row → AreAll count (list_lengths names schema row) → type_at schema name ≡ Some type
      → map (value_in (exploded_columns names schema) name) (rows_of_items count names schema row) ≡ shown (is_among name names) count (value_in schema name row)
  values_of_row count [] row name type h all at = cc
  values_of_row count (column ∷ columns) [] name type h all at = absurd h
  values_of_row count (column ∷ columns) (value ∷ row) name type h all at =
      let first = first_many count column columns value row all in
      let values = shown (is_among column.0 names) count value in
      let rows = rows_of_items count names columns row in
      let others = exploded_columns names columns in
      let found = map (value_in others name) rows in
      let as_many = first.0 ∙ sym (rows_many count columns row h.1 first.1) in
      values_in_front (column.0, cond (is_among column.0 names) (own_type Item column.1) column.1) others name values rows as_many
      ∙ elim (same_name name column.0) as (λ b. same_name name column.0 ≡ b → cond b (Some column.1) (type_at columns name) ≡ Some type → cond b values found ≡ shown (is_among name names) count (cond b value (value_in columns name row))) [
        | true ↦ λ e there. ap (λ n. shown (is_among n names) count value) (sym ((bytes_eq-Decides name column.0).0 e))
        | false ↦ λ e there. values_of_row count columns row name type h.1 first.1 there
      ] refl at

  -- rows that are found are those of a first row and those of the others
  record IsFound (schema : Columns) (row : Row) (rows found : List Row) : Type 0 where
    count : ℕ
    agree : agreed (list_lengths names schema row) ≡ Some count
    rest : List Row
    later : exploded_rows names schema rows ≡ Done rest
    found_is : rows_of_items count names schema row ++ rest ≡ found

  first_found : (schema : Columns) (row : Row) (rows found : List Row) → exploded_rows names schema (row ∷ rows) ≡ Done found → IsFound schema row rows found
  first_found schema row rows found h =
      let later = exploded_rows names schema rows in
      let first = done_parts (exploded_row names schema row) (λ made. then_do later (λ rest. Done (made ++ rest))) found h in
      let own = count_done (agreed (list_lengths names schema row)) (λ count. rows_of_items count names schema row) first.0 first.1 in
      let second = done_parts later (λ rest. Done (first.0 ++ rest)) found first.2 in
      let whole : first.0 ++ second.0 ≡ found = cc in
      record { count = own.0; agree = own.1; rest = second.0; later = second.1; found_is = ap (λ l. l ++ second.0) own.2 ∙ whole }

  found_many : (schema : Columns) (rows found : List Row) → AllByRecursion (RowFits schema) rows → exploded_rows names schema rows ≡ Done found → length found ≡ sum_by (rows_made names schema) rows
  found_many schema [] found fit h = let none : [] ≡ found = cc in ap length (sym none)
  found_many schema (row ∷ rows) found fit h =
      let p = first_found schema row rows found h in
      let first = rows_many p.count schema row fit.0 (agreed_all p.count (list_lengths names schema row) p.agree) ∙ sym (ap (λ o. unwrap_or o 0) p.agree) in
      let later = found_many schema rows p.rest fit.1 p.later in
      ap length (sym p.found_is) ∙ length-append (rows_of_items p.count names schema row) p.rest ∙ (λ i. first i + later i) ∙ sym (sum_by-cons (rows_made names schema) row rows)

  found_values : (schema : Columns) (rows found : List Row) (name : Name) (type : Ty) (listed : Bool) → AllByRecursion (RowFits schema) rows → exploded_rows names schema rows ≡ Done found → is_among name names ≡ listed → type_at schema name ≡ Some type
      → map (value_in (exploded_columns names schema) name) found ≡ flat_map (λ row. shown listed (rows_made names schema row) (value_in schema name row)) rows
  found_values schema [] found name type listed fit h among at = let none : [] ≡ found = cc in ap (map (value_in (exploded_columns names schema) name)) (sym none)
  found_values schema (row ∷ rows) found name type listed fit h among at =
      let p = first_found schema row rows found h in
      let count = sym p.agree in
      let value = value_in schema name row in
      let own = value_in (exploded_columns names schema) name in
      let first = values_of_row p.count schema row name type fit.0 (agreed_all p.count (list_lengths names schema row) p.agree) at ∙ (λ i. shown (among i) (unwrap_or (count i) 0) value) in
      let later = found_values schema rows p.rest name type listed fit.1 p.later among at in
      ap (map own) (sym p.found_is) ∙ map-append own (rows_of_items p.count names schema row) p.rest ∙ (λ i. first i ++ later i)

  found_frame : (frame : Frame) (rows : List Row) → IsFrame frame → exploded_rows names frame.schema frame.rows ≡ Done rows → IsExplodeOf names frame (record { schema = exploded_columns names frame.schema; rows = rows })
  found_frame frame rows h is = record {
    as_many = found_many frame.schema frame.rows rows h.fitting is;
    items = λ name type among at. found_values frame.schema frame.rows rows name type true h.fitting is among at ∙ sym (flat_map-map exploded (value_in frame.schema name) frame.rows);
    others = λ name type among at. found_values frame.schema frame.rows rows name type false h.fitting is among at;
  }

pub explodes_have_the_items : ExplodesHaveTheItems
explodes_have_the_items names frame found h is =
    let parts = done_parts (exploded_rows names frame.schema frame.rows) (λ rows. Done (record { schema = exploded_columns names frame.schema; rows = rows })) found is in
    let same : record { schema = exploded_columns names frame.schema; rows = parts.0 } ≡ found = cc in
    subst (IsExplodeOf names frame) same (found_frame names frame parts.0 h parts.1)

-- ---- one column

module _ (name : Name) where
  no_lists : (columns : Columns) (row : Row) → IsNewName columns name → list_lengths (name ∷ []) columns row ≡ []
  no_lists [] row new = refl
  no_lists (column ∷ columns) [] new = refl
  no_lists (column ∷ columns) (value ∷ row) new =
      let others = list_lengths (name ∷ []) columns row in
      ap (λ b. cond (b || false) (length (exploded value) ∷ others) others) (nat_list_eq_equiv.symm column.0 name ∙ IsNewName-head column columns name new) ∙ no_lists columns row (IsNewName-tail column columns name new)

  -- there is at most one list, so that they agree
  one_list : (columns : Columns) (row : Row) → HasDistinctNames columns → agreed (list_lengths (name ∷ []) columns row) ≡ Some (length (exploded (value_in columns name row)))
  one_list [] row h = refl
  one_list (column ∷ columns) [] h = refl
  one_list (column ∷ columns) (value ∷ row) h =
      let others = list_lengths (name ∷ []) columns row in
      let many = length (exploded value) in
      ap (λ b. agreed (cond (b || false) (many ∷ others) others)) (nat_list_eq_equiv.symm column.0 name)
      ∙ elim (same_name name column.0) as (λ b. same_name name column.0 ≡ b → agreed (cond (b || false) (many ∷ others) others) ≡ Some (length (exploded (cond b value (value_in columns name row))))) [
        | true ↦ λ e. ap (λ l. agreed (many ∷ l)) (no_lists columns row (subst (IsNewName columns) (sym ((bytes_eq-Decides name column.0).0 e)) h.0))
        | false ↦ λ e. one_list columns row h.1
      ] refl

  one_by_one : (schema : Columns) (rows : List Row) → HasDistinctNames schema → (found : List Row) × (exploded_rows (name ∷ []) schema rows ≡ Done found)
  one_by_one schema [] h = ([], refl)
  one_by_one schema (row ∷ rows) h =
      let later = one_by_one schema rows h in
      let make : ℕ → List Row = λ count. rows_of_items count (name ∷ []) schema row in
      let first = make (length (exploded (value_in schema name row))) in
      (first ++ later.0, ap (λ o. then_do (at_length o make) (λ found. then_do (exploded_rows (name ∷ []) schema rows) (λ rest. Done (found ++ rest)))) (one_list schema row h) ∙ ap (λ o. then_do o (λ rest. Done (first ++ rest))) later.1)

pub one_column_explodes : OneColumnExplodes
one_column_explodes name frame h =
    let own = exploded_columns (name ∷ []) frame.schema in
    let rows = one_by_one name frame.schema frame.rows h.distinct in
    record {
      found = record { schema = own; rows = rows.0 };
      found_is = ap (λ o. then_do o (λ found. Done (record { schema = own; rows = found }))) rows.1;
      each = λ row. ap (λ o. unwrap_or o 0) (one_list name frame.schema row h.distinct);
    }
