-- Columns by their names: what a column is called, its type and its values, and that it can be cast.
use Rattle.std.proofs.Common.{◌≡◌, ◌∙◌, ◌+◌, ◌==◌, ℕ, List, [], ◌∷◌, ◌++◌, filter, length, map, Bool, true, false, cond, not, ◌&&◌, ◌||◌, Option, Some, None, unwrap_or, refl, sym, ap, arith}
use Rattle.std.specs.List.{AllByRecursion}
use Rattle.std.proofs.lemmas.Bool.{and_parts}
use Rattle.std.proofs.lemmas.Cmp.{nat_list_eq_equiv}
use Rattle.std.proofs.lemmas.List.Folds.{list_all-append}
use Rattle.std.proofs.lemmas.Slice.Eq.{bytes_eq-Decides}
use Rattle.plan_types.specs.Types.{Ty, NullType, ty}
use Rattle.plan_types.specs.Schemas.{Name, Columns, HasDistinctNames, IsNewName, is_among, names_of, same_name, type_at}
use Rattle.plan_types.specs.SchemaCalls.{types_of}
use Rattle.plan_types.specs.Values.{Val, all_fit, fits}
use Rattle.plan_types.specs.Casts.{can_cast}
use Rattle.plan_types.specs.Frames.{Row, value_in}
use Rattle.plan_types.specs.FrameFaults.{frame_fault, height_of, misfit, misfit_from, other_length, repeated_name, shown, vals_of}
use Rattle.plan_types.specs.declared.column.Column.{Column}
use Rattle.plan_types.specs.declared.error.ErrorKind.{ErrorKind}
use Rattle.plan_types.specs.declared.error.ErrorKind.TheVariants.{ColumnNotFound}
use Rattle.plan_types.specs.declared.frame.FrameError.TheVariants.{Misfit}
use Rattle.plan_types.proofs.FrameCallLemmas.{none_of_both}
use Rattle.plan_types.proofs.SchemaLemmas.{IsNewName-head, IsNewName-tail}
use Rattle.plan_dsl.specs.Drops.{have_names}
use Rattle.plan_dsl.specs.Rows.{in_front}
use Rattle.plan_dsl.specs.TableRules.{columns_under, unpivot_kinds, value_columns, where_standing}
use Rattle.plan_exec.specs.ColumnFunctions.{AllCast, columns_named}
use Rattle.plan_exec.specs.LaidFrames.{Shown, HaveRows, beside, column_under, contents, heads}
use Rattle.plan_exec.proofs.LaidLemmas.{beside_many}

-- a column that is looked up has the name, and the type under it
pub under_head : (columns : List Shown) (name : Name) → (column_under columns name).0 ≡ (name, unwrap_or (type_at (heads columns) name) NullType)
under_head [] name = refl
under_head (c ∷ cs) name =
    elim (same_name name c.0.0) as (λ b. same_name name c.0.0 ≡ b → (cond b c (column_under cs name)).0 ≡ (name, unwrap_or (cond b (Some c.0.1) (type_at (heads cs) name)) NullType)) [
      | true ↦ λ e. ap (λ (n : Name). (n, c.0.1)) (sym ((bytes_eq-Decides name c.0.0).0 e))
      | false ↦ λ e. under_head cs name
    ] refl

-- ---- values

-- under its own name a column's values are those in front of the rows, and under others they are the rows'
values_in_front : (own : Name × Ty) (columns : Columns) (name : Name) (values : List Val) (rows : List Row) (b : Bool) → same_name name own.0 ≡ b → length values ≡ length rows → map (value_in (own ∷ columns) name) (in_front values rows) ≡ cond b values (map (value_in columns name) rows)
values_in_front own columns name [] [] true e h = refl
values_in_front own columns name [] [] false e h = refl
values_in_front own columns name [] (row ∷ rows) b e h = cc
values_in_front own columns name (value ∷ values) [] b e h = cc
values_in_front own columns name (value ∷ values) (row ∷ rows) true e h =
    ap (λ b. cond b value (value_in columns name row) ∷ map (value_in (own ∷ columns) name) (in_front values rows)) e ∙ ap (λ l. value ∷ l) (values_in_front own columns name values rows true e (omega (arith, h)))
values_in_front own columns name (value ∷ values) (row ∷ rows) false e h =
    ap (λ b. cond b value (value_in columns name row) ∷ map (value_in (own ∷ columns) name) (in_front values rows)) e ∙ ap (λ l. value_in columns name row ∷ l) (values_in_front own columns name values rows false e (omega (arith, h)))

-- whether each of the names has a column
abbrev pub AllStand : Columns → List Name → Type 0
AllStand schema names = AllByRecursion (λ name. is_among name (names_of schema) ≡ true) names

module _ (count : ℕ) where
  -- the rows' values under the name of a column are its values, as many as there are rows
  pub under_values : (columns : List Shown) (name : Name) → HaveRows count columns → is_among name (names_of (heads columns)) ≡ true → map (value_in (heads columns) name) (beside count (contents columns)) ≡ (column_under columns name).1
  under_values [] name even there = cc
  under_values (c ∷ cs) name even there =
      let rows = beside count (contents cs) in
      let many : length c.1 ≡ length rows = even.0 ∙ sym (beside_many count cs even.1) in
      elim (same_name name c.0.0) as (λ b. same_name name c.0.0 ≡ b → (b || is_among name (names_of (heads cs))) ≡ true → map (value_in (heads (c ∷ cs)) name) (in_front c.1 rows) ≡ (cond b c (column_under cs name)).1) [
        | true ↦ λ e t. values_in_front c.0 (heads cs) name c.1 rows true e many
        | false ↦ λ e t. values_in_front c.0 (heads cs) name c.1 rows false e many ∙ under_values cs name even.1 t
      ] refl there

  -- it has as many values
  pub under_many : (columns : List Shown) (name : Name) → HaveRows count columns → is_among name (names_of (heads columns)) ≡ true → length (column_under columns name).1 ≡ count
  under_many [] name even there = cc
  under_many (c ∷ cs) name even there =
      elim (same_name name c.0.0) as (λ b. (b || is_among name (names_of (heads cs))) ≡ true → length (cond b c (column_under cs name)).1 ≡ count) [ true ↦ λ t. even.0 | false ↦ λ t. under_many cs name even.1 t ] there

-- ---- names that stand

-- each of names that columns have
pub each_stands : (schema : Columns) (names : List Name) → have_names schema names ≡ true → AllStand schema names
each_stands schema [] h = tt
each_stands schema (name ∷ names) h =
    let both = and_parts (is_among name (names_of schema)) (have_names schema names) h in
    (both.0, each_stands schema names both.1)

-- the names of two lists, of which columns have all
pub both_stand : (schema : Columns) (names others : List Name) → have_names schema (names ++ others) ≡ true → (have_names schema names ≡ true) × (have_names schema others ≡ true)
both_stand schema names others h =
    let test : Name → Bool = λ name. is_among name (names_of schema) in
    and_parts (have_names schema names) (have_names schema others) (sym (list_all-append test names others) ∙ h)

-- names of which each has a column
standing : (schema : Columns) (names : List Name) (kinds : List ErrorKind) → where_standing schema names kinds ≡ [] → have_names schema names ≡ true
standing schema names kinds h =
    elim (have_names schema names) as (λ b. cond b kinds (ColumnNotFound ∷ []) ≡ [] → b ≡ true) [ true ↦ λ h. refl | false ↦ λ h. cc ] h

-- the columns of both lists of names stand
pub unpivoted_stand : (schema : Columns) (on index : List Name) (variable value : Option Name) → unpivot_kinds schema on index variable value ≡ [] → (have_names schema on ≡ true) × (have_names schema index ≡ true)
unpivoted_stand schema on index variable value h = both_stand schema on index (standing schema (on ++ index) _ h)

-- what stands in later columns
later_stand : (first : Name × Ty) (schema : Columns) (names : List Name) → AllStand schema names → AllStand (first ∷ schema) names
later_stand first schema [] h = tt
later_stand first schema (name ∷ names) h =
    (elim (same_name name first.0) as (λ b. (b || is_among name (names_of schema)) ≡ true) [ true ↦ refl | false ↦ h.0 ], later_stand first schema names h.1)

-- the names of some of the columns
own_stand : (test : Name × Ty → Bool) (schema : Columns) → AllStand schema (names_of (filter test schema))
own_stand test [] = tt
own_stand test (c ∷ cs) =
    let later = later_stand c cs (names_of (filter test cs)) (own_stand test cs) in
    elim (test c) as (λ b. AllStand (c ∷ cs) (names_of (cond b (c ∷ filter test cs) (filter test cs)))) [
      | true ↦ (ap (λ b. b || is_among c.0 (names_of cs)) (nat_list_eq_equiv.refl c.0), later)
      | false ↦ later
    ]

-- the columns whose values an unpivot puts below each other stand
pub values_stand : (schema : Columns) (on index : List Name) → have_names schema on ≡ true → AllStand schema (value_columns schema on index)
values_stand schema [] index h = own_stand (λ column. not (is_among column.0 index)) schema
values_stand schema (name ∷ on) index h = each_stands schema (name ∷ on) h

-- ---- columns that aren't of some names

-- columns of later names are looked up among the later columns
later_named : (test : Name × Ty → Bool) (c : Shown) (cs : List Shown) (others : Columns) → IsNewName others c.0.0 → columns_named (c ∷ cs) (names_of (filter test others)) ≡ columns_named cs (names_of (filter test others))
later_named test c cs [] new = refl
later_named test c cs (d ∷ ds) new =
    let apart : same_name d.0 c.0.0 ≡ false = nat_list_eq_equiv.symm d.0 c.0.0 ∙ IsNewName-head d ds c.0.0 new in
    let later = later_named test c cs ds (IsNewName-tail d ds c.0.0 new) in
    elim (test d) as (λ b. columns_named (c ∷ cs) (names_of (cond b (d ∷ filter test ds) (filter test ds))) ≡ columns_named cs (names_of (cond b (d ∷ filter test ds) (filter test ds)))) [
      | true ↦ (λ i. cond (apart i) c (column_under cs d.0) ∷ later i)
      | false ↦ later
    ]

-- some columns are those that are looked up by their names
own_named : (test : Name × Ty → Bool) (columns : List Shown) → HasDistinctNames (heads columns) → columns_named columns (names_of (filter test (heads columns))) ≡ filter (λ column. test column.0) columns
own_named test [] distinct = refl
own_named test (c ∷ cs) distinct =
    let later = later_named test c cs (heads cs) distinct.0 ∙ own_named test cs distinct.1 in
    elim (test c.0) as (λ b. columns_named (c ∷ cs) (names_of (cond b (c.0 ∷ filter test (heads cs)) (filter test (heads cs)))) ≡ cond b (c ∷ filter (λ column. test column.0) cs) (filter (λ column. test column.0) cs)) [
      | true ↦ (λ i. cond (nat_list_eq_equiv.refl c.0.0 i) c (column_under cs c.0.0) ∷ later i)
      | false ↦ later
    ]

-- of no columns the values are those of all that aren't in the index
pub value_of_none : (columns : List Shown) (on index : List Name) → HasDistinctNames (heads columns) → (length on == 0) ≡ true → filter (λ column. not (is_among column.0.0 index)) columns ≡ columns_named columns (value_columns (heads columns) on index)
value_of_none columns [] index distinct none = sym (own_named (λ column. not (is_among column.0 index)) columns distinct)
value_of_none columns (name ∷ on) index distinct none = absurd (grind arith)

-- ---- values that can be cast

-- values of which none is misfit fit
no_misfits : (row : ℕ) (name : Name) (type : Ty) (values : List Val) → misfit_from row name type values ≡ None → all_fit values type ≡ true
no_misfits row name type [] h = refl
no_misfits row name type (value ∷ values) h =
    elim (fits value type) as (λ b. cond b (misfit_from (row + 1) name type values) (Some (Misfit name row)) ≡ None → (b && all_fit values type) ≡ true) [ true ↦ λ g. no_misfits (row + 1) name type values g | false ↦ λ g. cc ] h

-- each column's values fit
abbrev FitAll : List Shown → Type 0
FitAll columns = AllByRecursion (λ column. all_fit column.1 column.0.1 ≡ true) columns

-- so it is of columns of which none has a misfit,
each_fits : (columns : List Column) → misfit columns ≡ None → FitAll (map shown columns)
each_fits [] h = tt
each_fits (c ∷ cs) h =
    let parts = none_of_both (misfit_from 0 c.name (ty c.dtype) (vals_of c.values)) (misfit cs) h in
    (no_misfits 0 c.name (ty c.dtype) (vals_of c.values) parts.0, each_fits cs parts.1)

-- and then of the one that is looked up
under_fits : (columns : List Shown) (name : Name) → FitAll columns → all_fit (column_under columns name).1 (column_under columns name).0.1 ≡ true
under_fits [] name h = refl
under_fits (c ∷ cs) name h =
    elim (same_name name c.0.0) as (λ b. all_fit (cond b c (column_under cs name)).1 (cond b c (column_under cs name)).0.1 ≡ true) [ true ↦ h.0 | false ↦ under_fits cs name h.1 ]

-- columns that are looked up can be cast where their types can
named_cast : (type : Ty) (columns : List Shown) (names : List Name) → FitAll columns → AllByRecursion (λ from. can_cast from type ≡ true) (types_of (columns_under (heads columns) names)) → AllCast type (columns_named columns names)
named_cast type columns [] fit casts = tt
named_cast type columns (name ∷ names) fit casts =
    let own = ap (λ (head : Name × Ty). can_cast head.1 type) (under_head columns name) ∙ casts.0 in
    ((own, under_fits columns name fit), named_cast type columns names fit casts.1)

-- the values of sound columns can be cast where their types can
pub sound_cast : (type : Ty) (columns : List Column) (names : List Name) → frame_fault columns ≡ None → AllByRecursion (λ from. can_cast from type ≡ true) (types_of (columns_under (heads (map shown columns)) names)) → AllCast type (columns_named (map shown columns) names)
sound_cast type columns names sound casts =
    let behind = (none_of_both (repeated_name [] columns) _ sound).1 in
    let fit = each_fits columns (none_of_both (other_length (height_of columns) columns) (misfit columns) behind).1 in
    named_cast type (map shown columns) names fit casts
