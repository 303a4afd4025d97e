-- Meanings that are the same on lists of some rows, as of those of a frame. A node gives the same there of operands that do:
-- all are asked on the same rows, but for a window's function, which is asked on the rows of groups of them.
use Rattle.std.proofs.Common.{◌≡◌, ◌++◌, ℕ, suc, true, false, cond, List, [], ◌∷◌, map, length, replicate, Option, Some, None, Result, Ok, Err, refl, ap, ◌∙◌}
use Rattle.std.specs.Prelude.{zip}
use Rattle.std.specs.List.{AllByRecursion, filter, range_with_len}
use Rattle.plan_types.specs.Types.{Ty, same_type}
use Rattle.plan_types.specs.Frames.{Frame, Row}
use Rattle.plan_types.specs.Outcomes.{Done, then_do}
use Rattle.plan_types.specs.Values.{Val, NullValue}
use Rattle.plan_types.specs.declared.dtype.CastOptions.{CastOptions}
use Rattle.plan_types.specs.declared.dtype.CastOptions.TheVariants.{NonStrict}
use Rattle.plan_types.specs.declared.error.ErrorKind.{ErrorKind}
use Rattle.plan_dsl.specs.declared.sort_options.SortOptions.{SortOptions}
use Rattle.plan_dsl.specs.Groups.{Group, firsts, groups, items_beside, same_keys}
use Rattle.plan_dsl.specs.Kernels.{Meaning, cast_meaning, cast_values, for_rows, given, kernel, key_rows}
use Rattle.plan_dsl.specs.Meaning.{applied, node_meaning, ruled_meaning, taken_to}
use Rattle.plan_dsl.specs.Ops.{Op, WindowOp}
use Rattle.plan_dsl.specs.Registry.{Registry}
use Rattle.plan_dsl.specs.Sorting.{comes_before, sorted}
use Rattle.plan_dsl.specs.Typing.{Ruling, Typed, rule, types_of}
use Rattle.plan_dsl.specs.Windows.{Spot, on_group, on_groups, over_keys, put_in_order, spots_from, value_at, window_values}
use Rattle.plan_dsl.proofs.GroupingLemmas.{kept_have}
use Rattle.plan_dsl.proofs.SortLemmas.{permuted_each, sorted_same}

-- ---- the rows of groups are some of all

-- what each of some items has, each of a group's items has
module _ {A : Type 0} (P : A → Type 0) where
  beside_have : (keys : List Row) (items : List A) → AllByRecursion P items → AllByRecursion (λ (row : Row × A). P row.1) (zip keys items)
  beside_have [] items h = tt
  beside_have (key ∷ keys) [] h = tt
  beside_have (key ∷ keys) (item ∷ items) h = (h.0, beside_have keys items h.1)

  seconds_have : (rows : List (Row × A)) → AllByRecursion (λ (row : Row × A). P row.1) rows → AllByRecursion P (map (λ row. row.1) rows)
  seconds_have [] h = tt
  seconds_have (row ∷ rows) h = (h.0, seconds_have rows h.1)

  groups_of_have : (keys : List Row) (items : List A) (found : List Row) → AllByRecursion P items → AllByRecursion (λ (group : Group A). AllByRecursion P group.items) (map (λ key. record { key = key; items = items_beside key keys items }) found)
  groups_of_have keys items [] h = tt
  groups_of_have keys items (key ∷ found) h =
      let own = λ (row : Row × A). same_keys key row.0 in
      (seconds_have (filter own (zip keys items)) (kept_have (λ (row : Row × A). P row.1) own (zip keys items) (beside_have keys items h)), groups_of_have keys items found h)

module _ (Among : ℕ → Type 0) where
  abbrev AreAmong : List ℕ → Type 0
  AreAmong rows = AllByRecursion Among rows

  abbrev SpotsAmong : List Spot → Type 0
  SpotsAmong spots = AllByRecursion (λ (spot : Spot). Among spot.number) spots

  spots_among : (place : ℕ) (rows : List ℕ) (by : List Val) → AreAmong rows → SpotsAmong (spots_from place rows by)
  spots_among place [] by h = tt
  spots_among place (number ∷ rows) [] h = tt
  spots_among place (number ∷ rows) (value ∷ by) h = (h.0, spots_among (suc place) rows by h.1)

  numbers_among : (spots : List Spot) → SpotsAmong spots → AreAmong (map (λ spot. spot.number) spots)
  numbers_among [] h = tt
  numbers_among (spot ∷ spots) h = (h.0, numbers_among spots h.1)

  ordered_among : (order : Option SortOptions) (spots : List Spot) → SpotsAmong spots → SpotsAmong (put_in_order order spots)
  ordered_among None spots h = h
  ordered_among (Some options) spots h =
      let before = λ (left right : Spot). comes_before options left.by right.by in
      permuted_each (λ (spot : Spot). Among spot.number) spots (sorted before spots) (sorted_same before spots) h

  -- ---- meanings that agree

  -- the one gives on such rows what the other does
  abbrev pub Agree : Meaning → Meaning → Type 0
  Agree first second = (rows : List ℕ) → AreAmong rows → second rows ≡ first rows

  -- each does, one by one
  abbrev pub AllAgree : List Meaning → List Meaning → Type 0
  AllAgree [] [] = Unit {0}
  AllAgree (first ∷ firsts) (second ∷ seconds) = Agree first second × AllAgree firsts seconds
  AllAgree [] (second ∷ seconds) = ⊥
  AllAgree (first ∷ firsts) [] = ⊥

  given_agree : (fs gs : List Meaning) → AllAgree fs gs → (rows : List ℕ) → AreAmong rows → given gs rows ≡ given fs rows
  given_agree [] [] h rows are = refl
  given_agree (f ∷ fs) (g ∷ gs) h rows are =
      ap (λ o. then_do o (λ column. then_do (given gs rows) (λ columns. Done (column ∷ columns)))) (h.0 rows are)
      ∙ ap (λ o. then_do (f rows) (λ column. then_do o (λ columns. Done (column ∷ columns)))) (given_agree fs gs h.1 rows are)
  given_agree [] (g ∷ gs) h rows are = absurd h
  given_agree (f ∷ fs) [] h rows are = absurd h

  cast_agrees : (from target : Ty) (options : CastOptions) (f g : Meaning) → Agree f g → Agree (cast_meaning from target options f) (cast_meaning from target options g)
  cast_agrees from target options f g h rows are =
      let cast = λ (m : Meaning) (rows : List ℕ). then_do (m rows) (cast_values from target options) in
      elim (same_type from target) as (λ b. cond b g (cast g) rows ≡ cond b f (cast f) rows) [ true ↦ h rows are | false ↦ ap (λ o. then_do o (cast_values from target options)) (h rows are) ]

  taken_agree : (types targets : List Ty) (fs gs : List Meaning) → AllAgree fs gs → AllAgree (taken_to types targets fs) (taken_to types targets gs)
  taken_agree [] targets fs gs h = tt
  taken_agree (from ∷ types) [] fs gs h = tt
  taken_agree (from ∷ types) (target ∷ targets) [] [] h = tt
  taken_agree (from ∷ types) (target ∷ targets) (f ∷ fs) (g ∷ gs) h = (cast_agrees from target NonStrict f g h.0, taken_agree types targets fs gs h.1)
  taken_agree (from ∷ types) (target ∷ targets) [] (g ∷ gs) h = absurd h
  taken_agree (from ∷ types) (target ∷ targets) (f ∷ fs) [] h = absurd h

  -- ---- and so do windows of them

  module _ (f g : Meaning) (agree : Agree f g) where
    group_agrees : (spots : List Spot) → SpotsAmong spots → on_group g spots ≡ on_group f spots
    group_agrees spots h =
        ap (λ o. then_do o (λ values. then_do (for_rows (length spots) values) (λ column. Done (zip (map (λ spot. spot.place) spots) column)))) (agree (map (λ spot. spot.number) spots) (numbers_among spots h))

    groups_agree : (order : Option SortOptions) (all : List (Group Spot)) → AllByRecursion (λ (group : Group Spot). SpotsAmong group.items) all → on_groups order g all ≡ on_groups order f all
    groups_agree order [] h = refl
    groups_agree order (group ∷ rest) h =
        let spots = put_in_order order group.items in
        ap (λ o. then_do o (λ first. then_do (on_groups order g rest) (λ others. Done (first ++ others)))) (group_agrees spots (ordered_among order group.items h.0))
        ∙ ap (λ o. then_do (on_group f spots) (λ first. then_do o (λ others. Done (first ++ others)))) (groups_agree order rest h.1)

    keys_agree : (order : Option SortOptions) (rows : List ℕ) (by : List Val) (keys : List (List Val)) → AreAmong rows → over_keys order g rows by keys ≡ over_keys order f rows by keys
    keys_agree order rows by keys are =
        let spots = spots_from 0 rows by in
        let same = λ (each : List Row). groups_agree order (groups each spots) (groups_of_have (λ (spot : Spot). Among spot.number) each spots (firsts same_keys each) (spots_among 0 rows by are)) in
        λ i. then_do (key_rows (length rows) keys) (λ each. then_do (same each i) (λ placed. Done (map (value_at placed) (range_with_len 0 (length rows)))))

    window_agrees : (order : Option SortOptions) (rows : List ℕ) (columns : List (List Val)) → AreAmong rows → window_values order g rows columns ≡ window_values order f rows columns
    window_agrees None rows keys are = keys_agree None rows (replicate (length rows) NullValue) keys are
    window_agrees (Some options) rows (column ∷ keys) are =
        λ i. then_do (for_rows (length rows) column) (λ by. keys_agree (Some options) rows by keys are i)
    window_agrees (Some options) rows [] are = refl

  -- ---- and nodes over them

  module _ (registry : Registry) (frame : Frame) where
    applied_agree : (op : Op) (ruling : Ruling) (fs gs : List Meaning) → AllAgree fs gs → Agree (applied registry frame op ruling fs) (applied registry frame op ruling gs)
    applied_agree (WindowOp order) ruling (f ∷ fs) (g ∷ gs) h rows are =
        ap (λ o. then_do o (window_values order g rows)) (given_agree fs gs h.1 rows are)
        ∙ (λ i. then_do (given fs rows) (λ columns. window_agrees f g h.0 order rows columns are i))
    applied_agree (WindowOp order) ruling [] [] h rows are = refl
    applied_agree (WindowOp order) ruling [] (g ∷ gs) h rows are = absurd h
    applied_agree (WindowOp order) ruling (f ∷ fs) [] h rows are = absurd h
    applied_agree op ruling fs gs h rows are =
        ap (λ o. then_do o (kernel registry frame rows op ruling.operands ruling.own.type)) (given_agree fs gs h rows are)

    ruled_agree : (op : Op) (types : List Ty) (ruling : Result Ruling ErrorKind) (fs gs : List Meaning) → AllAgree fs gs → Agree (ruled_meaning registry frame op types ruling fs) (ruled_meaning registry frame op types ruling gs)
    ruled_agree op types (Err kind) fs gs h rows are = refl
    ruled_agree op types (Ok ruling) fs gs h rows are =
        applied_agree op ruling (taken_to types ruling.operands fs) (taken_to types ruling.operands gs) (taken_agree types ruling.operands fs gs h) rows are

    pub node_agrees : (op : Op) (typed : Result (List Typed) ErrorKind) (fs gs : List Meaning) → AllAgree fs gs → Agree (node_meaning registry frame op typed fs) (node_meaning registry frame op typed gs)
    node_agrees op (Err kind) fs gs h rows are = refl
    node_agrees op (Ok typed) fs gs h rows are = ruled_agree op (types_of typed) (rule registry frame.schema op typed) fs gs h rows are
