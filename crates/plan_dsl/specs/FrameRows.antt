-- Rows that are sorted, sliced, and kept once.
use Rattle.std.specs.Prelude.{ℕ, ℤ, pos, ◌+ℤ◌, List, [], ◌∷◌, length, map, zip, flat_map}
use Rattle.plan_types.specs.Schemas.{Name, Columns}
use Rattle.plan_types.specs.Frames.{Row, value_in}
use Rattle.plan_dsl.specs.declared.sort_options.SortOptions.{SortOptions}
use Rattle.plan_dsl.specs.declared.distinct_options.UniqueKeepStrategy.{UniqueKeepStrategy}
use Rattle.plan_dsl.specs.declared.distinct_options.UniqueKeepStrategy.TheVariants.{First, Last, None, Any}
use Rattle.plan_dsl.specs.Groups.{groups}
use Rattle.plan_dsl.specs.Slices.{between_places, slice_start}
use Rattle.plan_dsl.specs.Sorting.{keys_before, sorted}

-- rows in the order of the keys beside them
abbrev pub rows_by_keys : List SortOptions → List Row → List Row → List Row
rows_by_keys options keys rows = map (λ row. row.0) (sorted (λ left right. keys_before options left.1 right.1) (zip rows keys))

-- so many rows from a place on: an offset below 0 counts from the end. Either end may lie outside
abbrev pub rows_between : ℤ → ℕ → List Row → List Row
rows_between offset count rows = between_places (slice_start offset (length rows)) (slice_start offset (length rows) +ℤ pos count) rows

-- what is kept of the rows of one group
abbrev pub kept_of : UniqueKeepStrategy → List Row → List Row
kept_of keep [] = []
kept_of First (row ∷ rows) = row ∷ []
kept_of Any (row ∷ rows) = row ∷ []
kept_of Last (row ∷ []) = row ∷ []
kept_of Last (row ∷ next ∷ rows) = kept_of Last (next ∷ rows)
kept_of None (row ∷ []) = row ∷ []
kept_of None (row ∷ next ∷ rows) = []

-- what is kept of each group of rows with the same keys, in the order in which keys first occur
abbrev pub rows_once : UniqueKeepStrategy → List Row → List Row → List Row
rows_once keep keys rows = flat_map (λ group. kept_of keep group.items) (groups keys rows)

-- a row's values under names
abbrev pub values_under : Columns → List Name → Row → Row
values_under schema names row = map (λ name. value_in schema name row) names
