-- Sorts: what their expressions are expanded to, with flags for each key.
use Rattle.std.specs.Prelude.{◌≡◌, Bool, List, [], Ok}
use Rattle.plan_types.specs.Schemas.{Columns}
use Rattle.plan_dsl.specs.Expansion.{expansions}
use Rattle.plan_dsl.specs.Ops.{Expression}
use Rattle.plan_dsl.specs.SortFlags.{sort_flags}
use Rattle.plan_dsl.specs.Sources.{Source}
use Rattle.plan_dsl.specs.declared.sort_options.SortMultipleOptions.{SortMultipleOptions}

-- which keys descend, and which have their nulls last
abbrev pub falling : SortMultipleOptions → List Bool
falling options = options.descending.items.value.items

abbrev pub nulls_behind : SortMultipleOptions → List Bool
nulls_behind options = options.nulls_last.items.value.items

-- the expressions are expanded to these keys, and there are flags for them
pub record HasKeys (schema : Columns) (by : List Source) (options : SortMultipleOptions) (keys : List Expression) (own : SortMultipleOptions) : Type 0 where
  pub expanded : expansions [] schema by ≡ Ok keys
  pub flags : sort_flags schema by (falling options) (nulls_behind options) ≡ Ok (falling own, nulls_behind own)
