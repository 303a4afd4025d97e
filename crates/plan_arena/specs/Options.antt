-- The options that items of a lowered plan carry: what they do has none of them, since they mean nothing.
use Rattle.std.specs.Prelude.{◌≡◌, List, [], ◌∷◌, Result, IfOk, IfErr}
use Rattle.std.specs.List.{flat_map}
use Rattle.plan_types.specs.Errors.{no_memory}
use Rattle.plan_types.specs.declared.error.PlanError.{PlanError}
use Rattle.plan_dsl.specs.Plans.{PlanOption, HitsOption, OrderOption, ProjectionOption}
use Rattle.plan_arena.specs.Items.{plan_layer}
use Rattle.plan_arena.specs.declared.ir.IR.{IR}
use Rattle.plan_arena.specs.declared.ir.IR.TheVariants.{Cache, DataFrameScan, Distinct, Filter, GroupBy, HStack, MapFunction, Select, SimpleProjection, Sink, Slice, Sort, Invalid}

-- the option of an item, if it has one
abbrev pub option_of : IR → List PlanOption
option_of (DataFrameScan table schema) = []
option_of (Select expr input schema options) = ProjectionOption options ∷ []
option_of (HStack exprs input schema options) = ProjectionOption options ∷ []
option_of (GroupBy input keys aggs schema maintain_order) = OrderOption maintain_order ∷ []
option_of (Filter input predicate) = []
option_of (SimpleProjection input schema) = []
option_of (Sort input by_column sort_options) = []
option_of (Distinct input options) = OrderOption options.maintain_order ∷ []
option_of (Slice input offset len) = []
option_of (Cache input id cache_hits) = HitsOption cache_hits ∷ []
option_of (Sink input payload) = []
option_of (MapFunction input function schema) = []
option_of Invalid = []

-- the options of an arena's items, in the order of their numbers
abbrev pub options_of : List IR → List PlanOption
options_of items = flat_map option_of items

-- an answered copy does what the item does, over the same inputs, and has its options; a refusal is for want of memory
pub record CopiesItem (item : IR) (result : Result IR PlanError) : Type 0 where
  pub ok : IfOk result (λ copy. plan_layer copy ≡ plan_layer item)
  pub options : IfOk result (λ copy. option_of copy ≡ option_of item)
  pub err : IfErr result (λ error. error ≡ no_memory)
