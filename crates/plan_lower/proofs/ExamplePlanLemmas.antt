-- What the worked examples of plans rest on: one plan a node, scans, and the lowering of a sum.
use Rattle.std.proofs.Common.{inr, ◌≡◌, ℕ, true, false, List, [], ◌∷◌, map, codes, Option, Some, slice_get, refl, sym, ap, ◌∙◌, subst, arith}
use Rattle.plan_types.specs.Schemas.{Columns}
use Rattle.plan_types.specs.Frames.{Frame}
use Rattle.plan_dsl.specs.Counts.{cast_count}
use Rattle.plan_dsl.specs.Trees.{node, no_more}
use Rattle.plan_dsl.specs.Plans.{Named, PlanOp, Plan, named, scan_op, select_op}
use Rattle.plan_dsl.specs.PlanMeaning.{source_meaning, FitsPlan}
use Rattle.plan_arena.specs.declared.aexpr.AExpr.{AExpr}
use Rattle.plan_arena.specs.declared.ir.IR.{IR}
use Rattle.plan_arena.specs.Denotation.{Denotes}
use Rattle.plan_arena.specs.Layers.{Layer, layer}
use Rattle.plan_arena.specs.Items.{HoldsPlan, plan_layer}
use Rattle.plan_arena.specs.Runs.{plan_run}
use Rattle.plan_arena.proofs.DenotationLemmas.{denotes_one}
use Rattle.plan_arena.proofs.ItemLemmas.{plan_laws}
use Rattle.plan_dsl.specs.Samples.{all}
use Rattle.plan_dsl.specs.Sources.{written}
use Rattle.plan_bounds.specs.Bounds.{IsBounded}
use Rattle.plan_bounds.specs.PlanCounts.{plan_needs, plan_idle, plan_most, plan_size}
use Rattle.plan_lower.specs.Groups.{GroupsTo, HasExpandedGroups}
use Rattle.plan_lower.specs.Lowering.{IsBuilt}
use Rattle.plan_infer.specs.Samples.{int8, int32, one_column, two_columns, a, b, columns_and}
use Rattle.plan_coerce.specs.Samples.{strict_sum, strict_items}
use Rattle.plan_lower.specs.Samples.{as_it_is, grouped_columns, node_named, query, lowered_query, sum_layers}

-- a node denotes one plan
pub one_plan : (expressions : List AExpr) (plans : List IR) (n : ℕ) (t u : Plan) → Denotes (HoldsPlan expressions plans) n t → Denotes (HoldsPlan expressions plans) n u → t ≡ u
one_plan expressions plans n t u d e = denotes_one _ (HoldsPlan expressions plans) (plan_laws expressions plans) n t u d e

-- an item of a known list of layers
pub item_at : (plans : List IR) (layers : List (Layer (PlanOp (Named ℕ)))) (n : ℕ) (l : Layer (PlanOp (Named ℕ))) → map plan_layer plans ≡ layers → slice_get layers n ≡ Some l → slice_get (map plan_layer plans) n ≡ Some l
item_at plans layers n l is got = ap (λ ls. slice_get ls n) is ∙ got

pub scan_denotes : (expressions : List AExpr) (plans : List IR) (n : ℕ) (table : Option ℕ) (schema : Columns) → slice_get (map plan_layer plans) n ≡ Some (layer (scan_op table schema) []) → Denotes (HoldsPlan expressions plans) n (node (scan_op table schema) no_more)
scan_denotes expressions plans n table schema item =
    ([], record { flat = scan_op table schema; item = item; denotes = record { same_recorded = refl; kind = refl } }, tt)

pub lowered_denotes : (plans : List IR) → map plan_layer plans ≡ sum_layers → Denotes (HoldsPlan strict_items plans) 1 lowered_query
lowered_denotes plans is = (
  0 ∷ [],
  record {
    flat = select_op (node_named (codes "a") 2 ∷ []) (Some (one_column int32));
    item = item_at plans sum_layers 1 _ is refl;
    denotes = record { same_recorded = refl; kind = ((named strict_sum ∷ []) ∷ [], refl, ((refl, (3 ∷ 1 ∷ [], refl, ((0 ∷ [], refl, (([], refl, tt), tt)), (([], refl, tt), tt))), tt), tt)) };
  },
  (scan_denotes strict_items plans 0 (Some 0) two_columns (item_at plans sum_layers 0 _ is refl), tt),
)

-- on the frame of the scan's schema the lowered plan gives what the query means
same_on : (schema : Columns) → schema ≡ two_columns → (frame : Frame) (rest : List Frame) → frame.schema ≡ schema → plan_run [] (frame ∷ rest) lowered_query ≡ source_meaning [] (frame ∷ rest) query
same_on schema is frame rest own =
    subst (λ s. plan_run [] (record { schema = s; rows = frame.rows } ∷ rest) lowered_query ≡ source_meaning [] (record { schema = s; rows = frame.rows } ∷ rest) query) (sym (own ∙ is)) refl

same_frame : (tables : List Frame) → FitsPlan tables query → plan_run [] tables lowered_query ≡ source_meaning [] tables query
same_frame [] fits = absurd fits.0
same_frame (frame ∷ rest) fits = same_on two_columns refl frame rest fits.0.schema_is

-- the sum needs the one cast that it has
bounded : IsBounded [] query lowered_query
bounded =
    let casts : cast_count lowered_query ≡ 1 = refl in
    let needs : plan_needs true [] query ≡ 1 = refl in
    let idle : plan_idle false [] lowered_query ≡ 0 = refl in
    let size : plan_size lowered_query ≡ 5 = refl in
    let whole : plan_most [] query ≡ 5 = refl in
    record { casts = omega (arith, casts, needs); idle = omega (arith, idle); size = omega (arith, size, whole) }

pub built : IsBuilt [] query lowered_query (one_column int32)
built = record {
  well_formed = (refl, ((refl, tt), tt));
  source_schema = refl;
  lowered_schema = refl;
  accepted = (refl, ((refl, tt), tt));
  strict = ((((refl, refl), tt), tt), ((tt, tt), tt));
  names = ((((inr refl, (tt, ((tt, ((tt, tt), tt)), ((tt, tt), tt)))), tt), tt), ((tt, tt), tt));
  wide = (((refl, tt), tt), ((tt, tt), tt));
  split = (tt, ((tt, tt), tt));
  fits = λ tables fits. fits;
  same = same_frame;
  bounds = bounded;
}

-- groups by column a, with column b
pub grouped : GroupsTo [] two_columns (a ∷ []) (b ∷ []) (as_it_is a int8 ∷ []) (as_it_is b int32 ∷ [])
grouped = record {
  keys_are = refl;
  aggs_are = refl;
  each_key = (record { typed = refl; same = record { typing = refl; name = refl; meaning = λ rows. refl }; strict = refl; casts = refl; names = (tt, tt); wide = refl }, tt);
  each_agg = (record { typed = refl; same = record { typing = refl; name = refl; meaning = λ rows. refl }; strict = refl; casts = refl; names = (tt, tt); wide = refl }, tt);
  distinct = (refl, (refl, tt));
  some = λ e. cc;
}

pub expanded_groups : HasExpandedGroups [] two_columns (columns_and []) (written a ∷ []) (all ∷ []) (node_named (codes "a") 0 ∷ []) (node_named (codes "b") 1 ∷ []) grouped_columns
expanded_groups = record {
  trees = a ∷ [];
  expanded = refl;
  aggregates = b ∷ [];
  also = refl;
  lowered = record {
    key_outputs = as_it_is a int8 ∷ [];
    agg_outputs = as_it_is b int32 ∷ [];
    groups = grouped;
    keys_denote = (refl, ([], refl, tt), tt);
    aggs_denote = (refl, ([], refl, tt), tt);
    columns_are = refl;
  };
}
