-- Schemas as nodes record them.
use Rattle.std.proofs.Common.{◌≡◌, ℕ, List, [], ◌∷◌, Some, None, slice_get, sym, ap, ◌∙◌, subst}
use Rattle.plan_types.specs.Schemas.{Columns}
use Rattle.plan_dsl.specs.Trees.{Trees, node, no_more, more, fold_all}
use Rattle.plan_dsl.specs.Ops.{Expression}
use Rattle.plan_dsl.specs.Plans.{Named, PlanKind, PlanOp, Plan}
use Rattle.plan_dsl.specs.PlanRules.{input_schema}
use Rattle.plan_arena.specs.declared.aexpr.AExpr.{AExpr}
use Rattle.plan_arena.specs.declared.ir.IR.{IR}
use Rattle.plan_arena.specs.Denotation.{Denotes, DenoteAll}
use Rattle.plan_arena.specs.Layers.{Layer, inputs_of, layer, op_of}
use Rattle.plan_arena.specs.Items.{HoldsPlan, DenotesItem, plan_layer}
use Rattle.plan_arena.specs.RecordedSchemas.{IsRecordedAt, recorded_into, recorded_over, schema_recorded}
use Rattle.plan_arena.specs.Runs.{own_schema}
use Rattle.plan_arena.proofs.ItemLemmas.{item_denotes, layer_inputs, layer_op}

-- a schema is recorded of whatever plan an item denotes
abbrev pub RecordsSchema : List IR → IR → Columns → Type 0
RecordsSchema plans item schema = (expressions : List AExpr) (plan : Plan) → DenotesItem expressions plans item plan → schema_recorded plan ≡ Some schema

-- an item that records a schema
pub item_records : (plans : List IR) (item : IR) (own : Columns) → (op_of (plan_layer item)).recorded ≡ Some own → RecordsSchema plans item own
item_records plans item own is expressions (node op ts) d =
    let same = sym d.1.denotes.same_recorded ∙ ap (λ (l : Layer (PlanOp (Named ℕ))). (op_of l).recorded) (sym d.1.is) ∙ is in
    ap (λ r. own_schema r (input_schema (fold_all recorded_over ts) 0)) same

over_kept : (expressions : List AExpr) (plans : List IR) (n : ℕ) (below : IR) (schema : Columns) → slice_get plans n ≡ Some below → RecordsSchema plans below schema → (op : PlanOp (Named Expression)) → op.recorded ≡ None → (ts : Trees (PlanOp (Named Expression))) → DenoteAll (HoldsPlan expressions plans) (n ∷ []) ts → schema_recorded (node op ts) ≡ Some schema
over_kept expressions plans n below schema got has op none (more t no_more) d =
    ap (λ r. own_schema r (schema_recorded t)) none ∙ has expressions t (item_denotes expressions plans n below got t d.0)
over_kept expressions plans n below schema got has op none no_more d = absurd d
over_kept expressions plans n below schema got has op none (more t (more u ts)) d = absurd d.1

-- an item over one input that records none itself, whose input records one
pub kept_records : (plans : List IR) (item below : IR) (own : PlanOp (Named ℕ)) (n : ℕ) (schema : Columns) → plan_layer item ≡ layer own (n ∷ []) → own.recorded ≡ None → slice_get plans n ≡ Some below → RecordsSchema plans below schema → RecordsSchema plans item schema
kept_records plans item below own n schema is records got has expressions (node op ts) d =
    let same = sym d.1.is ∙ is in
    let none = sym d.1.denotes.same_recorded ∙ ap (λ (f : PlanOp (Named ℕ)). f.recorded) (layer_op d.1.flat own d.0 (n ∷ []) same) ∙ records in
    over_kept expressions plans n below schema got has op none ts (subst (λ ns. DenoteAll (HoldsPlan expressions plans) ns ts) (layer_inputs d.1.flat own d.0 (n ∷ []) same) d.2)

records_first : (expressions : List AExpr) (plans : List IR) (below : IR) (schema : Columns) (kind : PlanKind (Named Expression)) (ns : List ℕ) (first : ℕ) → slice_get ns 0 ≡ Some first → slice_get plans first ≡ Some below → RecordsSchema plans below schema → (ts : Trees (PlanOp (Named Expression))) → DenoteAll (HoldsPlan expressions plans) ns ts → Some schema ≡ recorded_into kind ts
records_first expressions plans below schema kind [] first there got has ts d = cc
records_first expressions plans below schema kind (n ∷ ns) first there got has no_more d = absurd d
records_first expressions plans below schema kind (n ∷ ns) first there got has (more t ts) d =
    let same : n ≡ first = cc in
    sym (has expressions t (item_denotes expressions plans first below got t (subst (λ m. Denotes (HoldsPlan expressions plans) m t) same d.0)))

-- what the first input records goes into the item
pub first_records : (plans : List IR) (item below : IR) (first : ℕ) (schema : Columns) → slice_get (inputs_of (plan_layer item)) 0 ≡ Some first → slice_get plans first ≡ Some below → RecordsSchema plans below schema → (expressions : List AExpr) (op : PlanOp (Named Expression)) (ts : Trees (PlanOp (Named Expression))) → DenotesItem expressions plans item (node op ts) → Some schema ≡ recorded_into op.kind ts
first_records plans item below first schema there got has expressions op ts d =
    records_first expressions plans below schema op.kind d.0 first (ap (λ ns. slice_get ns 0) (sym (ap inputs_of d.1.is)) ∙ there) got has ts d.2

-- and of a node that has the item
pub recorded_at_node : (plans : List IR) (n : ℕ) (item : IR) (schema : Columns) → slice_get plans n ≡ Some item → RecordsSchema plans item schema → IsRecordedAt plans n schema
recorded_at_node plans n item schema got records expressions plan d = records expressions plan (item_denotes expressions plans n item got plan d)
