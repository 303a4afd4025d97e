-- Schemas that items of plans record, and columns that are put into one.
use Rattle.std.proofs.Common.{◌≡◌, ◌<◌, ◌+◌, ℕ, List, [], ◌∷◌, ◌++◌, length, map, drop, Option, Some, None, is_some, unwrap_or, IsTrue, slice_get, refl, sym, ap, ◌∙◌, subst, arith}
use Rattle.std.proofs.lemmas.Option.{slice_get_within, get_or_from_slice_get}
use Rattle.std.proofs.lemmas.List.{length-map}
use Rattle.plan_types.specs.Types.{Ty}
use Rattle.plan_types.specs.Schemas.{Name, Columns, with_column}
use Rattle.plan_types.proofs.ListLemmas.{item_left}
use Rattle.plan_dsl.specs.Plans.{Named, PlanOp}
use Rattle.plan_dsl.specs.PlanRules.{with_columns}
use Rattle.plan_arena.specs.declared.arena.Node.{Node}
use Rattle.plan_arena.specs.declared.ir.IR.{IR}
use Rattle.plan_arena.specs.Layers.{Layer, op_of}
use Rattle.plan_arena.specs.Items.{Grows, plan_layer}
use Rattle.plan_arena.proofs.ItemLemmas.{plan_added, plan_got, plan_stays}
use Rattle.plan_lower.specs.Lowering.{recorded_in, recorded_at, Records, columns_at}

held_there : (held : Option (Layer (PlanOp (Named ℕ)))) → IsTrue (is_some (recorded_in held)) → (item : Layer (PlanOp (Named ℕ))) × (held ≡ Some item)
held_there None records = absurd cc
held_there (Some item) records = (item, refl)

-- a node that records a schema is in the arena
pub records_within : (plans : List IR) (n : ℕ) → Records plans n → n < length plans
records_within plans n records =
    let held = held_there (slice_get (map plan_layer plans) n) records in
    omega (arith, slice_get_within (map plan_layer plans) n held.0 held.1, length-map plans plan_layer)

-- what the item that `get` answers records
pub recorded_got : (plans : List IR) (n : ℕ) (item : IR) → slice_get plans n ≡ Some item → recorded_at plans n ≡ (op_of (plan_layer item)).recorded
recorded_got plans n item got = ap recorded_in (plan_got plans n item got)

-- the columns of what is recorded
pub columns_of_recorded : (plans : List IR) (n : ℕ) (schema : Columns) → recorded_at plans n ≡ Some schema → columns_at plans n ≡ schema
columns_of_recorded plans n schema is = ap (λ recorded. unwrap_or recorded []) is

-- a new item records its schema
pub recorded_added : (plans new : List IR) (item : IR) (n : ℕ) (schema : Columns) → new ≡ plans ++ item ∷ [] → n ≡ length plans → (op_of (plan_layer item)).recorded ≡ Some schema → recorded_at new n ≡ Some schema
recorded_added plans new item n schema grown at is =
    let held = ap recorded_in (plan_added plans item) ∙ is in
    rw (grown, at) held

-- what is recorded stays as the arena grows
pub recorded_stays : (plans grown : List IR) (n : ℕ) → Grows plans grown → Records plans n → recorded_at grown n ≡ recorded_at plans n
recorded_stays plans grown n g records =
    let held = held_there (slice_get (map plan_layer plans) n) records in
    ap recorded_in (plan_stays plans grown g n held.0 held.1 ∙ sym held.1)

pub records_stay : (plans grown : List IR) (old new : Node) → Grows plans grown → new ≡ old → Records plans old.0 → Records grown new.0
records_stay plans grown old new g same records =
    subst (λ (n : Node). Records grown n.0) (sym same) (subst (λ recorded. IsTrue (is_some recorded)) (sym (recorded_stays plans grown old.0 g records)) records)

pub columns_stay : (plans grown : List IR) (old new : Node) → Grows plans grown → new ≡ old → Records plans old.0 → columns_at grown new.0 ≡ columns_at plans old.0
columns_stay plans grown old new g same records =
    ap (λ (n : Node). columns_at grown n.0) same ∙ ap (λ recorded. unwrap_or recorded []) (recorded_stays plans grown old.0 g records)

-- one more column is put in
pub columns_more : (whole new others all : Columns) (i : ℕ) (c : Name × Ty) → slice_get others i ≡ Some c → with_columns whole (drop i others) ≡ all → new ≡ with_column whole c.0 c.1 → with_columns new (drop (i + 1) others) ≡ all
columns_more whole new others all i c at before put =
    let left = item_left others i c c (slice_get_within others i c at) (sym (get_or_from_slice_get others i c c at)) in
    ap (λ w. with_columns w (drop (i + 1) others)) put ∙ ap (with_columns whole) (sym left) ∙ before
