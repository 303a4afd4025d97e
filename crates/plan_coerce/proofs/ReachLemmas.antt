-- Nodes that roots reach, as nodes are added and one is written.
use Rattle.std.proofs.Common.{◌≡◌, ◌≢◌, ℕ, zero, suc, ◌<◌, ◌≤◌, true, false, List, [], ◌∷◌, ◌++◌, length, map, set, reverse, Some, slice_get, refl, sym, ap, ◌∙◌, subst, arith, inl, inr, ⊎_elim, length-append}
use Rattle.std.specs.List.{AllByRecursion}
use Rattle.std.proofs.lemmas.Option.{slice_get_within, slice_get-get_or}
use Rattle.std.proofs.lemmas.Bool.{cases_lt}
use Rattle.std.proofs.lemmas.List.{length-map, map-set}
use Rattle.std.proofs.Math.ListN.{length-set}
use Rattle.plan_types.proofs.ListLemmas.{slice_get-set_other}
use Rattle.plan_types.specs.Types.{Ty, same_type}
use Rattle.plan_dsl.specs.Ops.{Op, Expression}
use Rattle.plan_dsl.specs.Trees.{Trees, node, no_more, more}
use Rattle.plan_arena.specs.Denotation.{Denotes, DenoteAll}
use Rattle.plan_arena.specs.declared.aexpr.AExpr.{AExpr}
use Rattle.plan_arena.specs.Layers.{layer, op_of, inputs_of}
use Rattle.plan_arena.specs.Items.{HoldsExpression, Rewired, expression_layer}
use Rattle.plan_arena.proofs.DenotationLemmas.{some_same, same_or_other}
use Rattle.plan_arena.proofs.ItemLemmas.{layer_inputs, layer_parts, expression_added, expression_elsewhere, expression_written}
use Rattle.plan_arena.proofs.NumberLemmas.{all_joined, all_reversed}
use Rattle.plan_infer.specs.declared.type_table.TypeTable.{TypeTable}
use Rattle.plan_infer.proofs.TableLemmas.{layer_held}
use Rattle.plan_coerce.specs.Coercion.{Operand, IsChanged, AreChanged}
use Rattle.plan_coerce.specs.Reaching.{Among, IsReached, Near, IsClosed, ReachedBy}
use Rattle.plan_coerce.proofs.RightLemmas.{held_before, node_within}

pub all_among : (P : ℕ → Type 0) (ns : List ℕ) → ((n : ℕ) → Among ns n → P n) → AllByRecursion P ns
all_among P [] h = tt
all_among P (n ∷ ns) h = (h n (inl refl), all_among P ns (λ m a. h m (inr a)))

-- roots, and what they lead to, at the start
pub roots_near : (items : List AExpr) (roots : List ℕ) → AllByRecursion (Near items roots) roots
roots_near items roots = all_among (Near items roots) roots (λ n a. inr (record { steps = zero; path = a }))

pub closed_start : (items : List AExpr) (roots : List ℕ) → IsClosed items roots items
closed_start items roots n op inputs near held =
    ⊎_elim
    (λ le. absurd (omega (arith, le, node_within items n op inputs held)))
    (λ r. all_among (Near items roots) inputs (λ m a. inr (record { steps = suc r.steps; path = (n, op, inputs, r.path, held, a) })))
    near

-- an item of a list was there before another was written
pub held_unwritten : (old : List AExpr) (at : ℕ) (item : AExpr) (n : ℕ) (op : Op) (inputs : List ℕ) → n ≢ at → HoldsExpression (set old at item) n op inputs → HoldsExpression old n op inputs
held_unwritten old at item n op inputs other h =
    let layers = map expression_layer old in
    let within = node_within (set old at item) n op inputs h in
    let got = slice_get-get_or layers n (layer op inputs) (omega (arith, within, length-set old at item, length-map old expression_layer)) in
    let there = ap (λ l. slice_get l n) (map-set expression_layer old at item) ∙ slice_get-set_other layers at (expression_layer item) n _ other got in
    got ∙ ap Some (some_same (slice_get (map expression_layer (set old at item)) n) _ _ there h)

-- with a node that was added over such nodes
pub closed_added : (start : List AExpr) (roots : List ℕ) (old new : List AExpr) (item : AExpr) (op : Op) (ins : List ℕ) → new ≡ old ++ item ∷ [] → expression_layer item ≡ layer op ins → AllByRecursion (Near start roots) ins → IsClosed start roots old → IsClosed start roots new
closed_added start roots old new item op ins grown is near closed n o inputs here held =
    let now = subst (λ l. HoldsExpression l n o inputs) grown held in
    ⊎_elim
    (λ lt. closed n o inputs here (held_before old item n o inputs lt now))
    (λ le.
    let within = node_within (old ++ item ∷ []) n o inputs now in
    let last : n ≡ length old = omega (arith, le, within, length-append old (item ∷ [])) in
    let there = expression_added old item ∙ ap Some is in
    let one = some_same (slice_get (map expression_layer (old ++ item ∷ [])) (length old)) (layer op ins) (layer o inputs) there (subst (λ k. HoldsExpression (old ++ item ∷ []) k o inputs) last now) in
    subst (AllByRecursion (Near start roots)) (layer_inputs op o ins inputs one) near)
    (cases_lt n (length old))

-- with a node that was written over such nodes
pub closed_written : (start : List AExpr) (roots : List ℕ) (old new : List AExpr) (at : ℕ) (ms : List ℕ) → Rewired old new at ms → AllByRecursion (Near start roots) ms → IsClosed start roots old → IsClosed start roots new
closed_written start roots old new at ms rew near closed n o inputs here held =
    let now = subst (λ l. HoldsExpression l n o inputs) rew.items held in
    ⊎_elim
    (λ same.
    let there = expression_written old at rew.after (slice_get_within old at rew.before rew.got) ∙ ap Some rew.rewired in
    let op = op_of (expression_layer rew.before) in
    let one = some_same (slice_get (map expression_layer (set old at rew.after)) at) (layer op ms) (layer o inputs) there (subst (λ k. HoldsExpression (set old at rew.after) k o inputs) same now) in
    subst (AllByRecursion (Near start roots)) (layer_inputs op o ms inputs one) near)
    (λ other. closed n o inputs here (held_unwritten old at rew.after n o inputs other now))
    (same_or_other n at)

-- operands that were changed
operands_near : (start : List AExpr) (roots : List ℕ) (old new : List AExpr) (table : TypeTable) (os : List Operand) → length start ≤ length old → AllByRecursion (Near start roots) (map (λ o. o.input) os) → AllByRecursion (IsChanged old new table) os → AllByRecursion (Near start roots) (map (λ o. o.changed) os)
operands_near start roots old new table [] le near all = tt
operands_near start roots old new table (o ∷ os) le near all =
    let one = elim (same_type o.from o.target) as (λ b. same_type o.from o.target ≡ b → Near start roots o.changed) [ true ↦ λ e. subst (Near start roots) (sym (all.0.stays e)) near.0 | false ↦ λ e. inl (omega (arith, le, all.0.fresh e)) ] refl in
    (one, operands_near start roots old new table os le near.1 all.1)

pub changed_near : (start : List AExpr) (roots : List ℕ) (old new : List AExpr) (table : TypeTable) (ns ms : List ℕ) (targets : List Ty) → length start ≤ length old → AreChanged old new table ns ms targets → AllByRecursion (Near start roots) ns → AllByRecursion (Near start roots) ms
changed_near start roots old new table ns ms targets le c near =
    subst (AllByRecursion (Near start roots)) c.changed_are (operands_near start roots old new table c.operands le (subst (AllByRecursion (Near start roots)) (sym c.inputs_are) near) c.each)

-- the inputs of a node
pub inputs_near : (start : List AExpr) (roots : List ℕ) (items : List AExpr) (n : ℕ) (item : AExpr) → slice_get items n ≡ Some item → IsClosed start roots items → Near start roots n → AllByRecursion (Near start roots) (inputs_of (expression_layer item))
inputs_near start roots items n item got closed near = closed n (op_of (expression_layer item)) (inputs_of (expression_layer item)) near (layer_held items n item got)

-- what waits, when the last was visited and its inputs took its place
pub stack_near : (start : List AExpr) (roots : List ℕ) (items : List AExpr) (n : ℕ) (item : AExpr) (rest stack : List ℕ) → slice_get items n ≡ Some item → IsClosed start roots items → Near start roots n → AllByRecursion (Near start roots) rest → stack ≡ rest ++ reverse (inputs_of (expression_layer item)) → AllByRecursion (Near start roots) stack
stack_near start roots items n item rest stack got closed near waits is =
    let inputs = inputs_of (expression_layer item) in
    subst (AllByRecursion (Near start roots)) (sym is) (all_joined (Near start roots) rest (reverse inputs) waits (all_reversed (Near start roots) inputs (inputs_near start roots items n item got closed near)))

-- an item that is not reached is another than one that is near
pub not_near : (start : List AExpr) (roots : List ℕ) (at n : ℕ) (op : Op) (inputs : List ℕ) → Near start roots at → ¬ (IsReached start roots n) → HoldsExpression start n op inputs → n ≢ at
not_near start roots at n op inputs near apart held e =
    ⊎_elim (λ le. absurd (omega (arith, le, e, node_within start n op inputs held))) (λ r. apart (subst (IsReached start roots) (sym e) r)) near

-- with an item that was put in place, over such nodes
pub closed_put : (start : List AExpr) (roots : List ℕ) (old : List AExpr) (at : ℕ) (item : AExpr) → at < length old → AllByRecursion (Near start roots) (inputs_of (expression_layer item)) → IsClosed start roots old → IsClosed start roots (set old at item)
closed_put start roots old at item lt near closed n o inputs here held = ⊎_elim
    (λ same.
    let there = expression_written old at item lt ∙ ap Some (layer_parts (expression_layer item)) in
    let one = some_same (slice_get (map expression_layer (set old at item)) at) (layer (op_of (expression_layer item)) (inputs_of (expression_layer item))) (layer o inputs) there (subst (λ k. HoldsExpression (set old at item) k o inputs) same held) in
    subst (AllByRecursion (Near start roots)) (layer_inputs (op_of (expression_layer item)) o (inputs_of (expression_layer item)) inputs one) near)
    (λ other. closed n o inputs here (held_unwritten old at item n o inputs other held))
    (same_or_other n at)

pub among_all : (P : ℕ → Type 0) (ns : List ℕ) (n : ℕ) → AllByRecursion P ns → Among ns n → P n
among_all P [] n all a = absurd a
among_all P (m ∷ ms) n all a = ⊎_elim (λ e. subst P (sym e) all.0) (λ b. among_all P ms n all.1 b) a

near_by : (start : List AExpr) (roots : List ℕ) (items : List AExpr) (tops : List ℕ) → IsClosed start roots items → AllByRecursion (Near start roots) tops → (steps n : ℕ) → ReachedBy items tops steps n → Near start roots n
near_by start roots items tops closed all zero n path = among_all (Near start roots) tops n all path
near_by start roots items tops closed all (suc steps) n path =
    among_all (Near start roots) path.2 n (closed path.0 path.1 path.2 (near_by start roots items tops closed all steps path.0 path.3) path.4) path.5

-- what such nodes reach are such nodes
pub reached_near : (start : List AExpr) (roots : List ℕ) (items : List AExpr) (tops : List ℕ) (n : ℕ) → IsClosed start roots items → AllByRecursion (Near start roots) tops → IsReached items tops n → Near start roots n
reached_near start roots items tops n closed all r = near_by start roots items tops closed all r.steps n r.path

pub root_near : (start : List AExpr) (at : ℕ) → Near start (at ∷ []) at
root_near start at = inr (record { steps = zero; path = inl refl })

-- trees of new nodes over new nodes stay where an old one is written
module _ (old new : List AExpr) (at : ℕ) (item : AExpr) (lt : at < length old) (closed : IsClosed old [] new) where
  is_new : (n : ℕ) → Near old [] n → length old ≤ n
  is_new n near = ⊎_elim (λ le. le) (λ r. absurd (no_root r.steps n r.path)) near where
    no_root : (steps n : ℕ) → ReachedBy old [] steps n → ⊥
    no_root zero n path = path
    no_root (suc steps) n path = no_root steps path.0 path.3

  mutual
    pub new_kept : (n : ℕ) (t : Expression) → Near old [] n → Denotes (HoldsExpression new) n t → Denotes (HoldsExpression (set new at item)) n t
    new_kept n (node op ts) near d =
        (d.0, expression_elsewhere new at item n op d.0 (λ e. omega (arith, is_new n near, e, lt)) d.1, all_new_kept d.0 ts (closed n op d.0 near d.1) d.2)

    all_new_kept : (ns : List ℕ) (ts : Trees Op) → AllByRecursion (Near old []) ns → DenoteAll (HoldsExpression new) ns ts → DenoteAll (HoldsExpression (set new at item)) ns ts
    all_new_kept [] no_more all d = tt
    all_new_kept (n ∷ ns) (more t ts) all d = (new_kept n t all.0 d.0, all_new_kept ns ts all.1 d.1)
    all_new_kept [] (more t ts) all d = absurd d
    all_new_kept (n ∷ ns) no_more all d = absurd d
