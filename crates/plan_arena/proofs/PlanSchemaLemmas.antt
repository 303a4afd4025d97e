-- Schemas that go into nodes of a lowered plan, and schemas that are kept by node.
use Rattle.std.proofs.Common.{◌≡◌, ◌≢◌, ℕ, List, [], ◌∷◌, Bool, true, false, cond, Option, Some, None, IfSome, slice_get, refl, sym, ap, ◌∙◌, subst}
use Rattle.std.specs.BTreeMap.{BTreeMap, is_at}
use Rattle.std.specs.Map.{lookup}
use Rattle.std.specs.Ordering.{is_eq}
use Rattle.std.specs.declared.cmp.Ordering.{Ordering}
use Rattle.std.specs.declared.cmp.Ordering.TheVariants.{Less, Equal, Greater}
use Rattle.std.proofs.lemmas.Map.Lookups.{exact_unsigned}
use Rattle.plan_types.specs.Schemas.{Columns, columns}
use Rattle.plan_types.specs.declared.schema.Schema.{Schema}
use Rattle.plan_dsl.specs.Trees.{node}
use Rattle.plan_dsl.specs.Plans.{Named, PlanOp, Plan}
use Rattle.plan_arena.specs.declared.aexpr.AExpr.{AExpr}
use Rattle.plan_arena.specs.declared.arena.Node.{Node}
use Rattle.plan_arena.specs.declared.ir.IR.{IR}
use Rattle.plan_arena.specs.declared.ir.IR.TheVariants.{DataFrameScan, Invalid}
use Rattle.plan_arena.specs.contracts.arena.NodeOrd.TheImpl as node_order
use Rattle.plan_arena.specs.Denotation.{Denotes, DenotesTree}
use Rattle.plan_arena.specs.Layers.{Layer, inputs_of, op_of}
use Rattle.plan_arena.specs.Items.{HoldsPlan, HasInputs, plan_layer}
use Rattle.plan_arena.specs.PlanSchemas.{IsSchemaAt, KeepsEach, cached_at}
use Rattle.plan_arena.specs.Unchecked.{IsUncheckedAt}
use Rattle.plan_arena.proofs.DenotationLemmas.{some_same}
use Rattle.plan_arena.proofs.ItemLemmas.{item_denotes, item_inputs, plan_got}
use Rattle.plan_arena.proofs.NumberLemmas.{all_there}
use Rattle.plan_arena.proofs.RecordedSchemaLemmas.{RecordsSchema, item_records}
use Rattle.plan_arena.proofs.UncheckedLemmas.{records_accepted, records_unchecked}

-- the first input of an item denotes a plan
pub first_plan : (plans : List IR) (item : IR) (h : HasInputs plans item) (first : ℕ) → slice_get (inputs_of (plan_layer item)) 0 ≡ Some first → DenotesTree (HoldsPlan h.expressions plans) first
first_plan plans item h first there = all_there (DenotesTree (HoldsPlan h.expressions plans)) (inputs_of (plan_layer item)) h.each 0 first there

-- the schema of an item is that of a node that has it
pub schema_at_item : (plans : List IR) (n : ℕ) (item : IR) (schema : Columns) → slice_get plans n ≡ Some item → IfSome (op_of (plan_layer item)).recorded (λ own. schema ≡ own) → RecordsSchema plans item schema → IsSchemaAt plans n schema
schema_at_item plans n item schema got recorded records = record {
  recorded = λ l there. subst (λ (l : Layer (PlanOp (Named ℕ))). IfSome (op_of l).recorded (λ own. schema ≡ own)) (some_same _ (plan_layer item) l (plan_got plans n item got) there) recorded;
  rule = λ expressions registry plan d accepted. records_accepted registry plans item schema records expressions plan (item_denotes expressions plans n item got plan d) accepted;
}

pub unchecked_at_item : (plans : List IR) (n : ℕ) (item : IR) (schema : Columns) → slice_get plans n ≡ Some item → RecordsSchema plans item schema → IsUncheckedAt plans n schema
unchecked_at_item plans n item schema got records expressions registry plan d keeps =
    records_unchecked plans item schema records expressions registry plan (item_denotes expressions plans n item got plan d) keeps

equal_so : (o : Ordering) → is_eq o ≡ true → o ≡ Equal
equal_so Less e = cc
equal_so Equal e = refl
equal_so Greater e = cc

-- nodes that compare as equal have one number
pub same_number : (m n : Node) → is_at ((node_order.ghosts).cmp m) n ≡ true → m.0 ≡ n.0
same_number m n e = exact_unsigned m.0 n.0 (equal_so ((node_order.ghosts).cmp m n) e)

by_test : (Is : ℕ → Columns → Type 0) (test : Bool) (m n : ℕ) (kept schema : Schema) (before now : Option Schema) → (test ≡ true → m ≡ n) → now ≡ cond test (Some kept) before → Is m (columns kept) → (before ≡ Some schema → Is n (columns schema)) → now ≡ Some schema → Is n (columns schema)
by_test Is true m n kept schema before now same is here old there =
    let one : kept ≡ schema = cc in
    subst (λ k. Is k (columns schema)) (same refl) (subst (λ (s : Schema). Is m (columns s)) one here)
by_test Is false m n kept schema before now same is here old there = old (sym is ∙ there)

-- what a cache keeps where one more schema is kept of a node: that of the node, and of others what it kept
module _ (old new : BTreeMap Node Schema) (at : Node) (kept : Schema) (updated : (n : Node) → cached_at new n ≡ cond (is_at ((node_order.ghosts).cmp at) n) (Some kept) (cached_at old n)) where
  other_by : (test : Bool) (n : Node) (before now : Option Schema) → (test ≡ true → at.0 ≡ n.0) → now ≡ cond test (Some kept) before → n ≢ at → now ≡ before
  other_by true n before now same is other =
      let numbers = sym (same refl) in
      let one : n ≡ at = λ i. record { 0 = numbers i } in
      absurd (other one)
  other_by false n before now same is other = is

  pub others_stay : (n : Node) → n ≢ at → cached_at new n ≡ cached_at old n
  others_stay n other = other_by (is_at ((node_order.ghosts).cmp at) n) n (cached_at old n) (cached_at new n) (same_number at n) (updated n) other

  -- it keeps such schemas where it did
  pub keeps_with : (Is : ℕ → Columns → Type 0) → Is at.0 (columns kept) → KeepsEach Is old → KeepsEach Is new
  keeps_with Is here keeps = record {
    each = λ n schema there. by_test Is (is_at ((node_order.ghosts).cmp at) n) at.0 n.0 kept schema (cached_at old n) (cached_at new n) (same_number at n) (updated n) here (keeps.each n schema) there;
  }

-- a scan's schema is its own
pub scan_schema : (plans : List IR) (n : ℕ) (table : Option ℕ) (schema : Schema) → slice_get plans n ≡ Some (DataFrameScan table schema) → IsSchemaAt plans n (columns schema)
scan_schema plans n table schema got =
    schema_at_item plans n (DataFrameScan table schema) (columns schema) got refl (item_records plans (DataFrameScan table schema) (columns schema) refl)

-- and no other
pub other_schema : (plans : List IR) (n : ℕ) (table : Option ℕ) (schema : Schema) (other : Columns) → slice_get plans n ≡ Some (DataFrameScan table schema) → IsSchemaAt plans n other → other ≡ columns schema
other_schema plans n table schema other got is = is.recorded (plan_layer (DataFrameScan table schema)) (plan_got plans n (DataFrameScan table schema) got)

none_some : (schema : Schema) → None ≡ Some schema → ⊥
none_some schema e = cc

-- a cache that keeps nothing, and one that keeps one schema, of one node
pub keeps_none : (Is : ℕ → Columns → Type 0) (cache : BTreeMap Node Schema) → cache.entries ≡ [] → KeepsEach Is cache
keeps_none Is cache entries = record {
  each = λ n schema there. absurd (none_some schema (sym (ap (lookup (is_at ((node_order.ghosts).cmp n))) entries) ∙ there));
}

pub keeps_alone : (Is : ℕ → Columns → Type 0) (cache : BTreeMap Node Schema) (at : Node) (kept : Schema) → cache.entries ≡ (at, kept) ∷ [] → Is at.0 (columns kept) → KeepsEach Is cache
keeps_alone Is cache at kept entries here = record {
  each = λ n schema there. by_test Is (is_at ((node_order.ghosts).cmp n) at) at.0 n.0 kept schema None (cached_at cache n) (λ e. sym (same_number n at e)) (ap (lookup (is_at ((node_order.ghosts).cmp n))) entries) here (λ none. absurd (none_some schema none)) there;
}

-- a node that isn't there denotes nothing, and neither does one that was taken out
nothing_at : (expressions : List AExpr) (t : Plan) → Denotes (HoldsPlan expressions []) 0 t → ⊥
nothing_at expressions (node op ts) d = let e = d.1.item in cc

pub nothing_there : (expressions : List AExpr) → DenotesTree (HoldsPlan expressions []) 0 → ⊥
nothing_there expressions d = nothing_at expressions d.tree d.denotes

pub none_denoted : (expressions : List AExpr) → DenotesTree (HoldsPlan expressions (Invalid ∷ [])) 0 → ⊥
none_denoted expressions d = (item_inputs expressions (Invalid ∷ []) 0 Invalid refl d).valid refl
