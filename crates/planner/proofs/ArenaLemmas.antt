-- What the nodes of a lowered filter over a scan denote.
use Rattle.std.proofs.Common.{◌≡◌, ◌≢◌, ℕ, List, [], ◌∷◌, map, Option, Some, slice_get, refl, sym, ap, ◌∙◌, subst}
use Rattle.plan_types.specs.Schemas.{Columns, columns}
use Rattle.plan_types.specs.declared.schema.Schema.{Schema}
use Rattle.plan_dsl.specs.Ops.{Expression}
use Rattle.plan_dsl.specs.Plans.{Named, Plan, PlanKind, PlanOp, FilterKind, ScanKind, filter_op, scan_op}
use Rattle.plan_dsl.specs.Trees.{Trees, node, no_more, more}
use Rattle.plan_arena.specs.Denotation.{DenoteAll, Denotes, DenotesTree}
use Rattle.plan_arena.specs.Items.{DenoteLists, DenoteNamed, DenotesKind, DenotesOp, HoldsExpression, HoldsPlan, named_node, plan_layer}
use Rattle.plan_arena.specs.Layers.{layer, op_of}
use Rattle.plan_arena.specs.declared.aexpr.AExpr.{AExpr}
use Rattle.plan_arena.specs.declared.arena.Node.{Node}
use Rattle.plan_arena.specs.declared.expr_ir.ExprIR.{ExprIR}
use Rattle.plan_arena.specs.declared.ir.IR.{IR}
use Rattle.plan_arena.specs.declared.ir.IR.TheVariants.{Cache, DataFrameScan, Distinct, Filter, GroupBy, HStack, MapFunction, Select, SimpleProjection, Sink, Slice, Sort, Invalid}
use Rattle.plan_arena.proofs.DenotationLemmas.{some_same}
use Rattle.plan_arena.proofs.ItemLemmas.{filter_denoted, layer_inputs, layer_op, plan_got}
use Rattle.planner.specs.Planning.{filtered_scan, scan}

-- an op is its kind and what it records
op_is : (op : PlanOp (Named Expression)) (kind : PlanKind (Named Expression)) (recorded : Option Columns) → op.kind ≡ kind → recorded ≡ op.recorded → op ≡ record { kind = kind; recorded = recorded }
op_is op kind recorded same records = λ i. record { kind = same i; recorded = sym records i }

module _ (expressions : List AExpr) (plans : List IR) where
  -- what a node does whose item is known, over which inputs
  module _ (n : ℕ) (item : IR) (flat : PlanOp (Named ℕ)) (inputs : List ℕ) (got : slice_get plans n ≡ Some item) (is : plan_layer item ≡ layer flat inputs) where
    held : (op : PlanOp (Named Expression)) (ms : List ℕ) (h : HoldsPlan expressions plans n op ms) → layer h.flat ms ≡ layer flat inputs
    held op ms h = some_same (slice_get (map plan_layer plans) n) _ _ h.item (plan_got plans n item got) ∙ is

    does : (op : PlanOp (Named Expression)) (ms : List ℕ) → HoldsPlan expressions plans n op ms → DenotesOp expressions flat op
    does op ms h = subst (λ (f : PlanOp (Named ℕ)). DenotesOp expressions f op) (layer_op _ _ _ _ (held op ms h)) h.denotes

    over : (op : PlanOp (Named Expression)) (ms : List ℕ) → HoldsPlan expressions plans n op ms → (ts : Trees (PlanOp (Named Expression))) → DenoteAll (HoldsPlan expressions plans) ms ts → DenoteAll (HoldsPlan expressions plans) inputs ts
    over op ms h ts d = subst (λ ns. DenoteAll (HoldsPlan expressions plans) ns ts) (layer_inputs _ _ _ _ (held op ms h)) d

  none_below : (ts : Trees (PlanOp (Named Expression))) → DenoteAll (HoldsPlan expressions plans) [] ts → ts ≡ no_more
  none_below no_more d = refl
  none_below (more t ts) d = absurd d

  one_below : (m : ℕ) (ts : Trees (PlanOp (Named Expression))) → DenoteAll (HoldsPlan expressions plans) (m ∷ []) ts → (t : Plan) × (ts ≡ more t no_more) × Denotes (HoldsPlan expressions plans) m t
  one_below m (more t no_more) d = (t, refl, d.0)
  one_below m no_more d = absurd d
  one_below m (more t (more u us)) d = absurd d.1

  -- a scan
  scan_is : (n : ℕ) (table : Option ℕ) (schema : Schema) → slice_get plans n ≡ Some (DataFrameScan table schema) → (t : Plan) → Denotes (HoldsPlan expressions plans) n t → t ≡ scan table (columns schema)
  scan_is n table schema got (node op ts) d =
      let flat : PlanOp (Named ℕ) = scan_op table (columns schema) in
      let is = does n (DataFrameScan table schema) flat [] got refl op d.0 d.1 in
      let none = none_below ts (over n (DataFrameScan table schema) flat [] got refl op d.0 d.1 ts d.2) in
      ap (λ o. node o ts) (op_is op (ScanKind table (columns schema)) (Some (columns schema)) is.kind is.same_recorded) ∙ ap (node (scan_op table (columns schema))) none

  -- a filter, whose input is in the arena
  pub record IsFilter (n : ℕ) (input : Node) (predicate : ExprIR) (t : Plan) : Type 0 where
    pub named : Named Expression
    pub below : Plan
    pub is : t ≡ node (filter_op named) (more below no_more)
    pub denote : DenoteNamed expressions (named_node predicate ∷ []) (named ∷ [])
    pub under : Denotes (HoldsPlan expressions plans) input.0 below

  filter_by : (n : ℕ) (input : Node) (predicate : ExprIR) → slice_get plans n ≡ Some (Filter input predicate) → (t : Plan) → Denotes (HoldsPlan expressions plans) n t → IsFilter n input predicate t
  filter_by n input predicate got (node op ts) d =
      let flat : PlanOp (Named ℕ) = filter_op (named_node predicate) in
      let is = does n (Filter input predicate) flat (input.0 ∷ []) got refl op d.0 d.1 in
      let kind = filter_denoted expressions (named_node predicate) op.kind is.kind in
      let one = one_below input.0 ts (over n (Filter input predicate) flat (input.0 ∷ []) got refl op d.0 d.1 ts d.2) in
      record {
        named = kind.0;
        below = one.0;
        is = ap (λ o. node o ts) (op_is op (FilterKind kind.0) _ kind.1 is.same_recorded) ∙ ap (node (filter_op kind.0)) one.1;
        denote = kind.2;
        under = one.2;
      }

  pub filter_is : (n : ℕ) (input : Node) (predicate : ExprIR) → slice_get plans n ≡ Some (Filter input predicate) → (d : DenotesTree (HoldsPlan expressions plans) n) → IsFilter n input predicate d.tree
  filter_is n input predicate got d = filter_by n input predicate got d.tree d.denotes

  -- its predicate denotes an expression
  pub predicate_tree : (n : ℕ) (input : Node) (predicate : ExprIR) → slice_get plans n ≡ Some (Filter input predicate) → DenotesTree (HoldsPlan expressions plans) n → DenotesTree (HoldsExpression expressions) (named_node predicate).expression
  predicate_tree n input predicate got d =
      let f = filter_is n input predicate got d in
      record { tree = f.named.expression; denotes = f.denote.1 }

  -- a filter over a scan
  pub filtered_is : (n : ℕ) (input : Node) (predicate : ExprIR) (table : Option ℕ) (schema : Schema) → slice_get plans n ≡ Some (Filter input predicate) → slice_get plans input.0 ≡ Some (DataFrameScan table schema) → (t : Plan) → Denotes (HoldsPlan expressions plans) n t → (named : Named Expression) × (t ≡ filtered_scan named table (columns schema)) × DenoteNamed expressions (named_node predicate ∷ []) (named ∷ [])
  filtered_is n input predicate table schema got below t d =
      let f = filter_by n input predicate got t d in
      (f.named, f.is ∙ ap (λ u. node (filter_op f.named) (more u no_more)) (scan_is input.0 table schema below f.below f.under), f.denote)

  -- ---- no other node denotes one

  no_filter : (item : IR) (p : Named Expression) → ((input : Node) (predicate : ExprIR) → item ≢ Filter input predicate) → DenotesKind expressions (op_of (plan_layer item)).kind (FilterKind p) → ⊥
  no_filter (Filter input predicate) p other d = other input predicate refl
  no_filter (DataFrameScan table schema) p other d = cc
  no_filter (GroupBy input keys aggs schema order) p other d = let e = d.1 in cc
  no_filter (HStack exprs input schema options) p other d = let e = d.1 in cc
  no_filter (Select expr input schema options) p other d = let e = d.1 in cc
  no_filter (SimpleProjection input schema) p other d = let e = d.1 in cc
  no_filter (Sort input by_column sort_options) p other d = let e = d.1 in cc
  no_filter (Distinct input options) p other d = let e = d.1 in cc
  no_filter (Slice input offset len) p other d = let e = d.1 in cc
  no_filter (Cache input id cache_hits) p other d = let e = d.1 in cc
  no_filter (Sink input payload) p other d = let e = d.1 in cc
  no_filter (MapFunction input function schema) p other d =
      let e = d.1 in
      let given : d.0 ≡ (p ∷ []) ∷ [] = cc in
      subst (DenoteLists expressions []) given d.2
  no_filter Invalid p other d = d

  no_scan : (item : IR) (table : Option ℕ) (own : Columns) → ((table : Option ℕ) (schema : Schema) → item ≢ DataFrameScan table schema) → DenotesKind expressions (op_of (plan_layer item)).kind (ScanKind table own) → ⊥
  no_scan (DataFrameScan table schema) t own other d = other table schema refl
  no_scan (Filter input predicate) t own other d = let e = d.1 in cc
  no_scan (GroupBy input keys aggs schema order) t own other d = let e = d.1 in cc
  no_scan (HStack exprs input schema options) t own other d = let e = d.1 in cc
  no_scan (Select expr input schema options) t own other d = let e = d.1 in cc
  no_scan (SimpleProjection input schema) t own other d = let e = d.1 in cc
  no_scan (Sort input by_column sort_options) t own other d = let e = d.1 in cc
  no_scan (Distinct input options) t own other d = let e = d.1 in cc
  no_scan (Slice input offset len) t own other d = let e = d.1 in cc
  no_scan (Cache input id cache_hits) t own other d = let e = d.1 in cc
  no_scan (Sink input payload) t own other d = let e = d.1 in cc
  no_scan (MapFunction input function schema) t own other d = let e = d.1 in cc
  no_scan Invalid t own other d = d

  -- the kind that an item is, as its node denotes it
  kind_there : (n : ℕ) (item : IR) → slice_get plans n ≡ Some item → (op : PlanOp (Named Expression)) (ms : List ℕ) → HoldsPlan expressions plans n op ms → DenotesKind expressions (op_of (plan_layer item)).kind op.kind
  kind_there n item got op ms h =
      let known : plan_layer item ≡ layer h.flat ms = some_same (slice_get (map plan_layer plans) n) _ _ (plan_got plans n item got) h.item in
      subst (λ (f : PlanOp (Named ℕ)). DenotesKind expressions f.kind op.kind) (sym (ap op_of known)) h.denotes.kind

  pub other_top : (n : ℕ) (item : IR) → slice_get plans n ≡ Some item → ((input : Node) (predicate : ExprIR) → item ≢ Filter input predicate) → (p : Named Expression) (table : Option ℕ) (own : Columns) → Denotes (HoldsPlan expressions plans) n (filtered_scan p table own) → ⊥
  other_top n item got other p table own d = no_filter item p other (kind_there n item got (filter_op p) d.0 d.1)

  pub other_input : (n : ℕ) (input : Node) (predicate : ExprIR) (item : IR) → slice_get plans n ≡ Some (Filter input predicate) → slice_get plans input.0 ≡ Some item → ((table : Option ℕ) (schema : Schema) → item ≢ DataFrameScan table schema) → (p : Named Expression) (table : Option ℕ) (own : Columns) → Denotes (HoldsPlan expressions plans) n (filtered_scan p table own) → ⊥
  other_input n input predicate item got below other p table own d =
      let f = filter_by n input predicate got (filtered_scan p table own) d in
      let same : f.below ≡ scan table own = let is = f.is in cc in
      let there = subst (Denotes (HoldsPlan expressions plans) input.0) same f.under in
      no_scan item table own other (kind_there input.0 item below (scan_op table own) there.0 there.1)

-- one filter of a scan is another
pub record IsSameFilter (p q : Named Expression) (t u : Option ℕ) (own other : Columns) : Type 0 where
  pub predicates : p ≡ q
  pub tables : t ≡ u
  pub schemas : own ≡ other

pub same_filter : (p q : Named Expression) (t u : Option ℕ) (own other : Columns) → filtered_scan p t own ≡ filtered_scan q u other → IsSameFilter p q t u own other
same_filter p q t u own other e =
    let tops : filter_op p ≡ filter_op q = cc in
    let scans : scan t own ≡ scan u other = cc in
    let top_of : Plan → PlanOp (Named Expression) = λ (x : Plan). elim x [ node op ts ↦ op ] in
    let ops : top_of (scan t own) ≡ top_of (scan u other) = ap top_of scans in
    let first : FilterKind p ≡ FilterKind q = ap (λ (o : PlanOp (Named Expression)). o.kind) tops in
    let second : (top_of (scan t own)).kind ≡ (top_of (scan u other)).kind = ap (λ (o : PlanOp (Named Expression)). o.kind) ops in
    record { predicates = cc; tables = cc; schemas = cc }
