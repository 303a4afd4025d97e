-- What the nodes of the two arenas lead to.
use Rattle.std.proofs.Common.{◌≡◌, ℕ, ◌<◌, List, [], ◌∷◌, ◌++◌, map, Some, None, slice_get, refl, sym, ap, ◌∙◌, subst, append_assoc}
use Rattle.std.specs.List.{AllByRecursion}
use Rattle.std.proofs.lemmas.List.{append-nil}
use Rattle.std.proofs.lemmas.Option.{same_Some}
use Rattle.plan_types.specs.Schemas.{Columns}
use Rattle.plan_dsl.specs.Trees.{Trees, node, no_more, more}
use Rattle.plan_dsl.specs.Ops.{Op, Expression}
use Rattle.plan_dsl.specs.Plans.{Named, Work, PlanKind, ScanKind, OverKind, RefusedKind, PlanOp, Plan, over_op}
use Rattle.plan_dsl.specs.PlanRules.{schema_of}
use Rattle.plan_dsl.specs.Registry.{Registry}
use Rattle.plan_arena.specs.Denotation.{Denotes, DenoteAll, DenotesTree, depth_at}
use Rattle.plan_arena.specs.Layers.{Layer, inputs_of, layer, op_of, shape_of}
use Rattle.plan_arena.specs.Items.{expression_layer, plan_layer, kind_text, node_name, nodes_of, HoldsExpression, DenoteLists, DenoteNamed, DenotesKind, HoldsPlan, DenotesItem, KeepsInput}
use Rattle.plan_arena.specs.Runs.{IsAccepted, AllAccepted}
use Rattle.plan_arena.specs.declared.aexpr.AExpr.{AExpr}
use Rattle.plan_arena.specs.declared.ir.IR.{IR}
use Rattle.plan_arena.specs.declared.ir.IR.TheVariants.{Cache, Distinct, Filter, GroupBy, HStack, MapFunction, Select, SimpleProjection, Sink, Slice, Sort}
use Rattle.plan_arena.proofs.DenotationLemmas.{some_same, inputs_denote, denotes_one}
use Rattle.plan_arena.proofs.ItemLemmas.{layer_op, layer_inputs, expression_laws, plan_laws, plan_got, expression_got, item_denotes}
use Rattle.plan_arena.proofs.UncheckedLemmas.{kept_item}
use Rattle.plan_report.specs.Casts.{DenoteOutputs}
use Rattle.plan_report.specs.Report.{line_text, shown, node_line, plan_lines, casts_line, report_text}
use Rattle.plan_dsl.specs.Counts.{cast_count}

-- a kind over nodes denotes some kind
pub record DenotesSome (expressions : List AExpr) (flat : PlanKind (Named ℕ)) : Type 0 where
  pub kind : PlanKind (Named Expression)
  pub denotes : DenotesKind expressions flat kind

-- the children of a plan
abbrev pub children_of : Plan → Trees (PlanOp (Named Expression))
children_of (node op ts) = ts

-- each input denotes a tree, and leads less far down than the node
abbrev pub LeadsDown : {Op : Type 0} → (ℕ → Op → List ℕ → Type 0) → List (List ℕ) → ℕ → List ℕ → Type 0
LeadsDown holds shape n inputs = AllByRecursion (λ m. DenotesTree holds m × (depth_at shape m < depth_at shape n)) inputs

-- an expression's inputs denote expressions
pub expression_inputs : (items : List AExpr) (n : ℕ) (item : AExpr) → slice_get items n ≡ Some item → (op : Op) (inputs : List ℕ) → expression_layer item ≡ layer op inputs → DenotesTree (HoldsExpression items) n → LeadsDown (HoldsExpression items) (shape_of (map expression_layer items)) n inputs
expression_inputs items n item got op inputs is d =
    inputs_denote (shape_of (map expression_layer items)) (HoldsExpression items) (expression_laws items) n op inputs (expression_got items n item got ∙ ap Some is) d

module _ (expressions : List AExpr) (plans : List IR) (n : ℕ) (item : IR) (got : slice_get plans n ≡ Some item) (flat : PlanOp (Named ℕ)) (inputs : List ℕ) (is : plan_layer item ≡ layer flat inputs) where
  held : (op : PlanOp (Named Expression)) (ms : List ℕ) (h : HoldsPlan expressions plans n op ms) → layer h.flat ms ≡ layer flat inputs
  held op ms h = some_same _ _ _ h.item (plan_got plans n item got) ∙ is

  -- what a node holds is what its item says
  pub held_op : (op : PlanOp (Named Expression)) (ms : List ℕ) (h : HoldsPlan expressions plans n op ms) → h.flat ≡ flat
  held_op op ms h = layer_op _ _ _ _ (held op ms h)

  pub held_children : (op : PlanOp (Named Expression)) (ms : List ℕ) → HoldsPlan expressions plans n op ms → (ts : Trees (PlanOp (Named Expression))) → DenoteAll (HoldsPlan expressions plans) ms ts → DenoteAll (HoldsPlan expressions plans) inputs ts
  held_children op ms h ts d = subst (λ ns. DenoteAll (HoldsPlan expressions plans) ns ts) (layer_inputs _ _ _ _ (held op ms h)) d

  plan_leads : (t : Plan) → Denotes (HoldsPlan expressions plans) n t → LeadsDown (HoldsPlan expressions plans) (shape_of (map plan_layer plans)) n inputs
  plan_leads (node op ts) d =
      subst (λ ms. LeadsDown (HoldsPlan expressions plans) (shape_of (map plan_layer plans)) n ms) (layer_inputs _ _ _ _ (held op d.0 d.1))
      (inputs_denote (shape_of (map plan_layer plans)) (HoldsPlan expressions plans) (plan_laws expressions plans) n op d.0 d.1 (record { tree = node op ts; denotes = d }))

  -- a plan's inputs denote plans
  pub plan_inputs : DenotesTree (HoldsPlan expressions plans) n → LeadsDown (HoldsPlan expressions plans) (shape_of (map plan_layer plans)) n inputs
  plan_inputs d = plan_leads d.tree d.denotes

  kind_of_node : (t : Plan) → Denotes (HoldsPlan expressions plans) n t → DenotesSome expressions flat.kind
  kind_of_node (node op ts) d =
      record { kind = op.kind; denotes = subst (λ (f : PlanOp (Named ℕ)). DenotesKind expressions f.kind op.kind) (held_op op d.0 d.1) d.1.denotes.kind }

  -- a plan's kind denotes one over expressions
  pub node_kind : DenotesTree (HoldsPlan expressions plans) n → DenotesSome expressions flat.kind
  node_kind d = kind_of_node d.tree d.denotes

-- ---- the expressions of all lists of a node

joined_denote : (expressions : List AExpr) (ns ms : List (Named ℕ)) (es fs : List (Named Expression)) → DenoteNamed expressions ns es → DenoteNamed expressions ms fs → DenoteNamed expressions (ns ++ ms) (es ++ fs)
joined_denote expressions [] ms [] fs d f = f
joined_denote expressions (n ∷ ns) ms (e ∷ es) fs d f = (d.0, d.1, joined_denote expressions ns ms es fs d.2 f)
joined_denote expressions [] ms (e ∷ es) fs d f = absurd d
joined_denote expressions (n ∷ ns) ms [] fs d f = absurd d

lists_denote : (expressions : List AExpr) (work : Work) (nodes : List (List (Named ℕ))) (lists : List (List (Named Expression))) → DenoteLists expressions nodes lists → DenoteNamed expressions (nodes_of (OverKind work nodes)) (nodes_of (OverKind work lists))
lists_denote expressions work [] [] d = tt
lists_denote expressions work (ns ∷ nodes) (es ∷ lists) d =
    joined_denote expressions ns (nodes_of (OverKind work nodes)) es (nodes_of (OverKind work lists)) d.0 (lists_denote expressions work nodes lists d.1)
lists_denote expressions work [] (es ∷ lists) d = absurd d
lists_denote expressions work (ns ∷ nodes) [] d = absurd d

-- they denote those of the kind
pub kind_outputs : (expressions : List AExpr) (flat : PlanKind (Named ℕ)) (kind : PlanKind (Named Expression)) → DenotesKind expressions flat kind → DenoteNamed expressions (nodes_of flat) (nodes_of kind)
kind_outputs expressions (ScanKind table schema) kind d = subst (λ k. DenoteNamed expressions [] (nodes_of k)) (sym d) tt
kind_outputs expressions (OverKind work nodes) kind d = subst (λ k. DenoteNamed expressions (nodes_of (OverKind work nodes)) (nodes_of k)) (sym d.1) (lists_denote expressions work nodes d.0 d.2)
kind_outputs expressions (RefusedKind kinds) kind d = absurd d

pub denote_some : (expressions : List AExpr) (flat : PlanKind (Named ℕ)) → DenotesSome expressions flat → DenoteOutputs expressions (nodes_of flat)
denote_some expressions flat d = record { outputs = nodes_of d.kind; denote = kind_outputs expressions flat d.kind d.denotes }

-- what nodes denote, in two parts
pub record InParts (expressions : List AExpr) (ns ms : List (Named ℕ)) (whole : List (Named Expression)) : Type 0 where
  pub front : List (Named Expression)
  pub back : List (Named Expression)
  pub split : whole ≡ front ++ back
  pub before : DenoteNamed expressions ns front
  pub behind : DenoteNamed expressions ms back

pub in_parts : (expressions : List AExpr) (ns ms : List (Named ℕ)) (es : List (Named Expression)) → DenoteNamed expressions (ns ++ ms) es → InParts expressions ns ms es
in_parts expressions [] ms es d = record { front = []; back = es; split = refl; before = tt; behind = d }
in_parts expressions (n ∷ ns) ms (e ∷ es) d =
    let rest = in_parts expressions ns ms es d.2 in
    record { front = e ∷ rest.front; back = rest.back; split = ap (λ l. e ∷ l) rest.split; before = (d.0, d.1, rest.before); behind = rest.behind }
in_parts expressions (n ∷ ns) ms [] d = absurd d

pub first_outputs : (expressions : List AExpr) (ns ms all : List (Named ℕ)) → ns ++ ms ≡ all → DenoteOutputs expressions all → DenoteOutputs expressions ns
first_outputs expressions ns ms all split d =
    let parts = in_parts expressions ns ms d.outputs (subst (λ l. DenoteNamed expressions l d.outputs) (sym split) d.denote) in
    record { outputs = parts.front; denote = parts.before }

pub later_outputs : (expressions : List AExpr) (ns ms all : List (Named ℕ)) → ns ++ ms ≡ all → DenoteOutputs expressions all → DenoteOutputs expressions ms
later_outputs expressions ns ms all split d =
    let parts = in_parts expressions ns ms d.outputs (subst (λ l. DenoteNamed expressions l d.outputs) (sym split) d.denote) in
    record { outputs = parts.back; denote = parts.behind }

-- a kind over nodes is called as the one over expressions
same_text : (expressions : List AExpr) (flat : PlanKind (Named ℕ)) (kind : PlanKind (Named Expression)) → DenotesKind expressions flat kind → kind_text flat ≡ kind_text kind
same_text expressions (ScanKind table schema) kind d = sym (ap kind_text d)
same_text expressions (OverKind work nodes) kind d = sym (ap kind_text d.1)
same_text expressions (RefusedKind kinds) kind d = absurd d

-- an item's name is its op's
item_name : (item : IR) (flat : PlanOp (Named ℕ)) (inputs : List ℕ) → plan_layer item ≡ layer flat inputs → node_name item ≡ kind_text flat.kind
item_name item flat inputs e = ap (λ (l : Layer (PlanOp (Named ℕ))). kind_text (op_of l).kind) e

-- the schema that an item lends is that of the plans that its node denotes
pub lent_schema : (expressions : List AExpr) (plans : List IR) (n : ℕ) (item : IR) (cols : Columns) → slice_get plans n ≡ Some item → ((es : List AExpr) (registry : Registry) (t : Plan) → DenotesItem es plans item t → IsAccepted registry t → schema_of registry t ≡ Some cols) → (registry : Registry) (t : Plan) → Denotes (HoldsPlan expressions plans) n t → IsAccepted registry t → schema_of registry t ≡ Some cols
lent_schema expressions plans n item cols got lent registry t d accepted = lent expressions registry t (item_denotes expressions plans n item got t d) accepted

module _ (expressions : List AExpr) (plans : List IR) (n : ℕ) (item : IR) (got : slice_get plans n ≡ Some item) (cols : Columns) (registry : Registry) where
  module _ (path before : List ℕ) where
    held_line : (op : PlanOp (Named Expression)) (ms : List ℕ) → HoldsPlan expressions plans n op ms → (ts : Trees (PlanOp (Named Expression))) → schema_of registry (node op ts) ≡ Some cols → line_text path (node_name item) cols ≡ node_line path op (schema_of registry (node op ts))
    held_line op ms h ts same =
        let name = item_name item h.flat ms (some_same _ _ _ (plan_got plans n item got) h.item) ∙ same_text expressions h.flat.kind op.kind h.denotes.kind in
        (λ i. line_text path (name i) cols) ∙ ap (λ s. line_text path (kind_text op.kind) (shown s)) (sym same)

    leaf_children : (op : PlanOp (Named Expression)) (lined : List ℕ) (ts : Trees (PlanOp (Named Expression))) → DenoteAll (HoldsPlan expressions plans) [] ts → lined ≡ before ++ node_line path op (schema_of registry (node op ts)) → lined ≡ before ++ plan_lines registry path (node op ts)
    leaf_children op lined no_more d line = line ∙ ap (λ t. before ++ t) (sym (append-nil (node_line path op (schema_of registry (node op no_more)))))
    leaf_children op lined (more u us) d line = absurd d

    -- the lines of a node without children
    pub leaf_lines : (flat : PlanOp (Named ℕ)) → plan_layer item ≡ layer flat [] → (lined : List ℕ) → lined ≡ before ++ line_text path (node_name item) cols → (t : Plan) → Denotes (HoldsPlan expressions plans) n t → schema_of registry t ≡ Some cols → lined ≡ before ++ plan_lines registry path t
    leaf_lines flat is lined line (node op ts) d schema =
        leaf_children op lined ts (held_children expressions plans n item got flat [] is op d.0 d.1 ts d.2) (line ∙ ap (λ t. before ++ t) (held_line op d.0 d.1 ts schema))

    one_child : (op : PlanOp (Named Expression)) (m : ℕ) (lined text : List ℕ) (ts : Trees (PlanOp (Named Expression))) → DenoteAll (HoldsPlan expressions plans) (m ∷ []) ts → lined ≡ before ++ node_line path op (schema_of registry (node op ts)) → ((u : Plan) → Denotes (HoldsPlan expressions plans) m u → ts ≡ more u no_more → text ≡ lined ++ plan_lines registry (path ++ 0 ∷ []) u) → text ≡ before ++ plan_lines registry path (node op ts)
    one_child op m lined text no_more d line below = absurd d
    one_child op m lined text (more u no_more) d line below =
        let own = node_line path op (schema_of registry (node op (more u no_more))) in
        let child = plan_lines registry (path ++ 0 ∷ []) u in
        below u d.0 refl
        ∙ ap (λ t. t ++ child) line
        ∙ append_assoc before own child
        ∙ ap (λ t. before ++ (own ++ t)) (sym (append-nil child))
    one_child op m lined text (more u (more v vs)) d line below = absurd d.1

    -- the lines of a node with one child, where that child's are known
    pub one_lines : (flat : PlanOp (Named ℕ)) (m : ℕ) → plan_layer item ≡ layer flat (m ∷ []) → (lined text deeper : List ℕ) → lined ≡ before ++ line_text path (node_name item) cols → deeper ≡ path ++ 0 ∷ [] → (t : Plan) → Denotes (HoldsPlan expressions plans) n t → ((u : Plan) → Denotes (HoldsPlan expressions plans) m u → children_of t ≡ more u no_more → text ≡ lined ++ plan_lines registry deeper u) → schema_of registry t ≡ Some cols → text ≡ before ++ plan_lines registry path t
    one_lines flat m is lined text deeper line step (node op ts) d below schema =
        one_child op m lined text ts (held_children expressions plans n item got flat (m ∷ []) is op d.0 d.1 ts d.2) (line ∙ ap (λ t. before ++ t) (held_line op d.0 d.1 ts schema))
        (λ u e only. below u e only ∙ ap (λ p. lined ++ plan_lines registry p u) step)

    child_accepted : (t u : Plan) → IsAccepted registry t → children_of t ≡ more u no_more → IsAccepted registry u
    child_accepted (node op ts) u accepted only = (subst (AllAccepted registry) only accepted.1).0

    -- the lines of a select or an hstack, whose child lends its own schema
    pub select_lines : (flat : PlanOp (Named ℕ)) (m : ℕ) → plan_layer item ≡ layer flat (m ∷ []) → (lined text deeper : List ℕ) (lent : Columns) → lined ≡ before ++ line_text path (node_name item) cols → deeper ≡ path ++ 0 ∷ [] → ((u : Plan) → Denotes (HoldsPlan expressions plans) m u → IsAccepted registry u → schema_of registry u ≡ Some lent) → ((u : Plan) → Denotes (HoldsPlan expressions plans) m u → IsAccepted registry u → schema_of registry u ≡ Some lent → text ≡ lined ++ plan_lines registry deeper u) → (t : Plan) → Denotes (HoldsPlan expressions plans) n t → IsAccepted registry t → schema_of registry t ≡ Some cols → text ≡ before ++ plan_lines registry path t
    select_lines flat m is lined text deeper lent line step own below t d accepted schema =
        one_lines flat m is lined text deeper line step t d (λ u e only. let there = child_accepted t u accepted only in below u e there (own u e there)) schema

    -- the lines of a node that keeps its child's schema
    pub kept_lines : (m : ℕ) → KeepsInput (plan_layer item) m → (lined text deeper : List ℕ) → lined ≡ before ++ line_text path (node_name item) cols → deeper ≡ path ++ 0 ∷ [] → ((u : Plan) → Denotes (HoldsPlan expressions plans) m u → IsAccepted registry u → schema_of registry u ≡ Some cols → text ≡ lined ++ plan_lines registry deeper u) → (t : Plan) → Denotes (HoldsPlan expressions plans) n t → IsAccepted registry t → schema_of registry t ≡ Some cols → text ≡ before ++ plan_lines registry path t
    kept_lines m k lined text deeper line step below t d accepted schema =
        let child = kept_item registry expressions plans item k.work k.keeps k.nodes None m k.is t (item_denotes expressions plans n item got t d) accepted in
        let laws = plan_laws expressions plans in
        one_lines (over_op k.work k.nodes None) m k.is lined text deeper line step t d (λ u e only. let same = denotes_one _ (HoldsPlan expressions plans) laws m u child.0 e child.1 in below u e (child_accepted t u accepted only) (ap (schema_of registry) same ∙ sym child.3 ∙ schema)) schema

-- the lines and the number of casts are the report
pub whole_report : (registry : Registry) (tree : Plan) (start path lined text : List ℕ) (count : ℕ) → start ≡ [] → path ≡ [] → lined ≡ start ++ plan_lines registry path tree → count ≡ cast_count tree → text ≡ lined ++ casts_line count → text ≡ report_text registry tree
whole_report registry tree start path lined text count none top lines casts last =
    last ∙ (λ i. (lines ∙ (λ j. none j ++ plan_lines registry (top j) tree)) i ++ casts_line (casts i))

-- ---- an only input

layered : {Op : Type 0} (l : Layer Op) (ns : List ℕ) → inputs_of l ≡ ns → l ≡ layer (op_of l) ns
layered (layer op inputs) ns e = ap (layer op) e

single : (item : IR) (m : ℕ) → slice_get (inputs_of (plan_layer item)) 0 ≡ Some m → inputs_of (plan_layer item) ≡ m ∷ []
single (Select expr input schema options) m e = ap (λ n. n ∷ []) (same_Some _ m e)
single (HStack exprs input schema options) m e = ap (λ n. n ∷ []) (same_Some _ m e)
single (GroupBy input keys aggs schema maintain_order) m e = ap (λ n. n ∷ []) (same_Some _ m e)
single (Filter input predicate) m e = ap (λ n. n ∷ []) (same_Some _ m e)
single (SimpleProjection input schema) m e = ap (λ n. n ∷ []) (same_Some _ m e)
single (Sort input by_column sort_options) m e = ap (λ n. n ∷ []) (same_Some _ m e)
single (Distinct input options) m e = ap (λ n. n ∷ []) (same_Some _ m e)
single (Slice input offset len) m e = ap (λ n. n ∷ []) (same_Some _ m e)
single (Cache input id cache_hits) m e = ap (λ n. n ∷ []) (same_Some _ m e)
single (Sink input payload) m e = ap (λ n. n ∷ []) (same_Some _ m e)
single (MapFunction input function schema) m e = ap (λ n. n ∷ []) (same_Some _ m e)
single _ m e = cc

-- an item over none, and one with a first input, which is its only one
pub no_input : (item : IR) → inputs_of (plan_layer item) ≡ [] → plan_layer item ≡ layer (op_of (plan_layer item)) []
no_input item e = layered (plan_layer item) [] e

pub only_input : (item : IR) (m : ℕ) → slice_get (inputs_of (plan_layer item)) 0 ≡ Some m → plan_layer item ≡ layer (op_of (plan_layer item)) (m ∷ [])
only_input item m e = layered (plan_layer item) (m ∷ []) (single item m e)
