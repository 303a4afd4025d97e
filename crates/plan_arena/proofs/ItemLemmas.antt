-- The two arenas hold what their items say, and keep it as they grow or change at one node.
use Rattle.std.proofs.Common.{◌≡◌, ◌≢◌, ℕ, ◌+◌, ◌<◌, ◌≤◌, List, [], ◌∷◌, ◌++◌, length, map, set, Some, is_some, IsTrue, slice_get, sym, ap, ◌∙◌, subst, refl, arith, length-append, append_assoc}
use Rattle.std.specs.List.{AllByRecursion}
use Rattle.std.specs.Option.{option_map}
use Rattle.std.proofs.lemmas.Option.{slice_get-map, slice_get_within}
use Rattle.std.proofs.lemmas.List.{map-append, map-set, length-map}
use Rattle.plan_types.proofs.ListLemmas.{slice_get-append, slice_get-seam, slice_get-set_other, slice_get-set_same}
use Rattle.plan_dsl.specs.Ops.{Op, Expression}
use Rattle.plan_dsl.specs.Plans.{Named, Work, FilterWork, PlanKind, ScanKind, OverKind, FilterKind, RefusedKind, PlanOp, Plan}
use Rattle.plan_dsl.specs.Trees.{Trees, node, no_more, more}
use Rattle.plan_arena.specs.Denotation.{Denotes, DenoteAll, DenotesTree, greatest, depth_at}
use Rattle.plan_arena.specs.Layers.{Layer, layer, inputs_of, op_of, shape_of}
use Rattle.plan_arena.specs.Items.{expression_layer, plan_layer, HoldsExpression, HoldsFrom, DenoteNamed, DenoteLists, DenotesKind, DenotesOp, HoldsPlan, DenotesItem, HasInputs, Grows}
use Rattle.plan_arena.specs.declared.aexpr.AExpr.{AExpr}
use Rattle.plan_arena.specs.declared.ir.IR.{IR}
use Rattle.plan_arena.specs.declared.ir.IR.TheVariants.{Cache, DataFrameScan, Distinct, Filter, GroupBy, HStack, MapFunction, Select, SimpleProjection, Sink, Slice, Sort, Invalid}
use Rattle.plan_arena.specs.declared.arena.Node.{Node}
use Rattle.plan_arena.specs.declared.expr_ir.ExprIR.{ExprIR}
use Rattle.plan_arena.proofs.DenotationLemmas.{HasShape, all_denote, some_same, denotes_one, kept, inputs_denote, depth_of_inputs}

pub layer_op : {Op : Type 0} (a b : Op) (ms ns : List ℕ) → layer a ms ≡ layer b ns → a ≡ b
layer_op a b ms ns e = cc

pub layer_inputs : {Op : Type 0} (a b : Op) (ms ns : List ℕ) → layer a ms ≡ layer b ns → ms ≡ ns
layer_inputs a b ms ns e = cc

pub layer_parts : {Op : Type 0} (l : Layer Op) → l ≡ layer (op_of l) (inputs_of l)
layer_parts (layer op inputs) = refl

layer_node : {Op : Type 0} (a b : Op) (ms ns : List ℕ) (ts : Trees Op) → layer a ms ≡ layer b ns → node a ts ≡ node b ts
layer_node a b ms ns ts e = ap (λ op. node op ts) (layer_op a b ms ns e)

there : {Op : Type 0} (layers : List (Layer Op)) (n : ℕ) (op : Op) (inputs : List ℕ) → slice_get layers n ≡ Some (layer op inputs) → slice_get (shape_of layers) n ≡ Some inputs
there layers n op inputs h = slice_get-map inputs_of layers n ∙ ap (option_map inputs_of) h

-- the expressions' arena holds one op at each node
pub expression_laws : (items : List AExpr) → HasShape (shape_of (map expression_layer items)) (HoldsExpression items)
expression_laws items = let layers = map expression_layer items in record {
  there = λ n op inputs h. there layers n op inputs h;
  below = λ n op inputs h. slice_get_within (shape_of layers) n inputs (there layers n op inputs h);
  one = λ n op op' inputs inputs' h h'. layer_op op op' inputs inputs' (some_same (slice_get layers n) _ _ h h');
}

-- what an expressions' arena holds, it holds when it has grown
pub expression_grown : (items added : List AExpr) (n : ℕ) (op : Op) (inputs : List ℕ) → HoldsExpression items n op inputs → HoldsExpression (items ++ added) n op inputs
expression_grown items added n op inputs h =
    ap (λ l. slice_get l n) (map-append expression_layer items added) ∙ slice_get-append (map expression_layer items) (map expression_layer added) n _ h

-- what an arena holds, one that has grown from it holds
pub grown_held : (old new : List AExpr) → Grows old new → (n : ℕ) (op : Op) (inputs : List ℕ) → HoldsExpression old n op inputs → HoldsExpression new n op inputs
grown_held old new g n op inputs h = subst (λ l. HoldsExpression l n op inputs) (sym g.longer) (expression_grown old g.added n op inputs h)

-- a new item is there
pub expression_added : (items : List AExpr) (item : AExpr) → slice_get (map expression_layer (items ++ item ∷ [])) (length items) ≡ Some (expression_layer item)
expression_added items item =
    slice_get-map expression_layer (items ++ item ∷ []) (length items) ∙ ap (option_map expression_layer) (slice_get-seam items item [])

-- a write at one node changes no other
pub expression_elsewhere : (items : List AExpr) (at : ℕ) (item : AExpr) (n : ℕ) (op : Op) (inputs : List ℕ) → n ≢ at → HoldsExpression items n op inputs → HoldsExpression (set items at item) n op inputs
expression_elsewhere items at item n op inputs other h =
    ap (λ l. slice_get l n) (map-set expression_layer items at item) ∙ slice_get-set_other (map expression_layer items) at (expression_layer item) n _ other h

-- what was written is there
pub expression_written : (items : List AExpr) (at : ℕ) (item : AExpr) → at < length items → slice_get (map expression_layer (set items at item)) at ≡ Some (expression_layer item)
expression_written items at item within =
    slice_get-map expression_layer (set items at item) at ∙ ap (option_map expression_layer) (slice_get-set_same items at item within)

-- what `get` answers is held
pub expression_got : (items : List AExpr) (n : ℕ) (item : AExpr) → slice_get items n ≡ Some item → slice_get (map expression_layer items) n ≡ Some (expression_layer item)
expression_got items n item h = slice_get-map expression_layer items n ∙ ap (option_map expression_layer) h

named_one : (items : List AExpr) (ns : List (Named ℕ)) (es fs : List (Named Expression)) → DenoteNamed items ns es → DenoteNamed items ns fs → es ≡ fs
named_one items [] [] [] d e = refl
named_one items (n ∷ ns) (x ∷ xs) (y ∷ ys) d e =
    let label = sym d.0 ∙ e.0 in
    let tree = denotes_one _ (HoldsExpression items) (expression_laws items) n.expression x.expression y.expression d.1 e.1 in
    let rest = named_one items ns xs ys d.2 e.2 in
    λ i. record { label = label i; expression = tree i } ∷ rest i
named_one items [] (x ∷ xs) fs d e = absurd d
named_one items [] [] (y ∷ ys) d e = absurd e
named_one items (n ∷ ns) [] fs d e = absurd d
named_one items (n ∷ ns) (x ∷ xs) [] d e = absurd e

lists_one : (items : List AExpr) (nodes : List (List (Named ℕ))) (es fs : List (List (Named Expression))) → DenoteLists items nodes es → DenoteLists items nodes fs → es ≡ fs
lists_one items [] [] [] d e = refl
lists_one items (ns ∷ nodes) (xs ∷ es) (ys ∷ fs) d e =
    let first = named_one items ns xs ys d.0 e.0 in
    let later = lists_one items nodes es fs d.1 e.1 in
    λ i. first i ∷ later i
lists_one items [] (xs ∷ es) fs d e = absurd d
lists_one items [] [] (ys ∷ fs) d e = absurd e
lists_one items (ns ∷ nodes) [] fs d e = absurd d
lists_one items (ns ∷ nodes) (xs ∷ es) [] d e = absurd e

-- a kind over nodes is that of one kind over expressions
kind_one : (items : List AExpr) (flat : PlanKind (Named ℕ)) (a b : PlanKind (Named Expression)) → DenotesKind items flat a → DenotesKind items flat b → a ≡ b
kind_one items (ScanKind table schema) a b d e = d ∙ sym e
kind_one items (OverKind work nodes) a b d e = d.1 ∙ ap (OverKind work) (lists_one items nodes d.0 e.0 d.2 e.2) ∙ sym e.1
kind_one items (RefusedKind kinds) a b d e = absurd d

-- what nodes over one list denote is over one list, over two over two, and a filter by one node is one by one predicate
pub list_denoted : (items : List AExpr) (work : Work) (nodes : List (Named ℕ)) (kind : PlanKind (Named Expression)) → DenotesKind items (OverKind work (nodes ∷ [])) kind → (outputs : List (Named Expression)) × (kind ≡ OverKind work (outputs ∷ [])) × DenoteNamed items nodes outputs
list_denoted items work nodes kind (outputs ∷ [], e, d) = (outputs, e, d.0)
list_denoted items work nodes kind ([], e, d) = absurd d
list_denoted items work nodes kind (outputs ∷ others ∷ lists, e, d) = absurd d.1

one_named : (items : List AExpr) (n : Named ℕ) (outputs : List (Named Expression)) → DenoteNamed items (n ∷ []) outputs → (e : Named Expression) × (outputs ≡ e ∷ []) × DenoteNamed items (n ∷ []) (e ∷ [])
one_named items n (e ∷ []) d = (e, refl, d)
one_named items n [] d = absurd d
one_named items n (e ∷ other ∷ outputs) d = absurd d.2

abbrev pub DenotesFilter : List AExpr → Named ℕ → PlanKind (Named Expression) → Type 0
DenotesFilter items n kind = (predicate : Named Expression) × (kind ≡ FilterKind predicate) × DenoteNamed items (n ∷ []) (predicate ∷ [])

pub filter_denoted : (items : List AExpr) (n : Named ℕ) (kind : PlanKind (Named Expression)) → DenotesKind items (FilterKind n) kind → DenotesFilter items n kind
filter_denoted items n kind d =
    let only = list_denoted items FilterWork (n ∷ []) kind d in
    let one = one_named items n only.0 only.2 in
    (one.0, only.1 ∙ ap (λ l. OverKind FilterWork (l ∷ [])) one.1, one.2)

op_one : (items : List AExpr) (flat : PlanOp (Named ℕ)) (a b : PlanOp (Named Expression)) → DenotesOp items flat a → DenotesOp items flat b → a ≡ b
op_one items flat a b d e =
    let kind = kind_one items flat.kind a.kind b.kind d.kind e.kind in
    let recorded = sym d.same_recorded ∙ e.same_recorded in
    λ i. record { kind = kind i; recorded = recorded i }

-- the plans' arena holds one op at each node
pub plan_laws : (expressions : List AExpr) (plans : List IR) → HasShape (shape_of (map plan_layer plans)) (HoldsPlan expressions plans)
plan_laws expressions plans = let layers = map plan_layer plans in record {
  there = λ n op inputs h. there layers n h.flat inputs h.item;
  below = λ n op inputs h. slice_get_within (shape_of layers) n inputs (there layers n h.flat inputs h.item);
  one = λ n op op' inputs inputs' h h'.
      let flat = layer_op h.flat h'.flat inputs inputs' (some_same (slice_get layers n) _ _ h.item h'.item) in
      op_one expressions h'.flat op op' (subst (λ f. DenotesOp expressions f op) flat h.denotes) h'.denotes;
}

-- named nodes denote their expressions where items stay
pub named_kept : (items items' : List AExpr) → ((n : ℕ) (op : Op) (inputs : List ℕ) → HoldsExpression items n op inputs → HoldsExpression items' n op inputs) → (ns : List (Named ℕ)) (es : List (Named Expression)) → DenoteNamed items ns es → DenoteNamed items' ns es
named_kept items items' keeps [] [] d = tt
named_kept items items' keeps (n ∷ ns) (e ∷ es) d =
    (d.0, kept (HoldsExpression items) (HoldsExpression items') keeps n.expression e.expression d.1, named_kept items items' keeps ns es d.2)
named_kept items items' keeps [] (e ∷ es) d = absurd d
named_kept items items' keeps (n ∷ ns) [] d = absurd d

pub lists_kept : (items items' : List AExpr) → ((n : ℕ) (op : Op) (inputs : List ℕ) → HoldsExpression items n op inputs → HoldsExpression items' n op inputs) → (nodes : List (List (Named ℕ))) (lists : List (List (Named Expression))) → DenoteLists items nodes lists → DenoteLists items' nodes lists
lists_kept items items' keeps [] [] d = tt
lists_kept items items' keeps (ns ∷ nodes) (es ∷ lists) d = (named_kept items items' keeps ns es d.0, lists_kept items items' keeps nodes lists d.1)
lists_kept items items' keeps [] (es ∷ lists) d = absurd d
lists_kept items items' keeps (ns ∷ nodes) [] d = absurd d

-- and so does a kind over nodes
kind_kept : (items items' : List AExpr) → ((n : ℕ) (op : Op) (inputs : List ℕ) → HoldsExpression items n op inputs → HoldsExpression items' n op inputs) → (flat : PlanKind (Named ℕ)) (kind : PlanKind (Named Expression)) → DenotesKind items flat kind → DenotesKind items' flat kind
kind_kept items items' keeps (ScanKind table schema) kind d = d
kind_kept items items' keeps (OverKind work nodes) kind d = (d.0, d.1, lists_kept items items' keeps nodes d.0 d.2)
kind_kept items items' keeps (RefusedKind kinds) kind d = absurd d

-- a new plan item is there
pub plan_added : (plans : List IR) (item : IR) → slice_get (map plan_layer (plans ++ item ∷ [])) (length plans) ≡ Some (plan_layer item)
plan_added plans item =
    slice_get-map plan_layer (plans ++ item ∷ []) (length plans) ∙ ap (option_map plan_layer) (slice_get-seam plans item [])

-- what `get` answers is held
pub plan_got : (plans : List IR) (n : ℕ) (item : IR) → slice_get plans n ≡ Some item → slice_get (map plan_layer plans) n ≡ Some (plan_layer item)
plan_got plans n item h = slice_get-map plan_layer plans n ∙ ap (option_map plan_layer) h

-- a plan item stays where the arena grows
pub plan_stays : (plans grown : List IR) → Grows plans grown → (n : ℕ) (l : Layer (PlanOp (Named ℕ))) → slice_get (map plan_layer plans) n ≡ Some l → slice_get (map plan_layer grown) n ≡ Some l
plan_stays plans grown g n l h =
    ap (λ (xs : List IR). slice_get (map plan_layer xs) n) g.longer
    ∙ ap (λ (ls : List (Layer (PlanOp (Named ℕ)))). slice_get ls n) (map-append plan_layer plans g.added)
    ∙ slice_get-append (map plan_layer plans) (map plan_layer g.added) n l h

-- what the plans' arena holds it holds where its items and those of the expressions stay
pub plan_kept : (items items' : List AExpr) (plans grown : List IR) → ((n : ℕ) (op : Op) (inputs : List ℕ) → HoldsExpression items n op inputs → HoldsExpression items' n op inputs) → Grows plans grown → (n : ℕ) (op : PlanOp (Named Expression)) (inputs : List ℕ) → HoldsPlan items plans n op inputs → HoldsPlan items' grown n op inputs
plan_kept items items' plans grown keeps g n op inputs h = record {
  flat = h.flat;
  item = plan_stays plans grown g n (layer h.flat inputs) h.item;
  denotes = record {
    same_recorded = h.denotes.same_recorded;
    kind = kind_kept items items' keeps h.flat.kind op.kind h.denotes.kind;
  };
}

-- a plan stays where items do
pub plan_tree_kept : (items items' : List AExpr) (plans grown : List IR) → ((n : ℕ) (op : Op) (inputs : List ℕ) → HoldsExpression items n op inputs → HoldsExpression items' n op inputs) → Grows plans grown → (n : ℕ) (t : Plan) → Denotes (HoldsPlan items plans) n t → Denotes (HoldsPlan items' grown) n t
plan_tree_kept items items' plans grown keeps g n t d =
    kept (HoldsPlan items plans) (HoldsPlan items' grown) (plan_kept items items' plans grown keeps g) n t d

plan_here : (items : List AExpr) (plans : List IR) (n : ℕ) (t : Plan) → Denotes (HoldsPlan items plans) n t → n < length plans
plan_here items plans n (node op ts) d = omega (arith, slice_get_within (map plan_layer plans) n _ d.1.item, length-map plans plan_layer)

-- a node that denotes a plan is in the arena
pub plan_within : (items : List AExpr) (plans : List IR) (n : ℕ) → DenotesTree (HoldsPlan items plans) n → n < length plans
plan_within items plans n d = plan_here items plans n d.tree d.denotes

-- an item that does something was not taken out
pub is_valid : (expressions : List AExpr) (item : IR) (flat : PlanOp (Named ℕ)) (inputs : List ℕ) (op : PlanOp (Named Expression)) → plan_layer item ≡ layer flat inputs → DenotesOp expressions flat op → item ≢ Invalid
is_valid expressions (Filter input predicate) flat inputs op is d e = cc
is_valid expressions (DataFrameScan table schema) flat inputs op is d e = cc
is_valid expressions (GroupBy input keys aggs schema maintain_order) flat inputs op is d e = cc
is_valid expressions (HStack exprs input schema options) flat inputs op is d e = cc
is_valid expressions (Select expr input schema options) flat inputs op is d e = cc
is_valid expressions (SimpleProjection input schema) flat inputs op is d e = cc
is_valid expressions (Sort input by_column sort_options) flat inputs op is d e = cc
is_valid expressions (Distinct input options) flat inputs op is d e = cc
is_valid expressions (Slice input offset len) flat inputs op is d e = cc
is_valid expressions (Cache input id cache_hits) flat inputs op is d e = cc
is_valid expressions (Sink input payload) flat inputs op is d e = cc
is_valid expressions (MapFunction input function schema) flat inputs op is d e = cc
is_valid expressions Invalid flat inputs op is d e =
    subst (λ (f : PlanOp (Named ℕ)). DenotesKind expressions f.kind op.kind) (sym (layer_op _ flat [] inputs is)) d.kind

-- how far down an item leads
abbrev pub item_depth : List IR → IR → ℕ
item_depth plans item = 1 + greatest (depth_at (shape_of (map plan_layer plans))) (inputs_of (plan_layer item))

module _ (expressions : List AExpr) (plans : List IR) where
  -- a node that denotes a plan, with the item that `get` answers
  module _ (n : ℕ) (item : IR) (got : slice_get plans n ≡ Some item) where
    item_is : (op : PlanOp (Named Expression)) (inputs : List ℕ) (h : HoldsPlan expressions plans n op inputs) → plan_layer item ≡ layer h.flat inputs
    item_is op inputs h = some_same (slice_get (map plan_layer plans) n) _ _ (plan_got plans n item got) h.item

    -- the item denotes what the node denotes
    pub item_denotes : (t : Plan) → Denotes (HoldsPlan expressions plans) n t → DenotesItem expressions plans item t
    item_denotes (node op ts) d = (d.0, record { flat = d.1.flat; is = item_is op d.0 d.1; denotes = d.1.denotes }, d.2)

    inputs_of_plan : (t : Plan) → Denotes (HoldsPlan expressions plans) n t → HasInputs plans item
    inputs_of_plan (node op ts) d =
        let same = ap inputs_of (item_is op d.0 d.1) in
        record { valid = is_valid expressions item d.1.flat d.0 op (item_is op d.0 d.1) d.1.denotes; expressions = expressions; each = subst (AllByRecursion (DenotesTree (HoldsPlan expressions plans))) (sym same) (all_denote (HoldsPlan expressions plans) d.0 ts d.2) }

    -- the item's inputs denote plans
    pub item_inputs : DenotesTree (HoldsPlan expressions plans) n → HasInputs plans item
    item_inputs d = inputs_of_plan d.tree d.denotes

    depth_of_plan : (t : Plan) → Denotes (HoldsPlan expressions plans) n t → depth_at (shape_of (map plan_layer plans)) n ≡ item_depth plans item
    depth_of_plan (node op ts) d =
        let shape = shape_of (map plan_layer plans) in
        depth_of_inputs shape (HoldsPlan expressions plans) (plan_laws expressions plans) n op d.0 d.1 (record { tree = node op ts; denotes = d })
        ∙ ap (λ ns. 1 + greatest (depth_at shape) ns) (sym (ap inputs_of (item_is op d.0 d.1)))

    -- the item leads as far down as the node
    pub depth_of_item : DenotesTree (HoldsPlan expressions plans) n → depth_at (shape_of (map plan_layer plans)) n ≡ item_depth plans item
    depth_of_item d = depth_of_plan d.tree d.denotes

-- what an item with one input stands over, and how much further down the item leads
module _ (plans : List IR) (item : IR) (flat : PlanOp (Named ℕ)) (n : ℕ) (is : plan_layer item ≡ layer flat (n ∷ [])) (h : HasInputs plans item) where
  pub only_input : DenotesTree (HoldsPlan h.expressions plans) n
  only_input = (subst (AllByRecursion (DenotesTree (HoldsPlan h.expressions plans))) (ap inputs_of is) h.each).0

  pub only_input_less_deep : (below : IR) → slice_get plans n ≡ Some below → item_depth plans below < item_depth plans item
  only_input_less_deep below got =
      let shape = shape_of (map plan_layer plans) in
      let there = depth_of_item h.expressions plans n below got only_input in
      let here = ap (λ ns. 1 + greatest (depth_at shape) ns) (ap inputs_of is) in
      omega (arith, there, here)

-- what is held from a number on is held from a lower one, when the arena has grown
pub from_grown : (first lower : ℕ) (items grown : List AExpr) → lower ≤ first → Grows items grown → (n : ℕ) (op : Op) (inputs : List ℕ) → HoldsFrom first items n op inputs → HoldsFrom lower grown n op inputs
from_grown first lower items grown le g n op inputs h =
    (omega (arith, h.0), grown_held items grown g n op inputs h.1)

-- a tree of nodes from a number on, when the arena has grown
pub tree_grown : (first lower : ℕ) (items grown : List AExpr) → lower ≤ first → Grows items grown → (n : ℕ) (t : Expression) → Denotes (HoldsFrom first items) n t → Denotes (HoldsFrom lower grown) n t
tree_grown first lower items grown le g n t d =
    kept (HoldsFrom first items) (HoldsFrom lower grown) (from_grown first lower items grown le g) n t d

pub length-grown : {T : Type 0} (old new : List T) → Grows old new → length old ≤ length new
length-grown old new g = omega (arith, ap length g.longer, length-append old g.added)

-- a new item over trees denotes the tree over them
pub added_denotes : (first : ℕ) (items new : List AExpr) (item : AExpr) (n : ℕ) (op : Op) (inputs : List ℕ) (ts : Trees Op) → first ≤ length items → new ≡ items ++ item ∷ [] → n ≡ length items → expression_layer item ≡ layer op inputs → DenoteAll (HoldsFrom first new) inputs ts → Denotes (HoldsFrom first new) n (node op ts)
added_denotes first items new item n op inputs ts le grown at is d =
    let held = expression_added items item ∙ ap Some is in
    let held' : slice_get (map expression_layer new) n ≡ Some (layer op inputs) = rw (grown, at) held in
    (inputs, (omega arith, held'), d)

-- the tree at a node is the item's op over the trees at its inputs
pub held_top : (items : List AExpr) (n : ℕ) (op : Op) (inputs : List ℕ) → HoldsExpression items n op inputs → (t : Expression) → Denotes (HoldsExpression items) n t → (ts : Trees Op) × (t ≡ node op ts) × DenoteAll (HoldsExpression items) inputs ts
held_top items n op inputs h (node op' ts) d =
    let layers = map expression_layer items in
    let same = some_same (slice_get layers n) _ _ d.1 h in
    (ts, layer_node op' op d.0 inputs ts same, subst (λ ns. DenoteAll (HoldsExpression items) ns ts) (layer_inputs op' op d.0 inputs same) d.2)

-- the tree over one input, and over two
pub one_child : (holds : ℕ → Op → List ℕ → Type 0) (a : ℕ) (ts : Trees Op) → DenoteAll holds (a ∷ []) ts → (x : Expression) × (ts ≡ more x no_more) × Denotes holds a x
one_child holds a (more x no_more) d = (x, refl, d.0)
one_child holds a no_more d = absurd d
one_child holds a (more x (more y ts)) d = absurd d.1

pub two_children : (holds : ℕ → Op → List ℕ → Type 0) (a b : ℕ) (ts : Trees Op) → DenoteAll holds (a ∷ b ∷ []) ts → (x y : Expression) × (ts ≡ more x (more y no_more)) × Denotes holds a x × Denotes holds b y
two_children holds a b (more x (more y no_more)) d = (x, y, refl, d.0, d.1.0)
two_children holds a b no_more d = absurd d
two_children holds a b (more x no_more) d = absurd d.1
two_children holds a b (more x (more y (more z ts))) d = absurd d.1.1

pub no_children : (holds : ℕ → Op → List ℕ → Type 0) (ts : Trees Op) → DenoteAll holds [] ts → ts ≡ no_more
no_children holds no_more d = refl
no_children holds (more x ts) d = absurd d

-- a node that denotes a tree is in the arena
pub within : (items : List AExpr) (n : ℕ) (t : Expression) → Denotes (HoldsExpression items) n t → n < length items
within items n (node op ts) d = omega (arith, slice_get_within (map expression_layer items) n _ d.1, length-map items expression_layer)

pub tree_within : (items : List AExpr) (n : ℕ) → DenotesTree (HoldsExpression items) n → n < length items
tree_within items n d = within items n d.tree d.denotes

-- what `get` answered is what the arena holds
pub got_held : (items : List AExpr) (n : ℕ) (item : AExpr) (op : Op) (inputs : List ℕ) → slice_get items n ≡ Some item → expression_layer item ≡ layer op inputs → HoldsExpression items n op inputs
got_held items n item op inputs got is = expression_got items n item got ∙ ap Some is

-- the inputs of a node that denotes a tree denote trees, and lead less far down
pub expression_inputs : (items : List AExpr) (n : ℕ) (op : Op) (inputs : List ℕ) → HoldsExpression items n op inputs → DenotesTree (HoldsExpression items) n → AllByRecursion (λ m. DenotesTree (HoldsExpression items) m × (depth_at (shape_of (map expression_layer items)) m < depth_at (shape_of (map expression_layer items)) n)) inputs
expression_inputs items n op inputs h d = inputs_denote _ (HoldsExpression items) (expression_laws items) n op inputs h d

-- nodes from a number on are nodes
pub any_node : (first : ℕ) (items : List AExpr) (n : ℕ) (t : Expression) → Denotes (HoldsFrom first items) n t → Denotes (HoldsExpression items) n t
any_node first items n t d = kept (HoldsFrom first items) (HoldsExpression items) (λ n op inputs h. h.1) n t d

-- every node is one from 0 on
pub from_zero : (items : List AExpr) (n : ℕ) (t : Expression) → Denotes (HoldsExpression items) n t → Denotes (HoldsFrom 0 items) n t
from_zero items n t d = kept (HoldsExpression items) (HoldsFrom 0 items) (λ n op inputs h. (omega arith, h)) n t d

-- the nodes from a number on hold one op each
pub from_laws : (first : ℕ) (items : List AExpr) → HasShape (shape_of (map expression_layer items)) (HoldsFrom first items)
from_laws first items = let laws = expression_laws items in record {
  there = λ n op inputs h. laws.there n op inputs h.1;
  below = λ n op inputs h. laws.below n op inputs h.1;
  one = λ n op op' inputs inputs' h h'. laws.one n op op' inputs inputs' h.1 h'.1;
}

-- `held_top` for nodes from a number on
pub from_top : (first : ℕ) (items : List AExpr) (n : ℕ) (op : Op) (inputs : List ℕ) → HoldsExpression items n op inputs → (t : Expression) → Denotes (HoldsFrom first items) n t → (ts : Trees Op) × (t ≡ node op ts) × DenoteAll (HoldsFrom first items) inputs ts × (first ≤ n)
from_top first items n op inputs h (node op' ts) d =
    let layers = map expression_layer items in
    let same = some_same (slice_get layers n) _ _ d.1.1 h in
    (ts, layer_node op' op d.0 inputs ts same, subst (λ ns. DenoteAll (HoldsFrom first items) ns ts) (layer_inputs op' op d.0 inputs same) d.2, d.1.0)

pub grows_then : {T : Type 0} (a b c : List T) → Grows a b → Grows b c → Grows a c
grows_then a b c g h = record {
  added = g.added ++ h.added;
  longer = h.longer ∙ ap (λ l. l ++ h.added) g.longer ∙ append_assoc a g.added h.added;
}
