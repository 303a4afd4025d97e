-- Counts of casts.
use Rattle.std.proofs.Common.{◌≡◌, ℕ, zero, suc, ◌+◌, ◌<◌, ◌≤◌, List, [], ◌∷◌, ◌++◌, length, map, take, get_or, sum, sum_by, Option, Some, slice_get, refl, sym, ap, ◌∙◌, subst, arith}
use Rattle.std.specs.List.{AllByRecursion, flat_map}
use Rattle.std.specs.Option.{option_map}
use Rattle.std.proofs.lemmas.List.{take_all}
use Rattle.std.proofs.lemmas.List.Sums.{sum_by-append, sum_by-cons, sum_by_more}
use Rattle.std.proofs.lemmas.Option.{slice_get-map, slice_get-get_or, slice_get_within, get_or_from_slice_get}
use Rattle.plan_dsl.specs.Trees.{Tree, Trees, node, no_more, more, fold, fold_all}
use Rattle.plan_dsl.specs.Ops.{Op, Expression}
use Rattle.plan_dsl.specs.Plans.{Named, OverInput, PlanKind, PlanOp, Plan, expressions_of}
use Rattle.plan_arena.specs.Denotation.{Denotes, DenoteAll, DenotesTree, depth_at}
use Rattle.plan_arena.specs.Layers.{layer, op_of, inputs_of, shape_of}
use Rattle.plan_arena.specs.Items.{named_node, nodes_of, expression_layer, plan_layer, HoldsExpression, DenoteNamed, DenotesKind, HoldsPlan}
use Rattle.plan_types.specs.declared.dtype.CastOptions.{CastOptions}
use Rattle.plan_types.specs.declared.dtype.DataType.{DataType}
use Rattle.plan_dsl.specs.declared.literal.LiteralValue.{LiteralValue}
use Rattle.plan_arena.specs.declared.aexpr.AExpr.{AExpr}
use Rattle.plan_arena.specs.declared.aexpr.AExpr.TheVariants.{Cast, Literal}
use Rattle.plan_arena.specs.declared.arena.Node.{Node}
use Rattle.plan_arena.specs.declared.expr_ir.ExprIR.{ExprIR}
use Rattle.plan_arena.specs.declared.ir.IR.{IR}
use Rattle.plan_arena.proofs.DenotationLemmas.{some_same}
use Rattle.plan_arena.proofs.NumberLemmas.{all_there}
use Rattle.plan_arena.proofs.ItemLemmas.{expression_got, layer_parts}
use Rattle.plan_dsl.specs.Counts.{op_casts, expression_casts, outputs_casts, kind_casts, plan_op_casts, cast_count}
use Rattle.plan_report.proofs.NodeLemmas.{held_op, held_children, in_parts, kind_outputs, LeadsDown, expression_inputs}

-- a count for each node, of the tree that it denotes
abbrev pub CountAll : {Op : Type 0} → (ℕ → Op → List ℕ → Type 0) → (Tree Op → ℕ) → List ℕ → List ℕ → Type 0
CountAll holds count [] [] = Unit {0}
CountAll {Op} holds count (n ∷ ns) (c ∷ cs) = ((t : Tree Op) → Denotes holds n t → c ≡ count t) × CountAll holds count ns cs
CountAll holds count [] (c ∷ cs) = ⊥
CountAll holds count (n ∷ ns) [] = ⊥

counts_of : {Op : Type 0} (holds : ℕ → Op → List ℕ → Type 0) (step : Op → List ℕ → ℕ) (ns cs : List ℕ) (ts : Trees Op) → CountAll holds (fold step) ns cs → DenoteAll holds ns ts → cs ≡ fold_all step ts
counts_of holds step [] [] no_more each d = refl
counts_of holds step (n ∷ ns) (c ∷ cs) (more t ts) each d =
    let first = each.0 t d.0 in
    let rest = counts_of holds step ns cs ts each.1 d.1 in
    λ i. first i ∷ rest i
counts_of holds step [] [] (more t ts) each d = absurd d
counts_of holds step [] (c ∷ cs) ts each d = absurd each
counts_of holds step (n ∷ ns) [] ts each d = absurd each
counts_of holds step (n ∷ ns) (c ∷ cs) no_more each d = absurd d

-- the tree of the input at a place, with its count among those of all
input_at : (items : List AExpr) (ns : List ℕ) (ts : Trees Op) → DenoteAll (HoldsExpression items) ns ts → (i n : ℕ) → slice_get ns i ≡ Some n → (t : Expression) × Denotes (HoldsExpression items) n t × (slice_get (fold_all op_casts ts) i ≡ Some (expression_casts t))
input_at items [] no_more d i n at = cc
input_at items (m ∷ ns) (more t ts) d zero n at =
    let same : m ≡ n = cc in (t, subst (λ k. Denotes (HoldsExpression items) k t) same d.0, refl)
input_at items (m ∷ ns) (more t ts) d (suc i) n at = input_at items ns ts d.1 i n at
input_at items [] (more t ts) d i n at = absurd d
input_at items (m ∷ ns) no_more d i n at = absurd d

-- as many counts as inputs
length-counts : (items : List AExpr) (ns : List ℕ) (ts : Trees Op) → DenoteAll (HoldsExpression items) ns ts → length (fold_all op_casts ts) ≡ length ns
length-counts items [] no_more d = refl
length-counts items (n ∷ ns) (more t ts) d = ap suc (length-counts items ns ts d.1)
length-counts items [] (more t ts) d = absurd d
length-counts items (n ∷ ns) no_more d = absurd d

-- a count with those of the inputs up to a place, whatever trees they denote
abbrev pub CountsUpTo : List AExpr → List ℕ → ℕ → ℕ → ℕ → Type 0
CountsUpTo items ns i own count =
    (ts : Trees Op) → DenoteAll (HoldsExpression items) ns ts → count ≡ own + sum (take i (fold_all op_casts ts))

-- one more input is counted
pub input_counted : (items : List AExpr) (ns : List ℕ) (i own count casts new n : ℕ) → slice_get ns i ≡ Some n → CountsUpTo items ns i own count → ((t : Expression) → Denotes (HoldsExpression items) n t → casts ≡ expression_casts t) → new ≡ count + casts → CountsUpTo items ns (i + 1) own new
input_counted items ns i own count casts new n at so_far one added ts d =
    let found = input_at items ns ts d i n at in
    let counts = fold_all op_casts ts in
    let casts_of = expression_casts found.0 in
    let before = so_far ts d in
    let here = one found.0 found.1 in
    let same = get_or_from_slice_get counts i casts_of casts_of found.2 in
    let more_sum = sum_by_more (λ (x : ℕ). x) counts i casts_of (slice_get_within counts i casts_of found.2) in
    omega (arith, added, before, here, same, more_sum)

-- the count of an expression, when all its inputs are counted
pub expression_counted : (items : List AExpr) (n : ℕ) (item : AExpr) → slice_get items n ≡ Some item → (ns : List ℕ) → ns ≡ inputs_of (expression_layer item) → (i own count : ℕ) → length ns ≤ i → ((below : List ℕ) → op_casts (op_of (expression_layer item)) below ≡ own + sum below) → CountsUpTo items ns i own count → (t : Expression) → Denotes (HoldsExpression items) n t → count ≡ expression_casts t
expression_counted items n item got ns are i own count past by_own all (node op ts) d =
    let same = some_same (slice_get (map expression_layer items) n) (expression_layer item) (layer op d.0) (expression_got items n item got) d.1 in
    let children = subst (λ ms. DenoteAll (HoldsExpression items) ms ts) (sym (are ∙ ap inputs_of same)) d.2 in
    let counts = fold_all op_casts ts in
    let whole = ap sum (take_all i counts (omega (arith, past, length-counts items ns ts children))) in
    let whole_count = all ts children in
    let by_op = sym (by_own counts) ∙ ap (λ l. op_casts (op_of l) counts) same in
    whole_count ∙ ap (λ k. own + k) whole ∙ by_op

-- a node that is no cast adds none
pub other_casts : (item : AExpr) → ((expr : Node) (dtype : DataType) (options : CastOptions) → item ≡ Cast expr dtype options → ⊥) → ((value : LiteralValue) → item ≡ Literal value → ⊥) → (below : List ℕ) → op_casts (op_of (expression_layer item)) below ≡ 0 + sum below
other_casts (Cast expr dtype options) cast literal below = absurd (cast expr dtype options refl)
other_casts (Literal value) cast literal below = absurd (literal value refl)
other_casts _ cast literal below = omega arith

-- the count of an expression, from those of its inputs
over_counted : (items : List AExpr) (n : ℕ) (item : AExpr) → slice_get items n ≡ Some item → (op : Op) (inputs : List ℕ) (own : ℕ) (cs : List ℕ) → expression_layer item ≡ layer op inputs → ((below : List ℕ) → op_casts op below ≡ own + sum below) → CountAll (HoldsExpression items) expression_casts inputs cs → (t : Expression) → Denotes (HoldsExpression items) n t → own + sum cs ≡ expression_casts t
over_counted items n item got op inputs own cs is by_own each (node o ts) d =
    let same : layer op inputs ≡ layer o d.0 = sym is ∙ some_same (slice_get (map expression_layer items) n) (expression_layer item) (layer o d.0) (expression_got items n item got) d.1 in
    let children = subst (λ ms. DenoteAll (HoldsExpression items) ms ts) (sym (ap inputs_of same)) d.2 in
    let counts = fold_all op_casts ts in
    ap (λ l. own + sum l) (counts_of (HoldsExpression items) op_casts inputs cs ts each children) ∙ sym (by_own counts) ∙ ap (λ l. op_casts (op_of l) counts) same

-- a leaf that is no cast has none
pub leaf_counted : (items : List AExpr) (n : ℕ) (item : AExpr) → slice_get items n ≡ Some item → (op : Op) → expression_layer item ≡ layer op [] → ((below : List ℕ) → op_casts op below ≡ sum below) → (t : Expression) → Denotes (HoldsExpression items) n t → 0 ≡ expression_casts t
leaf_counted items n item got op is none t d =
    over_counted items n item got op [] 0 [] is (λ below. omega (arith, none below)) tt t d

-- a node over one input has those of the input, and its own
pub one_counted : (items : List AExpr) (n : ℕ) (item : AExpr) → slice_get items n ≡ Some item → (op : Op) (input own casts count : ℕ) → expression_layer item ≡ layer op (input ∷ []) → ((below : List ℕ) → op_casts op below ≡ own + sum below) → ((t : Expression) → Denotes (HoldsExpression items) input t → casts ≡ expression_casts t) → count ≡ own + casts → (t : Expression) → Denotes (HoldsExpression items) n t → count ≡ expression_casts t
one_counted items n item got op input own casts count is by_own one added t d =
    let whole = over_counted items n item got op (input ∷ []) own (casts ∷ []) is by_own (one, tt) t d in
    omega (arith, added, whole)

-- a node over two inputs that is no cast has those of both
pub two_counted : (items : List AExpr) (n : ℕ) (item : AExpr) → slice_get items n ≡ Some item → (op : Op) (left right first second count : ℕ) → expression_layer item ≡ layer op (left ∷ right ∷ []) → ((below : List ℕ) → op_casts op below ≡ sum below) → ((t : Expression) → Denotes (HoldsExpression items) left t → first ≡ expression_casts t) → ((t : Expression) → Denotes (HoldsExpression items) right t → second ≡ expression_casts t) → count ≡ first + second → (t : Expression) → Denotes (HoldsExpression items) n t → count ≡ expression_casts t
two_counted items n item got op left right first second count is none one other added t d =
    let whole = over_counted items n item got op (left ∷ right ∷ []) 0 (first ∷ second ∷ []) is (λ below. omega (arith, none below)) (one, (other, tt)) t d in
    omega (arith, added, whole)

-- the inputs of an expression denote expressions, and lead less far down
inputs_lead : (items : List AExpr) (n : ℕ) (item : AExpr) → slice_get items n ≡ Some item → (t : Expression) → Denotes (HoldsExpression items) n t → LeadsDown (HoldsExpression items) (shape_of (map expression_layer items)) n (inputs_of (expression_layer item))
inputs_lead items n item got (node op ts) d =
    expression_inputs items n item got (op_of (expression_layer item)) (inputs_of (expression_layer item)) (layer_parts (expression_layer item)) (record { tree = node op ts; denotes = d })

-- so does the input at a place
pub input_leads : (items : List AExpr) (n : ℕ) (item : AExpr) → slice_get items n ≡ Some item → DenotesTree (HoldsExpression items) n → (ns : List ℕ) → ns ≡ inputs_of (expression_layer item) → (i m : ℕ) → slice_get ns i ≡ Some m → DenotesTree (HoldsExpression items) m × (depth_at (shape_of (map expression_layer items)) m < depth_at (shape_of (map expression_layer items)) n)
input_leads items n item got d ns are i m at =
    let leads : ℕ → Type 0 = λ k. DenotesTree (HoldsExpression items) k × (depth_at (shape_of (map expression_layer items)) k < depth_at (shape_of (map expression_layer items)) n) in
    all_there leads ns (subst (AllByRecursion leads) (sym are) (inputs_lead items n item got d.tree d.denotes)) i m at

-- the count of a plan, from its expressions' and its inputs'
pub plan_counted : (expressions : List AExpr) (plans : List IR) (n : ℕ) (item : IR) → slice_get plans n ≡ Some item → (flat : PlanOp (Named ℕ)) (inputs : List ℕ) (here : ℕ) (cs : List ℕ) → plan_layer item ≡ layer flat inputs → ((kind : PlanKind (Named Expression)) → DenotesKind expressions flat.kind kind → here ≡ kind_casts kind) → CountAll (HoldsPlan expressions plans) cast_count inputs cs → (t : Plan) → Denotes (HoldsPlan expressions plans) n t → here + sum cs ≡ cast_count t
plan_counted expressions plans n item got flat inputs here cs is outputs each (node op ts) d =
    let flats = held_op expressions plans n item got flat inputs is op d.0 d.1 in
    let kind = subst (λ (f : PlanOp (Named ℕ)). DenotesKind expressions f.kind op.kind) flats d.1.denotes.kind in
    let children = held_children expressions plans n item got flat inputs is op d.0 d.1 ts d.2 in
    let own = outputs op.kind kind in
    let counts = counts_of (HoldsPlan expressions plans) plan_op_casts inputs cs ts each children in
    λ i. own i + sum (counts i)

-- as many nodes as expressions
length-named : (items : List AExpr) (ns : List (Named ℕ)) (es : List (Named Expression)) → DenoteNamed items ns es → length es ≡ length ns
length-named items [] [] d = refl
length-named items (n ∷ ns) (e ∷ es) d = ap suc (length-named items ns es d.2)
length-named items [] (e ∷ es) d = absurd d
length-named items (n ∷ ns) [] d = absurd d

-- no output is left to count
pub outputs_end : (items : List AExpr) (ns : List (Named ℕ)) (i count : ℕ) → length ns ≤ i → ((es : List (Named Expression)) → DenoteNamed items ns es → count ≡ outputs_casts (take i es)) → (es : List (Named Expression)) → DenoteNamed items ns es → count ≡ outputs_casts es
outputs_end items ns i count past all es d = all es d ∙ ap outputs_casts (take_all i es (omega (arith, length-named items ns es d)))

-- the expression that a named node denotes
pub named_at : (items : List AExpr) (ns : List (Named ℕ)) (es : List (Named Expression)) → DenoteNamed items ns es → (i : ℕ) (n : Named ℕ) → slice_get ns i ≡ Some n → (e : Named Expression) × (slice_get es i ≡ Some e) × Denotes (HoldsExpression items) n.expression e.expression
named_at items [] [] d i n at = cc
named_at items (m ∷ ns) (e ∷ es) d zero n at =
    let same : m ≡ n = cc in (e, refl, subst (λ x. Denotes (HoldsExpression items) x.expression e.expression) same d.1)
named_at items (m ∷ ns) (e ∷ es) d (suc i) n at = named_at items ns es d.2 i n at
named_at items [] (e ∷ es) d i n at = absurd d
named_at items (m ∷ ns) [] d i n at = absurd d

-- one more output is counted
pub outputs_more : (items : List AExpr) (ns : List (Named ℕ)) (i count casts new : ℕ) (n : Named ℕ) → slice_get ns i ≡ Some n → ((es : List (Named Expression)) → DenoteNamed items ns es → count ≡ outputs_casts (take i es)) → ((t : Expression) → Denotes (HoldsExpression items) n.expression t → casts ≡ expression_casts t) → new ≡ count + casts → (es : List (Named Expression)) → DenoteNamed items ns es → new ≡ outputs_casts (take (i + 1) es)
outputs_more items ns i count casts new n at so_far one added es d =
    let found = named_at items ns es d i n at in
    let within = slice_get_within es i found.0 found.1 in
    let here = one found.0.expression found.2 in
    let same = get_or_from_slice_get es i found.0 found.0 found.1 in
    let sums = sum_by_more (λ (e : Named Expression). expression_casts e.expression) es i found.0 within in
    added ∙ (λ k. so_far es d k + here k) ∙ ap (λ (e : Named Expression). outputs_casts (take i es) + expression_casts e.expression) (sym same) ∙ sym sums

-- each named node denotes an expression
pub named_tree : (items : List AExpr) (ns : List (Named ℕ)) (es : List (Named Expression)) → DenoteNamed items ns es → (i : ℕ) (n : Named ℕ) → slice_get ns i ≡ Some n → DenotesTree (HoldsExpression items) n.expression
named_tree items ns es d i n at = let found = named_at items ns es d i n at in record { tree = found.0.expression; denotes = found.2 }

-- the casts of two lists are those of the whole
pub parts_counted : (items : List AExpr) (ns ms all : List (Named ℕ)) (first later count : ℕ) → ns ++ ms ≡ all → ((es : List (Named Expression)) → DenoteNamed items ns es → first ≡ outputs_casts es) → ((es : List (Named Expression)) → DenoteNamed items ms es → later ≡ outputs_casts es) → count ≡ first + later → (es : List (Named Expression)) → DenoteNamed items all es → count ≡ outputs_casts es
parts_counted items ns ms all first later count split here behind both es d =
    let parts = in_parts items ns ms es (subst (λ l. DenoteNamed items l es) (sym split) d) in
    both ∙ (λ i. here parts.front parts.before i + behind parts.back parts.behind i) ∙ sym (sum_by-append (λ (e : Named Expression). expression_casts e.expression) parts.front parts.back) ∙ ap outputs_casts (sym parts.split)

lists_counted : (lists : List (OverInput (Named Expression))) → sum_by (λ (e : OverInput (Named Expression)). outputs_casts e.outputs) lists ≡ outputs_casts (flat_map (λ (e : OverInput (Named Expression)). e.outputs) lists)
lists_counted [] = refl
lists_counted (list ∷ lists) =
    sum_by-cons (λ (e : OverInput (Named Expression)). outputs_casts e.outputs) list lists
    ∙ ap (λ rest. outputs_casts list.outputs + rest) (lists_counted lists) ∙ sym (sum_by-append (λ (e : Named Expression). expression_casts e.expression) list.outputs (flat_map (λ (e : OverInput (Named Expression)). e.outputs) lists))

-- a node has those of all its expressions
pub kind_counted : (items : List AExpr) (flat : PlanKind (Named ℕ)) (count : ℕ) → ((es : List (Named Expression)) → DenoteNamed items (nodes_of flat) es → count ≡ outputs_casts es) → (kind : PlanKind (Named Expression)) → DenotesKind items flat kind → count ≡ kind_casts kind
kind_counted items flat count all kind d = all (nodes_of kind) (kind_outputs items flat kind d) ∙ sym (lists_counted (expressions_of kind))

-- an output that the list has is there, with its name
pub named_there : (items : List ExprIR) (i : ℕ) (item : ExprIR) → i < length items → item ≡ get_or items i item → slice_get (map named_node items) i ≡ Some (named_node item)
named_there items i item within is =
    slice_get-map named_node items i ∙ ap (option_map named_node) (slice_get-get_or items i item within ∙ ap Some (sym is))
