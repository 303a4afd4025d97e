-- Nodes that lowering adds.
use Rattle.std.proofs.Common.{◌≡◌, ◌≢◌, ℕ, Bool, true, false, refl, ◌≤◌, List, [], ◌∷◌, ◌++◌, length, map, sym, ap, ◌∙◌, subst, arith, append-nil, append_assoc}
use Rattle.std.specs.List.{AllByRecursion, list_all}
use Rattle.std.proofs.lemmas.Bool.{and_from, and_parts, false≢true}
use Rattle.std.proofs.lemmas.List.{map-append}
use Rattle.plan_dsl.specs.Aliases.{all_pruned, prune_node, pruned}
use Rattle.plan_dsl.specs.Copies.{has_several}
use Rattle.plan_dsl.specs.Expressions.{function_source, plain_tree, tree_of}
use Rattle.plan_dsl.specs.Sources.{Plain, SourceOp, Source, all_are_plain, all_unwritten, is_plain, unwritten}
use Rattle.plan_dsl.proofs.ExprLemmas.{IsListed, listed_plain}
use Rattle.plan_types.proofs.ListLemmas.{map-map}
use Rattle.plan_types.specs.Schemas.{Name}
use Rattle.plan_dsl.specs.declared.expr.Expr as declared
use Rattle.plan_dsl.specs.declared.expr.Expr.{Expr, roll-out-Expr}
use Rattle.plan_dsl.specs.declared.function_expr.FunctionExpr.{FunctionExpr}
use Rattle.plan_dsl.specs.declared.function_expr.FunctionExpr.TheVariants.{FieldByIndex}
use Rattle.plan_dsl.specs.declared.expr.Expr.TheVariants.{Alias, Alias', BinaryExpr, BinaryExpr', Filter, Filter', Function, Function', rolls-Function, Gather, Gather', Slice, Slice', Ternary, Ternary'}
use Rattle.plan_dsl.specs.Trees.{Trees, node, no_more, more, children_from, top_op}
use Rattle.plan_dsl.specs.Ops.{Op, AliasOp, Expression}
use Rattle.plan_arena.specs.declared.aexpr.AExpr.{AExpr}
use Rattle.plan_arena.specs.Denotation.{Denotes, DenoteAll}
use Rattle.plan_arena.specs.Layers.{op_of, inputs_of}
use Rattle.plan_arena.specs.Items.{HoldsFrom, Grows, expression_layer}
use Rattle.plan_lower.specs.Nodes.{IsItemOf, over_inputs}
use Rattle.plan_arena.proofs.ItemLemmas.{layer_parts, tree_grown, added_denotes, length-grown, grows_then}

-- trees that were added one after the other, from the one arena to the other: after each there is an arena that has it
abbrev pub AreAdded : List AExpr → List AExpr → List ℕ → Trees Op → Type 0
AreAdded old last [] no_more = old ≡ last
AreAdded old last (n ∷ ns) (more t ts) =
    (mid : List AExpr) × Denotes (HoldsFrom (length old) mid) n t × Grows old mid × AreAdded mid last ns ts
AreAdded old last [] (more t ts) = ⊥
AreAdded old last (n ∷ ns) no_more = ⊥

pub nothing_added : (items : List AExpr) → Grows items items
nothing_added items = record { added = []; longer = sym (append-nil items) }

all_grow : (old last : List AExpr) (ns : List ℕ) (ts : Trees Op) → AreAdded old last ns ts → Grows old last
all_grow old last [] no_more added = subst (Grows old) added (nothing_added old)
all_grow old last (n ∷ ns) (more t ts) added = grows_then old added.0 last added.2 (all_grow added.0 last ns ts added.3)
all_grow old last [] (more t ts) added = absurd added
all_grow old last (n ∷ ns) no_more added = absurd added

-- trees stay as the arena grows
all_grown : (first lower : ℕ) (last new : List AExpr) (ns : List ℕ) (ts : Trees Op) → lower ≤ first → Grows last new → DenoteAll (HoldsFrom first last) ns ts → DenoteAll (HoldsFrom lower new) ns ts
all_grown first lower last new [] no_more le grows d = tt
all_grown first lower last new (n ∷ ns) (more t ts) le grows d = (tree_grown first lower last new le grows n t d.0, all_grown first lower last new ns ts le grows d.1)
all_grown first lower last new [] (more t ts) le grows d = absurd d
all_grown first lower last new (n ∷ ns) no_more le grows d = absurd d

-- in an arena that has grown since they are all there
all_denote : (first : ℕ) (old last new : List AExpr) (ns : List ℕ) (ts : Trees Op) → first ≤ length old → Grows last new → AreAdded old last ns ts → DenoteAll (HoldsFrom first new) ns ts
all_denote first old last new [] no_more le grows added = tt
all_denote first old last new (n ∷ ns) (more t ts) le grows added =
    let rest = all_grow added.0 last ns ts added.3 in
    let later = length-grown old added.0 added.2 in (
      tree_grown (length old) first added.0 new le (grows_then added.0 last new rest grows) n t added.1,
      all_denote first added.0 last new ns ts (omega (arith, le, later)) grows added.3,
    )
all_denote first old last new [] (more t ts) le grows added = absurd added
all_denote first old last new (n ∷ ns) no_more le grows added = absurd added

-- an item over trees that were added is one over operands
pub over_added : (old last : List AExpr) (tree : Expression) (item : AExpr) (ts : Trees Op) → tree ≡ node (op_of (expression_layer item)) ts → AreAdded old last (inputs_of (expression_layer item)) ts → IsItemOf (length old) last tree item
over_added old last tree item ts is added =
    record { operands = ts; is = is; denote = all_denote (length old) old last last (inputs_of (expression_layer item)) ts (omega arith) (nothing_added last) added }

-- a new item denotes the expression that it is of
pub item_denotes : (first : ℕ) (last new : List AExpr) (tree : Expression) (item : AExpr) (n : ℕ) → first ≤ length last → IsItemOf first last tree item → new ≡ last ++ item ∷ [] → n ≡ length last → Denotes (HoldsFrom first new) n tree
item_denotes first last new tree item n le of grown at =
    let l = expression_layer item in
    let later : Grows last new = record { added = item ∷ []; longer = grown } in
    let operands = all_grown first first last new (inputs_of l) of.operands (omega arith) later of.denote in
    subst (Denotes (HoldsFrom first new) n) (sym of.is) (added_denotes first last new item n (op_of l) (inputs_of l) of.operands le grown at (layer_parts l) operands)

-- an expression that is neither an alias nor a function is what it is over its inputs
pub pruned_item : (keep write : Bool) (expr : Expr) → ((below : _) (name : _) → expr ≢ Alias below name) → ((input : _) (function : _) → expr ≢ Function input function) → over_inputs keep write (plain_tree expr) ≡ pruned keep write (plain_tree expr)
unfolding declared.roll-Expr denote.Hole.Carrier.roll declared.out-Expr denote.Hole.Carrier.out
pruned_item keep write (Alias' p below name) alias function = absurd (alias _ name refl)
pruned_item keep write (Function' shape input called) alias function = absurd (function _ called (sym (rolls-Function _ called ∙ roll-out-Expr (Function' shape input called))))
pruned_item true write _ alias function = refl
pruned_item false write _ alias function = refl

-- and an alias is, or what stands under it
pub pruned_alias : (keep write : Bool) (name : Name) (tree : Expression) → prune_node keep (AliasOp name) (more (pruned keep write tree) no_more) ≡ pruned keep write (node (AliasOp name) (more tree no_more))
pruned_alias true write name tree = refl
pruned_alias false write name tree = refl

-- a function is not over several inputs, be it of its name or of a field's place
function_several : (function : FunctionExpr) → has_several (function_source function) ≡ true → ⊥
function_several (FieldByIndex place) is = absurd (false≢true is)
function_several _ is = absurd (false≢true is)

-- the kinds that are over several inputs
pub several_kinds : (expr : Expr) → has_several (top_op (tree_of expr)) ≡ true → ((left : _) (op : _) (right : _) → expr ≢ BinaryExpr left op right) → ((input : _) (offset : _) (length : _) → expr ≢ Slice input offset length) → ((input : _) (idx : _) (returns_scalar : _) → expr ≢ Gather input idx returns_scalar) → ((input : _) (by : _) → expr ≢ Filter input by) → ((predicate : _) (truthy : _) (falsy : _) → expr ≢ Ternary predicate truthy falsy) → ⊥
several_kinds (BinaryExpr' p left op q right) is binary slice gather filter ternary = binary _ op _ refl
several_kinds (Slice' p input q offset r length) is binary slice gather filter ternary = slice _ _ _ refl
several_kinds (Gather' p input q idx returns_scalar) is binary slice gather filter ternary = gather _ _ returns_scalar refl
several_kinds (Filter' p input q by) is binary slice gather filter ternary = filter _ _ refl
several_kinds (Ternary' p predicate q truthy r falsy) is binary slice gather filter ternary = ternary _ _ _ refl
several_kinds (Function' shape input function) is binary slice gather filter ternary = function_several function is
several_kinds _ is binary slice gather filter ternary = absurd (false≢true is)

-- the second and the third operand of what has plans' ops alone
pub second_plain : (expr : Expr) (op : Op) (first second : Source) (rest : Trees SourceOp) → tree_of expr ≡ node (Plain op) (more first (more second rest)) → is_plain (tree_of expr) ≡ true → is_plain second ≡ true
second_plain expr op first second rest is plain =
    let parts = and_parts (is_plain first) (all_are_plain (more second rest)) (sym (ap is_plain is) ∙ plain) in
    (and_parts (is_plain second) (all_are_plain rest) parts.1).0

pub third_plain : (expr : Expr) (op : Op) (first second third : Source) (rest : Trees SourceOp) → tree_of expr ≡ node (Plain op) (more first (more second (more third rest))) → is_plain (tree_of expr) ≡ true → is_plain third ≡ true
third_plain expr op first second third rest is plain =
    let parts = and_parts (is_plain first) (all_are_plain (more second (more third rest))) (sym (ap is_plain is) ∙ plain) in
    let others = and_parts (is_plain second) (all_are_plain (more third rest)) parts.1 in
    (and_parts (is_plain third) (all_are_plain rest) others.1).0

-- of one operand and a list, the list; and what it is an expression of
pub rest_plain : {tree : Source} {op : Op} {first : Source} {rest : List Source} → IsListed tree (Plain op) first rest → is_plain tree ≡ true → list_all is_plain rest ≡ true
rest_plain {tree} {op} {first} {rest} listed plain = (and_parts (is_plain first) (list_all is_plain rest) (sym (listed_plain listed) ∙ plain)).1

pub all_unwritten_from : (sources : List Source) → all_unwritten (children_from sources) ≡ children_from (map unwritten sources)
all_unwritten_from [] = refl
all_unwritten_from (source ∷ sources) = ap (more (unwritten source)) (all_unwritten_from sources)

pub unwritten_listed : {tree : Source} {op : Op} {first : Source} (exprs : List Expr) → IsListed tree (Plain op) first (map tree_of exprs) → unwritten tree ≡ node op (more (unwritten first) (children_from (map plain_tree exprs)))
unwritten_listed {tree} {op} {first} exprs listed =
    let rest = all_unwritten_from (map tree_of exprs) ∙ ap children_from (map-map unwritten tree_of exprs) in
    ap unwritten listed.is ∙ ap (λ others. node op (more (unwritten first) others)) rest

-- what is written over a list in two parts, as a plan has it
pub unwritten_both : {tree : Source} {op : Op} {first : Source} (orders : List Source) (exprs : List Expr) → IsListed tree (Plain op) first (orders ++ map tree_of exprs)
    → unwritten tree ≡ node op (more (unwritten first) (children_from (map unwritten orders ++ map plain_tree exprs)))
unwritten_both {tree} {op} {first} orders exprs listed =
    let parts = map-append unwritten orders (map tree_of exprs) ∙ ap (λ l. map unwritten orders ++ l) (map-map unwritten tree_of exprs) in
    ap unwritten listed.is ∙ ap (λ others. node op (more (unwritten first) others)) (all_unwritten_from (orders ++ map tree_of exprs) ∙ ap children_from parts)

pub both_plain : (orders keys : List Source) → list_all is_plain (orders ++ keys) ≡ true → (list_all is_plain orders ≡ true) × (list_all is_plain keys ≡ true)
both_plain [] keys plain = (refl, plain)
both_plain (order ∷ orders) keys plain =
    let parts = and_parts (is_plain order) (list_all is_plain (orders ++ keys)) plain in
    let rest = both_plain orders keys parts.1 in
    (and_from (is_plain order) (list_all is_plain orders) parts.0 rest.0, rest.1)

-- ---- expressions that are added one after the other

-- each of some that have plans' ops alone has
pub each_plain : (exprs : List Expr) → list_all is_plain (map tree_of exprs) ≡ true → AllByRecursion (λ expr. is_plain (tree_of expr) ≡ true) exprs
each_plain [] plain = tt
each_plain (expr ∷ exprs) plain =
    let parts = and_parts (is_plain (tree_of expr)) (list_all is_plain (map tree_of exprs)) plain in
    (parts.0, each_plain exprs parts.1)

-- nodes of these numbers, from one on, denote the expressions in front of those that are left, with their aliases or without,
-- and with horizontals written out or not
pub record Adding (first : ℕ) (keep write : Bool) (items : List AExpr) (all left : List Expression) (ns : List ℕ) : Type 0 where
  pub done : List Expression
  pub split : all ≡ done ++ left
  pub denote : DenoteAll (HoldsFrom first items) ns (all_pruned keep write (children_from done))

one_more : (first : ℕ) (keep write : Bool) (items : List AExpr) (ns : List ℕ) (ts : List Expression) (n : ℕ) (t : Expression) → DenoteAll (HoldsFrom first items) ns (all_pruned keep write (children_from ts)) → Denotes (HoldsFrom first items) n (pruned keep write t) → DenoteAll (HoldsFrom first items) (ns ++ n ∷ []) (all_pruned keep write (children_from (ts ++ t ∷ [])))
one_more first keep write items [] [] n t d one = (one, tt)
one_more first keep write items (m ∷ ms) (u ∷ us) n t d one = (d.0, one_more first keep write items ms us n t d.1 one)
one_more first keep write items [] (u ∷ us) n t d one = absurd d
one_more first keep write items (m ∷ ms) [] n t d one = absurd d

pub adding_start : (first : ℕ) (keep write : Bool) (items : List AExpr) (all : List Expression) (ns : List ℕ) → ns ≡ [] → Adding first keep write items all all ns
adding_start first keep write items all ns none = record { done = []; split = refl; denote = subst (λ ns. DenoteAll (HoldsFrom first items) ns no_more) (sym none) tt }

pub adding_step : (first : ℕ) (keep write : Bool) (mid new : List AExpr) (all left rest : List Expression) (ns longer : List ℕ) (tree : Expression) (top : ℕ) → Adding first keep write mid all left ns → left ≡ tree ∷ rest → first ≤ length mid → Grows mid new → Denotes (HoldsFrom (length mid) new) top (pruned keep write tree) → longer ≡ ns ++ top ∷ [] → Adding first keep write new all rest longer
adding_step first keep write mid new all left rest ns longer tree top before is le grows one pushed =
    let earlier = all_grown first first mid new ns (all_pruned keep write (children_from before.done)) (omega arith) grows before.denote in
    let here = tree_grown (length mid) first new new le (nothing_added new) top (pruned keep write tree) one in
    record {
      done = before.done ++ tree ∷ [];
      split = before.split ∙ ap (λ l. before.done ++ l) is ∙ sym (append_assoc before.done (tree ∷ []) rest);
      denote = subst (λ ns. DenoteAll (HoldsFrom first new) ns (all_pruned keep write (children_from (before.done ++ tree ∷ [])))) (sym pushed) (one_more first keep write new ns before.done top tree earlier here);
    }

pub adding_end : (first : ℕ) (keep write : Bool) (items : List AExpr) (all left : List Expression) (ns : List ℕ) → Adding first keep write items all left ns → left ≡ [] → DenoteAll (HoldsFrom first items) ns (all_pruned keep write (children_from all))
adding_end first keep write items all left ns added none =
    let whole = added.split ∙ ap (λ l. added.done ++ l) none ∙ append-nil added.done in
    subst (λ ts. DenoteAll (HoldsFrom first items) ns (all_pruned keep write (children_from ts))) (sym whole) added.denote

-- an item over one input, and a list of inputs that were added after it
pub over_listed : (old mid last : List AExpr) (tree : Expression) (item : AExpr) (n : ℕ) (ns : List ℕ) (t : Expression) (ts : Trees Op) → tree ≡ node (op_of (expression_layer item)) (more t ts) → inputs_of (expression_layer item) ≡ n ∷ ns → Denotes (HoldsFrom (length old) mid) n t → Grows old mid → DenoteAll (HoldsFrom (length mid) last) ns ts → Grows mid last → IsItemOf (length old) last tree item
over_listed old mid last tree item n ns t ts is listed first grows rest later =
    let all : DenoteAll (HoldsFrom (length old) last) (n ∷ ns) (more t ts) = (tree_grown (length old) (length old) mid last (omega arith) later n t first, all_grown (length mid) (length old) last last ns ts (length-grown old mid grows) (nothing_added last) rest) in
    record { operands = more t ts; is = is; denote = subst (λ inputs. DenoteAll (HoldsFrom (length old) last) inputs (more t ts)) (sym listed) all }

-- one over an input, and two lists of inputs that were added one after the other
both_denote : (first : ℕ) (keep write : Bool) (items : List AExpr) (ns ms : List ℕ) (xs ys : List Expression) → DenoteAll (HoldsFrom first items) ns (all_pruned keep write (children_from xs)) → DenoteAll (HoldsFrom first items) ms (all_pruned keep write (children_from ys)) → DenoteAll (HoldsFrom first items) (ns ++ ms) (all_pruned keep write (children_from (xs ++ ys)))
both_denote first keep write items [] ms [] ys d e = e
both_denote first keep write items (n ∷ ns) ms (x ∷ xs) ys d e = (d.0, both_denote first keep write items ns ms xs ys d.1 e)
both_denote first keep write items [] ms (x ∷ xs) ys d e = absurd d
both_denote first keep write items (n ∷ ns) ms [] ys d e = absurd d

pub over_both : (keep write : Bool) (old mid later last : List AExpr) (tree : Expression) (item : AExpr) (n : ℕ) (ns ms : List ℕ) (t : Expression) (xs ys : List Expression) → tree ≡ node (op_of (expression_layer item)) (more t (all_pruned keep write (children_from (xs ++ ys)))) → inputs_of (expression_layer item) ≡ n ∷ (ns ++ ms)
    → Denotes (HoldsFrom (length old) mid) n t → Grows old mid → DenoteAll (HoldsFrom (length mid) later) ns (all_pruned keep write (children_from xs)) → Grows mid later → DenoteAll (HoldsFrom (length later) last) ms (all_pruned keep write (children_from ys)) → Grows later last → IsItemOf (length old) last tree item
over_both keep write old mid later last tree item n ns ms t xs ys is listed first grows orders more_grow keys rest_grow =
    let front = all_grown (length mid) (length mid) later last ns (all_pruned keep write (children_from xs)) (omega arith) rest_grow orders in
    let back = all_grown (length later) (length mid) last last ms (all_pruned keep write (children_from ys)) (length-grown mid later more_grow) (nothing_added last) keys in
    over_listed old mid last tree item n (ns ++ ms) t (all_pruned keep write (children_from (xs ++ ys))) is listed first grows (both_denote (length mid) keep write last ns ms xs ys front back) (grows_then mid later last more_grow rest_grow)
