-- What is on a work stack.
use Rattle.std.proofs.Common.{◌≡◌, ℕ, zero, suc, ◌<◌, List, [], ◌∷◌, ◌++◌, length, map, reverse, Some, slice_get, take, drop, set, get_or, option_map, unwrap_or, ◌+◌, refl, sym, ap, ◌∙◌, arith, true, false}
use Rattle.std.proofs.lemmas.List.{append-nil, append_assoc, drop-drop, drop-set-lt, drop_more, length-map, map-append, take_more}
use Rattle.std.proofs.lemmas.Option.{slice_get-get_or, slice_get-map}
use Rattle.std.proofs.lemmas.Bool.{false≢true}
use Rattle.std.proofs.Math.Seq.{take-append_seam}
use Rattle.std.specs.List.{take-map}
use Rattle.plan_dsl.specs.Ops.{Op}
use Rattle.plan_arena.specs.declared.arena.Node.{Node}
use Rattle.plan_arena.specs.declared.aexpr.AExpr.{AExpr}
use Rattle.plan_arena.specs.Layers.{layer, inputs_of}
use Rattle.plan_arena.specs.Items.{Grows, HoldsExpression, expression_layer, named_node, numbers, passed}
use Rattle.plan_arena.specs.declared.expr_ir.ExprIR.{ExprIR}
use Rattle.plan_coerce.specs.Optimizer.{all_with_inputs, with_inputs}
use Rattle.plan_arena.proofs.DenotationLemmas.{some_same}
use Rattle.plan_arena.proofs.ItemLemmas.{expression_got}

-- the inputs that a node holds are its item's
inputs_are : (items : List AExpr) (n : ℕ) (item : AExpr) (op : Op) (inputs : List ℕ) → slice_get items n ≡ Some item → HoldsExpression items n op inputs → inputs ≡ inputs_of (expression_layer item)
inputs_are items n item op inputs got held = ap inputs_of (some_same _ (layer op inputs) _ held (expression_got items n item got))

-- so the inputs of a node are on the stack
pub pushed : (items : List AExpr) (n : ℕ) (item : AExpr) (rest stack : List ℕ) → slice_get items n ≡ Some item → stack ≡ rest ++ reverse (inputs_of (expression_layer item)) → (op : Op) (inputs : List ℕ) → HoldsExpression items n op inputs → stack ≡ rest ++ reverse inputs
pushed items n item rest stack got is op inputs held = is ∙ ap (λ l. rest ++ reverse l) (sym (inputs_are items n item op inputs got held))

pub pushed_one : (old new : List Node) (a : Node) → new ≡ old ++ a ∷ [] → numbers new ≡ numbers old ++ a.0 ∷ []
pushed_one old new a e = ap numbers e ∙ map-append (λ (n : Node). n.0) old (a ∷ [])

-- a list that has no item
pub no_numbers : (nodes : List Node) → (0 < length nodes → false ≡ true) → numbers nodes ≡ []
no_numbers [] h = refl
no_numbers (x ∷ xs) h = absurd (false≢true (h (omega arith)))

-- ---- roots with their inputs

pub some_inputs : (items : List AExpr) (n : ℕ) (item : AExpr) → slice_get items n ≡ Some item → with_inputs items n ≡ n ∷ reverse (passed (expression_layer item))
some_inputs items n item got = ap (λ o. n ∷ reverse (unwrap_or (option_map passed o) [])) (expression_got items n item got)

pub with_one_more : (items : List AExpr) (ms : List ℕ) (n : ℕ) → all_with_inputs items (ms ++ n ∷ []) ≡ all_with_inputs items ms ++ with_inputs items n
with_one_more items [] n = append-nil (with_inputs items n)
with_one_more items (m ∷ ms) n = ap (λ l. with_inputs items m ++ l) (with_one_more items ms n) ∙ sym (append_assoc (with_inputs items m) (all_with_inputs items ms) (with_inputs items n))

pub begun_back : (old now : List Node) (count : ℕ) → count ≡ length old → Grows (numbers old) (numbers now) → numbers (take count now) ≡ numbers old
begun_back old now count is b =
    sym (take-map (λ (n : Node). n.0) count now) ∙ ap (take count) b.longer ∙ ap (λ k. take k (numbers old ++ b.added)) (is ∙ sym (length-map old (λ (n : Node). n.0))) ∙ take-append_seam (numbers old) b.added

-- the roots that are stacked so far, and with one more
module _ (exprs : List ExprIR) (i : ℕ) (expr : ExprIR) (within : i < length exprs) (at : expr ≡ get_or exprs i expr) where
  pub expr_there : slice_get (map (λ e. (named_node e).expression) exprs) i ≡ Some (named_node expr).expression
  expr_there = slice_get-map (λ e. (named_node e).expression) exprs i ∙ ap (option_map (λ e. (named_node e).expression)) (slice_get-get_or exprs i expr within ∙ ap Some (sym at))

  pub exprs_next : map (λ e. (named_node e).expression) (take (i + 1) exprs) ≡ map (λ e. (named_node e).expression) (take i exprs) ++ (named_node expr).expression ∷ []
  exprs_next = ap (map (λ e. (named_node e).expression)) (take_more exprs i expr within ∙ ap (λ x. take i exprs ++ x ∷ []) (sym at)) ∙ map-append (λ e. (named_node e).expression) (take i exprs) (expr ∷ [])

  pub roots_next : (start old new : List ℕ) (n : ℕ) → n ≡ (named_node expr).expression → old ≡ start ++ map (λ e. (named_node e).expression) (take i exprs) → new ≡ old ++ n ∷ [] → new ≡ start ++ map (λ e. (named_node e).expression) (take (i + 1) exprs)
  roots_next start old new n is before now =
      now ∙ ap (λ l. l ++ n ∷ []) before ∙ append_assoc start (map (λ e. (named_node e).expression) (take i exprs)) (n ∷ []) ∙ ap (λ k. start ++ (map (λ e. (named_node e).expression) (take i exprs) ++ k ∷ [])) is ∙ ap (λ l. start ++ l) (sym exprs_next)

  pub stacked_next : (items : List AExpr) (start old new : List ℕ) (n : ℕ) → n ≡ (named_node expr).expression → old ≡ start ++ all_with_inputs items (map (λ e. (named_node e).expression) (take i exprs)) → new ≡ old ++ with_inputs items n → new ≡ start ++ all_with_inputs items (map (λ e. (named_node e).expression) (take (i + 1) exprs))
  stacked_next items start old new n is before now =
      let done = map (λ e. (named_node e).expression) (take i exprs) in
      now ∙ ap (λ l. l ++ with_inputs items n) before ∙ append_assoc start (all_with_inputs items done) (with_inputs items n) ∙ ap (λ k. start ++ (all_with_inputs items done ++ with_inputs items k)) is ∙ ap (λ l. start ++ l) (sym (with_one_more items done (named_node expr).expression) ∙ ap (all_with_inputs items) (sym exprs_next))

-- ---- nodes that others take the place of, from the front on

-- the node at the head of what is left stands there
pub node_left : (nodes : List Node) (i : ℕ) (x : Node) (rest : List Node) → drop i nodes ≡ x ∷ rest → slice_get (numbers nodes) i ≡ Some x.0
node_left [] zero x rest e = cc
node_left [] (suc i) x rest e = cc
node_left (y ∷ nodes) zero x rest e = let same : y ≡ x = cc in ap (λ (n : Node). Some n.0) same
node_left (y ∷ nodes) (suc i) x rest e = node_left nodes i x rest e

module _ (nodes first : List Node) (i : ℕ) (default : Node) (within : i < length nodes) (left : drop i nodes ≡ drop i first) where
  pub node_there : slice_get (numbers first) i ≡ Some (get_or nodes i default).0
  node_there = node_left first i (get_or nodes i default) (drop (i + 1) nodes) (sym left ∙ drop_more nodes i default within)

  pub one_less : (x : Node) → drop (i + 1) (set nodes i x) ≡ drop (i + 1) first
  one_less x = drop-set-lt (i + 1) nodes i x (omega arith) ∙ sym (drop-drop 1 i nodes) ∙ ap (drop 1) left ∙ drop-drop 1 i first
