-- Inputs that are kept as three numbers, of which so many count, and two lists.
use Rattle.std.proofs.Common.{◌≡◌, ℕ, suc, ◌+◌, ◌≤◌, List, [], ◌∷◌, ◌++◌, length, reverse, take, Some, slice_get, refl, sym, ap, ◌∙◌, append_assoc, arith, drop, ◌-◌}
use Rattle.std.proofs.lemmas.List.{length-append, length-map, length-reverse, length-take-le, map-append, reverse-append, reverse-reverse, take_all, take_at}
use Rattle.std.proofs.lemmas.Grind.{reverse_onto}
use Rattle.std.proofs.lemmas.List.{with_items_is}
use native.Mathlib.Nat.{ℕ_set}
use native.Mathlib.Bridge.{le_prop}
use Rattle.std.specs.Global.{Vec}
use Rattle.std.specs.Vec.{with_items}
use mathlib.Core.HLevel.{is_prop→PathP}
use Rattle.plan_arena.specs.declared.inputs.NodeList.{NodeList}
use Rattle.plan_arena.proofs.NumberLemmas.{taken_more}
use Rattle.plan_arena.specs.Items.{numbers, numbers_named}
use Rattle.plan_arena.specs.declared.expr_ir.ExprIR.{ExprIR}
use Rattle.plan_arena.specs.declared.arena.Node.{Node}

abbrev pub first_of : ℕ → ℕ → ℕ → ℕ → List ℕ
first_of count a b c = take count (a ∷ b ∷ c ∷ [])

pub length-first_of : (xs : List ℕ) (count a b c : ℕ) (rest : List Node) (named : List ExprIR) → first_of count a b c ++ (numbers rest ++ numbers_named named) ≡ xs → count ≤ 3 → count + length rest + length named ≡ length xs
length-first_of xs count a b c rest named is le =
    let few = length-take-le count (a ∷ b ∷ c ∷ []) le in
    let all = ap length (sym is) ∙ length-append (first_of count a b c) (numbers rest ++ numbers_named named) in
    let behind = length-append (numbers rest) (numbers_named named) in
    omega (arith, few, all, behind, length-map rest (λ (n : Node). n.0), length-map named (λ (e : ExprIR). e.node.0))

abbrev node_of : ℕ → Node
node_of number = record { 0 = number }

-- nodes of the same numbers are the same
pub same_nodes : (ms ns : List Node) → numbers ms ≡ numbers ns → ms ≡ ns
same_nodes [] [] same = refl
same_nodes (m ∷ ms) (n ∷ ns) same =
    let rest : ms ≡ ns = same_nodes ms ns cc in
    let number : m.0 ≡ n.0 = cc in
    let first : m ≡ n = ap node_of number in
    cc
same_nodes [] (n ∷ ns) same = cc
same_nodes (m ∷ ms) [] same = cc

-- one more input is appended, of those that are left the last
pub one_more : (done new : List Node) (inputs all : List ℕ) (left k : ℕ) (node : Node) → left ≡ suc k → slice_get inputs k ≡ Some node.0 → new ≡ done ++ node ∷ [] → numbers done ++ reverse (take left inputs) ≡ all → numbers new ++ reverse (take k inputs) ≡ all
one_more done new inputs all left k node is at grown so_far =
    let taken = ap (λ n. take n inputs) is ∙ taken_more inputs k node.0 at in
    let turned = ap reverse taken ∙ reverse-append (take k inputs) (node.0 ∷ []) in
    ap (λ nodes. numbers nodes ++ reverse (take k inputs)) grown
    ∙ ap (λ ns. ns ++ reverse (take k inputs)) (map-append (λ n. n.0) done (node ∷ []))
    ∙ append_assoc (numbers done) (node.0 ∷ []) (reverse (take k inputs))
    ∙ ap (λ ns. numbers done ++ ns) (sym turned) ∙ so_far

-- what is written behind a first one, where the numbers are those that were there
same_rest : (inputs new list : List Node) (first : ℕ) → new ≡ take (length inputs - 1) (drop 1 inputs) → numbers inputs ≡ first ∷ numbers list → new ≡ list
same_rest [] new list first is same = cc
same_rest (n ∷ ns) new list first is same =
    is ∙ take_all (length (n ∷ ns) - 1) ns (omega arith) ∙ same_nodes ns list cc

-- a vector into which its own items are written stays
pub own_items : {X : Type 0} (nodes : Vec X) (new : List X) → new ≡ nodes.items → with_items nodes new ≡ nodes
own_items nodes new same =
    let long : length new ≡ nodes.len = ap length same ∙ sym nodes.ok.0 in
    let items = with_items_is nodes new long ∙ same in
    λ i. record {
      ptr = nodes.ptr;
      len = nodes.len;
      cap = nodes.cap;
      alloc = nodes.alloc;
      items = items i;
      ok = is_prop→PathP (λ j. (nodes.len ≡ length (items j)) × (nodes.len ≤ nodes.cap)) (λ j x y k. (ℕ_set _ _ x.0 y.0 k, le_prop x.1 y.1 k)) (with_items nodes new).ok nodes.ok i;
      small = nodes.small;
    }

-- so a list stays into which the same numbers are written behind a first one
pub same_list : (list : NodeList) (inputs new : List Node) (first : ℕ) → new ≡ take (length inputs - 1) (drop 1 inputs) → numbers inputs ≡ first ∷ numbers list.items.items → record { items = with_items list.items new } ≡ list
same_list list inputs new first is same = λ i. record { items = own_items list.items new (same_rest inputs new list.items.items first is same) i }

numbers_reversed : (nodes : List Node) → numbers (reverse nodes) ≡ reverse (numbers nodes)
numbers_reversed [] = refl
numbers_reversed (n ∷ ns) =
    ap numbers (reverse_onto ns n [])
    ∙ map-append (λ n. n.0) (reverse ns) (n ∷ [])
    ∙ ap (λ ks. ks ++ n.0 ∷ []) (numbers_reversed ns)
    ∙ sym (reverse_onto (numbers ns) n.0 [])

-- inputs that were appended in reverse to an empty list are in order once that is reversed
pub turned_back : (nodes lent turned before : List Node) (inputs : List ℕ) → lent ≡ nodes → turned ≡ reverse lent → before ≡ [] → numbers nodes ≡ numbers before ++ reverse inputs → numbers (take (length nodes) (turned ++ drop (length turned) nodes)) ≡ inputs
turned_back nodes lent turned before inputs borrowed is empty reversed =
    let back : turned ≡ reverse nodes = is ∙ ap reverse borrowed in
    let long : length turned ≡ length nodes = ap length back ∙ length-reverse nodes in
    ap numbers (take_at turned (drop (length turned) nodes) (length nodes) long ∙ back)
    ∙ numbers_reversed nodes
    ∙ ap reverse (reversed ∙ ap (λ ns. numbers ns ++ reverse inputs) empty)
    ∙ reverse-reverse inputs
