-- Nodes with names, which get other nodes under the same names.
use Rattle.std.proofs.Common.{◌≡◌, ℕ, ◌+◌, ◌<◌, List, [], ◌∷◌, ◌++◌, get_or, length, map, set, take, refl, sym, ap, ◌∙◌}
use Rattle.std.proofs.lemmas.List.{map-append, take_more, take_more_set}
use Rattle.std.specs.Vec.{with_items}
use Rattle.plan_types.proofs.ListLemmas.{map-map}
use Rattle.plan_arena.specs.declared.arena.Node.{Node}
use Rattle.plan_arena.specs.declared.expr_ir.ExprIR.{ExprIR}
use Rattle.plan_arena.specs.declared.expr_ir.ExprIRs.{ExprIRs}
use Rattle.plan_arena.specs.declared.expr_ir.OutputName.{OutputName}
use Rattle.plan_arena.specs.Items.{numbers, numbers_named, output_label, recorded}
use Rattle.plan_arena.proofs.InputLemmas.{own_items, same_nodes}

abbrev pub nodes_of : List ExprIR → List Node
nodes_of exprs = map (λ e. e.node) exprs

abbrev pub names_in : List ExprIR → List OutputName
names_in exprs = map (λ e. e.output_name) exprs

-- one more node is put in place
pub one_more_node : (exprs : List ExprIR) (inputs : List Node) (i : ℕ) (new : ExprIR) (node : Node) → i < length exprs → i < length inputs → new.node ≡ get_or inputs i node → nodes_of (take i exprs) ≡ take i inputs → nodes_of (take (i + 1) (set exprs i new)) ≡ take (i + 1) inputs
one_more_node exprs inputs i new node within also at before =
    ap nodes_of (take_more_set exprs i new within)
    ∙ map-append (λ e. e.node) (take i exprs) (new ∷ [])
    ∙ (λ j. before j ++ at j ∷ [])
    ∙ sym (take_more inputs i node also)

pub numbers_of_nodes : (exprs : List ExprIR) → numbers_named exprs ≡ numbers (nodes_of exprs)
numbers_of_nodes exprs = sym (map-map (λ n. n.0) (λ e. e.node) exprs)

pub labels_of_names : (exprs : List ExprIR) → recorded exprs ≡ map output_label (names_in exprs)
labels_of_names exprs = sym (map-map output_label (λ e. e.output_name) exprs)

-- nodes with names are the same where their nodes are and their names
same_named_nodes : (new old : List ExprIR) → nodes_of new ≡ nodes_of old → names_in new ≡ names_in old → new ≡ old
same_named_nodes [] [] nodes names = refl
same_named_nodes (e ∷ es) (f ∷ fs) nodes names =
    let nodes_behind : nodes_of es ≡ nodes_of fs = cc in
    let names_behind : names_in es ≡ names_in fs = cc in
    let rest = same_named_nodes es fs nodes_behind names_behind in
    let node : e.node ≡ f.node = cc in
    let name : e.output_name ≡ f.output_name = cc in
    λ i. record { node = node i; output_name = name i } ∷ rest i
same_named_nodes [] (f ∷ fs) nodes names = cc
same_named_nodes (e ∷ es) [] nodes names = cc

-- so a list stays where they get the numbers that they have
pub same_inputs : (exprs : ExprIRs) (new : List ExprIR) (inputs : List Node) → nodes_of new ≡ inputs → names_in new ≡ names_in exprs.items.items → numbers inputs ≡ numbers_named exprs.items.items → record { items = with_items exprs.items new } ≡ exprs
same_inputs exprs new inputs nodes names same =
    let old = exprs.items.items in
    let stay = nodes ∙ same_nodes inputs (nodes_of old) (same ∙ numbers_of_nodes old) in
    λ i. record { items = own_items exprs.items new (same_named_nodes new old stay names) i }
