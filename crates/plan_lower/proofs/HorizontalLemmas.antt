-- Functions as they are lowered: horizontals over few operands, which are written out operand by operand, and the others.
use Rattle.std.proofs.Common.{◌≡◌, ◌≢◌, ◌≤◌, ◌+◌, ◌&&◌, ℕ, suc, Bool, true, false, not, List, [], ◌∷◌, ◌++◌, Option, Some, None, length, map, drop, slice_get, refl, sym, ap, ◌∙◌, subst, arith}
use Rattle.std.specs.List.{list_all}
use Rattle.std.specs.Option.{option_map_or}
use Rattle.std.specs.Prelude.{MatchOption}
use Rattle.std.proofs.lemmas.Bool.{and_parts, and_right, false≢true}
use Rattle.std.proofs.Math.Bool.{and-true}
use Rattle.std.proofs.lemmas.List.{length-map}
use Rattle.plan_types.specs.Types.{Truth}
use Rattle.plan_types.specs.Values.{TruthValue}
use Rattle.plan_types.specs.declared.dtype.CastOptions.TheVariants.{NonStrict}
use Rattle.plan_types.specs.declared.dtype.DataType.{DataType}
use Rattle.plan_types.proofs.ListLemmas.{map-map}
use Rattle.plan_dsl.specs.declared.expr.Expr.{Expr}
use Rattle.plan_dsl.specs.declared.expr.Expr.TheVariants.{Function}
use Rattle.plan_dsl.specs.declared.expr.Exprs.{Exprs}
use Rattle.plan_dsl.specs.declared.function_expr.FunctionExpr.{FunctionExpr}
use Rattle.plan_dsl.specs.declared.function_expr.FunctionExpr.TheVariants.{AllHorizontal, AnyHorizontal, FieldByIndex}
use Rattle.plan_dsl.specs.declared.literal.LiteralValue.{LiteralValue}
use Rattle.plan_dsl.specs.declared.operator.Operator.{Operator}
use Rattle.plan_dsl.specs.Aliases.{all_pruned, chain, chained, is_written_out, pruned, put_together, spelled, written_out}
use Rattle.plan_dsl.specs.Expressions.{function_source, plain_tree, plain_trees, tree_of, trees_of}
use Rattle.plan_dsl.specs.Functions.{is_expanded_function}
use Rattle.plan_dsl.specs.Names.{Label, label_of, op_label}
use Rattle.plan_dsl.specs.Ops.{Op, BinaryOp, CastOp, FunctionOp, LiteralOp, Expression}
use Rattle.plan_dsl.specs.Sources.{Plain, Source, SourceOp, all_unwritten, is_plain, unwritten}
use Rattle.plan_dsl.specs.Trees.{Trees, node, no_more, more, children_from, fold_all, top_op, tree_count}
use Rattle.plan_dsl.proofs.AliasLemmas.{chain_label}
use Rattle.plan_dsl.proofs.ExprLemmas.{function_listed, function_plain}
use Rattle.plan_arena.specs.declared.aexpr.AExpr.{AExpr}
use Rattle.plan_arena.specs.declared.aexpr.AExpr.TheVariants.{BinaryExpr}
use Rattle.plan_arena.specs.declared.arena.Node.{Node}
use Rattle.plan_arena.specs.Denotation.{Denotes}
use Rattle.plan_arena.specs.declared.expr_ir.OutputName.{OutputName}
use Rattle.plan_arena.specs.Items.{Grows, HoldsFrom, output_label}
use Rattle.plan_arena.proofs.ItemLemmas.{tree_grown}
use Rattle.plan_expand.specs.Walks.{plan_operands_in}
use Rattle.plan_expand.proofs.WalkLemmas.{at_place, over_operands}
use Rattle.plan_lower.specs.Horizontals.{InChain, IsNamedAlone, IsNamedAs, IsNamedUnder, IsWrittenBy, all_write_no_chain, called, is_chain, writes_no_chain}
use Rattle.plan_lower.specs.Nodes.{IsItemOf}
use Rattle.plan_lower.proofs.NodeLemmas.{all_unwritten_from, item_denotes}

-- ---- functions that have plans' ops alone

operands_of : (input : Exprs) → all_unwritten (children_from (trees_of input)) ≡ children_from (plain_trees input)
operands_of input = all_unwritten_from (trees_of input) ∙ ap children_from (map-map unwritten tree_of input.items.items)

expanded_source : (function : FunctionExpr) → is_expanded_function function ≡ true → function_source function ≡ Plain (FunctionOp function [])
expanded_source (FieldByIndex place) expanded = absurd (false≢true expanded)
expanded_source _ expanded = refl

-- such a one is of its name, over operands that are plain too
pub plain_function : (expr : Expr) (input : Exprs) (function : FunctionExpr) → expr ≡ Function input function → is_plain (tree_of expr) ≡ true → (list_all is_plain (trees_of input) ≡ true) × (plain_tree expr ≡ node (FunctionOp function []) (children_from (plain_trees input)))
plain_function expr input function is plain =
    let listed = function_listed expr input function is in
    let parts = and_parts (is_expanded_function function) (list_all is_plain (trees_of input)) (sym (function_plain function (tree_of expr) (trees_of input) listed) ∙ plain) in
    let whole = ap unwritten listed.is ∙ ap (λ op. unwritten (node op (children_from (trees_of input)))) (expanded_source function parts.0) in
    (parts.1, whole ∙ ap (node (FunctionOp function [])) (operands_of input))

counted : (trees : List Expression) → tree_count (children_from trees) ≡ length trees
counted [] = refl
counted (tree ∷ trees) = ap suc (counted trees)

pub operands_counted : (input : Exprs) → tree_count (children_from (plain_trees input)) ≡ length input.items.items
operands_counted input = counted (plain_trees input) ∙ length-map input.items.items plain_tree

pub all_counted : (keep write : Bool) (trees : Trees Op) → tree_count (all_pruned keep write trees) ≡ tree_count trees
all_counted keep write no_more = refl
all_counted keep write (more tree trees) = ap suc (all_counted keep write trees)

pub pruned_counted : (keep write : Bool) (input : Exprs) → tree_count (all_pruned keep write (children_from (plain_trees input))) ≡ length input.items.items
pruned_counted keep write input = all_counted keep write (children_from (plain_trees input)) ∙ operands_counted input

-- a function as a plan has it, whether it is written out or not
abbrev as_out : Bool → Bool → FunctionExpr → Trees Op → Bool → Expression
as_out keep write function children out = put_together keep out (FunctionOp function []) (fold_all op_label children) (all_pruned (keep && out) write children)

pub written_chained : (keep write : Bool) (function : FunctionExpr) (children : Trees Op) (count : ℕ) (operator : Operator) (nothing : Bool) → write ≡ true → IsWrittenBy function count operator nothing → tree_count children ≡ count → chained operator nothing (all_pruned keep write children) ≡ pruned keep write (node (FunctionOp function []) children)
written_chained keep write function children count operator nothing writes written same =
    let out = (λ i. is_written_out (writes i) (FunctionOp function []) (same i)) ∙ written.out in
    sym (
    ap (as_out keep write function children) out
    ∙ ap (λ b. written_out (FunctionOp function []) (all_pruned b write children)) (and-true keep)
    ∙ written.by (all_pruned keep write children)
    )

pub function_stays : (keep write : Bool) (function : FunctionExpr) (children : Trees Op) (count : ℕ) → is_written_out write (FunctionOp function []) count ≡ false → tree_count children ≡ count → pruned keep write (node (FunctionOp function []) children) ≡ node (FunctionOp function (fold_all op_label children)) (all_pruned false write children)
function_stays keep write function children count stays same =
    ap (as_out keep write function children) (ap (is_written_out write (FunctionOp function [])) same ∙ stays)
    ∙ ap (λ b. node (FunctionOp function (fold_all op_label children)) (all_pruned b write children)) (and_right keep false refl)

-- ---- expressions in which none is written out by several operators

-- the op of a function in a plan is such a one where the function is
pub function_chained : (expr : Expr) (input : Exprs) (function : FunctionExpr) (count : ℕ) → expr ≡ Function input function → is_chain (top_op (plain_tree expr)) count ≡ is_chain (FunctionOp function []) count
function_chained expr input function count is =
    ap (λ s. is_chain (top_op (unwritten s)) count) (function_listed expr input function is).is ∙ own function
  where
    own : (f : FunctionExpr) → is_chain (top_op (unwritten (node (function_source f) (children_from (trees_of input))))) count ≡ is_chain (FunctionOp f []) count
    own (FieldByIndex place) = refl
    own _ = refl

each_writes_no_chain : (trees : List Expression) → all_write_no_chain (children_from trees) ≡ list_all writes_no_chain trees
each_writes_no_chain [] = refl
each_writes_no_chain (tree ∷ trees) = ap (λ b. writes_no_chain tree && b) (each_writes_no_chain trees)

-- an expression has none where its node isn't one and its operands have none, one after the other
pub walk_start : (source : Source) (trees : List Source) (count : ℕ) → Some trees ≡ plan_operands_in source → count ≡ length trees → writes_no_chain (unwritten source) ≡ (not (is_chain (top_op (unwritten source)) count) && list_all writes_no_chain (map unwritten trees))
walk_start source trees count are counts =
    let all = map unwritten trees in
    let same = counted all ∙ length-map trees unwritten ∙ sym counts in
    ap writes_no_chain (over_operands source trees are) ∙ (λ i. not (is_chain (top_op (unwritten source)) (same i)) && each_writes_no_chain all i)

pub walk_step : (trees : List Source) (place : ℕ) (tree : Source) (none : Bool) → Some tree ≡ slice_get trees place → none ≡ writes_no_chain (unwritten tree) → list_all writes_no_chain (map unwritten (drop place trees)) ≡ (none && list_all writes_no_chain (map unwritten (drop (place + 1) trees)))
walk_step trees place tree none is found =
    ap (λ l. list_all writes_no_chain (map unwritten l)) (at_place trees place tree is) ∙ ap (λ b. b && list_all writes_no_chain (map unwritten (drop (place + 1) trees))) (sym found)

-- ---- chains, operand by operand

module _ (operator : Operator) (from : ℕ) (old new : List AExpr) (le : from ≤ length old) where
  pub chain_more : (all left : Trees Op) (tree : Expression) (before operand top : Node) → InChain operator from old all (more tree left) (Some before) → Denotes (HoldsFrom from old) operand.0 tree → new ≡ old ++ BinaryExpr before operator operand ∷ [] → top.0 ≡ length old → InChain operator from new all left (Some top)
  chain_more all left tree before operand top so_far one grown at =
      let whole = node (BinaryOp operator) (more so_far.2 (more tree no_more)) in
      let item : IsItemOf from old whole (BinaryExpr before operator operand) = record { operands = more so_far.2 (more tree no_more); is = refl; denote = (so_far.5, (one, tt)) } in
      (so_far.0, so_far.1, whole, so_far.3, so_far.4, item_denotes from old new whole (BinaryExpr before operator operand) top.0 le item grown at)

  -- over none
  pub chain_nothing : (nothing : Bool) (all : Trees Op) (n : ℕ) → all ≡ no_more → new ≡ old ++ AExpr.Literal (LiteralValue.Boolean nothing) ∷ [] → n ≡ length old → Denotes (HoldsFrom from new) n (chained operator nothing all)
  chain_nothing nothing all n none grown at =
      let whole = node (LiteralOp Truth (TruthValue nothing)) no_more in
      let item : IsItemOf from old whole (AExpr.Literal (LiteralValue.Boolean nothing)) = record { operands = no_more; is = refl; denote = tt } in
      subst (λ ts. Denotes (HoldsFrom from new) n (chained operator nothing ts)) (sym none) (item_denotes from old new whole _ n le item grown at)

  one_cast : (nothing : Bool) (first : Expression) (others : Trees Op) (tree : Expression) → suc (tree_count others) ≡ 1 → tree ≡ chain operator first others → node (CastOp Truth NonStrict) (more tree no_more) ≡ chained operator nothing (more first others)
  one_cast nothing first no_more tree one whole = ap (λ t. node (CastOp Truth NonStrict) (more t no_more)) whole
  one_cast nothing first (more next rest) tree one whole = cc

  -- over one
  pub chain_cast : (nothing : Bool) (all : Trees Op) (operand : Node) (n : ℕ) → InChain operator from old all no_more (Some operand) → tree_count all ≡ 1 → new ≡ old ++ AExpr.Cast operand DataType.Boolean NonStrict ∷ [] → n ≡ length old → Denotes (HoldsFrom from new) n (chained operator nothing all)
  chain_cast nothing all operand n so_far one grown at =
      let whole = node (CastOp Truth NonStrict) (more so_far.2 no_more) in
      let item : IsItemOf from old whole (AExpr.Cast operand DataType.Boolean NonStrict) = record { operands = more so_far.2 no_more; is = refl; denote = (so_far.5, tt) } in
      let is = one_cast nothing so_far.0 so_far.1 so_far.2 (sym (ap tree_count so_far.3) ∙ one) so_far.4 ∙ ap (chained operator nothing) (sym so_far.3) in
      subst (Denotes (HoldsFrom from new) n) is (item_denotes from old new whole _ n le item grown at)

several : (operator : Operator) (nothing : Bool) (first : Expression) (others : Trees Op) (tree : Expression) → suc (tree_count others) ≢ 1 → tree ≡ chain operator first others → tree ≡ chained operator nothing (more first others)
several operator nothing first no_more tree many whole = absurd (many refl)
several operator nothing first (more next rest) tree many whole = whole

-- over more
pub chain_whole : (operator : Operator) (from : ℕ) (items : List AExpr) (nothing : Bool) (all : Trees Op) (top : Node) → InChain operator from items all no_more (Some top) → tree_count all ≢ 1 → Denotes (HoldsFrom from items) top.0 (chained operator nothing all)
chain_whole operator from items nothing all top so_far many =
    let is = several operator nothing so_far.0 so_far.1 so_far.2 (λ one. many (ap tree_count so_far.3 ∙ one)) so_far.4 ∙ ap (chained operator nothing) (sym so_far.3) in
    subst (Denotes (HoldsFrom from items) top.0) is so_far.5

-- what is in a chain stays as the arena grows
pub chain_grown : (operator : Operator) (from : ℕ) (old new : List AExpr) (all left : Trees Op) (so_far : Option Node) → Grows old new → InChain operator from old all left so_far → InChain operator from new all left so_far
chain_grown operator from old new all left None grows before = before
chain_grown operator from old new all left (Some top) grows before =
    (before.0, before.1, before.2, before.3, before.4, tree_grown from from old new (omega arith) grows top.0 before.2 before.5)

-- one more operand is there to be put behind it
pub chain_next : (operator : Operator) (from : ℕ) (keep write : Bool) (old new : List AExpr) (all : Trees Op) (left rest : List Expr) (expr : Expr) (so_far : Option Node) → InChain operator from old all (all_pruned keep write (children_from (map plain_tree left))) so_far → left ≡ expr ∷ rest → Grows old new → InChain operator from new all (more (pruned keep write (plain_tree expr)) (all_pruned keep write (children_from (map plain_tree rest)))) so_far
chain_next operator from keep write old new all left rest expr so_far before is grows =
    let here = subst (λ exprs. InChain operator from old all (all_pruned keep write (children_from (map plain_tree exprs))) so_far) is before in
    chain_grown operator from old new all (more (pruned keep write (plain_tree expr)) (all_pruned keep write (children_from (map plain_tree rest)))) so_far grows here

-- and none is left at the end
pub chain_end : (operator : Operator) (from : ℕ) (keep write : Bool) (items : List AExpr) (all : Trees Op) (left : List Expr) (so_far : Option Node) → InChain operator from items all (all_pruned keep write (children_from (map plain_tree left))) so_far → left ≡ [] → InChain operator from items all no_more so_far
chain_end operator from keep write items all left so_far before none = subst (λ exprs. InChain operator from items all (all_pruned keep write (children_from (map plain_tree exprs))) so_far) none before

-- ---- names

chained_label : (operator : Operator) (nothing : Bool) (tree : Expression) (trees : Trees Op) → label_of (chained operator nothing (more tree trees)) ≡ label_of tree
chained_label operator nothing tree no_more = refl
chained_label operator nothing tree (more next rest) = chain_label operator tree (more next rest)

horizontal_label : (function : FunctionExpr) (count : ℕ) (tree : Expression) (trees : Trees Op) → is_written_out true (FunctionOp function []) count ≡ true → label_of (node (FunctionOp function []) (more tree trees)) ≡ label_of tree
horizontal_label AllHorizontal count tree trees out = refl
horizontal_label AnyHorizontal count tree trees out = refl
horizontal_label _ count tree trees out = absurd (false≢true out)

written_source : (function : FunctionExpr) (count : ℕ) → is_written_out true (FunctionOp function []) count ≡ true → function_source function ≡ Plain (FunctionOp function [])
written_source (FieldByIndex place) count out = absurd (false≢true out)
written_source _ count out = refl

-- a function that stays has the name that it has recorded
recorded_label : (write : Bool) (function : FunctionExpr) (children : Trees Op) → label_of (node (FunctionOp function []) children) ≡ label_of (node (FunctionOp function (fold_all op_label children)) (all_pruned false write children))
recorded_label write function no_more = refl
recorded_label write function (more tree trees) = refl

stays_label : (write : Bool) (function : FunctionExpr) (children : Trees Op) (count : ℕ) → is_written_out write (FunctionOp function []) count ≡ false → tree_count children ≡ count → label_of (node (FunctionOp function []) children) ≡ label_of (pruned false write (node (FunctionOp function []) children))
stays_label write function children count stays same =
    recorded_label write function children ∙ ap label_of (sym (function_stays false write function children count stays same))

source_label : (write : Bool) (function : FunctionExpr) (sources : Trees SourceOp) (count : ℕ) → is_written_out write (FunctionOp function []) count ≡ false → tree_count (all_unwritten sources) ≡ count → label_of (unwritten (node (function_source function) sources)) ≡ label_of (pruned false write (unwritten (node (function_source function) sources)))
source_label write (FieldByIndex place) sources count stays same = refl
source_label write function sources count stays same = stays_label write function (all_unwritten sources) count stays same

pub stays_named : (function : FunctionExpr) (input : Exprs) → is_written_out true (FunctionOp function []) (length input.items.items) ≡ false → IsNamedAlone (called function input)
stays_named function input stays =
    let sources = children_from (trees_of input) in
    let count = ap tree_count (operands_of input) ∙ operands_counted input in
    (source_label false function sources (length input.items.items) refl count, source_label true function sources (length input.items.items) stays count)

-- the name of one that is written out is that of its first operand, with aliases and without
first_named : (function : FunctionExpr) (operator : Operator) (nothing : Bool) (tree : Expression) (trees : Trees Op) → IsWrittenBy function (tree_count (more tree trees)) operator nothing → IsNamedAs (node (FunctionOp function []) (more tree trees)) tree
first_named function operator nothing tree trees written = record {
  own = horizontal_label function (tree_count (more tree trees)) tree trees written.out;
  kept = stays_label false function (more tree trees) (tree_count (more tree trees)) refl refl;
  without = ap label_of (sym (written_chained false true function (more tree trees) (tree_count (more tree trees)) operator nothing refl written refl)) ∙ chained_label operator nothing (spelled tree) (all_pruned false true trees);
}

written_called : (function : FunctionExpr) (input : Exprs) (operator : Operator) (nothing : Bool) → IsWrittenBy function (length input.items.items) operator nothing → called function input ≡ node (FunctionOp function []) (children_from (plain_trees input))
written_called function input operator nothing written =
    ap (λ op. unwritten (node op (children_from (trees_of input)))) (written_source function (length input.items.items) written.out) ∙ ap (node (FunctionOp function [])) (operands_of input)

same_expr : (a b : Expr) → Some a ≡ Some b → a ≡ b
same_expr a b e = cc

over_first : (function : FunctionExpr) (operator : Operator) (nothing : Bool) (exprs : List Expr) (first : Expr) → IsWrittenBy function (length exprs) operator nothing → slice_get exprs 0 ≡ Some first → IsNamedAs (node (FunctionOp function []) (children_from (map plain_tree exprs))) (plain_tree first)
over_first function operator nothing (expr ∷ exprs) first written at =
    let count = sym (counted (map plain_tree exprs) ∙ length-map exprs plain_tree) in
    let named = first_named function operator nothing (plain_tree expr) (children_from (map plain_tree exprs)) (subst (λ n. IsWrittenBy function (suc n) operator nothing) count written) in
    subst (λ e. IsNamedAs (node (FunctionOp function []) (children_from (map plain_tree (expr ∷ exprs)))) (plain_tree e)) (same_expr expr first at) named
over_first function operator nothing [] first written at = cc

pub written_first : (function : FunctionExpr) (input : Exprs) (operator : Operator) (nothing : Bool) (first : Expr) → IsWrittenBy function (length input.items.items) operator nothing → slice_get input.items.items 0 ≡ Some first → IsNamedAs (called function input) (plain_tree first)
written_first function input operator nothing first written at =
    subst (λ t. IsNamedAs t (plain_tree first)) (sym (written_called function input operator nothing written)) (over_first function operator nothing input.items.items first written at)

-- over none it has that of a literal
nothing_named : (function : FunctionExpr) (operator : Operator) (nothing : Bool) → IsWrittenBy function 0 operator nothing → IsNamedAlone (node (FunctionOp function []) no_more)
nothing_named AllHorizontal operator nothing written = (refl, refl)
nothing_named AnyHorizontal operator nothing written = (refl, refl)
nothing_named _ operator nothing written = absurd (false≢true written.out)

over_nothing : (function : FunctionExpr) (operator : Operator) (nothing : Bool) (exprs : List Expr) → IsWrittenBy function (length exprs) operator nothing → exprs ≡ [] → IsNamedAlone (node (FunctionOp function []) (children_from (map plain_tree exprs)))
over_nothing function operator nothing [] written none = nothing_named function operator nothing written
over_nothing function operator nothing (expr ∷ exprs) written none = cc

pub written_nothing : (function : FunctionExpr) (input : Exprs) (operator : Operator) (nothing : Bool) → IsWrittenBy function (length input.items.items) operator nothing → input.items.items ≡ [] → IsNamedAlone (called function input)
written_nothing function input operator nothing written none =
    subst IsNamedAlone (sym (written_called function input operator nothing written)) (over_nothing function operator nothing input.items.items written none)

-- the name of an expression that has another's is that one's, and so is the alias that gives it
pub called_as : (expr first : Expr) (input : Exprs) (function : FunctionExpr) → expr ≡ Function input function → IsNamedAs (called function input) (plain_tree first) → IsNamedAs (plain_tree expr) (plain_tree first)
called_as expr first input function is named =
    subst (λ t. IsNamedAs t (plain_tree first)) (sym (ap unwritten (function_listed expr input function is).is)) named

pub called_alone : (expr : Expr) (input : Exprs) (function : FunctionExpr) → expr ≡ Function input function → IsNamedAlone (called function input) → IsNamedAlone (plain_tree expr)
called_alone expr input function is named = subst IsNamedAlone (sym (ap unwritten (function_listed expr input function is).is)) named

pub alias_as : {N : Type 0} (name : N → Label) (tree other : Expression) (found : Option N) → IsNamedAs tree other → MatchOption found (IsNamedAlone other) (λ n. label_of other ≡ name n) → MatchOption found (IsNamedAlone tree) (λ n. label_of tree ≡ name n)
alias_as name tree other None named alone = (named.kept, named.own ∙ alone.1 ∙ sym named.without)
alias_as name tree other (Some n) named alias = named.own ∙ alias

-- what names an expression names it with its horizontals written out or not
pub named_under : (write : Bool) (alias : Option OutputName) (tree : Expression) → IsNamedUnder alias tree → label_of tree ≡ option_map_or output_label alias (label_of (pruned false write tree))
named_under true alias tree named = named.1
named_under false alias tree named = named.0
