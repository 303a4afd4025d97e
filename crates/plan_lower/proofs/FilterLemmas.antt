-- Nodes of filters.
use Rattle.std.proofs.Common.{◌≡◌, ℕ, List, [], ◌∷◌, ◌++◌, length, map, Some, refl, sym, ap, ◌∙◌, subst}
use Rattle.std.proofs.lemmas.List.{append_assoc, append-nil}
use Rattle.plan_dsl.specs.Ops.{Expression}
use Rattle.plan_dsl.specs.Plans.{Named, Plan, filter_op}
use Rattle.plan_arena.specs.Denotation.{Denotes}
use Rattle.plan_arena.specs.Items.{DenoteNamed, Grows, HoldsPlan, named_node, plan_layer}
use Rattle.plan_arena.specs.Layers.{layer}
use Rattle.plan_arena.specs.declared.aexpr.AExpr.{AExpr}
use Rattle.plan_arena.specs.declared.expr_ir.ExprIR.{ExprIR}
use Rattle.plan_arena.specs.declared.ir.IR.{IR}
use Rattle.plan_lower.specs.Lowering.{AreFilters}
use Rattle.plan_properties.specs.Splitting.{filters_over}
use Rattle.plan_arena.proofs.ItemLemmas.{plan_added, plan_stays}

-- ---- nodes

-- nodes of filters denote them
pub filters_denoted : (items : List AExpr) (plans : List IR) (nodes : List (Named ℕ)) (predicates : List (Named Expression)) (n input : ℕ) (t : Plan) → AreFilters plans n nodes input → DenoteNamed items nodes predicates → Denotes (HoldsPlan items plans) input t → Denotes (HoldsPlan items plans) n (filters_over predicates t)
filters_denoted items plans [] [] n input t are named d = subst (λ k. Denotes (HoldsPlan items plans) k t) (sym are) d
filters_denoted items plans [] (q ∷ qs) n input t are named d = absurd named
filters_denoted items plans (p ∷ ps) [] n input t are named d = absurd named
filters_denoted items plans (p ∷ ps) (q ∷ qs) n input t are named d = (
  are.0 ∷ [],
  record { flat = filter_op p; item = are.1; denotes = record { same_recorded = refl; kind = ((q ∷ []) ∷ [], refl, ((named.0, named.1, tt), tt)) } },
  (filters_denoted items plans ps qs are.0 input t are.2 named.2 d, tt),
)

filters_stay : (plans new : List IR) → Grows plans new → (nodes : List (Named ℕ)) (n input : ℕ) → AreFilters plans n nodes input → AreFilters new n nodes input
filters_stay plans new grows [] n input are = are
filters_stay plans new grows (p ∷ ps) n input are = (are.0, plan_stays plans new grows n _ are.1, filters_stay plans new grows ps are.0 input are.2)

-- filters that were added, and those that are still to be
pub record Adding (expressions left : List ExprIR) (plans : List IR) (n input : ℕ) : Type 0 where
  pub done : List ExprIR
  pub split : expressions ≡ left ++ done
  pub are : AreFilters plans n (map named_node done) input

pub none_added : (expressions : List ExprIR) (plans : List IR) (input : ℕ) → Adding expressions expressions plans input input
none_added expressions plans input = record { done = []; split = sym (append-nil expressions); are = refl }

-- one more
pub one_added : (expressions left before : List ExprIR) (expr : ExprIR) (plans new : List IR) (item : IR) (n m input : ℕ) → before ≡ left ++ expr ∷ [] → new ≡ plans ++ item ∷ [] → m ≡ length plans → plan_layer item ≡ layer (filter_op (named_node expr)) (n ∷ []) → Adding expressions before plans n input → Adding expressions left new m input
one_added expressions left before expr plans new item n m input popped grown at is adding =
    let g : Grows plans new = record { added = item ∷ []; longer = grown } in
    record {
      done = expr ∷ adding.done;
      split = adding.split ∙ ap (λ l. l ++ adding.done) popped ∙ append_assoc left (expr ∷ []) adding.done;
      are = (n, rw (grown, at) (plan_added plans item ∙ ap Some is), filters_stay plans new g (map named_node adding.done) n input adding.are);
    }

pub all_added : (expressions left : List ExprIR) (plans : List IR) (n input : ℕ) → left ≡ [] → Adding expressions left plans n input → AreFilters plans n (map named_node expressions) input
all_added expressions left plans n input none adding =
    subst (λ es. AreFilters plans n (map named_node es) input) (sym (adding.split ∙ ap (λ l. l ++ adding.done) none)) adding.are
