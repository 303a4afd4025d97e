use Rattle.std.proofs.Common.{ℕ, List, [], ◌∷◌, refl, subst, inl, ⊎_elim, arith}
use Rattle.plan_dsl.specs.declared.operator.Operator.TheVariants.{Plus}
use Rattle.plan_dsl.specs.Ops.{Op}
use Rattle.plan_dsl.specs.Trees.{Trees, no_more, more}
use Rattle.plan_arena.specs.declared.aexpr.AExpr.{AExpr}
use Rattle.plan_infer.specs.Samples.{a, b, binary, pair, columns_and, sum, sum_items}
use Rattle.plan_coerce.specs.Optimizer.{AreApart}
use Rattle.plan_coerce.specs.Reaching.{AreOnce, HasNodes, HaveNodes}
use Rattle.plan_coerce.proofs.ExampleLemmas.{one_list_of_all, sum_nodes, sum_once}
use Rattle.plan_coerce.proofs.examples.optimizer.roots_that_are_apart.Goals as goal

-- what is apart leads to none of these twice
lead_to : (items : List AExpr) (roots : List ℕ) (trees : Trees Op) (nodes : List ℕ) → HaveNodes items roots trees nodes → AreApart items roots → AreOnce nodes
lead_to items roots trees nodes have are = subst AreOnce (one_list_of_all items roots are.trees trees are.nodes nodes are.have have) are.once

first : HasNodes sum_items 0 a (0 ∷ [])
first = ([], [], refl, refl, refl)

second : HasNodes sum_items 1 b (1 ∷ [])
second = ([], [], refl, refl, refl)

pub returns-clause-sum : goal.returns-clause-sum
returns-clause-sum c = record {
  trees = more sum no_more;
  nodes = 2 ∷ 0 ∷ 1 ∷ [];
  have = (2 ∷ 0 ∷ 1 ∷ [], [], refl, sum_nodes, refl);
  once = sum_once;
}

pub returns-clause-two_columns : goal.returns-clause-two_columns
returns-clause-two_columns c = record {
  trees = more b (more a no_more);
  nodes = 1 ∷ 0 ∷ [];
  have = (1 ∷ [], 0 ∷ [], refl, second, (0 ∷ [], [], refl, first, refl));
  once = (λ a. ⊎_elim (λ e. absurd (omega (arith, e))) (λ n. absurd n) a, ((λ a. a), tt));
}

pub returns-clause-none : goal.returns-clause-none
returns-clause-none c = record { trees = no_more; nodes = []; have = refl; once = tt }

pub returns-clause-one_operand_twice : goal.returns-clause-one_operand_twice
returns-clause-one_operand_twice c = λ are.
    let operands : HaveNodes (columns_and (pair 0 Plus 0 ∷ [])) (0 ∷ 0 ∷ []) (more a (more a no_more)) (0 ∷ 0 ∷ []) = (0 ∷ [], 0 ∷ [], refl, ([], [], refl, refl, refl), (0 ∷ [], [], refl, ([], [], refl, refl, refl), refl)) in
    let once = lead_to (columns_and (pair 0 Plus 0 ∷ [])) (2 ∷ []) (more (binary Plus a a) no_more) (2 ∷ 0 ∷ 0 ∷ []) (2 ∷ 0 ∷ 0 ∷ [], [], refl, (0 ∷ 0 ∷ [], 0 ∷ 0 ∷ [], refl, refl, operands), refl) are in
    once.1.0 (inl refl)

pub returns-clause-one_root_twice : goal.returns-clause-one_root_twice
returns-clause-one_root_twice c = λ are.
    let once = lead_to sum_items (0 ∷ 0 ∷ []) (more a (more a no_more)) (0 ∷ 0 ∷ []) (0 ∷ [], 0 ∷ [], refl, first, (0 ∷ [], [], refl, first, refl)) are in
    once.0 (inl refl)

pub returns-clause-root_and_its_input : goal.returns-clause-root_and_its_input
returns-clause-root_and_its_input c = λ are.
    let once = lead_to sum_items (2 ∷ 1 ∷ []) (more sum (more b no_more)) (2 ∷ 0 ∷ 1 ∷ 1 ∷ []) (2 ∷ 0 ∷ 1 ∷ [], 1 ∷ [], refl, sum_nodes, (1 ∷ [], [], refl, second, refl)) are in
    once.1.1.0 (inl refl)
