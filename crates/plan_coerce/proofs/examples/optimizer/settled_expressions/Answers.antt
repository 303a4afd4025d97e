use Rattle.std.proofs.Common.{◌≡◌, [], true, false, refl, subst, arith}
use Rattle.plan_infer.specs.Samples.{two_columns, a, sum, sum_items}
use Rattle.plan_coerce.specs.Optimizer.{IsSettled}
use Rattle.plan_coerce.specs.Rules.{is_settled}
use Rattle.plan_coerce.specs.Samples.{strict_sum}
use Rattle.plan_coerce.proofs.ExampleLemmas.{no_node, one_denoted, strict_denotes, sum_denotes}
use Rattle.plan_coerce.proofs.examples.optimizer.settled_expressions.Goals as goal

pub returns-clause-node : goal.returns-clause-node
returns-clause-node c = record { tree = strict_sum; denotes = strict_denotes; each = (refl, ((refl, ((refl, tt), tt)), ((refl, tt), tt))) }

pub returns-clause-unsettled_node : goal.returns-clause-unsettled_node
returns-clause-unsettled_node c = λ d.
    let each = subst (IsSettled (is_settled [] two_columns)) (one_denoted sum_items 2 d.tree sum d.denotes sum_denotes) d.each in
    let top : false ≡ true = each.0 in
    cc

pub returns-clause-settled_input : goal.returns-clause-settled_input
returns-clause-settled_input c = record { tree = a; denotes = ([], refl, tt); each = (refl, tt) }

pub returns-clause-no_such_node : goal.returns-clause-no_such_node
returns-clause-no_such_node c = λ d. no_node sum_items 3 d.tree (omega arith) d.denotes
