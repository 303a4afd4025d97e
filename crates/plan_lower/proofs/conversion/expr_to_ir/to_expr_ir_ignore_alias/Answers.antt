use Rattle.std.proofs.Common.{length, subst, sym, ◌∙◌}
use Rattle.plan_dsl.specs.Aliases.{spelled}
use Rattle.plan_dsl.specs.Expressions.{plain_tree}
use Rattle.plan_arena.specs.Denotation.{Denotes}
use Rattle.plan_arena.specs.Items.{HoldsFrom}
use Rattle.plan_arena.proofs.ItemLemmas.{any_node}
use Rattle.plan_lower.specs.TopNumbers.{settled_at_top}
use Rattle.plan_lower.proofs.TopNumberLemmas.{spelled_label_at_top}
use Rattle.plan_lower.proofs.conversion.expr_to_ir.to_expr_ir_ignore_alias.Goals as goal

pub from_node-requires : goal.from_node-requires
from_node-requires c =
    let tree = spelled (settled_at_top (plain_tree c.args.expr)) in
    record { tree = tree; denotes = any_node (length c.args.arena.now) c.add_settled.new.arena c.in_ok-node.node.0 tree c.in_ok-node.ensures.denotes }

pub returns-clause-name : goal.returns-clause-name
returns-clause-name c =
    let tree = spelled (settled_at_top (plain_tree c.args.expr)) in
    c.in_ok-expr_ir.ensures.name tree (any_node (length c.args.arena.now) c.add_settled.new.arena c.in_ok-node.node.0 tree c.in_ok-node.ensures.denotes)
    ∙ spelled_label_at_top (plain_tree c.args.expr)

pub returns-clause-denotes : goal.returns-clause-denotes
returns-clause-denotes c =
    let items = c.add_settled.new.arena in
    subst (λ n. Denotes (HoldsFrom (length c.args.arena.now) items) n (spelled (settled_at_top (plain_tree c.args.expr)))) (sym c.in_ok-expr_ir.ensures.node) c.in_ok-node.ensures.denotes
