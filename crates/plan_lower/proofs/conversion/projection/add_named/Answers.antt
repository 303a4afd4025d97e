use Rattle.std.proofs.Common.{length, sym, ap, ◌∙◌, subst}
use Rattle.std.specs.Option.{option_map_or}
use Rattle.plan_types.specs.Errors.{IsRefusal}
use Rattle.plan_types.specs.Schemas.{columns}
use Rattle.plan_dsl.specs.Aliases.{core, spelled}
use Rattle.plan_dsl.specs.Expressions.{plain_tree}
use Rattle.plan_dsl.specs.Literals.{settled}
use Rattle.plan_dsl.specs.Names.{label_of}
use Rattle.plan_dsl.specs.Registry.{registry}
use Rattle.plan_dsl.specs.Typing.{typing}
use Rattle.plan_dsl.proofs.AliasLemmas.{core_settled, spelled_settled}
use Rattle.plan_dsl.proofs.LiteralLemmas.{settled_label}
use Rattle.plan_arena.specs.Denotation.{Denotes}
use Rattle.plan_arena.specs.Items.{HoldsFrom, named_node, output_label}
use Rattle.plan_arena.specs.NamedNodes.{NamedNode}
use Rattle.plan_arena.proofs.ItemLemmas.{any_node}
use Rattle.plan_lower.proofs.conversion.projection.add_named.Goals as goal

pub returns-in-Err-clause-err : goal.returns-in-Err-clause-err
returns-in-Err-clause-err c =
    subst (λ t. IsRefusal (typing (registry c.args.udfs.now) (columns c.args.schema.now) t) c.in-Err.error) (ap core c.settle.ensures.settled ∙ core_settled (plain_tree c.args.expr)) c.in-Err.ensures.err

pub name_under-requires-clause-kept : goal.name_under-requires-clause-kept
name_under-requires-clause-kept c = c.in-Ok.ensures.kept

pub name_under-requires-clause-right : goal.name_under-requires-clause-right
name_under-requires-clause-right c =
    record { registry = registry c.args.udfs.now; schema = columns c.args.schema.now; right = c.in-Ok.ensures.right }

pub returns-in_ok-name-in-Ok-clause-name : goal.returns-in_ok-name-in-Ok-clause-name
returns-in_ok-name-in-Ok-clause-name c =
    let tree = spelled (plain_tree c.settle.new.expr) in
    let d = any_node _ c.add_inferred.new.arena c.in-Ok.node.0 tree c.in-Ok.ensures.denotes in
    let is = ap spelled c.settle.ensures.settled ∙ spelled_settled (plain_tree c.args.expr) in
    let same = ap label_of is ∙ settled_label (spelled (plain_tree c.args.expr)) in
    ap (λ (e : NamedNode). (named_node e).label) c.new.ensures ∙ c.in_ok-name-in-Ok.ensures.ok tree d ∙ ap (option_map_or output_label c.args.alias) same

pub returns-in_ok-name-in-Ok-clause-denotes : goal.returns-in_ok-name-in-Ok-clause-denotes
returns-in_ok-name-in-Ok-clause-denotes c =
    let items = c.add_inferred.new.arena in
    let here = subst (Denotes (HoldsFrom (length c.args.arena.now) items) c.in-Ok.node.0) (ap spelled c.settle.ensures.settled ∙ spelled_settled (plain_tree c.args.expr)) c.in-Ok.ensures.denotes in
    subst (λ (e : NamedNode). Denotes (HoldsFrom (length c.args.arena.now) items) e.node.0 (settled (spelled (plain_tree c.args.expr)))) (sym c.new.ensures) here
