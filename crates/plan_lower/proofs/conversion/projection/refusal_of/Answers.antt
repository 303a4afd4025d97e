use Rattle.plan_types.specs.Schemas.{columns}
use Rattle.plan_dsl.specs.Aliases.{core}
use Rattle.plan_dsl.specs.Expressions.{plain_tree}
use Rattle.plan_dsl.specs.Registry.{registry}
use Rattle.plan_arena.proofs.ItemLemmas.{any_node}
use Rattle.plan_infer.proofs.TableLemmas.{kept_typing}
use Rattle.plan_lower.proofs.conversion.projection.refusal_of.Goals as goal

pub unreachable-requires : goal.unreachable-requires
unreachable-requires c =
    let tree = core (plain_tree c.args.expr) in
    let kept = c.in-Ok.ensures.kept in
    c.requires.untyped _ (kept_typing (registry c.args.udfs.now) (columns c.args.schema.now) c.add_pruned.new.arena c.add_pruned.new.types c.add_pruned.ensures.right _ kept.own kept.keeps tree (any_node _ c.add_pruned.new.arena _ tree c.in-Ok.ensures.denotes))
