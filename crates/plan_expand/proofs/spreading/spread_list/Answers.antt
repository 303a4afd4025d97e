use Rattle.std.proofs.Common.{map, ap, ◌∙◌}
use Rattle.std.specs.Vec.Iter.{into_iter_items}
use Rattle.plan_types.proofs.ResultLemmas.{passed_on}
use Rattle.plan_types.specs.Schemas.{columns}
use Rattle.plan_dsl.specs.Expansion.{spread}
use Rattle.plan_dsl.specs.Expressions.{plain_tree, tree_of}
use Rattle.plan_dsl.specs.Trees.{children_from}
use Rattle.plan_expand.proofs.EachLemmas.{behind}
use Rattle.plan_expand.proofs.SpreadLemmas.{input_refused, spread_step}
use Rattle.plan_expand.proofs.spreading.spread_list.Goals as goal

pub returns-in_err-add_alone-clause-err : goal.returns-in_err-add_alone-clause-err
returns-in_err-add_alone-clause-err c =
    let keys = c.args.keys.now.keys in
    let schema = columns c.args.schema.now in
    let done = map plain_tree c.loop-input.expanded.items in
    let left = c.loop-input.invariant.so_far ∙ ap (λ l. behind done (spread keys schema (children_from (map tree_of l)))) c.in-Some.ensures.steps.0 in
    passed_on c.from_residual-in_err-add_alone.result c.in_err-add_alone.field-0.0 _ c.from_residual-in_err-add_alone.ensures.1 (input_refused keys schema done (tree_of c.in-Some.input) (children_from (map tree_of (into_iter_items c.next.new.self))) _ _ left c.in_err-add_alone.ensures.err)

pub loop-input-preserved : goal.loop-input-preserved
loop-input-preserved c =
    let keys = c.args.keys.now.keys in
    let schema = columns c.args.schema.now in
    let done = map plain_tree c.loop-input.expanded.items in
    let left = c.loop-input.invariant.so_far ∙ ap (λ l. behind done (spread keys schema (children_from (map tree_of l)))) c.in-Some.ensures.steps.0 in
    record {
      can = tt;
      finite = tt;
      so_far = left ∙ spread_step keys schema done _ (tree_of c.in-Some.input) (children_from (map tree_of (into_iter_items c.next.new.self))) c.in_ok-add_alone.ensures.ok;
      plain = c.in_ok-add_alone.ensures.plain ∙ c.loop-input.invariant.plain;
    }
