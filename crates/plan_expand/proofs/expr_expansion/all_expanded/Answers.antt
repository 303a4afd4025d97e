use Rattle.std.proofs.Common.{◌≡◌, Ok, true, map, ap, subst, sym, ◌∙◌}
use Rattle.std.specs.List.{list_all}
use Rattle.std.specs.Vec.Iter.{into_iter_items}
use Rattle.plan_types.proofs.ResultLemmas.{passed_on}
use Rattle.plan_types.specs.Schemas.{columns}
use Rattle.plan_dsl.specs.Expansion.{expansion, expansions}
use Rattle.plan_dsl.specs.Expressions.{plain_tree, tree_of}
use Rattle.plan_dsl.specs.Refusals.{joined}
use Rattle.plan_dsl.specs.Sources.{is_plain}
use Rattle.plan_expand.proofs.EachLemmas.{lists_refused, lists_more}
use Rattle.plan_expand.proofs.ExpansionLemmas.{all_plain_alone}
use Rattle.plan_expand.proofs.expr_expansion.all_expanded.Goals as goal

pub returns-then-are_plain-clause-ok : goal.returns-then-are_plain-clause-ok
returns-then-are_plain-clause-ok c =
    let are = subst (λ exprs. list_all is_plain (map tree_of exprs) ≡ true) c.as_slice.ensures.value (sym c.are_plain.ensures ∙ c.if-are_plain.true) in
    all_plain_alone c.args.keys.now.keys (columns c.args.schema.now) c.args.exprs.items are

pub returns-in_err-add_expansion-clause-err : goal.returns-in_err-add_expansion-clause-err
returns-in_err-add_expansion-clause-err c =
    let keys = c.args.keys.now.keys in
    let schema = columns c.args.schema.now in
    let done = map plain_tree c.loop-expr.expanded.items in
    let left = c.loop-expr.invariant.so_far ∙ ap (λ l. joined (Ok done) (expansions keys schema (map tree_of l))) c.in-Some.ensures.steps.0 in
    passed_on c.from_residual-in_err-add_expansion.result c.in_err-add_expansion.field-0.0 _ c.from_residual-in_err-add_expansion.ensures.1 (lists_refused (expansion keys schema) done (tree_of c.in-Some.expr) (map tree_of (into_iter_items c.next.new.self)) _ _ left c.in_err-add_expansion.ensures.err)

pub loop-expr-preserved : goal.loop-expr-preserved
loop-expr-preserved c =
    let keys = c.args.keys.now.keys in
    let schema = columns c.args.schema.now in
    let done = map plain_tree c.loop-expr.expanded.items in
    let left = c.loop-expr.invariant.so_far ∙ ap (λ l. joined (Ok done) (expansions keys schema (map tree_of l))) c.in-Some.ensures.steps.0 in
    record {
      can = tt;
      finite = tt;
      so_far = left ∙ lists_more (expansion keys schema) done _ (tree_of c.in-Some.expr) (map tree_of (into_iter_items c.next.new.self)) c.in_ok-add_expansion.ensures.ok;
      plain = c.in_ok-add_expansion.ensures.plain ∙ c.loop-expr.invariant.plain;
    }
