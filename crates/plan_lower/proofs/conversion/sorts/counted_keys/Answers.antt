use Rattle.std.proofs.Common.{[], ◌++◌, Ok, map, ap, subst, sym, ◌∙◌, arith}
use Rattle.std.specs.Vec.Iter.{into_iter_items}
use Rattle.plan_types.proofs.ResultLemmas.{passed_on}
use Rattle.plan_types.specs.Schemas.{columns}
use Rattle.plan_dsl.specs.Expansion.{expansion, expansions}
use Rattle.plan_dsl.specs.Expressions.{plain_tree, tree_of}
use Rattle.plan_dsl.specs.Refusals.{joined}
use Rattle.plan_expand.proofs.EachLemmas.{lists_more, lists_refused}
use Rattle.plan_expand.proofs.ExpansionLemmas.{added_plain, made_behind}
use Rattle.plan_expand.specs.Refusals.{IsUnexpanded}
use Rattle.plan_dsl.specs.SortFlags.{key_counts}
use Rattle.plan_lower.proofs.SortLemmas.{counted_more, one_found, one_refused}
use Rattle.plan_lower.proofs.conversion.sorts.counted_keys.Goals as goal

pub returns-in_err-more-clause-err : goal.returns-in_err-more-clause-err
returns-in_err-more-clause-err c =
    let schema = columns c.args.schema.now in
    let done = map plain_tree c.loop-expr.keys.items in
    let left = c.loop-expr.invariant.so_far ∙ ap (λ l. joined (Ok done) (expansions [] schema (map tree_of l))) c.in-Some.ensures.steps.0 in
    let alone = subst (λ es. IsUnexpanded (expansions [] schema (map tree_of es)) c.in_err-more.field-0.0) c.in_ok-items.ensures.items c.in_err-more.ensures.err in
    passed_on c.from_residual-in_err-more.result c.in_err-more.field-0.0 _ c.from_residual-in_err-more.ensures.1 (lists_refused (expansion [] schema) done (tree_of c.in-Some.expr) (map tree_of (into_iter_items c.next.new.self)) _ _ left (one_refused _ _ alone))

pub loop-expr-preserved : goal.loop-expr-preserved
loop-expr-preserved c =
    let schema = columns c.args.schema.now in
    let more = c.in_ok-more in
    let done = map plain_tree c.loop-expr.keys.items in
    let rest = map tree_of (into_iter_items c.next.new.self) in
    let left = c.loop-expr.invariant.so_far ∙ ap (λ l. joined (Ok done) (expansions [] schema (map tree_of l))) c.in-Some.ensures.steps.0 in
    let counted = c.loop-expr.invariant.counts ∙ ap (λ l. c.loop-expr.counts.items ++ key_counts schema (map tree_of l)) c.in-Some.ensures.steps.0 in
    let found = one_found (expansion [] schema (tree_of c.in-Some.expr)) _ (sym (ap (λ es. expansions [] schema (map tree_of es)) c.in_ok-items.ensures.items) ∙ more.ensures.ok.trees) in
    record {
      can = tt;
      finite = tt;
      so_far = left ∙ lists_more (expansion [] schema) done _ (tree_of c.in-Some.expr) rest (made_behind c.loop-expr.keys.items more.more.items.items _ _ found c.in_ok-append.ensures.items);
      plain = added_plain c.loop-expr.keys.items more.more.items.items _ c.in_ok-append.ensures.items more.ensures.ok.plain ∙ c.loop-expr.invariant.plain;
      counts = counted_more schema _ c.loop-expr.counts.items _ (tree_of c.in-Some.expr) rest more.more.items.items c.len-count.result counted found (omega (arith, c.len-count.ensures)) c.in_ok-push.ensures.items;
    }
