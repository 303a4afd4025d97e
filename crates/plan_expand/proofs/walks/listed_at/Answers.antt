use Rattle.std.proofs.Common.{◌-◌, map, slice_get, ap, sym, ◌∙◌, arith}
use Rattle.plan_dsl.specs.Expressions.{tree_of, trees_of}
use Rattle.plan_expand.proofs.WalkLemmas.{behind_first, lent_at}
use Rattle.plan_expand.proofs.walks.listed_at.Goals as goal

pub returns-else-place-eq0 : goal.returns-else-place-eq0
returns-else-place-eq0 c =
    let before = c.args.place - 1 in
    lent_at tree_of c.as_slice.result.now before c.get.result c.get.ensures.lookup ∙ ap (λ l. slice_get (map tree_of l) before) c.as_slice.ensures.value
    ∙ sym (behind_first (tree_of c.args.first.now) (trees_of c.args.others.now) c.args.place (omega (arith, c.if-place-eq0.false)))
