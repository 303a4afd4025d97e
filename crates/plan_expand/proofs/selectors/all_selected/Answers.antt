use Rattle.std.proofs.Common.{◌≡◌, ◌+◌, Ok, map, drop, sym, ap, ◌∙◌, subst, arith}
use Rattle.plan_types.specs.Errors.{IsRefusal}
use Rattle.plan_types.specs.Schemas.{columns}
use Rattle.plan_types.proofs.ListLemmas.{drop_item}
use Rattle.plan_types.proofs.ResultLemmas.{passed_on}
use Rattle.plan_dsl.specs.Expressions.{selector_tree}
use Rattle.plan_dsl.specs.Markers.{selector_names}
use Rattle.plan_expand.specs.Names.{selected}
use Rattle.plan_expand.proofs.NameLemmas.{gathered, gathered_start, gathered_step, gathered_refused}
use Rattle.plan_expand.proofs.selectors.all_selected.Goals as goal

pub loop-selector-init : goal.loop-selector-init
loop-selector-init c =
    let schema = columns c.args.schema.now in
    let items = map selector_tree c.args.selectors.now in
    gathered_start schema items ∙ ap (λ l. gathered schema l items) (sym c.new-names.ensures.empty)

pub returns-in_err-more-clause-err : goal.returns-in_err-more-clause-err
returns-in_err-more-clause-err c =
    let schema = columns c.args.schema.now in
    let items = c.args.selectors.now in
    let index = c.loop-selector.selector-index in
    let item = c.selector-item.result in
    let left = c.loop-selector.invariant ∙ ap (λ l. gathered schema c.loop-selector.names.keys (map selector_tree l)) (drop_item items index (index + 1) item c.loop-selector-test.true c.selector-item.is (omega arith)) in
    let refused = subst (λ keys. IsRefusal (selector_names keys schema (selector_tree item)) c.in_err-more.field-0.0) c.requires c.in_err-more.ensures.err in
    passed_on c.from_residual.result c.in_err-more.field-0.0 _ c.from_residual.ensures.1 (gathered_refused schema c.loop-selector.names.keys (selector_tree item) (map selector_tree (drop (index + 1) items)) _ _ left refused)

pub loop-selector-preserved : goal.loop-selector-preserved
loop-selector-preserved c =
    let schema = columns c.args.schema.now in
    let names = c.loop-selector.names.keys in
    let items = c.args.selectors.now in
    let index = c.loop-selector.selector-index in
    let item = c.selector-item.result in
    let rest = map selector_tree (drop (index + 1) items) in
    let left = c.loop-selector.invariant ∙ ap (λ l. gathered schema names (map selector_tree l)) (drop_item items index (index + 1) item c.loop-selector-test.true c.selector-item.is (omega arith)) in
    let found = subst (λ keys. selected keys schema (selector_tree item) ≡ Ok c.in_ok-more.more.keys) c.requires c.in_ok-more.ensures.ok in
    left ∙ gathered_step schema names (selector_tree item) rest c.in_ok-more.more.keys found ∙ ap (λ l. gathered schema l rest) (sym c.in_ok-append.ensures.keys)
