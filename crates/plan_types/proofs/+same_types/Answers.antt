use Rattle.std.proofs.Common.{◌+◌, ◌&&◌, drop, sym, ap, ◌∙◌}
use Rattle.plan_types.specs.Types.{fields_in, same_fields}
use Rattle.plan_types.proofs.FieldLemmas.{fields_apart, pair_compared}
use Rattle.plan_types.proofs.+same_types.Goals as goal

pub dtype::same_fields-returns-then-left-right : goal.dtype::same_fields-returns-then-left-right
dtype::same_fields-returns-then-left-right t c = fields_apart c.args.left.now c.args.right.now c.if-left-right.true

pub dtype::same_fields-returns-then-not-is_same : goal.dtype::same_fields-returns-then-not-is_same
dtype::same_fields-returns-then-not-is_same t c =
    let after = same_fields (fields_in (drop (c.loop-index.index + 1) c.args.left.now)) (fields_in (drop (c.loop-index.index + 1) c.args.right.now)) in
    sym (pair_compared c.args.left.now c.args.right.now c.loop-index.index c.index-left-index.result c.index-right-index.result c.is_same.result c.loop-index-test.true c.if-left-right.false c.index-left-index.is c.index-right-index.is c.is_same.ensures c.loop-index.invariant ∙ ap (λ b. b && after) c.if-not-is_same.true)

pub dtype::same_fields-loop-index-preserved : goal.dtype::same_fields-loop-index-preserved
dtype::same_fields-loop-index-preserved t c =
    let after = same_fields (fields_in (drop (c.loop-index.index + 1) c.args.left.now)) (fields_in (drop (c.loop-index.index + 1) c.args.right.now)) in
    pair_compared c.args.left.now c.args.right.now c.loop-index.index c.index-left-index.result c.index-right-index.result c.is_same.result c.loop-index-test.true c.if-left-right.false c.index-left-index.is c.index-right-index.is c.is_same.ensures c.loop-index.invariant ∙ ap (λ b. b && after) c.if-not-is_same.false
