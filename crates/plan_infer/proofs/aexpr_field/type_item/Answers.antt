use Rattle.std.proofs.Common.{◌+◌, take, sym, ap, ◌∙◌, subst, arith}
use Rattle.std.specs.List.{AllByRecursion}
use Rattle.plan_types.specs.Schemas.{columns}
use Rattle.plan_types.proofs.ResultLemmas.{passed_on}
use Rattle.plan_dsl.specs.Registry.{registry}
use Rattle.plan_arena.specs.Denotation.{DenotesTree}
use Rattle.plan_arena.specs.Items.{HoldsExpression, expression_layer, numbers}
use Rattle.plan_arena.proofs.NumberLemmas.{all_weaker}
use Rattle.plan_infer.specs.KeptTypes.{IsKept}
use Rattle.plan_infer.proofs.ItemTreeLemmas.{refused_input, refused_item, ruled_item}
use Rattle.plan_infer.proofs.TableLemmas.{all_at, all_taken, all_whole, still_kept}
use Rattle.plan_infer.proofs.aexpr_field.type_item.Goals as goal

pub infer-requires-clause-tree : goal.infer-requires-clause-tree
infer-requires-clause-tree c =
    let holds = HoldsExpression c.args.arena.now in
    let listed = ap numbers c.as_slice-inputs.ensures ∙ c.in_ok-nodes.ensures.ok in
    all_at (DenotesTree holds) c.as_slice-inputs.result.now c.loop-index.index (record { 0 = 0 }) (subst (AllByRecursion (DenotesTree holds)) (sym listed) c.requires.operands) c.loop-index-test.true

pub returns-in_err-infer-clause-err : goal.returns-in_err-infer-clause-err
returns-in_err-infer-clause-err c =
    let error = c.in_err-infer.field-0.0 in
    let handed = c.from_residual-in_err-infer in
    let listed = ap numbers c.as_slice-inputs.ensures ∙ c.in_ok-nodes.ensures.ok in
    let before = c.loop-index.invariant in
    passed_on handed.result error _ handed.ensures.1 (refused_input (registry c.args.udfs.now) (columns c.args.schema.now) c.args.arena.now c.loop-index.types before.right (expression_layer c.args.item.now) error c.as_slice-inputs.result.now c.loop-index.index (record { 0 = 0 }) listed before.kept c.loop-index-test.true c.in_err-infer.ensures.err)

pub loop-index-preserved : goal.loop-index-preserved
loop-index-preserved c =
    let ns = c.as_slice-inputs.result.now in
    let old = c.loop-index.types in
    let new = c.infer.new.self in
    let one = c.in_ok-infer.ensures in
    record {
      right = one.right;
      kept = all_taken (IsKept new) ns c.loop-index.index (c.loop-index.index + 1) (record { 0 = 0 }) (omega arith) (all_weaker (IsKept old) (IsKept new) (still_kept old new one.extends) (numbers (take c.loop-index.index ns)) c.loop-index.invariant.kept) c.loop-index-test.true one.kept;
    }

pub returns-in_err-own-clause-err : goal.returns-in_err-own-clause-err
returns-in_err-own-clause-err c =
    let error = c.in_err-own.field-0.0 in
    let handed = c.from_residual-in_err-own in
    let ns = c.as_slice-inputs.result.now in
    let mid = c.loop-index.types in
    let listed = ap numbers c.as_slice-inputs.ensures ∙ c.in_ok-nodes.ensures.ok in
    let known = all_whole (IsKept mid) ns c.loop-index.index (omega (arith, c.loop-index-test.false, c.loop-index.auto.index-end)) c.loop-index.invariant.kept in
    passed_on handed.result error _ handed.ensures.1 (refused_item (registry c.args.udfs.now) (columns c.args.schema.now) c.args.arena.now mid c.loop-index.invariant.right (expression_layer c.args.item.now) (numbers ns) listed known error c.in_err-own.ensures.err)

pub returns-clause-ok : goal.returns-clause-ok
returns-clause-ok c =
    let ns = c.as_slice-inputs.result.now in
    let mid = c.loop-index.types in
    let listed = ap numbers c.as_slice-inputs.ensures ∙ c.in_ok-nodes.ensures.ok in
    let known = all_whole (IsKept mid) ns c.loop-index.index (omega (arith, c.loop-index-test.false, c.loop-index.auto.index-end)) c.loop-index.invariant.kept in
    ruled_item (registry c.args.udfs.now) (columns c.args.schema.now) c.args.arena.now mid c.loop-index.invariant.right (expression_layer c.args.item.now) (numbers ns) listed known c.in_ok-own.own c.in_ok-own.ensures.ok
