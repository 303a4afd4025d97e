use Rattle.std.proofs.Common.{◌∷◌, [], map, ap, ◌∙◌, arith}
use Rattle.std.proofs.lemmas.List.{map-append}
use Rattle.plan_types.specs.Types.{ty}
use Rattle.plan_types.proofs.ResultLemmas.{passed_on}
use Rattle.plan_types.proofs.SchemaPairLemmas.{merging_step, stuck_refused, type_there}
use Rattle.plan_types.proofs.schema.Schema.common_types.Goals as goal

pub returns-in_err-common-clause-err : goal.returns-in_err-common-clause-err
returns-in_err-common-clause-err c =
    let n = c.loop-number.number in
    let left = type_there c.args.self.now.fields.entries n c.index-left.result.now c.index-left.ensures in
    let right = type_there c.args.other.now.fields.entries n c.index-right.result.now c.index-right.ensures in
    passed_on c.from_residual.result c.in_err-common.field-0.0 _ c.from_residual.ensures.1 (stuck_refused _ _ (map ty c.loop-number.types.items) n _ _ _ left right c.loop-number.invariant c.in_err-common.ensures.err)

pub loop-number-preserved : goal.loop-number-preserved
loop-number-preserved c =
    let n = c.loop-number.number in
    let left = type_there c.args.self.now.fields.entries n c.index-left.result.now c.index-left.ensures in
    let right = type_there c.args.other.now.fields.entries n c.index-right.result.now c.index-right.ensures in
    let grown = ap (map ty) c.in_ok-push.ensures.items ∙ map-append ty c.loop-number.types.items (c.in_ok-common.common ∷ []) in
    merging_step _ _ (map ty c.loop-number.types.items) _ n _ _ _ (ty c.in_ok-common.common) left right c.in_ok-common.ensures.ok (omega arith) grown c.loop-number.invariant
