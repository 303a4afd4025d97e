use Rattle.std.proofs.Common.{arith, ◌∙◌}
use Rattle.plan_types.proofs.ResultLemmas.{passed_on}
use Rattle.plan_types.specs.Errors.{broken}
use Rattle.plan_types.specs.declared.error.ErrorKind.TheVariants.{SchemaMismatch}
use Rattle.plan_arena.specs.Items.{numbers}
use Rattle.plan_infer.specs.KeptTypes.{IsKept, typed_of, typings_at}
use Rattle.plan_infer.proofs.TableLemmas.{all_at}
use Rattle.plan_infer.proofs.TypingLemmas.{refused_so}
use Rattle.plan_infer.proofs.SignedLemmas.{both_there, none_common, typing_there}
use Rattle.plan_infer.proofs.signed.common_dtype.Goals as goal

pub returns-then-inputs-place-clause-err : goal.returns-then-inputs-place-clause-err
returns-then-inputs-place-clause-err c = broken SchemaMismatch c.at_top.ensures (none_common c.args.types.now c.args.inputs.now c.args.place (omega (arith, c.if-inputs-place.true)))

pub get-first-requires : goal.get-first-requires
get-first-requires c = all_at (IsKept c.args.types.now) c.args.inputs.now 0 (record { 0 = 0 }) c.requires.inputs (omega (arith, c.if-inputs-place.false))

pub get-other-requires : goal.get-other-requires
get-other-requires c = all_at (IsKept c.args.types.now) c.args.inputs.now c.args.place (record { 0 = 0 }) c.requires.inputs (omega (arith, c.if-inputs-place.false))

pub returns-in_err-shared-clause-err : goal.returns-in_err-shared-clause-err
returns-in_err-shared-clause-err c =
    let typed = typings_at c.args.types.now (numbers c.args.inputs.now) in
    let first = typing_there c.args.types.now c.args.inputs.now 0 (record { 0 = 0 }) c.get-first.result.now (omega (arith, c.if-inputs-place.false)) c.get-first.ensures in
    let other = typing_there c.args.types.now c.args.inputs.now c.args.place (record { 0 = 0 }) c.get-other.result.now (omega (arith, c.if-inputs-place.false)) c.get-other.ensures in
    let both = both_there typed c.args.place (typed_of c.get-first.result.now) (typed_of c.get-other.result.now) first other in
    passed_on c.from_residual.result c.in_err-shared.field-0.0 _ c.from_residual.ensures.1 (refused_so _ _ _ (λ kind e. both ∙ e) c.in_err-shared.ensures.err)

pub returns-clause-ok : goal.returns-clause-ok
returns-clause-ok c =
    let typed = typings_at c.args.types.now (numbers c.args.inputs.now) in
    let first = typing_there c.args.types.now c.args.inputs.now 0 (record { 0 = 0 }) c.get-first.result.now (omega (arith, c.if-inputs-place.false)) c.get-first.ensures in
    let other = typing_there c.args.types.now c.args.inputs.now c.args.place (record { 0 = 0 }) c.get-other.result.now (omega (arith, c.if-inputs-place.false)) c.get-other.ensures in
    both_there typed c.args.place (typed_of c.get-first.result.now) (typed_of c.get-other.result.now) first other ∙ c.in_ok-shared.ensures.ok
