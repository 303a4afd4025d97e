use Rattle.std.proofs.Common.{List, ap, ◌∙◌, get_or, map}
use Rattle.plan_types.proofs.ResultLemmas.{passed_on}
use Rattle.plan_types.specs.Errors.{broken}
use Rattle.plan_types.specs.Types.{NullType, ty}
use Rattle.plan_types.specs.declared.dtype.DataType.{DataType}
use Rattle.plan_dsl.specs.Signatures.{own_type}
use Rattle.plan_dsl.specs.Typing.{signed}
use Rattle.plan_arena.specs.Items.{numbers}
use Rattle.plan_infer.specs.KeptTypes.{typings_at}
use Rattle.plan_infer.proofs.SignedLemmas.{as_many_targets, shared_refused, signed_refused, signed_says}
use Rattle.plan_infer.proofs.signed.signed_typing.Goals as goal

pub returns-in-Err-clause-err : goal.returns-in-Err-clause-err
returns-in-Err-clause-err c = broken c.in-Err.kind c.at_top.ensures (ap (λ found. signed found (typings_at c.args.types.now (numbers c.args.inputs.now))) c.in-Err.is)

pub returns-in_err-shared-clause-err : goal.returns-in_err-shared-clause-err
returns-in_err-shared-clause-err c =
    passed_on c.from_residual.result c.in_err-shared.field-0.0 _ c.from_residual.ensures.1 (shared_refused c.args.found c.in-Ok.signature (typings_at c.args.types.now (numbers c.args.inputs.now)) _ c.in-Ok.is c.in_err-shared.ensures.err)

pub returns-in_err-targets-clause-err : goal.returns-in_err-targets-clause-err
returns-in_err-targets-clause-err c =
    passed_on c.from_residual-in_err-targets.result c.in_err-targets.field-0.0 _ c.from_residual-in_err-targets.ensures.1 (signed_refused c.args.found c.in-Ok.signature (typings_at c.args.types.now (numbers c.args.inputs.now)) (ty c.in_ok-shared.shared) _ c.in-Ok.is c.in_ok-shared.ensures.ok c.in_err-targets.ensures.err)

pub unless_own-requires-clause-targets : goal.unless_own-requires-clause-targets
unless_own-requires-clause-targets c = as_many_targets c.in-Ok.signature c.args.types.now c.args.inputs.now (ty c.in_ok-shared.shared) c.in_ok-targets.targets.items c.in_ok-shared.ensures.ok c.in_ok-targets.ensures.ok

pub returns-clause-ok : goal.returns-clause-ok
returns-clause-ok c =
    signed_says c.args.found c.in-Ok.signature (typings_at c.args.types.now (numbers c.args.inputs.now)) (ty c.in_ok-shared.shared) (map ty c.in_ok-targets.targets.items) _ c.in-Ok.is c.in_ok-shared.ensures.ok c.in_ok-targets.ensures.ok (c.in_ok-dtype.ensures.ok ∙ ap (own_type c.in-Ok.signature.own) (c.in_ok-first.ensures.ok ∙ ap (λ (types : List DataType). get_or (map ty types) 0 NullType) c.as_slice.ensures.value)) c.is_many.ensures c.unless_own.ensures
