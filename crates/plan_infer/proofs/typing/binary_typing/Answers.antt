use Rattle.std.proofs.Common.{[], ◌∷◌, arith, sym, ap, ◌∙◌, subst}
use Rattle.std.specs.Option.{option_map}
use Rattle.plan_types.proofs.ResultLemmas.{passed_on}
use Rattle.plan_types.specs.Errors.{IsRefusal, no_room}
use Rattle.plan_types.specs.Types.{ty}
use Rattle.plan_dsl.specs.Ops.{BinaryOp}
use Rattle.plan_dsl.specs.Typing.{ruled_as, some_many, types_of, typing_rule}
use Rattle.plan_dsl.specs.OperatorTypes.{operator_types}
use Rattle.plan_arena.specs.declared.arena.Node.{Node}
use Rattle.plan_arena.specs.Items.{numbers}
use Rattle.plan_infer.specs.KeptTypes.{IsKept, IsRuled, Says, typed_of, typings_at}
use Rattle.plan_infer.proofs.CommonTypeLemmas.{common_taken}
use Rattle.plan_infer.proofs.TableLemmas.{all_at}
use Rattle.plan_infer.proofs.TypingLemmas.{binary_refused, if_err, if_ok}
use Rattle.plan_infer.proofs.SignedLemmas.{first_named, two_typings}
use Rattle.plan_infer.proofs.typing.binary_typing.Goals as goal

pub get-left-requires : goal.get-left-requires
get-left-requires c = all_at (IsKept c.args.types.now) c.args.inputs.now 0 (record { 0 = 0 }) c.requires.inputs (omega (arith, c.requires.two))

pub get-right-requires : goal.get-right-requires
get-right-requires c = all_at (IsKept c.args.types.now) c.args.inputs.now 1 (record { 0 = 0 }) c.requires.inputs (omega (arith, c.requires.two))

pub returns-in-Some-clause-ok : goal.returns-in-Some-clause-ok
returns-in-Some-clause-ok c =
    let left = c.get-left.result.now in
    let right = c.get-right.result.now in
    let typed = two_typings c.args.types.now c.args.inputs.now (record { 0 = 0 }) left right c.requires.two c.get-left.ensures c.get-right.ensures in
    let found = common_taken c.args.op (ty left.dtype) (ty right.dtype) (ty c.in-Some.common) (sym c.common_integer.ensures ∙ ap (option_map ty) c.in-Some.is) in
    let pair = typed_of left ∷ typed_of right ∷ [] in
    if_ok c.widened.result _ _ (λ own says registry schema. subst (λ ts. IsRuled registry schema (BinaryOp c.args.op) ts own) (sym typed) (subst (λ taken. Says (ruled_as taken (some_many pair)) pair own) (sym found) says)) c.widened.ensures.ok

pub returns-in-Some-clause-name : goal.returns-in-Some-clause-name
returns-in-Some-clause-name c =
    if_ok c.widened.result _ _ (λ own named. ap (λ (n : Node). n.0) named ∙ first_named c.args.types.now c.args.inputs.now (record { 0 = 0 }) c.get-left.result.now c.requires.two c.get-left.ensures) c.widened.ensures.name

pub returns-in-Some-clause-err : goal.returns-in-Some-clause-err
returns-in-Some-clause-err c = if_err c.widened.result _ _ (λ error none registry schema. no_room none) c.widened.ensures.err

pub returns-in_err-taken-clause-err : goal.returns-in_err-taken-clause-err
returns-in_err-taken-clause-err c =
    let error = c.in_err-taken.field-0.0 in
    let typed = two_typings c.args.types.now c.args.inputs.now (record { 0 = 0 }) c.get-left.result.now c.get-right.result.now c.requires.two c.get-left.ensures c.get-right.ensures in
    passed_on c.from_residual.result error _ c.from_residual.ensures.1 (λ registry schema. subst (λ ts. IsRefusal (typing_rule registry schema (BinaryOp c.args.op) ts) error) (sym typed) (binary_refused registry schema c.args.op (typed_of c.get-left.result.now) (typed_of c.get-right.result.now) error c.in_err-taken.ensures.err))

pub returns-clause-ok : goal.returns-clause-ok
returns-clause-ok c = λ registry schema.
    let left = c.get-left.result.now in
    let right = c.get-right.result.now in
    let typed = two_typings c.args.types.now c.args.inputs.now (record { 0 = 0 }) left right c.requires.two c.get-left.ensures c.get-right.ensures in
    let all = typings_at c.args.types.now (numbers c.args.inputs.now) in
    subst (λ found. Says (ruled_as found (some_many all)) all c.in_ok-own.own) (sym (ap (λ ts. operator_types c.args.op (types_of ts)) typed ∙ c.in_ok-taken.ensures.ok)) c.in_ok-own.ensures.ok
