use Rattle.std.proofs.Common.{sym, arith, subst, Ok}
use Rattle.plan_types.specs.Types.{ty}
use Rattle.plan_dsl.specs.OperatorTypes.{pair_to}
use Rattle.plan_dsl.specs.Typing.{ruled_as, some_many}
use Rattle.plan_infer.specs.declared.type_table.Inferred.{Inferred}
use Rattle.plan_infer.specs.KeptTypes.{IsKept, Says, typed_of}
use Rattle.plan_infer.proofs.TableLemmas.{all_at}
use Rattle.plan_infer.proofs.TypingLemmas.{pair_says}
use Rattle.plan_infer.proofs.SignedLemmas.{two_typings}
use Rattle.plan_infer.proofs.taken.taken_typing.Goals as goal

pub get-first-requires : goal.get-first-requires
get-first-requires c = all_at (IsKept c.args.types.now) c.args.inputs.now 0 (record { 0 = 0 }) c.requires.inputs (omega (arith, c.requires.two))

pub get-second-requires : goal.get-second-requires
get-second-requires c = all_at (IsKept c.args.types.now) c.args.inputs.now 1 (record { 0 = 0 }) c.requires.inputs (omega (arith, c.requires.two))

pub returns-clause-ok : goal.returns-clause-ok
returns-clause-ok c =
    let taken = c.args.taken in
    let first = c.get-first.result.now in
    let second = c.get-second.result.now in
    let typed = two_typings c.args.types.now c.args.inputs.now (record { 0 = 0 }) first second c.requires.two c.get-first.ensures c.get-second.ensures in
    let own : Inferred = record { name = c.args.name; dtype = taken.result; many = c.either_many.result; operands = c.in_ok-operands.operands } in
    subst (λ ts. Says (ruled_as (Ok (pair_to (ty taken.left) (ty taken.right) (ty taken.result))) (some_many ts)) ts own) (sym typed) (pair_says (typed_of first) (typed_of second) own (ty taken.left) (ty taken.right) c.either_many.ensures c.in_ok-operands.ensures.ok)
