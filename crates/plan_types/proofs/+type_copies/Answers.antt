use Rattle.std.proofs.Common.{arith}
use Rattle.plan_types.proofs.FieldLemmas.{copied_fields}
use Rattle.plan_types.proofs.+type_copies.Goals as goal

pub dtype::Fields::try_clone-returns-clause-ok : goal.dtype::Fields::try_clone-returns-clause-ok
dtype::Fields::try_clone-returns-clause-ok t c =
    copied_fields c.loop-field.items c.args.self.now c.loop-field.field-index c.as_slice-field-items.result.now c.as_slice-field-items.ensures.value (omega (arith, c.loop-field-test.false)) c.loop-field.invariant
