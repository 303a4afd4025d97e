use Rattle.std.proofs.Common.{sym, ◌∙◌}
use Rattle.plan_types.specs.Types.{ty}
use Rattle.plan_types.specs.declared.error.ErrorKind.TheVariants.{InvalidOperation, SchemaMismatch}
use Rattle.plan_infer.proofs.TimeTypeLemmas.{factor_refused, factor_taken, no_factor, wide_factor}
use Rattle.plan_infer.proofs.operator_types.times.check_factor.Goals as goal

pub returns-then-not-is_integer-clause-err : goal.returns-then-not-is_integer-clause-err
returns-then-not-is_integer-clause-err c =
    let factor = ty c.args.factor.now in
    λ unit. factor_refused factor unit InvalidOperation _ c.at_top.ensures (no_factor factor unit (sym c.is_integer.ensures ∙ c.if-not-is_integer.true))

pub returns-in-UInt64-clause-err : goal.returns-in-UInt64-clause-err
returns-in-UInt64-clause-err c = λ unit. factor_refused (ty c.args.factor.now) unit SchemaMismatch _ c.at_top-in-UInt64.ensures (wide_factor c.args.factor.now unit c.in-UInt64.is)

pub returns-in_default-clause-ok : goal.returns-in_default-clause-ok
returns-in_default-clause-ok c = λ unit. factor_taken c.args.factor.now unit (sym c.is_integer.ensures ∙ c.if-not-is_integer.false) c.in_default.not-UInt64
