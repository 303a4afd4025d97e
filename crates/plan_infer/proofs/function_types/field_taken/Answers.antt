use Rattle.std.proofs.Common.{Some, sym, ◌∙◌}
use Rattle.plan_types.proofs.FieldLemmas.{struct_type}
use Rattle.plan_types.proofs.ResultLemmas.{passed_on}
use Rattle.plan_types.specs.Errors.{broken}
use Rattle.plan_types.specs.Types.{fields_in, ty}
use Rattle.plan_types.specs.declared.error.ErrorKind.TheVariants.{InvalidOperation}
use Rattle.plan_infer.proofs.FunctionTypeLemmas.{in_struct, no_struct, no_such_field, unknown_struct}
use Rattle.plan_infer.proofs.function_types.field_taken.Goals as goal

pub returns-in_default : goal.returns-in_default
returns-in_default c = record { ok = tt; err = broken InvalidOperation c.at_top.ensures (no_struct c.args.name.now c.args.from.now c.in_default.not-Struct) }

pub returns-then-not-is_known-clause-err : goal.returns-then-not-is_known-clause-err
returns-then-not-is_known-clause-err c =
    broken InvalidOperation c.at_top-then-not-is_known.ensures (unknown_struct c.args.name.now c.args.from.now c.in-Struct.fields c.in-Struct.is (sym c.is_known.ensures ∙ c.if-not-is_known.true))

pub returns-in_err-dtype-clause-err : goal.returns-in_err-dtype-clause-err
returns-in_err-dtype-clause-err c =
    let struct = struct_type c.args.from.now c.in-Struct.fields c.as_slice.result.now c.in-Struct.is c.as_slice.ensures.value in
    passed_on c.from_residual.result c.in_err-dtype.field-0.0 _ c.from_residual.ensures.1 (no_such_field c.args.name.now (ty c.args.from.now) (fields_in c.as_slice.result.now) _ struct (sym c.is_known.ensures ∙ c.if-not-is_known.false) c.in_err-dtype.ensures.err)

pub returns-clause-ok : goal.returns-clause-ok
returns-clause-ok c =
    let struct = struct_type c.args.from.now c.in-Struct.fields c.as_slice.result.now c.in-Struct.is c.as_slice.ensures.value in
    in_struct c.args.name.now (ty c.args.from.now) (fields_in c.as_slice.result.now) (Some (ty c.in_ok-dtype.dtype)) struct (sym c.is_known.ensures ∙ c.if-not-is_known.false) c.in_ok-dtype.ensures.ok
