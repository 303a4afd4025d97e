use Rattle.std.proofs.Common.{Some, SFits, rules, w64, ap, sym, ◌∙◌}
use Rattle.std.proofs.lemmas.Int.{to_z-of_z}
use Rattle.std.specs.Option.{ok_or, option_map}
use Rattle.plan_types.specs.declared.error.ErrorKind.TheVariants.{InvalidOperation}
use Rattle.plan_types.proofs.FieldLemmas.{struct_type}
use Rattle.plan_expand.proofs.FieldLemmas.{at_number, out_of_range}
use Rattle.plan_expand.proofs.WalkLemmas.{lent_at}
use Rattle.plan_expand.proofs.fields.field_in.Goals as goal

pub returns-in_default-column_number : goal.returns-in_default-column_number
returns-in_default-column_number c =
    let fits : SFits w64 c.args.place = search rules in
    let items = c.as_slice-fields.result.now in
    out_of_range c.args.dtype.now items (struct_type c.args.dtype.now c.in-Struct.fields items c.in-Struct.is c.as_slice-fields.ensures.value) c.args.place (rw (to_z-of_z w64 c.args.place fits) at c.in_default-column_number.ensures)

pub returns-in_err-field : goal.returns-in_err-field
returns-in_err-field c =
    let fits : SFits w64 c.args.place = search rules in
    let items = c.as_slice-fields.result.now in
    let found = at_number c.args.dtype.now items (struct_type c.args.dtype.now c.in-Struct.fields items c.in-Struct.is c.as_slice-fields.ensures.value) c.args.place c.in-Some.number (option_map (λ field. field.now.name) c.get.result) (rw (to_z-of_z w64 c.args.place fits) at c.in-Some.ensures) (lent_at (λ field. field.name) items c.in-Some.number c.get.result c.get.ensures.lookup) in
    ap (λ r. ok_or (option_map (λ name. name.now) r) InvalidOperation) c.from_residual.ensures ∙ ap (λ r. ok_or (option_map (λ field. field.now.name) r) InvalidOperation) (sym c.in_err-field.was) ∙ found

pub returns : goal.returns
returns c =
    let fits : SFits w64 c.args.place = search rules in
    let items = c.as_slice-fields.result.now in
    at_number c.args.dtype.now items (struct_type c.args.dtype.now c.in-Struct.fields items c.in-Struct.is c.as_slice-fields.ensures.value) c.args.place c.in-Some.number (Some c.in_ok-field.field.now.name) (rw (to_z-of_z w64 c.args.place fits) at c.in-Some.ensures) (lent_at (λ field. field.name) items c.in-Some.number (Some c.in_ok-field.field) c.in_ok-field.ensures.lookup)
