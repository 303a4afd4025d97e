use Rattle.plan_json.proofs.Names.{Some, ap, slice_index, sym, ◌==◌, ◌∙◌, w128, to_z-of_z, read_fits}
use Rattle.plan_json.proofs.LiteralLemmas.{written, unwritten}
use Rattle.plan_json.proofs.literal.number_written.Goals as goal

pub returns-in-Ok : goal.returns-in-Ok
returns-in-Ok c =
    let bytes = c.args.text.now in
    let plain = ap (λ bs. slice_index bs 0 == 43) (sym c.as_bytes.ensures.value) ∙ sym c.starts_with_plus.ensures ∙ c.if-starts_with_plus.false in
    let fits = read_fits bytes c.parse.result c.in-Ok.number c.parse.ensures.value.0 c.in-Ok.is in
    written bytes c.parse.result c.in-Ok.number c.parse.ensures.value.0 c.in-Ok.is plain ∙ ap Some (sym (to_z-of_z w128 c.in-Ok.number fits))

pub returns-in-Err : goal.returns-in-Err
returns-in-Err c =
    unwritten c.args.text.now c.parse.result c.in-Err.field-0 c.parse.ensures.value.0 c.in-Err.is
    (ap (λ bs. slice_index bs 0 == 43) (sym c.as_bytes.ensures.value) ∙ sym c.starts_with_plus.ensures ∙ c.if-starts_with_plus.false)
