use Rattle.std.proofs.Common.{◌∙◌, Some, sym, ap}
use Rattle.std.proofs.lemmas.Int.{to_z-of_z}
use Rattle.std.specs.Int.{w128}
use Rattle.plan_types.specs.Casts.{number_in}
use Rattle.plan_types.proofs.DigitLemmas.{read_number, read_fits, no_number_read, text_bytes}
use Rattle.plan_types.proofs.cast.number_in.Goals as goal

pub returns-in-Ok : goal.returns-in-Ok
returns-in-Ok c =
    let bytes = c.as_str.result.now in
    let fits = read_fits bytes c.parse.result c.in-Ok.number c.parse.ensures.value.0 c.in-Ok.is in
    ap number_in (text_bytes bytes _ c.as_str.utf8 c.as_str.ensures) ∙ read_number bytes c.parse.result c.in-Ok.number c.parse.ensures.value.0 c.in-Ok.is ∙ ap Some (sym (to_z-of_z w128 c.in-Ok.number fits))

pub returns-in-Err : goal.returns-in-Err
returns-in-Err c =
    let bytes = c.as_str.result.now in
    let same = text_bytes bytes _ c.as_str.utf8 c.as_str.ensures in
    λ number e. no_number_read bytes c.parse.result c.in-Err.field-0 c.parse.ensures.value.0 c.in-Err.is number (sym (ap number_in same) ∙ e)
