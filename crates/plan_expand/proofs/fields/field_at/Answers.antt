use Rattle.std.proofs.Common.{SFits, rules, w64, sym, ap, ◌∙◌}
use Rattle.std.proofs.lemmas.Int.{to_z-of_z}
use Rattle.plan_types.specs.Errors.{broken}
use Rattle.plan_types.specs.declared.error.ErrorKind.TheVariants.{ColumnNotFound, InvalidOperation}
use Rattle.plan_dsl.specs.Expansion.{field_at}
use Rattle.plan_expand.proofs.fields.field_at.Goals as goal

pub returns-in_default-clause-err : goal.returns-in_default-clause-err
returns-in_default-clause-err c = broken ColumnNotFound c.at_top.ensures (ap (λ type. field_at type c.args.place) (sym c.in_default.ensures))

pub returns-in_default-field_in-clause-err : goal.returns-in_default-field_in-clause-err
returns-in_default-field_in-clause-err c =
    let fits : SFits w64 c.args.place = search rules in
    broken InvalidOperation c.at_top-in_default-field_in.ensures (ap (λ type. field_at type c.args.place) (sym c.in-Some.ensures) ∙ sym (rw (to_z-of_z w64 c.args.place fits) at c.in_default-field_in.ensures))
