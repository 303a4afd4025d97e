use Rattle.std.proofs.Common.{refl, [], ◌∷◌}
use Rattle.std.proofs.lemmas.List.Elements.{Contains-push}
use Rattle.plan_types.specs.declared.error.ErrorKind.TheVariants.{ColumnNotFound, InvalidOperation}
use Rattle.plan_expand.specs.Refusals.{no_room, unexpanded}
use Rattle.plan_expand.proofs.examples.refusals_of_selectors.Goals as goal

pub returns : goal.returns
returns c = record {
  memory = (no_room refl, no_room refl);
  told = unexpanded (ColumnNotFound ∷ InvalidOperation ∷ []) InvalidOperation refl refl (Contains-push (ColumnNotFound ∷ []) InvalidOperation);
}
