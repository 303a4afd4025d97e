use Rattle.std.proofs.Common.{not, ◌&&◌, sym, ap, ◌∙◌}
use Rattle.plan_types.specs.Schemas.{is_among}
use Rattle.plan_expand.proofs.MarkerLemmas.{any_flipped}
use Rattle.plan_expand.proofs.markers.is_wanted.Goals as goal

pub returns-then-contains : goal.returns-then-contains
returns-then-contains c =
    let key = not (is_among c.args.name.now c.args.keys.now.keys) in
    ap not c.contains-then-contains.ensures ∙ ap (λ b. b && key) (sym c.if-contains.true ∙ c.contains.ensures.value ∙ any_flipped c.args.dtype.now c.args.types.now)

pub returns-else-contains : goal.returns-else-contains
returns-else-contains c =
    let key = not (is_among c.args.name.now c.args.keys.now.keys) in
    c.if-contains.false ∙ ap (λ b. b && key) (sym c.if-contains.false ∙ c.contains.ensures.value ∙ any_flipped c.args.dtype.now c.args.types.now)
