use Rattle.std.proofs.Common.{SFits, w64, rules, [], ◌∷◌, None, ap, sym, ◌∙◌}
use Rattle.std.proofs.lemmas.Int.{to_z-of_z}
use Rattle.plan_dsl.specs.Plans.{SliceWork, over_op}
use Rattle.plan_arena.specs.Layers.{layer}
use Rattle.plan_lower.specs.Steps.{plain_work}
use Rattle.plan_lower.proofs.conversion.plain_nodes.plain_item.Goals as goal

pub returns-in-Slice-clause-layer : goal.returns-in-Slice-clause-layer
returns-in-Slice-clause-layer c =
    let fits : SFits w64 c.in-Slice.offset = search rules in
    ap (λ z. layer (over_op (SliceWork z c.in-Slice.len) [] None) (c.args.input.0 ∷ [])) (to_z-of_z w64 c.in-Slice.offset fits) ∙ ap (λ p. layer (over_op (plain_work p) [] None) (c.args.input.0 ∷ [])) (sym c.in-Slice.is)
