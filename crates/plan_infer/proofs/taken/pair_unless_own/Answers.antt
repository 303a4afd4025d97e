use Rattle.std.proofs.Common.{[], ◌∷◌, map, sym, ap, ◌∙◌, inr}
use Rattle.plan_types.specs.Types.{ty}
use Rattle.plan_types.specs.TypeLaws.{same_type_exact}
use Rattle.plan_infer.proofs.taken.pair_unless_own.Goals as goal

pub returns-then-eq-2-clause-ok : goal.returns-then-eq-2-clause-ok
returns-then-eq-2-clause-ok c =
    let first = ty c.args.first.now.dtype in
    let second = ty c.args.second.now.dtype in
    let one = same_type_exact first (ty c.args.left) (sym c.eq.ensures ∙ c.if-eq.true) in
    let other = same_type_exact second (ty c.args.right) (sym c.eq-then-eq.ensures ∙ c.if-eq-2.true) in
    inr (ap (map ty) c.none.ensures, ap (λ type. type ∷ second ∷ []) one ∙ ap (λ type. ty c.args.left ∷ type ∷ []) other)
