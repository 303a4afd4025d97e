-- What is said of a node by its op, and by the names and typings of its inputs, stays as inputs are put in place.
use Rattle.std.specs.Prelude.{◌≡◌, Bool, ◌∷◌}
use Rattle.std.proofs.Common.{refl, ap, ◌∙◌}
use Rattle.plan_types.specs.Schemas.{Columns}
use Rattle.plan_dsl.specs.Registry.{Registry}
use Rattle.plan_dsl.specs.Names.{label_of, op_label}
use Rattle.plan_dsl.specs.Ops.{Op, Expression}
use Rattle.plan_dsl.specs.Trees.{Trees, no_more, more, fold_all, AllRelated}
use Rattle.plan_dsl.specs.Typing.{typing, typing_all, typed_before}
use Rattle.plan_coerce.specs.Rules.{Inputs, IsLike, IsSteady, said, seen}

module _ (related : Expression → Expression → Type 0) (registry : Registry) (schema : Columns) where
  pub like_typings : (ts us : Trees Op) → AllRelated (IsLike related registry schema) ts us → typing_all registry schema us ≡ typing_all registry schema ts
  like_typings no_more no_more h = refl
  like_typings (more t ts) (more u us) h =
      ap (λ r. typed_before r (typing_all registry schema us)) h.0.same.typing ∙ ap (typed_before (typing registry schema t)) (like_typings ts us h.1)
  like_typings no_more (more u us) h = absurd h
  like_typings (more t ts) no_more h = absurd h

  pub like_labels : (ts us : Trees Op) → AllRelated (IsLike related registry schema) ts us → fold_all op_label us ≡ fold_all op_label ts
  like_labels no_more no_more h = refl
  like_labels (more t ts) (more u us) h = ap (λ x. x ∷ fold_all op_label us) h.0.same.name ∙ ap (λ l. label_of t ∷ l) (like_labels ts us h.1)
  like_labels no_more (more u us) h = absurd h
  like_labels (more t ts) no_more h = absurd h

  -- inputs that are like are seen as the same
  seen_same : (ts us : Trees Op) → AllRelated (IsLike related registry schema) ts us → seen registry schema us ≡ seen registry schema ts
  seen_same ts us h =
      ap (λ labels. record { labels = labels; typings = typing_all registry schema us }) (like_labels ts us h)
      ∙ ap (λ typings. record { labels = fold_all op_label ts; typings = typings }) (like_typings ts us h)

-- so a rule that goes by these alone is steady, whatever else it keeps
pub said_steady : (says : Op → Inputs → Bool) (related : Expression → Expression → Type 0) (registry : Registry) (schema : Columns) → IsSteady (said says registry schema) related registry schema
said_steady says related registry schema op before after h = ap (says op) (seen_same related registry schema before after h)
