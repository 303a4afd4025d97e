-- Expressions that say the same: a node depends on its children by type, name and meaning alone.
use Rattle.std.proofs.Common.{◌≡◌, List, ◌∷◌, refl, ap, ◌∙◌}
use Rattle.plan_types.specs.Schemas.{Columns}
use Rattle.plan_types.specs.Frames.{Frame, Row}
use Rattle.plan_dsl.specs.Registry.{Registry}
use Rattle.plan_dsl.specs.Trees.{Trees, node, no_more, more, fold_all, AllRelated}
use Rattle.plan_dsl.specs.Ops.{Op, Expression}
use Rattle.plan_dsl.specs.Names.{label_of, op_label}
use Rattle.plan_dsl.specs.Typing.{typing, typing_all, typing_rule, then_typed, typed_before}
use Rattle.plan_dsl.specs.Meaning.{meaning, meaning_all, node_meaning}
use Rattle.plan_dsl.specs.Strictness.{IsSame}

module _ (registry : Registry) (schema : Columns) where
  pub same_itself : (t : Expression) → IsSame registry schema t t
  same_itself t = record { typing = refl; name = refl; meaning = λ rows. refl }

  pub same_then : (t u v : Expression) → IsSame registry schema t u → IsSame registry schema u v → IsSame registry schema t v
  same_then t u v a b = record {
    typing = b.typing ∙ a.typing;
    name = b.name ∙ a.name;
    meaning = λ rows. b.meaning rows ∙ a.meaning rows;
  }

  -- children that say the same are typed, named and mean the same
  pub typings_same : (ts us : Trees Op) → AllRelated (IsSame registry schema) ts us → typing_all registry schema us ≡ typing_all registry schema ts
  typings_same no_more no_more a = refl
  typings_same (more t ts) (more u us) a =
      ap (λ x. typed_before x (typing_all registry schema us)) a.0.typing ∙ ap (typed_before (typing registry schema t)) (typings_same ts us a.1)
  typings_same no_more (more u us) a = absurd a
  typings_same (more t ts) no_more a = absurd a

  names_same : (ts us : Trees Op) → AllRelated (IsSame registry schema) ts us → fold_all op_label us ≡ fold_all op_label ts
  names_same no_more no_more a = refl
  names_same (more t ts) (more u us) a =
      ap (λ x. x ∷ fold_all op_label us) a.0.name ∙ ap (λ l. label_of t ∷ l) (names_same ts us a.1)
  names_same no_more (more u us) a = absurd a
  names_same (more t ts) no_more a = absurd a

  meanings_same : (rows : List Row) (ts us : Trees Op) → AllRelated (IsSame registry schema) ts us → meaning_all registry (record { schema = schema; rows = rows }) us ≡ meaning_all registry (record { schema = schema; rows = rows }) ts
  meanings_same rows no_more no_more a = refl
  meanings_same rows (more t ts) (more u us) a =
      let frame : Frame = record { schema = schema; rows = rows } in
      ap (λ x. x ∷ meaning_all registry frame us) (a.0.meaning rows) ∙ ap (λ l. meaning registry frame t ∷ l) (meanings_same rows ts us a.1)
  meanings_same rows no_more (more u us) a = absurd a
  meanings_same rows (more t ts) no_more a = absurd a

  -- a node over children that say the same says the same
  pub node_same : (op : Op) (ts us : Trees Op) → AllRelated (IsSame registry schema) ts us → IsSame registry schema (node op ts) (node op us)
  node_same op ts us a = record {
    typing = ap (λ r. then_typed r (typing_rule registry schema op)) (typings_same ts us a);
    name = ap (op_label op) (names_same ts us a);
    meaning = λ rows. let frame : Frame = record { schema = schema; rows = rows } in
        ap (λ r. node_meaning registry frame op r (meaning_all registry frame us)) (typings_same ts us a)
        ∙ ap (node_meaning registry frame op (typing_all registry schema ts)) (meanings_same rows ts us a);
  }
