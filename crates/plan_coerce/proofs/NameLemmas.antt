-- Names of functions' operands stay right where casts are written out, and where those that can be told beforehand go.
use Rattle.std.proofs.Common.{◌≡◌, true, false, cond, List, [], ◌∷◌, Option, Some, None, Ok, refl, sym, ap, ◌∙◌, subst}
use Rattle.std.specs.Prelude.{ℤ, ◌&&◌, unwrap_or}
use Rattle.plan_types.specs.Types.{Ty, Truth, Untyped, same_type}
use Rattle.plan_types.specs.Schemas.{Columns}
use Rattle.plan_types.specs.declared.dtype.CastOptions.{CastOptions}
use Rattle.plan_dsl.specs.Aliases.{renamed}
use Rattle.plan_dsl.specs.Coercion.{coerced, coerced_all, fitted, fitted_by}
use Rattle.plan_dsl.specs.InlinedCasts.{all_inlined, cast_of, in_place_of, inlined, is_logical, written_out}
use Rattle.plan_dsl.specs.Literals.{settled_type}
use Rattle.plan_dsl.specs.Names.{label_of, op_label}
use Rattle.plan_dsl.specs.Ops.{Op, LiteralOp, BinaryOp, CastOp, AliasOp, Expression}
use Rattle.plan_dsl.specs.Registry.{Registry}
use Rattle.plan_dsl.specs.Strictness.{IsSame, as_operand, as_operands, cast_to, changed, integer_has, number_as, number_literal}
use Rattle.plan_dsl.specs.Trees.{Trees, node, no_more, more, fold_all, AllRelated}
use Rattle.plan_dsl.specs.Typing.{Typed, Ruling, rule, types_of, typing, typing_all}
use Rattle.plan_dsl.proofs.CastLemmas.{operand_made}
use Rattle.plan_dsl.proofs.OpLemmas.{keeps_rule}
use Rattle.plan_dsl.proofs.OperandLemmas.{operands_same}
use Rattle.plan_dsl.proofs.SameLemmas.{node_same, same_then, typings_same}
use Rattle.plan_dsl.proofs.SignatureLemmas.{AllBecome}
use Rattle.plan_dsl.proofs.TypingLemmas.{by_children, by_no_children, typed_parts}
use Rattle.plan_arena.specs.Runs.{AllNameOperands, NamesOperands, NamesOver}
use Rattle.plan_coerce.proofs.InliningLemmas.{gives_literal, inlined_same, some_where}

-- ---- casts that are written out

number_names : (number : ℤ) (target : Ty) → NamesOperands (number_as number target)
number_names number target =
    elim (integer_has target number) as (λ b. NamesOperands (cond b (number_literal target number) (cast_to target (number_literal (settled_type (Untyped number)) number)))) [ true ↦ (tt, tt) | false ↦ (tt, ((tt, tt), tt)) ]

renamed_names : (tree other : Expression) → NamesOperands other → NamesOperands (renamed tree other)
renamed_names (node (AliasOp name) (more tree no_more)) other h = (tt, (renamed_names tree other h, tt))
renamed_names (node op children) other h = h

changed_names : (from target : Ty) (tree : Expression) → NamesOperands tree → NamesOperands (changed from target tree)
changed_names (Untyped number) target tree h = renamed_names tree (number_as number target) (number_names number target)
changed_names from target tree h = (tt, (h, tt))

operand_names : (from target : Ty) (tree : Expression) → NamesOperands tree → NamesOperands (as_operand from target tree)
operand_names from target tree h =
    elim (same_type from target) as (λ b. NamesOperands (cond b tree (changed from target tree))) [ true ↦ h | false ↦ changed_names from target tree h ]

operands_names : (types targets : List Ty) (trees : Trees Op) → AllNameOperands trees → AllNameOperands (as_operands types targets trees)
operands_names [] targets trees h = tt
operands_names (from ∷ types) [] trees h = tt
operands_names (from ∷ types) (target ∷ targets) no_more h = tt
operands_names (from ∷ types) (target ∷ targets) (more tree trees) h = (operand_names from target tree h.0, operands_names types targets trees h.1)

module _ (registry : Registry) (schema : Columns) where
  -- operands that are made of their types keep their names
  operands_labels : (own : Ty) (trees : Trees Op) (typed : List Typed) (targets : List Ty) → typing_all registry schema trees ≡ Ok typed → AllBecome own (types_of typed) targets → fold_all op_label (as_operands (types_of typed) targets trees) ≡ fold_all op_label trees
  operands_labels own no_more typed targets h b =
      by_no_children (λ ts. AllBecome own (types_of ts) targets → fold_all op_label (as_operands (types_of ts) targets no_more) ≡ []) typed h (λ none. refl) b
  operands_labels own (more tree trees) typed [] h b =
      by_children (λ ts. AllBecome own (types_of ts) [] → fold_all op_label (as_operands (types_of ts) [] (more tree trees)) ≡ fold_all op_label (more tree trees)) _ _ typed h (λ t ts first rest none. absurd none) b
  operands_labels own (more tree trees) typed (target ∷ targets) h b =
      by_children (λ ts. AllBecome own (types_of ts) (target ∷ targets) → fold_all op_label (as_operands (types_of ts) (target ∷ targets) (more tree trees)) ≡ fold_all op_label (more tree trees)) _ _ typed h (λ t ts first rest c.
      ap (λ n. n ∷ fold_all op_label (as_operands (types_of ts) targets trees)) (operand_made registry schema target tree t.many own t.type first c.0).name
      ∙ ap (λ l. label_of tree ∷ l) (operands_labels own trees ts targets rest c.1)) b

  labels_same : (ts us : Trees Op) → AllRelated (IsSame registry schema) ts us → fold_all op_label us ≡ fold_all op_label ts
  labels_same no_more no_more a = refl
  labels_same (more t ts) (more u us) a = ap (λ x. x ∷ fold_all op_label us) a.0.name ∙ ap (λ l. label_of t ∷ l) (labels_same ts us a.1)
  labels_same no_more (more u us) a = absurd a
  labels_same (more t ts) no_more a = absurd a

  -- what a node with a rule is over
  pub fitted_typed : (op : Op) (ts us : Trees Op) (typed : List Typed) (ruling : Ruling) → typing_all registry schema ts ≡ Ok typed → rule registry schema op typed ≡ Ok ruling → fitted registry schema op (typing_all registry schema ts) us ≡ as_operands (types_of typed) ruling.operands us
  fitted_typed op ts us typed ruling h rules = ap (λ r. fitted registry schema op r us) h ∙ ap (λ r. fitted_by r (types_of typed) us) rules

  -- with every cast written out an expression says the same
  mutual
    pub coerced_same : (tree : Expression) (typed : Typed) → typing registry schema tree ≡ Ok typed → IsSame registry schema tree (coerced registry schema tree)
    coerced_same (node op ts) typed h =
        let p = typed_parts registry schema op ts typed h in
        let us = coerced_all registry schema ts in
        let each = all_coerced_same ts p.below p.children_typed in
        let there = typings_same registry schema ts us each ∙ p.children_typed in
        subst (λ os. IsSame registry schema (node op ts) (node op os)) (sym (fitted_typed op ts us p.below p.ruling p.children_typed p.rules))
        (same_then registry schema (node op ts) (node op us) _ (node_same registry schema op ts us each) (operands_same registry schema op us p.below there p.ruling p.rules))

    pub all_coerced_same : (trees : Trees Op) (typed : List Typed) → typing_all registry schema trees ≡ Ok typed → AllRelated (IsSame registry schema) trees (coerced_all registry schema trees)
    all_coerced_same no_more typed h = tt
    all_coerced_same (more tree trees) typed h =
        by_children (λ _. AllRelated (IsSame registry schema) (more tree trees) (coerced_all registry schema (more tree trees))) _ _ typed h (λ t ts first rest. (coerced_same tree t first, all_coerced_same trees ts rest))

  -- what is written out says the same, on any rows
  pub written_same : (tree : Expression) (typed : Typed) → typing registry schema tree ≡ Ok typed → IsSame registry schema tree (written_out registry schema tree)
  written_same tree typed h =
      same_then registry schema tree (coerced registry schema tree) (written_out registry schema tree) (coerced_same tree typed h) (inlined_same registry schema (coerced registry schema tree))

  mutual
    coerced_names : (tree : Expression) (typed : Typed) → typing registry schema tree ≡ Ok typed → NamesOperands tree → NamesOperands (coerced registry schema tree)
    coerced_names (node op ts) typed h names =
        let p = typed_parts registry schema op ts typed h in
        let us = coerced_all registry schema ts in
        let each = all_coerced_same ts p.below p.children_typed in
        let there = typings_same registry schema ts us each ∙ p.children_typed in
        let labels = operands_labels p.ruling.own.type us p.below p.ruling.operands there (keeps_rule registry schema op p.below p.ruling p.rules).becomes ∙ labels_same ts us each in
        subst (λ os. NamesOperands (node op os)) (sym (fitted_typed op ts us p.below p.ruling p.children_typed p.rules))
        (subst (NamesOver op) (sym labels) names.0, operands_names (types_of p.below) p.ruling.operands us (all_coerced_names ts p.below p.children_typed names.1))

    all_coerced_names : (trees : Trees Op) (typed : List Typed) → typing_all registry schema trees ≡ Ok typed → AllNameOperands trees → AllNameOperands (coerced_all registry schema trees)
    all_coerced_names no_more typed h names = tt
    all_coerced_names (more tree trees) typed h names =
        by_children (λ _. AllNameOperands (coerced_all registry schema (more tree trees))) _ _ typed h (λ t ts first rest. (coerced_names tree t first names.0, all_coerced_names trees ts rest names.1))

-- ---- casts that go

cast_label : (target : Ty) (options : CastOptions) (x e : Expression) → cast_of target options x ≡ Some e → label_of e ≡ label_of x
cast_label target options (node (LiteralOp from value) no_more) e h = ap label_of (gives_literal from value target options e h).is
cast_label target options (node (BinaryOp operator) operands) e h =
    ap label_of (some_where (is_logical operator && same_type Truth target) (node (BinaryOp operator) operands) e h).1
cast_label target options (node op operands) e h = cc

placed_label : (op : Op) (us : Trees Op) (found : Option Expression) → in_place_of op us ≡ found → label_of (unwrap_or found (node op us)) ≡ label_of (node op us)
placed_label op us None is = refl
placed_label (CastOp target options) (more x no_more) (Some e) is = cast_label target options x e is
placed_label op us (Some e) is = cc

mutual
  inlined_label : (tree : Expression) → label_of (inlined tree) ≡ label_of tree
  inlined_label (node op ts) = placed_label op (all_inlined ts) (in_place_of op (all_inlined ts)) refl ∙ ap (op_label op) (inlined_labels ts)

  inlined_labels : (trees : Trees Op) → fold_all op_label (all_inlined trees) ≡ fold_all op_label trees
  inlined_labels no_more = refl
  inlined_labels (more tree trees) = ap (λ x. x ∷ fold_all op_label (all_inlined trees)) (inlined_label tree) ∙ ap (λ l. label_of tree ∷ l) (inlined_labels trees)

cast_names : (target : Ty) (options : CastOptions) (x : Expression) → NamesOperands x → (e : Expression) → cast_of target options x ≡ Some e → NamesOperands e
cast_names target options (node (LiteralOp from value) no_more) names e h = subst NamesOperands (sym (gives_literal from value target options e h).is) (tt, tt)
cast_names target options (node (BinaryOp operator) operands) names e h =
    subst NamesOperands (sym (some_where (is_logical operator && same_type Truth target) (node (BinaryOp operator) operands) e h).1) names
cast_names target options (node op operands) names e h = cc

placed_names : (op : Op) (us : Trees Op) → NamesOperands (node op us) → (found : Option Expression) → in_place_of op us ≡ found → NamesOperands (unwrap_or found (node op us))
placed_names op us names None is = names
placed_names (CastOp target options) (more x no_more) names (Some e) is = cast_names target options x names.1.0 e is
placed_names op us names (Some e) is = cc

mutual
  inlined_names : (tree : Expression) → NamesOperands tree → NamesOperands (inlined tree)
  inlined_names (node op ts) names =
      placed_names op (all_inlined ts) (subst (NamesOver op) (sym (inlined_labels ts)) names.0, all_inlined_names ts names.1) (in_place_of op (all_inlined ts)) refl

  all_inlined_names : (trees : Trees Op) → AllNameOperands trees → AllNameOperands (all_inlined trees)
  all_inlined_names no_more names = tt
  all_inlined_names (more tree trees) names = (inlined_names tree names.0, all_inlined_names trees names.1)

-- both
pub written_names : (registry : Registry) (schema : Columns) (tree : Expression) (typed : Typed) → typing registry schema tree ≡ Ok typed → NamesOperands tree → NamesOperands (written_out registry schema tree)
written_names registry schema tree typed h names = inlined_names (coerced registry schema tree) (coerced_names registry schema tree typed h names)
