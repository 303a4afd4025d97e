-- Expressions with every cast written out.
use Rattle.std.proofs.Common.{◌≡◌, ◌≢◌, ℕ, map, Bool, true, false, cond, List, [], ◌∷◌, Some, Result, Ok, Err, refl, sym, ap, ◌∙◌, subst}
use Rattle.std.specs.Prelude.{ℤ, unwrap_or}
use Rattle.plan_types.specs.Types.{Ty, Untyped, is_known, same_type}
use Rattle.plan_types.specs.TypeLaws.{same_type_own}
use Rattle.plan_types.specs.Schemas.{Name, Columns}
use Rattle.plan_types.specs.Values.{IntValue}
use Rattle.plan_types.specs.Casts.{can_cast}
use Rattle.plan_types.specs.declared.error.ErrorKind.{ErrorKind}
use Rattle.plan_types.specs.declared.error.ErrorKind.TheVariants.{InvalidOperation}
use Rattle.plan_types.specs.declared.dtype.CastOptions.TheVariants.{NonStrict}
use Rattle.plan_types.specs.CommonTypes.{type_alone}
use Rattle.plan_types.proofs.CommonLemmas.{alone_itself, literal_has}
use Rattle.plan_types.proofs.CastLemmas.{source_known}
use Rattle.plan_dsl.specs.Coercion.{fitted, fitted_by, coerced, coerced_all}
use Rattle.plan_dsl.specs.Registry.{Registry}
use Rattle.plan_arena.specs.declared.aexpr.AExpr.{AExpr}
use Rattle.plan_arena.specs.Denotation.{Denotes}
use Rattle.plan_arena.specs.Layers.{shape_of}
use Rattle.plan_arena.specs.Items.{HoldsExpression, HoldsFrom, expression_layer}
use Rattle.plan_arena.proofs.DenotationLemmas.{replaced}
use Rattle.plan_arena.proofs.ItemLemmas.{from_laws}
use Rattle.plan_dsl.specs.Trees.{Trees, node, no_more, more, AllRelated}
use Rattle.plan_dsl.specs.Aliases.{IsCore, are_core, is_core, is_core_op, renamed}
use Rattle.plan_dsl.specs.Ops.{Op, LiteralOp, CastOp, AliasOp, Expression}
use Rattle.plan_dsl.specs.Typing.{Typed, Ruling, rule, ruled_as, cast_taken, types_of, typed_to, typed_before, typing, typing_all}
use Rattle.plan_dsl.specs.Strictness.{CanBecome, IsSame, IsStrict, AllStrict, is_strict, are_strict, is_strict_over, cast_to, changed, integer_has, number_as, number_literal, as_operand, as_operands}
use Rattle.plan_dsl.specs.Literals.{settled_type}
use Rattle.plan_dsl.proofs.LiteralLemmas.{bare, becomes_literal, child_is, literal_typing, number_node, under, untyped}
use Rattle.plan_dsl.proofs.AliasLemmas.{alias}
use Rattle.plan_dsl.proofs.CastLemmas.{number_made}
use Rattle.plan_dsl.proofs.TypingLemmas.{by_children, by_no_children}
use Rattle.plan_dsl.proofs.CastMeaningLemmas.{if_true}
use Rattle.plan_dsl.proofs.OpLemmas.{keeps_rule}
use Rattle.plan_dsl.proofs.SignatureLemmas.{AllBecome, IsTakenTo, makes, passes}
use Rattle.plan_dsl.proofs.OperandLemmas.{after_typed, operands_same, types_are}
use Rattle.plan_dsl.proofs.SameLemmas.{node_same, typings_same, same_itself, same_then}
use Rattle.plan_dsl.proofs.StrictLemmas.{strict_parts}
use Rattle.std.proofs.lemmas.Bool.{and_parts, and_from}

-- the one expression says the same as the other, and both are one with every cast written out
pub record IsAlike (registry : Registry) (schema : Columns) (before after : Expression) : Type 0 where
  pub same : IsSame registry schema before after
  pub casts : coerced registry schema after ≡ coerced registry schema before

-- the node denotes a tree that is so
pub record DenotesSame (registry : Registry) (schema : Columns) (first : ℕ) (items : List AExpr) (n : ℕ) (before : Expression) : Type 0 where
  pub tree : Expression
  pub denotes : Denotes (HoldsFrom first items) n tree
  pub same : IsAlike registry schema before tree

-- as many types as trees
abbrev Alongside : List Ty → Trees Op → Type 0
Alongside [] no_more = Unit {0}
Alongside (type ∷ types) (more tree trees) = Alongside types trees
Alongside [] (more tree trees) = ⊥
Alongside (type ∷ types) no_more = ⊥

-- operands of the types to which they are taken stay
own_operands : (types : List Ty) (trees : Trees Op) → Alongside types trees → as_operands types types trees ≡ trees
own_operands [] no_more h = refl
own_operands (type ∷ types) (more tree trees) h =
    ap (λ t. more t (as_operands types types trees)) (if_true (same_type type type) tree _ (same_type_own type)) ∙ ap (more tree) (own_operands types trees h)
own_operands [] (more tree trees) h = absurd h
own_operands (type ∷ types) no_more h = absurd h

taken_alongside : (own : Ty) (types targets : List Ty) (trees : Trees Op) → AllBecome own types targets → Alongside types trees → Alongside targets (as_operands types targets trees)
taken_alongside own [] [] no_more b h = tt
taken_alongside own (from ∷ types) (target ∷ targets) (more tree trees) b h = taken_alongside own types targets trees b.1 h
taken_alongside own [] [] (more tree trees) b h = absurd h
taken_alongside own [] (target ∷ targets) trees b h = absurd b
taken_alongside own (from ∷ types) [] trees b h = absurd b
taken_alongside own (from ∷ types) (target ∷ targets) no_more b h = absurd h

no_operands : (types targets : List Ty) → as_operands types targets no_more ≡ no_more
no_operands [] targets = refl
no_operands (from ∷ types) [] = refl
no_operands (from ∷ types) (target ∷ targets) = refl

pub bare_by : (found : Result Ruling ErrorKind) (types : List Ty) → fitted_by found types no_more ≡ no_more
bare_by (Err kind) types = refl
bare_by (Ok ruling) types = no_operands types ruling.operands

module _ (registry : Registry) (schema : Columns) where
  typed_alongside : (trees : Trees Op) (typed : List Typed) → typing_all registry schema trees ≡ Ok typed → Alongside (types_of typed) trees
  typed_alongside no_more typed h = by_no_children (λ xs. Alongside (types_of xs) no_more) typed h tt
  typed_alongside (more tree trees) typed h =
      by_children (λ xs. Alongside (types_of xs) (more tree trees)) _ _ typed h (λ x xs is rest. typed_alongside trees xs rest)

  coerced_alongside : (types : List Ty) (trees : Trees Op) → Alongside types trees → Alongside types (coerced_all registry schema trees)
  coerced_alongside [] no_more h = tt
  coerced_alongside (type ∷ types) (more tree trees) h = coerced_alongside types trees h
  coerced_alongside [] (more tree trees) h = absurd h
  coerced_alongside (type ∷ types) no_more h = absurd h

  -- a cast round an operand stays one
  cast_coerced : (from target : Ty) (tree : Expression) (many : Bool) → typing registry schema tree ≡ Ok (record { type = from; many = many }) → is_known from ≡ true → can_cast from target ≡ true → coerced registry schema (node (CastOp target NonStrict) (more tree no_more)) ≡ node (CastOp target NonStrict) (more (coerced registry schema tree) no_more)
  cast_coerced from target tree many is known casts =
      let child = more (coerced registry schema tree) no_more in
      let typed : List Typed = record { type = from; many = many } ∷ [] in
      let types = ap (λ r. typed_before r (Ok [])) is in
      let ruling : Ruling = record { operands = from ∷ []; own = record { type = target; many = many } } in
      let rules : rule registry schema (CastOp target NonStrict) typed ≡ Ok ruling = ap (λ r. ruled_as r many) (ap (cast_taken target) (alone_itself from known) ∙ if_true (can_cast from target) (Ok (record { operands = from ∷ []; type = target })) (Err InvalidOperation) casts) in
      ap (λ r. node (CastOp target NonStrict) (fitted registry schema (CastOp target NonStrict) r child)) types
      ∙ ap (λ r. node (CastOp target NonStrict) (fitted_by r (from ∷ []) child)) rules
      ∙ ap (node (CastOp target NonStrict)) (own_operands (from ∷ []) child tt)

  -- so does a literal
  literal_coerced : (type : Ty) (number : ℤ) → coerced registry schema (number_literal type number) ≡ number_literal type number
  literal_coerced type number = ap (node (LiteralOp type (IntValue number))) (bare_by (rule registry schema (LiteralOp type (IntValue number)) []) [])

  own_coerced : (own target : Ty) (number : ℤ) → type_alone (Untyped number) ≡ Some own → can_cast own target ≡ true → coerced registry schema (cast_to target (number_literal own number)) ≡ cast_to target (number_literal own number)
  own_coerced own target number alone casts =
      let has = literal_has number own alone in
      let typed = literal_typing registry schema own (IntValue number) (becomes_literal own number has.1 has.0) in
      cast_coerced own target (number_literal own number) false typed has.1 casts ∙ ap (cast_to target) (literal_coerced own number)

  number_coerced : (number : ℤ) (target : Ty) → CanBecome (Untyped number) target → coerced registry schema (number_as number target) ≡ number_as number target
  number_coerced number target can =
      elim (integer_has target number) as (λ b. integer_has target number ≡ b → coerced registry schema (cond b (number_literal target number) (cast_to target (number_literal (settled_type (Untyped number)) number))) ≡ cond b (number_literal target number) (cast_to target (number_literal (settled_type (Untyped number)) number))) [
        | true ↦ λ e. literal_coerced target number
        | false ↦ λ e.
            let own = can.has number refl e in
            subst (λ type. coerced registry schema (cast_to target (number_literal type number)) ≡ cast_to target (number_literal type number)) (sym (ap (λ found. unwrap_or found (Untyped number)) own.1)) (own_coerced own.0 target number own.1 own.2)
      ] refl

  -- a node of an alias
  alias_coerced : (name : Name) (tree : Expression) (typed : Typed) → typing registry schema tree ≡ Ok typed → coerced registry schema (alias name tree) ≡ alias name (coerced registry schema tree)
  alias_coerced name tree typed is =
      let child = more (coerced registry schema tree) no_more in
      ap (λ r. node (AliasOp name) (fitted registry schema (AliasOp name) (typed_before r (Ok [])) child)) is
      ∙ ap (node (AliasOp name)) (own_operands (typed.type ∷ []) child tt)

  -- a number without a type, maybe under aliases
  module _ (number : ℤ) (many : Bool) (target : Ty) (can : CanBecome (Untyped number) target) where
    abbrev made : Expression → Expression
    made tree = renamed tree (number_as number target)

    under_coerced : (op : Op) (children : Trees Op) → typing registry schema (node op children) ≡ Ok (record { type = Untyped number; many = many }) → ((name : Name) (tree : Expression) → children ≡ more tree no_more → typing registry schema tree ≡ Ok (record { type = Untyped number; many = many }) → coerced registry schema (made tree) ≡ made (coerced registry schema tree)) → coerced registry schema (made (node op children)) ≡ made (coerced registry schema (node op children))
    under_coerced op children h each =
        elim (number_node registry schema number op children many h) as (λ _. coerced registry schema (made (node op children)) ≡ made (coerced registry schema (node op children))) [
          | bare op_is none single literal ↦
              let here : coerced registry schema (made (untyped number)) ≡ made (coerced registry schema (untyped number)) = number_coerced number target can ∙ sym (ap made (literal_coerced (Untyped number) number)) in
              subst (λ o. coerced registry schema (made (node o children)) ≡ made (coerced registry schema (node o children))) (sym op_is) (subst (λ c. coerced registry schema (made (node (LiteralOp (Untyped number) (IntValue number)) c)) ≡ made (coerced registry schema (node (LiteralOp (Untyped number) (IntValue number)) c))) (sym none) here)
          | under name tree op_is over typed ↦
              let after = (number_made registry schema number many target can tree typed).typing in
              let here : coerced registry schema (made (alias name tree)) ≡ made (coerced registry schema (alias name tree)) =
              alias_coerced name (made tree) _ after ∙ ap (alias name) (each name tree over typed) ∙ sym (ap made (alias_coerced name tree _ typed)) in
              subst (λ o. coerced registry schema (made (node o children)) ≡ made (coerced registry schema (node o children))) (sym op_is) (subst (λ c. coerced registry schema (made (node (AliasOp name) c)) ≡ made (coerced registry schema (node (AliasOp name) c))) (sym over) here)
        ]

    made_coerced : (tree : Expression) → typing registry schema tree ≡ Ok (record { type = Untyped number; many = many }) → coerced registry schema (made tree) ≡ made (coerced registry schema tree)
    made_coerced (node op (more child no_more)) h =
        under_coerced op (more child no_more) h (λ name tree over typed. let same = child_is child tree over in subst (λ t. coerced registry schema (made t) ≡ made (coerced registry schema t)) same (made_coerced child (ap (typing registry schema) same ∙ typed)))
    made_coerced (node op children) h = under_coerced op children h (λ name tree over typed. cc)

  changed_coerced : (from target : Ty) (tree : Expression) (many : Bool) → typing registry schema tree ≡ Ok (record { type = from; many = many }) → CanBecome from target → coerced registry schema (changed from target tree) ≡ changed from target (coerced registry schema tree)
  changed_coerced (Untyped number) target tree many is can = made_coerced number many target can tree is
  changed_coerced from target tree many is can =
      let casts = can.casts (λ number e. cc) in cast_coerced from target tree many is (source_known from target casts) casts

  operand_coerced : (own from target : Ty) (tree : Expression) (many : Bool) → typing registry schema tree ≡ Ok (record { type = from; many = many }) → IsTakenTo own from target → coerced registry schema (as_operand from target tree) ≡ as_operand from target (coerced registry schema tree)
  operand_coerced own from target tree many is (passes kept owned) =
      let same = ap (same_type from) (sym kept) ∙ same_type_own from in
      subst (λ b. coerced registry schema (cond b tree (changed from target tree)) ≡ cond b (coerced registry schema tree) (changed from target (coerced registry schema tree))) (sym same) refl
  operand_coerced own from target tree many is (makes can) =
      elim (same_type from target) as (λ b. coerced registry schema (cond b tree (changed from target tree)) ≡ cond b (coerced registry schema tree) (changed from target (coerced registry schema tree))) [ true ↦ refl | false ↦ changed_coerced from target tree many is can ]

  operands_coerced : (own : Ty) (trees : Trees Op) (typed : List Typed) (targets : List Ty) → typing_all registry schema trees ≡ Ok typed → AllBecome own (types_of typed) targets → coerced_all registry schema (as_operands (types_of typed) targets trees) ≡ as_operands (types_of typed) targets (coerced_all registry schema trees)
  operands_coerced own no_more typed targets h b =
      ap (coerced_all registry schema) (no_operands (types_of typed) targets) ∙ sym (no_operands (types_of typed) targets)
  operands_coerced own (more tree trees) typed [] h b =
      by_children (λ ts. AllBecome own (types_of ts) [] → coerced_all registry schema (as_operands (types_of ts) [] (more tree trees)) ≡ as_operands (types_of ts) [] (coerced_all registry schema (more tree trees))) _ _ typed h (λ t ts first rest none. absurd none) b
  operands_coerced own (more tree trees) typed (target ∷ targets) h b =
      by_children (λ ts. AllBecome own (types_of ts) (target ∷ targets) → coerced_all registry schema (as_operands (types_of ts) (target ∷ targets) (more tree trees)) ≡ as_operands (types_of ts) (target ∷ targets) (coerced_all registry schema (more tree trees))) _ _ typed h (λ t ts first rest c.
      ap (λ x. more x (coerced_all registry schema (as_operands (types_of ts) targets trees))) (operand_coerced own t.type target tree t.many first c.0)
      ∙ ap (more (as_operand t.type target (coerced registry schema tree))) (operands_coerced own trees ts targets rest c.1)) b

  -- a node over operands that were made of their types
  pub node_alike_over : (op : Op) (trees : Trees Op) (typed : List Typed) (h : typing_all registry schema trees ≡ Ok typed) (ruling : Ruling) (rules : rule registry schema op typed ≡ Ok ruling) → IsAlike registry schema (node op trees) (node op (as_operands (types_of typed) ruling.operands trees))
  node_alike_over op trees typed h ruling rules =
      let keeps = keeps_rule registry schema op typed ruling rules in
      let after = as_operands (types_of typed) ruling.operands trees in
      let children = coerced_all registry schema after in
      let made = operands_coerced ruling.own.type trees typed ruling.operands h keeps.becomes in
      let along = subst (Alongside ruling.operands) (sym made) (taken_alongside ruling.own.type (types_of typed) ruling.operands (coerced_all registry schema trees) keeps.becomes (coerced_alongside (types_of typed) trees (typed_alongside trees typed h))) in
      record {
        same = operands_same registry schema op trees typed h ruling rules;
        casts =
            ap (λ r. node op (fitted registry schema op r children)) (after_typed registry schema op trees typed h ruling rules)
            ∙ ap (λ r. node op (fitted_by r (types_of (typed_to typed ruling.operands)) children)) keeps.stays
            ∙ ap (λ l. node op (as_operands l ruling.operands children)) (types_are ruling.own.type typed ruling.operands keeps.becomes)
            ∙ ap (node op) (own_operands ruling.operands children along ∙ made)
            ∙ sym (ap (λ r. node op (fitted_by r (types_of typed) (coerced_all registry schema trees))) rules)
            ∙ sym (ap (λ r. node op (fitted registry schema op r (coerced_all registry schema trees))) h);
      }

  -- ---- alike, node by node
  pub alike_itself : (t : Expression) → IsAlike registry schema t t
  alike_itself t = record { same = same_itself registry schema t; casts = refl }

  pub alike_then : (t u w : Expression) → IsAlike registry schema t u → IsAlike registry schema u w → IsAlike registry schema t w
  alike_then t u w a b = record { same = same_then registry schema t u w a.same b.same; casts = b.casts ∙ a.casts }

  pub all_same : (ts us : Trees Op) → AllRelated (IsAlike registry schema) ts us → AllRelated (IsSame registry schema) ts us
  all_same no_more no_more h = tt
  all_same (more t ts) (more u us) h = (h.0.same, all_same ts us h.1)
  all_same no_more (more u us) h = absurd h
  all_same (more t ts) no_more h = absurd h

  all_casts : (ts us : Trees Op) → AllRelated (IsAlike registry schema) ts us → coerced_all registry schema us ≡ coerced_all registry schema ts
  all_casts no_more no_more h = refl
  all_casts (more t ts) (more u us) h =
      ap (λ x. more x (coerced_all registry schema us)) h.0.casts ∙ ap (more (coerced registry schema t)) (all_casts ts us h.1)
  all_casts no_more (more u us) h = absurd h
  all_casts (more t ts) no_more h = absurd h

  pub node_alike : (op : Op) (ts us : Trees Op) → AllRelated (IsAlike registry schema) ts us → IsAlike registry schema (node op ts) (node op us)
  node_alike op ts us h = record {
    same = node_same registry schema op ts us (all_same ts us h);
    casts =
        ap (λ r. node op (fitted registry schema op r (coerced_all registry schema us))) (typings_same registry schema ts us (all_same ts us h))
        ∙ ap (λ l. node op (fitted registry schema op (typing_all registry schema ts) l)) (all_casts ts us h);
  }

  -- what is strict has every cast
  mutual
    pub strict_coerced : (t : Expression) → IsStrict registry schema t → coerced registry schema t ≡ t
    strict_coerced (node op ts) strict =
        let parts = and_parts (is_strict_over registry schema op (typing_all registry schema ts)) (are_strict registry schema ts) strict in
        let s = strict_parts registry schema op ts parts.0 in
        let children = coerced_all registry schema ts in
        let along = subst (λ l. Alongside l children) s.kept (coerced_alongside (types_of s.typed) ts (typed_alongside ts s.typed s.types)) in
        ap (λ r. node op (fitted registry schema op r children)) s.types
        ∙ ap (λ r. node op (fitted_by r (types_of s.typed) children)) s.rules
        ∙ ap (λ l. node op (as_operands l s.ruling.operands children)) s.kept
        ∙ ap (node op) (own_operands s.ruling.operands children along ∙ all_strict_coerced ts parts.1)

    all_strict_coerced : (ts : Trees Op) → AllStrict registry schema ts → coerced_all registry schema ts ≡ ts
    all_strict_coerced no_more strict = refl
    all_strict_coerced (more t ts) strict =
        let parts = and_parts (is_strict registry schema t) (are_strict registry schema ts) strict in
        ap (λ x. more x (coerced_all registry schema ts)) (strict_coerced t parts.0) ∙ ap (more t) (all_strict_coerced ts parts.1)

-- ---- casts that are written out are no aliases

-- under no aliases another stands alone
pub renamed_bare : (tree other : Expression) → IsCore tree → renamed tree other ≡ other
renamed_bare (node (AliasOp name) children) other h = cc
renamed_bare (node op children) other h = refl

number_core : (number : ℤ) (target : Ty) → IsCore (number_as number target)
number_core number target =
    elim (integer_has target number) as (λ b. IsCore (cond b (number_literal target number) (cast_to target (number_literal (settled_type (Untyped number)) number)))) [ true ↦ refl | false ↦ refl ]

changed_core : (from target : Ty) (tree : Expression) → IsCore tree → IsCore (changed from target tree)
changed_core (Untyped number) target tree h = subst IsCore (sym (renamed_bare tree (number_as number target) h)) (number_core number target)
changed_core from target tree h = and_from (is_core tree) true h refl

operand_core : (from target : Ty) (tree : Expression) → IsCore tree → IsCore (as_operand from target tree)
operand_core from target tree h =
    elim (same_type from target) as (λ b. IsCore (cond b tree (changed from target tree))) [ true ↦ h | false ↦ changed_core from target tree h ]

operands_core : (types targets : List Ty) (trees : Trees Op) → are_core trees ≡ true → are_core (as_operands types targets trees) ≡ true
operands_core [] targets trees h = refl
operands_core (from ∷ types) [] trees h = refl
operands_core (from ∷ types) (target ∷ targets) no_more h = refl
operands_core (from ∷ types) (target ∷ targets) (more tree trees) h =
    let parts = and_parts (is_core tree) (are_core trees) h in
    and_from (is_core (as_operand from target tree)) (are_core (as_operands types targets trees)) (operand_core from target tree parts.0) (operands_core types targets trees parts.1)

ruled_core : (found : Result Ruling ErrorKind) (types : List Ty) (trees : Trees Op) → are_core trees ≡ true → are_core (fitted_by found types trees) ≡ true
ruled_core (Err kind) types trees h = h
ruled_core (Ok ruling) types trees h = operands_core types ruling.operands trees h

module _ (registry : Registry) (schema : Columns) where
  fitted_core : (op : Op) (found : Result (List Typed) ErrorKind) (trees : Trees Op) → are_core trees ≡ true → are_core (fitted registry schema op found trees) ≡ true
  fitted_core op (Err kind) trees h = h
  fitted_core op (Ok typed) trees h = ruled_core (rule registry schema op typed) (types_of typed) trees h

  mutual
    pub coerced_core : (tree : Expression) → IsCore tree → IsCore (coerced registry schema tree)
    coerced_core (node op children) h =
        let parts = and_parts (is_core_op op) (are_core children) h in
        let after = fitted registry schema op (typing_all registry schema children) (coerced_all registry schema children) in
        and_from (is_core_op op) (are_core after) parts.0 (fitted_core op (typing_all registry schema children) (coerced_all registry schema children) (all_coerced_core children parts.1))

    all_coerced_core : (trees : Trees Op) → are_core trees ≡ true → are_core (coerced_all registry schema trees) ≡ true
    all_coerced_core no_more h = refl
    all_coerced_core (more tree trees) h =
        let parts = and_parts (is_core tree) (are_core trees) h in
        and_from (is_core (coerced registry schema tree)) (are_core (coerced_all registry schema trees)) (coerced_core tree parts.0) (all_coerced_core trees parts.1)

-- every tree becomes one that says the same, where one node's does and no other item changes
pub becomes : (registry : Registry) (schema : Columns) (first : ℕ) (items items' : List AExpr) (at : ℕ) (before : Expression) → Denotes (HoldsFrom first items) at before → DenotesSame registry schema first items' at before → ((n : ℕ) (op : Op) (inputs : List ℕ) → n ≢ at → HoldsExpression items n op inputs → HoldsExpression items' n op inputs) → (n : ℕ) (u : Expression) → Denotes (HoldsFrom first items) n u → (w : Expression) × Denotes (HoldsFrom first items') n w × IsAlike registry schema u w
becomes registry schema first items items' at before d same elsewhere n u e =
    let keeps : (m : ℕ) (op : Op) (inputs : List ℕ) → m ≢ at → HoldsFrom first items m op inputs → HoldsFrom first items' m op inputs = λ m op inputs other h. (h.0, elsewhere m op inputs other h.1) in
    replaced (shape_of (map expression_layer items)) (HoldsFrom first items) (HoldsFrom first items') (from_laws first items) at keeps before d (IsAlike registry schema) (node_alike registry schema) same.tree same.denotes same.same n u e
