-- What is written out comes of replacements of four kinds.
use Rattle.std.proofs.Common.{◌≡◌, ℤ, Bool, true, false, cond, List, [], ◌∷◌, Option, Some, None, Ok, refl, sym, ap, ◌∙◌, subst, inl}
use Rattle.std.specs.Prelude.{◌&&◌, unwrap_or}
use Rattle.std.proofs.lemmas.Bool.{and_from, and_parts, false≢true}
use Rattle.plan_types.specs.CommonTypes.{type_alone}
use Rattle.plan_types.specs.Schemas.{Columns, Name}
use Rattle.plan_types.specs.Types.{Ty, Truth, Untyped, same_type}
use Rattle.plan_types.specs.TypeLaws.{same_type_exact, same_type_own}
use Rattle.plan_types.specs.Values.{IntValue}
use Rattle.plan_types.specs.declared.dtype.CastOptions.{CastOptions}
use Rattle.plan_types.proofs.CommonLemmas.{literal_has}
use Rattle.plan_dsl.specs.Aliases.{renamed}
use Rattle.plan_dsl.specs.Coercion.{coerced, coerced_all}
use Rattle.plan_dsl.specs.InlinedCasts.{all_inlined, cast_of, in_place_of, inlined, is_logical, written_out}
use Rattle.plan_dsl.specs.Literals.{settled_type}
use Rattle.plan_dsl.specs.Ops.{Op, AliasOp, BinaryOp, CastOp, LiteralOp, Expression}
use Rattle.plan_dsl.specs.Registry.{Registry}
use Rattle.plan_dsl.specs.Strictness.{CanBecome, as_operand, as_operands, cast_to, changed, integer_has, number_as, number_literal}
use Rattle.plan_dsl.specs.Trees.{Trees, node, no_more, more, AllRelated}
use Rattle.plan_dsl.specs.Typing.{Ruling, Typed, rule, types_of, typing, typing_all}
use Rattle.plan_dsl.proofs.LiteralLemmas.{bare, becomes_literal, child_is, literal_typing, number_node, under}
use Rattle.plan_dsl.proofs.OpLemmas.{keeps_rule}
use Rattle.plan_dsl.proofs.SameLemmas.{typings_same}
use Rattle.plan_dsl.proofs.SignatureLemmas.{AllBecome, IsTakenTo, makes, passes}
use Rattle.plan_dsl.proofs.TypingLemmas.{by_children, by_no_children, typed_parts}
use Rattle.plan_coerce.specs.KindLaws.{becomes_itself, becomes_one, becomes_over, becomes_then}
use Rattle.plan_coerce.specs.Kinds.{Becomes, cast_gone, cast_put, literal_told, number_typed}
use Rattle.plan_coerce.proofs.InliningLemmas.{some_where}
use Rattle.plan_coerce.proofs.NameLemmas.{all_coerced_same, fitted_typed}

-- a type that lacks a number is another than the one that the number has alone
pub lacks_apart : (number : ℤ) (own target : Ty) → type_alone (Untyped number) ≡ Some own → integer_has target number ≡ false → same_type own target ≡ false
lacks_apart number own target alone lacks =
    let has = literal_has number own alone in
    elim (same_type own target) as (λ b. same_type own target ≡ b → b ≡ false) [
      | true ↦ λ e. absurd (false≢true (sym lacks ∙ ap (λ t. integer_has t number) (sym (same_type_exact own target e)) ∙ and_from _ _ has.2 has.0))
      | false ↦ λ e. refl
    ] refl

module _ (registry : Registry) (schema : Columns) where
  -- ---- operands that are made of their types

  kind_typed : (number : ℤ) (type : Ty) → integer_has type number ≡ true → Becomes registry schema (number_literal (Untyped number) number) (number_literal type number)
  kind_typed number type has = becomes_one registry schema _ _ (inl (number_typed number type has refl refl))

  kind_cast : (t : Expression) (own : Typed) (target : Ty) → typing registry schema t ≡ Ok own → same_type own.type target ≡ false → Becomes registry schema t (cast_to target t)
  kind_cast (node op ts) own target typed other = becomes_one registry schema _ _ (inl (cast_put own target typed other refl))

  number_becomes : (number : ℤ) (target : Ty) → CanBecome (Untyped number) target → Becomes registry schema (number_literal (Untyped number) number) (number_as number target)
  number_becomes number target can =
      elim (integer_has target number) as (λ b. integer_has target number ≡ b → Becomes registry schema (number_literal (Untyped number) number) (cond b (number_literal target number) (cast_to target (number_literal (settled_type (Untyped number)) number)))) [
        | true ↦ λ e. kind_typed number target e
        | false ↦ λ e.
            let own = can.has number refl e in
            let has = literal_has number own.0 own.1 in
            let lit = number_literal own.0 number in
            let typed = literal_typing registry schema own.0 (IntValue number) (becomes_literal own.0 number has.1 has.0) in
            subst (λ type. Becomes registry schema (number_literal (Untyped number) number) (cast_to target (number_literal type number))) (sym (ap (λ found. unwrap_or found (Untyped number)) own.1))
            (becomes_then registry schema _ lit _ (kind_typed number own.0 (and_from _ _ has.2 has.0)) (kind_cast lit _ target typed (lacks_apart number own.0 target own.1 e)))
      ] refl

  module _ (number : ℤ) (many : Bool) (target : Ty) (can : CanBecome (Untyped number) target) where
    abbrev made : Expression → Expression
    made tree = renamed tree (number_as number target)

    under_becomes : (op : Op) (children : Trees Op) → typing registry schema (node op children) ≡ Ok (record { type = Untyped number; many = many }) → ((name : Name) (tree : Expression) → children ≡ more tree no_more → typing registry schema tree ≡ Ok (record { type = Untyped number; many = many }) → Becomes registry schema tree (made tree)) → Becomes registry schema (node op children) (made (node op children))
    under_becomes op children h each =
        elim (number_node registry schema number op children many h) as (λ _. Becomes registry schema (node op children) (made (node op children))) [
          | bare op_is none single literal ↦
              subst (λ o. Becomes registry schema (node o children) (made (node o children))) (sym op_is) (subst (λ c. Becomes registry schema (node (LiteralOp (Untyped number) (IntValue number)) c) (made (node (LiteralOp (Untyped number) (IntValue number)) c))) (sym none) (number_becomes number target can))
          | under name tree op_is over typed ↦
              let here = becomes_over registry schema (AliasOp name) (more tree no_more) (more (made tree) no_more) (each name tree over typed, tt) in
              subst (λ o. Becomes registry schema (node o children) (made (node o children))) (sym op_is) (subst (λ c. Becomes registry schema (node (AliasOp name) c) (made (node (AliasOp name) c))) (sym over) here)
        ]

    made_becomes : (tree : Expression) → typing registry schema tree ≡ Ok (record { type = Untyped number; many = many }) → Becomes registry schema tree (made tree)
    made_becomes (node op (more child no_more)) h =
        under_becomes op (more child no_more) h (λ name tree over typed. let same = child_is child tree over in subst (λ t. Becomes registry schema t (made t)) same (made_becomes child (ap (typing registry schema) same ∙ typed)))
    made_becomes (node op children) h = under_becomes op children h (λ name tree over typed. cc)

  changed_becomes : (from target : Ty) (tree : Expression) (many : Bool) → typing registry schema tree ≡ Ok (record { type = from; many = many }) → same_type from target ≡ false → CanBecome from target → Becomes registry schema tree (changed from target tree)
  changed_becomes (Untyped number) target tree many is other can = made_becomes number many target can tree is
  changed_becomes from target tree many is other can = kind_cast tree _ target is other

  operand_becomes : (own from target : Ty) (tree : Expression) (many : Bool) → typing registry schema tree ≡ Ok (record { type = from; many = many }) → IsTakenTo own from target → Becomes registry schema tree (as_operand from target tree)
  operand_becomes own from target tree many is (passes kept owned) =
      let same = ap (same_type from) (sym kept) ∙ same_type_own from in
      subst (λ b. Becomes registry schema tree (cond b tree (changed from target tree))) (sym same) (becomes_itself registry schema tree)
  operand_becomes own from target tree many is (makes can) =
      elim (same_type from target) as (λ b. same_type from target ≡ b → Becomes registry schema tree (cond b tree (changed from target tree))) [ true ↦ λ e. becomes_itself registry schema tree | false ↦ λ e. changed_becomes from target tree many is e can ] refl

  operands_become : (own : Ty) (trees : Trees Op) (typed : List Typed) (targets : List Ty) → typing_all registry schema trees ≡ Ok typed → AllBecome own (types_of typed) targets → AllRelated (Becomes registry schema) trees (as_operands (types_of typed) targets trees)
  operands_become own no_more typed targets h b =
      by_no_children (λ ts. AllBecome own (types_of ts) targets → AllRelated (Becomes registry schema) no_more (as_operands (types_of ts) targets no_more)) typed h (λ none. tt) b
  operands_become own (more tree trees) typed [] h b =
      by_children (λ ts. AllBecome own (types_of ts) [] → AllRelated (Becomes registry schema) (more tree trees) (as_operands (types_of ts) [] (more tree trees))) _ _ typed h (λ t ts first rest none. absurd none) b
  operands_become own (more tree trees) typed (target ∷ targets) h b =
      by_children (λ ts. AllBecome own (types_of ts) (target ∷ targets) → AllRelated (Becomes registry schema) (more tree trees) (as_operands (types_of ts) (target ∷ targets) (more tree trees))) _ _ typed h (λ t ts first rest c.
      (operand_becomes own t.type target tree t.many first c.0, operands_become own trees ts targets rest c.1)) b

  -- so does a node over them
  pub node_becomes : (op : Op) (trees : Trees Op) (typed : List Typed) (ruling : Ruling) → typing_all registry schema trees ≡ Ok typed → rule registry schema op typed ≡ Ok ruling → Becomes registry schema (node op trees) (node op (as_operands (types_of typed) ruling.operands trees))
  node_becomes op trees typed ruling h rules =
      becomes_over registry schema op trees _ (operands_become ruling.own.type trees typed ruling.operands h (keeps_rule registry schema op typed ruling rules).becomes)

  -- ---- with every cast written out

  mutual
    coerced_becomes : (tree : Expression) (typed : Typed) → typing registry schema tree ≡ Ok typed → Becomes registry schema tree (coerced registry schema tree)
    coerced_becomes (node op ts) typed h =
        let p = typed_parts registry schema op ts typed h in
        let us = coerced_all registry schema ts in
        let there = typings_same registry schema ts us (all_coerced_same registry schema ts p.below p.children_typed) ∙ p.children_typed in
        subst (λ os. Becomes registry schema (node op ts) (node op os)) (sym (fitted_typed registry schema op ts us p.below p.ruling p.children_typed p.rules))
        (becomes_then registry schema (node op ts) (node op us) _ (becomes_over registry schema op ts us (all_coerced_become ts p.below p.children_typed)) (node_becomes op us p.below p.ruling there p.rules))

    all_coerced_become : (trees : Trees Op) (typed : List Typed) → typing_all registry schema trees ≡ Ok typed → AllRelated (Becomes registry schema) trees (coerced_all registry schema trees)
    all_coerced_become no_more typed h = tt
    all_coerced_become (more tree trees) typed h =
        by_children (λ _. AllRelated (Becomes registry schema) (more tree trees) (coerced_all registry schema (more tree trees))) _ _ typed h (λ t ts first rest. (coerced_becomes tree t first, all_coerced_become trees ts rest))

  -- ---- casts that go

  cast_becomes : (target : Ty) (options : CastOptions) (x e : Expression) → cast_of target options x ≡ Some e → Becomes registry schema (node (CastOp target options) (more x no_more)) e
  cast_becomes target options (node (LiteralOp from value) no_more) e h = becomes_one registry schema _ _ (inl (literal_told from target value options refl h))
  cast_becomes target options (node (BinaryOp operator) operands) e h =
      let s = some_where (is_logical operator && same_type Truth target) (node (BinaryOp operator) operands) e h in
      let parts = and_parts (is_logical operator) (same_type Truth target) s.0 in
      let truth : Truth ≡ target = same_type_exact Truth target parts.1 in
      becomes_one registry schema _ _ (inl (cast_gone options operator operands parts.0 (ap (λ t. node (CastOp t options) (more (node (BinaryOp operator) operands) no_more)) (sym truth)) s.1))
  cast_becomes target options (node op operands) e h = cc

  placed_becomes : (op : Op) (us : Trees Op) (found : Option Expression) → in_place_of op us ≡ found → Becomes registry schema (node op us) (unwrap_or found (node op us))
  placed_becomes op us None is = becomes_itself registry schema (node op us)
  placed_becomes (CastOp target options) (more x no_more) (Some e) is = cast_becomes target options x e is
  placed_becomes op us (Some e) is = cc

  mutual
    inlined_becomes : (tree : Expression) → Becomes registry schema tree (inlined tree)
    inlined_becomes (node op ts) =
        becomes_then registry schema (node op ts) (node op (all_inlined ts)) _ (becomes_over registry schema op ts (all_inlined ts) (all_inlined_become ts)) (placed_becomes op (all_inlined ts) (in_place_of op (all_inlined ts)) refl)

    all_inlined_become : (trees : Trees Op) → AllRelated (Becomes registry schema) trees (all_inlined trees)
    all_inlined_become no_more = tt
    all_inlined_become (more tree trees) = (inlined_becomes tree, all_inlined_become trees)

  -- both
  pub written_becomes : (tree : Expression) (typed : Typed) → typing registry schema tree ≡ Ok typed → Becomes registry schema tree (written_out registry schema tree)
  written_becomes tree typed h = becomes_then registry schema tree (coerced registry schema tree) _ (coerced_becomes tree typed h) (inlined_becomes (coerced registry schema tree))
