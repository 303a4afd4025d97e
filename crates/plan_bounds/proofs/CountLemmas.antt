-- What coercion adds to an expression: the casts that it needs, no cast to the type that is there, and no other node.
use Rattle.std.proofs.Common.{◌≡◌, ◌≤◌, ◌&&◌, ℕ, zero, zero-le, is_some, ◌+◌, Bool, true, false, cond, List, [], ◌∷◌, Option, Some, None, Result, Ok, Err, refl, sym, ap, subst, ◌∙◌, arith}
use Rattle.std.specs.Prelude.{ℤ, sum, unwrap_or}
use Rattle.std.proofs.lemmas.List.Sums.{sum_by-cons}
use Rattle.std.proofs.lemmas.Bool.{and_from}
use Rattle.plan_types.specs.declared.error.ErrorKind.{ErrorKind}
use Rattle.plan_types.specs.declared.error.ErrorKind.TheVariants.{InvalidOperation}
use Rattle.plan_types.specs.declared.dtype.CastOptions.{CastOptions}
use Rattle.plan_types.specs.declared.dtype.CastOptions.TheVariants.{NonStrict}
use Rattle.plan_types.specs.Types.{Ty, Truth, Untyped, is_integer, is_known, same_type}
use Rattle.plan_types.specs.TypeLaws.{same_type_own, same_type_exact}
use Rattle.plan_types.specs.Casts.{can_cast}
use Rattle.plan_types.specs.CommonTypes.{type_alone}
use Rattle.plan_types.specs.Values.{Val, IntValue, in_range}
use Rattle.plan_types.specs.Schemas.{Name, Columns}
use Rattle.plan_types.proofs.CommonLemmas.{alone_itself, alone_known, literal_has}
use Rattle.plan_types.proofs.CastLemmas.{source_known}
use Rattle.plan_dsl.specs.Aliases.{renamed}
use Rattle.plan_dsl.specs.Coercion.{fitted, fitted_by, coerced, coerced_all}
use Rattle.plan_dsl.specs.Counts.{op_casts, expression_casts}
use Rattle.plan_dsl.specs.InlinedCasts.{all_inlined, cast_of, in_place_of, inlined, is_logical, literal_cast, written_out}
use Rattle.plan_dsl.specs.Literals.{settled, settled_type}
use Rattle.plan_dsl.specs.Ops.{Op, LiteralOp, BinaryOp, CastOp, AliasOp, Expression}
use Rattle.plan_dsl.specs.Registry.{Registry}
use Rattle.plan_dsl.specs.Trees.{Trees, node, no_more, more, fold_all}
use Rattle.plan_dsl.specs.Typing.{Typed, Ruling, rule, types_of, typed_to, typed_before, ruled_as, cast_taken, typing, typing_all}
use Rattle.plan_dsl.specs.Strictness.{CanBecome, cast_to, changed, number_as, number_literal, integer_has, as_operand, as_operands}
use Rattle.plan_dsl.proofs.LiteralLemmas.{becomes_literal, literal_typing, untyped, untyped_is_number}
use Rattle.plan_dsl.proofs.OpLemmas.{keeps_rule}
use Rattle.plan_dsl.proofs.SignatureLemmas.{AllBecome, IsTakenTo, makes, passes}
use Rattle.plan_dsl.proofs.OperandLemmas.{after_typed}
use Rattle.plan_dsl.proofs.SameLemmas.{typings_same}
use Rattle.plan_dsl.proofs.TypingLemmas.{by_children, by_no_children, typed_parts}
use Rattle.plan_coerce.proofs.InliningLemmas.{all_inlined_same, gives_literal, some_where}
use Rattle.plan_coerce.proofs.NameLemmas.{all_coerced_same, coerced_same}
use Rattle.plan_bounds.specs.Counts.{changed_casts, operand_casts, operands_casts, ruled_casts, node_casts, implicit_casts, all_implicit_casts, needed_casts, own_nodes, other_nodes_step, other_nodes, is_idle, idle_casts, all_idle_casts}

-- ---- coercion keeps types, so each operand is what the typing of its tree says

module _ (registry : Registry) (schema : Columns) where
  coerced_is : (op : Op) (children : Trees Op) (typed : List Typed) (ruling : Ruling) → typing_all registry schema children ≡ Ok typed → rule registry schema op typed ≡ Ok ruling → coerced registry schema (node op children) ≡ node op (as_operands (types_of typed) ruling.operands (coerced_all registry schema children))
  coerced_is op children typed ruling types rules =
      ap (λ r. node op (fitted registry schema op r (coerced_all registry schema children))) types
      ∙ ap (λ r. node op (fitted_by r (types_of typed) (coerced_all registry schema children))) rules

-- a type that lacks the number isn't the one that the number has alone
other_type : (number : ℤ) (own target : Ty) → type_alone (Untyped number) ≡ Some own → integer_has target number ≡ false → same_type own target ≡ false
other_type number own target alone lacks =
    elim (same_type own target) as (λ b. same_type own target ≡ b → b ≡ false) [
      | true ↦ λ e. let has = literal_has number own alone in let there = subst (λ t. integer_has t number ≡ true) (same_type_exact own target e) (and_from (is_integer own) (in_range own number) has.2 has.0) in cc
      | false ↦ λ e. refl
    ] refl

-- ---- a count by the cost of each node

-- what is asked of a cost: all literals have the same, and an alias has the same over all
pub record IsFlat (cost : Op → Result (List Typed) ErrorKind → ℕ) : Type 0 where
  pub literals : (type own : Ty) (value made : Val) (found other : Result (List Typed) ErrorKind) → cost (LiteralOp type value) found ≡ cost (LiteralOp own made) other
  pub aliases : (name : Name) (a b : Result (List Typed) ErrorKind) → cost (AliasOp name) a ≡ cost (AliasOp name) b

-- of one that coercion doesn't raise, besides: it is that of the node over operands that were made of their types, and a cast
-- to another type costs nothing
pub record IsCost (registry : Registry) (schema : Columns) (cost : Op → Result (List Typed) ErrorKind → ℕ) : Type 0 where
  pub flat : IsFlat cost
  pub kept : (op : Op) (typed : List Typed) (ruling : Ruling) → rule registry schema op typed ≡ Ok ruling → cost op (Ok (typed_to typed ruling.operands)) ≡ cost op (Ok typed)
  pub casts : (from target : Ty) (many : Bool) → is_known from ≡ true → same_type from target ≡ false → cost (CastOp target NonStrict) (Ok (record { type = from; many = many } ∷ [])) ≡ zero

module _ (registry : Registry) (schema : Columns) (cost : Op → Result (List Typed) ErrorKind → ℕ) where
  abbrev mutual
    pub counted : Expression → ℕ
    counted (node op children) = cost op (typing_all registry schema children) + all_counted children

    pub all_counted : Trees Op → ℕ
    all_counted no_more = 0
    all_counted (more tree trees) = counted tree + all_counted trees

  module _ (flat : IsFlat cost) where
    -- another under the same aliases
    pub renamed_counted : (tree x y : Expression) → counted (renamed tree x) + counted y ≡ counted (renamed tree y) + counted x
    renamed_counted (node (AliasOp name) (more tree no_more)) x y =
        let below = renamed_counted tree x y in
        let here = flat.aliases name (typing_all registry schema (more (renamed tree x) no_more)) (typing_all registry schema (more (renamed tree y) no_more)) in
        omega (arith, below, here)
    renamed_counted (node op children) x y = omega arith

    -- a number at the top that gets a type
    pub settled_counted : (tree : Expression) → counted (settled tree) ≡ counted tree
    settled_counted (node (AliasOp name) (more tree no_more)) =
        let below = settled_counted tree in
        let here = flat.aliases name (typing_all registry schema (more (settled tree) no_more)) (typing_all registry schema (more tree no_more)) in
        omega (arith, below, here)
    settled_counted (node (LiteralOp type value) children) =
        let here = flat.literals (settled_type type) type value value (typing_all registry schema children) (typing_all registry schema children) in
        omega (arith, here)
    settled_counted (node op children) = refl

    -- what stands for a cast costs no more than what stands under it
    cast_of_counted : (target : Ty) (options : CastOptions) (x e : Expression) → cast_of target options x ≡ Some e → counted e ≤ counted x
    cast_of_counted target options (node (LiteralOp from value) no_more) e h =
        let g = gives_literal from value target options e h in
        let is = ap counted g.is in
        let same = flat.literals target from g.made value (Ok []) (Ok []) in
        omega (arith, is, same)
    cast_of_counted target options (node (BinaryOp operator) operands) e h =
        let is = ap counted (some_where (is_logical operator && same_type Truth target) (node (BinaryOp operator) operands) e h).1 in
        omega (arith, is)
    cast_of_counted target options (node op operands) e h = cc

    in_place_counted : (op : Op) (ts : Trees Op) (found : Option Expression) → in_place_of op ts ≡ found → counted (unwrap_or found (node op ts)) ≤ counted (node op ts)
    in_place_counted op ts None is = omega arith
    in_place_counted (CastOp target options) (more x no_more) (Some e) is = let below = cast_of_counted target options x e is in omega (arith, below)
    in_place_counted op ts (Some e) is = cc

    -- so without casts that go an expression costs no more
    pub node_inlined_counted : (op : Op) (ts : Trees Op) → counted (inlined (node op ts)) ≤ counted (node op (all_inlined ts))
    node_inlined_counted op ts = in_place_counted op (all_inlined ts) (in_place_of op (all_inlined ts)) refl

    mutual
      pub inlined_counted : (tree : Expression) (typed : Typed) → typing registry schema tree ≡ Ok typed → counted (inlined tree) ≤ counted tree
      inlined_counted (node op ts) typed h =
          let p = typed_parts registry schema op ts typed h in
          let place = node_inlined_counted op ts in
          let same = ap (cost op) (typings_same registry schema ts (all_inlined ts) (all_inlined_same registry schema ts)) in
          let below = all_inlined_counted ts p.below p.children_typed in
          omega (arith, place, same, below)

      pub all_inlined_counted : (trees : Trees Op) (typed : List Typed) → typing_all registry schema trees ≡ Ok typed → all_counted (all_inlined trees) ≤ all_counted trees
      all_inlined_counted no_more typed h = omega arith
      all_inlined_counted (more tree trees) typed h =
          by_children (λ _. all_counted (all_inlined (more tree trees)) ≤ all_counted (more tree trees)) _ _ typed h (λ t ts first rest.
          let own = inlined_counted tree t first in
          let below = all_inlined_counted trees ts rest in
          omega (arith, own, below))

  module _ (is : IsCost registry schema cost) where
    -- a cast to another type
    cast_counted : (from target : Ty) (tree : Expression) (many : Bool) → typing registry schema tree ≡ Ok (record { type = from; many = many }) → is_known from ≡ true → same_type from target ≡ false → counted (cast_to target tree) ≡ counted tree
    cast_counted from target tree many h known other =
        let here = ap (λ r. cost (CastOp target NonStrict) (typed_before r (Ok []))) h ∙ is.casts from target many known other in
        omega (arith, here)

    own_counted : (number : ℤ) (own target : Ty) → type_alone (Untyped number) ≡ Some own → integer_has target number ≡ false → counted (cast_to target (number_literal own number)) ≡ counted (number_literal own number)
    own_counted number own target alone lacks =
        let has = literal_has number own alone in
        let typed = literal_typing registry schema own (IntValue number) (becomes_literal own number has.1 has.0) in
        cast_counted own target (number_literal own number) false typed has.1 (other_type number own target alone lacks)

    number_counted : (number : ℤ) (target : Ty) → CanBecome (Untyped number) target → counted (number_as number target) ≡ counted (untyped number)
    number_counted number target can =
        elim (integer_has target number) as (λ b. integer_has target number ≡ b → counted (cond b (number_literal target number) (cast_to target (number_literal (settled_type (Untyped number)) number))) ≡ counted (untyped number)) [
          | true ↦ λ e. let own = is.flat.literals target (Untyped number) (IntValue number) (IntValue number) (Ok []) (Ok []) in omega (arith, own)
          | false ↦ λ e.
              let alone = can.has number refl e in
              let type = ap (λ found. unwrap_or found (Untyped number)) alone.1 in
              let made = ap (λ t. counted (cast_to target (number_literal t number))) type ∙ own_counted number alone.0 target alone.1 e in
              let own = is.flat.literals alone.0 (Untyped number) (IntValue number) (IntValue number) (Ok []) (Ok []) in
              omega (arith, made, own)
        ] refl

    changed_counted : (from target : Ty) (tree : Expression) (many : Bool) → typing registry schema tree ≡ Ok (record { type = from; many = many }) → CanBecome from target → same_type from target ≡ false → counted (changed from target tree) ≡ counted tree
    changed_counted (Untyped number) target tree many h can other =
        let whole = renamed_counted is.flat tree (number_as number target) (untyped number) in
        let same = ap counted (untyped_is_number registry schema number tree many h).tree_is in
        let own = number_counted number target can in
        omega (arith, whole, same, own)
    changed_counted from target tree many h can other = cast_counted from target tree many h (source_known from target (can.casts (λ number e. cc))) other

    operand_counted : (own from target : Ty) (tree : Expression) (many : Bool) → typing registry schema tree ≡ Ok (record { type = from; many = many }) → IsTakenTo own from target → counted (as_operand from target tree) ≡ counted tree
    operand_counted own from target tree many h (passes kept owned) =
        let same = ap (same_type from) (sym kept) ∙ same_type_own from in
        subst (λ b. counted (cond b tree (changed from target tree)) ≡ counted tree) (sym same) refl
    operand_counted own from target tree many h (makes can) =
        elim (same_type from target) as (λ b. same_type from target ≡ b → counted (cond b tree (changed from target tree)) ≡ counted tree) [ true ↦ λ e. refl | false ↦ λ e. changed_counted from target tree many h can e ] refl

    operands_counted : (own : Ty) (trees : Trees Op) (typed : List Typed) (targets : List Ty) → typing_all registry schema trees ≡ Ok typed → AllBecome own (types_of typed) targets → all_counted (as_operands (types_of typed) targets trees) ≡ all_counted trees
    operands_counted own no_more typed targets h b =
        by_no_children (λ ts. all_counted (as_operands (types_of ts) targets no_more) ≡ all_counted no_more) typed h refl
    operands_counted own (more tree trees) typed [] h b =
        by_children (λ ts. AllBecome own (types_of ts) [] → all_counted (as_operands (types_of ts) [] (more tree trees)) ≡ all_counted (more tree trees)) _ _ typed h (λ t ts first rest none. absurd none) b
    operands_counted own (more tree trees) typed (target ∷ targets) h b =
        by_children (λ ts. AllBecome own (types_of ts) (target ∷ targets) → all_counted (as_operands (types_of ts) (target ∷ targets) (more tree trees)) ≡ all_counted (more tree trees)) _ _ typed h (λ t ts first rest become.
        let first_count = operand_counted own t.type target tree t.many first become.0 in
        let below = operands_counted own trees ts targets rest become.1 in
        let whole : all_counted (as_operands (types_of (t ∷ ts)) (target ∷ targets) (more tree trees)) ≡ counted (as_operand t.type target tree) + all_counted (as_operands (types_of ts) targets trees) = refl in
        omega (arith, first_count, below, whole)) b

    mutual
      -- coercion adds nothing to it
      pub coerced_counted : (tree : Expression) (typed : Typed) → typing registry schema tree ≡ Ok typed → counted (coerced registry schema tree) ≡ counted tree
      coerced_counted (node op children) typed h =
          let p = typed_parts registry schema op children typed h in
          let after = coerced_all registry schema children in
          let types = typings_same registry schema children after (all_coerced_same registry schema children p.below p.children_typed) ∙ p.children_typed in
          let tree_is = ap counted (coerced_is registry schema op children p.below p.ruling p.children_typed p.rules) in
          let taken = ap (cost op) (after_typed registry schema op after p.below types p.ruling p.rules) ∙ is.kept op p.below p.ruling p.rules ∙ sym (ap (cost op) p.children_typed) in
          let own = operands_counted p.ruling.own.type after p.below p.ruling.operands types (keeps_rule registry schema op p.below p.ruling p.rules).becomes in
          let below = all_coerced_counted children p.below p.children_typed in
          omega (arith, tree_is, taken, own, below)

      all_coerced_counted : (trees : Trees Op) (typed : List Typed) → typing_all registry schema trees ≡ Ok typed → all_counted (coerced_all registry schema trees) ≡ all_counted trees
      all_coerced_counted no_more typed h = refl
      all_coerced_counted (more tree trees) typed h =
          by_children (λ _. all_counted (coerced_all registry schema (more tree trees)) ≡ all_counted (more tree trees)) _ _ typed h (λ t ts first rest.
          let own = coerced_counted tree t first in
          let below = all_coerced_counted trees ts rest in
          omega (arith, own, below))

    -- nor do both
    pub written_counted : (tree : Expression) (typed : Typed) → typing registry schema tree ≡ Ok typed → counted (written_out registry schema tree) ≤ counted tree
    written_counted tree typed h =
        let same = coerced_counted tree typed h in
        let types = (coerced_same registry schema tree typed h).typing ∙ h in
        let less = inlined_counted is.flat (coerced registry schema tree) typed types in
        omega (arith, same, less)

-- ---- casts, all nodes but casts, and casts to the type that is there

abbrev pub cast_cost : Op → Result (List Typed) ErrorKind → ℕ
cast_cost (CastOp target options) found = 1
cast_cost op found = 0

abbrev pub other_cost : Op → Result (List Typed) ErrorKind → ℕ
other_cost (CastOp target options) found = 0
other_cost op found = 1

abbrev pub idle_cost : Bool → Op → Result (List Typed) ErrorKind → ℕ
idle_cost write op found = cond (is_idle write op found) 1 0

casts_flat : IsFlat cast_cost
casts_flat = record { literals = λ type own value made found other. refl; aliases = λ name a b. refl }

module _ (registry : Registry) (schema : Columns) where
  other_same : (op : Op) (a b : Result (List Typed) ErrorKind) → other_cost op a ≡ other_cost op b
  other_same (CastOp target options) a b = refl
  other_same op a b = refl

  others_cost : IsCost registry schema other_cost
  others_cost = record {
    flat = record { literals = λ type own value made found other. refl; aliases = λ name a b. refl };
    kept = λ op typed ruling rules. other_same op _ _;
    casts = λ from target many known other. refl;
  }

  -- a cast takes its operand to the type that it has alone
  cast_kept : (target : Ty) (options : CastOptions) (from : Typed) (own : Option Ty) → type_alone from.type ≡ own → (ruling : Ruling) → ruled_as (cast_taken target own) from.many ≡ Ok ruling → idle_cost false (CastOp target options) (Ok (typed_to (from ∷ []) ruling.operands)) ≡ idle_cost false (CastOp target options) (Ok (from ∷ []))
  cast_kept target options from None alone ruling rules = cc
  cast_kept target options from (Some own) alone ruling rules =
      let known = alone_known from.type own alone in
      let itself = ap (λ found. unwrap_or found own) (alone_itself own known) in
      let before = ap (λ found. unwrap_or found from.type) alone in
      elim (can_cast own target) as (λ b. ruled_as (cond b (Ok (record { operands = own ∷ []; type = target })) (Err InvalidOperation)) from.many ≡ Ok ruling → idle_cost false (CastOp target options) (Ok (typed_to (from ∷ []) ruling.operands)) ≡ idle_cost false (CastOp target options) (Ok (from ∷ []))) [
        | true ↦ λ e.
            let is : ruling ≡ record { operands = own ∷ []; own = record { type = target; many = from.many } } = cc in
            ap (λ r. idle_cost false (CastOp target options) (Ok (typed_to (from ∷ []) r.operands))) is ∙ ap (λ t. cond (same_type t target) 1 0) (itself ∙ sym before)
        | false ↦ λ e. cc
      ] rules

  idle_kept : (op : Op) (typed : List Typed) (ruling : Ruling) → rule registry schema op typed ≡ Ok ruling → idle_cost false op (Ok (typed_to typed ruling.operands)) ≡ idle_cost false op (Ok typed)
  idle_kept (CastOp target options) (from ∷ []) ruling rules = cast_kept target options from (type_alone from.type) refl ruling rules
  idle_kept (CastOp target options) typed ruling rules = cc
  idle_kept op typed ruling rules = refl

  idle_flat : (write : Bool) → IsFlat (idle_cost write)
  idle_flat write = record { literals = λ type own value made found other. refl; aliases = λ name a b. refl }

  idle_costs : IsCost registry schema (idle_cost false)
  idle_costs = record {
    flat = idle_flat false;
    kept = idle_kept;
    casts = λ from target many known other. ap (λ found. cond (same_type (unwrap_or found from) target) 1 0) (alone_itself from known) ∙ ap (λ b. cond b 1 0) other;
  }

  -- ---- what is counted is what the definitions count

  pub op_casts_are : (op : Op) (children : Trees Op) → op_casts op (fold_all op_casts children) ≡ cast_cost op (typing_all registry schema children) + sum (fold_all op_casts children)
  op_casts_are (CastOp target options) children = refl
  op_casts_are op children = omega arith

  op_others_are : (op : Op) (children : Trees Op) → other_nodes_step false op (fold_all (other_nodes_step false) children) ≡ other_cost op (typing_all registry schema children) + sum (fold_all (other_nodes_step false) children)
  op_others_are (CastOp target options) children = omega arith
  op_others_are op children = refl

  mutual
    pub casts_counted : (tree : Expression) → expression_casts tree ≡ counted registry schema cast_cost tree
    casts_counted (node op children) = let own = op_casts_are op children in let below = all_casts_counted children in omega (arith, own, below)

    all_casts_counted : (trees : Trees Op) → sum (fold_all op_casts trees) ≡ all_counted registry schema cast_cost trees
    all_casts_counted no_more = refl
    all_casts_counted (more tree trees) =
        let whole = sum_by-cons (λ (x : ℕ). x) (expression_casts tree) (fold_all op_casts trees) in
        let own = casts_counted tree in
        let below = all_casts_counted trees in
        omega (arith, whole, own, below)

  mutual
    pub others_counted : (tree : Expression) → other_nodes false tree ≡ counted registry schema other_cost tree
    others_counted (node op children) = let own = op_others_are op children in let below = all_others_counted children in omega (arith, own, below)

    all_others_counted : (trees : Trees Op) → sum (fold_all (other_nodes_step false) trees) ≡ all_counted registry schema other_cost trees
    all_others_counted no_more = refl
    all_others_counted (more tree trees) =
        let whole = sum_by-cons (λ (x : ℕ). x) (other_nodes false tree) (fold_all (other_nodes_step false) trees) in
        let own = others_counted tree in
        let below = all_others_counted trees in
        omega (arith, whole, own, below)

  module _ (write : Bool) where
    mutual
      pub idle_counted : (tree : Expression) → idle_casts write registry schema tree ≡ counted registry schema (idle_cost write) tree
      idle_counted (node op children) = ap (λ n. idle_cost write op (typing_all registry schema children) + n) (all_idle_counted children)

      all_idle_counted : (trees : Trees Op) → all_idle_casts write registry schema trees ≡ all_counted registry schema (idle_cost write) trees
      all_idle_counted no_more = refl
      all_idle_counted (more tree trees) = let own = idle_counted tree in let below = all_idle_counted trees in omega (arith, own, below)

  -- ---- casts that are put in count where they don't go

  -- a number's cast
  literal_casts : (found : Option Expression) (number : ℤ) (own target : Ty) → literal_cast own (IntValue number) target NonStrict ≡ found → counted registry schema cast_cost (unwrap_or found (cast_to target (number_literal own number))) ≤ cond (is_some found) 0 1
  literal_casts None number own target is = omega arith
  literal_casts (Some e) number own target is = let none = ap (counted registry schema cast_cost) (gives_literal own (IntValue number) target NonStrict e is).is in omega (arith, none)

  number_casts : (number : ℤ) (target : Ty) → counted registry schema cast_cost (inlined (number_as number target)) ≤ changed_casts (Untyped number) target
  number_casts number target =
      elim (integer_has target number) as (λ b. counted registry schema cast_cost (inlined (cond b (number_literal target number) (cast_to target (number_literal (settled_type (Untyped number)) number)))) ≤ changed_casts (Untyped number) target) [
        | true ↦ zero-le
        | false ↦ literal_casts (literal_cast (settled_type (Untyped number)) (IntValue number) target NonStrict) number (settled_type (Untyped number)) target refl
      ]

  -- aliases are no casts
  renamed_casts : (tree x : Expression) → counted registry schema cast_cost (inlined (renamed tree x)) ≡ counted registry schema cast_cost (inlined x)
  renamed_casts (node (AliasOp name) (more tree no_more)) x = let below = renamed_casts tree x in omega (arith, below)
  renamed_casts (node op children) x = refl

  changed_needs : (from target : Ty) (tree : Expression) → counted registry schema cast_cost (inlined (changed from target tree)) ≤ counted registry schema cast_cost (inlined tree) + changed_casts from target
  changed_needs (Untyped number) target tree =
      let under = renamed_casts tree (number_as number target) in
      let own = number_casts number target in
      omega (arith, under, own)
  changed_needs from target tree =
      let place = node_inlined_counted registry schema cast_cost casts_flat (CastOp target NonStrict) (more tree no_more) in
      omega (arith, place)

  operand_needs : (from target : Ty) (tree : Expression) → counted registry schema cast_cost (inlined (as_operand from target tree)) ≤ counted registry schema cast_cost (inlined tree) + operand_casts from target
  operand_needs from target tree =
      elim (same_type from target) as (λ b. counted registry schema cast_cost (inlined (cond b tree (changed from target tree))) ≤ counted registry schema cast_cost (inlined tree) + cond b 0 (changed_casts from target)) [ true ↦ omega arith | false ↦ changed_needs from target tree ]

  operands_need : (types targets : List Ty) (trees : Trees Op) → all_counted registry schema cast_cost (all_inlined (as_operands types targets trees)) ≤ all_counted registry schema cast_cost (all_inlined trees) + operands_casts types targets
  operands_need [] targets trees = zero-le
  operands_need (from ∷ types) [] trees = zero-le
  operands_need (from ∷ types) (target ∷ targets) no_more = zero-le
  operands_need (from ∷ types) (target ∷ targets) (more tree trees) =
      let own = operand_needs from target tree in
      let below = operands_need types targets trees in
      let whole : all_counted registry schema cast_cost (all_inlined (as_operands (from ∷ types) (target ∷ targets) (more tree trees))) ≡ counted registry schema cast_cost (inlined (as_operand from target tree)) + all_counted registry schema cast_cost (all_inlined (as_operands types targets trees)) = refl in
      omega (arith, own, below, whole)

  cast_cost_same : (op : Op) (a b : Result (List Typed) ErrorKind) → cast_cost op a ≡ cast_cost op b
  cast_cost_same (CastOp target options) a b = refl
  cast_cost_same op a b = refl

  mutual
    written_needs : (tree : Expression) (typed : Typed) → typing registry schema tree ≡ Ok typed → counted registry schema cast_cost (written_out registry schema tree) ≤ counted registry schema cast_cost tree + implicit_casts false registry schema tree
    written_needs (node op children) typed h =
        let p = typed_parts registry schema op children typed h in
        let after = coerced_all registry schema children in
        let made = as_operands (types_of p.below) p.ruling.operands after in
        let tree_is = ap (λ t. counted registry schema cast_cost (inlined t)) (coerced_is registry schema op children p.below p.ruling p.children_typed p.rules) in
        let place = node_inlined_counted registry schema cast_cost casts_flat op made in
        let same = cast_cost_same op (typing_all registry schema (all_inlined made)) (typing_all registry schema children) in
        let own = operands_need (types_of p.below) p.ruling.operands after in
        let below = all_written_need children p.below p.children_typed in
        let here : node_casts false registry schema op (typing_all registry schema children) ≡ operands_casts (types_of p.below) p.ruling.operands =
        ap (node_casts false registry schema op) p.children_typed ∙ ap (ruled_casts (types_of p.below)) p.rules in
        omega (arith, tree_is, place, same, own, below, here)

    all_written_need : (trees : Trees Op) (typed : List Typed) → typing_all registry schema trees ≡ Ok typed → all_counted registry schema cast_cost (all_inlined (coerced_all registry schema trees)) ≤ all_counted registry schema cast_cost trees + all_implicit_casts false registry schema trees
    all_written_need no_more typed h = omega arith
    all_written_need (more tree trees) typed h =
        by_children (λ _. all_counted registry schema cast_cost (all_inlined (coerced_all registry schema (more tree trees))) ≤ all_counted registry schema cast_cost (more tree trees) + all_implicit_casts false registry schema (more tree trees)) _ _ typed h (λ t ts first rest.
        let own = written_needs tree t first in
        let below = all_written_need trees ts rest in
        omega (arith, own, below))

  -- ---- an expression that is written out

  module _ (tree : Expression) (typed : Typed) (h : typing registry schema tree ≡ Ok typed) where
    -- has no more casts than it needs
    pub written_casts : expression_casts (written_out registry schema tree) ≤ needed_casts false registry schema tree
    written_casts =
        let whole = written_needs tree typed h in
        let before = casts_counted tree in
        let after = casts_counted (written_out registry schema tree) in
        omega (arith, whole, before, after)

    -- no more other nodes than before
    pub written_others : other_nodes false (written_out registry schema tree) ≤ other_nodes false tree
    written_others =
        let whole = written_counted registry schema other_cost others_cost tree typed h in
        let before = others_counted tree in
        let after = others_counted (written_out registry schema tree) in
        omega (arith, whole, before, after)

    -- and no more casts to a type that is there
    pub written_idle : idle_casts false registry schema (written_out registry schema tree) ≤ idle_casts false registry schema tree
    written_idle =
        let whole = written_counted registry schema (idle_cost false) idle_costs tree typed h in
        let before = idle_counted false tree in
        let after = idle_counted false (written_out registry schema tree) in
        omega (arith, whole, before, after)

  -- a number at the top that gets a type is no cast, and one node
  pub settled_casts : (tree : Expression) → expression_casts (settled tree) ≡ expression_casts tree
  settled_casts tree = casts_counted (settled tree) ∙ settled_counted registry schema cast_cost casts_flat tree ∙ sym (casts_counted tree)

  module _ (write : Bool) where
    pub settled_others : (tree : Expression) → other_nodes write (settled tree) ≡ other_nodes write tree
    settled_others (node (AliasOp name) (more tree no_more)) = ap (λ n. own_nodes write (AliasOp name) 1 + sum (n ∷ [])) (settled_others tree)
    settled_others (node (LiteralOp type value) children) = refl
    settled_others (node op children) = refl

    pub settled_idle : (tree : Expression) → idle_casts write registry schema (settled tree) ≡ idle_casts write registry schema tree
    settled_idle tree = idle_counted write (settled tree) ∙ settled_counted registry schema (idle_cost write) (idle_flat write) tree ∙ sym (idle_counted write tree)
