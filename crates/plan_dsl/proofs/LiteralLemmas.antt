-- Numbers without a type: which expressions they are, what they mean, and that strict expressions are none.
use Rattle.std.proofs.Common.{◌≡◌, ◌≢◌, ◌∙◌, Bool, true, false, cond, List, [], ◌∷◌, Some, None, is_some, Ok, Err, refl, sym, ap, subst}
use Rattle.std.specs.Prelude.{ℤ, ◌&&◌, unwrap_or}
use Rattle.std.specs.List.{AllByRecursion}
use Rattle.std.proofs.lemmas.Bool.{and_parts, and_from}
use Rattle.plan_types.specs.Types.{Ty, Truth, Integer, TextType, Untyped, is_integer, is_known, same_type}
use Rattle.plan_types.specs.Schemas.{Name, Columns}
use Rattle.plan_types.specs.Values.{Val, IntValue, in_range}
use Rattle.plan_types.specs.Outcomes.{Done, then_do}
use Rattle.plan_types.specs.Casts.{Gives, no_place, out_of_range}
use Rattle.plan_types.specs.CommonTypes.{type_alone}
use Rattle.plan_types.specs.Frames.{Frame}
use Rattle.plan_types.specs.declared.error.ErrorKind.TheVariants.{InvalidOperation}
use Rattle.plan_types.specs.declared.dtype.CastOptions.TheVariants.{NonStrict}
use Rattle.plan_types.proofs.SupertypeLemmas.{no_number}
use Rattle.plan_types.proofs.CommonLemmas.{alone_known, alone_itself}
use Rattle.plan_dsl.specs.Registry.{Registry}
use Rattle.plan_dsl.specs.Trees.{Trees, node, no_more, more}
use Rattle.plan_dsl.specs.Aliases.{renamed}
use Rattle.plan_dsl.specs.Ops.{Op, LiteralOp, AliasOp, Expression}
use Rattle.plan_dsl.specs.Names.{label_of}
use Rattle.plan_dsl.specs.Literals.{is_literal, is_literal_of, settled, settled_op, settled_type}
use Rattle.plan_dsl.specs.Typing.{Typed, Ruling, literal_taken, own_typed, rule, ruled_as, typing, typing_all}
use Rattle.plan_dsl.specs.OperatorTypes.{Taken}
use Rattle.plan_dsl.specs.Kernels.{cast_meaning, cast_values, value_before}
use Rattle.plan_dsl.specs.Meaning.{meaning, ruled_meaning}
use Rattle.plan_dsl.specs.Strictness.{IsStrict, is_strict, is_strict_over, are_strict}
use Rattle.plan_dsl.proofs.TypingLemmas.{TypedParts, by_children, by_no_children, ok_where, ruled_is, typed_parts}
use Rattle.plan_dsl.proofs.OpLemmas.{HasOwnType, keeps_rule, of_columns, of_number, of_operand}
use Rattle.plan_dsl.proofs.StrictLemmas.{strict_parts}

not_both : (type : Ty) (number : ℤ) → is_known type ≡ true → type ≡ Untyped number → ⊥
not_both type number k e = let unknown : is_known type ≡ false = ap is_known e in cc

same_number : (number other : ℤ) → Untyped number ≡ Untyped other → number ≡ other
same_number number other e = cc

typed_own : (registry : Registry) (schema : Columns) (op : Op) (children : Trees Op) (typed : Typed) (p : TypedParts registry schema op children typed) → HasOwnType op p.below typed
typed_own registry schema op children typed p = subst (HasOwnType op p.below) p.is (keeps_rule registry schema op p.below p.ruling p.rules).own

head_is : (x y : Typed) (xs ys : List Typed) → (x ∷ xs) ≡ (y ∷ ys) → x ≡ y
head_is x y xs ys e = cc

tail_is : (x y : Typed) (xs ys : List Typed) → (x ∷ xs) ≡ (y ∷ ys) → xs ≡ ys
tail_is x y xs ys e = cc

-- what children are that have no typings, or one
no_children : (registry : Registry) (schema : Columns) (children : Trees Op) → typing_all registry schema children ≡ Ok [] → children ≡ no_more
no_children registry schema no_more h = refl
no_children registry schema (more child rest) h =
    by_children (λ ts. [] ≡ ts → more child rest ≡ no_more) _ _ [] h (λ t ts first others e. cc) refl

one_child : (registry : Registry) (schema : Columns) (children : Trees Op) (typed : Typed) → typing_all registry schema children ≡ Ok (typed ∷ []) → (tree : Expression) × (children ≡ more tree no_more) × (typing registry schema tree ≡ Ok typed)
one_child registry schema no_more typed h = cc
one_child registry schema (more child rest) typed h =
    by_children (λ ts. ts ≡ (typed ∷ []) → (tree : Expression) × (more child rest ≡ more tree no_more) × (typing registry schema tree ≡ Ok typed)) _ _ (typed ∷ []) h (λ t ts first others e.
    (child, ap (more child) (no_children registry schema rest (others ∙ ap Ok (tail_is t typed ts [] e))), first ∙ ap Ok (head_is t typed ts [] e))) refl

-- a node of a number's own type: that literal, or an alias of an operand of that type
pub data IsNumberNode (registry : Registry) (schema : Columns) (number : ℤ) (many : Bool) (op : Op) (children : Trees Op) : Type 0 where
  bare : (op_is : op ≡ LiteralOp (Untyped number) (IntValue number)) (none : children ≡ no_more) (single : many ≡ false) (literal : is_literal (Untyped number) (IntValue number) ≡ true) → IsNumberNode registry schema number many op children
  under : (name : Name) (tree : Expression) (op_is : op ≡ AliasOp name) (over : children ≡ more tree no_more) (typed : typing registry schema tree ≡ Ok (record { type = Untyped number; many = many })) → IsNumberNode registry schema number many op children

number_by : (registry : Registry) (schema : Columns) (op : Op) (children : Trees Op) (typed : List Typed) (number : ℤ) (many : Bool) → typing_all registry schema children ≡ Ok typed → HasOwnType op typed (record { type = Untyped number; many = many }) → IsNumberNode registry schema number many op children
number_by registry schema op children typed number many h (of_columns known) = absurd (not_both (Untyped number) number known refl)
number_by registry schema op children typed number many h (of_number other is) =
    let same = same_number other number (sym is.type_is) in
    bare (is.op_is ∙ ap (λ n. LiteralOp (Untyped n) (IntValue n)) same) (no_children registry schema children (h ∙ ap Ok is.bare)) is.single (subst (λ n. is_literal (Untyped n) (IntValue n) ≡ true) same is.literal)
number_by registry schema op children typed number many h (of_operand is) =
    let child = one_child registry schema children _ (h ∙ ap Ok is.over) in
    under is.name child.0 is.op_is child.1 child.2

pub number_node : (registry : Registry) (schema : Columns) (number : ℤ) (op : Op) (children : Trees Op) (many : Bool) → typing registry schema (node op children) ≡ Ok (record { type = Untyped number; many = many }) → IsNumberNode registry schema number many op children
number_node registry schema number op children many h =
    let p = typed_parts registry schema op children _ h in
    number_by registry schema op children p.below number many p.children_typed (typed_own registry schema op children _ p)

-- a number without a type, as it is written
abbrev pub untyped : ℤ → Expression
untyped number = node (LiteralOp (Untyped number) (IntValue number)) no_more

-- an expression of a number's own type is that literal, maybe under aliases
pub record IsNumber (number : ℤ) (tree : Expression) (many : Bool) : Type 0 where
  pub tree_is : tree ≡ renamed tree (untyped number)
  pub single : many ≡ false
  pub literal : is_literal (Untyped number) (IntValue number) ≡ true

bare_number : (number : ℤ) (op : Op) (children : Trees Op) (many : Bool) → op ≡ LiteralOp (Untyped number) (IntValue number) → children ≡ no_more → many ≡ false → is_literal (Untyped number) (IntValue number) ≡ true → IsNumber number (node op children) many
bare_number number op children many op_is none single literal =
    let e : node op children ≡ untyped number = ap (λ o. node o children) op_is ∙ ap (node (LiteralOp (Untyped number) (IntValue number))) none in
    record { tree_is = e ∙ ap (λ t. renamed t (untyped number)) (sym e); single = single; literal = literal }

pub child_is : (a b : Expression) → more a no_more ≡ more b no_more → a ≡ b
child_is a b e = cc

pub untyped_is_number : (registry : Registry) (schema : Columns) (number : ℤ) (tree : Expression) (many : Bool) → typing registry schema tree ≡ Ok (record { type = Untyped number; many = many }) → IsNumber number tree many
untyped_is_number registry schema number (node op (more child no_more)) many h =
    elim (number_node registry schema number op (more child no_more) many h) as (λ _. IsNumber number (node op (more child no_more)) many) [
      | bare op_is none single literal ↦ bare_number number op (more child no_more) many op_is none single literal
      | under name tree op_is over typed ↦
          let below = untyped_is_number registry schema number child many (ap (typing registry schema) (child_is child tree over) ∙ typed) in
          record {
            tree_is = ap (λ o. node o (more child no_more)) op_is ∙ ap (λ t. node (AliasOp name) (more t no_more)) below.tree_is ∙ ap (λ o. renamed (node o (more child no_more)) (untyped number)) (sym op_is);
            single = below.single;
            literal = below.literal;
          }
    ]
untyped_is_number registry schema number (node op children) many h =
    elim (number_node registry schema number op children many h) as (λ _. IsNumber number (node op children) many) [
      | bare op_is none single literal ↦ bare_number number op children many op_is none single literal
      | under name tree op_is over typed ↦ cc
    ]

-- a literal means its value
pub literal_means : (registry : Registry) (frame : Frame) (type : Ty) (value : Val) → is_literal type value ≡ true → meaning registry frame (node (LiteralOp type value) no_more) ≡ (λ rows. Done (value ∷ []))
literal_means registry frame type value h =
    ap (λ b. ruled_meaning registry frame (LiteralOp type value) [] (ruled_as (cond b (Ok (record { operands = []; type = type })) (Err InvalidOperation)) false) []) h

pub literal_typing : (registry : Registry) (schema : Columns) (type : Ty) (value : Val) → is_literal type value ≡ true → typing registry schema (node (LiteralOp type value) no_more) ≡ Ok (record { type = type; many = false })
literal_typing registry schema type value h =
    ap (λ b. own_typed (ruled_as (cond b (Ok (record { operands = []; type = type })) (Err InvalidOperation)) false)) h

pub becomes_literal : (target : Ty) (number : ℤ) → is_known target ≡ true → in_range target number ≡ true → is_literal target (IntValue number) ≡ true
becomes_literal target number known has = and_from (in_range target number) (is_some (type_alone target)) has (ap is_some (alone_itself target known))

-- a number that is cast to a type that has it
pub number_cast : (number : ℤ) (target : Ty) → is_known target ≡ true → in_range target number ≡ true → cast_meaning (Untyped number) target NonStrict (λ rows. Done (IntValue number ∷ [])) ≡ (λ rows. Done (IntValue number ∷ []))
number_cast number Truth known has = absurd (no_number Truth number refl refl has)
number_cast number TextType known has = absurd (no_number TextType number refl refl has)
number_cast number (Integer signed bits) known has =
    ap (λ b. λ rows. value_before (cond b (Gives (IntValue number)) (out_of_range NonStrict (Integer signed bits) number)) (Done [])) has
number_cast number (Untyped other) known has = cc
number_cast number _ known has =
    ap (λ b. λ rows. value_before (cond b (Gives (IntValue number)) (no_place NonStrict)) (Done [])) has

-- a number that is cast from the type that it has alone, to one of columns that is another
pub own_number_cast : (number : ℤ) (own target : Ty) → is_integer own ≡ true → same_type own target ≡ false → is_known target ≡ true → cast_meaning own target NonStrict (λ rows. Done (IntValue number ∷ [])) ≡ cast_meaning (Untyped number) target NonStrict (λ rows. Done (IntValue number ∷ []))
own_number_cast number (Integer signed bits) (Untyped other) integer apart known = cc
own_number_cast number (Integer signed bits) (Integer other width) integer apart known =
    ap (λ b. cond b (λ rows. Done (IntValue number ∷ [])) (λ rows. then_do (Done (IntValue number ∷ [])) (cast_values (Integer signed bits) (Integer other width) NonStrict))) apart
own_number_cast number (Integer signed bits) _ integer apart known = refl
own_number_cast number _ target integer apart known = cc

-- the number that has no type gets one at the top, and nothing else changes
pub settled_label : (tree : Expression) → label_of (settled tree) ≡ label_of tree
settled_label (node (AliasOp name) (more tree no_more)) = refl
settled_label (node (LiteralOp type value) children) = refl
settled_label (node _ children) = refl

-- a literal has its own type
literal_type_is : (registry : Registry) (schema : Columns) (type : Ty) (value : Val) (typed : List Typed) (ruling : Ruling) → rule registry schema (LiteralOp type value) typed ≡ Ok ruling → type ≡ ruling.own.type
literal_type_is registry schema type value [] ruling h =
    ruled_is (λ r. type ≡ r.own.type) (literal_taken type value) false ruling h (λ taken found. ap (λ (t : Taken). t.type) (ok_where (is_literal type value) _ taken InvalidOperation found).1)
literal_type_is registry schema type value (t ∷ ts) ruling h = cc

-- so a strict expression stays
pub strict_settled : (registry : Registry) (schema : Columns) (tree : Expression) → IsStrict registry schema tree → settled tree ≡ tree
strict_settled registry schema (node (AliasOp name) (more tree no_more)) strict =
    let parts = and_parts (is_strict_over registry schema (AliasOp name) (typing_all registry schema (more tree no_more))) (is_strict registry schema tree && true) strict in
    ap (λ t. node (AliasOp name) (more t no_more)) (strict_settled registry schema tree (and_parts (is_strict registry schema tree) true parts.1).0)
strict_settled registry schema (node (LiteralOp type value) children) strict =
    let over = (and_parts (is_strict_over registry schema (LiteralOp type value) (typing_all registry schema children)) (are_strict registry schema children) strict).0 in
    let s = strict_parts registry schema (LiteralOp type value) children over in
    let known = ap is_known (literal_type_is registry schema type value s.typed s.ruling s.rules) ∙ s.known in
    ap (λ t. node (LiteralOp t value) children) (ap (λ o. unwrap_or o type) (alone_itself type known))
strict_settled registry schema (node _ children) strict = refl

-- what holds of typings of columns, and of those of numbers, holds of each typed expression
module _ (registry : Registry) (schema : Columns) (P : Typed → Type 0) (columns : (typed : Typed) → is_known typed.type ≡ true → P typed) (numbers : (number : ℤ) (typed : Typed) → typed.type ≡ Untyped number → is_some (type_alone (Untyped number)) ≡ true → P typed) where
  by_own : (op : Op) (typed : List Typed) (own : Typed) → HasOwnType op typed own → AllByRecursion P typed → P own
  by_own op typed own (of_columns known) each = columns own known
  by_own op typed own (of_number number is) each = numbers number own is.type_is (and_parts (is_literal_of (Untyped number) (IntValue number)) (is_some (type_alone (Untyped number))) is.literal).1
  by_own op typed own (of_operand is) each = (subst (AllByRecursion P) is.over each).0

  mutual
    by_typing : (tree : Expression) (typed : Typed) → typing registry schema tree ≡ Ok typed → P typed
    by_typing (node op children) typed h =
        let p = typed_parts registry schema op children typed h in
        by_own op p.below typed (typed_own registry schema op children typed p) (by_typings children p.below p.children_typed)

    by_typings : (trees : Trees Op) (typed : List Typed) → typing_all registry schema trees ≡ Ok typed → AllByRecursion P typed
    by_typings no_more typed h = by_no_children (AllByRecursion P) typed h tt
    by_typings (more tree trees) typed h = by_children (AllByRecursion P) _ _ typed h (λ t ts first rest. (by_typing tree t first, by_typings trees ts rest))

-- a typed expression's type is one of columns, or a number's own
pub typed_known : (registry : Registry) (schema : Columns) (tree : Expression) (type : Ty) (many : Bool) → typing registry schema tree ≡ Ok (record { type = type; many = many }) → ((number : ℤ) → type ≢ Untyped number) → is_known type ≡ true
typed_known registry schema tree type many h apart =
    by_typing registry schema (λ typed. ((number : ℤ) → typed.type ≢ Untyped number) → is_known typed.type ≡ true)
    (λ typed known apart. known) (λ number typed is some apart. absurd (apart number is)) tree (record { type = type; many = many }) h apart

-- the type of a literal that is a number alone is no number's own
settled_number : (type : Ty) (number : ℤ) → settled_type type ≡ Untyped number → is_some (type_alone (Untyped number)) ≡ true → ⊥
settled_number type number same some =
    elim (type_alone type) as (λ o. type_alone type ≡ o → unwrap_or o type ≡ Untyped number → ⊥) [
      | None ↦ λ alone same. let none : is_some (type_alone type) ≡ true = ap (λ t. is_some (type_alone t)) same ∙ some in let empty : is_some (type_alone type) ≡ false = ap is_some alone in cc
      | Some own ↦ λ alone same. not_both own number (alone_known type own alone) same
    ] refl same

one_type : (type other : Ty) (value given : Val) → LiteralOp type value ≡ LiteralOp other given → type ≡ other
one_type type other value given e = cc

-- a plan's node takes no number without a type
none_settled : (op : Op) (number : ℤ) → settled_op op ≡ LiteralOp (Untyped number) (IntValue number) → is_some (type_alone (Untyped number)) ≡ true → ⊥
none_settled (LiteralOp type value) number e some = settled_number type number (one_type (settled_type type) (Untyped number) value (IntValue number) e) some
none_settled _ number e some = cc

settled_alias : (op : Op) (name : Name) → settled_op op ≡ AliasOp name → op ≡ AliasOp name
settled_alias (LiteralOp type value) name e = cc
settled_alias _ name e = e

-- a node that is settled is no number
node_settled : (registry : Registry) (schema : Columns) (number : ℤ) (many : Bool) (op : Op) (children : Trees Op) → typing registry schema (node (settled_op op) children) ≡ Ok (record { type = Untyped number; many = many }) → ((name : Name) (tree : Expression) → op ≡ AliasOp name → children ≡ more tree no_more → ⊥) → ⊥
node_settled registry schema number many op children h apart =
    elim (number_node registry schema number (settled_op op) children many h) as (λ _. ⊥) [
      | bare op_is none single literal ↦ none_settled op number op_is (and_parts (is_literal_of (Untyped number) (IntValue number)) (is_some (type_alone (Untyped number))) literal).1
      | under name tree op_is over typed ↦ apart name tree (settled_alias op name op_is) over
    ]

settled_untyped : (registry : Registry) (schema : Columns) (tree : Expression) (number : ℤ) (many : Bool) → typing registry schema (settled tree) ≡ Ok (record { type = Untyped number; many = many }) → ⊥
settled_untyped registry schema (node (AliasOp name) (more tree no_more)) number many h =
    elim (number_node registry schema number (AliasOp name) (more (settled tree) no_more) many h) as (λ _. ⊥) [
      | bare op_is none single literal ↦ cc
      | under other below op_is over typed ↦ settled_untyped registry schema tree number many (ap (typing registry schema) (child_is (settled tree) below over) ∙ typed)
    ]
settled_untyped registry schema (node op children) number many h = node_settled registry schema number many op children h (λ name tree e over. cc)

-- so what it takes has a type of columns
pub settled_known : (registry : Registry) (schema : Columns) (tree : Expression) (typed : Typed) → typing registry schema (settled tree) ≡ Ok typed → is_known typed.type ≡ true
settled_known registry schema tree typed h =
    typed_known registry schema (settled tree) typed.type typed.many h (λ number e. settled_untyped registry schema tree number typed.many (h ∙ ap (λ t. Ok (record { type = t; many = typed.many })) e))
