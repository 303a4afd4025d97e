-- Numbers without a type that get the one that they have alone.
use Rattle.std.specs.Prelude.{unwrap_or}
use Rattle.std.proofs.Common.{◌≡◌, ℤ, Bool, true, false, cond, List, [], ◌∷◌, Some, Result, Ok, Err, refl, sym, ap, ◌∙◌, subst}
use Rattle.std.specs.List.{AllByRecursion}
use Rattle.std.proofs.lemmas.Bool.{and_from, and_parts, false≢true}
use Rattle.plan_types.specs.Types.{Ty, Untyped, is_known}
use Rattle.plan_types.specs.Values.{IntValue}
use Rattle.plan_types.specs.CommonTypes.{type_alone}
use Rattle.plan_types.specs.Schemas.{Name, Columns}
use Rattle.plan_types.specs.TypeLaws.{same_type_own}
use Rattle.plan_types.specs.declared.error.ErrorKind.{ErrorKind}
use Rattle.plan_types.specs.declared.error.ErrorKind.TheVariants.{InvalidOperation}
use Rattle.plan_types.proofs.CastLemmas.{cast_own}
use Rattle.plan_types.proofs.CommonLemmas.{alone_itself, literal_has}
use Rattle.plan_dsl.specs.Coercion.{coerced}
use Rattle.plan_dsl.specs.InlinedCasts.{stays}
use Rattle.plan_dsl.specs.Registry.{Registry}
use Rattle.plan_dsl.specs.Literals.{is_literal, settled, settled_type}
use Rattle.plan_dsl.specs.Aliases.{renamed}
use Rattle.plan_dsl.specs.Ops.{Op, AliasOp, LiteralOp, Expression}
use Rattle.plan_dsl.specs.Strictness.{CanBecome, integer_has, is_strict_over, is_strict_rule, number_as, number_literal, same_types}
use Rattle.plan_dsl.specs.Trees.{Trees, node, no_more, more}
use Rattle.plan_types.specs.Values.{Val}
use Rattle.plan_dsl.specs.OperatorTypes.{Taken}
use Rattle.plan_dsl.specs.Typing.{Ruling, Typed, literal_taken, rule, ruled_as, then_typed, typed_before, types_of, typing, typing_all, typing_rule}
use Rattle.plan_dsl.proofs.TypingLemmas.{by_children, by_no_children, ok_same, ok_where, ruled_is, typed_parts}
use Rattle.plan_dsl.proofs.AliasLemmas.{alias_typing}
use Rattle.plan_dsl.proofs.CastMeaningLemmas.{if_true}
use Rattle.plan_dsl.proofs.LiteralLemmas.{bare, becomes_literal, child_is, literal_typing, number_node, under}
use Rattle.plan_dsl.proofs.OpLemmas.{keeps_rule}
use Rattle.plan_dsl.proofs.SignatureLemmas.{AllBecome, takes_known}
use Rattle.plan_dsl.proofs.StrictLemmas.{same_types_exact}
use Rattle.plan_coerce.specs.Rules.{AllKnown, SettlesNoNumber, is_settled, is_strict_node, said}

-- a number can become of the type that it has alone, which has it
pub number_becomes : (number : ℤ) (own : Ty) → type_alone (Untyped number) ≡ Some own → CanBecome (Untyped number) own
number_becomes number own alone = record {
  known = (literal_has number own alone).1;
  casts = λ none. absurd (none number refl);
  has = λ n e lacks. (own, alone, cast_own own (literal_has number own alone).1);
}

pub own_number : (number : ℤ) (own : Ty) → type_alone (Untyped number) ≡ Some own → number_as number own ≡ number_literal (settled_type (Untyped number)) number
own_number number own alone =
    let has = literal_has number own alone in
    let type : settled_type (Untyped number) ≡ own = ap (λ o. unwrap_or o (Untyped number)) alone in
    if_true (integer_has own number) _ _ (and_from _ _ has.2 has.0) ∙ ap (λ t. number_literal t number) (sym type)

-- one operand of its own type
one_own : (name : Name) (typed : Typed) → is_known typed.type ≡ true → (registry : Registry) (schema : Columns) → is_strict_over registry schema (AliasOp name) (Ok (typed ∷ [])) ≡ true
one_own name typed known registry schema = and_from _ _ (and_from _ true (same_type_own typed.type) refl) known

module _ (registry : Registry) (schema : Columns) (number : ℤ) (own : Ty) (alone : type_alone (Untyped number) ≡ Some own) where
  lit : Expression
  lit = number_literal (settled_type (Untyped number)) number

  -- a number that got its type stands under the same aliases, has that type, and is strict
  pub record IsSettledNumber (many : Bool) (t : Expression) : Type 0 where
    pub is : settled t ≡ renamed t (number_literal (settled_type (Untyped number)) number)
    pub typed : typing registry schema (settled t) ≡ Ok (record { type = own; many = many })
    pub strict : said (is_strict_node registry schema) registry schema (settled t) ≡ true

  bare_settled : (many : Bool) → many ≡ false → IsSettledNumber many (node (LiteralOp (Untyped number) (IntValue number)) no_more)
  bare_settled many single =
      let has = literal_has number own alone in
      let type : settled_type (Untyped number) ≡ own = ap (λ o. unwrap_or o (Untyped number)) alone in
      let literal = becomes_literal own number has.1 has.0 in
      let ruled : rule registry schema (LiteralOp own (IntValue number)) [] ≡ Ok (record { operands = []; own = record { type = own; many = false } }) = ap (λ b. ruled_as (cond b (Ok (record { operands = []; type = own })) (Err InvalidOperation)) false) literal in
      record {
        is = refl;
        typed = ap (λ t. typing registry schema (node (LiteralOp t (IntValue number)) no_more)) type ∙ literal_typing registry schema own (IntValue number) literal ∙ ap (λ b. Ok (record { type = own; many = b })) (sym single);
        strict = ap (λ t. is_strict_rule [] (rule registry schema (LiteralOp t (IntValue number)) [])) type ∙ ap (is_strict_rule []) ruled ∙ has.1;
      }

  under_settled : (many : Bool) (name : Name) (t : Expression) → IsSettledNumber many t → IsSettledNumber many (node (AliasOp name) (more t no_more))
  under_settled many name t s = record {
    is = ap (λ u. node (AliasOp name) (more u no_more)) s.is;
    typed = alias_typing registry schema name (settled t) (record { type = own; many = many }) s.typed;
    strict = ap (λ r. is_strict_over registry schema (AliasOp name) (typed_before r (Ok []))) s.typed ∙ one_own name (record { type = own; many = many }) (literal_has number own alone).1 registry schema;
  }

  pub number_settled : (t : Expression) (many : Bool) → typing registry schema t ≡ Ok (record { type = Untyped number; many = many }) → IsSettledNumber many t
  number_settled (node op (more child no_more)) many h =
      elim (number_node registry schema number op (more child no_more) many h) as (λ _. IsSettledNumber many (node op (more child no_more))) [
        | bare op_is none single literal ↦ cc
        | under name tree op_is over typed ↦
            let below = number_settled child many (ap (typing registry schema) (child_is child tree over) ∙ typed) in
            subst (λ o. IsSettledNumber many (node o (more child no_more))) (sym op_is) (under_settled many name child below)
      ]
  number_settled (node op children) many h =
      elim (number_node registry schema number op children many h) as (λ _. IsSettledNumber many (node op children)) [
        | bare op_is none single literal ↦ subst (λ o. IsSettledNumber many (node o children)) (sym op_is) (subst (λ c. IsSettledNumber many (node (LiteralOp (Untyped number) (IntValue number)) c)) (sym none) (bare_settled many single))
        | under name tree op_is over typed ↦ cc
      ]

-- what is settled at the top stays where it has a type of columns
literal_type_is : (registry : Registry) (schema : Columns) (type : Ty) (value : Val) (typed : List Typed) (ruling : Ruling) → rule registry schema (LiteralOp type value) typed ≡ Ok ruling → type ≡ ruling.own.type
literal_type_is registry schema type value [] ruling h =
    ruled_is (λ r. type ≡ r.own.type) (literal_taken type value) false ruling h (λ taken found. ap (λ (t : Taken). t.type) (ok_where (is_literal type value) _ taken InvalidOperation found).1)
literal_type_is registry schema type value (t ∷ ts) ruling h = cc

pub literal_typed : (registry : Registry) (schema : Columns) (type : Ty) (value : Val) (children : Trees Op) (typed : Typed) → typing registry schema (node (LiteralOp type value) children) ≡ Ok typed → type ≡ typed.type
literal_typed registry schema type value children typed h =
    let p = typed_parts registry schema (LiteralOp type value) children typed h in
    literal_type_is registry schema type value p.below p.ruling p.rules ∙ ap (λ (t : Typed). t.type) p.is

alias_below : (registry : Registry) (schema : Columns) (name : Name) (tree : Expression) (typed : Typed) → typing registry schema (node (AliasOp name) (more tree no_more)) ≡ Ok typed → typing registry schema tree ≡ Ok typed
alias_below registry schema name tree typed h =
    elim (typing registry schema tree) as (λ r. then_typed (typed_before r (Ok [])) (typing_rule registry schema (AliasOp name)) ≡ Ok typed → r ≡ Ok typed) [ Ok found ↦ λ e. e | Err kind ↦ λ e. cc ] h

pub known_settled : (registry : Registry) (schema : Columns) (t : Expression) (typed : Typed) → typing registry schema t ≡ Ok typed → is_known typed.type ≡ true → settled t ≡ t
known_settled registry schema (node (AliasOp name) (more tree no_more)) typed h known =
    ap (λ u. node (AliasOp name) (more u no_more)) (known_settled registry schema tree typed (alias_below registry schema name tree typed h) known)
known_settled registry schema (node (LiteralOp type value) children) typed h known =
    let here = ap is_known (literal_typed registry schema type value children typed h) ∙ known in
    ap (λ t. node (LiteralOp t value) children) (ap (λ o. unwrap_or o type) (alone_itself type here))
known_settled registry schema (node _ children) typed h known = refl

-- ---- a node with an operand that is a number is not strict

become_known : (own : Ty) (typed : List Typed) (targets : List Ty) → is_known own ≡ true → AllBecome own (types_of typed) targets → types_of typed ≡ targets → AllByRecursion (λ (t : Typed). is_known t.type ≡ true) typed
become_known own [] targets k h same = tt
become_known own (t ∷ ts) [] k h same = absurd h
become_known own (t ∷ ts) (target ∷ targets) k h same =
    let first : t.type ≡ target = cc in
    let rest : types_of ts ≡ targets = cc in
    (ap is_known first ∙ takes_known own t.type target k h.0, become_known own ts targets k h.1 rest)

ruled_known : (registry : Registry) (schema : Columns) (op : Op) (typed : List Typed) (found : Result Ruling ErrorKind) → rule registry schema op typed ≡ found → is_strict_rule (types_of typed) found ≡ true → AllByRecursion (λ (t : Typed). is_known t.type ≡ true) typed
ruled_known registry schema op typed (Err kind) is h = cc
ruled_known registry schema op typed (Ok ruling) is h =
    let parts = and_parts (same_types (types_of typed) ruling.operands) (is_known ruling.own.type) h in
    become_known ruling.own.type typed ruling.operands parts.1 (keeps_rule registry schema op typed ruling is).becomes (same_types_exact (types_of typed) ruling.operands parts.0)

-- children of which each typing is one of columns
all_known : (registry : Registry) (schema : Columns) (trees : Trees Op) (typed : List Typed) → typing_all registry schema trees ≡ Ok typed → AllByRecursion (λ (t : Typed). is_known t.type ≡ true) typed → AllKnown registry schema trees
all_known registry schema no_more typed is known = tt
all_known registry schema (more tree trees) typed is known =
    by_children (λ xs. AllByRecursion (λ (t : Typed). is_known t.type ≡ true) xs → AllKnown registry schema (more tree trees)) _ _ typed is (λ x xs first rest k.
    (λ own h. ap (λ (t : Typed). is_known t.type) (ok_same (typing registry schema tree) own x h first) ∙ k.0, all_known registry schema trees xs rest k.1)) known

pub known_typings : (registry : Registry) (schema : Columns) (trees : Trees Op) (typed : List Typed) → AllKnown registry schema trees → typing_all registry schema trees ≡ Ok typed → AllByRecursion (λ (t : Typed). is_known t.type ≡ true) typed
known_typings registry schema no_more typed known is = by_no_children (AllByRecursion (λ (t : Typed). is_known t.type ≡ true)) typed is tt
known_typings registry schema (more tree trees) typed known is =
    by_children (AllByRecursion (λ (t : Typed). is_known t.type ≡ true)) _ _ typed is (λ x xs first rest. (known.0 x first, known_typings registry schema trees xs known.1 rest))

pub settles_no_number : (registry : Registry) (schema : Columns) → SettlesNoNumber (said (is_strict_node registry schema) registry schema) registry schema
settles_no_number registry schema op children h =
    elim (typing_all registry schema children) as (λ r. typing_all registry schema children ≡ r → is_strict_over registry schema op r ≡ true → AllKnown registry schema children) [
      | Err kind ↦ λ is strict. absurd (false≢true strict)
      | Ok typed ↦ λ is strict. all_known registry schema children typed is (ruled_known registry schema op typed (rule registry schema op typed) refl strict)
    ] refl h

pub settled_no_number : (registry : Registry) (schema : Columns) → SettlesNoNumber (is_settled registry schema) registry schema
settled_no_number registry schema op children h =
    settles_no_number registry schema op children (and_parts (said (is_strict_node registry schema) registry schema (node op children)) (stays (coerced registry schema (node op children))) h).0
