-- Laws of the rule of coercion: what is the same of children that are written out is the same of the node.
use Rattle.std.specs.Prelude.{◌≡◌, ◌≤◌, ◌&&◌, ℕ, Bool, true, false, cond, not, is_some, unwrap_or, List, [], ◌∷◌, Some, None, Result, Ok, Err}
use Rattle.std.proofs.Common.{refl, sym, ap, ◌∙◌, arith}
use Rattle.plan_types.specs.Casts.{Converted, Gives, Fails, can_cast}
use Rattle.plan_types.specs.Schemas.{Columns}
use Rattle.plan_types.specs.Types.{Ty, Truth, Untyped, same_type}
use Rattle.plan_types.specs.Values.{Val, NullValue}
use Rattle.plan_types.specs.declared.dtype.CastOptions.{CastOptions}
use Rattle.plan_types.specs.declared.dtype.CastOptions.TheVariants.{NonStrict}
use Rattle.plan_types.specs.declared.error.ErrorKind.{ErrorKind}
use Rattle.plan_dsl.specs.Aliases.{renamed}
use Rattle.plan_dsl.specs.Coercion.{coerced, coerced_all, fitted, fitted_by}
use Rattle.plan_dsl.specs.InlinedCasts.{all_inlined, cast_of, converted, in_place_of, inlined, is_logical, is_operator, literal_given, literal_with, stays, until_gone, written_out}
use Rattle.plan_dsl.specs.Literals.{is_literal}
use Rattle.plan_dsl.specs.Registry.{Registry}
use Rattle.plan_dsl.specs.Ops.{Op, AliasOp, BinaryOp, CastOp, LiteralOp, Expression}
use Rattle.plan_dsl.specs.Strictness.{as_operand, as_operands, changed, is_strict_over, number_as}
use Rattle.plan_dsl.specs.Trees.{Trees, node, no_more, more, AllRelated}
use Rattle.plan_dsl.specs.Typing.{Ruling, Typed, rule, types_of, typing_all}
use Rattle.plan_coerce.specs.CoercionRule.{IsCoercion}
use Rattle.plan_coerce.specs.KindLaws.{becomes_over, becomes_then}
use Rattle.plan_coerce.specs.Kinds.{Becomes}
use Rattle.plan_coerce.specs.Rules.{HasSameWritten, IsCongruent, IsLike, IsSteady, IsTransitive, is_settled, is_strict_node, said, until_settled}
use Rattle.plan_coerce.specs.RuleLaws.{like_typings}

-- ---- what stands for a cast has no alias

with_bare : (target : Ty) (value : Val) (other w : Expression) → renamed other w ≡ w → renamed (unwrap_or (literal_with target value) other) w ≡ w
with_bare target NullValue other w h = h
with_bare target value other w h =
    elim (is_literal target value) as (λ b. renamed (unwrap_or (cond b (Some (node (LiteralOp target value) no_more)) None) other) w ≡ w) [ true ↦ refl | false ↦ h ]

given_bare : (target : Ty) (found : Converted) (other w : Expression) → renamed other w ≡ w → renamed (unwrap_or (literal_given target found) other) w ≡ w
given_bare target Fails other w h = h
given_bare target (Gives value) other w h = with_bare target value other w h

cast_bare : (target : Ty) (options : CastOptions) (x w : Expression) → renamed (unwrap_or (cast_of target options x) (node (CastOp target options) (more x no_more))) w ≡ w
cast_bare target options (node (LiteralOp from value) no_more) w =
    let other = node (CastOp target options) (more (node (LiteralOp from value) no_more) no_more) in
    elim (is_literal from value && can_cast from target) as (λ b. renamed (unwrap_or (cond b (literal_given target (converted from value target options)) None) other) w ≡ w) [ true ↦ given_bare target (converted from value target options) other w refl | false ↦ refl ]
cast_bare target options (node (BinaryOp operator) operands) w =
    elim (is_logical operator && same_type Truth target) as (λ b. renamed (unwrap_or (cond b (Some (node (BinaryOp operator) operands)) None) (node (CastOp target options) (more (node (BinaryOp operator) operands) no_more))) w ≡ w) [ true ↦ refl | false ↦ refl ]
cast_bare target options (node op operands) w = refl

-- so aliases stay where casts go
pub inlined_renamed : (tree other : Expression) → inlined (renamed tree other) ≡ renamed (inlined tree) (inlined other)
inlined_renamed (node (AliasOp name) (more tree no_more)) other = ap (λ t. node (AliasOp name) (more t no_more)) (inlined_renamed tree other)
inlined_renamed (node (CastOp target options) (more x no_more)) other = sym (cast_bare target options (inlined x) (inlined other))
inlined_renamed (node op children) other = refl

-- ---- operands that are made of their types

changed_inlined : (from target : Ty) (x y : Expression) → inlined x ≡ inlined y → inlined (changed from target x) ≡ inlined (changed from target y)
changed_inlined (Untyped number) target x y h =
    let made = number_as number target in
    inlined_renamed x made ∙ ap (λ z. renamed z (inlined made)) h ∙ sym (inlined_renamed y made)
changed_inlined from target x y h = ap (λ z. unwrap_or (cast_of target NonStrict z) (node (CastOp target NonStrict) (more z no_more))) h

operand_inlined : (from target : Ty) (x y : Expression) → inlined x ≡ inlined y → inlined (as_operand from target x) ≡ inlined (as_operand from target y)
operand_inlined from target x y h =
    elim (same_type from target) as (λ b. inlined (cond b x (changed from target x)) ≡ inlined (cond b y (changed from target y))) [ true ↦ h | false ↦ changed_inlined from target x y h ]

operands_inlined : (types targets : List Ty) (xs ys : Trees Op) → all_inlined xs ≡ all_inlined ys → all_inlined (as_operands types targets xs) ≡ all_inlined (as_operands types targets ys)
operands_inlined [] targets xs ys h = refl
operands_inlined (from ∷ types) [] xs ys h = refl
operands_inlined (from ∷ types) (target ∷ targets) no_more no_more h = refl
operands_inlined (from ∷ types) (target ∷ targets) no_more (more y ys) h = cc
operands_inlined (from ∷ types) (target ∷ targets) (more x xs) no_more h = cc
operands_inlined (from ∷ types) (target ∷ targets) (more x xs) (more y ys) h =
    let first : inlined x ≡ inlined y = cc in
    let rest : all_inlined xs ≡ all_inlined ys = cc in
    ap (λ z. more z (all_inlined (as_operands types targets xs))) (operand_inlined from target x y first)
    ∙ ap (more (inlined (as_operand from target y))) (operands_inlined types targets xs ys rest)

fitted_by_inlined : (found : Result Ruling ErrorKind) (types : List Ty) (xs ys : Trees Op) → all_inlined xs ≡ all_inlined ys → all_inlined (fitted_by found types xs) ≡ all_inlined (fitted_by found types ys)
fitted_by_inlined (Err kind) types xs ys h = h
fitted_by_inlined (Ok ruling) types xs ys h = operands_inlined types ruling.operands xs ys h

module _ (registry : Registry) (schema : Columns) where
  fitted_inlined : (op : Op) (found : Result (List Typed) ErrorKind) (xs ys : Trees Op) → all_inlined xs ≡ all_inlined ys → all_inlined (fitted registry schema op found xs) ≡ all_inlined (fitted registry schema op found ys)
  fitted_inlined op (Err kind) xs ys h = h
  fitted_inlined op (Ok typed) xs ys h = fitted_by_inlined (rule registry schema op typed) (types_of typed) xs ys h

-- ---- children that are one once they are written out, and maybe more

module _ (related : Expression → Expression → Type 0) (registry : Registry) (schema : Columns) (written : (t u : Expression) → related t u → HasSameWritten registry schema t u) where
  like_written : (ts us : Trees Op) → AllRelated (IsLike related registry schema) ts us → all_inlined (coerced_all registry schema us) ≡ all_inlined (coerced_all registry schema ts)
  like_written no_more no_more h = refl
  like_written (more t ts) (more u us) h =
      ap (λ x. more x (all_inlined (coerced_all registry schema us))) (written t u h.0.relates) ∙ ap (more (written_out registry schema t)) (like_written ts us h.1)
  like_written no_more (more u us) h = absurd h
  like_written (more t ts) no_more h = absurd h

  same_over : (op : Op) (ts us : Trees Op) → AllRelated (IsLike related registry schema) ts us → all_inlined (fitted registry schema op (typing_all registry schema us) (coerced_all registry schema us)) ≡ all_inlined (fitted registry schema op (typing_all registry schema ts) (coerced_all registry schema ts))
  same_over op ts us h =
      ap (λ r. all_inlined (fitted registry schema op r (coerced_all registry schema us))) (like_typings related registry schema ts us h)
      ∙ fitted_inlined registry schema op (typing_all registry schema ts) (coerced_all registry schema us) (coerced_all registry schema ts) (like_written ts us h)

  pub same_written_over : (op : Op) (ts us : Trees Op) → AllRelated (IsLike related registry schema) ts us → HasSameWritten registry schema (node op ts) (node op us)
  same_written_over op ts us h = ap (λ l. unwrap_or (in_place_of op l) (node op l)) (same_over op ts us h)

  pub settled_steady : IsSteady (is_settled registry schema) related registry schema
  settled_steady op ts us h =
      ap (λ r. is_strict_over registry schema op r && stays (coerced registry schema (node op us))) (like_typings related registry schema ts us h)
      ∙ ap (λ l. is_strict_over registry schema op (typing_all registry schema ts) && not (is_some (in_place_of op l))) (same_over op ts us h)

-- ---- the relation that the rule of coercion keeps

module _ (registry : Registry) (schema : Columns) where
  like_become : (ts us : Trees Op) → AllRelated (IsLike (IsCoercion registry schema) registry schema) ts us → AllRelated (Becomes registry schema) ts us
  like_become no_more no_more h = tt
  like_become (more t ts) (more u us) h = (h.0.relates.becomes, like_become ts us h.1)
  like_become no_more (more u us) h = absurd h
  like_become (more t ts) no_more h = absurd h

  pub coercion_congruent : IsCongruent (IsCoercion registry schema) registry schema
  coercion_congruent op ts us h = record {
    same = same_written_over (IsCoercion registry schema) registry schema (λ t u c. c.same) op ts us h;
    becomes = becomes_over registry schema op ts us (like_become ts us h);
  }

  pub coercion_transitive : IsTransitive (IsCoercion registry schema)
  coercion_transitive t u w a b = record { same = b.same ∙ a.same; becomes = becomes_then registry schema t u w a.becomes b.becomes }

  pub coercion_steady : IsSteady (is_settled registry schema) (IsCoercion registry schema) registry schema
  coercion_steady = settled_steady (IsCoercion registry schema) registry schema (λ t u c. c.same)

-- a node is replaced five times at most until it is settled
gone_soon : (tree : Expression) → until_gone tree ≤ 3
gone_soon tree =
    elim (stays tree) as (λ b. cond b 0 (cond (is_operator (inlined tree)) 3 1) ≤ 3) [
      | true ↦ omega arith
      | false ↦ elim (is_operator (inlined tree)) as (λ b. cond b 3 1 ≤ 3) [ true ↦ omega arith | false ↦ omega arith ]
    ]

strict_soon : (strict : Bool) → cond strict 0 2 ≤ 2
strict_soon strict = elim strict as (λ b. cond b 0 2 ≤ 2) [ true ↦ omega arith | false ↦ omega arith ]

pub until_settled_bounded : (registry : Registry) (schema : Columns) (t : Expression) (n : ℕ) → Some 8 ≡ Some n → until_settled registry schema t ≤ n
until_settled_bounded registry schema t n is =
    let eight : 8 ≡ n = cc in
    let gone = gone_soon (coerced registry schema t) in
    let strict = strict_soon (said (is_strict_node registry schema) registry schema t) in
    omega (arith, eight, gone, strict)
