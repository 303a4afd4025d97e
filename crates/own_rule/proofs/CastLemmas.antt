-- A cast to the type that its operand has says the same, whether it is strict or not, and so it needn't be strict.
use Rattle.std.proofs.Common.{◌≡◌, ℕ, Bool, true, false, cond, List, [], ◌∷◌, Option, Some, None, Result, Ok, Err, refl, sym, ap, ◌∙◌}
use Rattle.plan_types.specs.Types.{Ty, is_known, same_type}
use Rattle.plan_types.specs.TypeLaws.{same_type_exact, same_type_own}
use Rattle.plan_types.specs.Casts.{can_cast}
use Rattle.plan_types.specs.CommonTypes.{type_alone}
use Rattle.plan_types.specs.Frames.{Frame}
use Rattle.plan_types.specs.Outcomes.{then_do}
use Rattle.plan_types.specs.Schemas.{Columns}
use Rattle.plan_types.specs.Values.{Val}
use Rattle.plan_types.specs.declared.dtype.CastOptions.{CastOptions}
use Rattle.plan_types.specs.declared.dtype.CastOptions.TheVariants.{Strict, NonStrict, Overflowing}
use Rattle.plan_types.specs.declared.error.ErrorKind.{ErrorKind}
use Rattle.plan_types.specs.declared.error.ErrorKind.TheVariants.{InvalidOperation}
use Rattle.plan_types.proofs.CommonLemmas.{alone_itself}
use Rattle.plan_dsl.specs.Kernels.{Meaning, given, kernel}
use Rattle.plan_dsl.specs.Meaning.{meaning_all, node_meaning, ruled_meaning, taken_to}
use Rattle.plan_dsl.specs.Ops.{Op, CastOp}
use Rattle.plan_dsl.specs.Registry.{Registry}
use Rattle.plan_dsl.specs.Strictness.{IsSame}
use Rattle.plan_dsl.specs.Trees.{Trees, node}
use Rattle.plan_dsl.specs.Typing.{Ruling, Typed, cast_taken, own_typed, rule, ruled_as, then_typed, typing, typing_all, typing_rule}
use Rattle.plan_dsl.proofs.CastMeaningLemmas.{if_true}
use Rattle.plan_dsl.proofs.SignatureLemmas.{target_known}
use Rattle.plan_coerce.proofs.FrameLemmas.{on_frames}
use Rattle.own_rule.specs.HarmlessCasts.{is_needless, is_strict_cast, relaxed_op}
use Rattle.own_rule.specs.OpChanges.{IsChanged}

-- its rule doesn't ask how it is cast
same_rule : (registry : Registry) (schema : Columns) (target : Ty) (a b : CastOptions) (typed : List Typed) → rule registry schema (CastOp target a) typed ≡ rule registry schema (CastOp target b) typed
same_rule registry schema target a b [] = refl
same_rule registry schema target a b (t ∷ []) = refl
same_rule registry schema target a b (t ∷ u ∷ ts) = refl

same_typing : (registry : Registry) (schema : Columns) (target : Ty) (a b : CastOptions) (ts : Trees Op) → typing registry schema (node (CastOp target a) ts) ≡ typing registry schema (node (CastOp target b) ts)
same_typing registry schema target a b ts =
    elim (typing_all registry schema ts) as (λ r. then_typed r (typing_rule registry schema (CastOp target a)) ≡ then_typed r (typing_rule registry schema (CastOp target b))) [ Err kind ↦ refl | Ok typed ↦ ap own_typed (same_rule registry schema target a b typed) ]

module _ (registry : Registry) (schema : Columns) (target : Ty) (own : Typed) where
  -- what has a type is of the cast's, which is one of columns
  cast_typed : (options : CastOptions) (from : Option Ty) (typed : Typed) → own_typed (ruled_as (cast_taken target from) own.many) ≡ Ok typed → (is_known target ≡ true) × (typed.type ≡ target)
  cast_typed options None typed h = cc
  cast_typed options (Some from) typed h =
      elim (can_cast from target) as (λ b. can_cast from target ≡ b → own_typed (ruled_as (cond b (Ok (record { operands = from ∷ []; type = target })) (Err InvalidOperation)) own.many) ≡ Ok typed → (is_known target ≡ true) × (typed.type ≡ target)) [ true ↦ λ e g. (target_known from target e, cc) | false ↦ λ e g. cc ] refl h

  -- so is what its rule says
  ruled_known : (options : CastOptions) (ruling : Ruling) → rule registry schema (CastOp target options) (own ∷ []) ≡ Ok ruling → (is_known target ≡ true) × (ruling.own.type ≡ target)
  ruled_known options ruling rules = cast_typed options (type_alone own.type) ruling.own (ap own_typed rules)

  module _ (same : same_type own.type target ≡ true) (known : is_known target ≡ true) where
    alone : type_alone own.type ≡ Some target
    alone = ap type_alone (same_type_exact own.type target same) ∙ alone_itself target known

    same_kernel : (frame : Frame) (rows : List ℕ) (columns : List (List Val)) → kernel registry frame rows (CastOp target NonStrict) (target ∷ []) target columns ≡ kernel registry frame rows (CastOp target Strict) (target ∷ []) target columns
    same_kernel frame rows [] = refl
    same_kernel frame rows (column ∷ []) =
        let own = same_type_own target in
        if_true (same_type target target) _ _ own ∙ sym (if_true (same_type target target) _ _ own)
    same_kernel frame rows (column ∷ other ∷ rest) = refl

    -- the meaning of the node, with a cast or without one
    abbrev with_cast : CastOptions → Frame → Bool → List Meaning → Meaning
    with_cast options frame casts operands =
        ruled_meaning registry frame (CastOp target options) (own.type ∷ []) (ruled_as (cond casts (Ok (record { operands = target ∷ []; type = target })) (Err InvalidOperation)) own.many) operands

    same_cast : (frame : Frame) (casts : Bool) (operands : List Meaning) → with_cast NonStrict frame casts operands ≡ with_cast Strict frame casts operands
    same_cast frame true operands = λ i rows. then_do (given (taken_to (own.type ∷ []) (target ∷ []) operands) rows) (λ columns. same_kernel frame rows columns i)
    same_cast frame false operands = refl

    by_cast : (options : CastOptions) (frame : Frame) (operands : List Meaning) → ruled_meaning registry frame (CastOp target options) (own.type ∷ []) (ruled_as (cast_taken target (type_alone own.type)) own.many) operands ≡ with_cast options frame (can_cast target target) operands
    by_cast options frame operands = ap (λ o. ruled_meaning registry frame (CastOp target options) (own.type ∷ []) (ruled_as (cast_taken target o) own.many) operands) alone

    pub still_same : (ts : Trees Op) → typing_all registry schema ts ≡ Ok (own ∷ []) → IsSame registry schema (node (CastOp target Strict) ts) (node (CastOp target NonStrict) ts)
    still_same ts typed = record {
      typing = same_typing registry schema target NonStrict Strict ts;
      name = refl;
      meaning = λ rows.
          let frame : Frame = record { schema = schema; rows = rows } in
          let operands = meaning_all registry frame ts in
          let over = λ (options : CastOptions). ap (λ r. node_meaning registry frame (CastOp target options) r operands) typed ∙ by_cast options frame operands in
          over NonStrict ∙ same_cast frame (can_cast target target) operands ∙ sym (over Strict);
    }

-- so it is to be one that isn't strict
pub cast_changed : (target : Ty) (own : Typed) → same_type own.type target ≡ true → IsChanged is_needless relaxed_op (CastOp target Strict) (CastOp target NonStrict) (own ∷ [])
cast_changed target own same = record {
  found = same;
  is = if_true (same_type own.type target) (CastOp target NonStrict) (CastOp target Strict) same;
  stays = refl;
  again = refl;
  names = λ labels. refl;
  rules = λ registry schema. refl;
  known = λ registry schema ruling rules. let k = ruled_known registry schema target own Strict ruling rules in ap is_known k.1 ∙ k.0;
  plain = λ ts. refl;
  same = λ registry schema ruling ts rules typed.
      on_frames registry schema (node (CastOp target Strict) ts) (node (CastOp target NonStrict) ts) (still_same registry schema target own same (ruled_known registry schema target own Strict ruling rules).0 ts typed);
}

-- what is no strict cast stays as it is
pub no_cast : (op : Op) (typings : Result (List Typed) ErrorKind) → is_strict_cast op ≡ false → is_needless op typings ≡ false
no_cast (CastOp target Strict) typings h = cc
no_cast (CastOp target NonStrict) typings h = refl
no_cast (CastOp target Overflowing) typings h = refl
no_cast _ typings h = refl
