-- Predicates without strict casts to the type that their operand has: they are typed as before, strict where they were,
-- and have no alias where they had none. The names of their functions' operands stay right.
use Rattle.std.proofs.Common.{◌≡◌, true, false, cond, ◌&&◌, List, [], ◌∷◌, Result, Ok, Err, refl, sym, ap, ◌∙◌, subst}
use Rattle.plan_types.specs.Types.{Ty, same_type}
use Rattle.plan_types.specs.Schemas.{Columns}
use Rattle.plan_types.specs.declared.dtype.CastOptions.TheVariants.{Strict, NonStrict, Overflowing}
use Rattle.plan_types.specs.declared.error.ErrorKind.{ErrorKind}
use Rattle.plan_dsl.specs.Aliases.{IsCore, are_core, is_core, is_core_op}
use Rattle.plan_dsl.specs.Names.{Label, label_of, op_label}
use Rattle.plan_dsl.specs.Ops.{Op, CastOp, Expression}
use Rattle.plan_dsl.specs.Registry.{Registry}
use Rattle.plan_dsl.specs.Strictness.{are_strict, is_strict, is_strict_over, is_strict_rule}
use Rattle.plan_dsl.specs.Trees.{Trees, node, no_more, more, fold_all}
use Rattle.plan_dsl.specs.Typing.{Typed, own_typed, rule, then_typed, typed_before, types_of, typing, typing_all, typing_rule}
use Rattle.plan_arena.specs.Runs.{AllNameOperands, NamesOperands, NamesOver}
use Rattle.plan_properties.specs.Splitting.{IsCondition}
use Rattle.own_rule.specs.HarmlessCasts.{relaxed, relaxed_all, relaxed_op}

core_op : (op : Op) (typings : Result (List Typed) ErrorKind) → is_core_op (relaxed_op op typings) ≡ is_core_op op
core_op (CastOp target Strict) (Ok (t ∷ [])) =
    elim (same_type t.type target) as (λ b. is_core_op (cond b (CastOp target NonStrict) (CastOp target Strict)) ≡ true) [ true ↦ refl | false ↦ refl ]
core_op (CastOp target Strict) (Ok []) = refl
core_op (CastOp target Strict) (Ok (t ∷ u ∷ ts)) = refl
core_op (CastOp target Strict) (Err kind) = refl
core_op (CastOp target NonStrict) typings = refl
core_op (CastOp target Overflowing) typings = refl
core_op _ typings = refl

-- the name of a cast doesn't ask how it is cast
label_op : (op : Op) (typings : Result (List Typed) ErrorKind) (labels : List Label) → op_label (relaxed_op op typings) labels ≡ op_label op labels
label_op (CastOp target Strict) (Ok (t ∷ [])) labels =
    elim (same_type t.type target) as (λ b. op_label (cond b (CastOp target NonStrict) (CastOp target Strict)) labels ≡ op_label (CastOp target Strict) labels) [ true ↦ refl | false ↦ refl ]
label_op (CastOp target Strict) (Ok []) labels = refl
label_op (CastOp target Strict) (Ok (t ∷ u ∷ ts)) labels = refl
label_op (CastOp target Strict) (Err kind) labels = refl
label_op (CastOp target NonStrict) typings labels = refl
label_op (CastOp target Overflowing) typings labels = refl
label_op _ typings labels = refl

-- and it records none for its operand
over_op : (op : Op) (typings : Result (List Typed) ErrorKind) (owns : List Label) → NamesOver op owns → NamesOver (relaxed_op op typings) owns
over_op (CastOp target Strict) (Ok (t ∷ [])) owns h =
    elim (same_type t.type target) as (λ b. NamesOver (cond b (CastOp target NonStrict) (CastOp target Strict)) owns) [ true ↦ tt | false ↦ tt ]
over_op (CastOp target Strict) (Ok []) owns h = tt
over_op (CastOp target Strict) (Ok (t ∷ u ∷ ts)) owns h = tt
over_op (CastOp target Strict) (Err kind) owns h = tt
over_op (CastOp target NonStrict) typings owns h = tt
over_op (CastOp target Overflowing) typings owns h = tt
over_op _ typings owns h = h

module _ (registry : Registry) (schema : Columns) where
  -- the rule of a cast doesn't ask how it is cast
  cast_rule : (target : Ty) (typed : List Typed) → rule registry schema (CastOp target NonStrict) typed ≡ rule registry schema (CastOp target Strict) typed
  cast_rule target [] = refl
  cast_rule target (t ∷ []) = refl
  cast_rule target (t ∷ u ∷ ts) = refl

  rule_relaxed : (op : Op) (typings : Result (List Typed) ErrorKind) (typed : List Typed) → rule registry schema (relaxed_op op typings) typed ≡ rule registry schema op typed
  rule_relaxed (CastOp target Strict) (Ok (t ∷ [])) typed =
      elim (same_type t.type target) as (λ b. rule registry schema (cond b (CastOp target NonStrict) (CastOp target Strict)) typed ≡ rule registry schema (CastOp target Strict) typed) [ true ↦ cast_rule target typed | false ↦ refl ]
  rule_relaxed (CastOp target Strict) (Ok []) typed = refl
  rule_relaxed (CastOp target Strict) (Ok (t ∷ u ∷ ts)) typed = refl
  rule_relaxed (CastOp target Strict) (Err kind) typed = refl
  rule_relaxed (CastOp target NonStrict) typings typed = refl
  rule_relaxed (CastOp target Overflowing) typings typed = refl
  rule_relaxed _ typings typed = refl

  node_typing : (op : Op) (typings found : Result (List Typed) ErrorKind) → then_typed found (typing_rule registry schema (relaxed_op op typings)) ≡ then_typed found (typing_rule registry schema op)
  node_typing op typings (Err kind) = refl
  node_typing op typings (Ok typed) = ap own_typed (rule_relaxed op typings typed)

  node_strict : (op : Op) (typings found : Result (List Typed) ErrorKind) → is_strict_over registry schema (relaxed_op op typings) found ≡ is_strict_over registry schema op found
  node_strict op typings (Err kind) = refl
  node_strict op typings (Ok typed) = ap (is_strict_rule (types_of typed)) (rule_relaxed op typings typed)

  mutual
    pub typing_relaxed : (t : Expression) → typing registry schema (relaxed registry schema t) ≡ typing registry schema t
    typing_relaxed (node op ts) =
        let typings = typing_all registry schema ts in
        ap (λ r. then_typed r (typing_rule registry schema (relaxed_op op typings))) (typings_relaxed ts) ∙ node_typing op typings typings

    typings_relaxed : (ts : Trees Op) → typing_all registry schema (relaxed_all registry schema ts) ≡ typing_all registry schema ts
    typings_relaxed no_more = refl
    typings_relaxed (more t ts) =
        ap (λ r. typed_before r (typing_all registry schema (relaxed_all registry schema ts))) (typing_relaxed t) ∙ ap (typed_before (typing registry schema t)) (typings_relaxed ts)

  mutual
    strict_relaxed : (t : Expression) → is_strict registry schema (relaxed registry schema t) ≡ is_strict registry schema t
    strict_relaxed (node op ts) =
        let typings = typing_all registry schema ts in
        let below = are_strict registry schema (relaxed_all registry schema ts) in
        ap (λ r. is_strict_over registry schema (relaxed_op op typings) r && below) (typings_relaxed ts)
        ∙ ap (λ b. b && below) (node_strict op typings typings)
        ∙ ap (λ b. is_strict_over registry schema op typings && b) (all_strict_relaxed ts)

    all_strict_relaxed : (ts : Trees Op) → are_strict registry schema (relaxed_all registry schema ts) ≡ are_strict registry schema ts
    all_strict_relaxed no_more = refl
    all_strict_relaxed (more t ts) =
        ap (λ b. b && are_strict registry schema (relaxed_all registry schema ts)) (strict_relaxed t) ∙ ap (λ b. is_strict registry schema t && b) (all_strict_relaxed ts)

  mutual
    core_relaxed : (t : Expression) → is_core (relaxed registry schema t) ≡ is_core t
    core_relaxed (node op ts) =
        ap (λ b. b && are_core (relaxed_all registry schema ts)) (core_op op (typing_all registry schema ts)) ∙ ap (λ b. is_core_op op && b) (all_core_relaxed ts)

    all_core_relaxed : (ts : Trees Op) → are_core (relaxed_all registry schema ts) ≡ are_core ts
    all_core_relaxed no_more = refl
    all_core_relaxed (more t ts) =
        ap (λ b. b && are_core (relaxed_all registry schema ts)) (core_relaxed t) ∙ ap (λ b. is_core t && b) (all_core_relaxed ts)

  mutual
    label_relaxed : (t : Expression) → label_of (relaxed registry schema t) ≡ label_of t
    label_relaxed (node op ts) =
        label_op op (typing_all registry schema ts) (fold_all op_label (relaxed_all registry schema ts)) ∙ ap (op_label op) (labels_relaxed ts)

    labels_relaxed : (ts : Trees Op) → fold_all op_label (relaxed_all registry schema ts) ≡ fold_all op_label ts
    labels_relaxed no_more = refl
    labels_relaxed (more t ts) =
        ap (λ l. l ∷ fold_all op_label (relaxed_all registry schema ts)) (label_relaxed t) ∙ ap (λ ls. label_of t ∷ ls) (labels_relaxed ts)

  mutual
    pub names_relaxed : (t : Expression) → NamesOperands t → NamesOperands (relaxed registry schema t)
    names_relaxed (node op ts) names =
        let labels = fold_all op_label (relaxed_all registry schema ts) in
        (over_op op (typing_all registry schema ts) labels (subst (NamesOver op) (sym (labels_relaxed ts)) names.0), all_names_relaxed ts names.1)

    all_names_relaxed : (ts : Trees Op) → AllNameOperands ts → AllNameOperands (relaxed_all registry schema ts)
    all_names_relaxed no_more names = tt
    all_names_relaxed (more t ts) names = (names_relaxed t names.0, all_names_relaxed ts names.1)

  pub relaxed_condition : (t : Expression) → IsCondition registry schema t → IsCondition registry schema (relaxed registry schema t)
  relaxed_condition t is =
      record { own = is.own; typed = typing_relaxed t ∙ is.typed; truth = is.truth; strict = strict_relaxed t ∙ is.strict }

  pub relaxed_core : (t : Expression) → IsCore t → IsCore (relaxed registry schema t)
  relaxed_core t is = core_relaxed t ∙ is
