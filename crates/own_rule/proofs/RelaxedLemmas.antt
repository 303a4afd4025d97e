-- What the rule leaves of a root that is typed: the expression without strict casts to the type that their operand has.
use Rattle.std.proofs.Common.{◌≡◌, ℕ, true, false, cond, not, List, [], ◌∷◌, map, Result, Ok, Err, pos, refl, sym, ap, ◌∙◌, subst}
use Rattle.std.specs.List.{AllByRecursion}
use Rattle.std.proofs.lemmas.Bool.{false≢true}
use Rattle.plan_types.specs.Types.{Untyped, same_type}
use Rattle.plan_types.specs.Schemas.{Columns}
use Rattle.plan_types.specs.declared.dtype.CastOptions.TheVariants.{Strict, NonStrict, Overflowing}
use Rattle.plan_types.specs.declared.error.ErrorKind.{ErrorKind}
use Rattle.plan_dsl.specs.Ops.{Op, CastOp, LenOp, Expression}
use Rattle.plan_dsl.specs.Registry.{Registry}
use Rattle.plan_dsl.specs.Trees.{Trees, node, no_more, more}
use Rattle.plan_dsl.specs.Typing.{Typed, typing_all}
use Rattle.plan_dsl.proofs.SameLemmas.{same_itself}
use Rattle.plan_arena.specs.declared.aexpr.AExpr.{AExpr}
use Rattle.plan_arena.specs.Denotation.{Denotes}
use Rattle.plan_arena.specs.Items.{HoldsExpression, expression_layer}
use Rattle.plan_arena.specs.Layers.{shape_of}
use Rattle.plan_arena.proofs.DenotationLemmas.{denotes_one}
use Rattle.plan_arena.proofs.ItemLemmas.{any_node, expression_laws}
use Rattle.plan_infer.specs.declared.type_table.TypeTable.{TypeTable}
use Rattle.plan_infer.specs.KeptTypes.{IsKept, IsRight}
use Rattle.plan_infer.proofs.TableLemmas.{known_typed, plain_tree}
use Rattle.plan_coerce.specs.Optimizer.{AreSettled, AreTrees, AreTypedRoots, DenotesSettled, IsSettled, StaysLike}
use Rattle.plan_infer.specs.Samples.{five}
use Rattle.plan_coerce.specs.Rules.{SettlesNoNumber, said}
use Rattle.plan_coerce.proofs.FrameLemmas.{on_frames}
use Rattle.own_rule.specs.HarmlessCasts.{HasSameRelaxed, is_needless, is_relaxed, relaxed, relaxed_all, relaxed_op}

op_stays : (op : Op) (typings : Result (List Typed) ErrorKind) → not (is_needless op typings) ≡ true → relaxed_op op typings ≡ op
op_stays (CastOp target Strict) (Ok (t ∷ [])) h =
    elim (same_type t.type target) as (λ b. not b ≡ true → cond b (CastOp target NonStrict) (CastOp target Strict) ≡ CastOp target Strict) [ true ↦ λ e. cc | false ↦ λ e. refl ] h
op_stays (CastOp target Strict) (Ok []) h = refl
op_stays (CastOp target Strict) (Ok (t ∷ u ∷ ts)) h = refl
op_stays (CastOp target Strict) (Err kind) h = refl
op_stays (CastOp target NonStrict) typings h = refl
op_stays (CastOp target Overflowing) typings h = refl
op_stays _ typings h = refl

module _ (registry : Registry) (schema : Columns) where
  -- where each node stays, the whole does
  mutual
    settled_stays : (t : Expression) → IsSettled (said (is_relaxed registry schema) registry schema) t → relaxed registry schema t ≡ t
    settled_stays (node op ts) s =
        ap (λ o. node o (relaxed_all registry schema ts)) (op_stays op (typing_all registry schema ts) s.0) ∙ ap (node op) (all_settled_stay ts s.1)

    all_settled_stay : (ts : Trees Op) → AreSettled (said (is_relaxed registry schema) registry schema) ts → relaxed_all registry schema ts ≡ ts
    all_settled_stay no_more s = refl
    all_settled_stay (more t ts) s =
        ap (λ u. more u (relaxed_all registry schema ts)) (settled_stays t s.0) ∙ ap (more t) (all_settled_stay ts s.1)

  -- so a root becomes what its expression is without such casts
  relaxed_root : (old new : List AExpr) (n : ℕ) → StaysLike (HasSameRelaxed registry schema) registry schema old new → DenotesSettled (said (is_relaxed registry schema) registry schema) new n → (t : Expression) → Denotes (HoldsExpression old) n t → Denotes (HoldsExpression new) n (relaxed registry schema t)
  relaxed_root old new n like s t d =
      let u = like n t d in
      let one = denotes_one (shape_of (map expression_layer new)) (HoldsExpression new) (expression_laws new) n s.tree u.tree s.denotes u.denotes in
      subst (Denotes (HoldsExpression new) n) (sym (settled_stays s.tree s.each) ∙ ap (relaxed registry schema) one ∙ u.like.relates) s.denotes

  -- an arena that stays
  pub like_itself : (items : List AExpr) → StaysLike (HasSameRelaxed registry schema) registry schema items items
  like_itself items n t d = record { tree = t; denotes = d; like = record { same = on_frames registry schema t t (same_itself registry schema t); relates = refl } }

  -- a count of rows over a number without a type would stay
  settles_numbers : SettlesNoNumber (said (is_relaxed registry schema) registry schema) registry schema → ⊥
  settles_numbers none =
      false≢true ((none LenOp (more five no_more) refl).0 (record { type = Untyped (pos 5); many = false }) refl)

-- a node of which something is kept is all that is asked of roots
module _ {registry : Registry} {schema : Columns} {items : List AExpr} {table : TypeTable} {n : ℕ} {roots : List ℕ} (right : IsRight registry schema items table) (k : IsKept table n) (only : roots ≡ n ∷ []) where
  pub typed_root : AreTypedRoots (said (is_relaxed registry schema) registry schema) registry schema items roots
  typed_root =
      let d = known_typed registry schema items table right n k in
      subst (AreTypedRoots (said (is_relaxed registry schema) registry schema) registry schema items) (sym only) (record { tree = d.tree; denotes = any_node 0 items n d.tree d.denotes; typed = d.typed; is = d.is; known = λ none. absurd (settles_numbers registry schema none) }, tt)

  pub tree_root : AreTrees items roots
  tree_root = subst (AreTrees items) (sym only) (plain_tree (known_typed registry schema items table right n k), tt)

  -- what the loop promises of it
  pub relaxed_roots : {new : List AExpr} → StaysLike (HasSameRelaxed registry schema) registry schema items new → AllByRecursion (DenotesSettled (said (is_relaxed registry schema) registry schema) new) roots → (t : Expression) → Denotes (HoldsExpression items) n t → Denotes (HoldsExpression new) n (relaxed registry schema t)
  relaxed_roots {new = new} like settled = relaxed_root registry schema items new n like (subst (AllByRecursion (DenotesSettled (said (is_relaxed registry schema) registry schema) new)) only settled).0
