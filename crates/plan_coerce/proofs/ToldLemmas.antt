-- What stands at a node without casts that go, and what is put in place of such a cast.
use Rattle.std.proofs.Common.{◌≡◌, ◌≢◌, ◌<◌, ◌≤◌, ◌+◌, ℕ, Bool, true, false, cond, List, [], ◌∷◌, length, map, set, slice_get, Option, Some, None, MatchOption, is_some, Ok, Err, refl, sym, ap, ◌∙◌, subst, arith, inl, inr, ⊎_elim}
use Rattle.std.specs.Prelude.{◌&&◌, not, unwrap_or}
use Rattle.std.specs.List.{AllByRecursion}
use Rattle.std.proofs.Math.ListN.{length-set}
use Rattle.std.proofs.lemmas.Bool.{and_from, and_parts, false≢true}
use Rattle.plan_types.specs.Types.{Ty, Truth, Untyped, is_known, same_type, ty}
use Rattle.plan_types.specs.TypeLaws.{same_type_exact, same_type_own}
use Rattle.plan_types.specs.Casts.{can_cast}
use Rattle.plan_types.specs.CommonTypes.{type_alone}
use Rattle.plan_types.specs.declared.error.ErrorKind.TheVariants.{InvalidOperation}
use Rattle.plan_types.specs.Schemas.{Columns}
use Rattle.plan_types.specs.Values.{Val}
use Rattle.plan_types.specs.declared.dtype.CastOptions.{CastOptions}
use Rattle.plan_types.specs.declared.dtype.DataType.{DataType}
use Rattle.plan_types.specs.declared.dtype.DataType.TheVariants.{Boolean}
use Rattle.plan_types.proofs.CommonLemmas.{alone_itself, literal_has}
use Rattle.plan_dsl.specs.declared.literal.LiteralValue.{LiteralValue}
use Rattle.plan_dsl.specs.declared.operator.Operator.{Operator}
use Rattle.plan_dsl.specs.Aliases.{renamed}
use Rattle.plan_dsl.specs.Coercion.{coerced, coerced_all, fitted}
use Rattle.plan_dsl.specs.InlinedCasts.{all_inlined, cast_of, in_place_of, inlined, is_cast, is_cast_op, is_logical, is_operator, is_told, is_told_top, literal_cast, stays, until_gone, written_out}
use Rattle.plan_dsl.specs.Literals.{is_literal, literal_op, literal_type, literal_value, settled, settled_op, settled_type}
use Rattle.plan_dsl.specs.Ops.{Op, LiteralOp, AliasOp, BinaryOp, CastOp, Expression}
use Rattle.plan_dsl.specs.Registry.{Registry}
use Rattle.plan_dsl.specs.Strictness.{IsSame, as_operand, as_operands, changed, number_as}
use Rattle.plan_dsl.specs.Trees.{Trees, node, no_more, more, tree_depth}
use Rattle.plan_dsl.specs.OperatorTypes.{Taken}
use Rattle.plan_dsl.specs.Typing.{Typed, Ruling, cast_taken, rule, ruled_as, typing, typing_all}
use Rattle.plan_dsl.proofs.CastMeaningLemmas.{if_true}
use Rattle.plan_dsl.proofs.LiteralLemmas.{typed_known}
use Rattle.plan_dsl.proofs.SameLemmas.{same_then}
use Rattle.plan_dsl.proofs.SignatureLemmas.{target_known}
use Rattle.plan_dsl.proofs.TypingLemmas.{by_children, by_no_children, ok_where, ruled_is, typed_parts}
use Rattle.plan_arena.specs.declared.aexpr.AExpr.{AExpr}
use Rattle.plan_arena.specs.declared.aexpr.AExpr.TheVariants.{Literal as LiteralItem, BinaryExpr, Cast, Column, Len, Slice, Explode, Gather, Filter, Sort, SortBy, Alias, Agg, Window, Ternary, Function}
use Rattle.plan_arena.specs.Denotation.{Denotes, DenoteAll, DenotesTree}
use Rattle.plan_arena.specs.Items.{HoldsExpression, expression_layer}
use Rattle.plan_arena.specs.Layers.{inputs_of, layer, op_of, shape_of}
use Rattle.plan_arena.proofs.DenotationLemmas.{all_kept_below, some_same}
use Rattle.plan_arena.proofs.ItemLemmas.{expression_elsewhere, expression_got, expression_laws, expression_written, got_held, held_top, layer_inputs, layer_parts, no_children, one_child, within}
use Rattle.plan_infer.specs.declared.type_table.Inferred.{Inferred}
use Rattle.plan_infer.specs.declared.type_table.TypeTable.{TypeTable}
use Rattle.plan_infer.specs.KeptTypes.{IsRight, KeepsEntry, typed_of}
use Rattle.plan_infer.proofs.TableLemmas.{kept_typing}
use Rattle.plan_coerce.specs.CoercedLaws.{inlined_renamed}
use Rattle.plan_coerce.specs.Coercion.{ChangesType}
use Rattle.plan_coerce.specs.Optimizer.{AreSettled, IsSettled}
use Rattle.plan_coerce.specs.Reaching.{Among, AreOnce, HasNodes, HaveNodes, IsClosed, Near, StaysOnce}
use Rattle.plan_coerce.specs.KindLaws.{becomes_itself, becomes_one, becomes_over, becomes_then}
use Rattle.plan_coerce.specs.Kinds.{Becomes, cast_gone}
use Rattle.plan_coerce.specs.Rules.{IsLike, IsReplacement, is_strict_node, said, until_settled}
use Rattle.plan_coerce.specs.CoercionRule.{IsCoercion}
use Rattle.plan_coerce.specs.ToldCasts.{IsTypedNode, LeadsTo, LeadsToLogical}
use Rattle.plan_coerce.proofs.CoercedLemmas.{bare_by}
use Rattle.plan_coerce.proofs.FrameLemmas.{on_frames}
use Rattle.plan_coerce.proofs.InliningLemmas.{gives_literal, literal_strict, logical_truth}
use Rattle.plan_coerce.proofs.KindLemmas.{written_becomes}
use Rattle.plan_coerce.proofs.NameLemmas.{fitted_typed, written_same}
use Rattle.plan_coerce.proofs.SettledLemmas.{known_settled, literal_typed, number_settled, own_number}
use Rattle.plan_coerce.proofs.OnceLemmas.{among_front, once_front, all_nodes_unwritten}
use Rattle.plan_coerce.proofs.RightLemmas.{node_within}
use Rattle.plan_coerce.proofs.ReachLemmas.{closed_put, closed_start, reached_near, root_near}

-- ---- what can be told of casts

-- nothing is told of a cast of what isn't a literal or of such an operator
pub untold : (target : Ty) (options : CastOptions) (x : Expression) → is_told x ≡ false → cast_of target options x ≡ None
untold target options (node (LiteralOp type value) operands) h = cc
untold target options (node (BinaryOp operator) operands) h =
    ap (λ b. cond (b && same_type Truth target) (Some (node (BinaryOp operator) operands)) None) h
untold target options (node op operands) h = refl

-- what stands for a cast is one of these
given_told : (target : Ty) (options : CastOptions) (x e : Expression) → cast_of target options x ≡ Some e → is_told e ≡ true
given_told target options (node (LiteralOp from value) no_more) e h = ap is_told (gives_literal from value target options e h).is
given_told target options (node (BinaryOp operator) operands) e h =
    elim (is_logical operator) as (λ b. is_logical operator ≡ b → cond (b && same_type Truth target) (Some (node (BinaryOp operator) operands)) None ≡ Some e → is_told e ≡ true) [
      | true ↦ λ l f. elim (same_type Truth target) as (λ s. cond s (Some (node (BinaryOp operator) operands)) None ≡ Some e → is_told e ≡ true) [ true ↦ λ g. let is : node (BinaryOp operator) operands ≡ e = cc in ap is_told (sym is) ∙ l | false ↦ λ g. cc ] f
      | false ↦ λ l f. cc
    ] refl h
given_told target options (node op operands) e h = cc

pub placed_told : (op : Op) (ts : Trees Op) (e : Expression) → in_place_of op ts ≡ Some e → is_told e ≡ true
placed_told (CastOp target options) (more x no_more) e h = given_told target options x e h
placed_told op ts e h = cc

-- a cast goes just where what it is without such casts is one of these
cast_untold : (op : Op) (ts : Trees Op) → is_cast_op op ≡ true → is_told (node op ts) ≡ false
cast_untold (CastOp target options) ts h = refl
cast_untold op ts h = cc

goes_by : (op : Op) (ts : Trees Op) → is_cast_op op ≡ true → (found : Option Expression) → in_place_of op ts ≡ found → is_told (unwrap_or found (node op ts)) ≡ is_some found
goes_by op ts cast None is = cast_untold op ts cast
goes_by op ts cast (Some e) is = placed_told op ts e is

pub goes_where_told : (op : Op) (ts : Trees Op) → is_cast_op op ≡ true → is_told (inlined (node op ts)) ≡ is_some (in_place_of op (all_inlined ts))
goes_where_told op ts cast = goes_by op (all_inlined ts) cast (in_place_of op (all_inlined ts)) refl

-- any other node stays
pub others_stay : (op : Op) (ts : Trees Op) → is_cast_op op ≡ false → in_place_of op ts ≡ None
others_stay (CastOp target options) ts h = cc
others_stay op ts h = refl

-- ---- where each node stays, the expression is as it was

none_of : {A : Type 0} (o : Option A) → not (is_some o) ≡ true → o ≡ None
none_of None h = refl
none_of (Some x) h = cc

mutual
  pub stays_inlined : (t : Expression) → IsSettled stays t → inlined t ≡ t
  stays_inlined (node op ts) s =
      ap (λ found. unwrap_or found (node op (all_inlined ts))) (none_of (in_place_of op (all_inlined ts)) s.0) ∙ ap (node op) (all_stays_inlined ts s.1)

  pub all_stays_inlined : (ts : Trees Op) → AreSettled stays ts → all_inlined ts ≡ ts
  all_stays_inlined no_more s = refl
  all_stays_inlined (more t ts) s = ap (λ x. more x (all_inlined ts)) (stays_inlined t s.0) ∙ ap (more t) (all_stays_inlined ts s.1)

-- ---- what a node leads to

module _ (items : List AExpr) where
  -- it is reached
  pub leads_near : (at : ℕ) (n : ℕ) (t : Expression) (m : ℕ) (u : Expression) → Near items (at ∷ []) n → LeadsTo items n t m u → Near items (at ∷ []) m
  leads_near at n (node op (more x no_more)) m u near l =
      ⊎_elim (λ h. subst (Near items (at ∷ [])) h.0 near) (λ h. leads_near at h.0 x m u (closed_start items (at ∷ []) n op (h.0 ∷ []) near h.1).0 h.2) l
  leads_near at n (node op no_more) m u near l = subst (Near items (at ∷ [])) l.0 near
  leads_near at n (node op (more x (more y ts))) m u near l = subst (Near items (at ∷ [])) l.0 near

  -- what it denotes is no deeper
  leads_depth : (n : ℕ) (t : Expression) (m : ℕ) (u : Expression) → LeadsTo items n t m u → tree_depth u ≤ tree_depth t
  leads_depth n (node op (more x no_more)) m u l =
      ⊎_elim
      (λ e. let same = ap tree_depth e.1 in omega (arith, same))
      (λ k. let below = leads_depth k.0 x m u k.2 in omega (arith, below))
      l
  leads_depth n (node op no_more) m u l = let same = ap tree_depth l.1 in omega (arith, same)
  leads_depth n (node op (more x (more y ts))) m u l = let same = ap tree_depth l.1 in omega (arith, same)

  -- and its nodes are among those of the first, none of them twice
  only_nodes : (k : ℕ) (ts : Trees Op) (ns : List ℕ) → HaveNodes items (k ∷ []) ts ns → AreOnce ns → (x : Expression) × (ms : List ℕ) × HasNodes items k x ms × AreOnce ms × ((j : ℕ) → Among ms j → Among ns j)
  only_nodes k no_more ns h once = absurd h
  only_nodes k (more x rest) ns h once =
      (x, h.0, h.3, once_front h.0 h.1 (subst AreOnce h.2 once), λ j a. subst (λ l. Among l j) (sym h.2) (among_front h.0 h.1 j a))

  under_nodes : (n : ℕ) (op : Op) (k : ℕ) → HoldsExpression items n op (k ∷ []) → (t : Expression) (ns : List ℕ) → HasNodes items n t ns → AreOnce ns → (x : Expression) × (ms : List ℕ) × HasNodes items k x ms × AreOnce ms × ((j : ℕ) → Among ms j → Among ns j)
  under_nodes n op k held (node o ts) ns h once =
      let same = layer_inputs o op h.0 (k ∷ []) (some_same _ _ _ h.2 held) in
      let only = only_nodes k ts h.1 (subst (λ l. HaveNodes items l ts h.1) same h.4) (subst AreOnce h.3 once).1 in
      (only.0, only.1, only.2, only.3, λ j a. subst (λ l. Among l j) (sym h.3) (inr (only.4 j a)))

  leads_nodes : (n : ℕ) (t : Expression) (m : ℕ) (u : Expression) → LeadsTo items n t m u → (t' : Expression) (ns : List ℕ) → HasNodes items n t' ns → AreOnce ns → (u' : Expression) × (ms : List ℕ) × HasNodes items m u' ms × AreOnce ms × ((j : ℕ) → Among ms j → Among ns j)
  leads_nodes n (node op (more x no_more)) m u l t' ns h once =
      ⊎_elim
      (λ e. (t', ns, subst (λ k. HasNodes items k t' ns) e.0 h, once, λ j a. a))
      (λ k.
      let first = under_nodes n op k.0 k.1 t' ns h once in
      let below = leads_nodes k.0 x m u k.2 first.0 first.1 first.2 first.3 in
      (below.0, below.1, below.2, below.3, λ j a. first.4 j (below.4 j a)))
      l
  leads_nodes n (node op no_more) m u l t' ns h once = (t', ns, subst (λ k. HasNodes items k t' ns) l.0 h, once, λ j a. a)
  leads_nodes n (node op (more x (more y ts))) m u l t' ns h once = (t', ns, subst (λ k. HasNodes items k t' ns) l.0 h, once, λ j a. a)

-- ---- what stands under a cast, written out

-- a cast goes to a type of columns, or is refused
cast_operand : (target : Ty) (found : Option Ty) (many : Bool) (ruling : Ruling) → ruled_as (cast_taken target found) many ≡ Ok ruling → (own : Ty) × (found ≡ Some own) × (ruling.operands ≡ own ∷ [])
cast_operand target None many ruling h = cc
cast_operand target (Some from) many ruling h =
    ruled_is (λ r. (own : Ty) × (Some from ≡ Some own) × (r.operands ≡ own ∷ [])) (cast_taken target (Some from)) many ruling h (λ taken found.
    let parts = ok_where (can_cast from target) _ taken InvalidOperation found in
    (from, refl, ap (λ (t : Taken). t.operands) (sym parts.1)))

settled_told : (t : Expression) → is_told (settled t) ≡ is_told t
settled_told (node (AliasOp name) (more tree no_more)) = refl
settled_told (node (LiteralOp type value) operands) = refl
settled_told (node op operands) = refl

module _ (registry : Registry) (schema : Columns) where
  -- an operand of the type that it has alone
  own_operand : (x : Expression) (from own : Ty) (many : Bool) → typing registry schema x ≡ Ok (record { type = from; many = many }) → type_alone from ≡ Some own → inlined (as_operand from own (coerced registry schema x)) ≡ settled (written_out registry schema x)
  own_operand x (Untyped number) own many h alone =
      let z = coerced registry schema x in
      let has = literal_has number own alone in
      let s = number_settled registry schema number own alone (written_out registry schema x) many ((written_same registry schema x _ h).typing ∙ h) in
      elim (same_type (Untyped number) own) as (λ b. same_type (Untyped number) own ≡ b → inlined (cond b z (renamed z (number_as number own))) ≡ settled (written_out registry schema x)) [
        | true ↦ λ e. absurd (false≢true (ap is_known (same_type_exact (Untyped number) own e) ∙ has.1))
        | false ↦ λ e. inlined_renamed z (number_as number own) ∙ ap (λ n. renamed (inlined z) (inlined n)) (own_number number own alone) ∙ sym s.is
      ] refl
  own_operand x from own many h alone =
      let known = typed_known registry schema x from many h (λ number e. cc) in
      let same : from ≡ own = some_same (type_alone from) from own (alone_itself from known) alone in
      let stays = known_settled registry schema (written_out registry schema x) (record { type = from; many = many }) ((written_same registry schema x _ h).typing ∙ h) known in
      subst (λ o. inlined (as_operand from o (coerced registry schema x)) ≡ settled (written_out registry schema x)) same
      (ap inlined (if_true (same_type from from) (coerced registry schema x) (changed from from (coerced registry schema x)) (same_type_own from)) ∙ sym stays)

  module _ (target : Ty) (options : CastOptions) (x : Expression) (typed : Typed) (h : typing registry schema (node (CastOp target options) (more x no_more)) ≡ Ok typed) where
    abbrev over : Expression → Expression
    over y = node (CastOp target options) (more y no_more)

    abbrev under : Trees Op
    under = fitted registry schema (CastOp target options) (typing_all registry schema (more x no_more)) (coerced_all registry schema (more x no_more))

    -- what stands under a cast has a typing
    pub cast_below : (own : Typed) × (typing registry schema x ≡ Ok own)
    cast_below =
        let p = typed_parts registry schema (CastOp target options) (more x no_more) typed h in
        by_children (λ ts. (own : Typed) × (typing registry schema x ≡ Ok own)) _ _ p.below p.children_typed (λ t ts first rest. (t, first))

    under_is : all_inlined under ≡ more (settled (written_out registry schema x)) no_more
    under_is =
        let p = typed_parts registry schema (CastOp target options) (more x no_more) typed h in
        by_children (λ ts. typing_all registry schema (more x no_more) ≡ Ok ts → rule registry schema (CastOp target options) ts ≡ Ok p.ruling → all_inlined under ≡ more (settled (written_out registry schema x)) no_more) _ _ p.below p.children_typed (λ t ts first rest.
        by_no_children (λ us. typing_all registry schema (more x no_more) ≡ Ok (t ∷ us) → rule registry schema (CastOp target options) (t ∷ us) ≡ Ok p.ruling → all_inlined under ≡ more (settled (written_out registry schema x)) no_more) ts rest (λ all rules.
        let o = cast_operand target (type_alone t.type) t.many p.ruling rules in
        ap all_inlined (fitted_typed registry schema (CastOp target options) (more x no_more) (coerced_all registry schema (more x no_more)) (t ∷ []) p.ruling all rules)
        ∙ ap (λ l. all_inlined (as_operands (t.type ∷ []) l (more (coerced registry schema x) no_more))) o.2
        ∙ ap (λ y. more y no_more) (own_operand x t.type o.0 t.many first o.1))) p.children_typed p.rules

    pub cast_written : written_out registry schema (over x) ≡ unwrap_or (cast_of target options (settled (written_out registry schema x))) (over (settled (written_out registry schema x)))
    cast_written = ap (λ l. unwrap_or (in_place_of (CastOp target options) l) (node (CastOp target options) l)) under_is

    -- ---- what is told of a cast, from what is told of what stands under it

    pub literal_told : (value own made : LiteralValue) → written_out registry schema x ≡ node (literal_op value) no_more → literal_op own ≡ settled_op (literal_op value) → literal_cast (literal_type own) (literal_value own) target options ≡ Some (node (literal_op made) no_more) → written_out registry schema (over x) ≡ node (literal_op made) no_more
    literal_told value own made is same found =
        let there : settled (written_out registry schema x) ≡ node (literal_op own) no_more = ap settled is ∙ ap (λ o. node o no_more) (sym same) in
        cast_written
        ∙ ap (λ y. unwrap_or (cast_of target options y) (over y)) there
        ∙ ap (λ f. unwrap_or f (over (node (literal_op own) no_more))) found

    pub cast_stays : cast_of target options (settled (written_out registry schema x)) ≡ None → is_told (written_out registry schema (over x)) ≡ false
    cast_stays none = ap is_told cast_written ∙ ap (λ f. is_told (unwrap_or f (over (settled (written_out registry schema x))))) none

    pub literal_stays : (value own : LiteralValue) → written_out registry schema x ≡ node (literal_op value) no_more → literal_op own ≡ settled_op (literal_op value) → literal_cast (literal_type own) (literal_value own) target options ≡ None → is_told (written_out registry schema (over x)) ≡ false
    literal_stays value own is same none =
        let there : settled (written_out registry schema x) ≡ node (literal_op own) no_more = ap settled is ∙ ap (λ o. node o no_more) (sym same) in
        cast_stays (ap (cast_of target options) there ∙ none)

    pub neither_stays : is_told (written_out registry schema x) ≡ false → is_told (written_out registry schema (over x)) ≡ false
    neither_stays none = cast_stays (untold target options (settled (written_out registry schema x)) (settled_told (written_out registry schema x) ∙ none))

    -- a cast of such an operator to truth values
    module _ (operator : Operator) (operands : Trees Op) (is : written_out registry schema x ≡ written_out registry schema (node (BinaryOp operator) operands)) where
      pub logical_written : is_logical operator ≡ true → same_type Truth target ≡ true → written_out registry schema (over x) ≡ written_out registry schema (node (BinaryOp operator) operands)
      logical_written logical truth =
          let w = written_out registry schema (node (BinaryOp operator) operands) in
          cast_written
          ∙ ap (λ y. unwrap_or (cast_of target options y) (over y)) (ap settled is)
          ∙ ap (λ b. unwrap_or (cond b (Some w) None) (over w)) (and_from (is_logical operator) (same_type Truth target) logical truth)

      pub logical_stays : same_type Truth target ≡ false → is_told (written_out registry schema (over x)) ≡ false
      logical_stays other =
          let w = written_out registry schema (node (BinaryOp operator) operands) in
          cast_stays (ap (λ y. cast_of target options (settled y)) is ∙ elim (is_logical operator) as (λ b. cond (b && same_type Truth target) (Some w) None ≡ None) [ true ↦ ap (λ s. cond s (Some w) None) other | false ↦ refl ])

    -- so a cast of such an operator leads to it
    pub cast_leads : (items : List AExpr) (n k m : ℕ) → HoldsExpression items n (CastOp target options) (k ∷ []) → same_type Truth target ≡ true → LeadsToLogical registry schema items k x m → LeadsToLogical registry schema items n (over x) m
    cast_leads items n k m held truth l = record {
      operator = l.operator;
      operands = l.operands;
      logical = l.logical;
      leads = inr (k, held, l.leads);
      denotes = l.denotes;
      typed = l.typed;
      has = l.has;
      is = logical_written l.operator l.operands l.is l.logical truth;
      becomes =
          let u = node (BinaryOp l.operator) l.operands in
          let was = ap (λ t. node (CastOp t options) (more u no_more)) (sym (same_type_exact Truth target truth)) in
          becomes_then registry schema (over x) (over u) u (becomes_over registry schema (CastOp target options) (more x no_more) (more u no_more) (l.becomes, tt)) (becomes_one registry schema (over u) u (inl (cast_gone options l.operator l.operands l.logical was refl)));
    }

-- a type other than that of truth values
pub other_type : (dtype : DataType) → dtype ≢ Boolean → same_type Truth (ty dtype) ≡ false
other_type Boolean other = absurd (other refl)
other_type dtype other = refl

-- ---- what is put in place

some_goes : {A : Type 0} (o : Option A) → true ≡ is_some o → not (is_some o) ≡ false
some_goes None h = cc
some_goes (Some x) h = refl

-- how often a node is replaced that is no cast, and one that is strict
pub uncast_stays : (registry : Registry) (schema : Columns) (t : Expression) → is_cast t ≡ false → stays (coerced registry schema t) ≡ true
uncast_stays registry schema (node op ts) cast =
    ap (λ found. not (is_some found)) (others_stay op (all_inlined (fitted registry schema op (typing_all registry schema ts) (coerced_all registry schema ts))) cast)

pub none_gone : (t : Expression) → stays t ≡ true → until_gone t ≡ 0
none_gone t h = ap (λ b. cond b 0 (cond (is_operator (inlined t)) 3 1)) h

gone_by : (t : Expression) (operator : Bool) → stays t ≡ false → is_operator (inlined t) ≡ operator → until_gone t ≡ cond operator 3 1
gone_by t operator h o = ap (λ b. cond b 0 (cond (is_operator (inlined t)) 3 1)) h ∙ ap (λ b. cond b 3 1) o

pub strict_turns : (registry : Registry) (schema : Columns) (t : Expression) → said (is_strict_node registry schema) registry schema t ≡ true → until_settled registry schema t ≡ until_gone (coerced registry schema t)
strict_turns registry schema t strict =
    let all = ap (λ b. until_gone (coerced registry schema t) + cond b 0 2) strict in
    omega (arith, all)

pub loose_turns : (registry : Registry) (schema : Columns) (t : Expression) → said (is_strict_node registry schema) registry schema t ≡ false → until_settled registry schema t ≡ until_gone (coerced registry schema t) + 2
loose_turns registry schema t loose = ap (λ b. until_gone (coerced registry schema t) + cond b 0 2) loose

uncast_turns : (registry : Registry) (schema : Columns) (t : Expression) → is_cast t ≡ false → until_settled registry schema t ≤ 2
uncast_turns registry schema t cast =
    let none = none_gone (coerced registry schema t) (uncast_stays registry schema t cast) in
    elim (said (is_strict_node registry schema) registry schema t) as (λ b. until_gone (coerced registry schema t) + cond b 0 2 ≤ 2) [ true ↦ omega (arith, none) | false ↦ omega (arith, none) ]

-- a cast that goes
goes : (registry : Registry) (schema : Columns) (op : Op) (ts : Trees Op) → is_cast_op op ≡ true → is_told (written_out registry schema (node op ts)) ≡ true → stays (coerced registry schema (node op ts)) ≡ false
goes registry schema op ts cast told =
    let us = fitted registry schema op (typing_all registry schema ts) (coerced_all registry schema ts) in
    some_goes (in_place_of op (all_inlined us)) (sym told ∙ goes_where_told op us cast)

cast_turns : (registry : Registry) (schema : Columns) (op : Op) (ts : Trees Op) (operator : Bool) → is_cast_op op ≡ true → said (is_strict_node registry schema) registry schema (node op ts) ≡ true → is_told (written_out registry schema (node op ts)) ≡ true → is_operator (written_out registry schema (node op ts)) ≡ operator → until_settled registry schema (node op ts) ≡ cond operator 3 1
cast_turns registry schema op ts operator cast strict told o =
    strict_turns registry schema (node op ts) strict ∙ gone_by (coerced registry schema (node op ts)) operator (goes registry schema op ts cast told) o

pub cast_settled : (op : Op) (ts : Trees Op) → is_cast_op op ≡ true → settled (node op ts) ≡ node op ts
cast_settled (CastOp target options) ts h = refl
cast_settled op ts h = cc

-- the arena with an item in place of a typed cast, of which it is the same, written out
module _ (registry : Registry) (schema : Columns) (items : List AExpr) (at : ℕ) (item : AExpr) (op : Op) (ts : Trees Op) (own : Typed) (has : typing registry schema (node op ts) ≡ Ok own) (d : Denotes (HoldsExpression items) at (node op ts)) (cast : is_cast_op op ≡ true) (near : AllByRecursion (Near items (at ∷ [])) (inputs_of (expression_layer item))) where
  here : at < length items
  here = within items at (node op ts) d

  pub put_closed : IsClosed items (at ∷ []) (set items at item)
  put_closed = closed_put items (at ∷ []) items at item here near (closed_start items (at ∷ []))

  pub put_replaces : (tree : Expression) → Denotes (HoldsExpression (set items at item)) at tree → IsCoercion registry schema (node op ts) tree → until_settled registry schema tree < until_settled registry schema (node op ts) → ((typed : Typed) → typing registry schema tree ≡ Ok typed → is_known typed.type ≡ true) → IsSame registry schema (node op ts) tree → IsReplacement (IsCoercion registry schema) (until_settled registry schema) registry schema items (set items at item) at (node op ts)
  put_replaces tree there same falls known says = record {
    tree = tree;
    denotes = there;
    like = λ typed h. subst (λ t. IsLike (IsCoercion registry schema) registry schema t tree) (sym (cast_settled op ts cast)) (record { same = on_frames registry schema (node op ts) tree says; relates = same });
    ill_typed = λ kind h. let differs : Ok own ≡ Err kind = sym has ∙ h in cc;
    known = known;
    falls = falls;
    fresh = λ n t le reached dn. let lt = within (set items at item) n t dn in absurd (omega (arith, le, lt, length-set items at item));
    numbers = λ n number value inputs reached held. ⊎_elim
        (λ le. absurd (omega (arith, le, node_within (set items at item) n (LiteralOp (Untyped number) value) inputs held, length-set items at item)))
        (λ r. r)
        (reached_near items (at ∷ []) (set items at item) (at ∷ []) n put_closed (root_near items at, tt) reached);
  }

-- ---- a literal in place of a cast

same_types_of : (a b : Ty) (v w : Val) → node (LiteralOp a v) no_more ≡ node (LiteralOp b w) no_more → a ≡ b
same_types_of a b v w e = cc

same_values_of : (a b : Ty) (v w : Val) → node (LiteralOp a v) no_more ≡ node (LiteralOp b w) no_more → v ≡ w
same_values_of a b v w e = cc

-- it is one of a type of columns, which has its value
top_literal : (target : Ty) (options : CastOptions) (x : Expression) (type : Ty) (value : Val) → cast_of target options x ≡ Some (node (LiteralOp type value) no_more) → (is_known type ≡ true) × (is_literal type value ≡ true)
top_literal target options (node (LiteralOp from v) no_more) type value h =
    let g = gives_literal from v target options (node (LiteralOp type value) no_more) h in
    let same = same_types_of type target value g.made g.is in
    (ap is_known same ∙ target_known from target g.casts, ap (λ t. is_literal t value) same ∙ ap (is_literal target) (same_values_of type target value g.made g.is) ∙ g.fits)
top_literal target options (node (BinaryOp operator) operands) type value h =
    elim (is_logical operator && same_type Truth target) as (λ b. cond b (Some (node (BinaryOp operator) operands)) None ≡ Some (node (LiteralOp type value) no_more) → (is_known type ≡ true) × (is_literal type value ≡ true)) [ true ↦ λ e. cc | false ↦ λ e. cc ] h
top_literal target options (node op operands) type value h = cc

placed_literal : (op : Op) (ts : Trees Op) (type : Ty) (value : Val) → in_place_of op ts ≡ Some (node (LiteralOp type value) no_more) → (is_known type ≡ true) × (is_literal type value ≡ true)
placed_literal (CastOp target options) (more x no_more) type value h = top_literal target options x type value h
placed_literal op ts type value h = cc

-- what a cast is without those that go, where that is told, stands in its place
in_place_found : (op : Op) (us : Trees Op) (e : Expression) → is_cast_op op ≡ true → is_told e ≡ true → (found : Option Expression) → in_place_of op us ≡ found → unwrap_or found (node op us) ≡ e → found ≡ Some e
in_place_found op us e cast told (Some x) is h = ap Some h
in_place_found op us e cast told None is h = absurd (false≢true (sym (cast_untold op us cast) ∙ ap is_told h ∙ told))

bare_known : (registry : Registry) (schema : Columns) (type : Ty) (value : Val) → is_known type ≡ true → (typed : Typed) → typing registry schema (node (LiteralOp type value) no_more) ≡ Ok typed → is_known typed.type ≡ true
bare_known registry schema type value known typed h = ap is_known (sym (literal_typed registry schema type value no_more typed h)) ∙ known

-- a literal is written out
pub leaf_coerced : (registry : Registry) (schema : Columns) (op : Op) → coerced registry schema (node op no_more) ≡ node op no_more
leaf_coerced registry schema op = ap (node op) (bare_by (rule registry schema op []) [])

module _ (registry : Registry) (schema : Columns) (items : List AExpr) (at : ℕ) (op : Op) (ts : Trees Op) (own : Typed) (has : typing registry schema (node op ts) ≡ Ok own) (strict : said (is_strict_node registry schema) registry schema (node op ts) ≡ true) (d : Denotes (HoldsExpression items) at (node op ts)) (cast : is_cast_op op ≡ true) where
  pub literal_replaces : (value : LiteralValue) → written_out registry schema (node op ts) ≡ node (literal_op value) no_more → IsReplacement (IsCoercion registry schema) (until_settled registry schema) registry schema items (set items at (LiteralItem value)) at (node op ts)
  literal_replaces value is =
      let tree = node (literal_op value) no_more in
      let us = fitted registry schema op (typing_all registry schema ts) (coerced_all registry schema ts) in
      let place = in_place_found op (all_inlined us) tree cast refl (in_place_of op (all_inlined us)) refl is in
      let fits = placed_literal op (all_inlined us) (literal_type value) (literal_value value) place in
      let alone = (and_parts _ true (literal_strict registry schema (literal_type value) (literal_value value) fits.0 fits.1)).0 in
      let before = cast_turns registry schema op ts false cast strict (ap is_told is) (ap is_operator is) in
      let after = strict_turns registry schema tree alone ∙ none_gone (coerced registry schema tree) (uncast_stays registry schema tree refl) in
      put_replaces registry schema items at (LiteralItem value) op ts own has d cast tt tree
      ([], expression_written items at (LiteralItem value) (within items at (node op ts) d), tt)
      (record { same = ap inlined (leaf_coerced registry schema (literal_op value)) ∙ sym is; becomes = subst (Becomes registry schema (node op ts)) is (written_becomes registry schema (node op ts) own has) })
      (omega (arith, before, after))
      (bare_known registry schema (literal_type value) (literal_value value) fits.0)
      (subst (IsSame registry schema (node op ts)) is (written_same registry schema (node op ts) own has))

-- ---- what stands under a cast of an operator of truth values

turned : (registry : Registry) (schema : Columns) (t u : Expression) → IsSame registry schema t u → IsSame registry schema u t
turned registry schema t u s = record { typing = sym s.typing; name = sym s.name; meaning = λ rows. sym (s.meaning rows) }

operator_known : (registry : Registry) (schema : Columns) (operator : Operator) (operands : Trees Op) → is_logical operator ≡ true → (typed : Typed) → typing registry schema (node (BinaryOp operator) operands) ≡ Ok typed → is_known typed.type ≡ true
operator_known registry schema operator operands logical typed h =
    let p = typed_parts registry schema (BinaryOp operator) operands typed h in
    ap is_known (ap (λ (t : Typed). t.type) (sym p.is) ∙ logical_truth registry schema operator p.below p.ruling logical p.rules)

one_op : (a b : Op) (ts us : Trees Op) → node a ts ≡ node b us → a ≡ b
one_op a b ts us e = cc

-- a cast leads to something further down
further : (items : List AExpr) (at : ℕ) (op : Op) (ts : Trees Op) (m : ℕ) (operator : Operator) (operands : Trees Op) → is_cast_op op ≡ true → LeadsTo items at (node op ts) m (node (BinaryOp operator) operands) → (k : ℕ) × (x : Expression) × HoldsExpression items at op (k ∷ []) × LeadsTo items k x m (node (BinaryOp operator) operands)
further items at op no_more m operator operands cast l = absurd (false≢true (ap is_cast_op (one_op (BinaryOp operator) op operands no_more (sym l.1)) ∙ cast))
further items at op (more x no_more) m operator operands cast l =
    ⊎_elim (λ e. absurd (false≢true (ap is_cast_op (one_op (BinaryOp operator) op operands (more x no_more) (sym e.1)) ∙ cast))) (λ k. (k.0, x, k.1, k.2)) l
further items at op (more x (more y rest)) m operator operands cast l = absurd (false≢true (ap is_cast_op (one_op (BinaryOp operator) op operands (more x (more y rest)) (sym l.1)) ∙ cast))

module _ (registry : Registry) (schema : Columns) (items : List AExpr) (at : ℕ) (op : Op) (ts : Trees Op) (d : Denotes (HoldsExpression items) at (node op ts)) (cast : is_cast_op op ≡ true) (m : ℕ) (l : LeadsToLogical registry schema items at (node op ts) m) (before item : AExpr) (got : slice_get items m ≡ Some before) (copied : expression_layer item ≡ expression_layer before) where
  inside : at < length items
  inside = within items at (node op ts) d

  -- the item does there what it did where it was
  item_held : (o : Op) (inputs : List ℕ) → HoldsExpression items m o inputs → HoldsExpression (set items at item) at o inputs
  item_held o inputs held = expression_written items at item inside ∙ ap Some copied ∙ sym (expression_got items m before got) ∙ held

  item_layer : expression_layer item ≡ layer (BinaryOp l.operator) l.denotes.0
  item_layer = copied ∙ some_same _ _ _ (expression_got items m before got) l.denotes.1

  inputs_near_there : AllByRecursion (Near items (at ∷ [])) (inputs_of (expression_layer item))
  inputs_near_there =
      subst (AllByRecursion (Near items (at ∷ []))) (sym (ap inputs_of item_layer)) (closed_start items (at ∷ []) m (BinaryOp l.operator) l.denotes.0 (leads_near items at at (node op ts) m (node (BinaryOp l.operator) l.operands) (root_near items at) l.leads) l.denotes.1)

  pub logical_closed : IsClosed items (at ∷ []) (set items at item)
  logical_closed = closed_put items (at ∷ []) items at item inside inputs_near_there (closed_start items (at ∷ []))

  pub logical_replaces : (own : Typed) → typing registry schema (node op ts) ≡ Ok own → said (is_strict_node registry schema) registry schema (node op ts) ≡ true → IsReplacement (IsCoercion registry schema) (until_settled registry schema) registry schema items (set items at item) at (node op ts)
  logical_replaces own has strict =
      let u = node (BinaryOp l.operator) l.operands in
      let shallow = leads_depth items at (node op ts) m u l.leads in
      let below = all_kept_below (shape_of (map expression_layer items)) (HoldsExpression items) (HoldsExpression (set items at item)) (expression_laws items) at (λ n o inputs other held. expression_elsewhere items at item n o inputs other held) (node op ts) d l.denotes.0 l.operands l.denotes.2 (omega (arith, shallow)) in
      let before = cast_turns registry schema op ts true cast strict (ap is_told l.is ∙ l.logical) (ap is_operator l.is ∙ l.logical) in
      let after = uncast_turns registry schema u refl in
      put_replaces registry schema items at item op ts own has d cast inputs_near_there u
      (l.denotes.0, item_held (BinaryOp l.operator) l.denotes.0 l.denotes.1, below)
      (record { same = sym l.is; becomes = l.becomes })
      (omega (arith, before, after))
      (operator_known registry schema l.operator l.operands l.logical)
      (same_then registry schema (node op ts) (written_out registry schema (node op ts)) u (written_same registry schema (node op ts) own has) (subst (λ w. IsSame registry schema w u) (sym l.is) (turned registry schema u (written_out registry schema u) (written_same registry schema u l.typed l.has))))

  placed_nodes : (below : List ℕ) → (Among below at → ⊥) → (u : Expression) (ms : List ℕ) → HasNodes items m u ms → AreOnce ms → ((j : ℕ) → Among ms j → Among below j) → (w : Expression) × (ns : List ℕ) × HasNodes (set items at item) at w ns × AreOnce ns
  placed_nodes below apart (node o us) ms h once within_below =
      let out : Among h.1 at → ⊥ = λ a. apart (within_below at (subst (λ k. Among k at) (sym h.3) (inr a))) in
      (node o us, at ∷ h.1, (h.0, h.1, item_held o h.0 h.2, refl, all_nodes_unwritten items at item h.0 us h.1 h.4 out), (out, (subst AreOnce h.3 once).1))

  pub logical_once : StaysOnce items (set items at item) at
  logical_once = λ t ns h once. stays_once t ns h once where
    stays_once : (t : Expression) (ns : List ℕ) → HasNodes items at t ns → AreOnce ns → (u : Expression) × (ms : List ℕ) × HasNodes (set items at item) at u ms × AreOnce ms
    stays_once (node o us) ns h once =
        let k = further items at op ts m l.operator l.operands cast l.leads in
        let one = subst AreOnce h.3 once in
        let same = layer_inputs o op h.0 (k.0 ∷ []) (some_same _ _ _ h.2 k.2) in
        let first = only_nodes items k.0 us h.1 (subst (λ ins. HaveNodes items ins us h.1) same h.4) one.1 in
        let below = leads_nodes items k.0 k.1 m (node (BinaryOp l.operator) l.operands) k.3 first.0 first.1 first.2 first.3 in
        placed_nodes h.1 one.0 below.0 below.1 below.2 below.3 (λ j a. first.4 j (below.4 j a))

-- ---- the type of a cast is one of columns

taken_known : (target : Ty) (from : Option Ty) (many : Bool) (ruling : Ruling) → ruled_as (cast_taken target from) many ≡ Ok ruling → is_known ruling.own.type ≡ true
taken_known target None many ruling h = cc
taken_known target (Some from) many ruling h =
    ruled_is (λ r. is_known r.own.type ≡ true) (cast_taken target (Some from)) many ruling h (λ taken found.
    let parts = ok_where (can_cast from target) _ taken InvalidOperation found in
    ap (λ (t : Taken). is_known t.type) (sym parts.1) ∙ target_known from target parts.0)

rule_known : (registry : Registry) (schema : Columns) (op : Op) → is_cast_op op ≡ true → (typed : List Typed) (ruling : Ruling) → rule registry schema op typed ≡ Ok ruling → is_known ruling.own.type ≡ true
rule_known registry schema (CastOp target options) cast (from ∷ []) ruling h = taken_known target (type_alone from.type) from.many ruling h
rule_known registry schema (CastOp target options) cast [] ruling h = cc
rule_known registry schema (CastOp target options) cast (a ∷ b ∷ rest) ruling h = cc
rule_known registry schema op cast typed ruling h = cc

-- a number without a type is no cast
pub cast_type_known : (registry : Registry) (schema : Columns) (op : Op) (ts : Trees Op) → is_cast_op op ≡ true → (typed : Typed) → typing registry schema (node op ts) ≡ Ok typed → is_known typed.type ≡ true
cast_type_known registry schema op ts cast typed h =
    let p = typed_parts registry schema op ts typed h in
    ap (λ (t : Typed). is_known t.type) (sym p.is) ∙ rule_known registry schema op cast p.below p.ruling p.rules

-- ---- what is found at a node

leads_itself : (items : List AExpr) (n : ℕ) (t : Expression) → LeadsTo items n t n t
leads_itself items n (node op (more x no_more)) = inl (refl, refl)
leads_itself items n (node op no_more) = (refl, refl)
leads_itself items n (node op (more x (more y ts))) = (refl, refl)

module _ (registry : Registry) (schema : Columns) (items : List AExpr) (n : ℕ) (item : AExpr) (got : slice_get items n ≡ Some item) where
  pub told_literal : (value copy : LiteralValue) → expression_layer item ≡ layer (literal_op value) [] → literal_op copy ≡ literal_op value → (t : Expression) → Denotes (HoldsExpression items) n t → written_out registry schema t ≡ node (literal_op copy) no_more
  told_literal value copy is copied t d =
      let top = held_top items n (literal_op value) [] (got_held items n item (literal_op value) [] got is) t d in
      let none = no_children (HoldsExpression items) top.0 top.2 in
      ap (written_out registry schema) (top.1 ∙ ap (node (literal_op value)) none) ∙ ap inlined (leaf_coerced registry schema (literal_op value)) ∙ ap (λ o. node o no_more) (sym copied)

  pub told_logical : (operator : Operator) (inputs : List ℕ) → expression_layer item ≡ layer (BinaryOp operator) inputs → is_logical operator ≡ true → (t : Expression) (typed : Typed) → Denotes (HoldsExpression items) n t → typing registry schema t ≡ Ok typed → LeadsToLogical registry schema items n t n
  told_logical operator inputs is logical t typed d has =
      let top = held_top items n (BinaryOp operator) inputs (got_held items n item (BinaryOp operator) inputs got is) t d in record {
        operator = operator;
        operands = top.0;
        logical = logical;
        leads = subst (LeadsTo items n t n) top.1 (leads_itself items n t);
        denotes = subst (Denotes (HoldsExpression items) n) top.1 d;
        typed = typed;
        has = sym (ap (typing registry schema) top.1) ∙ has;
        is = ap (written_out registry schema) top.1;
        becomes = subst (Becomes registry schema t) top.1 (becomes_itself registry schema t);
      }

  -- of a cast, from what is found under it
  pub told_cast : (target : Ty) (options : CastOptions) (k : ℕ) (P : Expression → Type 0) → expression_layer item ≡ layer (CastOp target options) (k ∷ []) → ((x : Expression) → HoldsExpression items n (CastOp target options) (k ∷ []) → Denotes (HoldsExpression items) k x → P (node (CastOp target options) (more x no_more))) → (t : Expression) → Denotes (HoldsExpression items) n t → P t
  told_cast target options k P is each t d =
      let held = got_held items n item (CastOp target options) (k ∷ []) got is in
      let top = held_top items n (CastOp target options) (k ∷ []) held t d in
      let one = one_child (HoldsExpression items) k top.0 top.2 in
      subst P (sym (top.1 ∙ ap (node (CastOp target options)) one.1)) (each one.0 held one.2)

  -- nothing, where it is no literal, no such operator and no cast
  pub told_none : is_cast_op (op_of (expression_layer item)) ≡ false → is_told_top (op_of (expression_layer item)) ≡ false → (t : Expression) → Denotes (HoldsExpression items) n t → is_told (written_out registry schema t) ≡ false
  told_none cast told t d =
      let op = op_of (expression_layer item) in
      let inputs = inputs_of (expression_layer item) in
      let top = held_top items n op inputs (expression_got items n item got ∙ ap Some (layer_parts (expression_layer item))) t d in
      let us = all_inlined (fitted registry schema op (typing_all registry schema top.0) (coerced_all registry schema top.0)) in
      ap (λ u. is_told (written_out registry schema u)) top.1 ∙ ap (λ found. is_told (unwrap_or found (node op us))) (others_stay op us cast) ∙ told

  -- so of what stands there
  pub not_cast_stays : is_cast_op (op_of (expression_layer item)) ≡ false → (t : Expression) → Denotes (HoldsExpression items) n t → stays (coerced registry schema t) ≡ true
  not_cast_stays cast t d =
      let op = op_of (expression_layer item) in
      let inputs = inputs_of (expression_layer item) in
      let top = held_top items n op inputs (expression_got items n item got ∙ ap Some (layer_parts (expression_layer item))) t d in
      ap (λ u. stays (coerced registry schema u)) top.1 ∙ uncast_stays registry schema (node op top.0) cast

  pub cast_there : is_cast_op (op_of (expression_layer item)) ≡ true → (t : Expression) → Denotes (HoldsExpression items) n t → (op : Op) × (ts : Trees Op) × (t ≡ node op ts) × (is_cast_op op ≡ true) × Denotes (HoldsExpression items) n (node op ts)
  cast_there cast t d =
      let op = op_of (expression_layer item) in
      let inputs = inputs_of (expression_layer item) in
      let top = held_top items n op inputs (expression_got items n item got ∙ ap Some (layer_parts (expression_layer item))) t d in
      (op, top.0, top.1, cast, subst (Denotes (HoldsExpression items) n) top.1 d)

-- a cast of which nothing is told stays
pub untold_stays : (registry : Registry) (schema : Columns) (op : Op) (ts : Trees Op) → is_cast_op op ≡ true → is_told (written_out registry schema (node op ts)) ≡ false → stays (coerced registry schema (node op ts)) ≡ true
untold_stays registry schema op ts cast none = ap not (sym (goes_where_told op (fitted registry schema op (typing_all registry schema ts) (coerced_all registry schema ts)) cast) ∙ none)

-- an item that is no cast
pub no_cast_item : (item : AExpr) → ((expr dtype options : _) → item ≢ Cast expr dtype options) → is_cast_op (op_of (expression_layer item)) ≡ false
no_cast_item (Cast expr dtype options) cast = absurd (cast expr dtype options refl)
no_cast_item item cast = refl

-- an item that is no literal, no operator and no cast
pub other_item : (item : AExpr) → ((value : _) → item ≢ LiteralItem value) → ((left operator right : _) → item ≢ BinaryExpr left operator right) → ((expr dtype options : _) → item ≢ Cast expr dtype options) → (is_cast_op (op_of (expression_layer item)) ≡ false) × (is_told_top (op_of (expression_layer item)) ≡ false)
other_item (LiteralItem value) literal operator cast = absurd (literal value refl)
other_item (BinaryExpr left op right) literal operator cast = absurd (operator left op right refl)
other_item (Cast expr dtype options) literal operator cast = absurd (cast expr dtype options refl)
other_item (Column name) literal operator cast = (refl, refl)
other_item Len literal operator cast = (refl, refl)
other_item (Slice input offset length) literal operator cast = (refl, refl)
other_item (Explode input) literal operator cast = (refl, refl)
other_item (Gather expr idx scalar) literal operator cast = (refl, refl)
other_item (Filter input by) literal operator cast = (refl, refl)
other_item (Sort expr options) literal operator cast = (refl, refl)
other_item (SortBy expr by options) literal operator cast = (refl, refl)
other_item (Alias expr name) literal operator cast = (refl, refl)
other_item (Agg aggregate) literal operator cast = (refl, refl)
other_item (Window function keys order options) literal operator cast = (refl, refl)
other_item (Ternary predicate truthy falsy) literal operator cast = (refl, refl)
other_item (Function input function) literal operator cast = (refl, refl)

-- ---- casts that coercion puts in

-- a typed cast has one operand
cast_one : (registry : Registry) (schema : Columns) (target : Ty) (options : CastOptions) (ts : Trees Op) (own : Typed) → typing registry schema (node (CastOp target options) ts) ≡ Ok own → (x : Expression) × (ts ≡ more x no_more)
cast_one registry schema target options no_more own h =
    let p = typed_parts registry schema (CastOp target options) no_more own h in
    by_no_children (λ ts. rule registry schema (CastOp target options) ts ≡ Ok p.ruling → (x : Expression) × (no_more ≡ more x no_more)) p.below p.children_typed (λ e. cc) p.rules
cast_one registry schema target options (more x no_more) own h = (x, refl)
cast_one registry schema target options (more x (more y rest)) own h =
    let p = typed_parts registry schema (CastOp target options) (more x (more y rest)) own h in
    by_children (λ ts. rule registry schema (CastOp target options) ts ≡ Ok p.ruling → (z : Expression) × (more x (more y rest) ≡ more z no_more)) _ _ p.below p.children_typed (λ a bs first others.
    by_children (λ ts. rule registry schema (CastOp target options) (a ∷ ts) ≡ Ok p.ruling → (z : Expression) × (more x (more y rest) ≡ more z no_more)) _ _ bs others (λ b cs second last e. cc)) p.rules

-- what stands for a cast of a literal is no operator
literal_no_operator : (from : Ty) (value : Val) (target : Ty) (options : CastOptions) (other : Expression) → is_operator other ≡ false → (found : Option Expression) → literal_cast from value target options ≡ found → is_operator (unwrap_or found other) ≡ false
literal_no_operator from value target options other none None is = none
literal_no_operator from value target options other none (Some e) is = ap is_operator (gives_literal from value target options e is).is

-- an operator that stands for a cast stood under it
record IsOperatorUnder (target : Ty) (w : Expression) : Type 0 where
  pub operator : Operator
  pub operands : Trees Op
  pub is : w ≡ node (BinaryOp operator) operands
  pub logical : is_logical operator ≡ true
  pub truth : same_type Truth target ≡ true

operator_under : (target : Ty) (options : CastOptions) (w : Expression) → is_operator (unwrap_or (cast_of target options (settled w)) (node (CastOp target options) (more (settled w) no_more))) ≡ true → IsOperatorUnder target w
operator_under target options (node (LiteralOp from value) no_more) h =
    let other = node (CastOp target options) (more (node (LiteralOp (settled_type from) value) no_more) no_more) in
    absurd (false≢true (sym (literal_no_operator (settled_type from) value target options other refl (literal_cast (settled_type from) value target options) refl) ∙ h))
operator_under target options (node (BinaryOp operator) operands) h =
    let w = node (BinaryOp operator) operands in
    elim (is_logical operator && same_type Truth target) as (λ b. (is_logical operator && same_type Truth target) ≡ b → is_operator (unwrap_or (cond b (Some w) None) (node (CastOp target options) (more w no_more))) ≡ true → IsOperatorUnder target w) [
      | true ↦ λ both g. let parts = and_parts (is_logical operator) (same_type Truth target) both in record { operator = operator; operands = operands; is = refl; logical = parts.0; truth = parts.1 }
      | false ↦ λ both g. cc
    ] refl h
operator_under target options (node (AliasOp name) (more tree no_more)) h = cc
operator_under target options (node op operands) h = cc

module _ (registry : Registry) (schema : Columns) where
  operator_type : (target : Ty) (x : Expression) (own : Typed) → typing registry schema x ≡ Ok own → IsOperatorUnder target (written_out registry schema x) → same_type own.type target ≡ true
  operator_type target x own h o =
      let w = node (BinaryOp o.operator) o.operands in
      let typed = sym (ap (typing registry schema) o.is) ∙ (written_same registry schema x own h).typing ∙ h in
      let p = typed_parts registry schema (BinaryOp o.operator) o.operands own typed in
      ap (λ t. same_type t target) (ap (λ (t : Typed). t.type) (sym p.is) ∙ logical_truth registry schema o.operator p.below p.ruling o.logical p.rules) ∙ o.truth

  -- so a cast that changes the type doesn't go for an operator
  changing_few : (target : Ty) (options : CastOptions) (x : Expression) (typed own : Typed) → typing registry schema (node (CastOp target options) (more x no_more)) ≡ Ok typed → typing registry schema x ≡ Ok own → same_type own.type target ≡ false → until_gone (coerced registry schema (node (CastOp target options) (more x no_more))) ≤ 1
  changing_few target options x typed own h below apart =
      let t = coerced registry schema (node (CastOp target options) (more x no_more)) in
      elim (stays t) as (λ b. cond b 0 (cond (is_operator (inlined t)) 3 1) ≤ 1) [
        | true ↦ omega arith
        | false ↦ elim (is_operator (inlined t)) as (λ b. is_operator (inlined t) ≡ b → cond b 3 1 ≤ 1) [
          | true ↦ λ e. absurd (false≢true (sym apart ∙ operator_type target x own below (operator_under target options (written_out registry schema x) (sym (ap is_operator (cast_written registry schema target options x typed h)) ∙ e))))
          | false ↦ λ e. omega arith
        ] refl
      ]

  module _ (items : List AExpr) (table : TypeTable) (right : IsRight registry schema items table) where
    one_input : (inputs : List ℕ) (x : Expression) → DenoteAll (HoldsExpression items) inputs (more x no_more) → (k : ℕ) × (inputs ≡ k ∷ []) × Denotes (HoldsExpression items) k x
    one_input [] x d = absurd d
    one_input (k ∷ []) x d = (k, refl, d.0)
    one_input (k ∷ j ∷ rest) x d = absurd d.1

    few_by : (n : ℕ) (op : Op) (ts : Trees Op) (own : Typed) → typing registry schema (node op ts) ≡ Ok own → Denotes (HoldsExpression items) n (node op ts) → ChangesType items table n → until_gone (coerced registry schema (node op ts)) ≤ 1
    few_by n (CastOp target options) ts own h d changes =
        let one = cast_one registry schema target options ts own h in
        let k = one_input d.0 one.0 (subst (DenoteAll (HoldsExpression items) d.0) one.1 d.2) in
        let c = changes target options k.0 (subst (HoldsExpression items n (CastOp target options)) k.1 d.1) in
        subst (λ us. until_gone (coerced registry schema (node (CastOp target options) us)) ≤ 1) (sym one.1)
        (changing_few target options one.0 own (typed_of c.0) (subst (λ us. typing registry schema (node (CastOp target options) us) ≡ Ok own) one.1 h) (kept_typing registry schema items table right k.0 c.0 c.1 one.0 k.2) c.2)
    few_by n op ts own h d changes = omega arith

    -- how often a new node is replaced that is kept as a strict one and changes the type where it is a cast
    pub new_few : (n : ℕ) (own : Inferred) → KeepsEntry table n own → ChangesType items table n → (t : Expression) → Denotes (HoldsExpression items) n t → until_gone (coerced registry schema t) ≤ 1
    new_few n own keeps changes (node op ts) d = few_by n op ts (typed_of own) (kept_typing registry schema items table right n own keeps (node op ts) d) d changes

-- a number without a type stays no cast
settled_cast : (t : Expression) → is_cast (settled t) ≡ is_cast t
settled_cast (node (AliasOp name) (more tree no_more)) = refl
settled_cast (node (LiteralOp type value) operands) = refl
settled_cast (node op operands) = refl

number_no_cast : (registry : Registry) (schema : Columns) (op : Op) (ts : Trees Op) (typed : Typed) → typing registry schema (node op ts) ≡ Ok typed → is_known typed.type ≡ false → is_cast_op op ≡ false
number_no_cast registry schema op ts typed h unknown =
    elim (is_cast_op op) as (λ b. is_cast_op op ≡ b → b ≡ false) [ true ↦ λ e. absurd (false≢true (sym unknown ∙ cast_type_known registry schema op ts e typed h)) | false ↦ λ e. refl ] refl

pub number_gone : (registry : Registry) (schema : Columns) (t : Expression) (typed : Typed) → typing registry schema t ≡ Ok typed → is_known typed.type ≡ false → until_gone (coerced registry schema (settled t)) ≡ 0
number_gone registry schema (node op ts) typed h unknown =
    none_gone (coerced registry schema (settled (node op ts))) (uncast_stays registry schema (settled (node op ts)) (settled_cast (node op ts) ∙ number_no_cast registry schema op ts typed h unknown))

-- a node that denotes a typed expression denotes a tree
pub node_tree : (items : List AExpr) (n : ℕ) → IsTypedNode items n → DenotesTree (HoldsExpression items) n
node_tree items n t = record { tree = t.tree; denotes = t.denotes }

-- what is said where there is no answer
pub none_said : {T : Type 0} (P : Type 0) (Q : T → Type 0) (answer : Option T) → answer ≡ None → MatchOption answer P Q → P
none_said P Q None is h = h
none_said P Q (Some x) is h = cc
