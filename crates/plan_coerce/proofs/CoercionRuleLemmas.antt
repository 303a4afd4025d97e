-- The rule of coercion: nodes that are strict, and what is put in place of others.
use Rattle.std.proofs.Common.{◌≡◌, ◌≢◌, ◌&&◌, not, ℕ, zero, suc, None, is_some, ℤ, ◌<◌, ◌≤◌, Bool, true, false, List, [], ◌∷◌, length, map, set, Option, Some, Ok, Err, slice_get, slice_index_or, refl, sym, ap, ◌∙◌, subst, arith, zero-le, inl, inr, ⊎_elim}
use Rattle.std.specs.List.{AllByRecursion}
use Rattle.std.specs.Prelude.{MatchOption}
use Rattle.std.proofs.Math.ListN.{length-set}
use Rattle.std.proofs.lemmas.Bool.{and_from, and_parts, false≢true}
use Rattle.plan_types.specs.Types.{Ty, Untyped, ty, is_known, same_type}
use Rattle.plan_types.specs.declared.dtype.DataType.{DataType}
use Rattle.plan_types.specs.Values.{Val, IntValue}
use Rattle.plan_types.specs.CommonTypes.{type_alone}
use Rattle.plan_types.specs.Schemas.{Name, Columns}
use Rattle.plan_types.proofs.ListLemmas.{slice_get-append}
use Rattle.plan_dsl.specs.Coercion.{coerced}
use Rattle.plan_dsl.specs.InlinedCasts.{inlined, stays, until_gone}
use Rattle.plan_dsl.specs.Registry.{Registry}
use Rattle.plan_dsl.specs.Literals.{is_literal_of, literal_op, settled, settled_type}
use Rattle.plan_dsl.specs.Aliases.{is_core_op, renamed}
use Rattle.plan_dsl.specs.Ops.{AliasOp, CastOp, LiteralOp, Expression}
use Rattle.plan_dsl.specs.Strictness.{is_strict_over, is_strict_rule, number_as, number_literal, same_types}
use Rattle.plan_dsl.specs.Trees.{node, no_more}
use Rattle.plan_dsl.specs.Typing.{Typed, types_of, typing}
use Rattle.plan_dsl.proofs.TypingLemmas.{ok_same}
use Rattle.plan_dsl.proofs.LiteralLemmas.{settled_known, typed_known, untyped_is_number}
use Rattle.plan_dsl.proofs.SameLemmas.{same_itself}
use Rattle.plan_dsl.specs.declared.literal.LiteralValue.{LiteralValue}
use Rattle.plan_arena.specs.declared.arena.Node.{Node}
use Rattle.plan_arena.specs.declared.aexpr.AExpr.{AExpr}
use Rattle.plan_arena.specs.declared.aexpr.AExpr.TheVariants.{Literal, Alias}
use Rattle.plan_arena.specs.Denotation.{Denotes}
use Rattle.plan_arena.specs.Layers.{inputs_of, op_of, layer, shape_of}
use Rattle.plan_arena.specs.Items.{Grows, HoldsExpression, HoldsFrom, Rewired, expression_layer, numbers}
use Rattle.plan_arena.proofs.DenotationLemmas.{denotes_one, some_same}
use Rattle.plan_arena.proofs.ItemLemmas.{any_node, expression_got, expression_laws, expression_written, from_zero, held_top, length-grown, within}
use Rattle.plan_infer.specs.declared.type_table.Inferred.{Inferred}
use Rattle.plan_infer.specs.declared.type_table.TypeTable.{TypeTable}
use Rattle.plan_infer.specs.KeptTypes.{Extends, HasRightTypes, IsKept, IsRight, KeepsEntry, typed_of, typings_at}
use Rattle.plan_infer.specs.Typed.{HasType}
use Rattle.plan_infer.proofs.TableLemmas.{children_kept, extends_then, kept_typing, known_typed, layer_held, over_kept, ruled_inputs}
use Rattle.plan_coerce.specs.Coercion.{AddsNodes, AllStrictFrom, AreChanged, ChangesType, IsOver, IsOverOperands, KeepsStrict, TakesOperands}
use Rattle.plan_coerce.specs.CoercionRule.{CanReplace, ForgetsOnceTyped, IsCoercion, StaysSettled}
use Rattle.plan_coerce.specs.KindLaws.{becomes_itself}
use Rattle.plan_coerce.specs.Reaching.{AreMadeOnce, IsClosed, IsReached, Near}
use Rattle.plan_coerce.specs.Rules.{ExtendsUnless, IsLike, IsReplacement, is_settled, is_strict_node, said, until_settled}
use Rattle.plan_coerce.specs.ToldCasts.{IsTypedNode}
use Rattle.plan_coerce.proofs.FrameLemmas.{on_frames}
use Rattle.plan_coerce.proofs.CoercionLemmas.{not_renamed, own_literal, rewritten, plain_strict, takes_listed, under_alias}
use Rattle.plan_coerce.proofs.OnceLemmas.{over_once}
use Rattle.plan_coerce.proofs.ReachLemmas.{changed_near, closed_put, closed_start, held_unwritten, inputs_near, new_kept, reached_near, root_near}
use Rattle.plan_coerce.proofs.SettledLemmas.{known_settled, literal_typed, number_settled, own_number}
use Rattle.plan_coerce.proofs.RightLemmas.{kept_within, node_within, right_rewritten}
use Rattle.plan_coerce.proofs.ToldLemmas.{loose_turns, new_few, number_gone, strict_turns}

and_true : (b : Bool) → (b && true) ≡ b
and_true b = elim b as (λ x. (x && true) ≡ x) [ true ↦ refl | false ↦ refl ]

and_false : (b : Bool) → (b && false) ≡ false
and_false b = elim b as (λ x. (x && false) ≡ false) [ true ↦ refl | false ↦ refl ]

-- types side by side, one at a time
module _ (all : Bool) (ts : List Typed) (ds : List DataType) (t : Typed) (d : DataType) (ts' : List Typed) (ds' : List DataType) (left : ts ≡ t ∷ ts') (target : ds ≡ d ∷ ds') where
  pub one_apart : same_type t.type (ty d) ≡ false → same_types (types_of ts) (map ty ds) ≡ all → false ≡ all
  one_apart apart same =
      sym (ap (λ l. same_types (types_of l) (map ty ds)) left ∙ ap (λ l. same_types (types_of (t ∷ ts')) (map ty l)) target ∙ ap (λ b. b && same_types (types_of ts') (map ty ds')) apart) ∙ same

  pub one_same : same_type t.type (ty d) ≡ true → same_types (types_of ts) (map ty ds) ≡ all → same_types (types_of ts') (map ty ds') ≡ all
  one_same is same =
      sym (ap (λ l. same_types (types_of l) (map ty ds)) left ∙ ap (λ l. same_types (types_of (t ∷ ts')) (map ty l)) target ∙ ap (λ b. b && same_types (types_of ts') (map ty ds')) is) ∙ same

-- a node that is strict, of what a table keeps
module _ (registry : Registry) (schema : Columns) (items : List AExpr) (table : TypeTable) (right : IsRight registry schema items table) (n : ℕ) (own : Inferred) (keeps : KeepsEntry table n own) where
  module _ (item : AExpr) (got : slice_get items n ≡ Some item) where
    -- one that takes its operands as they are
    pub kept_strict : own.operands ≡ [] → is_known (ty own.dtype) ≡ true → (t : Expression) → Denotes (HoldsExpression items) n t → said (is_strict_node registry schema) registry schema t ≡ true
    kept_strict none known t d =
        plain_strict registry schema items table right n item own got keeps none t d (record { typed = typed_of own; is = kept_typing registry schema items table right n own keeps t d; known = known })

    -- whether its operands are of the types that are listed tells whether it is strict
    pub listed_strict : own.operands ≢ [] → is_known (ty own.dtype) ≡ true → (b : Bool) → b ≡ same_types (types_of (typings_at table (inputs_of (expression_layer item)))) (map ty own.operands) → (t : Expression) → Denotes (HoldsExpression items) n t → said (is_strict_node registry schema) registry schema t ≡ b
    listed_strict some known b same t d =
        let op = op_of (expression_layer item) in
        let inputs = inputs_of (expression_layer item) in
        let top = held_top items n op inputs (layer_held items n item got) t d in
        let e = ruled_inputs registry schema items table right n item own got keeps in
        let targets = takes_listed registry schema items table right n item own got keeps some e.typed e.ruling e.kept e.rules in
        let typed = children_kept registry schema items table right inputs top.0 e.typed top.2 e.kept in
        let here = over_kept (λ ts. b ≡ same_types (types_of ts) (map ty own.operands)) table inputs inputs refl same e.typed e.kept in
        let own_known : is_known e.ruling.own.type ≡ true = ap (λ (x : Typed). is_known x.type) e.is ∙ known in
        ap (said (is_strict_node registry schema) registry schema) top.1
        ∙ ap (is_strict_over registry schema op) typed
        ∙ ap (is_strict_rule (types_of e.typed)) e.rules
        ∙ ap (λ l. same_types (types_of e.typed) l && is_known e.ruling.own.type) targets
        ∙ ap (λ k. same_types (types_of e.typed) (map ty own.operands) && k) own_known
        ∙ and_true (same_types (types_of e.typed) (map ty own.operands))
        ∙ sym here

    -- a number without a type is not
    pub number_unsettled : is_known (ty own.dtype) ≡ false → (t : Expression) → Denotes (HoldsExpression items) n t → said (is_strict_node registry schema) registry schema t ≡ false
    number_unsettled unknown t d =
        let op = op_of (expression_layer item) in
        let inputs = inputs_of (expression_layer item) in
        let top = held_top items n op inputs (layer_held items n item got) t d in
        let e = ruled_inputs registry schema items table right n item own got keeps in
        let typed = children_kept registry schema items table right inputs top.0 e.typed top.2 e.kept in
        let own_unknown : is_known e.ruling.own.type ≡ false = ap (λ (x : Typed). is_known x.type) e.is ∙ unknown in
        ap (said (is_strict_node registry schema) registry schema) top.1
        ∙ ap (is_strict_over registry schema op) typed
        ∙ ap (is_strict_rule (types_of e.typed)) e.rules
        ∙ ap (λ k. same_types (types_of e.typed) e.ruling.operands && k) own_unknown
        ∙ and_false (same_types (types_of e.typed) e.ruling.operands)

-- ---- numbers that get a type

-- by a literal in their place
pub literal_settles : (registry : Registry) (schema : Columns) (items : List AExpr) (at : ℕ) (before : AExpr) (value : LiteralValue) (number : ℤ) (own : Ty) → type_alone (Untyped number) ≡ Some own → slice_get items at ≡ Some before → is_core_op (op_of (expression_layer before)) ≡ true → literal_op value ≡ LiteralOp own (IntValue number) → (t : Expression) → Denotes (HoldsExpression items) at t → HasType (typing registry schema t) (Untyped number) → Denotes (HoldsExpression (set items at (Literal value))) at (settled t)
literal_settles registry schema items at before value number own alone got core is t d h =
    let s = number_settled registry schema number own alone t h.many h.is in
    let lit = number_literal (settled_type (Untyped number)) number in
    let bare = not_renamed 0 items at before t lit got core (from_zero items at t d) in
    let new = set items at (Literal value) in
    let there : Denotes (HoldsExpression new) at (node (literal_op value) no_more) = ([], expression_written items at (Literal value) (within items at t d), tt) in
    subst (Denotes (HoldsExpression new) at) (sym (s.is ∙ bare)) (any_node 0 new at lit (own_literal 0 new at own value number alone is (from_zero new at (node (literal_op value) no_more) there)))

-- or by an alias over one that was added
pub alias_settles : (registry : Registry) (schema : Columns) (items new : List AExpr) (at : ℕ) (below : Node) (before : AExpr) (made : Node) (name copy : Name) (number : ℤ) (own : Ty) → type_alone (Untyped number) ≡ Some own → slice_get items at ≡ Some before → expression_layer before ≡ layer (AliasOp name) (below.0 ∷ []) → copy ≡ name → Grows items new → IsClosed items [] new → length items ≤ made.0 → ((u : Expression) → Denotes (HoldsFrom 0 items) below.0 u → Denotes (HoldsFrom 0 new) made.0 (renamed u (number_as number own))) → (t : Expression) → Denotes (HoldsExpression items) at t → HasType (typing registry schema t) (Untyped number) → Denotes (HoldsExpression (set new at (Alias made copy))) at (settled t)
alias_settles registry schema items new at below before made name copy number own alone got is called g closed fresh denotes t d h =
    let s = number_settled registry schema number own alone t h.many h.is in
    let lit = number_literal (settled_type (Untyped number)) number in
    let u = under_alias 0 items at below.0 before name t lit got is (from_zero items at t d) in
    let here = within items at t d in
    let item = Alias made copy in
    let longer : at < length new = omega (arith, here, length-grown items new g) in
    let under = any_node 0 new made.0 _ (subst (λ e. Denotes (HoldsFrom 0 new) made.0 (renamed u.0 e)) (own_number number own alone) (denotes u.0 u.2)) in
    let kept = new_kept items new at item here closed made.0 (renamed u.0 lit) (inl fresh) under in
    let held : HoldsExpression (set new at item) at (AliasOp name) (made.0 ∷ []) = expression_written new at item longer ∙ ap (λ n. Some (layer (AliasOp n) (made.0 ∷ []))) called in
    subst (Denotes (HoldsExpression (set new at item)) at) (sym (s.is ∙ u.1)) (made.0 ∷ [], held, (kept, tt))

-- ---- new nodes

any_within : (items : List AExpr) (n : ℕ) (t : Expression) → Denotes (HoldsExpression items) n t → n < length items
any_within items n (node op ts) d = node_within items n op d.0 d.1

none_there : (items : List AExpr) (n : ℕ) → n < length items → slice_get items n ≡ None → ⊥
none_there [] n lt e = omega (arith, lt)
none_there (x ∷ xs) zero lt e = cc
none_there (x ∷ xs) (suc n) lt e = none_there xs n (omega (arith, lt)) e

some_alone : (found : Option Ty) → is_some found ≡ true → (own : Ty) × (found ≡ Some own)
some_alone (Some own) h = (own, refl)
some_alone None h = cc

-- the item at a node that denotes something
pub item_there : (items : List AExpr) (n : ℕ) (t : Expression) → Denotes (HoldsExpression items) n t → (item : AExpr) × (slice_get items n ≡ Some item)
item_there items n t d =
    let lt = any_within items n t d in
    elim (slice_get items n) as (λ o. slice_get items n ≡ o → (item : AExpr) × (o ≡ Some item)) [ Some item ↦ λ e. (item, refl) | None ↦ λ e. absurd (none_there items n lt e) ] refl

pub number_alone : (registry : Registry) (schema : Columns) (number : ℤ) (t : Expression) (many : Bool) → typing registry schema t ≡ Ok (record { type = Untyped number; many = many }) → (own : Ty) × (type_alone (Untyped number) ≡ Some own)
number_alone registry schema number t many h =
    let is = untyped_is_number registry schema number t many h in
    some_alone (type_alone (Untyped number)) (and_parts (is_literal_of (Untyped number) (IntValue number)) (is_some (type_alone (Untyped number))) is.literal).1

-- what is written over other operands
rewired : (old new : List AExpr) (table table' : TypeTable) (at : ℕ) (item : AExpr) → Grows old new → (over : IsOverOperands old new table table' at item) → Rewired new (set new at item) at over.nodes
rewired old new table table' at item g over = record {
  before = over.before;
  after = item;
  got = ap (λ l. slice_get l at) g.longer ∙ slice_get-append old g.added at over.before over.got;
  items = refl;
  rewired = over.is;
}

-- no number without a type is kept as a strict node
pub strict_no_number : (registry : Registry) (schema : Columns) (items : List AExpr) (table : TypeTable) (n : ℕ) (number : ℤ) (value : Val) (inputs : List ℕ) → IsRight registry schema items table → KeepsStrict table n → HoldsExpression items n (LiteralOp (Untyped number) value) inputs → ⊥
strict_no_number registry schema items table n number value inputs right k held =
    let e = right.each n k.own k.keeps in
    let top = held_top items n (LiteralOp (Untyped number) value) inputs held e.tree e.denotes in
    let type = literal_typed registry schema (Untyped number) value top.0 (typed_of k.own) (sym (ap (typing registry schema) top.1) ∙ e.typed) in
    let known : is_known (Untyped number) ≡ true = ap is_known type ∙ k.known in
    false≢true known

-- a new node that is kept as a strict one is one
pub new_strict : (registry : Registry) (schema : Columns) (items : List AExpr) (table : TypeTable) (n : ℕ) → IsRight registry schema items table → KeepsStrict table n → (t : Expression) → Denotes (HoldsExpression items) n t → said (is_strict_node registry schema) registry schema t ≡ true
new_strict registry schema items table n right k t d =
    let item = item_there items n t d in
    kept_strict registry schema items table right n k.own k.keeps item.0 item.1 k.none k.known t d

-- what is strict and goes soon is replaced less often than what isn't
falls_to : (registry : Registry) (schema : Columns) (t before : Expression) → said (is_strict_node registry schema) registry schema t ≡ true → said (is_strict_node registry schema) registry schema before ≡ false → until_gone (coerced registry schema t) ≤ 1 → until_settled registry schema t < until_settled registry schema before
falls_to registry schema t before a b few =
    let strict = strict_turns registry schema t a in
    let loose = loose_turns registry schema before b in
    omega (arith, strict, loose, few)

-- so is what is strict and the same with every cast written out
falls_by : (registry : Registry) (schema : Columns) (t before : Expression) → said (is_strict_node registry schema) registry schema t ≡ true → said (is_strict_node registry schema) registry schema before ≡ false → coerced registry schema t ≡ coerced registry schema before → until_settled registry schema t < until_settled registry schema before
falls_by registry schema t before a b same =
    let strict = strict_turns registry schema t a in
    let loose = loose_turns registry schema before b in
    let gone = ap until_gone same in
    omega (arith, strict, loose, gone)

module _ (registry : Registry) (schema : Columns) (old new : List AExpr) (table table' : TypeTable) (at : ℕ) (item : AExpr) (own : Inferred) (right : IsRight registry schema old table) (keeps : KeepsEntry table at own) (g : Grows old new) (right' : IsRight registry schema new table') (added : AllStrictFrom (length old) new table') (closed : IsClosed old (at ∷ []) (set new at item)) where
  before_there : at < length old
  before_there = kept_within old table at (record { registry = registry; schema = schema; right = right }) (record { own = own; keeps = keeps })

  -- numbers without a type below what is put in place were there before
  old_numbers : (n : ℕ) (number : ℤ) (value : Val) (inputs : List ℕ) → IsReached (set new at item) (at ∷ []) n → HoldsExpression (set new at item) n (LiteralOp (Untyped number) value) inputs → IsReached old (at ∷ []) n
  old_numbers n number value inputs reached held = ⊎_elim
      (λ le.
      let within = node_within (set new at item) n (LiteralOp (Untyped number) value) inputs held in
      let other : n ≢ at = λ e. omega (arith, le, e, before_there) in
      let k = (added n le (omega (arith, within, length-set new at item))).0 in
      absurd (strict_no_number registry schema new table' n number value inputs right' k (held_unwritten new at item n (LiteralOp (Untyped number) value) inputs other held)))
      (λ r. r)
      (reached_near old (at ∷ []) (set new at item) (at ∷ []) n closed (root_near old at, tt) reached)

  -- a number that gets its type
  pub number_replaced : (number : ℤ) → ty own.dtype ≡ Untyped number → IsClosed old [] new → (t : Expression) → Denotes (HoldsExpression old) at t → (HasType (typing registry schema t) (Untyped number) → Denotes (HoldsExpression (set new at item)) at (settled t)) → IsReplacement (IsCoercion registry schema) (until_settled registry schema) registry schema old (set new at item) at t
  number_replaced number is apart t d settles =
      let typed = kept_typing registry schema old table right at own keeps t d in
      let number_typed = typed ∙ ap (λ x. Ok (record { type = x; many = own.many })) is in
      let alone = number_alone registry schema number t own.many number_typed in
      let s = number_settled registry schema number alone.0 alone.1 t own.many number_typed in
      let got = item_there old at t d in
      let loose = number_unsettled registry schema old table right at own keeps got.0 got.1 (ap is_known is) t d in
      record {
        tree = settled t;
        denotes = settles (record { many = own.many; is = number_typed });
        like = λ typed h. record { same = on_frames registry schema (settled t) (settled t) (same_itself registry schema (settled t)); relates = record { same = refl; becomes = becomes_itself registry schema (settled t) } };
        ill_typed = λ kind h. let differs : Ok (typed_of own) ≡ Err kind = sym typed ∙ h in cc;
        known = λ typed h. settled_known registry schema t typed h;
        falls =
            let gone = number_gone registry schema t (record { type = Untyped number; many = own.many }) number_typed refl in
            falls_to registry schema (settled t) t s.strict loose (omega (arith, gone));
        fresh = λ n u le reached du.
            let within = any_within (set new at item) n u du in
            let k = added n le (omega (arith, within, length-set new at item)) in
            let e = right'.each n k.0.own k.0.keeps in
            let one = denotes_one (shape_of (map expression_layer (set new at item))) (HoldsExpression (set new at item)) (expression_laws (set new at item)) n e.tree u (new_kept old new at item before_there apart n e.tree (inl le) e.denotes) du in
            falls_to registry schema u t (subst (λ w. said (is_strict_node registry schema) registry schema w ≡ true) one (new_strict registry schema new table' n right' k.0 e.tree e.denotes)) loose (subst (λ w. until_gone (coerced registry schema w) ≤ 1) one (new_few registry schema new table' right' n k.0.own k.0.keeps k.1 e.tree e.denotes));
        numbers = old_numbers;
      }

  -- a node over operands that were made of their types
  pub node_replaced : is_known (ty own.dtype) ≡ true → own.operands ≢ [] → (over : IsOverOperands old new table table' at item) → false ≡ same_types (types_of (typings_at table (inputs_of (expression_layer over.before)))) (map ty own.operands) → IsRight registry schema (set new at item) table' → (t : Expression) → Denotes (HoldsExpression old) at t → IsReplacement (IsCoercion registry schema) (until_settled registry schema) registry schema old (set new at item) at t
  node_replaced known some over differs placed t d =
      let typed = kept_typing registry schema old table right at own keeps t d in
      let loose = listed_strict registry schema old table right at own keeps over.before over.got some known false differs t d in
      let takes = takes_listed registry schema old table right at over.before own over.got keeps some in
      let rew = rewired old new table table' at item g over in
      let r = rewritten registry schema old new (set new at item) table at over.before over.nodes (map ty own.operands) right over.got g (over.changed own keeps) takes rew 0 t (typed_of own) zero-le (from_zero old at t d) typed in
      let stays = known_settled registry schema t (typed_of own) typed known in
      record {
        tree = node r.op r.children;
        denotes = any_node 0 (set new at item) at (node r.op r.children) (r.inputs, r.held, r.denotes);
        like = λ other h. subst (λ w. IsLike (IsCoercion registry schema) registry schema w (node r.op r.children)) (sym stays) (record { same = on_frames registry schema t (node r.op r.children) r.same.same; relates = record { same = ap inlined r.same.casts; becomes = r.becomes } });
        ill_typed = λ kind h. let differs : Ok (typed_of own) ≡ Err kind = sym typed ∙ h in cc;
        known = λ other h.
            let is = ok_same (typing registry schema (node r.op r.children)) other (typed_of own) h (r.same.same.typing ∙ typed) in
            ap (λ (x : Typed). is_known x.type) is ∙ known;
        falls = falls_by registry schema (node r.op r.children) t (r.strict known) loose r.same.casts;
        fresh = λ n u le reached du.
            let within = any_within (set new at item) n u du in
            let k = added n le (omega (arith, within, length-set new at item)) in
            let other : n ≢ at = λ e. omega (arith, le, e, before_there) in
            let changes : ChangesType (set new at item) table' n = λ target options i held. k.1 target options i (held_unwritten new at item n (CastOp target options) (i ∷ []) other held) in
            falls_to registry schema u t (new_strict registry schema (set new at item) table' n placed k.0 u du) loose (new_few registry schema (set new at item) table' placed n k.0.own k.0.keeps changes u du);
        numbers = old_numbers;
      }

  -- what is kept is right of it
  pub node_placed : own.operands ≢ [] → Extends table table' → IsOverOperands old new table table' at item → IsRight registry schema (set new at item) table'
  node_placed some extends over =
      let takes = takes_listed registry schema old table right at over.before own over.got keeps some in
      right_rewritten registry schema old new (set new at item) table table' at over.before own over.nodes right keeps over.got g (over.changed own keeps) takes (rewired old new table table' at item g over) over.kept extends right'

-- ---- what is kept of a node tells which of these it is

module _ (registry : Registry) (schema : Columns) (items : List AExpr) (table : TypeTable) (right : IsRight registry schema items table) (n : ℕ) (own : Inferred) (keeps : KeepsEntry table n own) where
  pub known_not_number : ((number : ℤ) → ty own.dtype ≢ Untyped number) → is_known (ty own.dtype) ≡ true
  known_not_number none = let e = right.each n own keeps in typed_known registry schema e.tree (ty own.dtype) own.many e.typed none

  pub type_number : (number : ℤ) → ty own.dtype ≡ Untyped number → (type : Ty) × (type_alone (Untyped number) ≡ Some type)
  type_number number is =
      let e = right.each n own keeps in
      number_alone registry schema number e.tree own.many (e.typed ∙ ap (λ x. Ok (record { type = x; many = own.many })) is)

-- a node of which a type is kept
pub kept_node : (items : List AExpr) (table : TypeTable) (n : ℕ) → HasRightTypes items table → IsKept table n → IsTypedNode items n
kept_node items table n is k =
    let d = known_typed is.registry is.schema items table is.right n k in
    record { registry = is.registry; schema = is.schema; tree = d.tree; denotes = any_node 0 items n d.tree d.denotes; typed = d.typed; is = d.is }

-- a type of which no number is found is none of a number alone
pub no_number : (found : Option ℤ) (none : Bool) (type : Ty) → is_some found ≡ not none → none ≡ true → MatchOption found ((number : ℤ) → type ≢ Untyped number) (λ number. type ≡ Untyped number) → (number : ℤ) → type ≢ Untyped number
no_number None none type is told h = h
no_number (Some k) none type is told h = absurd (false≢true (sym (is ∙ ap not told)))

-- nodes that an item over changed operands reaches
pub over_near : (old new : List AExpr) (table table' : TypeTable) (at : ℕ) (item : AExpr) → HasRightTypes old table → IsKept table at → Grows old new → (over : IsOverOperands old new table table' at item) → (((before : AExpr) → slice_get old at ≡ Some before → AllByRecursion (Near old (at ∷ [])) (inputs_of (expression_layer before))) → IsClosed old (at ∷ []) new) → IsClosed old (at ∷ []) (set new at item)
over_near old new table table' at item is k g over closed =
    let roots = at ∷ [] in
    let here = kept_within old table at is k in
    let below = λ (before : AExpr) (got : slice_get old at ≡ Some before). inputs_near old roots old at before got (closed_start old roots) (root_near old at) in
    let near = changed_near old roots old new table (inputs_of (expression_layer over.before)) over.nodes (map ty k.own.operands) (omega arith) (over.changed k.own k.keeps) (below over.before over.got) in
    closed_put old roots new at item (omega (arith, here, length-grown old new g)) (subst (AllByRecursion (Near old roots)) (sym (ap inputs_of over.is)) near) (closed below)

-- the item at a node stays as the arena grows
pub item_stays : (old new : List AExpr) (n : ℕ) (item now : AExpr) → slice_get old n ≡ Some item → Grows old new → slice_get new n ≡ Some now → now ≡ item
item_stays old new n item now got g there = some_same (slice_get new n) now item there (ap (λ l. slice_get l n) g.longer ∙ slice_get-append old g.added n item got)

-- two nodes of a list
pub two_listed : (nodes : List Node) (default : Node) → length nodes ≡ 2 → numbers nodes ≡ (slice_index_or nodes 0 default).0 ∷ (slice_index_or nodes 1 default).0 ∷ []
two_listed [] default e = cc
two_listed (a ∷ []) default e = absurd (omega (arith, e))
two_listed (a ∷ b ∷ []) default e = refl
two_listed (a ∷ b ∷ c ∷ rest) default e = absurd (omega (arith, e))

-- what can be put in place of a node that takes its operands to other types
module _ (old new : List AExpr) (table table' : TypeTable) (at : ℕ) (own : Inferred) (inputs made : List ℕ) (is : HasRightTypes old table) (keeps : KeepsEntry table at own) (takes : TakesOperands own) (g : Grows old new) (listed : (before : AExpr) → slice_get old at ≡ Some before → inputs ≡ inputs_of (expression_layer before)) (differs : false ≡ same_types (types_of (typings_at table inputs)) (map ty own.operands)) where
  pub can_replace : ((other : Inferred) → KeepsEntry table at other → AreChanged old new table inputs made (map ty other.operands)) → AllByRecursion (IsKept table') made → AddsNodes (λ start roots. AllByRecursion (Near start roots) inputs) old new table table' → AreMadeOnce old new inputs made → (item : AExpr) → IsOver old at item made → CanReplace old new table table' at item
  can_replace changed kept adds once item o =
      let k : IsKept table at = record { own = own; keeps = keeps } in
      let roots = at ∷ [] in
      let here = kept_within old table at is k in
      let longer : at < length new = omega (arith, here, length-grown old new g) in
      let ins = listed o.before o.got in
      let over : IsOverOperands old new table table' at item = record {
        before = o.before;
        got = o.got;
        nodes = made;
        is = o.is;
        changed = λ other keeps. subst (λ ns. AreChanged old new table ns made (map ty other.operands)) ins (changed other keeps);
        kept = kept;
      } in
      let reaches = over_near old new table table' at item is k g over (λ near. adds.closed old roots (omega arith) (subst (AllByRecursion (Near old roots)) (sym ins) (near o.before o.got)) (closed_start old roots)) in
      let apart = differs ∙ ap (λ ns. same_types (types_of (typings_at table ns)) (map ty own.operands)) ins in
      let strict = λ (registry : Registry) (schema : Columns) (r : IsRight registry schema old table). adds.added registry schema (length old) (omega arith) r (λ n le lt. absurd (omega (arith, le, lt))) in
      let placed = λ (registry : Registry) (schema : Columns) (r : IsRight registry schema old table). node_placed registry schema old new table table' at item own r keeps g (adds.right registry schema r) (strict registry schema r) reaches takes.some adds.extends over in
      record {
        answer = λ registry schema t r d. node_replaced registry schema old new table table' at item own r keeps g (adds.right registry schema r) (strict registry schema r) reaches (known_not_number registry schema old table r at own keeps takes.typed) takes.some over apart (placed registry schema r) t d;
        reaches = reaches;
        once = over_once old new at o.before item made here longer (expression_got old at o.before o.got) (ap inputs_of o.is) (expression_written new at item longer) (subst (λ ns. AreMadeOnce old new ns made) ins once);
        placed = λ registry schema r number. placed registry schema r;
        right = adds.right;
        kept = inl adds.extends;
      }

-- ---- what is answered of a node

pub answer_with : {T : Type 0} (P P' : Type 0) (Q Q' : T → Type 0) (answer : Option T) → MatchOption answer P Q → (P → P') → ((x : T) → Q x → Q' x) → MatchOption answer P' Q'
answer_with P P' Q Q' None h none some = none h
answer_with P P' Q Q' (Some x) h none some = some x h

-- of a strict node, whether it stays tells whether it is settled
pub settled_answer : (old new : List AExpr) (table between table' : TypeTable) (at : ℕ) (answer : Option AExpr) → StaysSettled (λ registry schema. said (is_strict_node registry schema) registry schema) old new table between at → MatchOption answer (StaysSettled (λ registry schema t. stays (coerced registry schema t)) new new between table' at) (λ item. CanReplace new new between table' at item) → MatchOption answer (StaysSettled is_settled old new table table' at) (λ item. CanReplace old new table table' at item)
settled_answer old new table between table' at answer strict found =
    answer_with _ _ _ _ answer found
    (λ told. record {
      is = λ registry schema t right d.
          and_from (said (is_strict_node registry schema) registry schema t) (stays (coerced registry schema t)) (strict.is registry schema t right d)
          (told.is registry schema t (subst (IsRight registry schema new) (sym strict.keeps) (subst (λ items. IsRight registry schema items table) (sym strict.same) right)) (subst (λ items. Denotes (HoldsExpression items) at t) (sym strict.same) d));
      same = strict.same;
      keeps = told.keeps ∙ strict.keeps;
    })
    (λ item can. subst (λ items. CanReplace items new table table' at item) strict.same (subst (λ kept. CanReplace new new kept table' at item) strict.keeps can))

-- what is kept afterwards
module _ (settled : Registry → Columns → Expression → Bool) (old new : List AExpr) (table table' : TypeTable) (at : ℕ) where
  pub answer_right : (answer : Option AExpr) → MatchOption answer (StaysSettled settled old new table table' at) (λ item. CanReplace old new table table' at item) → (registry : Registry) (schema : Columns) → IsRight registry schema old table → IsRight registry schema new table'
  answer_right None stays registry schema right = subst (IsRight registry schema new) (sym stays.keeps) (subst (λ items. IsRight registry schema items table) (sym stays.same) right)
  answer_right (Some item) can registry schema right = can.right registry schema right

  pub answer_keeps : (before : TypeTable) → Extends before table → (answer : Option AExpr) → MatchOption answer (StaysSettled settled old new table table' at) (λ item. CanReplace old new table table' at item) → ExtendsUnless ((answer ≢ None) × ForgetsOnceTyped old before at) before table'
  answer_keeps before typed None stays = inl (subst (Extends before) (sym stays.keeps) typed)
  answer_keeps before typed (Some item) can =
      ⊎_elim (λ kept. inl (extends_then before table table' typed kept)) (λ f. inr ((λ none. cc, record { typed = table; extends = typed; forgets = f.0 }), f.1)) can.kept
