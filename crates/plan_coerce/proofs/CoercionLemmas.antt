-- What the visit of a node leaves.
use Rattle.std.proofs.Common.{◌≡◌, ◌≢◌, ℕ, ◌<◌, ◌≤◌, true, false, cond, List, [], ◌∷◌, ◌++◌, length, set, Some, Ok, refl, sym, ap, ◌∙◌, subst, arith, map, zero, suc, ◌+◌, take, get_or, slice_get, ⊎_elim, ◌⊎◌, inl, inr}
use Rattle.std.specs.Prelude.{ℤ, ◌&&◌, unwrap_or}
use Rattle.std.proofs.lemmas.Bool.{false≢true}
use Rattle.plan_types.specs.Types.{Ty, Integer, Untyped, ty, is_counted, is_integer, is_known, same_type}
use Rattle.plan_types.specs.TypeLaws.{same_type_own}
use Rattle.plan_types.specs.CommonTypes.{type_alone}
use Rattle.plan_types.specs.Schemas.{Name, Columns}
use Rattle.plan_types.specs.Values.{Val, IntValue, in_range}
use Rattle.plan_types.specs.Casts.{can_cast}
use Rattle.plan_types.specs.declared.dtype.DataType.{DataType}
use Rattle.plan_types.specs.declared.dtype.CastOptions.TheVariants.{NonStrict}
use Rattle.plan_dsl.specs.declared.literal.LiteralValue.{LiteralValue}
use Rattle.plan_dsl.specs.Registry.{Registry}
use Rattle.plan_dsl.specs.Trees.{Trees, node, no_more, more, tree_depth, trees_depth}
use Rattle.plan_dsl.specs.Ops.{Op, LiteralOp, CastOp, AliasOp, Expression}
use Rattle.plan_dsl.specs.Literals.{is_literal, literal_op, literal_type, literal_value, settled_type}
use Rattle.plan_dsl.proofs.LiteralLemmas.{becomes_literal}
use Rattle.plan_dsl.specs.Aliases.{is_core_op, renamed}
use Rattle.plan_dsl.specs.Typing.{Typed, own_typed, then_typed, typing, typing_all, typing_rule, types_of, Ruling, rule}
use Rattle.plan_dsl.proofs.StrictLemmas.{strict_from}
use Rattle.plan_dsl.specs.Strictness.{CanBecome, cast_to, changed, integer_has, number_as, number_literal, as_operand, as_operands, IsStrictOver}
use Rattle.plan_dsl.proofs.TypingLemmas.{ok_same, typed_parts, by_children, by_no_children}
use Rattle.plan_dsl.proofs.CastMeaningLemmas.{if_true, if_false}
use Rattle.plan_dsl.proofs.OperandLemmas.{operands_strict}
use Rattle.plan_arena.specs.declared.arena.Node.{Node}
use Rattle.plan_arena.specs.declared.aexpr.AExpr.{AExpr}
use Rattle.plan_arena.specs.declared.aexpr.AExpr.TheVariants.{Literal, Cast, Alias}
use Rattle.plan_arena.specs.Denotation.{Denotes, DenoteAll}
use Rattle.plan_arena.specs.Layers.{layer, shape_of, op_of, inputs_of}
use Rattle.plan_arena.specs.Items.{HoldsExpression, HoldsFrom, Grows, expression_layer, Rewired, numbers}
use Rattle.plan_arena.proofs.DenotationLemmas.{kept_below, all_kept_below, some_same}
use Rattle.plan_arena.proofs.NumberLemmas.{taken_more}
use Rattle.plan_arena.proofs.ItemLemmas.{held_top, tree_grown, added_denotes, length-grown, any_node, from_laws, from_top, expression_elsewhere, expression_written, grown_held, within, expression_got}
use Rattle.plan_infer.specs.Typed.{HasKnownType}
use Rattle.plan_coerce.specs.Rules.{is_strict_node, said}
use Rattle.plan_coerce.specs.Kinds.{Becomes}
use Rattle.plan_coerce.proofs.CoercedLemmas.{DenotesSame, IsAlike, node_alike_over}
use Rattle.plan_coerce.proofs.KindLemmas.{node_becomes}
use Rattle.plan_coerce.specs.Coercion.{AddsNodes, Operand, IsChanged, AreChanged, IsReady, IsReadyAt, AllReady}
use Rattle.plan_infer.specs.declared.type_table.TypeTable.{TypeTable}
use Rattle.plan_types.proofs.CastLemmas.{source_known}
use Rattle.plan_types.proofs.ListLemmas.{mapped_more}
use Rattle.std.proofs.lemmas.List.{map-append, length-map}
use Rattle.std.proofs.Math.Seq.{take-length}
use Rattle.std.specs.List.{AllByRecursion}
use Rattle.plan_infer.specs.declared.type_table.Inferred.{Inferred}
use Rattle.plan_infer.specs.KeptTypes.{Keeps, KeepsEntry, IsKept, Extends, AllKept, AreOperands, IsRight, TakesTo, typed_of}
use Rattle.plan_arena.proofs.NumberLemmas.{all_joined, all_weaker}
use Rattle.plan_infer.proofs.TableLemmas.{children_kept, extends_itself, extends_then, keeps_one, kept_type, kept_typing, layer_held, listed_operands, ruled_inputs, still_keeps, still_kept, kept_of, type_of, type_one}
use Rattle.plan_dsl.proofs.OpLemmas.{keeps_rule}
use Rattle.plan_dsl.proofs.SignatureLemmas.{AllBecome, IsTakenTo, makes, passes}

-- what an arena holds it holds when it has grown and another item was written
pub written_elsewhere : (old new : List AExpr) (at : ℕ) (item : AExpr) → Grows old new → (n : ℕ) (op : Op) (inputs : List ℕ) → n ≢ at → HoldsExpression old n op inputs → HoldsExpression (set new at item) n op inputs
written_elsewhere old new at item g n op inputs other h = expression_elsewhere new at item n op inputs other (grown_held old new g n op inputs h)

-- a cast that was added round a tree
pub cast_denotes : (first : ℕ) (old new : List AExpr) (input cast : Node) (target : DataType) (t : Expression) → first ≤ length old → new ≡ old ++ Cast input target NonStrict ∷ [] → cast.0 ≡ length old → Denotes (HoldsFrom first old) input.0 t → Denotes (HoldsFrom first new) cast.0 (node (CastOp (ty target) NonStrict) (more t no_more))
cast_denotes first old new input cast target t le grown at d =
    let g : Grows old new = record { added = Cast input target NonStrict ∷ []; longer = grown } in
    added_denotes first old new (Cast input target NonStrict) cast.0 (CastOp (ty target) NonStrict) (input.0 ∷ []) (more t no_more) le grown at refl (tree_grown first first old new (omega arith) g input.0 t d, tt)

-- an alias that was added over a tree
pub alias_denotes : (first : ℕ) (old new : List AExpr) (input alias : Node) (name : Name) (t : Expression) → first ≤ length old → new ≡ old ++ Alias input name ∷ [] → alias.0 ≡ length old → Denotes (HoldsFrom first old) input.0 t → Denotes (HoldsFrom first new) alias.0 (node (AliasOp name) (more t no_more))
alias_denotes first old new input alias name t le grown at d =
    let g : Grows old new = record { added = Alias input name ∷ []; longer = grown } in
    added_denotes first old new (Alias input name) alias.0 (AliasOp name) (input.0 ∷ []) (more t no_more) le grown at refl (tree_grown first first old new (omega arith) g input.0 t d, tt)

-- a literal that was added
pub literal_denotes : (first : ℕ) (old new : List AExpr) (n : Node) (value : LiteralValue) → first ≤ length old → new ≡ old ++ Literal value ∷ [] → n.0 ≡ length old → Denotes (HoldsFrom first new) n.0 (node (literal_op value) no_more)
literal_denotes first old new n value le grown at =
    added_denotes first old new (Literal value) n.0 (literal_op value) [] no_more le grown at refl tt

op_type : (a b : Ty) (v w : Val) → LiteralOp a v ≡ LiteralOp b w → a ≡ b
op_type a b v w e = cc

op_value : (a b : Ty) (v w : Val) → LiteralOp a v ≡ LiteralOp b w → v ≡ w
op_value a b v w e = cc

-- the type of such a literal
value_type : (target : Ty) (number : ℤ) (value : LiteralValue) → literal_op value ≡ LiteralOp target (IntValue number) → literal_type value ≡ target
value_type target number value is = op_type (literal_type value) target (literal_value value) (IntValue number) is

-- a tree has a node
deeper : (x : Expression) (depth : ℕ) → tree_depth x < depth → 1 < depth
deeper (node op ts) depth lt = omega (arith, lt)

change_cast : (from target : Ty) (t : Expression) → is_known from ≡ true → node (CastOp target NonStrict) (more t no_more) ≡ changed from target t
change_cast (Untyped number) target t known = cc
change_cast _ target t known = refl

-- an operand that is no number without a type is made one of the other by a cast
pub becomes_cast : (from target : Ty) → CanBecome from target → ((number : ℤ) → from ≢ Untyped number) → (is_known from ≡ true) × (can_cast from target ≡ true)
becomes_cast from target can own = let casts = can.casts own in (source_known from target casts, casts)

-- how deep a number is that was made of a type, and what stands under aliases in place of another
number_depth : (number : ℤ) (target : Ty) → tree_depth (number_as number target) ≤ 2
number_depth number target =
    elim (integer_has target number) as (λ b. tree_depth (cond b (number_literal target number) (cast_to target (number_literal (settled_type (Untyped number)) number))) ≤ 2) [ true ↦ omega arith | false ↦ omega arith ]

renamed_depth : (x y : Expression) → tree_depth (renamed x y) + 1 ≤ tree_depth x + tree_depth y
renamed_depth (node (AliasOp name) (more x no_more)) y = let below = renamed_depth x y in omega (arith, below)
renamed_depth (node op children) y = omega arith

-- a write at one node
module _ (first : ℕ) (items : List AExpr) (at : ℕ) (item : AExpr) (t : Expression) (d : Denotes (HoldsFrom first items) at t) where
  keeps : (n : ℕ) (op : Op) (inputs : List ℕ) → n ≢ at → HoldsFrom first items n op inputs → HoldsFrom first (set items at item) n op inputs
  keeps n op inputs other h = (h.0, expression_elsewhere items at item n op inputs other h.1)

  small_kept : (m : ℕ) (x : Expression) → tree_depth x < tree_depth t → Denotes (HoldsFrom first items) m x → Denotes (HoldsFrom first (set items at item)) m x
  small_kept m x lt dx =
      kept_below (shape_of (map expression_layer items)) (HoldsFrom first items) (HoldsFrom first (set items at item)) (from_laws first items) at keeps t d m x dx lt

  cast_kept : (m : ℕ) (target : Ty) (x : Expression) → tree_depth x < tree_depth t → m ≢ at → Denotes (HoldsFrom first items) m (node (CastOp target NonStrict) (more x no_more)) → Denotes (HoldsFrom first (set items at item)) m (node (CastOp target NonStrict) (more x no_more))
  cast_kept m target x lt other dx =
      (dx.0, keeps m _ dx.0 other dx.1, all_kept_below (shape_of (map expression_layer items)) (HoldsFrom first items) (HoldsFrom first (set items at item)) (from_laws first items) at keeps t d dx.0 (more x no_more) dx.2 (omega arith))

  -- any literal is smaller than the node
  literal_kept : (m : ℕ) (type : Ty) (number : ℤ) → 1 < tree_depth t → Denotes (HoldsFrom first items) m (number_literal type number) → Denotes (HoldsFrom first (set items at item)) m (number_literal type number)
  literal_kept m type number lt dx = small_kept m (number_literal type number) lt dx

  number_kept : (m : ℕ) (number : ℤ) (target : Ty) → 1 < tree_depth t → m ≢ at → Denotes (HoldsFrom first items) m (number_as number target) → Denotes (HoldsFrom first (set items at item)) m (number_as number target)
  number_kept m number target lt other dm =
      let literal = number_literal target number in
      let own = number_literal (settled_type (Untyped number)) number in
      elim (integer_has target number) as (λ b. Denotes (HoldsFrom first items) m (cond b literal (cast_to target own)) → Denotes (HoldsFrom first (set items at item)) m (cond b literal (cast_to target own))) [
        | true ↦ λ dx. literal_kept m target number lt dx
        | false ↦ λ dx. cast_kept m target own lt other dx
      ] dm

  changed_kept : (from : Ty) (m : ℕ) (target : Ty) (x : Expression) → tree_depth x < tree_depth t → m ≢ at → Denotes (HoldsFrom first items) m (changed from target x) → Denotes (HoldsFrom first (set items at item)) m (changed from target x)
  changed_kept (Untyped number) m target (node (AliasOp name) (more x no_more)) lt other dx =
      let small = renamed_depth x (number_as number target) in
      let most = number_depth number target in
      (dx.0, keeps m _ dx.0 other dx.1, all_kept_below (shape_of (map expression_layer items)) (HoldsFrom first items) (HoldsFrom first (set items at item)) (from_laws first items) at keeps t d dx.0 (more (renamed x (number_as number target)) no_more) dx.2 (omega (arith, small, most, lt)))
  changed_kept (Untyped number) m target x lt other dx = number_kept m number target (deeper x (tree_depth t) lt) other dx
  changed_kept _ m target x lt other dx = cast_kept m target x lt other dx

  -- keeps an operand that was taken from below the node
  operand_kept : (m : ℕ) (from target : Ty) (x : Expression) → tree_depth x < tree_depth t → (same_type from target ≡ false → m ≢ at) → Denotes (HoldsFrom first items) m (as_operand from target x) → Denotes (HoldsFrom first (set items at item)) m (as_operand from target x)
  operand_kept m from target x lt other dm =
      let holds = HoldsFrom first items in
      let holds' = HoldsFrom first (set items at item) in
      elim (same_type from target) as (λ b. same_type from target ≡ b → Denotes holds m (cond b x (changed from target x)) → Denotes holds' m (cond b x (changed from target x))) [ true ↦ λ e dx. small_kept m x lt dx | false ↦ λ e dx. changed_kept from m target x lt (other e) dx ] refl dm

-- an operand that has its type stays
pub stays_as : (old : List AExpr) (table : TypeTable) (n : ℕ) (from : DataType) (target : Ty) → Keeps table n from → same_type (ty from) target ≡ true → IsChanged old old table (record { input = n; changed = n; from = ty from; target = target })
stays_as old table n from target k same = record {
  keeps = record { dtype = from; keeps = k; is = refl };
  denotes = λ first t le d. subst (Denotes (HoldsFrom first old) n) (sym (if_true (same_type (ty from) target) t _ same)) d;
  stays = λ e. refl;
  fresh = λ e. absurd (false≢true (sym e ∙ same));
}

-- a cast round an operand of another type
pub cast_round : (old new : List AExpr) (table : TypeTable) (n m : ℕ) (from : DataType) (target : Ty) → Keeps table n from → same_type (ty from) target ≡ false → is_known (ty from) ≡ true → m ≡ length old → ((first : ℕ) (t : Expression) → first ≤ length old → Denotes (HoldsFrom first old) n t → Denotes (HoldsFrom first new) m (node (CastOp target NonStrict) (more t no_more))) → IsChanged old new table (record { input = n; changed = m; from = ty from; target = target })
cast_round old new table n m from target k other known at denotes = record {
  keeps = record { dtype = from; keeps = k; is = refl };
  denotes = λ first t le d. subst (Denotes (HoldsFrom first new) m) (change_cast (ty from) target t known ∙ sym (if_false (same_type (ty from) target) t _ other)) (denotes first t le d);
  stays = λ e. absurd (false≢true (sym other ∙ e));
  fresh = λ e. omega (arith, at);
}

-- what stands for a number without a type
pub number_for : (old new : List AExpr) (table : TypeTable) (n m : ℕ) (from : DataType) (target : Ty) (number : ℤ) → Keeps table n from → same_type (ty from) target ≡ false → ty from ≡ Untyped number → length old ≤ m → ((first : ℕ) (t : Expression) → first ≤ length old → Denotes (HoldsFrom first old) n t → Denotes (HoldsFrom first new) m (renamed t (number_as number target))) → IsChanged old new table (record { input = n; changed = m; from = ty from; target = target })
number_for old new table n m from target number k other untyped fresh denotes = record {
  keeps = record { dtype = from; keeps = k; is = refl };
  denotes = λ first t le d.
      let is = ap (λ f. changed f target t) untyped in
      subst (Denotes (HoldsFrom first new) m) (sym is ∙ sym (if_false (same_type (ty from) target) t _ other)) (denotes first t le d);
  stays = λ e. absurd (false≢true (sym other ∙ e));
  fresh = λ e. fresh;
}

-- under the aliases of a node: of one that is no alias it stands alone
renamed_alone : (t other : Expression) (op : Op) (children : Trees Op) → node op children ≡ t → is_core_op op ≡ true → renamed t other ≡ other
renamed_alone t other (AliasOp name) children is core = cc
renamed_alone t other op children is core = ap (λ x. renamed x other) (sym is)

pub not_renamed : (first : ℕ) (items : List AExpr) (n : ℕ) (item : AExpr) (t other : Expression) → slice_get items n ≡ Some item → is_core_op (op_of (expression_layer item)) ≡ true → Denotes (HoldsFrom first items) n t → renamed t other ≡ other
not_renamed first items n item t other got core d =
    let top = from_top first items n (op_of (expression_layer item)) (inputs_of (expression_layer item)) (layer_held items n item got) t d in
    renamed_alone t other (op_of (expression_layer item)) top.0 (sym top.1) core

-- and of an alias it stands under that
only_child : (first : ℕ) (items : List AExpr) (name : Name) (m : ℕ) (t other : Expression) (ts : Trees Op) → t ≡ node (AliasOp name) ts → DenoteAll (HoldsFrom first items) (m ∷ []) ts → (below : Expression) × (renamed t other ≡ node (AliasOp name) (more (renamed below other) no_more)) × Denotes (HoldsFrom first items) m below
only_child first items name m t other (more below no_more) is d = (below, ap (λ x. renamed x other) is, d.0)
only_child first items name m t other no_more is d = absurd d
only_child first items name m t other (more below (more second rest)) is d = absurd d.1

pub under_alias : (first : ℕ) (items : List AExpr) (n m : ℕ) (item : AExpr) (name : Name) (t other : Expression) → slice_get items n ≡ Some item → expression_layer item ≡ layer (AliasOp name) (m ∷ []) → Denotes (HoldsFrom first items) n t → (below : Expression) × (renamed t other ≡ node (AliasOp name) (more (renamed below other) no_more)) × Denotes (HoldsFrom first items) m below
under_alias first items n m item name t other got is d =
    let top = from_top first items n (AliasOp name) (m ∷ []) (expression_got items n item got ∙ ap Some is) t d in
    only_child first items name m t other top.0 top.1 top.2

-- such a literal has its value
pub literal_is : (target : Ty) (value : LiteralValue) (number : ℤ) → is_known target ≡ true → in_range target number ≡ true → literal_op value ≡ LiteralOp target (IntValue number) → (target ≡ literal_type value) × (is_literal (literal_type value) (literal_value value) ≡ true)
literal_is target value number known has is =
    let type = value_type target number value is in
    (sym type, ap (λ t. is_literal t (literal_value value)) type ∙ ap (is_literal target) (op_value (literal_type value) target (literal_value value) (IntValue number) is) ∙ becomes_literal target number known has)

-- a literal where the type has the number
pub literal_as : (first : ℕ) (items : List AExpr) (m : ℕ) (target : Ty) (value : LiteralValue) (number : ℤ) → integer_has target number ≡ true → literal_op value ≡ LiteralOp target (IntValue number) → Denotes (HoldsFrom first items) m (node (literal_op value) no_more) → Denotes (HoldsFrom first items) m (number_as number target)
literal_as first items m target value number has is d =
    subst (Denotes (HoldsFrom first items) m) (ap (λ op. node op no_more) is ∙ sym (if_true (integer_has target number) _ _ has)) d

-- and a cast where it lacks it
pub cast_as : (first : ℕ) (items : List AExpr) (m : ℕ) (target : Ty) (number : ℤ) → integer_has target number ≡ false → Denotes (HoldsFrom first items) m (cast_to target (number_literal (settled_type (Untyped number)) number)) → Denotes (HoldsFrom first items) m (number_as number target)
cast_as first items m target number lacks d =
    subst (Denotes (HoldsFrom first items) m) (sym (if_false (integer_has target number) _ _ lacks)) d

-- a number's own literal, as the one that was added
pub own_literal : (first : ℕ) (items : List AExpr) (m : ℕ) (own : Ty) (value : LiteralValue) (number : ℤ) → type_alone (Untyped number) ≡ Some own → literal_op value ≡ LiteralOp own (IntValue number) → Denotes (HoldsFrom first items) m (node (literal_op value) no_more) → Denotes (HoldsFrom first items) m (number_literal (settled_type (Untyped number)) number)
own_literal first items m own value number alone is d =
    let type : settled_type (Untyped number) ≡ own = ap (λ o. unwrap_or o (Untyped number)) alone in
    subst (Denotes (HoldsFrom first items) m) (ap (λ op. node op no_more) (is ∙ ap (λ t. LiteralOp t (IntValue number)) (sym type))) d

-- an integer type that has the number
pub counted_integer : (type : Ty) (number : ℤ) → is_integer type ≡ true → (is_counted type && in_range type number) ≡ integer_has type number
counted_integer (Integer signed bits) number h = refl
counted_integer type number h = cc

pub lacks_number : (type : Ty) (number : ℤ) → is_integer type ≡ false → false ≡ integer_has type number
lacks_number type number h = ap (λ b. b && in_range type number) (sym h)

-- whatever type is kept for it
pub changed_from : (old new : List AExpr) (table : TypeTable) (n m : ℕ) (from other : DataType) (target : Ty) → Keeps table n from → Keeps table n other → IsChanged old new table (record { input = n; changed = m; from = ty from; target = target }) → IsChanged old new table (record { input = n; changed = m; from = ty other; target = target })
changed_from old new table n m from other target k l is =
    subst (λ (d : DataType). IsChanged old new table (record { input = n; changed = m; from = ty d; target = target })) (type_one table n from other k l) is

pub becomes_of : (table : TypeTable) (n : ℕ) (from : DataType) (target : Ty) → Keeps table n from → IsReady table n target → same_type (ty from) target ≡ false → CanBecome (ty from) target
becomes_of table n from target k ready other =
    let one = type_one table n ready.dtype from ready.keeps k in
    subst (λ (d : DataType). CanBecome (ty d) target) one (⊎_elim
    (λ kept. absurd (false≢true (sym other ∙ ap (λ (d : DataType). same_type (ty d) target) (sym one) ∙ ap (λ t. same_type t target) kept ∙ same_type_own target)))
    (λ can. can) ready.becomes)

-- an operand can become of the type at a place of a list, and of a copy of it
pub ready_becomes : (table : TypeTable) (n : ℕ) (targets : List DataType) (i : ℕ) (from target : DataType) (copy : Ty) → IsReadyAt table n targets i → slice_get targets i ≡ Some target → copy ≡ ty target → Keeps table n from → same_type (ty from) (ty target) ≡ false → CanBecome (ty from) copy
ready_becomes table n targets i from target copy at there copied keeps other =
    let is = some_same (slice_get targets i) at.target target at.there there in
    subst (CanBecome (ty from)) (sym copied) (becomes_of table n from (ty target) keeps (subst (IsReady table n) (ap ty is) at.ready) other)

-- ---- operands one by one

ready_to : (own from target : Ty) → IsTakenTo own from target → (from ≡ target) ⊎ CanBecome from target
ready_to own from target (makes can) = inr can
ready_to own from target (passes kept owned) = inl kept

-- operands that can become of their types are ready for them
pub all_ready : (own : Ty) (table : TypeTable) (ns : List ℕ) (typed : List Typed) (targets : List Ty) → AllKept table ns typed → AllBecome own (types_of typed) targets → AllReady table ns targets
all_ready own table [] [] [] k b = tt
all_ready own table (n ∷ ns) (t ∷ ts) (target ∷ targets) k b =
    let is = ap (λ (x : Typed). x.type) k.0.is in
    (record { dtype = k.0.own.dtype; keeps = type_of table n k.0.own k.0.keeps; becomes = subst (λ t. (t ≡ target) ⊎ CanBecome t target) (sym is) (ready_to own t.type target b.0) }, all_ready own table ns ts targets k.1 b.1)
all_ready own table [] [] (target ∷ targets) k b = absurd b
all_ready own table [] (t ∷ ts) targets k b = absurd k
all_ready own table (n ∷ ns) [] targets k b = absurd k
all_ready own table (n ∷ ns) (t ∷ ts) [] k b = absurd b

no_more_become : (own : Ty) (types : List Ty) → AllBecome own types [] → types ≡ []
no_more_become own [] b = refl
no_more_become own (type ∷ types) b = absurd b

no_items : (xs : List DataType) → map ty xs ≡ [] → xs ≡ []
no_items [] e = refl
no_items (x ∷ xs) e = cc

same_children : (op : Op) (ts us : Trees Op) → node op ts ≡ node op us → ts ≡ us
same_children op ts us e = cc

-- operands of which no types are kept are taken as they are
as_they_are : (type : Ty) (listed own targets : List Ty) → listed ≡ [] → AreOperands listed own targets → AllBecome type own targets → own ≡ targets
as_they_are type listed own targets none are become = ⊎_elim
    (λ e. let bare = sym e ∙ none in no_more_become type own (subst (AllBecome type own) bare become) ∙ sym bare)
    (λ p. p.1)
    are

module _ (registry : Registry) (schema : Columns) (items : List AExpr) (table : TypeTable) (right : IsRight registry schema items table) (n : ℕ) (item : AExpr) (own : Inferred) (got : slice_get items n ≡ Some item) (keeps : KeepsEntry table n own) where
  -- a node takes operands to the types that are kept with it, where there are some
  pub takes_listed : own.operands ≢ [] → TakesTo registry schema table item (map ty own.operands)
  takes_listed some typed ruling all rules = ⊎_elim
      (λ e. sym e)
      (λ p. absurd (some (no_items own.operands p.0)))
      (listed_operands registry schema items table right n item own got keeps typed ruling all rules)

  -- its operands are ready for them
  pub takes_ready : own.operands ≢ [] → AllReady table (inputs_of (expression_layer item)) (map ty own.operands)
  takes_ready some =
      let e = ruled_inputs registry schema items table right n item own got keeps in
      let same = takes_listed some e.typed e.ruling e.kept e.rules in
      let becomes = (keeps_rule registry schema (op_of (expression_layer item)) e.typed e.ruling e.rules).becomes in
      subst (AllReady table (inputs_of (expression_layer item))) same (all_ready e.ruling.own.type table (inputs_of (expression_layer item)) e.typed e.ruling.operands e.kept becomes)

  -- and where there are none the node is strict as it is
  pub plain_strict : own.operands ≡ [] → (t : Expression) → Denotes (HoldsExpression items) n t → HasKnownType (typing registry schema t) → said (is_strict_node registry schema) registry schema t ≡ true
  plain_strict none t d has =
      let op = op_of (expression_layer item) in
      let inputs = inputs_of (expression_layer item) in
      let top = held_top items n op inputs (layer_held items n item got) t d in
      let e = ruled_inputs registry schema items table right n item own got keeps in
      let typed = children_kept registry schema items table right inputs top.0 e.typed top.2 e.kept in
      let becomes = (keeps_rule registry schema op e.typed e.ruling e.rules).becomes in
      let same = as_they_are e.ruling.own.type (map ty own.operands) (types_of e.typed) e.ruling.operands (ap (map ty) none) (listed_operands registry schema items table right n item own got keeps e.typed e.ruling e.kept e.rules) becomes in
      let whole = ap (λ r. then_typed r (typing_rule registry schema op)) typed ∙ ap own_typed e.rules in
      let is = ok_same (typing registry schema t) e.ruling.own has.typed (ap (typing registry schema) top.1 ∙ whole) has.is in
      subst (λ u. said (is_strict_node registry schema) registry schema u ≡ true) (sym top.1) (strict_from registry schema op top.0 e.typed e.ruling typed e.rules same (ap (λ (x : Typed). is_known x.type) is ∙ has.known))

pub ready_length : (table : TypeTable) (ns : List ℕ) (ts : List DataType) → AllReady table ns (map ty ts) → length ns ≡ length ts
ready_length table [] [] all = refl
ready_length table (n ∷ ns) (t ∷ ts) all = ap suc (ready_length table ns ts all.1)
ready_length table [] (t ∷ ts) all = absurd all
ready_length table (n ∷ ns) [] all = absurd all

pub ready_within : (table : TypeTable) (ns : List ℕ) (ts : List DataType) (i : ℕ) → AllReady table ns (map ty ts) → i < length ns → i < length ts
ready_within table ns ts i all lt = omega (arith, lt, ready_length table ns ts all)

-- the type to which a node takes the operand at a place is one
pub same_target : (table : TypeTable) (n : ℕ) (own other : Inferred) (i : ℕ) (t u : DataType) → KeepsEntry table n own → KeepsEntry table n other → slice_get own.operands i ≡ Some t → slice_get other.operands i ≡ Some u → t ≡ u
same_target table n own other i t u k l at there =
    some_same (slice_get own.operands i) t u at (ap (λ (x : Inferred). slice_get x.operands i) (keeps_one table n own other k l) ∙ there)

-- the operand at a place, where the table keeps more
pub ready_here : (old new : TypeTable) (ns : List ℕ) (ts : List DataType) (i n : ℕ) → AllReady old ns (map ty ts) → slice_get ns i ≡ Some n → Extends old new → IsReadyAt new n ts i
ready_here old new [] ts i n all at extends = cc
ready_here old new (m ∷ ns) (u ∷ ts) zero n all at extends =
    let same : m ≡ n = cc in
    let one = subst (λ k. IsReady old k (ty u)) same all.0 in
    record { target = u; there = refl; ready = record { dtype = one.dtype; keeps = still_keeps old new extends n one.dtype one.keeps; becomes = one.becomes } }
ready_here old new (m ∷ ns) (u ∷ ts) (suc i) n all at extends =
    let rest = ready_here old new ns ts i n all.1 at extends in
    record { target = rest.target; there = rest.there; ready = rest.ready }
ready_here old new (m ∷ ns) [] i n all at extends = absurd all

grown_changed : (old mid new : List AExpr) (table : TypeTable) (os : List Operand) → Grows mid new → AllByRecursion (IsChanged old mid table) os → AllByRecursion (IsChanged old new table) os
grown_changed old mid new table [] g all = tt
grown_changed old mid new table (o ∷ os) g all = (
  record {
    keeps = all.0.keeps;
    denotes = λ first t le d. tree_grown first first mid new (omega arith) g o.changed _ (all.0.denotes first t le d);
    stays = all.0.stays;
    fresh = all.0.fresh;
  },
  grown_changed old mid new table os g all.1,
)

-- none yet, and one more
pub none_changed : (items : List AExpr) (table : TypeTable) → AreChanged items items table [] [] []
none_changed items table = record { operands = []; inputs_are = refl; changed_are = refl; targets_are = refl; each = tt }

all_more : {A : Type 0} (P : A → Type 0) (xs : List A) (x : A) → AllByRecursion P xs → P x → AllByRecursion P (xs ++ x ∷ [])
all_more P [] x all p = (p, tt)
all_more P (y ∷ xs) x all p = (all.0, all_more P xs x all.1 p)

module _ (old mid new : List AExpr) (table table' : TypeTable) (inputs : List ℕ) (done grown : List Node) (targets : List DataType) (i n : ℕ) (m : Node) (target copy : DataType) where
  pub changed_more : AreChanged old mid table (take i inputs) (numbers done) (map ty (take i targets)) → slice_get inputs i ≡ Some n → i < length targets → target ≡ get_or targets i target → ty copy ≡ ty target → grown ≡ done ++ m ∷ [] → Grows old mid → Grows mid new → (from : DataType) → Keeps table n from → IsChanged mid new table' (record { input = n; changed = m.0; from = ty from; target = ty copy }) → AreChanged old new table (take (i + 1) inputs) (numbers grown) (map ty (take (i + 1) targets))
  changed_more before at also is_t same longer g h from keeps one =
      let o : Operand = record { input = n; changed = m.0; from = ty from; target = ty copy } in
      let here : IsChanged old new table o = record {
        keeps = record { dtype = from; keeps = keeps; is = refl };
        denotes = λ first t le d. one.denotes first t (omega (arith, le, length-grown old mid g)) (tree_grown first first old mid (omega arith) g n t d);
        stays = one.stays;
        fresh = λ e. omega (arith, one.fresh e, length-grown old mid g);
      } in
      let next : i + 1 ≡ suc i = omega arith in
      record {
        operands = before.operands ++ o ∷ [];
        inputs_are = map-append (λ (o : Operand). o.input) before.operands (o ∷ []) ∙ ap (λ l. l ++ n ∷ []) before.inputs_are ∙ sym (ap (λ k. take k inputs) next ∙ taken_more inputs i n at);
        changed_are = map-append (λ (o : Operand). o.changed) before.operands (o ∷ []) ∙ ap (λ l. l ++ m.0 ∷ []) before.changed_are ∙ sym (map-append (λ (n : Node). n.0) done (m ∷ [])) ∙ ap numbers (sym longer);
        targets_are = mapped_more (λ (o : Operand). o.target) ty before.operands _ o targets i target also before.targets_are refl same is_t;
        each = all_more (IsChanged old new table) before.operands o (grown_changed old mid new table before.operands h before.each) here;
      }

-- the type of one more is kept
pub kept_more : (old new : TypeTable) (done grown : List Node) (m : Node) → Extends old new → AllByRecursion (IsKept old) (numbers done) → IsKept new m.0 → grown ≡ done ++ m ∷ [] → AllByRecursion (IsKept new) (numbers grown)
kept_more old new done grown m extends all k longer =
    let one = ap numbers longer ∙ map-append (λ (n : Node). n.0) done (m ∷ []) in
    subst (AllByRecursion (IsKept new)) (sym one) (all_joined (IsKept new) (numbers done) (m.0 ∷ []) (all_weaker (IsKept old) (IsKept new) (still_kept old new extends) (numbers done) all) (k, tt))

-- all of them
pub all_changed : (old new : List AExpr) (table : TypeTable) (inputs : List ℕ) (outputs : List Node) (targets : List DataType) (i : ℕ) → i ≡ length inputs → length inputs ≡ length targets → AreChanged old new table (take i inputs) (numbers outputs) (map ty (take i targets)) → AreChanged old new table inputs (numbers outputs) (map ty targets)
all_changed old new table inputs outputs targets i whole same c =
    let xs = ap (λ k. take k inputs) whole ∙ take-length inputs in
    let ts = ap (λ k. take k targets) (whole ∙ same) ∙ take-length targets in
    subst (λ l. AreChanged old new table inputs (numbers outputs) (map ty l)) ts (subst (λ l. AreChanged old new table l (numbers outputs) (map ty (take i targets))) xs c)

-- what adding none leaves, and adding more behind others
pub adds_nothing : (near : List AExpr → List ℕ → Type 0) (items : List AExpr) (table : TypeTable) → AddsNodes near items items table table
adds_nothing near items table = record {
  right = λ registry schema right. right;
  closed = λ start roots le near closed. closed;
  added = λ registry schema start le right strict. strict;
  extends = extends_itself table;
}

pub adds_then : (near near' : List AExpr → List ℕ → Type 0) (old mid new : List AExpr) (table between table' : TypeTable) → Grows old mid → AddsNodes near old mid table between → AddsNodes near' mid new between table' → ((start : List AExpr) (roots : List ℕ) → length start ≤ length old → near start roots → near' start roots) → AddsNodes near old new table table'
adds_then near near' old mid new table between table' g a b there =
    let longer = length-grown old mid g in
    record {
      right = λ registry schema right. b.right registry schema (a.right registry schema right);
      closed = λ start roots le here closed. b.closed start roots (omega (arith, le, longer)) (there start roots le here) (a.closed start roots le here closed);
      added = λ registry schema start le right strict. b.added registry schema start (omega (arith, le, longer)) (a.right registry schema right) (a.added registry schema start le right strict);
      extends = extends_then table between table' a.extends b.extends;
    }

-- nodes that stand over none of the old ones
pub adds_alone : (near : List AExpr → List ℕ → Type 0) (old new : List AExpr) (table table' : TypeTable) → AddsNodes (λ start roots. Unit) old new table table' → AddsNodes near old new table table'
adds_alone near old new table table' a = record { right = a.right; closed = λ start roots le here. a.closed start roots le tt; added = a.added; extends = a.extends }

-- ---- the node over them

-- a node whose operands are made of the types to which it takes them says the same, comes of replacements by coercion, and
-- is strict where its type is one of columns
pub record Rewritten (registry : Registry) (schema : Columns) (first : ℕ) (items : List AExpr) (at : ℕ) (before : Expression) (typed : Typed) : Type 0 where
  pub op : Op
  pub inputs : List ℕ
  pub children : Trees Op
  pub held : HoldsFrom first items at op inputs
  pub denotes : DenoteAll (HoldsFrom first items) inputs children
  pub same : IsAlike registry schema before (node op children)
  pub becomes : Becomes registry schema before (node op children)
  pub strict : is_known typed.type ≡ true → IsStrictOver registry schema op children

pub rewritten_same : (registry : Registry) (schema : Columns) (first : ℕ) (items : List AExpr) (at : ℕ) (before : Expression) (typed : Typed) → Rewritten registry schema first items at before typed → DenotesSame registry schema first items at before
rewritten_same registry schema first items at before typed r = record { tree = node r.op r.children; denotes = (r.inputs, r.held, r.denotes); same = r.same }

module _ (registry : Registry) (schema : Columns) (old new : List AExpr) (table : TypeTable) (right : IsRight registry schema old table) where
  children_from : (first : ℕ) (os : List Operand) (ts : Trees Op) (typed : List Typed) → DenoteAll (HoldsFrom first old) (map (λ o. o.input) os) ts → typing_all registry schema ts ≡ Ok typed → AllByRecursion (IsChanged old new table) os → types_of typed ≡ map (λ o. o.from) os
  children_from first [] no_more typed d h all = by_no_children (λ xs. types_of xs ≡ []) typed h refl
  children_from first (o ∷ os) (more t ts) typed d h all =
      by_children (λ xs. types_of xs ≡ o.from ∷ map (λ (o : Operand). o.from) os) _ _ typed h (λ x xs is rest.
      let k = all.0.keeps in
      let has = kept_type registry schema old table right o.input k.dtype k.keeps t (any_node first old o.input t d.0) in
      let one = ap (λ (y : Typed). y.type) (ok_same _ x _ is has.is) ∙ k.is in
      ap (λ y. y ∷ types_of xs) one ∙ ap (λ l. o.from ∷ l) (children_from first os ts xs d.1 rest all.1))
  children_from first [] (more t ts) typed d h all = absurd d
  children_from first (o ∷ os) no_more typed d h all = absurd d

  -- the typings that are kept of a node's inputs are those of its children
  inputs_known : (os : List Operand) → AllByRecursion (IsChanged old new table) os → AllByRecursion (IsKept table) (map (λ o. o.input) os)
  inputs_known [] all = tt
  inputs_known (o ∷ os) all = (kept_of table o.input all.0.keeps.dtype all.0.keeps.keeps, inputs_known os all.1)

  typings_of : (first : ℕ) (ns : List ℕ) (ts : Trees Op) (typed : List Typed) → AllByRecursion (IsKept table) ns → DenoteAll (HoldsFrom first old) ns ts → typing_all registry schema ts ≡ Ok typed → AllKept table ns typed
  typings_of first [] no_more typed all d h = by_no_children (λ xs. AllKept table [] xs) typed h tt
  typings_of first (n ∷ ns) (more t ts) typed all d h =
      by_children (λ xs. AllKept table (n ∷ ns) xs) _ _ typed h (λ x xs is rest.
      let here = kept_typing registry schema old table right n all.0.own all.0.keeps t (any_node first old n t d.0) in
      (record { own = all.0.own; keeps = all.0.keeps; is = ok_same _ (typed_of all.0.own) x here is }, typings_of first ns ts xs all.1 d.1 rest))
  typings_of first [] (more t ts) typed all d h = absurd d
  typings_of first (n ∷ ns) no_more typed all d h = absurd d

  operands_kept : (item : AExpr) (at first : ℕ) (t : Expression) → first ≤ length old → at < length old → Denotes (HoldsFrom first new) at t → (os : List Operand) (ts : Trees Op) → trees_depth ts < tree_depth t → DenoteAll (HoldsFrom first old) (map (λ o. o.input) os) ts → AllByRecursion (IsChanged old new table) os → DenoteAll (HoldsFrom first (set new at item)) (map (λ o. o.changed) os) (as_operands (map (λ o. o.from) os) (map (λ o. o.target) os) ts)
  operands_kept item at first t le here d [] no_more lt dts all = tt
  operands_kept item at first t le here d (o ∷ os) (more x ts) lt dts all = (
    operand_kept first new at item t d o.changed o.from o.target x (omega arith) (λ e s. absurd (omega (arith, all.0.fresh e, s, here))) (all.0.denotes first x le dts.0),
    operands_kept item at first t le here d os ts (omega arith) dts.1 all.1,
  )
  operands_kept item at first t le here d [] (more x ts) lt dts all = absurd dts
  operands_kept item at first t le here d (o ∷ os) no_more lt dts all = absurd dts

  -- over the operands as a list
  over_operands : (at : ℕ) (op : Op) (os : List Operand) (item : AExpr) → expression_layer item ≡ layer op (map (λ o. o.changed) os) → HoldsExpression old at op (map (λ o. o.input) os) → Grows old new → AllByRecursion (IsChanged old new table) os → ((typed : List Typed) (ruling : Ruling) → AllKept table (map (λ o. o.input) os) typed → rule registry schema op typed ≡ Ok ruling → ruling.operands ≡ map (λ o. o.target) os) → (first : ℕ) (t : Expression) (typed : Typed) → first ≤ length old → Denotes (HoldsFrom first old) at t → typing registry schema t ≡ Ok typed → Rewritten registry schema first (set new at item) at t typed
  over_operands at op os item is held g all takes first t typed le dt has =
      let top = from_top first old at op (map (λ (o : Operand). o.input) os) held t dt in
      let here = within old at t (any_node first old at t dt) in
      let there : at < length new = omega (arith, here, length-grown old new g) in
      let depth = ap tree_depth top.1 in
      let p = typed_parts registry schema op top.0 typed (ap (typing registry schema) (sym top.1) ∙ has) in
      let froms = children_from first os top.0 p.below top.2 p.children_typed all in
      let targets = takes p.below p.ruling (typings_of first (map (λ (o : Operand). o.input) os) top.0 p.below (inputs_known os all) top.2 p.children_typed) p.rules in
      let later = tree_grown first first old new (omega arith) g at t dt in
      let kept = operands_kept item at first t le here later os top.0 (omega arith) top.2 all in
      let as_they_are = ap (λ l. as_operands l p.ruling.operands top.0) froms ∙ ap (λ l. as_operands (map (λ (o : Operand). o.from) os) l top.0) targets in
      let known : is_known typed.type ≡ true → is_known p.ruling.own.type ≡ true = λ k. ap is_known (ap (λ (x : Typed). x.type) p.is) ∙ k in
      record {
        op = op;
        inputs = map (λ (o : Operand). o.changed) os;
        children = as_operands (types_of p.below) p.ruling.operands top.0;
        held = (top.3, expression_written new at item there ∙ ap Some is);
        denotes = subst (DenoteAll (HoldsFrom first (set new at item)) (map (λ (o : Operand). o.changed) os)) (sym as_they_are) kept;
        same = subst (λ u. IsAlike registry schema u (node op (as_operands (types_of p.below) p.ruling.operands top.0))) (sym top.1) (node_alike_over registry schema op top.0 p.below p.children_typed p.ruling p.rules);
        becomes = subst (λ u. Becomes registry schema u (node op (as_operands (types_of p.below) p.ruling.operands top.0))) (sym top.1) (node_becomes registry schema op top.0 p.below p.ruling p.children_typed p.rules);
        strict = λ k. operands_strict registry schema op top.0 p.below p.children_typed p.ruling p.rules (known k);
      }

-- what the item at the node says, before it was written
pub item_is : (old new final : List AExpr) (at : ℕ) (op : Op) (ns ms : List ℕ) → HoldsExpression old at op ns → Grows old new → (rew : Rewired new final at ms) → expression_layer rew.after ≡ layer op ms
item_is old new final at op ns ms held g rew =
    let before = some_same _ (layer op ns) _ (grown_held old new g at op ns held) (expression_got new at rew.before rew.got) in
    rew.rewired ∙ ap (λ l. layer (op_of l) ms) (sym before)

-- the node, written over the operands that were changed
pub rewritten : (registry : Registry) (schema : Columns) (old new final : List AExpr) (table : TypeTable) (at : ℕ) (item : AExpr) (ms : List ℕ) (targets : List Ty) → IsRight registry schema old table → slice_get old at ≡ Some item → Grows old new → AreChanged old new table (inputs_of (expression_layer item)) ms targets → TakesTo registry schema table item targets → Rewired new final at ms → (first : ℕ) (t : Expression) (typed : Typed) → first ≤ length old → Denotes (HoldsFrom first old) at t → typing registry schema t ≡ Ok typed → Rewritten registry schema first final at t typed
rewritten registry schema old new final table at item ms targets right got g c takes rew first t typed le dt has =
    let op = op_of (expression_layer item) in
    let held : HoldsExpression old at op (inputs_of (expression_layer item)) = layer_held old at item got in
    let is = item_is old new final at op (inputs_of (expression_layer item)) ms held g rew in
    let made = over_operands registry schema old new table right at op c.operands rew.after (is ∙ ap (layer op) (sym c.changed_are)) (subst (HoldsExpression old at op) (sym c.inputs_are) held) g c.each (λ typed ruling k h. takes typed ruling (subst (λ ns. AllKept table ns typed) c.inputs_are k) h ∙ sym c.targets_are) first t typed le dt has in
    subst (λ items. Rewritten registry schema first items at t typed) (sym rew.items) made

-- as many nodes as inputs stand for them
pub changed_count : (old new : List AExpr) (table : TypeTable) (ns ms : List ℕ) (targets : List Ty) → AreChanged old new table ns ms targets → length ms ≡ length ns
changed_count old new table ns ms targets c =
    sym (ap length c.changed_are) ∙ length-map c.operands (λ (o : Operand). o.changed) ∙ sym (length-map c.operands (λ (o : Operand). o.input)) ∙ ap length c.inputs_are

-- an item has the inputs that it had before others were added
pub same_inputs : (old new : List AExpr) (at : ℕ) (item now : AExpr) → slice_get old at ≡ Some item → Grows old new → slice_get new at ≡ Some now → inputs_of (expression_layer now) ≡ inputs_of (expression_layer item)
same_inputs old new at item now got g there =
    let held = grown_held old new g at (op_of (expression_layer item)) (inputs_of (expression_layer item)) (layer_held old at item got) in
    ap inputs_of (some_same _ _ (layer (op_of (expression_layer item)) (inputs_of (expression_layer item))) (expression_got new at now there) held)
