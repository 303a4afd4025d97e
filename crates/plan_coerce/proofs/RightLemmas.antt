-- What is kept by node stays right as coercion adds nodes and writes one.
use Rattle.std.proofs.Common.{reverse, ◌≡◌, ◌≢◌, ◌⊎◌, ℕ, ◌<◌, List, [], ◌∷◌, ◌++◌, length, map, set, true, false, cond, Some, Ok, Err, slice_get, refl, sym, ap, ◌∙◌, subst, arith, zero-le, inl, inr, ⊎_elim, length-append}
use Rattle.std.specs.List.{AllByRecursion}
use Rattle.std.proofs.lemmas.List.{length-map, map-append}
use Rattle.std.proofs.lemmas.Option.{slice_get-get_or}
use Rattle.plan_types.proofs.ListLemmas.{slice_get-append}
use Rattle.std.proofs.lemmas.Bool.{cases_lt}
use Rattle.plan_types.specs.Types.{Ty, ty, is_known, same_type}
use Rattle.plan_types.specs.Casts.{can_cast}
use Rattle.plan_types.proofs.CommonLemmas.{alone_itself}
use Rattle.plan_types.specs.declared.error.ErrorKind.TheVariants.{InvalidOperation}
use Rattle.plan_types.specs.Schemas.{Name, Columns}
use Rattle.plan_types.specs.declared.dtype.DataType.{DataType}
use Rattle.plan_types.specs.declared.dtype.CastOptions.{CastOptions}
use Rattle.plan_types.specs.declared.dtype.CastOptions.TheVariants.{NonStrict}
use Rattle.plan_dsl.specs.declared.literal.LiteralValue.{LiteralValue}
use Rattle.plan_dsl.specs.Registry.{Registry}
use Rattle.plan_dsl.specs.Names.{Label, label_of}
use Rattle.plan_dsl.specs.Trees.{node, no_more, more}
use Rattle.plan_dsl.specs.Ops.{Op, CastOp, AliasOp, Expression}
use Rattle.plan_dsl.specs.Literals.{literal_op, literal_type, literal_value, is_literal}
use Rattle.plan_dsl.specs.Strictness.{as_operand}
use Rattle.plan_dsl.specs.Typing.{Ruling, Typed, aliased, literal_taken, rule, typed_to, types_of, typing}
use Rattle.plan_dsl.proofs.TypingLemmas.{ok_same}
use Rattle.plan_dsl.proofs.CastLemmas.{operand_made}
use Rattle.plan_dsl.proofs.LiteralLemmas.{literal_typing}
use Rattle.plan_dsl.proofs.OpLemmas.{keeps_rule}
use Rattle.plan_dsl.proofs.SignatureLemmas.{AllBecome}
use Rattle.plan_arena.specs.declared.arena.Node.{Node}
use Rattle.plan_arena.specs.declared.aexpr.AExpr.{AExpr}
use Rattle.plan_arena.specs.declared.aexpr.AExpr.TheVariants.{Literal, Cast, Alias}
use Rattle.plan_arena.specs.Denotation.{Denotes, DenotesTree}
use Rattle.plan_arena.specs.Layers.{layer, shape_of, inputs_of, op_of}
use Rattle.plan_arena.specs.Items.{AreNamesOver, HoldsExpression, HoldsFrom, Grows, Rewired, expression_layer}
use Rattle.plan_arena.proofs.DenotationLemmas.{same_or_other, some_same}
use Rattle.plan_arena.proofs.ItemLemmas.{expression_laws, any_node, from_zero, expression_elsewhere, expression_written, expression_added, tree_grown, grown_held, tree_within}
use Rattle.plan_infer.specs.declared.type_table.Inferred.{Inferred}
use Rattle.plan_infer.specs.declared.type_table.TypeTable.{TypeTable}
use Rattle.plan_infer.specs.Typed.{DenotesTyped}
use Rattle.plan_coerce.specs.Coercion.{AllStrictFrom, AreChanged, IsChanged, Operand}
use Rattle.plan_infer.specs.KeptTypes.{AllKept, AreOperands, Extends, GivesName, HasRightTypes, IsKept, IsNamedBy, IsRight, IsRuled, KeepsEntry, TakesTo, by_first, by_itself, typed_of}
use Rattle.plan_infer.proofs.TypingLemmas.{cast_ruled, literal_ruled}
use Rattle.plan_arena.proofs.NumberLemmas.{all_reversed, all_weaker, all_front, all_joined, all_last}
use Rattle.plan_infer.proofs.TableLemmas.{extends_itself, held_inputs, held_op, keeps_one, kept_one, kept_typing, known_inputs, known_typed, layer_held, node_stays, plain_tree, right_grown, right_kept, ruled_inputs, still_kept, top_held, type_of, type_one}
use Rattle.plan_coerce.proofs.CoercedLemmas.{DenotesSame, becomes}
use Rattle.plan_coerce.proofs.CoercionLemmas.{item_is, rewritten, rewritten_same}

-- other items stay where one is written
pub elsewhere_kept : (old new : List AExpr) (at : ℕ) (ms : List ℕ) → Rewired old new at ms → (n : ℕ) (op : Op) (inputs : List ℕ) → n ≢ at → HoldsExpression old n op inputs → HoldsExpression new n op inputs
elsewhere_kept old new at ms rew n op inputs other h =
    subst (λ items. HoldsExpression items n op inputs) (sym rew.items) (expression_elsewhere old at rew.after n op inputs other h)

-- ---- an item that is written over other inputs

-- names of inputs are those of as many others
over_as_many : (ms ns : List ℕ) (names : List Label) → length ms ≡ length ns → AreNamesOver ms names → AreNamesOver ns names
over_as_many [] [] names many over = over
over_as_many ms (n ∷ ns) names many over = tt
over_as_many (m ∷ ms) [] names many over = cc

-- what gives an expression its name does so still
names_written : (old new : List AExpr) (at : ℕ) (op : Op) (ns ms : List ℕ) → length ms ≡ length ns → HoldsExpression old at op ns → HoldsExpression new at op ms → ((n : ℕ) (op : Op) (inputs : List ℕ) → n ≢ at → HoldsExpression old n op inputs → HoldsExpression new n op inputs) → (n : ℕ) (t w : Expression) → GivesName old n t → label_of w ≡ label_of t → GivesName new n w
names_written old new at op ns ms many before after elsewhere n t w name same = ⊎_elim
    (λ e.
    let here = subst (λ m. HoldsExpression old m name.op name.inputs) e name.held in
    let is = held_op old at op name.op ns name.inputs before here in
    let inputs = held_inputs old at op name.op ns name.inputs before here in
    record {
      op = name.op;
      inputs = ms;
      held = subst (λ o. HoldsExpression new n o ms) is (subst (λ m. HoldsExpression new m op ms) (sym e) after);
      gives = λ names over. name.gives names (subst (λ is. AreNamesOver is names) inputs (over_as_many ms ns names many over)) ∙ sym same;
    })
    (λ differs. record { op = name.op; inputs = name.inputs; held = elsewhere n name.op name.inputs differs name.held; gives = λ names over. name.gives names over ∙ sym same })
    (same_or_other n at)

-- what is kept stays right where one item is written
module _ (registry : Registry) (schema : Columns) (old new : List AExpr) (table : TypeTable) (at : ℕ) (op : Op) (ns ms : List ℕ) (before : Expression) where
  right_written : length ms ≡ length ns → Denotes (HoldsFrom 0 old) at before → DenotesSame registry schema 0 new at before → ((n : ℕ) (op : Op) (inputs : List ℕ) → n ≢ at → HoldsExpression old n op inputs → HoldsExpression new n op inputs) → HoldsExpression old at op ns → HoldsExpression new at op ms → AllByRecursion (IsKept table) ms → ((own : Inferred) → KeepsEntry table at own → (typed : List Typed) (ruling : Ruling) → AllKept table ms typed → rule registry schema op typed ≡ Ok ruling → AreOperands (map ty own.operands) (types_of typed) ruling.operands) → IsRight registry schema old table → IsRight registry schema new table
  right_written many d same elsewhere was held known operands right = record {
    each = λ n own k.
        let e = right.each n own k in
        let r = becomes registry schema 0 old new at before d same elsewhere n e.tree (from_zero old n e.tree e.denotes) in
        let there = any_node 0 new n r.0 r.1 in
        let name = names_written old new at op ns ms many was held elsewhere own.name.0 e.tree r.0 e.name r.2.same.name in
        ⊎_elim
        (λ here. record {
          tree = r.0;
          denotes = there;
          typed = r.2.same.typing ∙ e.typed;
          name = name;
          inputs = λ op' inputs' h.
              let there = subst (λ m. HoldsExpression new m op' inputs') here h in
              subst (AllByRecursion (IsKept table)) (held_inputs new at op op' ms inputs' held there) known;
          operands = λ op' inputs' typed ruling h kept rules.
              let there = subst (λ m. HoldsExpression new m op' inputs') here h in
              let is = held_op new at op' op inputs' ms there held in
              let ins = held_inputs new at op' op inputs' ms there held in
              operands own (subst (λ m. KeepsEntry table m own) here k) typed ruling (subst (λ is. AllKept table is typed) ins kept) (ap (λ o. rule registry schema o typed) (sym is) ∙ rules);
        })
        (λ differs. node_stays registry schema old new table table n own e r.0 there r.2.same.typing name (λ op inputs h. elsewhere n op inputs differs h) (extends_itself table))
        (same_or_other n at);
  }

pub node_within : (items : List AExpr) (n : ℕ) (op : Op) (inputs : List ℕ) → HoldsExpression items n op inputs → n < length items
node_within items n op inputs h =
    let short : length (shape_of (map expression_layer items)) ≡ length items = length-map (map expression_layer items) inputs_of ∙ length-map items expression_layer in
    omega (arith, (expression_laws items).below n op inputs h, short)

-- a node that was written over other inputs: what is right stays so, where something is kept of them
right_over : (registry : Registry) (schema : Columns) (old new final : List AExpr) (table : TypeTable) (at : ℕ) (op : Op) (ns ms : List ℕ) → length ms ≡ length ns → HoldsExpression old at op ns → Grows old new → Rewired new final at ms → (d : DenotesTyped registry schema 0 old at) → DenotesSame registry schema 0 final at d.tree → AllByRecursion (IsKept table) ms → ((own : Inferred) → KeepsEntry table at own → (typed : List Typed) (ruling : Ruling) → AllKept table ms typed → rule registry schema op typed ≡ Ok ruling → AreOperands (map ty own.operands) (types_of typed) ruling.operands) → IsRight registry schema new table → IsRight registry schema final table
right_over registry schema old new final table at op ns ms many held g rew d same below operands right =
    let before = grown_held old new g at op ns held in
    let is = item_is old new final at op ns ms held g rew in
    let here : HoldsExpression (set new at rew.after) at op ms = expression_written new at rew.after (node_within new at op ns before) ∙ ap Some is in
    right_written registry schema new final table at op ns ms d.tree many (tree_grown 0 0 old new zero-le g at d.tree d.denotes) same (λ n o inputs other h. elsewhere_kept new final at ms rew n o inputs other h) before (subst (λ items. HoldsExpression items at op ms) (sym rew.items) here) below operands right

-- operands that were changed have the types to which they are taken
module _ (registry : Registry) (schema : Columns) (old new : List AExpr) (table table' : TypeTable) (right : IsRight registry schema old table) (right' : IsRight registry schema new table') where
  changed_typings : (type : Ty) (os : List Operand) (typed typed' : List Typed) → AllKept table (map (λ o. o.input) os) typed → AllKept table' (map (λ o. o.changed) os) typed' → AllByRecursion (IsChanged old new table) os → AllBecome type (types_of typed) (map (λ o. o.target) os) → typed' ≡ typed_to typed (map (λ o. o.target) os)
  changed_typings type [] [] [] k k' all become = refl
  changed_typings type (o ∷ os) (t ∷ ts) (u ∷ us) k k' all become =
      let e = right.each o.input k.0.own k.0.keeps in
      let is = e.typed ∙ ap Ok k.0.is in
      let own = type_of table o.input k.0.own k.0.keeps in
      let from : t.type ≡ o.from = sym (ap (λ (x : Typed). x.type) k.0.is) ∙ ap ty (type_one table o.input k.0.own.dtype all.0.keeps.dtype own all.0.keeps.keeps) ∙ all.0.keeps.is in
      let made = all.0.denotes 0 e.tree zero-le (from_zero old o.input e.tree e.denotes) in
      let there = subst (λ f. Denotes (HoldsFrom 0 new) o.changed (as_operand f o.target e.tree)) (sym from) made in
      let found = kept_typing registry schema new table' right' o.changed k'.0.own k'.0.keeps (as_operand t.type o.target e.tree) (any_node 0 new o.changed _ there) ∙ ap Ok k'.0.is in
      let one = ok_same (typing registry schema (as_operand t.type o.target e.tree)) u (record { type = o.target; many = t.many }) found (operand_made registry schema o.target e.tree t.many type t.type is become.0).typing in
      ap (λ x. x ∷ us) one ∙ ap (λ xs. record { type = o.target; many = t.many } ∷ xs) (changed_typings type os ts us k.1 k'.1 all.1 become.1)
  changed_typings type [] [] (u ∷ us) k k' all become = absurd k'
  changed_typings type [] (t ∷ ts) typed' k k' all become = absurd k
  changed_typings type (o ∷ os) [] typed' k k' all become = absurd k
  changed_typings type (o ∷ os) (t ∷ ts) [] k k' all become = absurd k'

  -- so the node's rule takes them to the same
  operands_after : (at : ℕ) (item : AExpr) (own : Inferred) (ms : List ℕ) → slice_get old at ≡ Some item → KeepsEntry table at own → TakesTo registry schema table item (map ty own.operands) → AreChanged old new table (inputs_of (expression_layer item)) ms (map ty own.operands) → (typed : List Typed) (ruling : Ruling) → AllKept table' ms typed → rule registry schema (op_of (expression_layer item)) typed ≡ Ok ruling → AreOperands (map ty own.operands) (types_of typed) ruling.operands
  operands_after at item own ms got k takes c typed ruling kept rules =
      let op = op_of (expression_layer item) in
      let e = ruled_inputs registry schema old table right at item own got k in
      let targets = takes e.typed e.ruling e.kept e.rules in
      let keeps = keeps_rule registry schema op e.typed e.ruling e.rules in
      let become = subst (AllBecome e.ruling.own.type (types_of e.typed)) (targets ∙ sym c.targets_are) keeps.becomes in
      let is = changed_typings e.ruling.own.type c.operands e.typed typed (subst (λ ns. AllKept table ns e.typed) (sym c.inputs_are) e.kept) (subst (λ ns. AllKept table' ns typed) (sym c.changed_are) kept) c.each become in
      let again = ap (rule registry schema op) (is ∙ ap (typed_to e.typed) (c.targets_are ∙ sym targets)) ∙ keeps.stays in
      let one = ok_same (rule registry schema op typed) ruling e.ruling rules again in
      inl (sym targets ∙ ap (λ (r : Ruling). r.operands) (sym one))

-- ---- nodes that are added

-- a node that was added, of which something is kept
module _ (registry : Registry) (schema : Columns) (old new : List AExpr) (table table' : TypeTable) (n : ℕ) (item : AExpr) (op : Op) (inputs : List ℕ) (own : Inferred) (grown : new ≡ old ++ item ∷ []) (at : n ≡ length old) (is : expression_layer item ≡ layer op inputs) (stays : (n : ℕ) (other : Inferred) → KeepsEntry table n other → KeepsEntry table' n other) (only : (m : ℕ) (other : Inferred) → KeepsEntry table' m other → KeepsEntry table m other ⊎ ((m ≡ n) × (other ≡ own))) where
  pub held_there : HoldsExpression new n op inputs
  held_there = subst (λ l. slice_get (map expression_layer l) n ≡ Some (layer op inputs)) (sym grown) (subst (λ k. slice_get (map expression_layer (old ++ item ∷ [])) k ≡ Some (layer op inputs)) (sym at) (expression_added old item ∙ ap Some is))

  pub right_added : DenotesTree (HoldsExpression new) n → AllByRecursion (IsKept table) inputs → ((typed : List Typed) → AllKept table inputs typed → IsRuled registry schema op typed own) → IsNamedBy table op n inputs own.name.0 → IsRight registry schema old table → IsRight registry schema new table'
  right_added tree below ruled named right =
      right_kept registry schema new table table' n op inputs own held_there tree below ruled named stays only (right_grown registry schema old new table (record { added = item ∷ []; longer = grown }) right)

-- a cast that was added round a node
pub right_cast : (registry : Registry) (schema : Columns) (old new : List AExpr) (table table' : TypeTable) (input n : Node) (from own : Inferred) (target : DataType) → new ≡ old ++ Cast input target NonStrict ∷ [] → n.0 ≡ length old → KeepsEntry table input.0 from → ty own.dtype ≡ ty target → own.name ≡ from.name → own.many ≡ from.many → own.operands ≡ [] → is_known (ty from.dtype) ≡ true → can_cast (ty from.dtype) (ty target) ≡ true → ((n : ℕ) (other : Inferred) → KeepsEntry table n other → KeepsEntry table' n other) → ((m : ℕ) (other : Inferred) → KeepsEntry table' m other → KeepsEntry table m other ⊎ ((m ≡ n.0) × (other ≡ own))) → IsRight registry schema old table → IsRight registry schema new table'
right_cast registry schema old new table table' input n from own target grown at keeps same name many none known casts stays only right =
    let g : Grows old new = record { added = Cast input target NonStrict ∷ []; longer = grown } in
    let below = (right_grown registry schema old new table g right).each input.0 from keeps in
    let held = held_there registry schema old new table table' n.0 (Cast input target NonStrict) (CastOp (ty target) NonStrict) (input.0 ∷ []) own grown at refl stays only in
    let tree : DenotesTree (HoldsExpression new) n.0 = record { tree = node (CastOp (ty target) NonStrict) (more below.tree no_more); denotes = (input.0 ∷ [], held, (below.denotes, tt)) } in
    let ruled = cast_ruled registry schema (ty target) NonStrict (typed_of from) (ty from.dtype) own (alone_itself (ty from.dtype) known) casts same many (inr (ap (map ty) none, refl)) in
    right_added registry schema old new table table' n.0 (Cast input target NonStrict) (CastOp (ty target) NonStrict) (input.0 ∷ []) own grown at refl stays only tree (record { own = from; keeps = keeps }, tt) (λ typed k. subst (λ ts. IsRuled registry schema (CastOp (ty target) NonStrict) ts own) (kept_one table (input.0 ∷ []) (typed_of from ∷ []) typed (record { own = from; keeps = keeps; is = refl }, tt) k) ruled) (by_first input.0 [] from refl keeps (ap (λ (m : Node). m.0) name) (λ names. refl)) right

-- an alias that was added of a node
pub right_alias : (registry : Registry) (schema : Columns) (old new : List AExpr) (table table' : TypeTable) (input n : Node) (name : Name) (from own : Inferred) → new ≡ old ++ Alias input name ∷ [] → n.0 ≡ length old → KeepsEntry table input.0 from → ty own.dtype ≡ ty from.dtype → own.name ≡ n → own.many ≡ from.many → own.operands ≡ [] → ((n : ℕ) (other : Inferred) → KeepsEntry table n other → KeepsEntry table' n other) → ((m : ℕ) (other : Inferred) → KeepsEntry table' m other → KeepsEntry table m other ⊎ ((m ≡ n.0) × (other ≡ own))) → IsRight registry schema old table → IsRight registry schema new table'
right_alias registry schema old new table table' input n name from own grown at keeps same called many none stays only right =
    let g : Grows old new = record { added = Alias input name ∷ []; longer = grown } in
    let below = (right_grown registry schema old new table g right).each input.0 from keeps in
    let held = held_there registry schema old new table table' n.0 (Alias input name) (AliasOp name) (input.0 ∷ []) own grown at refl stays only in
    let tree : DenotesTree (HoldsExpression new) n.0 = record { tree = node (AliasOp name) (more below.tree no_more); denotes = (input.0 ∷ [], held, (below.denotes, tt)) } in
    let is : typed_of from ≡ typed_of own = λ i. record { type = sym same i; many = sym many i } in
    let ruled : IsRuled registry schema (AliasOp name) (typed_of from ∷ []) own = record { ruling = aliased (typed_of from); rules = refl; is = is; operands = inr (ap (map ty) none, refl) } in
    right_added registry schema old new table table' n.0 (Alias input name) (AliasOp name) (input.0 ∷ []) own grown at refl stays only tree (record { own = from; keeps = keeps }, tt) (λ typed k. subst (λ ts. IsRuled registry schema (AliasOp name) ts own) (kept_one table (input.0 ∷ []) (typed_of from ∷ []) typed (record { own = from; keeps = keeps; is = refl }, tt) k) ruled) (by_itself (ap (λ (m : Node). m.0) called) (λ names over. refl)) right

-- a literal that was added
pub right_literal : (registry : Registry) (schema : Columns) (old new : List AExpr) (table table' : TypeTable) (n : Node) (value : LiteralValue) (own : Inferred) → new ≡ old ++ Literal value ∷ [] → n.0 ≡ length old → ty own.dtype ≡ literal_type value → own.name ≡ n → own.many ≡ false → own.operands ≡ [] → is_literal (literal_type value) (literal_value value) ≡ true → ((n : ℕ) (other : Inferred) → KeepsEntry table n other → KeepsEntry table' n other) → ((m : ℕ) (other : Inferred) → KeepsEntry table' m other → KeepsEntry table m other ⊎ ((m ≡ n.0) × (other ≡ own))) → IsRight registry schema old table → IsRight registry schema new table'
right_literal registry schema old new table table' n value own grown at same name many none literal stays only right =
    let held = held_there registry schema old new table table' n.0 (Literal value) (literal_op value) [] own grown at refl stays only in
    let tree : DenotesTree (HoldsExpression new) n.0 = record { tree = node (literal_op value) no_more; denotes = ([], held, tt) } in
    let taken : literal_taken (literal_type value) (literal_value value) ≡ Ok (record { operands = []; type = literal_type value }) = ap (λ b. cond b (Ok (record { operands = []; type = literal_type value })) (Err InvalidOperation)) literal in
    let ruled = literal_ruled registry schema (literal_type value) (literal_value value) own (taken ∙ ap (λ t. Ok (record { operands = []; type = t })) (sym same)) many none in
    right_added registry schema old new table table' n.0 (Literal value) (literal_op value) [] own grown at refl stays only tree tt (λ typed k. subst (λ ts. IsRuled registry schema (literal_op value) ts own) (kept_one table [] [] typed tt k) ruled) (by_itself (ap (λ (m : Node). m.0) name) (λ names over. refl)) right

-- the types of the nodes that wait are kept, when the last was visited and its inputs took its place
pub waiting_known : (items' : List AExpr) (table table' : TypeTable) (at : ℕ) (rest stack : List ℕ) → AllByRecursion (IsKept table) (rest ++ at ∷ []) → Extends table table' → HasRightTypes items' table' → ((op : Op) (inputs : List ℕ) → HoldsExpression items' at op inputs → stack ≡ rest ++ reverse inputs) → AllByRecursion (IsKept table') stack
waiting_known items' table table' at rest stack known knows is pushed =
    let here = still_kept table table' knows at (all_last (IsKept table) rest at known) in
    let typed = known_typed is.registry is.schema items' table' is.right at here in
    let top = top_held items' at typed.tree (any_node 0 items' at typed.tree typed.denotes) in
    let inputs = known_inputs is.registry is.schema items' table' is.right at top.0 top.1 here top.2 in
    let waits = all_weaker (IsKept table) (IsKept table') (still_kept table table' knows) rest (all_front (IsKept table) rest (at ∷ []) known) in
    subst (AllByRecursion (IsKept table')) (sym (pushed top.0 top.1 top.2)) (all_joined (IsKept table') rest (reverse top.1) waits (all_reversed (IsKept table') top.1 inputs))

-- a node of which something is kept is one of the arena
pub kept_within : (items : List AExpr) (table : TypeTable) (n : ℕ) → HasRightTypes items table → IsKept table n → n < length items
kept_within items table n is k = tree_within items n (plain_tree (known_typed is.registry is.schema items table is.right n k))

-- what coercion leaves of a node that was written over its operands
pub right_rewritten : (registry : Registry) (schema : Columns) (old new final : List AExpr) (table table' : TypeTable) (at : ℕ) (item : AExpr) (own : Inferred) (ms : List ℕ) → IsRight registry schema old table → KeepsEntry table at own → slice_get old at ≡ Some item → Grows old new → AreChanged old new table (inputs_of (expression_layer item)) ms (map ty own.operands) → TakesTo registry schema table item (map ty own.operands) → Rewired new final at ms → AllByRecursion (IsKept table') ms → Extends table table' → IsRight registry schema new table' → IsRight registry schema final table'
right_rewritten registry schema old new final table table' at item own ms right k got g c takes rew below extends now =
    let d = known_typed registry schema old table right at (record { own = own; keeps = k }) in
    let made = rewritten registry schema old new final table at item ms (map ty own.operands) right got g c takes rew 0 d.tree d.typed zero-le d.denotes d.is in
    let operands = operands_after registry schema old new table table' right now at item own ms got k takes c in
    let many = sym (ap length c.changed_are) ∙ length-map c.operands (λ (o : Operand). o.changed) ∙ sym (length-map c.operands (λ (o : Operand). o.input)) ∙ ap length c.inputs_are in
    right_over registry schema old new final table' at (op_of (expression_layer item)) (inputs_of (expression_layer item)) ms many (layer_held old at item got) g rew d (rewritten_same registry schema 0 final at d.tree d.typed made) below (λ other k' typed ruling kept rules. subst (λ (x : Inferred). AreOperands (map ty x.operands) (types_of typed) ruling.operands) (keeps_one table' at own other (extends.entries at own k) k') (operands typed ruling kept rules)) now

-- a literal that was added has its type
pub literal_kept : (registry : Registry) (schema : Columns) (items : List AExpr) (table : TypeTable) (n : ℕ) (value : LiteralValue) (k : IsKept table n) → Denotes (HoldsExpression items) n (node (literal_op value) no_more) → is_literal (literal_type value) (literal_value value) ≡ true → IsRight registry schema items table → ty k.own.dtype ≡ literal_type value
literal_kept registry schema items table n value k d literal right =
    let is = kept_typing registry schema items table right n k.own k.keeps (node (literal_op value) no_more) d in
    let typed = literal_typing registry schema (literal_type value) (literal_value value) literal in
    ap (λ (t : Typed). t.type) (ok_same _ (typed_of k.own) (record { type = literal_type value; many = false }) is typed)

-- ---- nodes that take their operands as they are

-- an item of a list was there before another was added
pub held_before : (old : List AExpr) (item : AExpr) (n : ℕ) (op : Op) (inputs : List ℕ) → n < length old → HoldsExpression (old ++ item ∷ []) n op inputs → HoldsExpression old n op inputs
held_before old item n op inputs lt h =
    let layers = map expression_layer old in
    let got = slice_get-get_or layers n (layer op inputs) (omega (arith, lt, length-map old expression_layer)) in
    let there = ap (λ l. slice_get l n) (map-append expression_layer old (item ∷ [])) ∙ slice_get-append layers (map expression_layer (item ∷ [])) n _ got in
    got ∙ ap Some (some_same (slice_get (map expression_layer (old ++ item ∷ [])) n) _ _ there h)

-- a node that was added so, behind others: where it is a cast, it changes the type
pub strict_added : (registry : Registry) (schema : Columns) (start : ℕ) (old new : List AExpr) (item : AExpr) (table table' : TypeTable) (n : ℕ) (own : Inferred) → IsRight registry schema old table → new ≡ old ++ item ∷ [] → n ≡ length old → own.operands ≡ [] → is_known (ty own.dtype) ≡ true → ((target : Ty) (options : CastOptions) (k : ℕ) → expression_layer item ≡ layer (CastOp target options) (k ∷ []) → (from : Inferred) × KeepsEntry table k from × (same_type (ty from.dtype) target ≡ false)) → IsKept table' n → ((n : ℕ) (other : Inferred) → KeepsEntry table n other → KeepsEntry table' n other) → ((m : ℕ) (other : Inferred) → KeepsEntry table' m other → KeepsEntry table m other ⊎ ((m ≡ n) × (other ≡ own))) → AllStrictFrom start old table → AllStrictFrom start new table'
strict_added registry schema start old new item table table' n own right grown at none known changes kept stays only before m from within =
    let is : HasRightTypes old table = record { registry = registry; schema = schema; right = right } in
    let count = ap length grown ∙ length-append old (item ∷ []) in
    let still : (k : ℕ) (target : Ty) → ((entry : Inferred) × KeepsEntry table k entry × (same_type (ty entry.dtype) target ≡ false)) → (entry : Inferred) × KeepsEntry table' k entry × (same_type (ty entry.dtype) target ≡ false) = λ k target e. (e.0, stays k e.0 e.1, e.2) in
    ⊎_elim
    (λ lt.
    let k = before m from lt in
    (record { own = k.0.own; keeps = stays m k.0.own k.0.keeps; none = k.0.none; known = k.0.known }, λ target options i held. still i target (k.1 target options i (held_before old item m (CastOp target options) (i ∷ []) lt (subst (λ l. HoldsExpression l m (CastOp target options) (i ∷ [])) grown held)))))
    (λ le.
    let here : m ≡ n = omega (arith, le, within, at, count) in
    ⊎_elim
    (λ k. absurd (omega (arith, at, kept_within old table n is (record { own = kept.own; keeps = k }))))
    (λ e. (
      record {
        own = kept.own;
        keeps = subst (λ k. KeepsEntry table' k kept.own) (sym here) kept.keeps;
        none = ap (λ (x : Inferred). x.operands) e.1 ∙ none;
        known = ap (λ (x : Inferred). is_known (ty x.dtype)) e.1 ∙ known;
      },
      λ target options i held. still i target (changes target options i (some_same (slice_get (map expression_layer (old ++ item ∷ [])) (length old)) (expression_layer item) (layer (CastOp target options) (i ∷ [])) (expression_added old item) (subst (λ j. HoldsExpression (old ++ item ∷ []) j (CastOp target options) (i ∷ [])) (here ∙ at) (subst (λ l. HoldsExpression l m (CastOp target options) (i ∷ [])) grown held)))),
    ))
    (only n kept.own kept.keeps))
    (cases_lt m (length old))

-- a cast of a node of another type does so
pub cast_changes : (table : TypeTable) (n : ℕ) (target : Ty) (own : CastOptions) (from : Inferred) → KeepsEntry table n from → same_type (ty from.dtype) target ≡ false → (to : Ty) (options : CastOptions) (k : ℕ) → layer (CastOp target own) (n ∷ []) ≡ layer (CastOp to options) (k ∷ []) → (entry : Inferred) × KeepsEntry table k entry × (same_type (ty entry.dtype) to ≡ false)
cast_changes table n target own from keeps apart to options k is =
    let type : target ≡ to = cc in
    let input : n ≡ k = cc in
    (from, subst (λ j. KeepsEntry table j from) input keeps, subst (λ t. same_type (ty from.dtype) t ≡ false) type apart)
