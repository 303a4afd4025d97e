-- A node in whose place one is put that does something else with the same inputs.
use Rattle.std.proofs.Common.{◌≡◌, ◌≢◌, ℕ, ◌<◌, ◌≤◌, Bool, true, false, cond, not, List, [], ◌∷◌, length, map, set, slice_get, Option, Some, None, Result, Ok, refl, sym, ap, ◌∙◌, subst, arith, inl, ⊎_elim}
use Rattle.std.specs.Prelude.{MatchOption}
use Rattle.std.specs.List.{AllByRecursion}
use Rattle.std.proofs.Math.ListN.{length-set}
use Rattle.plan_types.specs.Types.{Untyped, is_known}
use Rattle.plan_types.specs.Schemas.{Columns}
use Rattle.plan_types.specs.declared.error.ErrorKind.{ErrorKind}
use Rattle.plan_dsl.specs.Names.{label_of, op_label}
use Rattle.plan_dsl.specs.Ops.{Op, LiteralOp, Expression}
use Rattle.plan_dsl.specs.Registry.{Registry}
use Rattle.plan_dsl.specs.Trees.{Trees, node}
use Rattle.plan_dsl.specs.Typing.{Typed, rule, typing, typing_all}
use Rattle.plan_dsl.proofs.TypingLemmas.{ok_same}
use Rattle.plan_arena.specs.declared.aexpr.AExpr.{AExpr}
use Rattle.plan_arena.specs.Denotation.{Denotes, DenoteAll}
use Rattle.plan_arena.specs.Items.{AreNamesOver, HoldsExpression, expression_layer}
use Rattle.plan_arena.specs.Layers.{inputs_of, layer, op_of, shape_of}
use Rattle.plan_arena.proofs.DenotationLemmas.{all_kept_below, same_or_other}
use Rattle.plan_arena.proofs.ItemLemmas.{expression_elsewhere, expression_got, expression_laws, expression_written, held_top, within}
use Rattle.plan_infer.specs.declared.type_table.Inferred.{Inferred}
use Rattle.plan_infer.specs.declared.type_table.TypeTable.{TypeTable}
use Rattle.plan_infer.specs.KeptTypes.{AllKept, GivesName, IsKept, IsRight, IsTypedNode, typed_of}
use Rattle.plan_infer.proofs.TableLemmas.{RuledInputs, children_kept, held_inputs, held_op, kept_one, kept_typing, known_inputs, layer_held, ruled_inputs, typings_kept}
use Rattle.plan_coerce.specs.Reaching.{AreMadeOnce, IsClosed, Near, StaysOnce}
use Rattle.plan_coerce.specs.Rules.{IsLike, IsReplacement, IsSameOnFrames, KeepsNumber, said}
use Rattle.plan_coerce.proofs.OnceLemmas.{over_once}
use Rattle.plan_coerce.proofs.ReachLemmas.{closed_put, closed_start, inputs_near, reached_near, root_near}
use Rattle.plan_coerce.proofs.RightLemmas.{node_within}
use Rattle.plan_coerce.proofs.PlacedRightLemmas.{placed_right}
use Rattle.own_rule.specs.OpChanges.{Change, Finds, HasSameChanged, IsChanged, IsChangedItem, all_changed, stays_by, until_stays_by}

-- An item at a node of which something is kept, and one that is put in its place, whatever its inputs are found to be.
pub record IsOpChanged (finds : Finds) (change : Change) (registry : Registry) (schema : Columns) (old : List AExpr) (table : TypeTable) (at : ℕ) (item : AExpr) : Type 0 where
  pub before : AExpr
  pub got : slice_get old at ≡ Some before
  pub right : IsRight registry schema old table
  pub kept : IsKept table at
  pub answer : (typed : List Typed) → AllKept table (inputs_of (expression_layer before)) typed → IsChangedItem finds change before item typed

module _ {finds : Finds} {change : Change} {registry : Registry} {schema : Columns} {old : List AExpr} {table : TypeTable} {at : ℕ} {item : AExpr} (found : IsOpChanged finds change registry schema old table at item) where
  abbrev new : List AExpr
  new = set old at item

  abbrev from : Op
  from = op_of (expression_layer found.before)

  abbrev inputs : List ℕ
  inputs = inputs_of (expression_layer found.before)

  -- how its inputs are typed, and what its rule says of them
  over : RuledInputs registry schema table from inputs (typed_of found.kept.own)
  over = ruled_inputs registry schema old table found.right at found.before found.kept.own found.got found.kept.keeps

  made : IsChangedItem finds change found.before item over.typed
  made = found.answer over.typed over.kept

  held : HoldsExpression old at from inputs
  held = layer_held old at found.before found.got

  there : at < length old
  there = node_within old at from inputs held

  put : HoldsExpression new at made.to inputs
  put = expression_written old at item there ∙ ap Some made.is

  elsewhere : (n : ℕ) (op : Op) (ns : List ℕ) → n ≢ at → HoldsExpression old n op ns → HoldsExpression new n op ns
  elsewhere n op ns other h = expression_elsewhere old at item n op ns other h

  typed_below : (ts : Trees Op) → DenoteAll (HoldsExpression old) inputs ts → typing_all registry schema ts ≡ Ok over.typed
  typed_below ts d = children_kept registry schema old table found.right inputs ts over.typed d over.kept

  -- both say the same
  same_over : (ts : Trees Op) → DenoteAll (HoldsExpression old) inputs ts → IsSameOnFrames registry schema (node from ts) (node made.to ts)
  same_over ts d = made.changed.same registry schema over.ruling ts over.rules (typed_below ts d)

  -- it leads to the same nodes
  pub still_closed : IsClosed old (at ∷ []) (set old at item)
  still_closed =
      let roots = at ∷ [] in
      let near = inputs_near old roots old at found.before found.got (closed_start old roots) (root_near old at) in
      closed_put old roots old at item there (subst (AllByRecursion (Near old roots)) (sym (ap inputs_of made.is)) near) (closed_start old roots)

  pub still_once : StaysOnce old (set old at item) at
  still_once =
      let same : AreMadeOnce old old inputs inputs = λ ts ns h once. (ts, ns, h, once, λ m a. inl a) in
      over_once old old at found.before item inputs there there (expression_got old at found.before found.got) (ap inputs_of made.is) (expression_written old at item there) same

  -- what the node denoted, and denotes now
  record IsOver (t : Expression) : Type 0 where
    operands : Trees Op
    whole : t ≡ node from operands
    denoted : DenoteAll (HoldsExpression old) inputs operands
    denotes : Denotes (HoldsExpression new) at (node made.to operands)

  over_there : (t : Expression) → Denotes (HoldsExpression old) at t → IsOver t
  over_there t d =
      let top = held_top old at from inputs held t d in
      let here = subst (Denotes (HoldsExpression old) at) top.1 d in
      let below = all_kept_below (shape_of (map expression_layer old)) (HoldsExpression old) (HoldsExpression new) (expression_laws old) at elsewhere (node from top.0) here inputs top.0 top.2 (omega arith) in
      record { operands = top.0; whole = top.1; denoted = top.2; denotes = (inputs, put, below) }

  -- its type is one of columns
  pub known_there : (t : Expression) (typed : Typed) → Denotes (HoldsExpression old) at t → typing registry schema t ≡ Ok typed → is_known typed.type ≡ true
  known_there t typed d is =
      let own = kept_typing registry schema old table found.right at found.kept.own found.kept.keeps t d in
      ap (λ (x : Typed). is_known x.type) (ok_same (typing registry schema t) typed (typed_of found.kept.own) is own ∙ sym over.is)
      ∙ made.changed.known registry schema over.ruling over.rules

  -- no node was added
  none_added : (n : ℕ) → length old ≤ n → n < length (set old at item) → ⊥
  none_added n le lt = omega (arith, le, lt, length-set old at item)

  -- both are one expression when they are changed
  relates : (ts : Trees Op) → DenoteAll (HoldsExpression old) inputs ts → HasSameChanged change registry schema (node from ts) (node made.to ts)
  relates ts d =
      let typed = typed_below ts d in
      ap (λ op. node op (all_changed change registry schema ts)) (ap (change made.to) typed ∙ made.changed.again ∙ sym made.changed.is ∙ sym (ap (change from) typed))

  -- it is replaced once
  abbrev measure : Expression → ℕ
  measure = said (until_stays_by finds registry schema) registry schema

  falls : (ts : Trees Op) → DenoteAll (HoldsExpression old) inputs ts → measure (node made.to ts) < measure (node from ts)
  falls ts d =
      let times : Bool → ℕ = λ b. cond b 1 0 in
      let one : measure (node from ts) ≡ 1 = ap (λ r. times (finds from r)) (typed_below ts d) ∙ ap times made.changed.found in
      let none : measure (node made.to ts) ≡ 0 = ap (λ r. times (finds made.to r)) (typed_below ts d) ∙ ap times made.changed.stays in
      omega (arith, one, none)

  -- so it is replaced as the rule asks
  pub op_replaced : (t : Expression) → Denotes (HoldsExpression old) at t → IsReplacement (HasSameChanged change registry schema) measure registry schema old (set old at item) at t
  op_replaced t d =
      let over_it = over_there t d in
      let ts = over_it.operands in
      let same = same_over ts over_it.denoted in
      let like : IsLike (HasSameChanged change registry schema) registry schema (node from ts) (node made.to ts) = record { same = same; relates = relates ts over_it.denoted } in
      subst (IsReplacement (HasSameChanged change registry schema) measure registry schema old new at) (sym over_it.whole) (record {
        tree = node made.to ts;
        denotes = over_it.denotes;
        like = λ before is. subst (λ w. IsLike (HasSameChanged change registry schema) registry schema w (node made.to ts)) (sym (made.changed.plain ts)) like;
        ill_typed = λ kind e. like;
        known = λ after is. known_there t after d (ap (typing registry schema) over_it.whole ∙ sym same.typing ∙ is);
        falls = falls ts over_it.denoted;
        fresh = λ n u le reached du. absurd (none_added n le (within new n u du));
        numbers = λ n number value ns reached here. ⊎_elim
            (λ le. absurd (none_added n le (node_within new n (LiteralOp (Untyped number) value) ns here)))
            (λ r. r)
            (reached_near old (at ∷ []) new (at ∷ []) n still_closed (root_near old at, tt) reached);
      })

  becomes_there : (t : Expression) → Denotes (HoldsExpression old) at t → (u : Expression) × Denotes (HoldsExpression new) at u × IsSameOnFrames registry schema t u
  becomes_there t d =
      let it = over_there t d in
      (node made.to it.operands, it.denotes, subst (λ u. IsSameOnFrames registry schema u (node made.to it.operands)) (sym it.whole) (same_over it.operands it.denoted))

  -- what gives an expression its name does so still
  still_named : (n : ℕ) (t u : Expression) → GivesName old n t → label_of u ≡ label_of t → GivesName new n u
  still_named n t u name same = ⊎_elim
      (λ e.
      let here = subst (λ m. HoldsExpression old m name.op name.inputs) e name.held in
      let op = held_op old at name.op from name.inputs inputs here held in
      let same_inputs = held_inputs old at name.op from name.inputs inputs here held in
      record { op = made.to; inputs = inputs; held = subst (λ m. HoldsExpression new m made.to inputs) (sym e) put; gives = λ names are. made.changed.names names ∙ ap (λ o. op_label o names) (sym op) ∙ name.gives names (subst (λ is. AreNamesOver is names) (sym same_inputs) are) ∙ sym same })
      (λ other. record { op = name.op; inputs = name.inputs; held = elsewhere n name.op name.inputs other name.held; gives = λ names over. name.gives names over ∙ sym same })
      (same_or_other n at)

  -- so what is kept stays right, of the node itself
  right_here : (own : Inferred) → IsTypedNode registry schema old table at own → IsTypedNode registry schema new table at own
  right_here own e =
      let r = becomes_there e.tree e.denotes in
      record {
        tree = r.0;
        denotes = r.1;
        typed = r.2.typing ∙ e.typed;
        name = still_named own.name.0 e.tree r.0 e.name r.2.name;
        inputs = λ op ns h. subst (AllByRecursion (IsKept table)) (held_inputs new at made.to op inputs ns put h) (e.inputs from inputs held);
        operands = λ op ns typed ruling h kept rules.
            let ops = held_op new at made.to op inputs ns put h in
            let ins = held_inputs new at op made.to ns inputs h put in
            let own_kept = subst (λ is. AllKept table is typed) ins kept in
            let one = kept_one table inputs typed over.typed own_kept over.kept in
            e.operands from inputs typed ruling held own_kept (ap (rule registry schema from) one ∙ made.changed.rules registry schema ∙ ap (rule registry schema made.to) (sym one) ∙ ap (λ o. rule registry schema o typed) ops ∙ rules);
      }

  -- and of any other
  pub still_right : IsRight registry schema (set old at item) table
  still_right = placed_right registry schema old table at item found.right found.kept becomes_there still_named (λ own k. right_here own (found.right.each at own k))

-- ---- what is answered

module _ (finds : Finds) (registry : Registry) (schema : Columns) (items : List AExpr) (n : ℕ) (item : AExpr) (got : slice_get items n ≡ Some item) where
  -- a node that is none of them stays as it is
  stays_over : ((ts : Trees Op) → DenoteAll (HoldsExpression items) (inputs_of (expression_layer item)) ts → finds (op_of (expression_layer item)) (typing_all registry schema ts) ≡ false) → (t : Expression) → Denotes (HoldsExpression items) n t → said (stays_by finds registry schema) registry schema t ≡ true
  stays_over none t d =
      let top = held_top items n (op_of (expression_layer item)) (inputs_of (expression_layer item)) (layer_held items n item got) t d in
      ap (said (stays_by finds registry schema) registry schema) top.1 ∙ ap not (none top.0 top.2)

  -- one that is none whatever its inputs are
  pub other_stays : ((typings : Result (List Typed) ErrorKind) → finds (op_of (expression_layer item)) typings ≡ false) → (t : Expression) → Denotes (HoldsExpression items) n t → said (stays_by finds registry schema) registry schema t ≡ true
  other_stays none = stays_over (λ ts d. none (typing_all registry schema ts))

-- what was answered of an item, by what is kept of its inputs
abbrev pub IsAnswer : Finds → Change → TypeTable → AExpr → Option AExpr → Type 0
IsAnswer finds change table item answer =
    (typed : List Typed) → AllKept table (inputs_of (expression_layer item)) typed → MatchOption answer (finds (op_of (expression_layer item)) (Ok typed) ≡ false) (λ made. IsChangedItem finds change item made typed)

-- an item over inputs of which these typings are kept
module _ (finds : Finds) (change : Change) (table : TypeTable) (item : AExpr) (from : Op) (inputs : List ℕ) (typed : List Typed) (is : expression_layer item ≡ layer from inputs) (kept : AllKept table inputs typed) where
  typed_so : (others : List Typed) → AllKept table (inputs_of (expression_layer item)) others → typed ≡ others
  typed_so others own = kept_one table inputs typed others kept (subst (λ l. AllKept table (inputs_of l) others) is own)

  -- it stays where it is none of those
  pub stays_so : finds from (Ok typed) ≡ false → IsAnswer finds change table item None
  stays_so none others own = ap (λ l. finds (op_of l) (Ok others)) is ∙ ap (λ ts. finds from (Ok ts)) (sym (typed_so others own)) ∙ none

  -- and else another is put in its place, over its inputs
  pub changes_so : (to : Op) (after : AExpr) → expression_layer after ≡ layer to inputs → IsChanged finds change from to typed → IsAnswer finds change table item (Some after)
  changes_so to after over changed others own = record {
    to = to;
    is = over ∙ sym (ap (λ l. layer to (inputs_of l)) is);
    changed = subst (λ l. IsChanged finds change (op_of l) to others) (sym is) (subst (IsChanged finds change from to) (typed_so others own) changed);
  }

module _ (finds : Finds) (change : Change) {registry : Registry} {schema : Columns} {items : List AExpr} {table : TypeTable} {n : ℕ} {item : AExpr} (got : slice_get items n ≡ Some item) (right : IsRight registry schema items table) (kept : IsKept table n) where
  abbrev below : List ℕ
  below = inputs_of (expression_layer item)

  pub inputs_kept : AllByRecursion (IsKept table) below
  inputs_kept = known_inputs registry schema items table right n (op_of (expression_layer item)) below kept (layer_held items n item got)

  changed_by : (after : AExpr) → IsAnswer finds change table item (Some after) → IsOpChanged finds change registry schema items table n after
  changed_by after h = record { before = item; got = got; right = right; kept = kept; answer = h }

  pub answered : (answer : Option AExpr) → IsAnswer finds change table item answer → (t : Expression) → Denotes (HoldsExpression items) n t → MatchOption answer (said (stays_by finds registry schema) registry schema t ≡ true) (λ made. IsReplacement (HasSameChanged change registry schema) (said (until_stays_by finds registry schema) registry schema) registry schema items (set items n made) n t)
  answered None h t d =
      let found = typings_kept table below inputs_kept in
      stays_over finds registry schema items n item got (λ ts under. ap (finds (op_of (expression_layer item))) (children_kept registry schema items table right below ts found.0 under found.1) ∙ h found.0 found.1) t d
  answered (Some made) h t d = op_replaced (changed_by made h) t d

  pub none_unknown : (answer : Option AExpr) → IsAnswer finds change table item answer → answer ≢ None → (t : Expression) (typed : Typed) → Denotes (HoldsExpression items) n t → typing registry schema t ≡ Ok typed → is_known typed.type ≡ true
  none_unknown None h some = absurd (some refl)
  none_unknown (Some made) h some = known_there (changed_by made h)

  pub closed_by : (answer : Option AExpr) → IsAnswer finds change table item answer → MatchOption answer Unit (λ made. (k : ℕ) → Some 1 ≡ Some k → IsClosed items (n ∷ []) (set items n made))
  closed_by None h = tt
  closed_by (Some made) h = λ k turns. still_closed (changed_by made h)

  pub once_by : (answer : Option AExpr) → IsAnswer finds change table item answer → MatchOption answer Unit (λ made. (k : ℕ) → Some 1 ≡ Some k → StaysOnce items (set items n made) n)
  once_by None h = tt
  once_by (Some made) h = λ k turns. still_once (changed_by made h)

  pub placed_by : (answer : Option AExpr) → IsAnswer finds change table item answer → MatchOption answer Unit (λ made. ¬ (KeepsNumber table n) → IsRight registry schema (set items n made) table)
  placed_by None h = tt
  placed_by (Some made) h = λ number. still_right (changed_by made h)
