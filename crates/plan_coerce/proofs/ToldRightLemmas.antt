-- What is kept of types stays right where a cast that can be told is replaced.
use Rattle.std.proofs.Common.{◌≡◌, ◌≢◌, ◌⊎◌, ℕ, Bool, false, true, List, [], ◌∷◌, map, set, slice_get, Some, Ok, refl, sym, ap, ◌∙◌, subst, arith, inl, inr, ⊎_elim}
use Rattle.std.specs.List.{AllByRecursion}
use Rattle.std.proofs.lemmas.Bool.{false≢true}
use Rattle.plan_types.specs.Types.{Ty, ty}
use Rattle.plan_types.specs.Schemas.{Columns}
use Rattle.plan_types.specs.declared.dtype.CastOptions.{CastOptions}
use Rattle.plan_types.specs.declared.error.ErrorKind.TheVariants.{InvalidOperation}
use Rattle.plan_dsl.specs.declared.literal.LiteralValue.{LiteralValue}
use Rattle.plan_dsl.specs.declared.operator.Operator.{Operator}
use Rattle.plan_dsl.specs.InlinedCasts.{is_cast_op, is_logical}
use Rattle.plan_dsl.specs.Literals.{is_literal, literal_op, literal_type, literal_value, settled}
use Rattle.plan_dsl.specs.Names.{Label, column_label, label_of, literal_label, op_label}
use Rattle.plan_dsl.specs.OperatorTypes.{Taken}
use Rattle.plan_dsl.specs.Ops.{Op, BinaryOp, CastOp, Expression}
use Rattle.plan_dsl.specs.Registry.{Registry}
use Rattle.plan_dsl.specs.Trees.{node, no_more, more}
use Rattle.plan_dsl.specs.Typing.{Typed, Ruling, literal_taken, rule, types_of, typing}
use Rattle.plan_dsl.proofs.TypingLemmas.{ok_where, ruled_is}
use Rattle.plan_arena.specs.declared.aexpr.AExpr.{AExpr}
use Rattle.plan_arena.specs.declared.aexpr.AExpr.TheVariants.{Cast, Literal as LiteralItem}
use Rattle.plan_arena.specs.Denotation.{Denotes}
use Rattle.plan_arena.specs.Items.{AreNamesOver, HoldsExpression, expression_layer}
use Rattle.plan_arena.specs.Layers.{layer, op_of}
use Rattle.plan_arena.proofs.DenotationLemmas.{some_same}
use Rattle.plan_arena.proofs.ItemLemmas.{expression_elsewhere, expression_got, expression_written, got_held}
use Rattle.plan_infer.specs.declared.type_table.Inferred.{Inferred}
use Rattle.plan_infer.specs.declared.type_table.TypeTable.{TypeTable}
use Rattle.plan_infer.specs.KeptTypes.{AllKept, AreOperands, Extends, GivesName, IsKept, IsRight, IsTypedNode, KeepsEntry, typed_of}
use Rattle.plan_infer.proofs.TableLemmas.{extends_itself, held_inputs, held_op, keeps_one, kept_typing, known_inputs, right_start}
use Rattle.plan_coerce.specs.CoercionRule.{ForgetsAt}
use Rattle.plan_coerce.specs.Reaching.{IsReached}
use Rattle.plan_coerce.specs.Rules.{ExtendsUnless, IsReplacement, IsSameOnFrames, KeepsAsTheyAre, KeepsNone, is_strict_node, said}
use Rattle.plan_coerce.specs.ToldCasts.{LeadsTo, LeadsToLogical}
use Rattle.plan_coerce.proofs.CoercionRuleLemmas.{kept_strict}
use Rattle.plan_coerce.proofs.PlacedRightLemmas.{placed_right}
use Rattle.plan_coerce.proofs.RightLemmas.{node_within}
use Rattle.plan_coerce.proofs.ReachLemmas.{root_near}
use Rattle.plan_coerce.proofs.ToldLemmas.{cast_settled, cast_there, cast_type_known, leads_near}

-- a cast's item is over one input
pub cast_layer : (item : AExpr) → is_cast_op (op_of (expression_layer item)) ≡ true → (target : Ty) × (options : CastOptions) × (k : ℕ) × (expression_layer item ≡ layer (CastOp target options) (k ∷ []))
cast_layer (Cast expr dtype options) h = (ty dtype, options, expr.0, refl)
cast_layer _ h = absurd (false≢true h)

-- a cast of which something is kept, and the item that is put in its place
module _ (registry : Registry) (schema : Columns) (old : List AExpr) (table : TypeTable) (at : ℕ) (item : AExpr) (right : IsRight registry schema old table) (own : Inferred) (keeps : KeepsEntry table at own) (none : own.operands ≡ []) (target : Ty) (options : CastOptions) (k : ℕ) (was : HoldsExpression old at (CastOp target options) (k ∷ [])) (op : Op) (inputs : List ℕ) (is : expression_layer item ≡ layer op inputs) (becomes : (t : Expression) → Denotes (HoldsExpression old) at t → (u : Expression) × Denotes (HoldsExpression (set old at item)) at u × IsSameOnFrames registry schema t u) where
  abbrev new : List AExpr
  new = set old at item

  put : HoldsExpression new at op inputs
  put = expression_written old at item (node_within old at (CastOp target options) (k ∷ []) was) ∙ ap Some is

  elsewhere : (n : ℕ) (o : Op) (ns : List ℕ) → n ≢ at → HoldsExpression old n o ns → HoldsExpression new n o ns
  elsewhere n o ns other h = expression_elsewhere old at item n o ns other h

  -- a cast gives no name of its own
  other_names : (n : ℕ) (t : Expression) → GivesName old n t → n ≢ at
  other_names n t name e =
      let here = subst (λ m. HoldsExpression old m name.op name.inputs) e name.held in
      let op_is = held_op old at name.op (CastOp target options) name.inputs (k ∷ []) here was in
      let inputs_are = held_inputs old at name.op (CastOp target options) name.inputs (k ∷ []) here was in
      let over : (l : Label) → AreNamesOver name.inputs (l ∷ []) = λ l. subst (λ ns. AreNamesOver ns (l ∷ [])) (sym inputs_are) tt in
      let gives : (l : Label) → l ≡ label_of t = λ l. ap (λ o. op_label o (l ∷ [])) (sym op_is) ∙ name.gives (l ∷ []) (over l) in
      let differ = ap (λ (l : Label). l.origin) (gives (column_label []) ∙ sym (gives (literal_label []))) in
      cc

  still_named : (n : ℕ) (t u : Expression) → GivesName old n t → label_of u ≡ label_of t → GivesName new n u
  still_named n t u name same =
      record { op = name.op; inputs = name.inputs; held = elsewhere n name.op name.inputs (other_names n t name) name.held; gives = λ names over. name.gives names over ∙ sym same }

  module _ (below : AllByRecursion (IsKept table) inputs) (takes : (typed : List Typed) (ruling : Ruling) → AllKept table inputs typed → rule registry schema op typed ≡ Ok ruling → AreOperands [] (types_of typed) ruling.operands) where
    right_here : IsTypedNode registry schema new table at own
    right_here =
        let e = right.each at own keeps in
        let r = becomes e.tree e.denotes in
        record {
          tree = r.0;
          denotes = r.1;
          typed = r.2.typing ∙ e.typed;
          name = still_named own.name.0 e.tree r.0 e.name r.2.name;
          inputs = λ o ns h. subst (AllByRecursion (IsKept table)) (held_inputs new at op o inputs ns put h) below;
          operands = λ o ns typed ruling h kept rules.
              let ops = held_op new at op o inputs ns put h in
              let ins = held_inputs new at o op ns inputs h put in
              subst (λ ls. AreOperands ls (types_of typed) ruling.operands) (sym (ap (map ty) none)) (takes typed ruling (subst (λ ms. AllKept table ms typed) ins kept) (ap (λ p. rule registry schema p typed) ops ∙ rules));
        }

    -- what is kept is right of what is put in place, and of all else
    pub told_right : IsRight registry schema (set old at item) table
    told_right = placed_right registry schema old table at item right (record { own = own; keeps = keeps }) becomes still_named (λ other k'. subst (IsTypedNode registry schema new table at) (keeps_one table at own other keeps k') right_here)

-- a literal takes no operand
pub literal_takes : (registry : Registry) (schema : Columns) (table : TypeTable) (value : LiteralValue) (typed : List Typed) (ruling : Ruling) → AllKept table [] typed → rule registry schema (literal_op value) typed ≡ Ok ruling → AreOperands [] (types_of typed) ruling.operands
literal_takes registry schema table value [] ruling kept rules =
    inl (ruled_is (λ r. [] ≡ r.operands) (literal_taken (literal_type value) (literal_value value)) false ruling rules (λ taken found.
    ap (λ (t : Taken). t.operands) (ok_where (is_literal (literal_type value) (literal_value value)) _ taken InvalidOperation found).1))
literal_takes registry schema table value (t ∷ ts) ruling kept rules = absurd kept

module _ (registry : Registry) (schema : Columns) (items : List AExpr) (table : TypeTable) (right : IsRight registry schema items table) where
  -- what a node leads to is kept where that is
  leads_kept : (n : ℕ) (t : Expression) (m : ℕ) (u : Expression) → IsKept table n → LeadsTo items n t m u → IsKept table m
  leads_kept n (node op (more x no_more)) m u k l =
      ⊎_elim (λ h. subst (IsKept table) h.0 k) (λ h. leads_kept h.0 x m u (known_inputs registry schema items table right n op (h.0 ∷ []) k h.1).0 h.2) l
  leads_kept n (node op no_more) m u k l = subst (IsKept table) l.0 k
  leads_kept n (node op (more x (more y ts))) m u k l = subst (IsKept table) l.0 k

  -- what a node takes as it is
  pub strict_takes : (m : ℕ) (own : Inferred) (op : Op) (inputs : List ℕ) → KeepsEntry table m own → own.operands ≡ [] → HoldsExpression items m op inputs → (typed : List Typed) (ruling : Ruling) → AllKept table inputs typed → rule registry schema op typed ≡ Ok ruling → AreOperands [] (types_of typed) ruling.operands
  strict_takes m own op inputs keeps none held typed ruling kept rules =
      subst (λ ls. AreOperands ls (types_of typed) ruling.operands) (ap (map ty) none) ((right.each m own keeps).operands op inputs typed ruling held kept rules)

-- a cast that takes its operand as it is, of which something is kept, and what a rule puts in its place
module _ (registry : Registry) (schema : Columns) (items : List AExpr) (table : TypeTable) (right : IsRight registry schema items table) (n : ℕ) (own : Inferred) (keeps : KeepsEntry table n own) (none : own.operands ≡ []) (before : AExpr) (got : slice_get items n ≡ Some before) (cast : is_cast_op (op_of (expression_layer before)) ≡ true) (item : AExpr) (related : Expression → Expression → Type 0) (measure : Expression → ℕ) (placed : (t : Expression) → Denotes (HoldsExpression items) n t → typing registry schema t ≡ Ok (typed_of own) → said (is_strict_node registry schema) registry schema t ≡ true → IsReplacement related measure registry schema items (set items n item) n t) where
  becomes_there : (t : Expression) → Denotes (HoldsExpression items) n t → (u : Expression) × Denotes (HoldsExpression (set items n item)) n u × IsSameOnFrames registry schema t u
  becomes_there t d =
      let typed = kept_typing registry schema items table right n own keeps t d in
      let there = cast_there registry schema items n before got cast t d in
      let known = cast_type_known registry schema there.0 there.1 there.3 (typed_of own) (sym (ap (typing registry schema) there.2) ∙ typed) in
      let strict = kept_strict registry schema items table right n own keeps before got none known t d in
      let made = placed t d typed strict in
      let plain : settled t ≡ t = ap settled there.2 ∙ cast_settled there.0 there.1 there.3 ∙ sym there.2 in
      (made.tree, made.denotes, subst (λ w. IsSameOnFrames registry schema w made.tree) plain (made.like (typed_of own) typed).same)

  stays_right : (op : Op) (inputs : List ℕ) → expression_layer item ≡ layer op inputs → AllByRecursion (IsKept table) inputs → ((typed : List Typed) (ruling : Ruling) → AllKept table inputs typed → rule registry schema op typed ≡ Ok ruling → AreOperands [] (types_of typed) ruling.operands) → IsRight registry schema (set items n item) table
  stays_right op inputs is below takes =
      let was = cast_layer before cast in
      told_right registry schema items table n item right own keeps none was.0 was.1 was.2 (got_held items n before (CastOp was.0 was.1) (was.2 ∷ []) got was.3) op inputs is becomes_there below takes

  -- a literal
  pub literal_right : (value : LiteralValue) → item ≡ LiteralItem value → IsRight registry schema (set items n item) table
  literal_right value is = stays_right (literal_op value) [] (ap expression_layer is) tt (literal_takes registry schema table value)

  -- a copy of a node to which it leads, and which takes its operands as they are
  pub logical_right : (t : Expression) (m : ℕ) (l : LeadsToLogical registry schema items n t m) (other : AExpr) → slice_get items m ≡ Some other → expression_layer item ≡ expression_layer other → (its : Inferred) → KeepsEntry table m its → its.operands ≡ [] → IsRight registry schema (set items n item) table
  logical_right t m l other there copied its its_keeps its_none =
      let held = l.denotes.1 in
      let is : expression_layer item ≡ layer (BinaryOp l.operator) l.denotes.0 = copied ∙ some_same _ _ _ (expression_got items m other there) held in
      stays_right (BinaryOp l.operator) l.denotes.0 is
      (known_inputs registry schema items table right m (BinaryOp l.operator) l.denotes.0 (record { own = its; keeps = its_keeps }) held)
      (strict_takes registry schema items table right m its (BinaryOp l.operator) l.denotes.0 its_keeps its_none held)

-- ---- what is kept, and where it is forgotten

-- of a node of which something is kept, it is that it takes its operands as they are, or to types that are listed
pub as_they_are_or_listed : (table : TypeTable) (n : ℕ) → IsKept table n → KeepsAsTheyAre table n ⊎ ((own : Inferred) × KeepsEntry table n own × (own.operands ≢ []))
as_they_are_or_listed table n k =
    elim k.own.operands as (λ l. k.own.operands ≡ l → KeepsAsTheyAre table n ⊎ ((own : Inferred) × KeepsEntry table n own × (own.operands ≢ []))) [
      | [] ↦ λ e. inl (record { own = k.own; keeps = k.keeps; none = e })
      | d ∷ ds ↦ λ e. inr (k.own, k.keeps, λ none. let differs : d ∷ ds ≡ [] = sym e ∙ none in cc)
    ] refl

-- a table that stays, or keeps nothing any more
module _ (table table' : TypeTable) (stays : Bool) (kept : stays ≡ true → table' ≡ table) (gone : stays ≡ false → KeepsNone table') where
  pub stays_or_gone : (P : TypeTable → Type 0) → (stays ≡ true → P table) → ((t : TypeTable) → KeepsNone t → P t) → P table'
  stays_or_gone P same none = elim stays as (λ b. stays ≡ b → P table') [ true ↦ λ e. subst P (sym (kept e)) (same e) | false ↦ λ e. none table' (gone e) ] refl

  pub still_right : (registry : Registry) (schema : Columns) (items : List AExpr) → IsRight registry schema items table → IsRight registry schema items table'
  still_right registry schema items right = stays_or_gone (IsRight registry schema items) (λ e. right) (right_start registry schema items)

  pub still_extends : (forgets : Type 0) → (stays ≡ false → forgets) → ExtendsUnless forgets table table'
  still_extends forgets why =
      elim stays as (λ b. stays ≡ b → ExtendsUnless forgets table table') [ true ↦ λ e. inl (subst (Extends table) (sym (kept e)) (extends_itself table)) | false ↦ λ e. inr (why e, gone e) ] refl

module _ (items : List AExpr) (table : TypeTable) (n : ℕ) (before : AExpr) (got : slice_get items n ≡ Some before) (cast : is_cast_op (op_of (expression_layer before)) ≡ true) (k : IsKept table n) where
  abbrev Forgets : ℕ → Type 0
  Forgets m = (m ≡ n) ⊎ ((operator : Operator) × (operands : List ℕ) × (is_logical operator ≡ true) × HoldsExpression items m (BinaryOp operator) operands × IsReached items (n ∷ []) m)

  forgets_by : (m : ℕ) → Forgets m → (own : Inferred) → KeepsEntry table m own → own.operands ≢ [] → ForgetsAt items table n
  forgets_by m is own keeps listed =
      let was = cast_layer before cast in
      record { op = CastOp was.0 was.1; inputs = was.2 ∷ []; held = got_held items n before (CastOp was.0 was.1) (was.2 ∷ []) got was.3; cast = refl; node = m; is = is; own = own; keeps = keeps; listed = listed }

  -- at a cast of which it isn't kept that it takes its operand as it is
  pub forgets_cast : ¬ (KeepsAsTheyAre table n) → ForgetsAt items table n
  forgets_cast loose = ⊎_elim (λ strict. absurd (loose strict)) (λ l. forgets_by n (inl refl) l.0 l.1 l.2) (as_they_are_or_listed table n k)

  -- or that leads to an operator of which it isn't
  pub forgets_logical : (registry : Registry) (schema : Columns) → IsRight registry schema items table → (t : Expression) (m : ℕ) → LeadsToLogical registry schema items n t m → ¬ (KeepsAsTheyAre table n × KeepsAsTheyAre table m) → ForgetsAt items table n
  forgets_logical registry schema right t m l loose =
      let there = node_within items m (BinaryOp l.operator) l.denotes.0 l.denotes.1 in
      let reached : IsReached items (n ∷ []) m = ⊎_elim (λ past. absurd (omega (arith, past, there))) (λ r. r) (leads_near items n n t m (node (BinaryOp l.operator) l.operands) (root_near items n) l.leads) in
      ⊎_elim
      (λ strict. ⊎_elim
      (λ below. absurd (loose (strict, below)))
      (λ listed. forgets_by m (inr (l.operator, l.denotes.0, l.logical, l.denotes.1, reached)) listed.0 listed.1 listed.2)
      (as_they_are_or_listed table m (leads_kept registry schema items table right n t m (node (BinaryOp l.operator) l.operands) k l.leads)))
      (λ listed. forgets_by n (inl refl) listed.0 listed.1 listed.2)
      (as_they_are_or_listed table n k)
