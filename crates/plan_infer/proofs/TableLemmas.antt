-- What is kept by node: what is known of a node, and what stays as the table, the arena or one item changes.
use Rattle.std.proofs.Common.{Ok, ◌≡◌, ◌≢◌, ◌↔◌, ◌⊎◌, ℕ, zero, suc, ◌+◌, ◌<◌, ◌≤◌, ◌-◌, List, [], ◌∷◌, ◌++◌, length, map, take, get_or, set, true, false, cond, is_some, MatchOption, Option, Some, None, Result, Err, slice_get, refl, sym, ap, ◌∙◌, subst, arith, inl, inr, ⊎_elim, length-append}
use Rattle.std.specs.List.{AllByRecursion}
use Rattle.std.proofs.lemmas.Option.{slice_get_within, slice_get-get_or}
use Rattle.std.proofs.lemmas.Bool.{cases_lt}
use Rattle.std.proofs.Math.ListN.{length-set}
use Rattle.std.proofs.Math.Seq.{take-length}
use Rattle.plan_types.proofs.ListLemmas.{slice_get-append, slice_get-seam, slice_get-set_other, slice_get-set_same}
use Rattle.plan_types.specs.Types.{ty}
use Rattle.plan_types.specs.Errors.{IsRefusal}
use Rattle.plan_types.specs.declared.error.ErrorKind.{ErrorKind}
use Rattle.plan_types.specs.declared.error.PlanError.{PlanError}
use Rattle.plan_types.specs.Schemas.{Columns}
use Rattle.plan_types.specs.declared.dtype.DataType.{DataType}
use Rattle.plan_dsl.specs.Registry.{Registry}
use Rattle.plan_dsl.specs.Names.{Label, first_label, label_of, op_label}
use Rattle.plan_dsl.specs.Trees.{node, more, Trees, no_more, fold_all}
use Rattle.plan_dsl.specs.Ops.{Op, Expression}
use Rattle.plan_dsl.specs.Typing.{rule, own_typed, then_typed, typed_before, typing, typing_all, typing_rule, Typed, types_of, Ruling}
use Rattle.plan_dsl.proofs.TypingLemmas.{ok_same}
use Rattle.plan_arena.specs.declared.arena.Node.{Node}
use Rattle.plan_arena.specs.declared.aexpr.AExpr.{AExpr}
use Rattle.plan_arena.specs.Denotation.{Denotes, DenotesTree, DenoteAll}
use Rattle.plan_arena.specs.Layers.{op_of, inputs_of}
use Rattle.plan_arena.specs.Items.{HoldsExpression, Grows, expression_layer, numbers}
use Rattle.plan_arena.proofs.DenotationLemmas.{some_same, denotes_one, kept, same_or_other}
use Rattle.plan_arena.proofs.LabelLemmas.{labels_over}
use Rattle.plan_arena.proofs.ItemLemmas.{layer_op, layer_inputs, held_top, expression_laws, any_node, from_zero, grown_held, expression_got, layer_parts}
use Rattle.plan_arena.proofs.NumberLemmas.{all_joined, all_weaker, taken_more}
use Rattle.plan_infer.specs.declared.type_table.Inferred.{Inferred}
use Rattle.plan_infer.specs.declared.type_table.TypeTable.{TypeTable}
use Rattle.plan_infer.specs.Typed.{DenotesTyped}
use Rattle.plan_infer.specs.KeptTypes.{AllKept, AreOperands, Extends, GivesName, IsKept, IsNamedBy, IsRight, IsRuled, IsTypedNode, Keeps, KeepsEntry, by_first, by_itself, node_depth, some_count, typed_by, typed_of, typings_at}
use Rattle.plan_infer.proofs.TypingLemmas.{AllHaveType, AllRefused, AllTyped, refused_so}

-- a node holds one op over one list of inputs
pub held_op : (items : List AExpr) (n : ℕ) (a b : Op) (ms ns : List ℕ) → HoldsExpression items n a ms → HoldsExpression items n b ns → a ≡ b
held_op items n a b ms ns h k = layer_op a b ms ns (some_same (slice_get (map expression_layer items) n) _ _ h k)

pub held_inputs : (items : List AExpr) (n : ℕ) (a b : Op) (ms ns : List ℕ) → HoldsExpression items n a ms → HoldsExpression items n b ns → ms ≡ ns
held_inputs items n a b ms ns h k = layer_inputs a b ms ns (some_same (slice_get (map expression_layer items) n) _ _ h k)

-- a table keeps one type for a node
pub keeps_one : (table : TypeTable) (n : ℕ) (a b : Inferred) → KeepsEntry table n a → KeepsEntry table n b → a ≡ b
keeps_one table n a b k l = let e = some_same (slice_get table.entries.items (n - table.first)) (Some a) (Some b) k.1 l.1 in cc

-- a list with an empty place behind it has no other items
item_before : {A : Type 0} (xs : List (Option A)) (i : ℕ) (a : A) → slice_get (xs ++ None ∷ []) i ≡ Some (Some a) → slice_get xs i ≡ Some (Some a)
item_before xs i a h =
    let within = slice_get_within (xs ++ None ∷ []) i (Some a) h in
    ⊎_elim
    (λ lt.
    let got = slice_get-get_or xs i None lt in
    got ∙ ap Some (some_same (slice_get (xs ++ None ∷ []) i) (get_or xs i None) (Some a) (slice_get-append xs (None ∷ []) i (get_or xs i None) got) h))
    (λ le.
    let e : length xs ≡ i = omega (arith, length-append xs (None ∷ [])) in
    let last = subst (λ j. slice_get (xs ++ None ∷ []) j ≡ Some None) e (slice_get-seam xs None []) in
    let none : None ≡ Some a = some_same (slice_get (xs ++ None ∷ []) i) None (Some a) last h in
    cc)
    (cases_lt i (length xs))

-- an item that was there before a write elsewhere
item_unwritten : {A : Type 0} (xs : List A) (at : ℕ) (y : A) (i : ℕ) (x : A) → i ≢ at → slice_get (set xs at y) i ≡ Some x → slice_get xs i ≡ Some x
item_unwritten xs at y i x other h =
    let within = slice_get_within (set xs at y) i x h in
    let here : i < length xs = omega (arith, length-set xs at y) in
    let got = slice_get-get_or xs i x here in
    got ∙ ap Some (some_same (slice_get (set xs at y) i) (get_or xs i x) x (slice_get-set_other xs at y i (get_or xs i x) other got) h)

-- one more empty place
pub place_added : (old new : TypeTable) → new.first ≡ old.first → new.entries.items ≡ old.entries.items ++ None ∷ [] → (n : ℕ) (own : Inferred) → KeepsEntry old n own ↔ KeepsEntry new n own
place_added old new first grown n own =
    let place = ap (λ m. n - m) first in (
      λ k. (omega (arith, first), ap (λ l. slice_get l (n - new.first)) grown ∙ ap (slice_get (old.entries.items ++ None ∷ [])) place ∙ slice_get-append old.entries.items (None ∷ []) (n - old.first) _ k.1),
      λ k. (omega (arith, first), item_before old.entries.items (n - old.first) own (ap (slice_get (old.entries.items ++ None ∷ [])) (sym place) ∙ ap (λ l. slice_get l (n - new.first)) (sym grown) ∙ k.1)),
    )

-- an entry that was added behind the others
item_earlier : {A : Type 0} (xs : List A) (x y : A) (i : ℕ) → i < length xs → slice_get (xs ++ x ∷ []) i ≡ Some y → slice_get xs i ≡ Some y
item_earlier xs x y i lt h =
    let got = slice_get-get_or xs i y lt in
    got ∙ sym (slice_get-append xs (x ∷ []) i (get_or xs i y) got) ∙ h

module _ (old new : TypeTable) (at : ℕ) (own : Inferred) (place : at ≡ old.first + length old.entries.items) (first : new.first ≡ old.first) (grown : new.entries.items ≡ old.entries.items ++ Some own ∷ []) where
  pub next_kept : KeepsEntry new at own
  next_kept =
      let index : at - new.first ≡ length old.entries.items = omega (arith, place, first) in
      (omega (arith, place, first), ap (λ l. slice_get l (at - new.first)) grown ∙ ap (slice_get (old.entries.items ++ Some own ∷ [])) index ∙ slice_get-seam old.entries.items (Some own) [])

  pub next_stays : (n : ℕ) (other : Inferred) → KeepsEntry old n other → KeepsEntry new n other
  next_stays n other k =
      (omega (arith, first, k.0), ap (λ l. slice_get l (n - new.first)) grown ∙ ap (λ m. slice_get (old.entries.items ++ Some own ∷ []) (n - m)) first ∙ slice_get-append old.entries.items (Some own ∷ []) (n - old.first) (Some other) k.1)

  pub next_only : (n : ℕ) (other : Inferred) → KeepsEntry new n other → KeepsEntry old n other ⊎ ((n ≡ at) × (other ≡ own))
  next_only n other k = ⊎_elim
      (λ e. inr (e, keeps_one new at other own (subst (λ m. KeepsEntry new m other) e k) next_kept))
      (λ differs.
      let from : old.first ≤ n = omega (arith, first, k.0) in
      let got = ap (λ m. slice_get (old.entries.items ++ Some own ∷ []) (n - m)) (sym first) ∙ ap (λ l. slice_get l (n - new.first)) (sym grown) ∙ k.1 in
      let within = slice_get_within (old.entries.items ++ Some own ∷ []) (n - old.first) (Some other) got in
      let apart : (n ≡ at) → ⊥ = differs in
      let lt : n - old.first < length old.entries.items = omega (arith, within, length-append old.entries.items (Some own ∷ []), apart, place, from) in
      inl (from, item_earlier old.entries.items (Some own) (Some other) (n - old.first) lt got))
      (same_or_other n at)

-- a table that has its entries at the places of another keeps what that keeps
pub places_same : (old new : TypeTable) → new.first ≡ old.first → new.entries.items ≡ old.entries.items → (n : ℕ) (own : Inferred) → KeepsEntry old n own ↔ KeepsEntry new n own
places_same old new first same n own =
    let place = ap (λ m. n - m) first in
    let one = ap (λ l. slice_get l (n - new.first)) same ∙ ap (slice_get old.entries.items) place in
    (λ k. (omega (arith, first), one ∙ k.1), λ k. (omega (arith, first), sym one ∙ k.1))

pub keeps_then : (a b c : TypeTable) → ((n : ℕ) (own : Inferred) → KeepsEntry a n own ↔ KeepsEntry b n own) → ((n : ℕ) (own : Inferred) → KeepsEntry b n own ↔ KeepsEntry c n own) → (n : ℕ) (own : Inferred) → KeepsEntry a n own ↔ KeepsEntry c n own
keeps_then a b c p q n own = (λ k. (q n own).0 ((p n own).0 k), λ k. (p n own).1 ((q n own).1 k))

-- a type that was written at its place
module _ (old new : TypeTable) (at index : ℕ) (own : Inferred) (le : old.first ≤ at) (place : index ≡ at - old.first) (first : new.first ≡ old.first) (written : new.entries.items ≡ set old.entries.items index (Some own)) where
  pub type_written : index < length old.entries.items → KeepsEntry new at own
  type_written within =
      let here = ap (λ m. at - m) first ∙ sym place in
      (omega (arith, first), ap (λ l. slice_get l (at - new.first)) written ∙ ap (slice_get (set old.entries.items index (Some own))) here ∙ slice_get-set_same old.entries.items index (Some own) within)

  pub others_unwritten : (n : ℕ) (other : Inferred) → n ≢ at → KeepsEntry old n other ↔ KeepsEntry new n other
  others_unwritten n other differs =
      let same = ap (λ m. n - m) first in
      let places = set old.entries.items index (Some own) in (
        λ k.
            let elsewhere : (n - old.first) ≢ index = λ e. differs (omega (arith, e, k.0)) in
            (omega (arith, first), ap (λ l. slice_get l (n - new.first)) written ∙ ap (slice_get places) same ∙ slice_get-set_other old.entries.items index (Some own) (n - old.first) (Some other) elsewhere k.1),
        λ k.
            let from : old.first ≤ n = omega (arith, first) in
            let elsewhere : (n - old.first) ≢ index = λ e. differs (omega (arith, e, from)) in
            (from, item_unwritten old.entries.items index (Some own) (n - old.first) (Some other) elsewhere (ap (slice_get places) (sym same) ∙ ap (λ l. slice_get l (n - new.first)) (sym written) ∙ k.1)),
      )

-- ---- how many are kept

pub none_behind : {A : Type 0} (xs : List (Option A)) → some_count (xs ++ None ∷ []) ≡ some_count xs
none_behind [] = refl
none_behind (None ∷ xs) = none_behind xs
none_behind (Some x ∷ xs) = ap suc (none_behind xs)

pub some_behind : {A : Type 0} (xs : List (Option A)) (x : A) → some_count (xs ++ Some x ∷ []) ≡ some_count xs + 1
some_behind [] x = refl
some_behind (None ∷ xs) x = some_behind xs x
some_behind (Some y ∷ xs) x = let e = some_behind xs x in omega (arith, e)

some_none : {A : Type 0} (x : A) → Some x ≡ None → ⊥
some_none x e = cc

pub none_in_front : {A : Type 0} (front xs : List (Option A)) → AllByRecursion (λ o. o ≡ None) front → some_count (front ++ xs) ≡ some_count xs
none_in_front [] xs none = refl
none_in_front (None ∷ front) xs none = none_in_front front xs none.1
none_in_front (Some x ∷ front) xs none = absurd (some_none x none.0)

pub some_written : {A : Type 0} (xs : List (Option A)) (i : ℕ) (x : A) → slice_get xs i ≡ Some None → some_count (set xs i (Some x)) ≡ some_count xs + 1
some_written [] i x h = cc
some_written (None ∷ xs) zero x h = omega arith
some_written (Some y ∷ xs) zero x h = cc
some_written (None ∷ xs) (suc i) x h = some_written xs i x h
some_written (Some y ∷ xs) (suc i) x h = let e = some_written xs i x h in omega (arith, e)

-- what one place counts
abbrev pub one_of : {A : Type 0} → Option A → ℕ
one_of None = 0
one_of (Some x) = 1

pub one_least : {A : Type 0} (o : Option A) → one_of o ≤ 1
one_least None = omega arith
one_least (Some x) = omega arith

pub one_where : {A : Type 0} (o : Option A) → one_of o ≡ cond (is_some o) 1 0
one_where None = refl
one_where (Some x) = refl

pub counted_more : {A : Type 0} (xs : List (Option A)) (i k : ℕ) (o : Option A) → k ≡ suc i → i < length xs → o ≡ get_or xs i o → some_count (take k xs) ≡ some_count (take i xs) + one_of o
counted_more [] i k o e lt got = absurd (omega (arith, lt))
counted_more (None ∷ xs) zero k o e lt got = let one = ap one_of got in ap (λ j. some_count (take j (None ∷ xs))) e ∙ omega (arith, one)
counted_more (Some x ∷ xs) zero k o e lt got = let one = ap one_of got in ap (λ j. some_count (take j (Some x ∷ xs))) e ∙ omega (arith, one)
counted_more (None ∷ xs) (suc i) k o e lt got = ap (λ j. some_count (take j (None ∷ xs))) e ∙ counted_more xs i (suc i) o refl (omega (arith, lt)) got
counted_more (Some x ∷ xs) (suc i) k o e lt got =
    let rest = counted_more xs i (suc i) o refl (omega (arith, lt)) got in
    ap (λ j. some_count (take j (Some x ∷ xs))) e ∙ omega (arith, rest)

-- a place of a node of which nothing is kept
pub empty_there : (table : TypeTable) (at index : ℕ) → ¬ (IsKept table at) → table.first ≤ at → index ≡ at - table.first → index < length table.entries.items → slice_get table.entries.items index ≡ Some None
empty_there table at index none le place within =
    let got = slice_get-get_or table.entries.items index None within in
    elim (get_or table.entries.items index None) as (λ o. slice_get table.entries.items index ≡ Some o → slice_get table.entries.items index ≡ Some None) [
      | None ↦ λ h. h
      | Some own ↦ λ h. absurd (none (record { own = own; keeps = (le, ap (slice_get table.entries.items) (sym place) ∙ h) }))
    ] got

-- ---- what is kept

pub extends_itself : (table : TypeTable) → Extends table table
extends_itself table = record { entries = λ n own k. k }

pub extends_then : (a b c : TypeTable) → Extends a b → Extends b c → Extends a c
extends_then a b c x y = record { entries = λ n own k. y.entries n own (x.entries n own k) }

pub still_kept : (old new : TypeTable) → Extends old new → (n : ℕ) → IsKept old n → IsKept new n
still_kept old new x n k = record { own = k.own; keeps = x.entries n k.own k.keeps }

pub still_keeps : (old new : TypeTable) → Extends old new → (n : ℕ) (dtype : DataType) → Keeps old n dtype → Keeps new n dtype
still_keeps old new x n dtype k = record { own = k.own; keeps = x.entries n k.own k.keeps; is = k.is }

pub kept_of : (table : TypeTable) (n : ℕ) (dtype : DataType) → Keeps table n dtype → IsKept table n
kept_of table n dtype k = record { own = k.own; keeps = k.keeps }

pub type_of : (table : TypeTable) (n : ℕ) (own : Inferred) → KeepsEntry table n own → Keeps table n own.dtype
type_of table n own k = record { own = own; keeps = k; is = refl }

pub type_one : (table : TypeTable) (n : ℕ) (a b : DataType) → Keeps table n a → Keeps table n b → a ≡ b
type_one table n a b k l = sym k.is ∙ ap (λ (x : Inferred). x.dtype) (keeps_one table n k.own l.own k.keeps l.keeps) ∙ l.is

-- an entry that was found is kept
pub found_kept : {A : Type 0} (table : TypeTable) (n : ℕ) (value : A → Inferred) (found : Option A) → MatchOption found (¬ (IsKept table n)) (λ x. KeepsEntry table n (value x)) → is_some found ≡ true → IsKept table n
found_kept table n value None m e = cc
found_kept table n value (Some x) m e = record { own = value x; keeps = m }

pub none_found : {A : Type 0} (table : TypeTable) (n : ℕ) (value : A → Inferred) (found : Option A) → MatchOption found (¬ (IsKept table n)) (λ x. KeepsEntry table n (value x)) → is_some found ≡ false → ¬ (IsKept table n)
none_found table n value None m e = m
none_found table n value (Some x) m e = cc

-- an entry that was written where there was none
module _ (old mid new : TypeTable) (at : ℕ) (own : Inferred) (none : ¬ (IsKept old at)) (same : (n : ℕ) (other : Inferred) → KeepsEntry old n other ↔ KeepsEntry mid n other) (others : (n : ℕ) (other : Inferred) → n ≢ at → KeepsEntry mid n other ↔ KeepsEntry new n other) where
  pub written_stays : (n : ℕ) (other : Inferred) → KeepsEntry old n other → KeepsEntry new n other
  written_stays n other k = ⊎_elim
      (λ e. absurd (none (record { own = other; keeps = subst (λ m. KeepsEntry old m other) e k })))
      (λ differs. (others n other differs).0 ((same n other).0 k))
      (same_or_other n at)

  pub written_only : KeepsEntry new at own → (n : ℕ) (other : Inferred) → KeepsEntry new n other → KeepsEntry old n other ⊎ ((n ≡ at) × (other ≡ own))
  written_only here n other k = ⊎_elim
      (λ e. inr (e, keeps_one new at other own (subst (λ m. KeepsEntry new m other) e k) here))
      (λ differs. inl ((same n other).1 ((others n other differs).1 k)))
      (same_or_other n at)

-- an item holds its own layer
pub layer_held : (items : List AExpr) (n : ℕ) (item : AExpr) → slice_get items n ≡ Some item → HoldsExpression items n (op_of (expression_layer item)) (inputs_of (expression_layer item))
layer_held items n item got = expression_got items n item got ∙ ap Some (layer_parts (expression_layer item))

-- what is held at the top of a tree
pub top_held : (items : List AExpr) (n : ℕ) (t : Expression) → Denotes (HoldsExpression items) n t → (op : Op) × (inputs : List ℕ) × HoldsExpression items n op inputs
top_held items n (node op ts) d = (op, d.0, d.1)

-- what is kept of nodes is one list of typings
pub kept_one : (table : TypeTable) (ns : List ℕ) (typed others : List Typed) → AllKept table ns typed → AllKept table ns others → typed ≡ others
kept_one table [] [] [] k l = refl
kept_one table (n ∷ ns) (x ∷ xs) (y ∷ ys) k l =
    let one = sym k.0.is ∙ ap typed_of (keeps_one table n k.0.own l.0.own k.0.keeps l.0.keeps) ∙ l.0.is in
    ap (λ t. t ∷ xs) one ∙ ap (λ ts. y ∷ ts) (kept_one table ns xs ys k.1 l.1)
kept_one table [] (x ∷ xs) others k l = absurd k
kept_one table [] [] (y ∷ ys) k l = absurd l
kept_one table (n ∷ ns) [] others k l = absurd k
kept_one table (n ∷ ns) (x ∷ xs) [] k l = absurd l

-- what is kept in a table that keeps more
pub all_still : (old new : TypeTable) → Extends old new → (ns : List ℕ) (typed : List Typed) → AllKept old ns typed → AllKept new ns typed
all_still old new x [] [] k = tt
all_still old new x (n ∷ ns) (t ∷ ts) k = (record { own = k.0.own; keeps = x.entries n k.0.own k.0.keeps; is = k.0.is }, all_still old new x ns ts k.1)
all_still old new x [] (t ∷ ts) k = absurd k
all_still old new x (n ∷ ns) [] k = absurd k

-- the typings that are kept for nodes
pub typings_kept : (table : TypeTable) (ns : List ℕ) → AllByRecursion (IsKept table) ns → (typed : List Typed) × AllKept table ns typed
typings_kept table [] all = ([], tt)
typings_kept table (n ∷ ns) all =
    let rest = typings_kept table ns all.1 in
    (typed_of all.0.own ∷ rest.0, (record { own = all.0.own; keeps = all.0.keeps; is = refl }, rest.1))

-- the typings at nodes are those that are kept of them
typings_there : (table : TypeTable) (ns : List ℕ) (typed : List Typed) → AllKept table ns typed → typings_at table ns ≡ typed
typings_there table [] [] k = refl
typings_there table (n ∷ ns) (t ∷ ts) k =
    ap (λ o. typed_by o ∷ typings_at table ns) k.0.keeps.1 ∙ ap (λ x. x ∷ typings_at table ns) k.0.is ∙ ap (λ l. t ∷ l) (typings_there table ns ts k.1)
typings_there table [] (t ∷ ts) k = absurd k
typings_there table (n ∷ ns) [] k = absurd k

pub over_kept : (P : List Typed → Type 0) (table : TypeTable) (ns ms : List ℕ) → ns ≡ ms → P (typings_at table ns) → (typed : List Typed) → AllKept table ms typed → P typed
over_kept P table ns ms same p typed k = subst P (ap (typings_at table) same ∙ typings_there table ms typed k) p

-- what was kept before is the same now
pub typings_before : (old new : TypeTable) → Extends old new → (ns : List ℕ) (typed : List Typed) → AllByRecursion (IsKept old) ns → AllKept new ns typed → AllKept old ns typed
typings_before old new x ns typed all k =
    let before = typings_kept old ns all in
    subst (AllKept old ns) (kept_one new ns before.0 typed (all_still old new x ns before.0 before.1) k) before.1

module _ (registry : Registry) (schema : Columns) (items : List AExpr) (table : TypeTable) (right : IsRight registry schema items table) where
  -- a node of which something is kept denotes a typed expression
  pub known_typed : (n : ℕ) → IsKept table n → DenotesTyped registry schema 0 items n
  known_typed n k =
      let e = right.each n k.own k.keeps in
      record { tree = e.tree; denotes = from_zero items n e.tree e.denotes; typed = typed_of k.own; is = e.typed }

  -- and there is something for its inputs
  pub known_inputs : (n : ℕ) (op : Op) (inputs : List ℕ) → IsKept table n → HoldsExpression items n op inputs → AllByRecursion (IsKept table) inputs
  known_inputs n op inputs k held = (right.each n k.own k.keeps).inputs op inputs held

  -- each expression at the node has that typing
  pub kept_typing : (n : ℕ) (own : Inferred) → KeepsEntry table n own → AllTyped items registry schema n (typed_of own)
  kept_typing n own k t d =
      let e = right.each n own k in
      subst (λ u. typing registry schema u ≡ Ok (typed_of own)) (denotes_one _ (HoldsExpression items) (expression_laws items) n e.tree t e.denotes d) e.typed

  -- and that type
  pub kept_type : (n : ℕ) (dtype : DataType) → Keeps table n dtype → AllHaveType items registry schema n (ty dtype)
  kept_type n dtype k t d =
      record { many = k.own.many; is = kept_typing n k.own k.keeps t d ∙ ap (λ (x : DataType). Ok (record { type = ty x; many = k.own.many })) k.is }

  -- the typings of a node's children are those that are kept
  pub children_kept : (ns : List ℕ) (ts : Trees Op) (typed : List Typed) → DenoteAll (HoldsExpression items) ns ts → AllKept table ns typed → typing_all registry schema ts ≡ Ok typed
  children_kept [] no_more [] d k = refl
  children_kept (n ∷ ns) (more t ts) (x ∷ xs) d k =
      let one = kept_typing n k.0.own k.0.keeps t d.0 ∙ ap Ok k.0.is in
      ap (λ r. typed_before r (typing_all registry schema ts)) one ∙ ap (typed_before (Ok x)) (children_kept ns ts xs d.1 k.1)
  children_kept [] no_more (x ∷ xs) d k = absurd k
  children_kept (n ∷ ns) (more t ts) [] d k = absurd k
  children_kept [] (more t ts) typed d k = absurd d
  children_kept (n ∷ ns) no_more typed d k = absurd d

  -- so a node over them is typed by its rule
  pub node_typing : (n : ℕ) (op : Op) (ns : List ℕ) (typed : List Typed) → HoldsExpression items n op ns → AllKept table ns typed → (t : Expression) → Denotes (HoldsExpression items) n t → typing registry schema t ≡ typing_rule registry schema op typed
  node_typing n op ns typed held k t d =
      let top = held_top items n op ns held t d in
      ap (typing registry schema) top.1 ∙ ap (λ r. then_typed r (typing_rule registry schema op)) (children_kept ns top.0 typed top.2 k)

  -- the first input gives its name
  first_names : (op : Op) (m : ℕ) (rest : List ℕ) (ts : Trees Op) (first : Inferred) (name : ℕ) → DenoteAll (HoldsExpression items) (m ∷ rest) ts → KeepsEntry table m first → name ≡ first.name.0 → ((names : List Label) → op_label op names ≡ first_label names) → (t : Expression) → t ≡ node op ts → GivesName items name t
  first_names op m rest (more x xs) first name d keeps at same t is =
      let e = right.each m first keeps in
      let one = denotes_one _ (HoldsExpression items) (expression_laws items) m e.tree x e.denotes d.0 in
      let own : label_of t ≡ label_of e.tree = ap label_of is ∙ same (fold_all op_label (more x xs)) ∙ ap label_of (sym one) in
      record { op = e.name.op; inputs = e.name.inputs; held = subst (λ k. HoldsExpression items k e.name.op e.name.inputs) (sym at) e.name.held; gives = λ names over. e.name.gives names over ∙ sym own }
  first_names op m rest no_more first name d keeps at same t is = absurd d

  -- the name of an expression is given by the node that names it
  pub named_there : (n : ℕ) (op : Op) (ns : List ℕ) (name : ℕ) → HoldsExpression items n op ns → IsNamedBy table op n ns name → (t : Expression) → Denotes (HoldsExpression items) n t → GivesName items name t
  named_there n op ns name held (by_itself at same) t d =
      let top = held_top items n op ns held t d in
      let own : label_of t ≡ op_label op [] = ap label_of top.1 ∙ same (fold_all op_label top.0) (labels_over items ns top.0 top.2) in
      record { op = op; inputs = ns; held = subst (λ m. HoldsExpression items m op ns) (sym at) held; gives = λ names over. same names over ∙ sym own }
  named_there n op ns name held (by_first m rest first inputs keeps at same) t d =
      let top = held_top items n op (m ∷ rest) (subst (HoldsExpression items n op) inputs held) t d in
      first_names op m rest top.0 first name top.2 keeps at same t top.1

  -- the operand types of a node by its item
  pub listed_operands : (n : ℕ) (item : AExpr) (own : Inferred) → slice_get items n ≡ Some item → KeepsEntry table n own → (typed : List Typed) (ruling : Ruling) → AllKept table (inputs_of (expression_layer item)) typed → rule registry schema (op_of (expression_layer item)) typed ≡ Ok ruling → AreOperands (map ty own.operands) (types_of typed) ruling.operands
  listed_operands n item own got k typed ruling all rules =
      (right.each n own k).operands (op_of (expression_layer item)) (inputs_of (expression_layer item)) typed ruling (layer_held items n item got) all rules

-- the typings of a node's inputs, and what its rule says of them
pub record RuledInputs (registry : Registry) (schema : Columns) (table : TypeTable) (op : Op) (inputs : List ℕ) (own : Typed) : Type 0 where
  pub typed : List Typed
  pub kept : AllKept table inputs typed
  pub ruling : Ruling
  pub rules : rule registry schema op typed ≡ Ok ruling
  pub is : ruling.own ≡ own

ruled_so : (found : Result Ruling ErrorKind) (typed : Typed) → own_typed found ≡ Ok typed → (ruling : Ruling) × (found ≡ Ok ruling) × (ruling.own ≡ typed)
ruled_so (Err kind) typed h = cc
ruled_so (Ok ruling) typed h = (ruling, refl, ok_same (own_typed (Ok ruling)) ruling.own typed refl h)

pub ruled_inputs : (registry : Registry) (schema : Columns) (items : List AExpr) (table : TypeTable) (right : IsRight registry schema items table) (n : ℕ) (item : AExpr) (own : Inferred) → slice_get items n ≡ Some item → KeepsEntry table n own → RuledInputs registry schema table (op_of (expression_layer item)) (inputs_of (expression_layer item)) (typed_of own)
ruled_inputs registry schema items table right n item own got k =
    let op = op_of (expression_layer item) in
    let ns = inputs_of (expression_layer item) in
    let e = right.each n own k in
    let held = layer_held items n item got in
    let typings = typings_kept table ns (e.inputs op ns held) in
    let is = sym (node_typing registry schema items table right n op ns typings.0 held typings.1 e.tree e.denotes) ∙ e.typed in
    let found = ruled_so (rule registry schema op typings.0) (typed_of own) is in
    record { typed = typings.0; kept = typings.1; ruling = found.0; rules = found.1; is = found.2 }

-- ---- what stays right

-- a node stays typed where its tree becomes one of the same typing and name, its item stays, and what is kept is kept
pub node_stays : (registry : Registry) (schema : Columns) (items items' : List AExpr) (table table' : TypeTable) (n : ℕ) (own : Inferred) (e : IsTypedNode registry schema items table n own) (w : Expression) → Denotes (HoldsExpression items') n w → typing registry schema w ≡ typing registry schema e.tree → GivesName items' own.name.0 w → ((op : Op) (inputs : List ℕ) → HoldsExpression items n op inputs → HoldsExpression items' n op inputs) → Extends table table' → IsTypedNode registry schema items' table' n own
node_stays registry schema items items' table table' n own e w d same name stays extends =
    let top = top_held items n e.tree e.denotes in
    let there = stays top.0 top.1 top.2 in
    let known = e.inputs top.0 top.1 top.2 in
    record {
      tree = w;
      denotes = d;
      typed = same ∙ e.typed;
      name = name;
      inputs = λ op inputs h.
          subst (AllByRecursion (IsKept table')) (held_inputs items' n top.0 op top.1 inputs there h) (all_weaker (IsKept table) (IsKept table') (still_kept table table' extends) top.1 known);
      operands = λ op inputs typed ruling h kept rules.
          let is = held_op items' n op top.0 inputs top.1 h there in
          let ins = held_inputs items' n op top.0 inputs top.1 h there in
          let before = typings_before table table' extends top.1 typed known (subst (λ ns. AllKept table' ns typed) ins kept) in
          e.operands top.0 top.1 typed ruling top.2 before (ap (λ o. rule registry schema o typed) (sym is) ∙ rules);
    }

-- a name stays where items do
pub name_stays : (items items' : List AExpr) (n : ℕ) (t w : Expression) → GivesName items n t → label_of w ≡ label_of t → ((n : ℕ) (op : Op) (inputs : List ℕ) → HoldsExpression items n op inputs → HoldsExpression items' n op inputs) → GivesName items' n w
name_stays items items' n t w name same stays = record { op = name.op; inputs = name.inputs; held = stays n name.op name.inputs name.held; gives = λ names over. name.gives names over ∙ sym same }

-- a table that keeps nothing is right
pub right_start : (registry : Registry) (schema : Columns) (items : List AExpr) (table : TypeTable) → ((n : ℕ) → ¬ (IsKept table n)) → IsRight registry schema items table
right_start registry schema items table empty = record { each = λ n own k. absurd (empty n (record { own = own; keeps = k })) }

-- what is kept stays right as the arena grows
pub right_grown : (registry : Registry) (schema : Columns) (old new : List AExpr) (table : TypeTable) → Grows old new → IsRight registry schema old table → IsRight registry schema new table
right_grown registry schema old new table g right = record {
  each = λ n own k.
      let e = right.each n own k in
      let stays = grown_held old new g in
      node_stays registry schema old new table table n own e e.tree (kept (HoldsExpression old) (HoldsExpression new) stays n e.tree e.denotes) refl (name_stays old new own.name.0 e.tree e.tree e.name refl stays) (stays n) (extends_itself table);
}

-- and where one more entry may be kept, which is right
pub right_more : (registry : Registry) (schema : Columns) (items : List AExpr) (old new : TypeTable) (at : ℕ) (own : Inferred) → Extends old new → ((n : ℕ) (other : Inferred) → KeepsEntry new n other → KeepsEntry old n other ⊎ ((n ≡ at) × (other ≡ own))) → IsTypedNode registry schema items new at own → IsRight registry schema items old → IsRight registry schema items new
right_more registry schema items old new at own extends only here right = record {
  each = λ n other k. ⊎_elim
      (λ before.
      let e = right.each n other before in
      node_stays registry schema items items old new n other e e.tree e.denotes refl e.name (λ op inputs h. h) extends)
      (λ is. subst (λ m. IsTypedNode registry schema items new m other) (sym is.0) (subst (IsTypedNode registry schema items new at) (sym is.1) here))
      (only n other k);
}

-- the node whose rule was asked
pub ruled_node : (registry : Registry) (schema : Columns) (items : List AExpr) (old new : TypeTable) (n : ℕ) (op : Op) (ns : List ℕ) (own : Inferred) → HoldsExpression items n op ns → DenotesTree (HoldsExpression items) n → AllByRecursion (IsKept old) ns → Extends old new → ((typed : List Typed) → AllKept old ns typed → IsRuled registry schema op typed own) → IsNamedBy old op n ns own.name.0 → IsRight registry schema items old → IsTypedNode registry schema items new n own
ruled_node registry schema items old new n op ns own held d known extends ruled named right =
    let typings = typings_kept old ns known in
    let r = ruled typings.0 typings.1 in
    record {
      tree = d.tree;
      denotes = d.denotes;
      typed = node_typing registry schema items old right n op ns typings.0 held typings.1 d.tree d.denotes ∙ ap own_typed r.rules ∙ ap Ok r.is;
      name = named_there registry schema items old right n op ns own.name.0 held named d.tree d.denotes;
      inputs = λ op' inputs h. subst (AllByRecursion (IsKept new)) (held_inputs items n op op' ns inputs held h) (all_weaker (IsKept old) (IsKept new) (still_kept old new extends) ns known);
      operands = λ op' inputs typed ruling h kept rules.
          let is = held_op items n op' op inputs ns h held in
          let ins = held_inputs items n op' op inputs ns h held in
          let before = typings_before old new extends ns typed known (subst (λ ns. AllKept new ns typed) ins kept) in
          let own' = ruled typed before in
          let one = ok_same (rule registry schema op typed) own'.ruling ruling own'.rules (ap (λ o. rule registry schema o typed) (sym is) ∙ rules) in
          subst (λ (x : Ruling). AreOperands (map ty own.operands) (types_of typed) x.operands) one own'.operands;
    }

-- so what is kept stays right as it is kept
pub right_kept : (registry : Registry) (schema : Columns) (items : List AExpr) (old new : TypeTable) (n : ℕ) (op : Op) (ns : List ℕ) (own : Inferred) → HoldsExpression items n op ns → DenotesTree (HoldsExpression items) n → AllByRecursion (IsKept old) ns → ((typed : List Typed) → AllKept old ns typed → IsRuled registry schema op typed own) → IsNamedBy old op n ns own.name.0 → ((n : ℕ) (other : Inferred) → KeepsEntry old n other → KeepsEntry new n other) → ((m : ℕ) (other : Inferred) → KeepsEntry new m other → KeepsEntry old m other ⊎ ((m ≡ n) × (other ≡ own))) → IsRight registry schema items old → IsRight registry schema items new
right_kept registry schema items old new n op ns own held d known ruled named stays only right =
    let extends : Extends old new = record { entries = stays } in
    right_more registry schema items old new n own extends only (ruled_node registry schema items old new n op ns own held d known extends ruled named right) right

-- ---- walks

-- a typed expression is a tree
pub plain_tree : {registry : Registry} {schema : Columns} {items : List AExpr} {n : ℕ} → DenotesTyped registry schema 0 items n → DenotesTree (HoldsExpression items) n
plain_tree {items = items} {n = n} d = record { tree = d.tree; denotes = any_node 0 items n d.tree d.denotes }

-- what all numbers of a list have, at a place
pub all_at : (P : ℕ → Type 0) (ns : List Node) (i : ℕ) (n : Node) → AllByRecursion P (numbers ns) → i < length ns → P (get_or ns i n).0
all_at P [] i n all lt = absurd (omega (arith, lt))
all_at P (m ∷ ns) zero n all lt = all.0
all_at P (m ∷ ns) (suc i) n all lt = all_at P ns i n all.1 (omega (arith, lt))

-- and one more of them
pub all_taken : (P : ℕ → Type 0) (ns : List Node) (i k : ℕ) (n : Node) → k ≡ suc i → AllByRecursion P (numbers (take i ns)) → i < length ns → P (get_or ns i n).0 → AllByRecursion P (numbers (take k ns))
all_taken P [] i k n e all lt p = absurd (omega (arith, lt))
all_taken P (m ∷ ns) zero k n e all lt p = subst (λ k. AllByRecursion P (numbers (take k (m ∷ ns)))) (sym e) (p, tt)
all_taken P (m ∷ ns) (suc i) k n e all lt p = subst (λ k. AllByRecursion P (numbers (take k (m ∷ ns)))) (sym e) (all.0, all_taken P ns i (suc i) n refl all.1 (omega (arith, lt)) p)

pub all_whole : (P : ℕ → Type 0) (ns : List Node) (i : ℕ) → i ≡ length ns → AllByRecursion P (numbers (take i ns)) → AllByRecursion P (numbers ns)
all_whole P ns i whole all = subst (λ (l : List Node). AllByRecursion P (numbers l)) (ap (λ k. take k ns) whole ∙ take-length ns) all

-- what all of the first numbers of a list have, and the next one, all of one more have
pub all_more : (P : ℕ → Type 0) (ns : List ℕ) (i n : ℕ) → slice_get ns i ≡ Some n → AllByRecursion P (take i ns) → P n → AllByRecursion P (take (i + 1) ns)
all_more P ns i n at all p =
    let next : i + 1 ≡ suc i = omega arith in
    subst (AllByRecursion P) (sym (ap (λ k. take k ns) next ∙ taken_more ns i n at)) (all_joined P (take i ns) (n ∷ []) all (p, tt))

pub all_ended : (P : ℕ → Type 0) (ns : List ℕ) (i : ℕ) → i ≡ length ns → AllByRecursion P (take i ns) → AllByRecursion P ns
all_ended P ns i whole all = subst (AllByRecursion P) (ap (λ k. take k ns) whole ∙ take-length ns) all

-- the first child that is refused refuses the node
module _ (registry : Registry) (schema : Columns) (items : List AExpr) (table : TypeTable) (right : IsRight registry schema items table) (error : PlanError) where
  pub child_refused : (ns : List Node) (i : ℕ) (n : Node) → AllByRecursion (IsKept table) (numbers (take i ns)) → i < length ns → AllRefused items registry schema (get_or ns i n).0 error → (ts : Trees Op) → DenoteAll (HoldsExpression items) (numbers ns) ts → IsRefusal (typing_all registry schema ts) error
  child_refused [] i n all lt refused ts d = absurd (omega (arith, lt))
  child_refused (m ∷ ns) i n all lt refused no_more d = absurd d
  child_refused (m ∷ ns) zero n all lt refused (more t ts) d =
      refused_so _ _ error (λ kind e. ap (λ r. typed_before r (typing_all registry schema ts)) e) (refused t d.0)
  child_refused (m ∷ ns) (suc i) n all lt refused (more t ts) d =
      let here = kept_typing registry schema items table right m.0 all.0.own all.0.keeps t d.0 in
      let rest = child_refused ns i n all.1 (omega (arith, lt)) refused ts d.1 in
      refused_so _ _ error (λ kind e. ap (λ r. typed_before r (typing_all registry schema ts)) here ∙ ap (typed_before (Ok (typed_of all.0.own))) e) rest

  -- a node whose input at a place, by its number, is refused is refused so
  place_refused : (ns : List ℕ) (i n : ℕ) → AllByRecursion (IsKept table) (take i ns) → slice_get ns i ≡ Some n → AllRefused items registry schema n error → (ts : Trees Op) → DenoteAll (HoldsExpression items) ns ts → IsRefusal (typing_all registry schema ts) error
  place_refused [] i n all at refused ts d = cc
  place_refused (m ∷ ns) i n all at refused no_more d = absurd d
  place_refused (m ∷ ns) zero n all at refused (more t ts) d =
      let same : n ≡ m = cc in
      refused_so _ _ error (λ kind e. ap (λ r. typed_before r (typing_all registry schema ts)) e) (refused t (subst (λ k. Denotes (HoldsExpression items) k t) (sym same) d.0))
  place_refused (m ∷ ns) (suc i) n all at refused (more t ts) d =
      let here = kept_typing registry schema items table right m all.0.own all.0.keeps t d.0 in
      let rest = place_refused ns i n all.1 at refused ts d.1 in
      refused_so _ _ error (λ kind e. ap (λ r. typed_before r (typing_all registry schema ts)) here ∙ ap (typed_before (Ok (typed_of all.0.own))) e) rest

  pub input_refused : (at : ℕ) (op : Op) (ns : List ℕ) (i n : ℕ) → HoldsExpression items at op ns → AllByRecursion (IsKept table) (take i ns) → slice_get ns i ≡ Some n → AllRefused items registry schema n error → AllRefused items registry schema at error
  input_refused at op ns i n held all there refused t d =
      let top = held_top items at op ns held t d in
      let below = place_refused ns i n all there refused top.0 top.2 in
      refused_so _ _ error (λ kind e. ap (typing registry schema) top.1 ∙ ap (λ r. then_typed r (typing_rule registry schema op)) e) below

  -- and so does its own rule
  pub own_refused : (at : ℕ) (op : Op) (ns : List ℕ) → HoldsExpression items at op ns → AllByRecursion (IsKept table) ns → ((typed : List Typed) → AllKept table ns typed → IsRefusal (typing_rule registry schema op typed) error) → AllRefused items registry schema at error
  own_refused at op ns held known refused t d =
      let typings = typings_kept table ns known in
      refused_so _ _ error (λ kind e. node_typing registry schema items table right at op ns typings.0 held typings.1 t d ∙ e) (refused typings.0 typings.1)

pub no_deeper : (items : List AExpr) (start : TypeTable) (at n : ℕ) → IsKept start n ⊎ (node_depth items n < node_depth items at) → IsKept start n ⊎ (node_depth items n ≤ node_depth items at)
no_deeper items start at n here = ⊎_elim (λ k. inl k) (λ less. inr (omega (arith, less))) here

-- what a walk adds is no deeper than where it began
module _ (items : List AExpr) (start mid new : TypeTable) (at : ℕ) (before : (n : ℕ) → IsKept mid n → IsKept start n ⊎ (node_depth items n < node_depth items at)) where
  pub below_more : (input : ℕ) → node_depth items input < node_depth items at → ((n : ℕ) → IsKept new n → IsKept mid n ⊎ (node_depth items n ≤ node_depth items input)) → (n : ℕ) → IsKept new n → IsKept start n ⊎ (node_depth items n < node_depth items at)
  below_more input less after n k = ⊎_elim
      (λ m. before n m)
      (λ le. inr (omega (arith, le, less)))
      (after n k)

  -- so nothing is kept yet of the node itself
  pub not_yet : ¬ (IsKept start at) → ¬ (IsKept mid at)
  not_yet none k = ⊎_elim (λ s. none s) (λ less. absurd (omega (arith, less))) (before at k)

  pub below_over : ((n : ℕ) → IsKept new n → IsKept mid n ⊎ (n ≡ at)) → (n : ℕ) → IsKept new n → IsKept start n ⊎ (node_depth items n ≤ node_depth items at)
  below_over only n k = ⊎_elim
      (λ m. no_deeper items start at n (before n m))
      (λ is. inr (subst (λ m. node_depth items m ≤ node_depth items at) (sym is) (omega arith)))
      (only n k)
