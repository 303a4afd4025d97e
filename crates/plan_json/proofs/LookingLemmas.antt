-- Looking into a value, beside what the value's type holds.
use Rattle.plan_json.proofs.Names.{Global, List, None, Option, Some, String, [], ap, arith, cond, get_or, length, ne_eqb, option_map, refl, slice_get, string_bytes, subst, suc, sym, zero, ℕ, ◌<◌, ◌==◌, ◌∙◌, ◌∷◌, ◌≡◌, ◌≤◌, both, only_member, three_items, two_items, two_members, items_view, members_view, view, Data, Items, Members, array, depth, item, items_depth, member, no_items, no_members, object, as_array, as_object, at, get, get_member, Value, members_len-members_view, eq-eqb, same_Some}

abbrev pub Entry : Type 0
Entry = String Global × Value

-- ---- a value is what it is seen as

pub array-from_as_array : (d : Data) (ds : Items) → Some ds ≡ as_array d → d ≡ array ds
array-from_as_array (array es) ds e = cc
array-from_as_array _ ds e = cc

-- what a list or an object is asked, the value is asked
pub of_object : {A : Type 0} (f : Data → A) (d : Data) (ms : Members) → Some ms ≡ as_object d → f (object ms) ≡ f d
of_object f (object es) ms is = cc
of_object f _ ms is = cc

pub of_array : {A : Type 0} (f : Data → A) (d : Data) (ds : Items) → Some ds ≡ as_array d → f (array ds) ≡ f d
of_array f d ds is = ap f (sym (array-from_as_array d ds is))

-- ---- objects

pub one_entry : (es : List Entry) (k : String Global) (v : Value) → length es ≡ 1 → slice_get es 0 ≡ Some (k, v) → Some (string_bytes k, view v) ≡ only_member (object (members_view es))
one_entry (e ∷ []) k v one first = ap (option_map (λ (p : Entry). (string_bytes p.0, view p.1))) (sym first)
one_entry _ k v one first = absurd (omega (arith, one))

pub other_entries : (es : List Entry) → (length es ≡ 1 → ⊥) → None ≡ only_member (object (members_view es))
other_entries (e ∷ []) other = absurd (other refl)
other_entries _ other = refl

pub two_members-two : (first second : List ℕ) (d : Data) (es : List Entry) → Some (members_view es) ≡ as_object d → length es ≡ 2 → both (get first d) (get second d) ≡ two_members first second d
two_members-two first second d es is two =
    sym (of_object (λ x. both (get first x) (get second x)) d _ is)
    ∙ sym (ap (λ b. cond b (both (get_member first (members_view es)) (get_member second (members_view es))) None) (eq-eqb _ _ (members_len-members_view es ∙ two))) ∙ of_object (two_members first second) d _ is

pub two_members-other : (first second : List ℕ) (es : List Entry) → (length es ≡ 2 → ⊥) → None ≡ two_members first second (object (members_view es))
two_members-other first second es other =
    sym (ap (λ b. cond b (both (get_member first (members_view es)) (get_member second (members_view es))) None) (ap (λ k. k == 2) (members_len-members_view es) ∙ ne_eqb (length es) 2 other))

pub none_second : {A B : Type 0} (x : Option A) → None ≡ both {B = B} x None
none_second None = refl
none_second (Some x) = refl

-- ---- lists

pub two_others : (vs : List Value) → (length vs ≡ 2 → ⊥) → None ≡ two_items (array (items_view vs))
two_others (a ∷ b ∷ []) other = absurd (other refl)
two_others _ other = refl

pub three_others : (vs : List Value) → (length vs ≡ 3 → ⊥) → None ≡ three_items (array (items_view vs))
three_others (a ∷ b ∷ c ∷ []) other = absurd (other refl)
three_others _ other = refl

pub array-from_three_items : (d first second third : Data) → Some (first, (second, third)) ≡ three_items d → d ≡ array (item first (item second (item third no_items)))
array-from_three_items (array (item a (item b (item c no_items)))) first second third e =
    ap (λ (q : Data × (Data × Data)). array (item q.0 (item q.1.0 (item q.1.1 no_items)))) (sym (same_Some (first, (second, third)) (a, (b, c)) e))
array-from_three_items _ first second third e = cc

-- ---- parts are less deep

pub object-from_only_member : (d : Data) (word : List ℕ) (value : Data) → Some (word, value) ≡ only_member d → d ≡ object (member word value no_members)
object-from_only_member (object (member k v no_members)) word value e = ap (λ q. object (member q.0 q.1 no_members)) (sym (same_Some (word, value) (k, v) e))
object-from_only_member _ word value e = cc

pub depth-only_member : (d : Data) (word : List ℕ) (value : Data) → Some (word, value) ≡ only_member d → depth value < depth d
depth-only_member d word value e = subst (λ x. depth value < depth x) (sym (object-from_only_member d word value e)) (omega arith)

item_depth : (vs : List Value) (i : ℕ) (v : Value) → i < length vs → v ≡ get_or vs i v → depth (view v) ≤ items_depth (items_view vs)
item_depth [] i v within is = absurd (omega arith)
item_depth (w ∷ ws) zero v within is = subst (λ x. depth (view x) ≤ items_depth (items_view (w ∷ ws))) (sym is) (omega arith)
item_depth (w ∷ ws) (suc i) v within is =
    let rest = item_depth ws i v (omega arith) is in omega (arith, rest)

pub depth-item : (d : Data) (vs : List Value) (i : ℕ) (v : Value) → Some (items_view vs) ≡ as_array d → i < length vs → v ≡ get_or vs i v → depth (view v) < depth d
depth-item d vs i v is within at =
    let below = item_depth vs i v within at in
    subst (λ x. depth (view v) < depth x) (sym (array-from_as_array d _ is)) (omega (arith, below))

pub depth-two_items : (d first second : Data) → Some (first, second) ≡ two_items d → depth second < depth d
depth-two_items (array (item a (item b no_items))) first second e = subst (λ x. depth x < depth (array (item a (item b no_items)))) (ap (λ (q : Data × Data). q.1) (sym (same_Some (first, second) (a, b) e))) (omega arith)
depth-two_items _ first second e = cc
