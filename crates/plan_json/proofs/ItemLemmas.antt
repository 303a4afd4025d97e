-- What an answer was made of, and lists that are read item by item.
use Rattle.plan_json.proofs.Names.{Bool, List, None, Option, Some, [], ap, arith, cond, false, get_or, length, map, option_and_then, option_map, refl, suc, sym, take, true, zero, ℕ, ◌++◌, ◌+◌, ◌<◌, ◌∙◌, ◌∷◌, ◌≡◌, all_of, both, first_items, some_of, items_view, view, Name, is_among, names_of, repeats, Data, Items, item, no_items, get_item, option_map_or, Value, get_item_within, map-append, take_all, take_more, repeats-push, same_Some}

abbrev pub Present : {A : Type 0} → Option A → Type 0
Present {A} o = (x : A) × (o ≡ Some x)

pub mapped : {A B : Type 0} (f : A → B) (o : Option A) (y : B) → option_map f o ≡ Some y → (x : A) × (o ≡ Some x) × (f x ≡ y)
mapped f None y e = cc
mapped f (Some x) y e = (x, refl, cc)

pub chained : {A B : Type 0} (f : A → Option B) (o : Option A) (y : B) → option_and_then f o ≡ Some y → (x : A) × (o ≡ Some x) × (f x ≡ Some y)
chained f None y e = cc
chained f (Some x) y e = (x, refl, e)

pub unchained : {A B : Type 0} (f : A → Option B) (o : Option A) → ((x : A) → o ≡ Some x → f x ≡ None) → option_and_then f o ≡ None
unchained f None each = refl
unchained f (Some x) each = each x refl

pub both_are : {A B : Type 0} (a : Option A) (b : Option B) (p : A × B) → both a b ≡ Some p → (a ≡ Some p.0) × (b ≡ Some p.1)
both_are (Some x) (Some y) p e = let all = same_Some (x, y) p e in (ap (λ q. Some q.0) all, ap (λ q. Some q.1) all)
both_are _ _ p e = cc

-- what a test lets through
pub kept : {A : Type 0} (test : Bool) (o : Option A) (x : A) → cond test o None ≡ Some x → (test ≡ true) × (o ≡ Some x)
kept true o x e = (refl, e)
kept false o x e = cc

pub passed : {A : Type 0} (test : Bool) (o : Option A) (x : A) → cond test None o ≡ Some x → (test ≡ false) × (o ≡ Some x)
passed true o x e = cc
passed false o x e = (refl, e)

-- the first of a list that is read, and the others
pub opened : {A : Type 0} (first : Option A) (rest : Option (List A)) (l : List A) → option_map (λ p. p.0 ∷ p.1) (both first rest) ≡ Some l → (x : A) × (xs : List A) × (first ≡ Some x) × (rest ≡ Some xs) × (x ∷ xs ≡ l)
opened (Some x) (Some xs) l e = (x, xs, refl, refl, cc)
opened _ _ l e = cc

-- ---- what all items read to

all_of-push : {A : Type 0} (read : Data → Option A) (vs : List Value) (v : Value) (xs : List A) (x : A) → all_of read (items_view vs) ≡ Some xs → read (view v) ≡ Some x → all_of read (items_view (vs ++ v ∷ [])) ≡ Some (xs ++ x ∷ [])
all_of-push read [] v xs x before now = rw now (ap (λ l. Some (l ++ x ∷ [])) (same_Some [] xs before))
all_of-push read (w ∷ ws) v xs x before now =
    let parts = opened (read (view w)) (all_of read (items_view ws)) xs before in
    rw (parts.2, all_of-push read ws v parts.1 x parts.3 now) (ap (λ l. Some (l ++ x ∷ [])) parts.4)

pub all_of-mapped : {A B : Type 0} (f : A → B) (read : Data → Option A) (ds : Items) (xs : List A) → all_of read ds ≡ Some xs → all_of (λ d. option_map f (read d)) ds ≡ Some (map f xs)
all_of-mapped f read no_items xs e = ap (λ l. Some (map f l)) (same_Some [] xs e)
all_of-mapped f read (item d ds) xs e =
    let parts = opened (read d) (all_of read ds) xs e in
    rw (parts.2, all_of-mapped f read ds parts.1 parts.3) (ap (λ l. Some (map f l)) parts.4)

-- one more item of a list is read
pub all_of-more : {A : Type 0} (read : Data → Option A) (vs : List Value) (i : ℕ) (v : Value) (xs : List A) (x : A) → i < length vs → v ≡ get_or vs i v → all_of read (items_view (take i vs)) ≡ Some xs → read (view v) ≡ Some x → all_of read (items_view (take (i + 1) vs)) ≡ Some (xs ++ x ∷ [])
all_of-more read vs i v xs x within is before now =
    ap (λ l. all_of read (items_view l)) (take_more vs i v within ∙ ap (λ w. take i vs ++ w ∷ []) (sym is)) ∙ all_of-push read (take i vs) v xs x before now

-- each item that stands in such a list is read
pub all_of-item : {A : Type 0} (read : Data → Option A) (ds : Items) (xs : List A) (n : ℕ) (v : Data) → all_of read ds ≡ Some xs → get_item n ds ≡ Some v → Present (read v)
all_of-item read no_items xs n v e here = cc
all_of-item read (item d ds) xs zero v e here =
    let parts = opened (read d) (all_of read ds) xs e in (parts.0, ap read (same_Some v d (sym here)) ∙ parts.2)
all_of-item read (item d ds) xs (suc n) v e here =
    let parts = opened (read d) (all_of read ds) xs e in all_of-item read ds parts.1 n v parts.3 here

-- all items are read
pub all_taken : {A : Type 0} (f : Items → A) (vs : List Value) (n : ℕ) → length vs ≡ n → f (items_view (take n vs)) ≡ f (items_view vs)
all_taken f vs n all = ap (λ l. f (items_view l)) (take_all n vs (omega arith))

-- ---- names that items give themselves

-- names stay apart as a new one comes
pub names_apart : {A : Type 0} (xs : List (Name × A)) (x : Name × A) → is_among x.0 (names_of xs) ≡ false → repeats (names_of xs) ≡ false → repeats (names_of (xs ++ x ∷ [])) ≡ false
names_apart {A} xs x new distinct = ap repeats (map-append (λ (y : Name × A). y.0) xs (x ∷ [])) ∙ repeats-push (names_of xs) x.0 distinct new

module _ {A : Type 0} (read : Data → Option (Name × A)) (name : Data → Option Name) (named : (d : Data) (x : Name × A) → read d ≡ Some x → name d ≡ Some x.0) where
  -- items that are read give themselves the names that are read
  pub some_of-names : (ds : Items) (xs : List (Name × A)) → all_of read ds ≡ Some xs → some_of name ds ≡ names_of xs
  some_of-names no_items xs e = ap names_of (same_Some [] xs e)
  some_of-names (item d ds) xs e =
      let parts = opened (read d) (all_of read ds) xs e in
      rw (named d parts.0 parts.2) (ap (λ l. parts.0.0 ∷ l) (some_of-names ds parts.1 parts.3) ∙ ap names_of parts.4)

-- the name of an item stands behind those before it
pub names_split : {A : Type 0} (read : Data → Option A) (ds : Items) (n : ℕ) (v : Data) (x : A) → get_item n ds ≡ Some v → read v ≡ Some x → (rest : List A) × (some_of read ds ≡ some_of read (first_items n ds) ++ x ∷ rest)
names_split read no_items n v x here is = cc
names_split read (item d ds) zero v x here is =
    (some_of read ds, ap (λ o. option_map_or (λ y. y ∷ some_of read ds) o (some_of read ds)) (ap read (same_Some d v here) ∙ is))
names_split read (item d ds) (suc n) v x here is =
    let before = some_of read (first_items n ds) in
    let later = names_split read ds n v x here is in
    (later.0, elim (read d) as (λ o. option_map_or (λ y. y ∷ some_of read ds) o (some_of read ds) ≡ option_map_or (λ y. y ∷ before) o before ++ x ∷ later.0) [ None ↦ later.1 | Some y ↦ ap (λ l. y ∷ l) later.1 ])

-- ---- an item by its number

pub item_at : (vs : List Value) (i : ℕ) (v : Value) → i < length vs → v ≡ get_or vs i v → get_item i (items_view vs) ≡ Some (view v)
item_at vs i v within is = sym (ap (λ w. Some (view w)) is ∙ get_item_within vs i v within)

pub first_items-take : (vs : List Value) (i : ℕ) → first_items i (items_view vs) ≡ items_view (take i vs)
first_items-take (v ∷ vs) (suc i) = ap (item (view v)) (first_items-take vs i)
first_items-take [] (suc i) = refl
first_items-take _ _ = refl
