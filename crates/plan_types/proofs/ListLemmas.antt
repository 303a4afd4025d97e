-- Lists that a loop makes, item by item, and the items of lists that grow or change at one place.
use Rattle.std.proofs.Common.{◌≡◌, ◌≢◌, ℕ, suc, ◌+◌, ◌<◌, List, [], ◌∷◌, ◌++◌, length, map, take, drop, get_or, set, Some, slice_get, refl, sym, ap, ◌∙◌, arith, length-append}
use Rattle.std.proofs.lemmas.List.{take_more, drop_more, map-append, get_or-set_same, get_or-set_other}
use Rattle.std.proofs.lemmas.Option.{slice_get_within, slice_get-get_or, get_or_from_slice_get}
use Rattle.std.proofs.Math.ListN.{get_or-append, length-set}
use Rattle.std.proofs.Math.Seq.{get_or-append_seam}

-- one more item, which shows what the item at that place does
pub mapped_more : {A B C : Type 0} (f : A → C) (g : B → C) (done new : List A) (x : A) (items : List B) (i : ℕ) (y : B) → i < length items → map f done ≡ map g (take i items) → new ≡ done ++ x ∷ [] → f x ≡ g y → y ≡ get_or items i y → map f new ≡ map g (take (i + 1) items)
mapped_more f g done new x items i y within before grown same at =
    let front = ap (map f) grown ∙ map-append f done (x ∷ []) in
    let item = ap (λ l. l ++ f x ∷ []) before ∙ ap (λ z. map g (take i items) ++ z ∷ []) (same ∙ ap g at) in
    let back = sym (map-append g (take i items) (get_or items i y ∷ [])) ∙ ap (map g) (sym (take_more items i y within)) in
    front ∙ item ∙ back

-- an item stays where others come behind it
pub slice_get-append : {A : Type 0} (xs ys : List A) (n : ℕ) (x : A) → slice_get xs n ≡ Some x → slice_get (xs ++ ys) n ≡ Some x
slice_get-append xs ys n x h =
    let within = slice_get_within xs n x h in
    let longer : n < length (xs ++ ys) = omega (arith, length-append xs ys) in
    slice_get-get_or (xs ++ ys) n x longer ∙ ap Some (get_or-append xs ys x n within ∙ get_or_from_slice_get xs n x x h)

-- the item behind a list
pub slice_get-seam : {A : Type 0} (xs : List A) (y : A) (ys : List A) → slice_get (xs ++ y ∷ ys) (length xs) ≡ Some y
slice_get-seam xs y ys =
    let longer : length xs < length (xs ++ y ∷ ys) = omega (arith, length-append xs (y ∷ ys)) in
    slice_get-get_or (xs ++ y ∷ ys) (length xs) y longer ∙ ap Some (get_or-append_seam xs y ys y)

-- a write changes no other item
pub slice_get-set_other : {A : Type 0} (xs : List A) (i : ℕ) (y : A) (n : ℕ) (x : A) → n ≢ i → slice_get xs n ≡ Some x → slice_get (set xs i y) n ≡ Some x
slice_get-set_other xs i y n x other h =
    let within = slice_get_within xs n x h in
    let longer : n < length (set xs i y) = omega (arith, length-set xs i y) in
    slice_get-get_or (set xs i y) n x longer ∙ ap Some (get_or-set_other xs i n y x other ∙ get_or_from_slice_get xs n x x h)

-- what was written is there
pub slice_get-set_same : {A : Type 0} (xs : List A) (i : ℕ) (y : A) → i < length xs → slice_get (set xs i y) i ≡ Some y
slice_get-set_same xs i y within =
    let longer : i < length (set xs i y) = omega (arith, length-set xs i y) in
    slice_get-get_or (set xs i y) i y longer ∙ ap Some (get_or-set_same xs i y y within)

-- one map after another
pub map-map : {A B C : Type 0} (g : B → C) (f : A → B) (xs : List A) → map g (map f xs) ≡ map (λ x. g (f x)) xs
map-map g f [] = refl
map-map g f (x ∷ xs) = ap (λ l. g (f x) ∷ l) (map-map g f xs)

-- what is left of a list at one of its places, and of two lists side by side
pub item_left : {A : Type 0} (xs : List A) (n : ℕ) (x d : A) → n < length xs → x ≡ get_or xs n d → drop n xs ≡ x ∷ drop (n + 1) xs
item_left xs n x d within is = drop_more xs n d within ∙ ap (λ y. y ∷ drop (n + 1) xs) (sym is)

pub pair_left : {A B C : Type 0} (F : List A → List B → C) (xs : List A) (ys : List B) (n : ℕ) (x dx : A) (y dy : B) → n < length xs → n < length ys → x ≡ get_or xs n dx → y ≡ get_or ys n dy → F (drop n xs) (drop n ys) ≡ F (x ∷ drop (n + 1) xs) (y ∷ drop (n + 1) ys)
pair_left F xs ys n x dx y dy within also is_x is_y =
    ap (λ l. F l (drop n ys)) (item_left xs n x dx within is_x) ∙ ap (F (x ∷ drop (n + 1) xs)) (item_left ys n y dy also is_y)

pub drop_item : {A : Type 0} (xs : List A) (i n : ℕ) (x : A) → i < length xs → x ≡ get_or xs i x → n ≡ suc i → drop i xs ≡ x ∷ drop n xs
drop_item xs i n x within at next =
    let after : i + 1 ≡ n = omega (arith, next) in
    item_left xs i x x within at ∙ ap (λ m. x ∷ drop m xs) after
