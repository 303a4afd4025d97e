-- Schemas side by side: comparing them, a column that is put in, and common types.
use Rattle.std.proofs.Common.{◌≡◌, ◌≢◌, ℕ, ◌+◌, ◌-◌, ◌<◌, ◌≤◌, suc, zero, List, [], ◌∷◌, ◌++◌, length, map, take, drop, insert, remove, Option, Some, None, Ok, Err, inl, inr, Bool, true, false, not, ◌&&◌, cond, refl, sym, ap, ◌∙◌, subst, arith, slice_get, append_assoc, Bor}
use Rattle.std.specs.Bool.{Decides}
use Rattle.std.specs.Option.{option_map, option_map_or, option_eq}
use Rattle.std.specs.List.{position_or_len}
use Rattle.std.specs.Map.{keys_of, values_of}
use Rattle.indexmap.specs.Layout.{set_value_at, length-set_value_at}
use Rattle.std.specs.Cmp.Lexicographic.{pointwise, pointwise_decides}
use Rattle.std.proofs.lemmas.Bool.{le-ltb}
use Rattle.std.proofs.lemmas.Bool.Decides.{Decides-at, Decides-like, Decides-and}
use Rattle.std.proofs.lemmas.Slice.Eq.{bytes_eq-Decides}
use Rattle.std.proofs.Common.{length-append}
use Rattle.std.proofs.lemmas.List.{length-map, map-append, take-map, drop-map}
use Rattle.std.proofs.lemmas.List.Edits.{remove-append_right}
use Rattle.indexmap.specs.IndexMap.{insert_entry, move_index, index_before}
use Rattle.plan_types.specs.Types.{Ty, ty, same_type}
use Rattle.plan_types.specs.TypeLaws.{same_type_exact, same_type_own}
use Rattle.plan_types.specs.Supertypes.{supertype}
use Rattle.plan_types.specs.Schemas.{Name, Columns, same_name, column_of, names_of, IsNewName}
use Rattle.plan_types.specs.SchemaCalls.{same_names, common_columns, common_types, found_columns, super_columns, type_in_front, types_of, with_types}
use Rattle.plan_types.specs.Errors.{at_top, IsMemoryOr, IsRefusal, no_room, broken}
use Rattle.plan_types.specs.declared.error.PlanError.{PlanError}
use Rattle.plan_types.specs.declared.error.ErrorKind.TheVariants.{SchemaMismatch, InvalidOperation}
use Rattle.plan_types.specs.declared.dtype.DataType.{DataType}
use Rattle.plan_types.proofs.ListLemmas.{slice_get-seam}
use Rattle.plan_types.proofs.SchemaLemmas.{IsNewName-head, IsNewName-tail}
use Rattle.plan_types.proofs.SupertypeLemmas.{supertype_itself}

-- ---- the same columns

abbrev same_column : Name × Ty → Name × Ty → Bool
same_column c d = same_name c.0 d.0 && same_type c.1 d.1

type_decides : (a b : Ty) → Decides (same_type a b) (a ≡ b)
type_decides a b = (same_type_exact a b, λ e. subst (λ z. same_type a z ≡ true) e (same_type_own a))

column_decides : (c d : Name × Ty) → Decides (same_column c d) (c ≡ d)
column_decides c d =
    Decides-like (same_column c d) (λ h. λ i. (h.0 i, h.1 i)) (λ e. (ap (λ (x : Name × Ty). x.0) e, ap (λ (x : Name × Ty). x.1) e)) (Decides-and (same_name c.0 d.0) (same_type c.1 d.1) (bytes_eq-Decides c.0 d.0) (type_decides c.1 d.1))

abbrev same_entries : List (Name × DataType) → List (Name × DataType) → Bool
same_entries es os = pointwise (λ p q. same_name p.0 q.0 && same_type (ty p.1) (ty q.1)) es os

by_columns : (es os : List (Name × DataType)) → same_entries es os ≡ pointwise same_column (map column_of es) (map column_of os)
by_columns [] [] = refl
by_columns [] (o ∷ os) = refl
by_columns (e ∷ es) [] = refl
by_columns (e ∷ es) (o ∷ os) = ap (λ b. same_column (column_of e) (column_of o) && b) (by_columns es os)

-- maps with the same entries, but for where types lie in memory, have the same columns
pub same_columns : (es os : List (Name × DataType)) (r : Bool) → r ≡ pointwise (λ p q. same_name p.0 q.0 && same_type (ty p.1) (ty q.1)) es os → Decides r (map column_of es ≡ map column_of os)
same_columns es os r h =
    Decides-at r _ (h ∙ by_columns es os) (pointwise_decides column_decides (map column_of es) (map column_of os))

-- ---- a column that is put in

last_entry : (es : List (Name × DataType)) (name : Name) (dtype : DataType) → IsNewName (map column_of es) name → insert_entry same_name es name dtype ≡ es ++ (name, dtype) ∷ []
last_entry [] name dtype new = refl
last_entry (e ∷ es) name dtype new =
    ap (λ b. cond b ((e.0, dtype) ∷ es) (e ∷ insert_entry same_name es name dtype)) (IsNewName-head (column_of e) (map column_of es) name new)
    ∙ ap (λ l. e ∷ l) (last_entry es name dtype (IsNewName-tail (column_of e) (map column_of es) name new))

behind_all : (es : List (Name × DataType)) (name : Name) → IsNewName (map column_of es) name → position_or_len (same_name name) (keys_of es) ≡ length es
behind_all [] name new = refl
behind_all (e ∷ es) name new =
    let later = behind_all es name (IsNewName-tail (column_of e) (map column_of es) name new) in
    subst (λ b. cond (not b) (1 + position_or_len (same_name name) (keys_of es)) 0 ≡ suc (length es)) (sym (IsNewName-head (column_of e) (map column_of es) name new)) (omega (arith, later))

append_none : {A : Type 0} (xs : List A) → xs ++ [] ≡ xs
append_none [] = refl
append_none (x ∷ xs) = ap (λ l. x ∷ l) (append_none xs)

without_last : {A : Type 0} (xs : List A) (x : A) → remove (xs ++ x ∷ []) (length xs) ≡ xs
without_last xs x =
    let none : length xs - length xs ≡ 0 = omega arith in
    remove-append_right xs (x ∷ []) (length xs) (length xs) refl (omega arith) ∙ ap (λ n. xs ++ remove (x ∷ []) n) none ∙ append_none xs

moved_last : {A : Type 0} (xs : List A) (x : A) (i : ℕ) → move_index (xs ++ x ∷ []) (length xs) i ≡ insert xs i x
moved_last xs x i =
    ap (λ o. option_map_or (λ y. insert (remove (xs ++ x ∷ []) (length xs)) i y) o (xs ++ x ∷ [])) (slice_get-seam xs x []) ∙ ap (λ l. insert l i x) (without_last xs x)

map-insert : {A B : Type 0} (f : A → B) (xs : List A) (i : ℕ) (x : A) → map f (insert xs i x) ≡ insert (map f xs) i (f x)
map-insert f xs i x =
    map-append f (take i xs) (x ∷ drop i xs) ∙ ap (λ l. l ++ f x ∷ map f (drop i xs)) (sym (take-map f i xs)) ∙ ap (λ l. take i (map f xs) ++ f x ∷ l) (sym (drop-map f i xs))

-- a new entry that is moved to a place is put in there
pub put_in : (es new : List (Name × DataType)) (name : Name) (dtype : DataType) (i place : ℕ) → IsNewName (map column_of es) name → i ≤ length es → place ≡ index_before (position_or_len (same_name name) (keys_of es)) i → new ≡ move_index (insert_entry same_name es name dtype) (position_or_len (same_name name) (keys_of es)) place → map column_of new ≡ insert (map column_of es) i (name, ty dtype)
put_in es new name dtype i place fresh within at made =
    let from = behind_all es name fresh in
    let stays : place ≡ i = at ∙ ap (λ n. index_before n i) from ∙ ap (λ b. cond b (i - 1) i) (le-ltb (length es) i within) in
    let entries = made ∙ ap (λ l. move_index l (position_or_len (same_name name) (keys_of es)) place) (last_entry es name dtype fresh) ∙ ap (λ n. move_index (es ++ (name, dtype) ∷ []) n place) from ∙ ap (move_index (es ++ (name, dtype) ∷ []) (length es)) stays ∙ moved_last es (name, dtype) i in
    ap (map column_of) entries ∙ map-insert column_of es i (name, dtype)

-- ---- the same names

and_false : (a b : Bool) → b ≡ false → (a && b) ≡ false
and_false true b h = h
and_false false b h = refl

pub names_apart : (cs ds : Columns) → length cs ≢ length ds → false ≡ same_names cs ds
names_apart [] [] n = absurd (n refl)
names_apart [] (d ∷ ds) n = refl
names_apart (c ∷ cs) [] n = refl
names_apart (c ∷ cs) (d ∷ ds) n = sym (and_false (same_name c.0 d.0) _ (sym (names_apart cs ds (λ e. n (ap suc e)))))

and_second : (a b : Bool) → (a && b) ≡ true → b ≡ true
and_second true b h = h
and_second false b h = cc

pub as_many : (cs ds : Columns) → same_names cs ds ≡ true → length cs ≡ length ds
as_many [] [] h = refl
as_many [] (d ∷ ds) h = cc
as_many (c ∷ cs) [] h = cc
as_many (c ∷ cs) (d ∷ ds) h = ap suc (as_many cs ds (and_second _ _ h))

-- the names from a place on are the same where those at the place are, and those after it
pub names_from : (cs ds : Columns) (n m : ℕ) → n < length cs → n < length ds → m ≡ suc n → same_names (drop n cs) (drop n ds) ≡ (option_eq same_name (slice_get (names_of cs) n) (slice_get (names_of ds) n) && same_names (drop m cs) (drop m ds))
names_from [] ds n m h g e = absurd (omega arith)
names_from (c ∷ cs) [] n m h g e = absurd (omega arith)
names_from (c ∷ cs) (d ∷ ds) zero m h g e = rw e refl
names_from (c ∷ cs) (d ∷ ds) (suc n) m h g e = rw e (names_from cs ds n (suc n) (omega arith) (omega arith) refl)

pub eq_shown : {A B : Type 0} (E : B → B → Bool) (f : A → B) (o p : Option A) → option_eq (λ x y. E (f x) (f y)) o p ≡ option_eq E (option_map f o) (option_map f p)
eq_shown E f None None = refl
eq_shown E f None (Some y) = refl
eq_shown E f (Some x) None = refl
eq_shown E f (Some x) (Some y) = refl

twice : (b : Bool) → not (not b) ≡ b
twice true = refl
twice false = refl

-- one more pair of names is compared
pub one_pair : (cs ds : Columns) (o p : Option (Bor Name)) (r : Bool) (n m : ℕ) → n < length cs → n < length ds → m ≡ suc n → option_map (λ name. name.now) o ≡ slice_get (names_of cs) n → option_map (λ name. name.now) p ≡ slice_get (names_of ds) n → r ≡ not (option_eq (λ x y. same_name x.now y.now) o p) → same_names cs ds ≡ same_names (drop n cs) (drop n ds) → same_names cs ds ≡ (not r && same_names (drop m cs) (drop m ds))
one_pair cs ds o p r n m within also next left right told before =
    let pair = eq_shown same_name (λ (x : Bor Name). x.now) o p ∙ ap (λ q. option_eq same_name q (option_map (λ (x : Bor Name). x.now) p)) left ∙ ap (option_eq same_name (slice_get (names_of cs) n)) right in
    let turned : not r ≡ option_eq (λ x y. same_name x.now y.now) o p = ap not told ∙ twice _ in
    before ∙ names_from cs ds n m within also next ∙ ap (λ b. b && same_names (drop m cs) (drop m ds)) (sym (turned ∙ pair))

-- ---- common types

some_inner : {A : Type 0} (x y : A) → Some x ≡ Some y → x ≡ y
some_inner x y e = cc

drop_there : {A : Type 0} (xs : List A) (n : ℕ) (x : A) → slice_get xs n ≡ Some x → drop n xs ≡ x ∷ drop (suc n) xs
drop_there [] n x h = cc
drop_there (y ∷ xs) zero x h = ap (λ z. z ∷ xs) (some_inner y x h)
drop_there (y ∷ xs) (suc n) x h = drop_there xs n x h

abbrev behind : List Ty → Option (List Ty) → Option (List Ty)
behind done None = None
behind done (Some rest) = Some (done ++ rest)

behind_more : (done : List Ty) (type : Ty) (o : Option (List Ty)) → behind done (type_in_front (Some type) o) ≡ behind (done ++ type ∷ []) o
behind_more done type None = refl
behind_more done type (Some rest) = ap Some (sym (append_assoc done (type ∷ []) rest))

-- the common types that are done, and what is left of both
abbrev pub Merging : List Ty → List Ty → List Ty → ℕ → Type 0
Merging ts us done n = common_types ts us ≡ behind done (common_types (drop n ts) (drop n us))

left_over : (ts us done : List Ty) (n : ℕ) (t u : Ty) → slice_get ts n ≡ Some t → slice_get us n ≡ Some u → Merging ts us done n → common_types ts us ≡ behind done (type_in_front (supertype t u) (common_types (drop (suc n) ts) (drop (suc n) us)))
left_over ts us done n t u h g m =
    m ∙ ap (λ l. behind done (common_types l (drop n us))) (drop_there ts n t h) ∙ ap (λ l. behind done (common_types (t ∷ drop (suc n) ts) l)) (drop_there us n u g)

pub merging_step : (ts us done new : List Ty) (n k : ℕ) (t u type : Ty) → slice_get ts n ≡ Some t → slice_get us n ≡ Some u → supertype t u ≡ Some type → k ≡ suc n → new ≡ done ++ type ∷ [] → Merging ts us done n → Merging ts us new k
merging_step ts us done new n k t u type h g e next grown m =
    rw (next, grown) (left_over ts us done n t u h g m ∙ ap (λ o. behind done (type_in_front o (common_types (drop (suc n) ts) (drop (suc n) us)))) e ∙ behind_more done type _)

-- where a pair has no common type there are no common types
pub stuck_refused : (ts us done : List Ty) (n : ℕ) (t u : Ty) (e : PlanError) → slice_get ts n ≡ Some t → slice_get us n ≡ Some u → Merging ts us done n → IsMemoryOr SchemaMismatch (supertype t u ≡ None) e → IsMemoryOr SchemaMismatch (common_types ts us ≡ None) e
stuck_refused ts us done n t u e h g m r =
    elim r [ inl x ↦ inl x | inr b ↦ inr (b.0, left_over ts us done n t u h g m ∙ ap (λ o. behind done (type_in_front o (common_types (drop (suc n) ts) (drop (suc n) us)))) b.1) ]

-- the type of an entry
pub type_there : (es : List (Name × DataType)) (n : ℕ) (d : DataType) → slice_get (values_of es) n ≡ Some d → slice_get (types_of (map column_of es)) n ≡ Some (ty d)
type_there [] n d h = cc
type_there (e ∷ es) zero d h = ap (λ x. Some (ty x)) (some_inner e.1 d h)
type_there (e ∷ es) (suc n) d h = type_there es n d h

front_length : (o : Option Ty) (p : Option (List Ty)) (n : ℕ) (found : List Ty) → ((ts : List Ty) → p ≡ Some ts → length ts ≡ n) → type_in_front o p ≡ Some found → length found ≡ suc n
front_length None p n found each h = cc
front_length (Some t) None n found each h = cc
front_length (Some t) (Some ts) n found each h = sym (ap length (some_inner (t ∷ ts) found h)) ∙ ap suc (each ts refl)

-- there is a common type for each pair
pub as_many_types : (ts us found : List Ty) → common_types ts us ≡ Some found → length found ≡ length ts
as_many_types [] [] found h = sym (ap length (some_inner [] found h))
as_many_types [] (u ∷ us) found h = cc
as_many_types (t ∷ ts) [] found h = cc
as_many_types (t ∷ ts) (u ∷ us) found h = front_length (supertype t u) (common_types ts us) (length ts) found (as_many_types ts us) h

no_types : (cs : Columns) → with_types cs [] ≡ cs
no_types [] = refl
no_types (c ∷ cs) = refl

given_last : (es : List (Name × DataType)) (ds : List DataType) (d : DataType) → length ds < length es → with_types (map column_of (set_value_at es (length ds) d)) (map ty ds) ≡ with_types (map column_of es) (map ty (ds ++ d ∷ []))
given_last [] ds d within = absurd (omega arith)
given_last (e ∷ es) [] d within = ap (λ l. (e.0, ty d) ∷ l) (sym (no_types (map column_of es)))
given_last (e ∷ es) (x ∷ ds) d within = ap (λ l. (e.0, ty x) ∷ l) (given_last es ds d (omega arith))

-- the last of the types is given, and then those before it
pub one_given : (es : List (Name × DataType)) (before ds : List DataType) (d : DataType) (n : ℕ) (all : Columns) → before ≡ ds ++ d ∷ [] → n ≡ length ds → (with_types (map column_of es) (map ty before) ≡ all) × (length before ≤ length (map column_of es)) → (with_types (map column_of (set_value_at es n d)) (map ty ds) ≡ all) × (length ds ≤ length (map column_of (set_value_at es n d)))
one_given es before ds d n all grown last h =
    let many : length before ≡ length ds + 1 = ap length grown ∙ length-append ds (d ∷ []) in
    let within : length ds < length es = omega (arith, h.1, many, length-map es column_of) in
    let given = ap (λ k. with_types (map column_of (set_value_at es k d)) (map ty ds)) last ∙ given_last es ds d within ∙ sym (ap (λ l. with_types (map column_of es) (map ty l)) grown) ∙ h.0 in
    (given, omega (arith, within, length-map (set_value_at es n d) column_of, length-set_value_at es n d))

pub all_given : (cs all : Columns) (ds : List DataType) → length ds ≡ 0 → (with_types cs (map ty ds) ≡ all) × (length ds ≤ length cs) → cs ≡ all
all_given cs all [] none h = sym (no_types cs) ∙ h.0
all_given cs all (d ∷ ds) none h = absurd (omega (arith, none))

-- another value leaves the names
pub same_entry_names : (es : List (Name × DataType)) (n : ℕ) (d : DataType) → names_of (set_value_at es n d) ≡ names_of es
same_entry_names [] n d = refl
same_entry_names (e ∷ es) zero d = refl
same_entry_names (e ∷ es) (suc n) d = ap (λ l. e.0 ∷ l) (same_entry_names es n d)

types_itself : (ts : List Ty) → common_types ts ts ≡ Some ts
types_itself [] = refl
types_itself (t ∷ ts) = ap (λ o. type_in_front o (common_types ts ts)) (supertype_itself t) ∙ ap (type_in_front (Some t)) (types_itself ts)

own_types : (cs : Columns) → with_types cs (types_of cs) ≡ cs
own_types [] = refl
own_types (c ∷ cs) = ap (λ l. c ∷ l) (own_types cs)

-- equal columns have themselves
pub common_itself : (cs : Columns) → common_columns cs cs ≡ Some cs
common_itself cs = ap (option_map (with_types cs)) (types_itself (types_of cs)) ∙ ap Some (own_types cs)

-- a type changed, or is another than the other's, where the columns aren't the other's
pub changed_where : (old ds new : Columns) (same : Bool) → common_columns old ds ≡ Some new → Decides same (old ≡ ds) → Decides (not (not same)) ((new ≡ old) × (new ≡ ds))
changed_where old ds new same made decided =
    let kept : old ≡ ds → new ≡ old = λ e. some_inner new old (sym made ∙ ap (common_columns old) (sym e) ∙ common_itself old) in
    Decides-at (not (not same)) same (twice same) (Decides-like same (λ e. (kept e, kept e ∙ e)) (λ h. sym h.0 ∙ h.1) decided)

-- names that differ are refused before any type
pub names_refused : (cs ds : Columns) (e : PlanError) → same_names cs ds ≡ false → e ≡ at_top InvalidOperation → IsRefusal (super_columns cs ds) e
names_refused cs ds e differ is = broken InvalidOperation is (ap (λ b. cond b (found_columns (common_columns cs ds)) (Err InvalidOperation)) differ)

types_asked : (cs ds : Columns) → same_names cs ds ≡ true → super_columns cs ds ≡ found_columns (common_columns cs ds)
types_asked cs ds same = ap (λ b. cond b (found_columns (common_columns cs ds)) (Err InvalidOperation)) same

pub types_refused : (cs ds : Columns) (e : PlanError) → same_names cs ds ≡ true → IsMemoryOr SchemaMismatch (common_types (types_of cs) (types_of ds) ≡ None) e → IsRefusal (super_columns cs ds) e
types_refused cs ds e same h =
    elim h [ inl m ↦ no_room m | inr b ↦ broken SchemaMismatch b.0 (types_asked cs ds same ∙ ap found_columns (ap (option_map (with_types cs)) b.1)) ]

-- the columns with the common types
pub common_given : (cs ds new : Columns) (ts : List Ty) → common_types (types_of cs) (types_of ds) ≡ Some ts → new ≡ with_types cs ts → common_columns cs ds ≡ Some new
common_given cs ds new ts made given = ap (option_map (with_types cs)) made ∙ ap Some (sym given)

pub super_found : (cs ds new : Columns) → same_names cs ds ≡ true → common_columns cs ds ≡ Some new → super_columns cs ds ≡ Ok new
super_found cs ds new same made = types_asked cs ds same ∙ ap found_columns made
