-- The columns of a schema follow its map's entries. Names that are new, distinct, or repeated.
use Rattle.std.proofs.Common.{◌≡◌, List, [], ◌∷◌, ◌++◌, map, Option, Some, None, true, false, ◌||◌, cond, is_some, refl, sym, ap, ◌∙◌, subst, Bor, append_assoc}
use Rattle.std.specs.Option.{option_map, option_copied}
use Rattle.std.specs.List.{AllByRecursion, AllZip, IsDistinct}
use Rattle.std.specs.Map.{lookup, keys_of}
use Rattle.std.proofs.lemmas.Bool.{or_parts}
use Rattle.std.proofs.lemmas.Cmp.{nat_list_eq_equiv}
use Rattle.indexmap.specs.IndexMap.{insert_entry}
use Rattle.plan_types.specs.Types.{Ty, ty}
use Rattle.plan_types.specs.Schemas.{Name, Columns, same_name, column_of, columns, type_at, with_column, IsNewName, HasDistinctNames, is_among, repeats, names_of}
use Rattle.plan_types.specs.declared.dtype.DataType.{DataType}
use Rattle.plan_types.specs.declared.schema.Schema.{Schema}
use Rattle.plan_types.proofs.ListLemmas.{map-map}
use Rattle.plan_types.proofs.NameLemmas.{repeats-again}

-- a name's type is that of its entry
pub type_at-entries : (es : List (Name × DataType)) (name : Name) → type_at (map column_of es) name ≡ option_map ty (lookup (same_name name) es)
type_at-entries [] name = refl
type_at-entries (e ∷ es) name =
    elim (same_name name e.0) as (λ b. cond b (Some (ty e.1)) (type_at (map column_of es) name) ≡ option_map ty (cond b (Some e.1) (lookup (same_name name) es))) [ true ↦ refl | false ↦ type_at-entries es name ]

pub is_some-option_map : {A B : Type 0} (f : A → B) (o : Option A) → is_some (option_map f o) ≡ is_some o
is_some-option_map f None = refl
is_some-option_map f (Some x) = refl

pub option_map-copied : {A B : Type 0} (f : A → B) (o : Option (Bor A)) → option_map (λ x. f x.now) o ≡ option_map f (option_copied o)
option_map-copied f None = refl
option_map-copied f (Some x) = refl

-- an entry that is put in is put in among the columns
pub columns-insert_entry : (es : List (Name × DataType)) (name : Name) (dtype : DataType) → map column_of (insert_entry same_name es name dtype) ≡ with_column (map column_of es) name (ty dtype)
columns-insert_entry [] name dtype = refl
columns-insert_entry (e ∷ es) name dtype =
    elim (same_name name e.0) as (λ b. map column_of (cond b ((e.0, dtype) ∷ es) (e ∷ insert_entry same_name es name dtype)) ≡ cond b ((e.0, ty dtype) ∷ map column_of es) (column_of e ∷ with_column (map column_of es) name (ty dtype))) [ true ↦ refl | false ↦ ap (λ l. column_of e ∷ l) (columns-insert_entry es name dtype) ]

-- a name that no entry has
new_among : (es : List (Name × DataType)) (name : Name) → AllByRecursion (λ key. same_name name key ≡ false) (keys_of es) → IsNewName (map column_of es) name
new_among [] name h = refl
new_among (e ∷ es) name h = ap (λ b. cond b (Some (ty e.1)) (type_at (map column_of es) name)) h.0 ∙ new_among es name h.1

pub HasDistinctNames-entries : (es : List (Name × DataType)) → IsDistinct same_name (keys_of es) → HasDistinctNames (map column_of es)
unfolding IsDistinct
HasDistinctNames-entries [] h = tt
HasDistinctNames-entries (e ∷ es) h = (new_among es e.0 h.0, HasDistinctNames-entries es h.1)

-- a name that is new among columns is new among the later ones, and isn't the first one's
pub IsNewName-tail : (c : Name × Ty) (cs : Columns) (name : Name) → IsNewName (c ∷ cs) name → IsNewName cs name
IsNewName-tail c cs name new =
    elim (same_name name c.0) as (λ b. cond b (Some c.1) (type_at cs name) ≡ None → type_at cs name ≡ None) [ true ↦ λ h. cc | false ↦ λ h. h ] new

pub IsNewName-head : (c : Name × Ty) (cs : Columns) (name : Name) → IsNewName (c ∷ cs) name → same_name name c.0 ≡ false
IsNewName-head c cs name new =
    elim (same_name name c.0) as (λ b. cond b (Some c.1) (type_at cs name) ≡ None → b ≡ false) [ true ↦ λ h. cc | false ↦ λ h. refl ] new

-- a new name goes last
pub with_column-new : (done : Columns) (name : Name) (type : Ty) → IsNewName done name → with_column done name type ≡ done ++ (name, type) ∷ []
with_column-new [] name type new = refl
with_column-new (d ∷ ds) name type new =
    ap (λ b. cond b ((d.0, type) ∷ ds) (d ∷ with_column ds name type)) (IsNewName-head d ds name new)
    ∙ ap (λ l. d ∷ l) (with_column-new ds name type (IsNewName-tail d ds name new))

not_named : (ds : Columns) (c : Name × Ty) (rest : Columns) (name : Name) → IsNewName (ds ++ (c ∷ rest)) name → same_name name c.0 ≡ false
not_named [] c rest name new = IsNewName-head c rest name new
not_named (d ∷ ds) c rest name new = not_named ds c rest name (IsNewName-tail d (ds ++ (c ∷ rest)) name new)

-- among distinct names, each is new among those before it
pub new_before : (done : Columns) (c : Name × Ty) (rest : Columns) → HasDistinctNames (done ++ (c ∷ rest)) → IsNewName done c.0
new_before [] c rest h = refl
new_before (d ∷ ds) c rest h =
    ap (λ b. cond b (Some d.1) (type_at ds c.0)) (nat_list_eq_equiv.symm c.0 d.0 ∙ not_named ds c rest d.0 h.0)
    ∙ new_before ds c rest h.1

-- one more column is copied
pub copied_more : (done : Columns) (c : Name × Ty) (rest all : Columns) → HasDistinctNames all → done ++ (c ∷ rest) ≡ all → with_column done c.0 c.1 ++ rest ≡ all
copied_more done c rest all distinct e =
    let new = new_before done c rest (subst HasDistinctNames (sym e) distinct) in
    ap (λ l. l ++ rest) (with_column-new done c.0 c.1 new) ∙ append_assoc done (c ∷ []) rest ∙ e

not_the_first : (c d : Name × Ty) (cs : Columns) (name : Name) → IsNewName cs name → same_name name d.0 ≡ false → IsNewName (cs ++ d ∷ []) name
not_the_first c d [] name new other = ap (λ b. cond b (Some d.1) None) other
not_the_first c d (x ∷ xs) name new other =
    ap (λ b. cond b (Some x.1) (type_at (xs ++ d ∷ []) name)) (IsNewName-head x xs name new) ∙ not_the_first c d xs name (IsNewName-tail x xs name new) other

-- a new name behind distinct names leaves them distinct
pub HasDistinctNames-push : (cs : Columns) (name : Name) (type : Ty) → HasDistinctNames cs → IsNewName cs name → HasDistinctNames (cs ++ (name, type) ∷ [])
HasDistinctNames-push [] name type h new = (refl, tt)
HasDistinctNames-push (c ∷ cs) name type h new =
    (not_the_first c (name, type) cs c.0 h.0 (nat_list_eq_equiv.symm c.0 name ∙ IsNewName-head c cs name new), HasDistinctNames-push cs name type h.1 (IsNewName-tail c cs name new))

-- a name is among those of columns where it has a type
pub is_among-type_at : (cs : Columns) (name : Name) → is_among name (names_of cs) ≡ is_some (type_at cs name)
is_among-type_at [] name = refl
is_among-type_at (c ∷ cs) name =
    elim (same_name name c.0) as (λ b. (b || is_among name (names_of cs)) ≡ is_some (cond b (Some c.1) (type_at cs name))) [ true ↦ refl | false ↦ is_among-type_at cs name ]

pub none_there : (o : Option Ty) → is_some o ≡ false → o ≡ None
none_there None h = refl
none_there (Some x) h = cc

-- a name that isn't among those of columns is new
pub IsNewName-test : (cs : Columns) (name : Name) → is_among name (names_of cs) ≡ false → IsNewName cs name
IsNewName-test cs name h = none_there _ (sym (is_among-type_at cs name) ∙ h)

-- names are distinct where the test finds none that stands twice, and the other way round
pub distinct_from_test : (columns : Columns) → repeats (names_of columns) ≡ false → HasDistinctNames columns
distinct_from_test [] h = tt
distinct_from_test (c ∷ cs) h =
    let parts = or_parts (is_among c.0 (names_of cs)) _ h in (IsNewName-test cs c.0 parts.0, distinct_from_test cs parts.1)

pub test_from_distinct : (columns : Columns) → HasDistinctNames columns → repeats (names_of columns) ≡ false
test_from_distinct [] h = refl
test_from_distinct (c ∷ cs) h =
    ap (λ b. b || repeats (names_of cs)) (is_among-type_at cs c.0 ∙ ap is_some h.0) ∙ test_from_distinct cs h.1

-- a name that columns have is found by the test behind theirs, whatever comes after it
pub repeated_test : (before : Columns) (name : Name) (back : List Name) → is_some (type_at before name) ≡ true → repeats (names_of before ++ name ∷ back) ≡ true
repeated_test before name back h = repeats-again (names_of before) name back (is_among-type_at before name ∙ h)

-- a map's keys don't repeat
pub unrepeated : (es : List (Name × DataType)) → IsDistinct same_name (keys_of es) → repeats (names_of es) ≡ false
unrepeated es h =
    ap repeats (sym (map-map (λ entry. entry.0) column_of es)) ∙ test_from_distinct (map column_of es) (HasDistinctNames-entries es h)

-- the names of each schema are distinct
pub schema_has_distinct_names : (schema : Schema) → HasDistinctNames (columns schema)
schema_has_distinct_names schema =
    distinct_from_test (columns schema) (ap repeats (map-map (λ entry. entry.0) column_of schema.fields.entries) ∙ schema.distinct)

-- ---- columns that are cloned one by one

pub cloned_columns : (old new : List (Name × DataType)) → AllZip (λ p q. (q.0 ≡ p.0) × (ty q.1 ≡ ty p.1)) old new → map column_of new ≡ map column_of old
cloned_columns [] [] z = refl
cloned_columns [] (q ∷ new) z = elim z [ ]
cloned_columns (p ∷ old) [] z = elim z [ ]
cloned_columns (p ∷ old) (q ∷ new) z =
    let rest = cloned_columns old new z.1 in
    ap (λ n. (n, ty q.1) ∷ map column_of new) z.0.0 ∙ ap (λ t. (p.0, t) ∷ map column_of new) z.0.1 ∙ ap (λ l. column_of p ∷ l) rest

pub cloned_names : (old new : List (Name × DataType)) → AllZip (λ p q. (q.0 ≡ p.0) × (ty q.1 ≡ ty p.1)) old new → names_of new ≡ names_of old
cloned_names [] [] z = refl
cloned_names [] (q ∷ new) z = elim z [ ]
cloned_names (p ∷ old) [] z = elim z [ ]
cloned_names (p ∷ old) (q ∷ new) z = ap (λ n. n ∷ names_of new) z.0.0 ∙ ap (λ l. p.0 ∷ l) (cloned_names old new z.1)
