-- Types, columns and tables that are read one by one, and the tables' map.
use Rattle.plan_json.proofs.Names.{Global, List, None, Option, Some, Vec, [], ap, arith, codes, cond, false, get_or, is_some, length, map, nat_lt, not, option_and_then, position, refl, sym, take, true, ℕ, ◌&&◌, ◌++◌, ◌<◌, ◌==◌, ◌∙◌, ◌∷◌, ◌≡◌, ◌≤◌, a_table, column_list, declared_names, number, own_fault, part, part_of, shape_fault, table_item, table_list, unless, all_of, both, only_member, some_of, two_members, items_view, view, Columns, Name, columns, is_among, names_of, repeats, same_name, type_at, Data, Items, array, item, no_items, object, Declared, table_entry, column_name, column_of, columns_from, columns_of, each_column, keyed_type, struct_of, table_at, table_limit, table_name, table_of, tables_from, tables_of, text_of, type_of, as_array, at, get, get_item, row_named, type_rows, option_map_or, Ty, field_of, fields_from, Value, items_len-items_view, false_from_ne_true, lt-ltb, ltb-true, or_parts, items_len, members_len, repeats-again, TypeKey, is_among-type_at, row_of, option_map}
use Rattle.std.specs.Map.{lookup}
use Rattle.std.proofs.lemmas.Map.Made.{is_some-lookup, lookup-map_values}
use Rattle.indexmap.specs.IndexMap.{insert_entry}
use Rattle.indexmap.proofs.MapLemmas.{some_index}
use Rattle.plan_types.specs.declared.schema.Schema.{Schema}
use Rattle.plan_types.specs.declared.dtype.Fields.{roll-Fields}
use Rattle.plan_types.specs.declared.field.Field.{Field}
use Rattle.plan_types.proofs.FieldLemmas.{rolled_fields}
use Rattle.plan_json.proofs.ItemLemmas.{chained, both_are, kept, some_of-names, names_split, item_at, first_items-take}
use Rattle.plan_json.proofs.LookingLemmas.{array-from_as_array, object-from_only_member}

abbrev Entries : Type 0
Entries = List (Name × Schema)

pub names_of-entries : (es : Entries) → names_of (map table_entry es) ≡ names_of es
names_of-entries [] = refl
names_of-entries (e ∷ es) = ap (λ l. e.0 ∷ l) (names_of-entries es)

-- whether a table is found is whether its name is among them
pub is_among-entries : (es : Entries) (name : Name) → is_some (lookup (same_name name) es) ≡ is_among name (names_of (map table_entry es))
is_among-entries es name = is_some-lookup (same_name name) es ∙ ap (is_among name) (sym (names_of-entries es))

pub table_at-some : (es : Entries) (name : Name) (n : ℕ) (schema : Schema) → Some n ≡ position (same_name name) (names_of es) → Some schema ≡ lookup (same_name name) es → Some (n, columns schema) ≡ table_at (map table_entry es) name
table_at-some es name n schema at found =
    ap (λ o. both o (Some (columns schema))) (at ∙ ap (position (same_name name)) (sym (names_of-entries es)))
    ∙ ap (both (position (same_name name) (names_of (map table_entry es)))) (ap (option_map columns) found ∙ sym (lookup-map_values columns (same_name name) es))

pub table_at-none : (es : Entries) (name : Name) → None ≡ position (same_name name) (names_of es) → None ≡ table_at (map table_entry es) name
table_at-none es name none = ap (λ o. both o (lookup (same_name name) (map table_entry es))) (none ∙ ap (position (same_name name)) (sym (names_of-entries es)))

is_some-both : {A B : Type 0} (x : Option A) (y : Option B) → is_some x ≡ is_some y → is_some (both x y) ≡ is_some x
is_some-both (Some x) None e = sym e
is_some-both _ _ e = refl

-- a table is at a name if and only if the name is among them
pub is_some-table_at : (tables : Declared) (name : Name) → is_some (table_at tables name) ≡ is_among name (names_of tables)
is_some-table_at tables name =
    let e = some_index (same_name name) tables in
    is_some-both (position (same_name name) (names_of tables)) (lookup (same_name name) tables) e ∙ e ∙ is_some-lookup (same_name name) tables

-- a new table goes last
pub declared-insert : (es : Entries) (name : Name) (schema : Schema) → is_among name (names_of (map table_entry es)) ≡ false → map table_entry (insert_entry same_name es name schema) ≡ map table_entry es ++ (name, columns schema) ∷ []
declared-insert [] name schema new = refl
declared-insert (e ∷ es) name schema new =
    let parts = or_parts (same_name name e.0) _ new in
    ap (λ b. map table_entry (cond b ((e.0, schema) ∷ es) (e ∷ insert_entry same_name es name schema))) parts.0 ∙ ap (λ l. table_entry e ∷ l) (declared-insert es name schema parts.1)

-- a type by its key
pub type_by_key : (d : Data) (word : List ℕ) (value : Data) (row : List ℕ × TypeKey) (t : Ty) → Some (word, value) ≡ only_member d → Some row ≡ row_named type_rows word → keyed_type row.1 value ≡ Some t → type_of d ≡ Some t
type_by_key d word value row t is named said =
    ap type_of (object-from_only_member d word value is) ∙ ap (option_and_then (λ (r : List ℕ × TypeKey). keyed_type r.1 value)) (sym named) ∙ said

pub each_column-all_of : (ds : Items) → each_column ds ≡ all_of column_of ds
each_column-all_of no_items = refl
each_column-all_of (item d ds) = ap (λ o. option_map (λ p. p.0 ∷ p.1) (both (column_of d) o)) (each_column-all_of ds)

-- all fields are read
pub struct_all : (d : Data) (ds : Items) (made : Vec Field Global) → Some ds ≡ as_array d → all_of column_of ds ≡ Some (map field_of made.items) → struct_of d ≡ Some (row_of (roll-Fields (record { items = made })))
struct_all d ds made is read =
    ap struct_of (array-from_as_array d ds is) ∙ ap (option_map fields_from) (each_column-all_of ds ∙ read) ∙ ap Some (sym (rolled_fields made))

-- a column that is read gives itself the name that is read
pub column_name-read : (d : Data) (c : Name × Ty) → column_of d ≡ Some c → column_name d ≡ Some c.0
column_name-read (array (item name (item type no_items))) c e = (both_are (text_of name) (type_of type) c e).0
column_name-read _ c e = cc

-- all columns are read, and no name repeats
pub columns_all : (d : Data) (ds : Items) (cs : Columns) → Some ds ≡ as_array d → all_of column_of ds ≡ Some cs → repeats (names_of cs) ≡ false → columns_of d ≡ Some cs
columns_all d ds cs is read distinct =
    ap (option_and_then columns_from) (sym is)
    ∙ ap (λ b. cond b None (each_column ds)) (ap repeats (some_of-names column_of column_name column_name-read ds cs read) ∙ distinct) ∙ each_column-all_of ds ∙ read

-- a name that earlier columns have repeats among all
pub column_repeated : (d : Data) (vs : List Value) (i : ℕ) (v : Value) (cs : Columns) (c : Name × Ty) → Some (items_view vs) ≡ as_array d → i < length vs → v ≡ get_or vs i v → all_of column_of (items_view (take i vs)) ≡ Some cs → column_of (view v) ≡ Some c → is_some (type_at cs c.0) ≡ true → own_fault column_list d ≡ Some (shape_fault d)
column_repeated d vs i v cs c found within is read now there =
    let split = names_split column_name (items_view vs) i (view v) c.0 (item_at vs i v within is) (column_name-read (view v) c now) in
    let before = ap (some_of column_name) (first_items-take vs i) ∙ some_of-names column_of column_name column_name-read (items_view (take i vs)) cs read in
    let again = ap repeats (split.1 ∙ ap (λ l. l ++ c.0 ∷ split.0) before) ∙ repeats-again (names_of cs) c.0 _ (is_among-type_at cs c.0 ∙ there) in
    ap (λ o. unless (shape_fault d) (option_map_or (λ items. not (repeats (some_of column_name items))) o false)) (sym found) ∙ ap (λ b. unless (shape_fault d) (not b)) again

-- the first of two members is found at its key
get-two_members : (first second : List ℕ) (d : Data) (p : Data × Data) → two_members first second d ≡ Some p → get first d ≡ Some p.0
get-two_members first second (object ms) p e = (both_are _ _ p (kept (members_len ms == 2) _ p e).1).0
get-two_members first second _ p e = cc

-- a table that is read gives itself the name that is read
pub table_name-read : (d : Data) (t : Name × Columns) → table_of d ≡ Some t → table_name d ≡ Some t.0
table_name-read d t e =
    let pair = chained (λ p. both (text_of p.0) (columns_of p.1)) (two_members (codes "name") (codes "columns") d) t e in
    ap (option_and_then text_of) (get-two_members (codes "name") (codes "columns") d pair.0 pair.1) ∙ (both_are (text_of pair.0.0) (columns_of pair.0.1) t pair.2).0

pub table_names-read : (ds : Items) (ts : Declared) → all_of table_of ds ≡ Some ts → some_of table_name ds ≡ names_of ts
table_names-read ds ts read = some_of-names table_of table_name table_name-read ds ts read

pub tables_too_many : (d : Data) (vs : List Value) → Some (items_view vs) ≡ as_array d → table_limit ≤ length vs → own_fault table_list d ≡ Some (shape_fault d)
tables_too_many d vs is full =
    ap (λ o. unless (shape_fault d) (option_map_or (λ items. nat_lt (items_len items) table_limit) o false)) (sym is)
    ∙ ap (unless (shape_fault d)) (ap (λ n. nat_lt n table_limit) (items_len-items_view vs) ∙ false_from_ne_true _ (λ less. omega (arith, ltb-true (length vs) table_limit less)))

pub tables_all : (d : Data) (vs : List Value) (ts : Declared) → Some (items_view vs) ≡ as_array d → length vs < table_limit → all_of table_of (items_view vs) ≡ Some ts → repeats (names_of ts) ≡ false → tables_of d ≡ Some ts
tables_all d vs ts is some read distinct =
    ap (option_and_then tables_from) (sym is)
    ∙ ap (λ b. cond (b && not (repeats (some_of table_name (items_view vs)))) (all_of table_of (items_view vs)) None) (ap (λ n. nat_lt n table_limit) (items_len-items_view vs) ∙ lt-ltb (length vs) table_limit some)
    ∙ ap (λ b. cond (not b) (all_of table_of (items_view vs)) None) (ap repeats (table_names-read (items_view vs) ts read) ∙ distinct) ∙ read

-- tables that are read have the names that they give themselves
pub declared_names-read : (d : Data) (ts : Declared) → tables_of d ≡ Some ts → declared_names d ≡ names_of ts
declared_names-read d ts e =
    let items = chained tables_from (as_array d) ts e in
    ap (λ o. option_map_or (some_of table_name) o []) items.1 ∙ table_names-read items.0 ts (kept _ _ ts items.2).1

-- the next table, behind those that were read
pub table_next : (d : Data) (vs : List Value) (i : ℕ) (v : Value) (ts : Declared) → Some (items_view vs) ≡ as_array d → i < length vs → v ≡ get_or vs i v → all_of table_of (items_view (take i vs)) ≡ Some ts → part_of table_list (number i) d ≡ Some (part (a_table (names_of ts)) (view v))
table_next d vs i v ts is within at read =
    ap (option_and_then (table_item i)) (sym is)
    ∙ ap (λ ds. option_map (part (a_table (some_of table_name ds))) (get_item i (items_view vs))) (first_items-take vs i)
    ∙ ap (λ l. option_map (part (a_table l)) (get_item i (items_view vs))) (table_names-read (items_view (take i vs)) ts read)
    ∙ ap (option_map (part (a_table (names_of ts)))) (item_at vs i v within at)
