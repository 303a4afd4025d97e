-- A value that is a query has no fault, along any path, and bytes that write one are refused as out of memory alone: what is of its form has no fault of its own, and each part of it is of the
-- form that its place asks for.
use Rattle.plan_json.proofs.Names.{Bool, List, None, Option, Some, [], ap, bytes_eq, codes, cond, false, is_some, length, nat_lt, not, option_and_then, option_map, refl, slice_get, subst, suc, sym, true, zero, ℕ, ◌&&◌, ◌==◌, ◌||◌, ◌∙◌, ◌∷◌, ◌≡◌, Form, Part, Path, Step, an_excluded, excluded_form, excluded_key_form, a_column, a_counted_type, a_new_name, a_number_of, a_plan, a_query, a_scan, a_table, a_text, a_type, a_typed_literal, asked_form, column_list, declared_names, either_part, fault_at, field_list, has_shape, has_type_shape, items_of, key, key_form, keyed_form, keyed_part, list_of, number, own_fault, part, part_if, part_of, places_form, query_part, shape_fault, table_list, table_part, type_form, type_key_form, typed_part, unless, all_of, both, first_items, some_of, two_items, two_members, Columns, Name, is_among, names_of, repeats, Data, Items, array, item, member, no_items, no_members, object, string, Declared, column_name, column_of, columns_of, counted, counted_of, each_column, number_of, struct_of, table_at, table_limit, table_name, table_of, tables_of, text_of, type_of, type_says, typed_from, typed_of, unit_of, at, get_item, Asked, Places, Read, a_form, asks, columns_read, key_named, leaf, list_read, listed, literal_read, many, reads_of, row_named, says, single, table_read, type_read, type_rows, IsQueryOf, QueryModel, each_as, list_as, places_as, plan_in, plan_of, query_from, query_of, read_as, these_as, option_map_or, ListType, StructType, Ty, fields_from, is_counted, IsErrorOf, and_from, and_parts, eq-eqb, JsonError, items_len, repeats-apart, Key, NoMemory, NotJson, IsRefusalOf, WritesQuery, TypeKey, plan_asked, not-true, same_Some, none-some}
use Rattle.plan_json.specs.declared.forms.TypeKey.TheVariants as types
use Rattle.plan_json.specs.declared.forms.ExcludedKey.{ExcludedKey}
use Rattle.plan_json.specs.declared.forms.ExcludedKey.TheVariants as excludes
use Rattle.plan_dsl.specs.Sources.{Excluded, ExcludedName, ExcludedType}
use Rattle.plan_json.specs.Forms.{excluded_read, excluded_rows, optional, order, order_items, order_says}
use Rattle.plan_json.specs.Faults.{item_part, optional_form, order_form}
use Rattle.serde_json.specs.Data.{null}
use Rattle.plan_json.specs.Leaves.{excluded_item, keyed_excluded}
use Rattle.plan_json.specs.declared.forms.Leaf.TheVariants as leaves
use Rattle.plan_json.specs.declared.forms.SmallLeaf.TheVariants as smalls
use Rattle.plan_json.specs.declared.forms.Writing.TheVariants as writings
use Rattle.plan_json.proofs.DeclarationLemmas.{is_some-table_at, each_column-all_of, table_name-read, declared_names-read}
use Rattle.plan_json.proofs.FaultLemmas.{name_fault-tested}
use Rattle.plan_json.proofs.FormLemmas.{each_as-all_of}
use Rattle.plan_json.proofs.ItemLemmas.{Present, mapped, chained, both_are, kept, passed, opened, unchained, all_of-item, names_split}
use Rattle.plan_json.proofs.LiteralLemmas.{written}

-- the value is of the form: what is read of it, with what holds of that, and the reading
abbrev IsOf : Form → Data → Type 0
IsOf a_query d = Present (query_of d)
IsOf table_list d = Present (tables_of d)
IsOf column_list d = Present (columns_of d)
IsOf field_list d = Present (struct_of d)
IsOf a_column d = Present (column_of d)
IsOf a_type d = Present (type_of d)
IsOf (a_table before) d = (t : (table : Name × Columns) × (is_among table.0 before ≡ false)) × (table_of d ≡ Some t.0)
IsOf (a_new_name before) d = (n : (name : Name) × (is_among name before ≡ false)) × (text_of d ≡ Some n.0)
IsOf (a_scan names) d = (n : (name : Name) × (is_among name names ≡ true)) × (text_of d ≡ Some n.0)
IsOf a_typed_literal d = Present (typed_of d)
IsOf a_counted_type d = Present (counted_of d)
IsOf an_excluded d = Present (excluded_item d)
IsOf (keyed_form names kind) d = (r : (tables : Declared) × (names_of tables ≡ names) × Read) × (read_as r.0 (a_form kind) d ≡ Some r.2)
IsOf (list_of names a) d = (r : (tables : Declared) × (names_of tables ≡ names) × Read) × (read_as r.0 (many a) d ≡ Some r.2)
IsOf (items_of names ps) d = (r : (tables : Declared) × (names_of tables ≡ names) × List Read) × (list_as r.0 ps d ≡ Some r.2)
IsOf (order_form names) d = (r : (tables : Declared) × (names_of tables ≡ names) × Read) × (read_as r.0 order d ≡ Some r.2)
IsOf (optional_form names a) d = (r : (tables : Declared) × (names_of tables ≡ names) × Read) × (read_as r.0 (optional a) d ≡ Some r.2)
IsOf form d = Unit {0} × (has_shape form d ≡ true)

abbrev Holds : Part → Type 0
Holds p = IsOf p.form p.value

made : {A B : Type 0} (f : A → B) (o : Option A) (y : B) → option_map f o ≡ Some y → Present o
made f o y e = let x = mapped f o y e in (x.0, x.1)

shown : {A B : Type 0} (f : A → B) (o : Option A) (y : B) → option_map f o ≡ Some y → Unit {0} × (is_some o ≡ true)
shown f o y e = (tt, ap is_some (mapped f o y e).1)

-- ---- no fault of its own

keyed : (form_of : List ℕ → Option Form) (word : List ℕ) (value : Data) → Present (form_of word) → is_some (keyed_part form_of (object (member word value no_members))) ≡ true
keyed form_of word value (form, is) = ap (λ o. is_some {T = List ℕ × Part} (option_map (λ f. (word, part f value)) o)) is

type_row : (word : List ℕ) (value : Data) (t : Ty) → type_of (object (member word value no_members)) ≡ Some t → (row : List ℕ × TypeKey) × (row_named type_rows word ≡ Some row) × (type_says row.1 (unit_of value) (type_of value) (struct_of value) ≡ Some t)
type_row word value t e = chained (λ row. type_says row.1 (unit_of value) (type_of value) (struct_of value)) (row_named type_rows word) t e

type_shape : (d : Data) (t : Ty) → type_of d ≡ Some t → has_type_shape d ≡ true
type_shape (string name) t e = ap (λ o. is_some o || false) e
type_shape (object (member word value no_members)) t e =
    let row = type_row word value t e in keyed type_key_form word value (type_form row.0.1, ap (option_map (λ (r : List ℕ × TypeKey). type_form r.1)) row.1)
type_shape _ t e = cc

excluded_row : (word : List ℕ) (value : Data) (x : Excluded) → excluded_item (object (member word value no_members)) ≡ Some x → (row : List ℕ × ExcludedKey) × (row_named excluded_rows word ≡ Some row) × (keyed_excluded row.1 value ≡ Some x)
excluded_row word value x e = chained (λ row. keyed_excluded row.1 value) (row_named excluded_rows word) x e

these_count : (tables : Declared) (ps : List Asked) (ds : Items) (rs : List Read) → these_as tables ps ds ≡ Some rs → items_len ds ≡ length ps
these_count tables [] no_items rs e = refl
these_count tables (a ∷ ps) (item d ds) rs e = let parts = opened (read_as tables a d) (these_as tables ps ds) rs e in ap suc (these_count tables ps ds parts.1 parts.3)
these_count tables _ _ rs e = cc

shape : (form : Form) (d : Data) → IsOf form d → has_shape form d ≡ true
shape a_query d (q, e) = ap is_some (chained query_from (two_members (codes "tables") (codes "plan") d) q e).1
shape table_list (array ds) (ts, e) = (and_parts _ _ (kept (nat_lt (items_len ds) table_limit && not (repeats (some_of table_name ds))) (all_of table_of ds) ts e).0).0
shape column_list (array ds) (cs, e) = ap not (passed (repeats (some_of column_name ds)) (each_column ds) cs e).0
shape field_list (array ds) h = refl
shape a_column (array (item name (item type no_items))) h = refl
shape a_type d (t, e) = type_shape d t e
shape (a_table before) d ((t, new), e) = ap is_some (chained (λ q. both (text_of q.0) (columns_of q.1)) (two_members (codes "name") (codes "columns") d) t e).1
shape (a_new_name before) d (name, is) = ap is_some is
shape (a_scan names) d (name, is) = ap is_some is
shape a_typed_literal d (op, e) = ap is_some (chained typed_from (two_items d) op e).1
shape a_counted_type d (t, e) =
    let found = chained counted (type_of d) t e in
    and_from _ _ (type_shape d found.0 found.1) (ap (λ o. option_map_or is_counted o true) found.1 ∙ (kept (is_counted found.0) (Some found.0) t found.2).0)
shape an_excluded (object (member word value no_members)) (x, e) =
    let row = excluded_row word value x e in
    keyed excluded_key_form word value (excluded_form row.0.1, ap (option_map (λ (r : List ℕ × ExcludedKey). excluded_form r.1)) row.1)
shape (keyed_form names kind) (object (member word value no_members)) ((tables, same, r), e) =
    let row = chained (λ row. option_and_then (says row.1) (places_as tables (asks row.1) value)) (key_named kind word) r e in
    keyed (key_form names kind) word value (places_form names (asks row.0.1), ap (option_map (λ (r : List ℕ × Key). places_form names (asks r.1))) row.1)
shape (list_of names a) (array ds) h = refl
shape (items_of names ps) (array ds) ((tables, same, rs), e) = eq-eqb _ _ (these_count tables ps ds rs e)
shape (order_form names) null h = refl
shape (order_form names) (array ds) ((tables, same, r), e) =
    let rs = chained order_says (these_as tables order_items ds) r e in eq-eqb _ _ (these_count tables order_items ds rs.0 rs.1)
shape (optional_form names a) null h = refl
shape (optional_form names a) (array ds) h = refl
shape _ _ (x, e) = cc

own : (form : Form) (d : Data) → IsOf form d → own_fault form d ≡ None
own (a_new_name before) d ((name, new), is) = name_fault-tested (λ n. not (is_among n before)) d name is (ap not new)
own (a_scan names) d ((name, there), is) = name_fault-tested (λ n. is_among n names) d name is there
own form d h = ap (unless (shape_fault d)) (shape form d h)

-- ---- what is asked

asked_is : (names : List Name) (tables : Declared) → names_of tables ≡ names → (a : Asked) (d : Data) → Present (read_as tables a d) → IsOf (asked_form names a) d
asked_is names tables same (leaf (leaves.Literal writings.Typed)) d (r, e) = made literal_read (typed_of d) r e
asked_is names tables same (leaf leaves.Dtype) d (r, e) = made type_read (type_of d) r e
asked_is names tables same (leaf leaves.Table) d (r, e) =
    let table = mapped (λ table. table_read table.0 table.1) (option_and_then (table_at tables) (text_of d)) r e in
    let at = chained (table_at tables) (text_of d) table.0 table.1 in
    ((at.0, ap (is_among at.0) (sym same) ∙ sym (is_some-table_at tables at.0) ∙ ap is_some at.2), at.1)
asked_is names tables same (leaf leaves.Excluded) d (r, e) = made excluded_read (excluded_item d) r e
asked_is names tables same (leaf leaves.Columns) d (r, e) = made columns_read (columns_of d) r e
asked_is names tables same (leaf (leaves.Small smalls.Operator)) d (r, e) = shown _ _ r e
asked_is names tables same (leaf which) d (r, e) = shown _ _ r e
asked_is names tables same _ d (r, e) = ((tables, same, r), e)

places_are : (names : List Name) (tables : Declared) → names_of tables ≡ names → (ps : Places) (d : Data) (rs : List Read) → places_as tables ps d ≡ Some rs → IsOf (places_form names ps) d
places_are names tables same (single a) d rs e = asked_is names tables same a d (made (λ r. r ∷ []) (read_as tables a d) rs e)
places_are names tables same (listed ps) d rs e = ((tables, same, rs), e)

this_read : (tables : Declared) (ps : List Asked) (ds : Items) (rs : List Read) (n : ℕ) (a : Asked) (v : Data) → these_as tables ps ds ≡ Some rs → slice_get ps n ≡ Some a → get_item n ds ≡ Some v → Present (read_as tables a v)
this_read tables (b ∷ ps) (item d ds) rs zero a v e at here =
    let parts = opened (read_as tables b d) (these_as tables ps ds) rs e in
    (parts.0, (λ i. read_as tables (same_Some a b (sym at) i) (same_Some v d (sym here) i)) ∙ parts.2)
this_read tables (b ∷ ps) (item d ds) rs (suc n) a v e at here =
    let parts = opened (read_as tables b d) (these_as tables ps ds) rs e in this_read tables ps ds parts.1 n a v parts.3 at here
this_read tables _ _ rs n a v e at here = cc

type_key_is : (k : TypeKey) (value : Data) (t : Ty) → type_says k (unit_of value) (type_of value) (struct_of value) ≡ Some t → IsOf (type_form k) value
type_key_is types.List value t e = made (λ u. ListType u) (type_of value) t e
type_key_is types.Struct value t e = made (λ fs. StructType fs) (struct_of value) t e
type_key_is _ value t e = shown _ (unit_of value) t e

excluded_key_is : (k : ExcludedKey) (value : Data) (x : Excluded) → keyed_excluded k value ≡ Some x → IsOf (excluded_form k) value
excluded_key_is excludes.Name value x e = shown (λ name. ExcludedName name) (text_of value) x e
excluded_key_is excludes.Dtype value x e = made (λ type. ExcludedType type) (type_of value) x e

-- ---- parts

either_holds : (f s : Bool) (a b p : Part) → Holds a → Holds b → either_part f s a b ≡ Some p → Holds p
either_holds true s a b p first second is = subst Holds (same_Some a p is) first
either_holds false true a b p first second is = subst Holds (same_Some b p is) second
either_holds false false a b p first second is = cc

-- the value of a key that names a form
key_holds : (form_of : List ℕ → Option Form) (word : List ℕ) (value : Data) (form : Form) → form_of word ≡ Some form → IsOf form value → (at : List ℕ) (p : Part) → option_and_then (part_if at) (keyed_part form_of (object (member word value no_members))) ≡ Some p → Holds p
key_holds form_of word value form is well at p here =
    let found = sym (ap (λ o. option_and_then (part_if at) (option_map (λ f. (word, part f value)) o)) is) ∙ here in
    either_holds (bytes_eq at word) false (part form value) (part form value) p well well found

-- an item of a list, each of which reads to something
item_holds : {A : Type 0} (form : Form) (read : Data → Option A) (ds : Items) (xs : List A) (n : ℕ) (p : Part) → all_of read ds ≡ Some xs → ((v : Data) → Present (read v) → IsOf form v) → option_map (part form) (get_item n ds) ≡ Some p → Holds p
item_holds form read ds xs n p all well here =
    let v = mapped (part form) (get_item n ds) p here in subst Holds v.2 (well v.0 (all_of-item read ds xs n v.0 all v.1))

-- the value of a type's key
type_part : (d : Data) (t : Ty) → type_of d ≡ Some t → (at : List ℕ) (p : Part) → option_and_then (part_if at) (keyed_part type_key_form d) ≡ Some p → Holds p
type_part (object (member word value no_members)) t e at p here =
    let row = type_row word value t e in
    key_holds type_key_form word value (type_form row.0.1) (ap (option_map (λ (r : List ℕ × TypeKey). type_form r.1)) row.1) (type_key_is row.0.1 value t row.2) at p here
type_part _ t _ at p here = cc

-- the items of a list of exactly these
these_hold : (names : List Name) (tables : Declared) → names_of tables ≡ names → (ps : List Asked) (ds : Items) (rs : List Read) → these_as tables ps ds ≡ Some rs → (n : ℕ) (p : Part) → item_part names ps n ds ≡ Some p → Holds p
these_hold names tables same ps ds rs e n p here =
    let found = kept (items_len ds == length ps) (option_map (λ q. part (asked_form names q.0) q.1) (both (slice_get ps n) (get_item n ds))) p here in
    let q = mapped (λ (q : Asked × Data). part (asked_form names q.0) q.1) (both (slice_get ps n) (get_item n ds)) p found.1 in
    let are = both_are (slice_get ps n) (get_item n ds) q.0 q.1 in
    subst Holds q.2 (asked_is names tables same q.0.0 q.0.1 (this_read tables ps ds rs n q.0.0 q.0.1 e are.0 are.1))

parts : (form : Form) (step : Step) (d : Data) → IsOf form d → (p : Part) → part_of form step d ≡ Some p → Holds p
parts table_list (number n) (array ds) (ts, e) p here =
    let all = kept (nat_lt (items_len ds) table_limit && not (repeats (some_of table_name ds))) (all_of table_of ds) ts e in
    let distinct : repeats (some_of table_name ds) ≡ false = not-true (repeats (some_of table_name ds)) (and_parts _ _ all.0).1 in
    let v = mapped (part (a_table (some_of table_name (first_items n ds)))) (get_item n ds) p here in
    let table = all_of-item table_of ds ts n v.0 all.1 v.1 in
    let split = names_split table_name ds n v.0 table.0.0 v.1 (table_name-read v.0 table.0 table.1) in
    subst Holds v.2 ((table.0, repeats-apart (some_of table_name (first_items n ds)) table.0.0 split.0 (sym (ap repeats split.1) ∙ distinct)), table.1)
parts column_list (number n) (array ds) (cs, e) p here =
    item_holds a_column column_of ds cs n p (sym (each_column-all_of ds) ∙ (passed (repeats (some_of column_name ds)) (each_column ds) cs e).1) (λ v h. h) here
parts field_list (number n) (array ds) (fs, e) p here =
    let read = mapped fields_from (each_column ds) fs e in item_holds a_column column_of ds read.0 n p (sym (each_column-all_of ds) ∙ read.1) (λ v h. h) here
parts a_column (number n) (array (item name (item type no_items))) (c, e) p here =
    let are = both_are (text_of name) (type_of type) c e in either_holds (n == 0) (n == 1) (part a_text name) (part a_type type) p (tt, ap is_some are.0) (c.1, are.1) here
parts a_typed_literal (number n) d (op, e) p here =
    let pair = chained typed_from (two_items d) op e in
    let type = chained (λ t. number_of t pair.0.1) (counted_of pair.0.0) op pair.2 in
    either_holds (n == 0) (n == 1) (part a_counted_type pair.0.0) (part (a_number_of type.0) pair.0.1) p (type.0, type.1) (tt, ap is_some type.2)
    (sym (ap (option_and_then (typed_part n)) pair.1 ∙ ap (λ o. cond (n == 0) (Some (part a_counted_type pair.0.0)) (cond (n == 1) (option_map (λ t. part (a_number_of t) pair.0.1) o) None)) type.1) ∙ here)
parts (list_of names a) (number n) (array ds) ((tables, same, r), e) p here =
    let rs = mapped (λ xs. list_read a (reads_of xs)) (each_as tables a ds) r e in
    item_holds (asked_form names a) (read_as tables a) ds rs.0 n p (sym (each_as-all_of tables a ds) ∙ rs.1) (asked_is names tables same a) here
parts (items_of names ps) (number n) (array ds) ((tables, same, rs), e) p here = these_hold names tables same ps ds rs e n p here
parts (order_form names) (number n) (array ds) ((tables, same, r), e) p here =
    let rs = chained order_says (these_as tables order_items ds) r e in these_hold names tables same order_items ds rs.0 rs.1 n p here
parts (optional_form names a) (number n) (array ds) ((tables, same, r), e) p here =
    let rs = mapped (λ xs. list_read a (reads_of xs)) (each_as tables a ds) r e in
    item_holds (asked_form names a) (read_as tables a) ds rs.0 n p (sym (each_as-all_of tables a ds) ∙ rs.1) (asked_is names tables same a) here
parts a_query (key word) d (q, e) p here =
    let pair = chained query_from (two_members (codes "tables") (codes "plan") d) q e in
    let tables = chained (λ ts. option_map (λ tree. record { tables = ts; plan = tree }) (plan_of ts pair.0.1)) (tables_of pair.0.0) q pair.2 in
    let tree = mapped (λ tree. record { tables = tables.0; plan = tree }) (plan_of tables.0 pair.0.1) q tables.2 in
    let plan = chained plan_in (read_as tables.0 plan_asked pair.0.1) tree.0 tree.1 in
    either_holds (bytes_eq word (codes "tables")) (bytes_eq word (codes "plan")) (part table_list pair.0.0) (part (a_plan (declared_names pair.0.0)) pair.0.1) p
    (tables.0, tables.1) ((tables.0, sym (declared_names-read pair.0.0 tables.0 tables.1), plan.0), plan.1)
    (sym (ap (option_and_then (query_part word)) pair.1) ∙ here)
parts a_type (key word) d (t, e) p here = type_part d t e word p here
parts (a_table before) (key word) d ((t, new), e) p here =
    let pair = chained (λ q. both (text_of q.0) (columns_of q.1)) (two_members (codes "name") (codes "columns") d) t e in
    let are = both_are (text_of pair.0.0) (columns_of pair.0.1) t pair.2 in
    either_holds (bytes_eq word (codes "name")) (bytes_eq word (codes "columns")) (part (a_new_name before) pair.0.0) (part column_list pair.0.1) p
    ((t.0, new), are.0) (t.1, are.1) (sym (ap (option_and_then (table_part before word)) pair.1) ∙ here)
parts a_counted_type (key word) d (t, e) p here = let found = chained counted (type_of d) t e in type_part d found.0 found.1 word p here
parts an_excluded (key at) (object (member word value no_members)) (x, e) p here =
    let row = excluded_row word value x e in
    key_holds excluded_key_form word value (excluded_form row.0.1) (ap (option_map (λ (r : List ℕ × ExcludedKey). excluded_form r.1)) row.1) (excluded_key_is row.0.1 value x row.2) at p here
parts (keyed_form names kind) (key at) (object (member word value no_members)) ((tables, same, r), e) p here =
    let row = chained (λ row. option_and_then (says row.1) (places_as tables (asks row.1) value)) (key_named kind word) r e in
    let args = chained (says row.0.1) (places_as tables (asks row.0.1) value) r row.2 in
    key_holds (key_form names kind) word value (places_form names (asks row.0.1))
    (ap (option_map (λ (r : List ℕ × Key). places_form names (asks r.1))) row.1) (places_are names tables same (asks row.0.1) value args.0 args.1) at p here
parts _ _ _ _ p here = cc

no_fault : (form : Form) (d : Data) → IsOf form d → (path : Path) → fault_at form d path ≡ None
no_fault form d h [] = own form d h
no_fault form d h (step ∷ path) =
    unchained (λ below. fault_at below.form below.value path) (part_of form step d) (λ p here. no_fault p.form p.value (parts form step d h p here) path)

-- an error of a value that is a query is out of memory
pub query_has_no_fault : (d : Data) (query : QueryModel) (error : JsonError) → IsQueryOf d query → IsErrorOf a_query d error → error ≡ NoMemory
query_has_no_fault d query NotJson is bad = absurd bad
query_has_no_fault d query NoMemory is bad = refl
query_has_no_fault d query _ is (path, told, h) = absurd (none-some _ (sym (no_fault a_query d (query, is) path) ∙ h))

-- ---- the query that bytes write

pub writes_one_query : (bytes : List ℕ) (query other : QueryModel) → WritesQuery bytes query → WritesQuery bytes other → query ≡ other
writes_one_query bytes query other (d, text, is) (e, written, found) =
    same_Some query other (sym is ∙ ap query_of (same_Some d e (sym text.1 ∙ written.1)) ∙ found)

pub refused_query_is_memory : (bytes : List ℕ) (query : QueryModel) (error : JsonError) → WritesQuery bytes query → IsRefusalOf bytes error → error ≡ NoMemory
refused_query_is_memory bytes query NotJson (d, text, is) none = absurd (none d text)
refused_query_is_memory bytes query NoMemory writes told = refl
refused_query_is_memory bytes query error (d, text, is) (e, written, bad) =
    query_has_no_fault d query error is (subst (λ x. IsErrorOf a_query x error) (same_Some e d (sym written.1 ∙ text.1)) bad)
