-- What is read fits what was asked, and what a key or a list of places asks.
use Rattle.plan_json.proofs.Names.{List, Option, Some, [], ap, length, map, option_and_then, option_map, refl, subst, suc, sym, true, ℕ, ◌∙◌, ◌∷◌, ◌≡◌, ◌&&◌, arith, take, zero, Data, Items, array, item, member, no_items, no_members, object, as_null, text_of, type_of, columns_of, table_at, operator_of, mode_of, Declared, AllFit, Asked, Fits, Read, a_form, all_fit, asked_in, asks, columns_read, expression, expression_read, expression_rows, expression_says, fits, flag_read, key_named, leaf, list_read, literal_read, many, mode_read, name_read, nothing_read, operator_read, place_view, places_view, plan_rows, reads_of, row_named, says, table_read, type_read, each_as, leaf_of, list_as, places_as, read_as, these_as, Kind, Key, same_Some}
use Rattle.plan_json.specs.Forms.{Reads, excluded_read, function_read, index_read, keep_read, kind_of, listed_leaf, method_read, natural_read, optional_name_read, optional_natural_read, statistic_read, no_order, optional, order, order_items, order_says, plan_read, plan_says, selector, selector_read, selector_rows, selector_says}
use Rattle.plan_json.specs.Leaves.{excluded_item, function_of, index_of, keep_of, natural_of, optional_natural_of, optional_text_of, statistic_of, literal_written, method_of}
use Rattle.plan_json.specs.declared.forms.Kind.TheVariants as kinds
use Rattle.plan_json.specs.declared.forms.Key.TheVariants as keys
use Rattle.plan_json.specs.declared.forms.Leaf.{Leaf}
use Rattle.plan_json.specs.declared.forms.Leaf.TheVariants as leaves
use Rattle.plan_json.specs.declared.forms.SmallLeaf.TheVariants as smalls
use Rattle.plan_json.specs.declared.forms.ListLeaf.{ListLeaf}
use Rattle.plan_json.specs.declared.forms.ListLeaf.TheVariants as lists
use Rattle.plan_json.specs.declared.forms.Place.{Place}
use Rattle.plan_json.specs.declared.forms.Place.TheVariants as places
use Rattle.plan_json.specs.declared.forms.Places.{Places}
use Rattle.plan_json.specs.declared.forms.Places.TheVariants as counts
use Rattle.plan_json.specs.Arguments.{args_view}
use Rattle.plan_json.specs.declared.arguments.Args.{Args}
use Rattle.serde_json.specs.Find.{as_bool}
use Rattle.plan_json.proofs.ItemLemmas.{mapped, chained, opened}

-- ---- one thing

made_fits : {A : Type 0} (a : Asked) (f : A → Read) → ((x : A) → fits a (f x) ≡ true) → (o : Option A) (r : Read) → option_map f o ≡ Some r → Fits a r
made_fits a f each o r e = let x = mapped f o r e in record { fit = subst (λ y. fits a y ≡ true) x.2 (each x.0) }

leaf_fits : (tables : Declared) (which : Leaf) (d : Data) (r : Read) → leaf_of tables which d ≡ Some r → Fits (leaf which) r
leaf_fits tables leaves.Name d r e = made_fits (leaf leaves.Name) name_read (λ x. refl) (text_of d) r e
leaf_fits tables (leaves.Literal how) d r e = made_fits (leaf (leaves.Literal how)) literal_read (λ x. refl) (literal_written how d) r e
leaf_fits tables leaves.Dtype d r e = made_fits (leaf leaves.Dtype) type_read (λ x. refl) (type_of d) r e
leaf_fits tables leaves.Table d r e = made_fits (leaf leaves.Table) (λ table. table_read table.0 table.1) (λ x. refl) (option_and_then (table_at tables) (text_of d)) r e
leaf_fits tables leaves.Columns d r e = made_fits (leaf leaves.Columns) columns_read (λ x. refl) (columns_of d) r e
leaf_fits tables leaves.Excluded d r e = made_fits (leaf leaves.Excluded) excluded_read (λ x. refl) (excluded_item d) r e
leaf_fits tables leaves.Function d r e = made_fits (leaf leaves.Function) function_read (λ x. refl) (function_of d) r e
leaf_fits tables leaves.OptionalName d r e = made_fits (leaf leaves.OptionalName) optional_name_read (λ x. refl) (optional_text_of d) r e
leaf_fits tables (leaves.Small smalls.Operator) d r e = made_fits (leaf (leaves.Small smalls.Operator)) operator_read (λ x. refl) (operator_of d) r e
leaf_fits tables (leaves.Small smalls.Method) d r e = made_fits (leaf (leaves.Small smalls.Method)) method_read (λ x. refl) (method_of d) r e
leaf_fits tables (leaves.Small smalls.Mode) d r e = made_fits (leaf (leaves.Small smalls.Mode)) mode_read (λ x. refl) (mode_of d) r e
leaf_fits tables (leaves.Small smalls.Nothing) d r e = made_fits (leaf (leaves.Small smalls.Nothing)) (λ none. nothing_read) (λ x. refl) (as_null d) r e
leaf_fits tables (leaves.Small smalls.Flag) d r e = made_fits (leaf (leaves.Small smalls.Flag)) flag_read (λ x. refl) (as_bool d) r e
leaf_fits tables (leaves.Small smalls.Index) d r e = made_fits (leaf (leaves.Small smalls.Index)) index_read (λ x. refl) (index_of d) r e
leaf_fits tables (leaves.Small smalls.Natural) d r e = made_fits (leaf (leaves.Small smalls.Natural)) natural_read (λ x. refl) (natural_of d) r e
leaf_fits tables (leaves.Small smalls.OptionalNatural) d r e = made_fits (leaf (leaves.Small smalls.OptionalNatural)) optional_natural_read (λ x. refl) (optional_natural_of d) r e
leaf_fits tables (leaves.Small smalls.Keep) d r e = made_fits (leaf (leaves.Small smalls.Keep)) keep_read (λ x. refl) (keep_of d) r e
leaf_fits tables (leaves.Small smalls.Statistic) d r e = made_fits (leaf (leaves.Small smalls.Statistic)) statistic_read (λ x. refl) (statistic_of d) r e

said_fits : (key : Key) (rs : List Read) (r : Read) → says key rs ≡ Some r → Fits (a_form (kind_of key)) r
said_fits (keys.Expression key) rs r e = made_fits expression expression_read (λ x. refl) (expression_says key rs) r e
said_fits (keys.Selector key) rs r e = made_fits selector selector_read (λ x. refl) (selector_says key rs) r e
said_fits (keys.Plan key) rs r e = made_fits (a_form kinds.Plan) plan_read (λ x. refl) (plan_says key rs) r e

kind_named : (kind : Kind) (word : List ℕ) (row : List ℕ × Key) → key_named kind word ≡ Some row → kind_of row.1 ≡ kind
kind_named kinds.Expression word row e = ap (λ (r : List ℕ × Key). kind_of r.1) (sym (mapped (λ r. (r.0, keys.Expression r.1)) (row_named expression_rows word) row e).2)
kind_named kinds.Selector word row e = ap (λ (r : List ℕ × Key). kind_of r.1) (sym (mapped (λ r. (r.0, keys.Selector r.1)) (row_named selector_rows word) row e).2)
kind_named kinds.Plan word row e = ap (λ (r : List ℕ × Key). kind_of r.1) (sym (mapped (λ r. (r.0, keys.Plan r.1)) (row_named plan_rows word) row e).2)

pub form_fits : (tables : Declared) (kind : Kind) (d : Data) (r : Read) → read_as tables (a_form kind) d ≡ Some r → Fits (a_form kind) r
form_fits tables kind (object (member word value no_members)) r e =
    let row = chained (λ row. option_and_then (says row.1) (places_as tables (asks row.1) value)) (key_named kind word) r e in
    let args = chained (says row.0.1) (places_as tables (asks row.0.1) value) r row.2 in
    subst (λ k. Fits (a_form k) r) (kind_named kind word row.0 row.1) (said_fits row.0.1 args.0 r args.2)
form_fits tables kind _ r e = cc

order_said : (rs : List Read) (r : Read) → order_says rs ≡ Some r → Fits order r
order_said (expression_read by ∷ flag_read descending ∷ flag_read nulls_last ∷ []) r e = subst (Fits order) (same_Some _ r e) (record { fit = refl })
order_said _ r e = cc

order_fits : (tables : Declared) (d : Data) (r : Read) → read_as tables order d ≡ Some r → Fits order r
order_fits tables (array ds) r e = let rs = chained order_says (these_as tables order_items ds) r e in order_said rs.0 r rs.2
order_fits tables d r e = made_fits order (λ none. no_order) (λ x. refl) (as_null d) r e

-- ---- a list of any number

each_fits : (tables : Declared) (a : Asked) → ((d : Data) (r : Read) → read_as tables a d ≡ Some r → Fits a r) → (ds : Items) (rs : List Read) → each_as tables a ds ≡ Some rs → all_fit a (reads_of rs) ≡ true
each_fits tables a each no_items rs e = ap (λ l. all_fit a (reads_of l)) (sym (same_Some [] rs e))
each_fits tables a each (item d ds) rs e =
    let parts = opened (read_as tables a d) (each_as tables a ds) rs e in
    ap (λ l. all_fit a (reads_of l)) (sym parts.4) ∙ (λ i. (each d parts.0 parts.2).fit i && each_fits tables a each ds parts.1 parts.3 i)

many_fits : (tables : Declared) (a : Asked) → ((rs : Reads) → fits (many a) (list_read a rs) ≡ all_fit a rs) → ((d : Data) (r : Read) → read_as tables a d ≡ Some r → Fits a r)
    → (d : Data) (r : Read) → read_as tables (many a) d ≡ Some r → Fits (many a) r
many_fits tables a of each (array ds) r e =
    let rs = mapped (λ xs. list_read a (reads_of xs)) (each_as tables a ds) r e in
    record { fit = subst (λ x. fits (many a) x ≡ true) rs.2 (of (reads_of rs.0) ∙ each_fits tables a each ds rs.0 rs.1) }
many_fits tables a of each _ r e = cc

leaves_fit : (tables : Declared) (which : ListLeaf) (d : Data) (r : Read) → read_as tables (many (leaf (listed_leaf which))) d ≡ Some r → Fits (many (leaf (listed_leaf which))) r
leaves_fit tables lists.Name = many_fits tables (leaf leaves.Name) (λ rs. refl) (leaf_fits tables leaves.Name)
leaves_fit tables lists.Dtype = many_fits tables (leaf leaves.Dtype) (λ rs. refl) (leaf_fits tables leaves.Dtype)
leaves_fit tables lists.Flag = many_fits tables (leaf (leaves.Small smalls.Flag)) (λ rs. refl) (leaf_fits tables (leaves.Small smalls.Flag))
leaves_fit tables lists.Index = many_fits tables (leaf (leaves.Small smalls.Index)) (λ rs. refl) (leaf_fits tables (leaves.Small smalls.Index))
leaves_fit tables lists.Excluded = many_fits tables (leaf leaves.Excluded) (λ rs. refl) (leaf_fits tables leaves.Excluded)

optional_fits : (tables : Declared) (a : Asked) → ((rs : Reads) → fits (optional a) (list_read a rs) ≡ all_fit a rs) → ((d : Data) (r : Read) → read_as tables a d ≡ Some r → Fits a r)
    → (d : Data) (r : Read) → read_as tables (optional a) d ≡ Some r → Fits (optional a) r
optional_fits tables a of each (array ds) r e =
    let rs = mapped (λ xs. list_read a (reads_of xs)) (each_as tables a ds) r e in
    record { fit = subst (λ x. fits (optional a) x ≡ true) rs.2 (of (reads_of rs.0) ∙ each_fits tables a each ds rs.0 rs.1) }
optional_fits tables a of each d r e = made_fits (optional a) (λ none. nothing_read) (λ x. refl) (as_null d) r e

-- ---- places

place_fits : (tables : Declared) (p : Place) (d : Data) (r : Read) → read_as tables (place_view p) d ≡ Some r → Fits (place_view p) r
place_fits tables (places.Form kind) = form_fits tables kind
place_fits tables (places.Leaf which) = leaf_fits tables which
place_fits tables places.Expressions = many_fits tables expression (λ rs. refl) (form_fits tables kinds.Expression)
place_fits tables places.Selectors = many_fits tables selector (λ rs. refl) (form_fits tables kinds.Selector)
place_fits tables places.Order = order_fits tables
place_fits tables places.OptionalExpressions = optional_fits tables expression (λ rs. refl) (form_fits tables kinds.Expression)
place_fits tables places.OptionalSelectors = optional_fits tables selector (λ rs. refl) (form_fits tables kinds.Selector)
place_fits tables (places.Leaves which) = leaves_fit tables which

these_fit : (tables : Declared) (ps : List Place) (ds : Items) (rs : List Read) → these_as tables (map place_view ps) ds ≡ Some rs → AllFit (map place_view ps) rs
these_fit tables [] no_items rs e = subst (AllFit []) (same_Some [] rs e) (record { count = refl; each = tt })
these_fit tables (p ∷ ps) (item d ds) rs e =
    let parts = opened (read_as tables (place_view p) d) (these_as tables (map place_view ps) ds) rs e in
    let rest = these_fit tables ps ds parts.1 parts.3 in
    subst (AllFit (map place_view (p ∷ ps))) parts.4 (record { count = ap suc rest.count; each = (place_fits tables p d parts.0 parts.2, rest.each) })
these_fit tables _ _ rs e = cc

pub list_fits : (tables : Declared) (ps : List Place) (d : Data) (rs : List Read) → list_as tables (map place_view ps) d ≡ Some rs → AllFit (map place_view ps) rs
list_fits tables ps (array ds) rs e = these_fit tables ps ds rs e
list_fits tables ps _ rs e = cc

pub places_fit : (tables : Declared) (ps : Places) (d : Data) (rs : List Read) → places_as tables (places_view ps) d ≡ Some rs → AllFit (asked_in (places_view ps)) rs
places_fit tables (counts.One p) d rs e =
    let r = mapped (λ r. r ∷ []) (read_as tables (place_view p) d) rs e in
    subst (AllFit (place_view p ∷ [])) r.2 (record { count = refl; each = (place_fits tables p d r.0 r.1, tt) })
places_fit tables (counts.Listed ps) d rs e = list_fits tables ps.now d rs e

-- ---- what stands in places, taken apart

-- so many are taken as there are said to be
taken : (k n : ℕ) (rs : List Read) → length (take n rs) ≡ k → take n rs ≡ take k rs
taken zero zero rs e = refl
taken zero (suc n) [] e = refl
taken zero (suc n) (r ∷ rs) e = cc
taken (suc k) zero rs e = cc
taken (suc k) (suc n) [] e = refl
taken (suc k) (suc n) (r ∷ rs) e = ap (λ l. r ∷ l) (taken k n rs (omega (arith, e)))

-- where so many of them are shown, the first so many are
pub shows : (k n : ℕ) (args : Args) (rs : List Read) → args_view args ≡ take n rs → length (args_view args) ≡ k → args_view args ≡ take k rs
shows k n args rs seen count = seen ∙ taken k n rs (ap length (sym seen) ∙ count)
