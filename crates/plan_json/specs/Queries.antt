-- The query that a value is.
use Rattle.std.specs.Prelude.{◌≡◌, ℕ, List, [], ◌∷◌, Option, Some, None, Bool, false, ◌||◌, option_map, option_and_then, codes, slice_get}
use Rattle.serde_json.specs.Find.{as_bool, as_null, get_item}
use Rattle.serde_json.specs.Data.{Data, array, object, Items, no_items, item, no_members, member}
use Rattle.plan_dsl.specs.Plans.{SourcePlan, plan_tree}
use Rattle.plan_dsl.specs.declared.plan.DslPlan.{DslPlan}
use Rattle.plan_dsl.specs.declared.plan.DslPlan.TheVariants.{Cache', DataFrameScan, Distinct', Filter', GroupBy', HStack', MapFunction', Select', Sink', Slice', Sort'}
use Rattle.plan_json.specs.Forms.{Asked, a_form, leaf, many, order, optional, order_items, order_says, no_order, Places, single, listed, plan, Read, name_read, literal_read, operator_read, method_read, function_read, type_read, mode_read, table_read, columns_read, plan_read, list_read, reads_of, key_named, asks, says, nothing_read, flag_read, index_read, natural_read, keep_read, optional_name_read, optional_natural_read, statistic_read, excluded_read}
use Rattle.plan_json.specs.Leaves.{excluded_item, index_of, keep_of, natural_of, optional_natural_of, optional_text_of, statistic_of, text_of, literal_written, operator_of, method_of, function_of, type_of, mode_of, table_at, columns_of, tables_of}
use Rattle.plan_json.specs.Looking.{both, two_members}
use Rattle.plan_json.specs.Tables.{Declared, declared}
use Rattle.plan_json.specs.declared.forms.Leaf.{Leaf}
use Rattle.plan_json.specs.declared.forms.Leaf.TheVariants as leaves
use Rattle.plan_json.specs.declared.forms.SmallLeaf.{SmallLeaf}
use Rattle.plan_json.specs.declared.forms.SmallLeaf.TheVariants as smalls
use Rattle.plan_json.specs.declared.read.Query.{Query}

-- a query: its tables, and its plan over them
pub record QueryModel : Type 0 where
  pub tables : Declared
  pub plan : SourcePlan

abbrev pub query_model : Query → QueryModel
query_model query = record { tables = declared query.tables; plan = plan_tree query.plan }

-- ---- what a value reads to, where a place asks for this

-- null says nothing
abbrev pub nothing_of : Data → Option Read
nothing_of d = option_map (λ none. nothing_read) (as_null d)

-- and puts nothing in order
abbrev pub order_of_null : Data → Option Read
order_of_null d = option_map (λ none. no_order) (as_null d)

abbrev pub small_of : SmallLeaf → Data → Option Read
small_of smalls.Operator d = option_map operator_read (operator_of d)
small_of smalls.Method d = option_map method_read (method_of d)
small_of smalls.Mode d = option_map mode_read (mode_of d)
small_of smalls.Nothing d = nothing_of d
small_of smalls.Flag d = option_map flag_read (as_bool d)
small_of smalls.Index d = option_map index_read (index_of d)
small_of smalls.Natural d = option_map natural_read (natural_of d)
small_of smalls.OptionalNatural d = option_map optional_natural_read (optional_natural_of d)
small_of smalls.Keep d = option_map keep_read (keep_of d)
small_of smalls.Statistic d = option_map statistic_read (statistic_of d)

abbrev pub leaf_of : Declared → Leaf → Data → Option Read
leaf_of tables leaves.Name d = option_map name_read (text_of d)
leaf_of tables (leaves.Literal how) d = option_map literal_read (literal_written how d)
leaf_of tables leaves.Dtype d = option_map type_read (type_of d)
leaf_of tables leaves.Table d = option_map (λ table. table_read table.0 table.1) (option_and_then (table_at tables) (text_of d))
leaf_of tables leaves.Columns d = option_map columns_read (columns_of d)
leaf_of tables leaves.Excluded d = option_map excluded_read (excluded_item d)
leaf_of tables leaves.Function d = option_map function_read (function_of d)
leaf_of tables leaves.OptionalName d = option_map optional_name_read (optional_text_of d)
leaf_of tables (leaves.Small which) d = small_of which d

-- the first of these, and the others
abbrev pub front : Option Read → Option (List Read) → Option (List Read)
front first rest = option_map (λ pair. pair.0 ∷ pair.1) (both first rest)

-- what is read of a key's value, by what is read of it as one place and as a list
abbrev pub given : Places → (Asked → Option Read) → (List Asked → Option (List Read)) → Option (List Read)
given (single a) by_place by_list = option_map (λ r. r ∷ []) (by_place a)
given (listed ps) by_place by_list = by_list ps

abbrev mutual
  pub read_as : Declared → Asked → Data → Option Read
  read_as tables (a_form kind) (object (member word value no_members)) =
      option_and_then (λ row. option_and_then (says row.1) (given (asks row.1) (λ a. read_as tables a value) (λ ps. list_as tables ps value))) (key_named kind word)
  read_as tables (leaf which) d = leaf_of tables which d
  read_as tables (many a) (array ds) = option_map (λ rs. list_read a (reads_of rs)) (each_as tables a ds)
  read_as tables order (array ds) = option_and_then order_says (these_as tables order_items ds)
  read_as tables order d = order_of_null d
  read_as tables (optional a) (array ds) = option_map (λ rs. list_read a (reads_of rs)) (each_as tables a ds)
  read_as tables (optional a) d = nothing_of d
  read_as tables _ _ = None

  -- a list of exactly these
  pub list_as : Declared → List Asked → Data → Option (List Read)
  list_as tables ps (array ds) = these_as tables ps ds
  list_as tables ps _ = None

  pub each_as : Declared → Asked → Items → Option (List Read)
  each_as tables a no_items = Some []
  each_as tables a (item d ds) = front (read_as tables a d) (each_as tables a ds)

  pub these_as : Declared → List Asked → Items → Option (List Read)
  these_as tables [] no_items = Some []
  these_as tables (a ∷ ps) (item d ds) = front (read_as tables a d) (these_as tables ps ds)
  these_as tables _ _ = None

-- what is read of the item of a number, where there is one
pub record IsItem (tables : Declared) (ps : List Asked) (ds : Items) (n : ℕ) (r : Read) : Type 0 where
  pub read : (p : Asked) (d : Data) → slice_get ps n ≡ Some p → get_item n ds ≡ Some d → read_as tables p d ≡ Some r

-- what is read of a key's value
abbrev pub places_as : Declared → Places → Data → Option (List Read)
places_as tables places d = given places (λ a. read_as tables a d) (λ ps. list_as tables ps d)

-- ---- queries

abbrev pub plan_in : Read → Option SourcePlan
plan_in (plan_read tree) = Some tree
plan_in _ = None

abbrev pub plan_of : Declared → Data → Option SourcePlan
plan_of tables d = option_and_then plan_in (read_as tables plan d)

abbrev pub query_from : Data × Data → Option QueryModel
query_from parts =
    option_and_then (λ tables. option_map (λ plan. record { tables = tables; plan = plan }) (plan_of tables parts.1)) (tables_of parts.0)

-- `{"tables": tables, "plan": plan}`
abbrev pub query_of : Data → Option QueryModel
query_of d = option_and_then query_from (two_members (codes "tables") (codes "plan") d)

-- whether some select, hstack, group-by or distinct of the plan has its option set, which no query can write
abbrev pub has_flags : DslPlan → Bool
has_flags (DataFrameScan table schema) = false
has_flags (Select' expr p input options) = options.duplicate_check || has_flags input
has_flags (HStack' exprs p input options) = options.duplicate_check || has_flags input
has_flags (GroupBy' p input keys aggs maintain_order) = maintain_order || has_flags input
has_flags (Filter' p input predicate) = has_flags input
has_flags (MapFunction' p input function) = has_flags input
has_flags (Sort' p input by_column sort_options) = has_flags input
has_flags (Distinct' p input options) = options.maintain_order || has_flags input
has_flags (Slice' p input offset len) = has_flags input
has_flags (Cache' p input id) = has_flags input
has_flags (Sink' p input payload) = has_flags input

-- the value is the query
abbrev pub IsQueryOf : Data → QueryModel → Type 0
IsQueryOf d query = query_of d ≡ Some query
