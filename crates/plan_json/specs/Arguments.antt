-- What the code holds of what it has read.
use Rattle.std.specs.Prelude.{List, [], ◌∷◌, map, take, if◌then◌else◌}
use Rattle.plan_types.specs.Schemas.{columns}
use Rattle.plan_types.specs.Types.{ty}
use Rattle.plan_dsl.specs.Expressions.{excluded_of, order_trees, selector_tree, selector_trees, tree_of, trees_of, way_of}
use Rattle.plan_dsl.specs.Literals.{literal_op}
use Rattle.plan_dsl.specs.Plans.{plan_tree}
use Rattle.plan_dsl.specs.declared.plan.DslPlan.{DslPlan}
use Rattle.plan_json.specs.Forms.{Read, name_read, literal_read, operator_read, method_read, function_read, type_read, mode_read, table_read, columns_read, expression_read, selector_read, plan_read, many_read, chosen_read, leaves_read, reads_of, other_read, nothing_read, flag_read, index_read, natural_read, keep_read, optional_name_read, optional_natural_read, statistic_read, excluded_read, order_read}
use Rattle.plan_json.specs.Queries.{has_flags}
use Rattle.plan_json.specs.declared.arguments.Arg.{Arg}
use Rattle.plan_json.specs.declared.arguments.Arg.TheVariants.{Name, OptionalName, Literal, Operator, Method, Function, Dtype, Mode, Table, Columns, Nothing, Flag, Index, Natural, OptionalNatural, Keep, Statistic, Excluded, Order, Expression, Selector, Plan, Expressions, Selectors, Names, Dtypes, Flags, Indexes, AllExcluded}
use Rattle.plan_json.specs.declared.arguments.Items.{Items}
use Rattle.plan_json.specs.declared.forms.Leaf.TheVariants as leaves
use Rattle.plan_json.specs.declared.forms.SmallLeaf.TheVariants as smalls
use Rattle.plan_json.specs.declared.arguments.Args.{Args}
use Rattle.plan_json.specs.declared.arguments.Args.TheVariants as args

abbrev pub plan_seen : DslPlan → Read
plan_seen plan = if has_flags plan then other_read else plan_read (plan_tree plan)

abbrev pub arg_view : Arg → Read
arg_view (Name name) = name_read name.value
arg_view (OptionalName name) = optional_name_read name.value
arg_view (Literal literal) = literal_read (literal_op literal.value)
arg_view (Operator operator) = operator_read operator
arg_view (Method method) = method_read method
arg_view (Function function) = function_read function.value
arg_view (Dtype dtype) = type_read (ty dtype.value)
arg_view (Mode mode) = mode_read mode
arg_view (Table number schema) = table_read number (columns schema.value)
arg_view (Columns schema) = columns_read (columns schema.value)
arg_view Nothing = nothing_read
arg_view (Flag flag) = flag_read flag
arg_view (Index index) = index_read index
arg_view (Natural natural) = natural_read natural
arg_view (OptionalNatural natural) = optional_natural_read natural
arg_view (Keep keep) = keep_read keep
arg_view (Statistic statistic) = statistic_read statistic
arg_view (Excluded excluded) = excluded_read (excluded_of excluded.value)
arg_view (Order order) = order_read (way_of order) (order_trees order)
arg_view (Expression expr) = expression_read (tree_of expr.value)
arg_view (Selector selector) = selector_read (selector_tree selector.value)
arg_view (Plan plan) = plan_seen plan.value
arg_view (Expressions exprs) = many_read (reads_of (map expression_read (trees_of exprs.value)))
arg_view (Selectors selectors) = chosen_read (reads_of (map selector_read (selector_trees selectors.value)))
arg_view (Names names) = leaves_read leaves.Name (reads_of (map name_read names.value.items))
arg_view (Dtypes types) = leaves_read leaves.Dtype (reads_of (map (λ dtype. type_read (ty dtype)) types.value.items))
arg_view (Flags flags) = leaves_read (leaves.Small smalls.Flag) (reads_of (map flag_read flags.value.items))
arg_view (Indexes indexes) = leaves_read (leaves.Small smalls.Index) (reads_of (map index_read indexes.value.items))
arg_view (AllExcluded excluded) = leaves_read leaves.Excluded (reads_of (map (λ item. excluded_read (excluded_of item)) excluded.value.items))

abbrev pub items_seen : Items → List Read
items_seen items = take items.count (arg_view items.first ∷ arg_view items.second ∷ arg_view items.third ∷ arg_view items.fourth ∷ arg_view items.fifth ∷ [])

abbrev pub args_view : Args → List Read
args_view (args.One a) = arg_view a ∷ []
args_view (args.Listed items) = items_seen items
