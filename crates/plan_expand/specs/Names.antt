-- Names as they are gathered.
use Rattle.std.specs.Prelude.{ℕ, ℤ, pos, negsuc, List, [], ◌∷◌, Bool, false, Option, Some, None, Result, Ok}
use Rattle.std.specs.Option.{option_map_or}
use Rattle.plan_types.specs.Types.{Ty, same_type}
use Rattle.plan_types.specs.Schemas.{Name, Columns, type_at}
use Rattle.plan_types.specs.declared.error.ErrorKind.{ErrorKind}
use Rattle.plan_dsl.specs.Refusals.{then_ok}
use Rattle.plan_dsl.specs.Sources.{Excluded, ExcludedName, ExcludedType, SetRule, Add as AddNames, Sub as SubNames, Intersect as IntersectNames, ExclusiveOr as ExclusiveOrNames, RootOp, Source, of_two}
use Rattle.plan_dsl.specs.Markers.{once, selector_names}
use Rattle.plan_dsl.specs.Expressions.{selector_tree, tree_of}
use Rattle.plan_dsl.specs.Trees.{node, no_more, more}
use Rattle.plan_expand.specs.declared.selectors.Parts.{Parts}
use Rattle.plan_expand.specs.declared.selectors.Parts.TheVariants.{Root, Two}
use Rattle.plan_expand.specs.declared.selectors.Rule.{Rule}
use Rattle.plan_expand.specs.declared.selectors.Rule.TheVariants.{Add, Sub, ExclusiveOr, Intersect}

-- the names that a selector makes, each once
abbrev pub selected : List Name → Columns → Source → Result (List Name) ErrorKind
selected keys schema selector = then_ok (selector_names keys schema selector) (λ names. Ok (once names))

-- the name that is excluded as a name
abbrev pub excluded_name : Excluded → List Name
excluded_name (ExcludedName name) = name ∷ []
excluded_name excluded = []

-- the type that is excluded as a type
abbrev pub excluded_type : Excluded → List Ty
excluded_type (ExcludedType type) = type ∷ []
excluded_type excluded = []

-- whether the column of that name is of the type: a name that no column has is of none
abbrev pub is_of_type : Columns → Name → Ty → Bool
is_of_type schema name type = option_map_or (same_type type) (type_at schema name) false

-- a place as a number, which one in front of all has not
abbrev pub as_number : ℤ → Option ℕ
as_number (pos place) = Some place
as_number (negsuc before) = None

-- the rule of selectors that a rule of the code is
abbrev pub set_rule : Rule → SetRule
set_rule Add = AddNames
set_rule Sub = SubNames
set_rule ExclusiveOr = ExclusiveOrNames
set_rule Intersect = IntersectNames

-- the tree of a selector that is made of these parts
abbrev pub parts_tree : Parts → Source
parts_tree (Root expr) = node RootOp (more (tree_of expr.now) no_more)
parts_tree (Two rule first second) = of_two (set_rule rule) (selector_tree first.now) (selector_tree second.now)
