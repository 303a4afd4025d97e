-- What is walked over in expressions, and the first of what is sought there.
use Rattle.std.specs.Prelude.{List, [], ◌∷◌, map, Option, Some, None, if◌then◌else◌, Bool, true, false, unwrap_or}
use Rattle.std.specs.List.{flat_map}
use Rattle.plan_types.specs.Schemas.{Name}
use Rattle.plan_dsl.specs.Expansion.{is_marker, markers_in, first_root, root_name}
use Rattle.plan_dsl.specs.Expressions.{tree_of, trees_of}
use Rattle.plan_dsl.specs.Sources.{Source, SourceOp, Plain, unwritten}
use Rattle.plan_dsl.specs.Trees.{Trees, node, no_more, more, children_from, top_op}
use Rattle.plan_expand.specs.declared.walks.Operands.{Operands}
use Rattle.plan_expand.specs.declared.walks.Operands.TheVariants.{Leaf, One, Two, Three, Listed, Ordered, Each}

-- the trees of a node's children, in order
abbrev pub children_of : Trees SourceOp → List Source
children_of no_more = []
children_of (more child rest) = child ∷ children_of rest

-- the operands, and the same op over others
abbrev pub below : Source → List Source
below (node op children) = children_of children

abbrev pub over : Source → List Source → Source
over source operands = node (top_op source) (children_from operands)

-- whether an op is one of plans'
abbrev pub is_of_plans : SourceOp → Bool
is_of_plans (Plain op) = true
is_of_plans op = false

-- the operands of what is no marker
abbrev pub operands_in : Source → Option (List Source)
operands_in (node op children) = if is_marker op then None else Some (children_of children)

-- the operands of what has an op of plans
abbrev pub plan_operands_in : Source → Option (List Source)
plan_operands_in (node (Plain op) children) = Some (children_of children)
plan_operands_in source = None

-- the operands as a list, of which a marker has none
abbrev pub operand_list : Source → List Source
operand_list source = unwrap_or (operands_in source) []

abbrev pub operand_trees : Operands → List Source
operand_trees Leaf = []
operand_trees (One first) = tree_of first.now ∷ []
operand_trees (Two first second) = tree_of first.now ∷ tree_of second.now ∷ []
operand_trees (Three first second third) = tree_of first.now ∷ tree_of second.now ∷ tree_of third.now ∷ []
operand_trees (Listed first others) = tree_of first.now ∷ trees_of others.now
operand_trees (Ordered first second others) = tree_of first.now ∷ tree_of second.now ∷ trees_of others.now
operand_trees (Each all) = trees_of all.now

-- the first of a list
abbrev pub first_of : {A : Type 0} → List A → Option A
first_of [] = None
first_of (item ∷ items) = Some item

-- the first marker of an expression, and of several
abbrev pub first_marker : Source → Option Source
first_marker source = first_of (markers_in source)

abbrev pub first_marker_of : List Source → Option Source
first_marker_of sources = first_of (flat_map markers_in sources)

-- the name of the first column of several
abbrev pub first_root_of : List Source → Option Name
first_root_of sources = first_root (map (λ source. root_name (unwritten source)) sources)
