-- Copies of expressions, with a column in place of markers or not.
use Rattle.std.specs.Prelude.{Bool, true, false, Option, Some, None, if◌then◌else◌}
use Rattle.plan_types.specs.Schemas.{Name}
use Rattle.plan_dsl.specs.Trees.{Trees, node, no_more, more}
use Rattle.plan_dsl.specs.Ops.{AggOp, AliasOp, BinaryOp, CastOp, ExplodeOp, FilterOp, GatherOp, SliceOp, SortByOp, SortOp, WindowOp, TernaryOp, FunctionOp}
use Rattle.plan_dsl.specs.Sources.{SourceOp, Plain, RenameOp, FieldAtOp, Source}
use Rattle.plan_dsl.specs.Expansion.{is_marker, with_column_put}

-- the expression with the column of that name, if there is one, in place of all its markers
abbrev pub put : Option Name → Source → Source
put None source = source
put (Some name) source = with_column_put name source

abbrev pub all_put : Option Name → Trees SourceOp → Trees SourceOp
all_put column no_more = no_more
all_put column (more child rest) = more (put column child) (all_put column rest)

-- the node with the column in place of the markers below it; a marker as it is
abbrev pub put_below : Option Name → Source → Source
put_below column (node op children) = node op (if is_marker op then children else all_put column children)

-- whether a node has one operand, or several; a marker has none in which a column is put
abbrev pub has_one : SourceOp → Bool
has_one (Plain (CastOp target options)) = true
has_one (Plain ExplodeOp) = true
has_one (Plain (SortOp options)) = true
has_one (Plain (AliasOp name)) = true
has_one (Plain (AggOp method)) = true
has_one (RenameOp renaming) = true
has_one op = false

abbrev pub has_several : SourceOp → Bool
has_several (Plain (BinaryOp operator)) = true
has_several (Plain SliceOp) = true
has_several (Plain (GatherOp returns_scalar)) = true
has_several (Plain FilterOp) = true
has_several (Plain TernaryOp) = true
has_several op = false

-- or a list of them
abbrev pub has_list : SourceOp → Bool
has_list (Plain (SortByOp descending nulls_last)) = true
has_list (Plain (WindowOp way)) = true
has_list (Plain (FunctionOp function recorded)) = true
has_list (FieldAtOp place) = true
has_list op = false
