use Rattle.std.proofs.Common.{◌∷◌, [], Some, refl}
use Rattle.plan_types.specs.Schemas.{columns}
use Rattle.plan_dsl.specs.Plans.{scan_op}
use Rattle.plan_dsl.specs.Trees.{node, no_more}
use Rattle.plan_arena.specs.declared.ir.IR.TheVariants.{DataFrameScan}
use Rattle.plan_arena.proofs.PlanSchemaLemmas.{none_denoted, nothing_there, other_schema, scan_schema}
use Rattle.plan_arena.proofs.examples.schemas.schemas_of_nodes.Goals as goal

pub returns-clause-scan : goal.returns-clause-scan
returns-clause-scan c = λ schema. scan_schema (DataFrameScan (Some 0) schema ∷ []) 0 (Some 0) schema refl

pub returns-clause-other : goal.returns-clause-other
returns-clause-other c = λ schema other differs is.
    differs (other_schema (DataFrameScan (Some 0) schema ∷ []) 0 (Some 0) schema (columns other) refl is)

pub returns-clause-denotes : goal.returns-clause-denotes
returns-clause-denotes c = λ schema. record {
  expressions = [];
  tree = record {
    tree = node (scan_op (Some 0) (columns schema)) no_more;
    denotes = ([], record { flat = scan_op (Some 0) (columns schema); item = refl; denotes = record { same_recorded = refl; kind = refl } }, tt);
  };
}

pub returns-clause-no_such_node : goal.returns-clause-no_such_node
returns-clause-no_such_node c = λ some. nothing_there some.expressions some.tree

pub returns-clause-taken_out : goal.returns-clause-taken_out
returns-clause-taken_out c = λ some. none_denoted some.expressions some.tree
