use Rattle.plan_types.specs.Schemas.{columns}
use Rattle.plan_dsl.specs.Expansion.{fields_named}
use Rattle.plan_dsl.specs.Expressions.{tree_of}
use Rattle.plan_dsl.specs.Trees.{tree_depth}
use Rattle.plan_expand.proofs.ChangeLemmas.{IsChanged}
use Rattle.plan_expand.proofs.fields.+name_fields.Given as goal

abbrev pub decreases-name_fields : goal.decreases-name_fields
decreases-name_fields l = tree_depth (tree_of l.expr.now)

abbrev pub invariant-loop-place : goal.invariant-loop-place
invariant-loop-place l = IsChanged (fields_named (columns l.schema)) (tree_of l.fn.expr) (tree_of l.expr) l.place
