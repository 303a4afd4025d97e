use Rattle.std.proofs.Common.{ap, ◌∙◌}
use Rattle.plan_types.specs.Schemas.{columns}
use Rattle.plan_dsl.specs.Expressions.{tree_of}
use Rattle.plan_dsl.specs.Plans.{plan_tree}
use Rattle.planner.proofs.QueryLemmas.{both_columns, query_is}
use Rattle.planner.proofs.flagged.Goals as goal

pub returns-clause-ok : goal.returns-clause-ok
returns-clause-ok c =
    let schema = columns c.with_column-2.new.self in
    let are = both_columns (columns c.new-schema.result) (columns c.with_column.new.self) schema c.in_ok-new.field-0 c.in_ok-new-2.field-0 c.new-schema.ensures c.in_ok-new.ensures.ok c.in_ok-with_column.ensures.ok c.in_ok-new-2.ensures.ok c.in_ok-with_column-2.ensures.ok in
    ap plan_tree c.build.ensures ∙ query_is (plan_tree c.in_ok-built.built.0) (plan_tree c.from_existing_df.result.0) (tree_of c.in_ok-new-3.field-0.value) (tree_of c.in_ok-column_named.field-0.value) (tree_of c.in_ok-column_named-2.field-0.value) schema c.in_ok-built.ensures.ok c.in_ok-column_named.ensures.ok (ap tree_of c.in_ok-new-3.ensures.ok) c.in_ok-column_named-2.ensures.ok c.from_existing_df.ensures are
