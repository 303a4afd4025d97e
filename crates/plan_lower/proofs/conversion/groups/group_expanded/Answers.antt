use Rattle.std.proofs.Common.{List, sym, ◌∙◌, subst, arith}
use Rattle.std.specs.Vec.{vec_len}
use Rattle.plan_types.proofs.ResultLemmas.{passed_on}
use Rattle.plan_types.proofs.SchemaLemmas.{schema_has_distinct_names}
use Rattle.plan_types.specs.Schemas.{Name, columns}
use Rattle.plan_dsl.specs.Expressions.{plain_trees}
use Rattle.plan_dsl.specs.Registry.{registry}
use Rattle.plan_arena.specs.declared.aexpr.AExpr.{AExpr}
use Rattle.plan_arena.specs.Items.{HoldsExpression}
use Rattle.plan_lower.specs.Groups.{IsAggregateRefusal, of_aggregates, of_keys, without_keys}
use Rattle.plan_lower.proofs.GroupLemmas.{column_names, has_groups, no_trees, some_trees}
use Rattle.plan_lower.proofs.conversion.groups.group_expanded.Goals as goal

pub returns-clause-ok : goal.returns-clause-ok
returns-clause-ok c =
    let some = some_trees c.args.keys.items.items (vec_len c.args.keys.items) (omega arith) (sym c.is_empty.ensures ∙ c.if-is_empty.false) in
    has_groups (registry c.args.udfs.now) (columns c.args.schema.now) c.project_in.new.arena c.aggregate_in.new.arena (plain_trees c.args.keys) (plain_trees c.args.aggs) _ _ (columns c.in_ok-keys.keys.schema) (columns c.in_ok-aggs.aggs.schema) c.in_ok-aggs.ensures.kept c.in_ok-keys.ensures.ok c.in_ok-aggs.ensures.ok (schema_has_distinct_names c.in_ok-aggs.aggs.schema) some

pub returns-in_err-keys-clause-err : goal.returns-in_err-keys-clause-err
returns-in_err-keys-clause-err c =
    passed_on c.from_residual-in_err-keys.result c.in_err-keys.field-0.0 _ c.from_residual-in_err-keys.ensures.1 (of_keys c.in_err-keys.ensures.err)

pub returns-in_err-aggs-clause-err : goal.returns-in_err-aggs-clause-err
returns-in_err-aggs-clause-err c =
    let r = registry c.args.udfs.now in
    let names = column_names r (columns c.args.schema.now) _ (plain_trees c.args.keys) _ _ c.in_ok-keys.ensures.ok in
    let refused = subst (λ (names : List Name). IsAggregateRefusal r (columns c.args.schema.now) names (plain_trees c.args.aggs) c.in_err-aggs.field-0.0) names c.in_err-aggs.ensures.err in
    passed_on c.from_residual-in_err-aggs.result c.in_err-aggs.field-0.0 _ c.from_residual-in_err-aggs.ensures.1 (of_aggregates refused)

pub returns-then-is_empty-clause-err : goal.returns-then-is_empty-clause-err
returns-then-is_empty-clause-err c =
    without_keys c.at_top.ensures (no_trees c.args.keys.items.items (vec_len c.args.keys.items) (omega arith) (sym c.is_empty.ensures ∙ c.if-is_empty.true))

pub returns-clause-kept : goal.returns-clause-kept
returns-clause-kept c n op inputs h =
    let same = c.in_ok-more_types.ensures.same ∙ c.in_ok-types.ensures.same in
    c.in_ok-aggs.ensures.kept n op inputs (c.in_ok-keys.ensures.kept n op inputs (subst (λ (es : List AExpr). HoldsExpression es n op inputs) (sym same) h))
