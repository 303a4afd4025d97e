use Rattle.std.proofs.Common.{refl, ap, [], ◌∙◌}
use Rattle.plan_dsl.specs.Expansion.{column_field}
use Rattle.plan_dsl.specs.Ops.{FunctionOp}
use Rattle.plan_dsl.specs.Sources.{Plain}
use Rattle.plan_dsl.specs.Trees.{children_from, node}
use Rattle.plan_dsl.specs.declared.function_expr.FunctionExpr.TheVariants.{FieldByName}
use Rattle.plan_dsl.proofs.ExprLemmas.{function_listed}
use Rattle.plan_expand.proofs.fields.column_field.Goals as goal

pub returns-clause-ok : goal.returns-clause-ok
returns-clause-ok c =
    (function_listed _ c.in_ok-input.input (FieldByName c.args.field) refl).is ∙ ap (λ trees. node (Plain (FunctionOp (FieldByName c.args.field) [])) (children_from trees)) c.in_ok-input.ensures.ok ∙ ap (λ name. column_field name c.args.field) c.in_ok-try_clone.ensures.ok
