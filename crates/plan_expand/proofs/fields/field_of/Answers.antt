use Rattle.std.proofs.Common.{SFits, w64, rules, sym, ap, ◌∙◌}
use Rattle.std.proofs.lemmas.Int.{to_z-of_z}
use Rattle.plan_dsl.specs.Expressions.{function_source, trees_of}
use Rattle.plan_dsl.specs.Sources.{FieldAtOp}
use Rattle.plan_dsl.specs.Trees.{children_from, node}
use Rattle.plan_dsl.proofs.ExprLemmas.{function_listed}
use Rattle.plan_expand.proofs.fields.field_of.Goals as goal

pub returns-in-FieldByIndex-clause-some : goal.returns-in-FieldByIndex-clause-some
returns-in-FieldByIndex-clause-some c =
    let kind = c.in-Function in
    let fits : SFits w64 c.in-FieldByIndex.place = search rules in
    (function_listed c.args.expr.now kind.input kind.function kind.is).is ∙ ap (λ f. node (function_source f) (children_from (trees_of kind.input))) c.in-FieldByIndex.is
    ∙ ap (λ place. node (FieldAtOp place) (children_from (trees_of kind.input))) (sym (to_z-of_z w64 c.in-FieldByIndex.place fits))
