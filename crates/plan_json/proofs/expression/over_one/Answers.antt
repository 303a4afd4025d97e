use Rattle.plan_json.proofs.Names.{[], ap, tree_of, ◌++◌, ◌∙◌, ◌∷◌}
use Rattle.plan_dsl.specs.Expressions.{function_source}
use Rattle.plan_dsl.specs.Trees.{more, no_more, node}
use Rattle.plan_json.proofs.FormLemmas.{one_said}
use Rattle.plan_json.proofs.expression.over_one.Goals as goal

pub returns-clause-ok : goal.returns-clause-ok
returns-clause-ok c =
    one_said (record { items = c.push.new.self }) c.into_inner.result c.args.function (c.in_ok-push.ensures.items ∙ ap (λ l. l ++ (c.into_inner.result ∷ [])) c.in_ok-items.ensures.items)
    ∙ ap (λ x. node (function_source c.args.function) (more (tree_of x) no_more)) c.into_inner.ensures
