use Rattle.std.proofs.Common.{◌∙◌}
use Rattle.plan_types.proofs.ResultLemmas.{passed_on}
use Rattle.plan_types.specs.Schemas.{columns}
use Rattle.plan_dsl.specs.Expansion.{expanded_alone, in_place}
use Rattle.plan_dsl.specs.Expressions.{tree_of}
use Rattle.plan_expand.proofs.ChangeLemmas.{then_found, then_refused}
use Rattle.plan_expand.proofs.ExpansionLemmas.{refused_as}
use Rattle.plan_expand.proofs.expr_expansion.expansion.Goals as goal

pub returns-in_ok-expanded-in-Ok-clause-ok : goal.returns-in_ok-expanded-in-Ok-clause-ok
returns-in_ok-expanded-in-Ok-clause-ok c =
    let keys = c.args.keys.now.keys in
    let schema = columns c.args.schema.now in
    then_found (in_place keys schema (tree_of c.args.expr)) (expanded_alone keys schema) _ c.in-Ok.ensures.ok ∙ c.in_ok-expanded-in-Ok.ensures.ok

pub returns-in_err-expanded-in-Ok-clause-err : goal.returns-in_err-expanded-in-Ok-clause-err
returns-in_err-expanded-in-Ok-clause-err c =
    let keys = c.args.keys.now.keys in
    let schema = columns c.args.schema.now in
    passed_on c.from_residual.result c.in_err-expanded-in-Ok.field-0.0 _ c.from_residual.ensures.1 (refused_as _ _ _ (then_found (in_place keys schema (tree_of c.args.expr)) (expanded_alone keys schema) _ c.in-Ok.ensures.ok) c.in_err-expanded-in-Ok.ensures.err)

pub returns-in-Err-clause-err : goal.returns-in-Err-clause-err
returns-in-Err-clause-err c =
    let keys = c.args.keys.now.keys in
    let schema = columns c.args.schema.now in
    then_refused (in_place keys schema (tree_of c.args.expr)) (expanded_alone keys schema) c.in-Err.error c.in-Err.ensures.err
