use Rattle.std.proofs.Common.{◌∙◌, map}
use Rattle.plan_types.proofs.ResultLemmas.{passed_on}
use Rattle.plan_types.specs.Schemas.{columns}
use Rattle.plan_dsl.specs.Expansion.{key_names}
use Rattle.plan_dsl.specs.Expressions.{tree_of}
use Rattle.plan_expand.proofs.ExpansionLemmas.{by_set, unexpanded_as}
use Rattle.plan_expand.proofs.expr_expansion.rewrite_projections.Goals as goal

pub returns-in_err-expanded-clause-err : goal.returns-in_err-expanded-clause-err
returns-in_err-expanded-clause-err c =
    let same = by_set c.in_ok-key_names.key_names.keys (key_names (map tree_of c.args.keys.now)) (columns c.args.schema.now) (map tree_of c.args.exprs.items) c.in_ok-key_names.ensures.ok in
    passed_on c.from_residual-in_err-expanded.result c.in_err-expanded.field-0.0 _ c.from_residual-in_err-expanded.ensures.1 (unexpanded_as _ _ _ same c.in_err-expanded.ensures.err)

pub returns-clause-ok : goal.returns-clause-ok
returns-clause-ok c =
    by_set c.in_ok-key_names.key_names.keys (key_names (map tree_of c.args.keys.now)) (columns c.args.schema.now) (map tree_of c.args.exprs.items) c.in_ok-key_names.ensures.ok ∙ c.in_ok-expanded.ensures.ok
