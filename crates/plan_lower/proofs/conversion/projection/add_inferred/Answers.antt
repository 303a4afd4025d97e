use Rattle.std.proofs.Common.{IfErr, subst, sym, ◌∙◌}
use Rattle.plan_types.specs.Errors.{IsRefusal}
use Rattle.plan_types.specs.Schemas.{columns}
use Rattle.plan_dsl.specs.Expressions.{plain_tree}
use Rattle.plan_dsl.specs.Registry.{registry}
use Rattle.plan_lower.proofs.SpelledLemmas.{told_alike}
use Rattle.plan_lower.proofs.conversion.projection.add_inferred.Goals as goal

pub returns-then-writes_no_chain-clause-err : goal.returns-then-writes_no_chain-clause-err
returns-then-writes_no_chain-clause-err c =
    let alike = told_alike (registry c.args.udfs.now) (columns c.args.schema.now) (plain_tree c.args.expr) (sym c.writes_no_chain.ensures ∙ c.if-writes_no_chain.true) in
    subst (λ t. IfErr c.add_pruned.result (IsRefusal t)) alike c.add_pruned.ensures.err
