use Rattle.std.proofs.Common.{◌≡◌, Ok, map, sym, ap, ◌∙◌, subst}
use Rattle.plan_types.proofs.ResultLemmas.{passed_on}
use Rattle.plan_types.specs.Errors.{IsRefusal, broken}
use Rattle.plan_types.specs.Schemas.{columns}
use Rattle.plan_types.specs.declared.error.ErrorKind.TheVariants.{ComputeError}
use Rattle.plan_dsl.specs.Expansion.{expansion, only_one}
use Rattle.plan_dsl.specs.Refusals.{then_ok}
use Rattle.plan_dsl.specs.Expressions.{plain_tree, tree_of}
use Rattle.plan_expand.proofs.ExpansionLemmas.{plain_predicate, predicate_refused}
use Rattle.plan_expand.proofs.expr_expansion.expand_filter.Goals as goal

pub returns-then-is_plain-clause-ok : goal.returns-then-is_plain-clause-ok
returns-then-is_plain-clause-ok c = plain_predicate (columns c.args.schema.now) (tree_of c.args.predicate) (sym c.is_plain.ensures ∙ c.if-is_plain.true)

pub returns-in_err-expanded-clause-err : goal.returns-in_err-expanded-clause-err
returns-in_err-expanded-clause-err c =
    let schema = columns c.args.schema.now in
    let source = tree_of c.args.predicate in
    let refused = subst (λ keys. IsRefusal (expansion keys schema source) c.in_err-expanded.field-0.0) c.new-keys.ensures.empty c.in_err-expanded.ensures.err in
    passed_on c.from_residual.result c.in_err-expanded.field-0.0 _ c.from_residual.ensures.1 (predicate_refused schema source _ refused)

pub returns-in_err-only-clause-err : goal.returns-in_err-only-clause-err
returns-in_err-only-clause-err c =
    let schema = columns c.args.schema.now in
    let source = tree_of c.args.predicate in
    let found = subst (λ keys. expansion keys schema source ≡ Ok (map plain_tree c.in_ok-expanded.expanded.items)) c.new-keys.ensures.empty c.in_ok-expanded.ensures.ok in
    let refused = c.in_err-only.ensures.err in
    passed_on c.from_residual-in_err-only.result c.in_err-only.field-0.0 _ c.from_residual-in_err-only.ensures.1 (broken ComputeError refused.0 (ap (λ r. then_ok r only_one) found ∙ refused.1))
