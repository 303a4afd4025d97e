use Rattle.std.proofs.Common.{map, sym, ap, ◌∙◌}
use Rattle.plan_types.proofs.ResultLemmas.{passed_on}
use Rattle.plan_types.specs.Errors.{broken}
use Rattle.plan_types.specs.Schemas.{columns}
use Rattle.plan_types.specs.declared.error.ErrorKind.TheVariants.{InvalidOperation}
use Rattle.plan_dsl.specs.Expansion.{as_expression}
use Rattle.plan_dsl.specs.Refusals.{each_ok}
use Rattle.plan_dsl.specs.Expressions.{tree_of}
use Rattle.plan_expand.proofs.ExpansionLemmas.{other_marker, unnamed_marker, named_marker, put_in, refused_as}
use Rattle.plan_expand.proofs.expr_expansion.marked.Goals as goal

pub returns-then-not-has_only-clause-err : goal.returns-then-not-has_only-clause-err
returns-then-not-has_only-clause-err c =
    broken InvalidOperation c.at_top.ensures (other_marker c.args.keys.now.keys (columns c.args.schema.now) (tree_of c.args.expr.now) (tree_of c.args.marker.now) (sym c.requires) c.if-not-has_only.ensures)

pub returns-in_err-names-clause-err : goal.returns-in_err-names-clause-err
returns-in_err-names-clause-err c =
    passed_on c.from_residual.result c.in_err-names.field-0.0 _ c.from_residual.ensures.1 (unnamed_marker c.args.keys.now.keys (columns c.args.schema.now) (tree_of c.args.expr.now) (tree_of c.args.marker.now) _ (sym c.requires) c.if-not-has_only.ensures c.in_err-names.ensures.err)

pub returns-in_err-expanded-clause-err : goal.returns-in_err-expanded-clause-err
returns-in_err-expanded-clause-err c =
    let source = tree_of c.args.expr.now in
    let named = named_marker c.args.keys.now.keys (columns c.args.schema.now) source (tree_of c.args.marker.now) c.in_ok-names.names.items (sym c.requires) c.if-not-has_only.ensures c.in_ok-names.ensures.ok in
    let lent = ap (λ l. each_ok (as_expression (columns c.args.schema.now)) (map (put_in source) l)) (sym c.deref.ensures.value) in
    passed_on c.from_residual-in_err-expanded.result c.in_err-expanded.field-0.0 _ c.from_residual-in_err-expanded.ensures.1 (refused_as _ _ _ (named ∙ lent) c.in_err-expanded.ensures.err)

pub returns-clause-ok : goal.returns-clause-ok
returns-clause-ok c =
    let source = tree_of c.args.expr.now in
    let named = named_marker c.args.keys.now.keys (columns c.args.schema.now) source (tree_of c.args.marker.now) c.in_ok-names.names.items (sym c.requires) c.if-not-has_only.ensures c.in_ok-names.ensures.ok in
    let lent = ap (λ l. each_ok (as_expression (columns c.args.schema.now)) (map (put_in source) l)) (sym c.deref.ensures.value) in
    named ∙ lent ∙ c.in_ok-expanded.ensures.ok
