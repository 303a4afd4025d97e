use Rattle.std.proofs.Common.{◌+◌, ◌∷◌, [], map, drop, sym, ap, ◌∙◌}
use Rattle.std.proofs.lemmas.List.{map-append}
use Rattle.plan_types.proofs.ResultLemmas.{passed_on}
use Rattle.plan_types.specs.Schemas.{columns}
use Rattle.plan_dsl.specs.Expansion.{as_expression, markers_in}
use Rattle.plan_dsl.specs.Expressions.{plain_tree, tree_of}
use Rattle.plan_dsl.specs.Refusals.{each_ok}
use Rattle.plan_expand.proofs.EachLemmas.{behind, each_refused, each_step}
use Rattle.plan_expand.proofs.ExpansionLemmas.{name_left, plain_more, put_in, refused_as}
use Rattle.plan_expand.proofs.FieldLemmas.{unmarked_put}
use Rattle.plan_expand.proofs.expr_expansion.repeated.Goals as goal

pub returns-in_err-own-clause-err : goal.returns-in_err-own-clause-err
returns-in_err-own-clause-err c =
    let source = tree_of c.args.expr.now in
    let done = map plain_tree c.loop-name.repeated.items in
    let index = c.loop-name.name-index in
    let name = c.name-item.result in
    let left = ap (λ l. behind done (each_ok (as_expression (columns c.args.schema.now)) l)) (name_left source c.args.names.now index name c.loop-name-test.true c.name-item.is) in
    let refused = refused_as (as_expression (columns c.args.schema.now) (put_in source name)) _ _ (sym (ap (as_expression (columns c.args.schema.now)) c.in_ok-copy.ensures.ok)) c.in_err-own.ensures.err in
    passed_on c.from_residual-in_err-own.result c.in_err-own.field-0.0 _ c.from_residual-in_err-own.ensures.1 (each_refused (as_expression (columns c.args.schema.now)) done (put_in source name) (map (put_in source) (drop (index + 1) c.args.names.now)) _ _ (c.loop-name.invariant.so_far ∙ left) refused)

pub loop-name-preserved : goal.loop-name-preserved
loop-name-preserved c =
    let source = tree_of c.args.expr.now in
    let done = map plain_tree c.loop-name.repeated.items in
    let index = c.loop-name.name-index in
    let name = c.name-item.result in
    let left = ap (λ l. behind done (each_ok (as_expression (columns c.args.schema.now)) l)) (name_left source c.args.names.now index name c.loop-name-test.true c.name-item.is) in
    let grown = ap (map plain_tree) c.in_ok-push.ensures.items ∙ map-append plain_tree c.loop-name.repeated.items (c.in_ok-own.own ∷ []) in
    record {
      so_far = c.loop-name.invariant.so_far ∙ left ∙ each_step (as_expression (columns c.args.schema.now)) done _ (put_in source name) (map (put_in source) (drop (index + 1) c.args.names.now)) (plain_tree c.in_ok-own.own) (sym (ap (as_expression (columns c.args.schema.now)) c.in_ok-copy.ensures.ok) ∙ c.in_ok-own.ensures.ok) grown;
      plain = plain_more c.loop-name.repeated.items c.push.new.self.items c.in_ok-own.own c.in_ok-push.ensures.items c.loop-name.invariant.plain c.in_ok-own.ensures.plain;
    }

pub as_expression-requires : goal.as_expression-requires
as_expression-requires c = ap markers_in c.in_ok-copy.ensures.ok ∙ unmarked_put c.name-item.result (tree_of c.args.expr.now)
