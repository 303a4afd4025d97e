use Rattle.std.proofs.Common.{sym, ap, ◌∙◌, subst, Some}
use Rattle.plan_types.specs.Schemas.{columns}
use Rattle.plan_types.proofs.ResultLemmas.{passed_on}
use Rattle.plan_dsl.specs.Registry.{registry}
use Rattle.plan_arena.specs.Denotation.{Denotes, DenotesTree}
use Rattle.plan_arena.specs.Items.{HoldsExpression}
use Rattle.plan_infer.specs.KeptTypes.{IsRight}
use Rattle.plan_coerce.proofs.PlanNodeLemmas.{checked, input_has, input_within, is_over, predicate_tree, refused, right_over_filter, schema_is}
use Rattle.plan_coerce.proofs.type_check.TypeCheckRuleOptimizationRule.optimize_plan.Goals as goal

pub get-requires-2 : goal.get-requires-2
get-requires-2 g c = input_within (registry c.args.udfs.now) c.args.expr_arena.now c.args.lp_arena.now c.args.node.0 c.in-Filter.input c.in-Filter.predicate (c.get.ensures ∙ ap Some c.in-Filter.is) c.requires.inputs

pub schema_ref-schema-requires : goal.schema_ref-schema-requires
schema_ref-schema-requires g c = input_has (registry c.args.udfs.now) c.args.expr_arena.now c.args.lp_arena.now c.args.node.0 c.in-Filter.input c.in-Filter.predicate (c.get.ensures ∙ ap Some c.in-Filter.is) c.get-2.result.now c.get-2.ensures c.requires.inputs

pub check_predicate-requires-clause-tree : goal.check_predicate-requires-clause-tree
check_predicate-requires-clause-tree g c =
    subst (λ n. DenotesTree (HoldsExpression c.args.expr_arena.now) n) (sym c.node.ensures) (predicate_tree (registry c.args.udfs.now) c.args.expr_arena.now c.args.lp_arena.now c.args.node.0 c.in-Filter.input c.in-Filter.predicate (c.get.ensures ∙ ap Some c.in-Filter.is) c.requires.inputs)

pub check_predicate-requires-clause-right : goal.check_predicate-requires-clause-right
check_predicate-requires-clause-right g c =
    right_over_filter (registry c.args.udfs.now) c.args.expr_arena.now c.args.lp_arena.now c.args.node.0 c.in-Filter.input c.in-Filter.predicate (c.get.ensures ∙ ap Some c.in-Filter.is) c.requires.inputs c.get-2.result.now c.get-2.ensures (columns c.schema_ref-schema.result.now) c.schema_ref-schema.ensures.denoted c.args.types.now c.requires.right

pub returns-in_err-check_predicate-clause-right : goal.returns-in_err-check_predicate-clause-right
returns-in_err-check_predicate-clause-right g c = λ schema right only.
    let same = schema_is (registry c.args.udfs.now) c.args.expr_arena.now c.args.lp_arena.now c.args.node.0 c.in-Filter.input c.in-Filter.predicate (c.get.ensures ∙ ap Some c.in-Filter.is) c.requires.inputs c.get-2.result.now c.get-2.ensures (columns c.schema_ref-schema.result.now) c.schema_ref-schema.ensures.denoted schema only in
    subst (λ s. IsRight (registry c.args.udfs.now) s c.args.expr_arena.now c.check_predicate.new.types) same c.check_predicate.ensures.right

pub returns-in_err-check_predicate-clause-untouched : goal.returns-in_err-check_predicate-clause-untouched
returns-in_err-check_predicate-clause-untouched g c = λ none.
    absurd (is_over (registry c.args.udfs.now) c.args.expr_arena.now c.args.lp_arena.now c.args.node.0 c.in-Filter.input c.in-Filter.predicate (c.get.ensures ∙ ap Some c.in-Filter.is) c.requires.inputs c.get-2.result.now c.get-2.ensures (columns c.schema_ref-schema.result.now) c.schema_ref-schema.ensures.denoted none)

pub returns-in_err-check_predicate-clause-err : goal.returns-in_err-check_predicate-clause-err
returns-in_err-check_predicate-clause-err g c = passed_on c.from_residual.result c.in_err-check_predicate.field-0.0 _ c.from_residual.ensures.1
    (refused (registry c.args.udfs.now) c.args.expr_arena.now c.args.lp_arena.now c.args.node.0 c.in-Filter.input c.in-Filter.predicate (c.get.ensures ∙ ap Some c.in-Filter.is) c.requires.inputs c.get-2.result.now c.get-2.ensures (columns c.schema_ref-schema.result.now) c.schema_ref-schema.ensures.denoted c.in_err-check_predicate.field-0.0 (λ t d. c.in_err-check_predicate.ensures.err t (subst (λ n. Denotes (HoldsExpression c.args.expr_arena.now) n t) (sym c.node.ensures) d)))

pub returns-clause-answer : goal.returns-clause-answer
returns-clause-answer g c =
    checked (registry c.args.udfs.now) c.args.expr_arena.now c.args.lp_arena.now c.args.node.0 c.in-Filter.input c.in-Filter.predicate (c.get.ensures ∙ ap Some c.in-Filter.is) c.requires.inputs c.get-2.result.now c.get-2.ensures (columns c.schema_ref-schema.result.now) c.schema_ref-schema.ensures.denoted (λ t d. c.in_ok-check_predicate.ensures.ok t (subst (λ n. Denotes (HoldsExpression c.args.expr_arena.now) n t) (sym c.node.ensures) d))

pub returns-clause-right : goal.returns-clause-right
returns-clause-right g c = λ schema right only.
    let same = schema_is (registry c.args.udfs.now) c.args.expr_arena.now c.args.lp_arena.now c.args.node.0 c.in-Filter.input c.in-Filter.predicate (c.get.ensures ∙ ap Some c.in-Filter.is) c.requires.inputs c.get-2.result.now c.get-2.ensures (columns c.schema_ref-schema.result.now) c.schema_ref-schema.ensures.denoted schema only in
    subst (λ s. IsRight (registry c.args.udfs.now) s c.args.expr_arena.now c.check_predicate.new.types) same c.check_predicate.ensures.right

pub returns-clause-untouched : goal.returns-clause-untouched
returns-clause-untouched g c = λ none.
    absurd (is_over (registry c.args.udfs.now) c.args.expr_arena.now c.args.lp_arena.now c.args.node.0 c.in-Filter.input c.in-Filter.predicate (c.get.ensures ∙ ap Some c.in-Filter.is) c.requires.inputs c.get-2.result.now c.get-2.ensures (columns c.schema_ref-schema.result.now) c.schema_ref-schema.ensures.denoted none)
