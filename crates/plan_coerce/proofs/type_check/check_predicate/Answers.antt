use Rattle.std.proofs.Common.{sym, ◌∙◌}
use Rattle.plan_types.specs.Schemas.{columns}
use Rattle.plan_types.proofs.ResultLemmas.{passed_on}
use Rattle.plan_dsl.specs.Registry.{registry}
use Rattle.plan_dsl.specs.Typing.{typing}
use Rattle.plan_infer.specs.KeptTypes.{typed_of}
use Rattle.plan_infer.proofs.TableLemmas.{kept_typing}
use Rattle.plan_coerce.proofs.PlanNodeLemmas.{truth_found, truth_missing, truth_refused}
use Rattle.plan_coerce.proofs.type_check.check_predicate.Goals as goal

pub returns-in_err-field_of-clause-err : goal.returns-in_err-field_of-clause-err
returns-in_err-field_of-clause-err g c = passed_on c.from_residual.result c.in_err-field_of.field-0.0 _ c.from_residual.ensures.1 (λ t d.
    truth_refused (typing (registry c.args.udfs.now) (columns c.args.schema.now) t) c.in_err-field_of.field-0.0 (c.in_err-field_of.ensures.err t d))

pub returns-then-is_truth-clause-ok : goal.returns-then-is_truth-clause-ok
returns-then-is_truth-clause-ok g c = λ t d.
    let own = c.get-own.result.now in
    let is = kept_typing (registry c.args.udfs.now) (columns c.args.schema.now) c.args.arena.now c.field_of.new.self c.in_ok-field_of.ensures.right c.args.node.0 own c.get-own.ensures t d in
    truth_found (typing (registry c.args.udfs.now) (columns c.args.schema.now) t) (typed_of own) is (sym c.is_truth.ensures ∙ c.if-is_truth.true)

pub returns-clause-err : goal.returns-clause-err
returns-clause-err g c = λ t d.
    let own = c.get-own.result.now in
    let is = kept_typing (registry c.args.udfs.now) (columns c.args.schema.now) c.args.arena.now c.field_of.new.self c.in_ok-field_of.ensures.right c.args.node.0 own c.get-own.ensures t d in
    truth_missing (typing (registry c.args.udfs.now) (columns c.args.schema.now) t) (typed_of own) c.at_top.result is (sym c.is_truth.ensures ∙ c.if-is_truth.false) c.at_top.ensures
