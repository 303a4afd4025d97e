use Rattle.std.proofs.Common.{◌≡◌, [], ◌∷◌, ◌++◌, reverse, None, sym, ap, subst}
use Rattle.plan_types.specs.Schemas.{columns}
use Rattle.plan_types.proofs.ResultLemmas.{passed_on}
use Rattle.plan_types.proofs.SchemaLemmas.{schema_has_distinct_names}
use Rattle.plan_dsl.specs.Plans.{options_in, over_op, plan_tree}
use Rattle.plan_dsl.specs.PlanRules.{schema_of}
use Rattle.plan_dsl.specs.Registry.{registry}
use Rattle.plan_dsl.specs.Resolving.{resolved_op, resolved}
use Rattle.plan_dsl.specs.Trees.{node, no_more, more}
use Rattle.plan_arena.specs.Options.{options_of}
use Rattle.plan_arena.proofs.ItemLemmas.{grows_then}
use Rattle.plan_lower.specs.Lowering.{columns_at, StandsFor}
use Rattle.plan_lower.specs.Steps.{step_lists, step_work}
use Rattle.plan_lower.proofs.PlanLemmas.{scan_stands, scan_refused, refused_below}
use Rattle.plan_lower.proofs.RecordedLemmas.{columns_of_recorded}
use Rattle.plan_lower.proofs.StepLemmas.{step_options, step_stands}
use Rattle.plan_lower.proofs.WorkLemmas.{work_refused}
use Rattle.plan_lower.proofs.conversion.dsl_to_ir.+plans.Goals as goal

pub lower-returns-in_err-lowered-in-DataFrameScan-clause-err :
    goal.lower-returns-in_err-lowered-in-DataFrameScan-clause-err
lower-returns-in_err-lowered-in-DataFrameScan-clause-err t c =
    let r = registry c.args.udfs.now in
    passed_on c.from_residual.result c.in_err-lowered-in-DataFrameScan.field-0.0 _ c.from_residual.ensures.1 (scan_refused r c.in-DataFrameScan.table (columns c.in-DataFrameScan.schema) (resolved r (plan_tree c.args.plan)) _ c.in_err-lowered-in-DataFrameScan.ensures.err (ap (λ p. resolved r (plan_tree p)) c.in-DataFrameScan.is))

pub lower-returns-in_ok-lowered-in-DataFrameScan-clause-ok :
    goal.lower-returns-in_ok-lowered-in-DataFrameScan-clause-ok
lower-returns-in_ok-lowered-in-DataFrameScan-clause-ok t c =
    let r = registry c.args.udfs.now in
    let lowered = c.in_ok-lowered-in-DataFrameScan.lowered in
    scan_stands r c.args.expr_arena.now c.lower_scan.new.lp_arena lowered.node.0 c.in-DataFrameScan.table (columns c.in-DataFrameScan.schema) (columns_at c.lower_scan.new.lp_arena lowered.schema_node.0) (resolved r (plan_tree c.args.plan)) c.in_ok-lowered-in-DataFrameScan.ensures.ok (columns_of_recorded c.lower_scan.new.lp_arena lowered.schema_node.0 _ c.in_ok-lowered-in-DataFrameScan.ensures.schema) (schema_has_distinct_names c.in-DataFrameScan.schema) c.in_ok-lowered-in-DataFrameScan.ensures.known (ap (λ p. resolved r (plan_tree p)) c.in-DataFrameScan.is)

pub add_over-returns-in-Err-clause-err : goal.add_over-returns-in-Err-clause-err
add_over-returns-in-Err-clause-err t c =
    let r = registry c.args.udfs.now in
    let source = resolved r (plan_tree c.into_inner.result) in
    let op = over_op (step_work c.args.step) (step_lists c.args.step) None in
    refused_below r (resolved_op r op (schema_of r source ∷ [])) source _ c.in-Err.error c.below.result c.in-Err.ensures.err c.below.ensures (ap (λ p. resolved r (node op (more (plan_tree p) no_more))) (sym c.into_inner.ensures))

pub add_over-returns-in_err-lowered-in-Ok-clause-err : goal.add_over-returns-in_err-lowered-in-Ok-clause-err
add_over-returns-in_err-lowered-in-Ok-clause-err t c =
    let r = registry c.args.udfs.now in
    let input = c.in-Ok in
    let schema = columns_at c.lower.new.lp_arena input.input.schema_node.0 in
    let stands = subst (λ p. StandsFor r c.lower.new.expr_arena c.lower.new.lp_arena input.input.node.0 schema (resolved r (plan_tree p))) c.into_inner.ensures input.ensures.ok in
    passed_on c.from_residual.result c.in_err-lowered-in-Ok.field-0.0 _ c.from_residual.ensures.1 (work_refused r (step_work c.args.step) (step_lists c.args.step) schema (plan_tree c.args.input.value) _ stands.built.source_schema c.in_err-lowered-in-Ok.ensures.err)

pub add_over-returns-in_ok-lowered-in-Ok-clause-ok : goal.add_over-returns-in_ok-lowered-in-Ok-clause-ok
add_over-returns-in_ok-lowered-in-Ok-clause-ok t c =
    let r = registry c.args.udfs.now in
    let input = c.in-Ok in
    let lowered = c.in_ok-lowered-in-Ok in
    let schema = columns_at c.lower.new.lp_arena input.input.schema_node.0 in
    let own = columns_at c.lower_step.new.lp_arena lowered.lowered.schema_node.0 in
    let stands = subst (λ p. StandsFor r c.lower.new.expr_arena c.lower.new.lp_arena input.input.node.0 schema (resolved r (plan_tree p))) c.into_inner.ensures input.ensures.ok in
    step_stands r c.args.step c.lower.new.expr_arena c.lower_step.new.expr_arena c.lower.new.lp_arena c.lower_step.new.lp_arena input.input.node.0 lowered.lowered.node.0 schema own (plan_tree c.args.input.value) lowered.ensures.kept lowered.ensures.adds.grows stands lowered.ensures.ok

pub add_over-returns-in_ok-lowered-in-Ok-clause-adds : goal.add_over-returns-in_ok-lowered-in-Ok-clause-adds
add_over-returns-in_ok-lowered-in-Ok-clause-adds t c =
    let adds = c.in_ok-lowered-in-Ok.ensures.adds in
    let below = subst (λ p. options_of c.lower.new.lp_arena ≡ options_of c.args.lp_arena.now ++ reverse (options_in p)) c.into_inner.ensures c.in-Ok.ensures.adds.options in
    record {
      recorded = adds.recorded;
      grows = grows_then c.args.lp_arena.now c.lower.new.lp_arena c.lower_step.new.lp_arena c.in-Ok.ensures.adds.grows adds.grows;
      options = step_options c.args.step (options_in c.args.input.value) _ _ _ below adds.options;
    }
