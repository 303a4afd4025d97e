use Rattle.std.proofs.Common.{refl, sym, subst, ◌∙◌}
use Rattle.std.proofs.lemmas.List.{append-nil}
use Rattle.plan_types.specs.Schemas.{Columns}
use Rattle.plan_dsl.specs.Expressions.{tree_of}
use Rattle.plan_dsl.specs.Registry.{registry}
use Rattle.plan_arena.specs.Items.{named_node}
use Rattle.plan_arena.specs.Options.{options_of}
use Rattle.plan_lower.specs.Lowering.{columns_at}
use Rattle.plan_lower.specs.Predicates.{HasExpandedPredicate, IsUnfiltered}
use Rattle.plan_lower.specs.declared.conversion.step.Step.TheVariants.{Filter}
use Rattle.plan_lower.proofs.AddedLemmas.{refused_lowers, same_grows}
use Rattle.plan_lower.proofs.PlanLemmas.{filter_at, filter_refusal}
use Rattle.plan_lower.proofs.RecordedLemmas.{columns_stay, records_stay}
use Rattle.plan_lower.proofs.conversion.nodes.lower_filter.Goals as goal

pub split_predicate-requires : goal.split_predicate-requires
split_predicate-requires c =
    let lowered = c.in_ok-predicate.ensures.ok.lowered in
    record { tree = lowered.output.after; denotes = lowered.denotes.1 }

pub returns : goal.returns
returns c =
    let r = registry c.args.udfs.now in
    let old = c.args.lp_arena.now in
    let new = c.add_filters.new.lp_arena in
    let schema = columns_at old c.args.input.schema_node.0 in
    let source = tree_of c.args.predicate in
    let predicate = named_node c.in_ok-predicate.predicate in
    let grows = c.in_ok-node.ensures.grows in
    let has = subst (λ (s : Columns). HasExpandedPredicate r s c.lower_predicate.new.arena source predicate) c.recorded_schema-schema.ensures c.in_ok-predicate.ensures.ok in
    record {
      ok = (filter_at r schema c.lower_predicate.new.arena new c.in_ok-node.node.0 c.args.input.node.0 source predicate c.in_ok-predicates.predicates.items has c.in_ok-predicates.ensures.ok c.in_ok-node.ensures.ok, columns_stay old new c.args.input.schema_node c.args.input.schema_node grows refl c.requires);
      err = tt;
      kept = c.in_ok-predicate.ensures.kept;
      adds = record {
        recorded = records_stay old new c.args.input.schema_node c.args.input.schema_node grows refl c.requires;
        grows = grows;
        options = c.in_ok-node.ensures.options ∙ sym (append-nil (options_of old));
      };
    }

pub returns-in_err-predicate : goal.returns-in_err-predicate
returns-in_err-predicate c =
    let r = registry c.args.udfs.now in
    let old = c.args.lp_arena.now in
    let source = tree_of c.args.predicate in
    let refused = subst (λ (s : Columns). IsUnfiltered r s source c.in_err-predicate.field-0.0) c.recorded_schema-schema.ensures c.in_err-predicate.ensures.err in
    refused_lowers r (Filter c.args.predicate) c.args.input _ _ old old c.from_residual.result _ c.from_residual.ensures.1 (filter_refusal r (columns_at old c.args.input.schema_node.0) _ source refused) c.in_err-predicate.ensures.kept (same_grows old old refl)
