use Rattle.std.proofs.Common.{[], ◌∷◌, None, Ok, refl, subst}
use Rattle.std.specs.Option.{option_map}
use Rattle.plan_types.specs.Schemas.{Columns}
use Rattle.plan_dsl.specs.Expressions.{selector_trees}
use Rattle.plan_dsl.specs.Plans.{DistinctWork, OrderOption, column_names, subset_lists}
use Rattle.plan_lower.specs.Steps.{AddsStep}
use Rattle.plan_lower.specs.Works.{IsPlain, IsPlainRefusal}
use Rattle.plan_lower.proofs.AddedLemmas.{refused_plainly, same_grows}
use Rattle.plan_lower.proofs.conversion.distincts.lower_distinct.Goals as goal

pub returns : goal.returns
returns c =
    let work = DistinctWork c.args.options.keep_strategy None in
    let lists = subset_lists (option_map selector_trees c.args.options.subset) in
    let options = c.in_ok-options.options in
    let own = DistinctWork options.keep_strategy (column_names options.subset) in
    let lowered = c.in_ok-lowered in
    record {
      ok = lowered.ensures.plain work own lists (subst (λ (s : Columns). IsPlain s work lists own) c.recorded_schema-schema.ensures c.in_ok-options.ensures.plain) refl refl;
      err = tt;
      adds = subst (λ order. AddsStep c.args.lp_arena.now c.add_plain.new.lp_arena (OrderOption order ∷ []) (Ok lowered.lowered)) c.in_ok-options.ensures.order lowered.ensures.adds;
    }

pub returns-in_err-options : goal.returns-in_err-options
returns-in_err-options c =
    let old = c.args.lp_arena.now in
    let work = DistinctWork c.args.options.keep_strategy None in
    let lists = subset_lists (option_map selector_trees c.args.options.subset) in
    let refused = subst (λ (s : Columns). IsPlainRefusal s work lists c.in_err-options.field-0.0) c.recorded_schema-schema.ensures c.in_err-options.ensures.err in
    refused_plainly work lists _ c.args.input old old c.from_residual.result _ c.from_residual.ensures.1 refused (same_grows old old refl)
