use Rattle.std.proofs.Common.{◌≡◌, Some, sym, ap, ◌∙◌, subst}
use Rattle.plan_types.specs.Schemas.{columns}
use Rattle.plan_types.proofs.ResultLemmas.{passed_on}
use Rattle.plan_dsl.specs.Registry.{registry}
use Rattle.plan_arena.specs.Denotation.{DenotesTree}
use Rattle.plan_arena.specs.Items.{DenotesPlan, HoldsExpression}
use Rattle.plan_arena.specs.declared.expr_ir.ExprIR.{ExprIR}
use Rattle.plan_arena.specs.declared.plan.IRPlan.{IRPlan}
use Rattle.plan_arena.proofs.ItemLemmas.{plan_within}
use Rattle.own_rule.specs.HarmlessCasts.{relaxed}
use Rattle.planner.specs.Planning.{HasTree, StandsFor, split_scan}
use Rattle.planner.proofs.ArenaLemmas.{filter_is, other_input, other_top, predicate_tree}
use Rattle.planner.proofs.SplitLemmas.{split_denoted, split_tree, was_filtered, was_split}
use Rattle.planner.proofs.StandsLemmas.{relaxing_refused, split_stands}
use Rattle.planner.proofs.relaxed.Goals as goal

pub get-requires : goal.get-requires
get-requires c = plan_within c.args.plan.expr_arena c.args.plan.lp_arena c.args.plan.lp_top.0 c.requires

pub returns-in_default : goal.returns-in_default
returns-in_default c =
    let plan = c.args.plan in
    let same : c.new.result ≡ plan = c.new.ensures in
    record {
      tree = subst HasTree (sym same) c.requires;
      split = λ predicate table schema d. absurd (other_top plan.expr_arena plan.lp_arena plan.lp_top.0 c.get.result.now c.get.ensures c.in_default.not-Filter predicate table schema d);
      others = λ other. same;
      stands = λ source is. subst (StandsFor (registry c.args.udfs.now) source) (sym same) is;
      err = λ source is. tt;
    }

pub get-requires-2 : goal.get-requires-2
get-requires-2 c =
    let plan = c.args.plan in
    let f = filter_is plan.expr_arena plan.lp_arena plan.lp_top.0 c.in-Filter.input c.in-Filter.predicate (c.get.ensures ∙ ap Some c.in-Filter.is) c.requires in
    plan_within plan.expr_arena plan.lp_arena c.in-Filter.input.0 (record { tree = f.below; denotes = f.under })

pub returns-in_default-get : goal.returns-in_default-get
returns-in_default-get c =
    let plan = c.args.plan in
    let same : c.new-in_default-get.result ≡ plan = c.new-in_default-get.ensures in
    record {
      tree = subst HasTree (sym same) c.requires;
      split = λ predicate table schema d. absurd (other_input plan.expr_arena plan.lp_arena plan.lp_top.0 c.in-Filter.input c.in-Filter.predicate c.get-2.result.now (c.get.ensures ∙ ap Some c.in-Filter.is) c.get-2.ensures c.in_default-get.not-DataFrameScan predicate table schema d);
      others = λ other. same;
      stands = λ source is. subst (StandsFor (registry c.args.udfs.now) source) (sym same) is;
      err = λ source is. tt;
    }

pub relax_casts-requires : goal.relax_casts-requires
relax_casts-requires c =
    let plan = c.args.plan in
    subst (DenotesTree (HoldsExpression plan.expr_arena)) (sym c.node.ensures) (predicate_tree plan.expr_arena plan.lp_arena plan.lp_top.0 c.in-Filter.input c.in-Filter.predicate (c.get.ensures ∙ ap Some c.in-Filter.is) c.requires)

pub returns-in_err-relax_casts-clause-err : goal.returns-in_err-relax_casts-clause-err
returns-in_err-relax_casts-clause-err c = λ source is.
    passed_on c.from_residual.result c.in_err-relax_casts.field-0.0 _ c.from_residual.ensures.1 (relaxing_refused (registry c.args.udfs.now) source c.args.plan c.in-DataFrameScan.table c.in-DataFrameScan.schema c.in-Filter.input c.in-Filter.predicate c.node.result.0 c.in_err-relax_casts.field-0.0 (c.get.ensures ∙ ap Some c.in-Filter.is) (c.get-2.ensures ∙ ap Some c.in-DataFrameScan.is) c.node.ensures c.in_err-relax_casts.ensures.err is)

pub split_predicate-requires : goal.split_predicate-requires
split_predicate-requires c =
    let plan = c.args.plan in
    let new = c.relax_casts.new.arena in
    let d = predicate_tree plan.expr_arena plan.lp_arena plan.lp_top.0 c.in-Filter.input c.in-Filter.predicate (c.get.ensures ∙ ap Some c.in-Filter.is) c.requires in
    let before = subst (DenotesTree (HoldsExpression plan.expr_arena)) (sym c.node.ensures) d in
    let after : DenotesTree (HoldsExpression new) c.node.result.0 = record { tree = relaxed (registry c.args.udfs.now) (columns c.in-DataFrameScan.schema) before.tree; denotes = c.in_ok-relax_casts.ensures.relaxed before.tree before.denotes } in
    subst (λ (e : ExprIR). DenotesTree (HoldsExpression new) e.node.0) (sym c.in_ok-predicate.ensures.ok) (subst (DenotesTree (HoldsExpression new)) c.node.ensures after)

pub returns : goal.returns
returns c =
    let plan = c.args.plan in
    let table = c.in-DataFrameScan.table in
    let schema = c.in-DataFrameScan.schema in
    let s = was_split (registry c.args.udfs.now) plan.expr_arena c.relax_casts.new.arena plan.lp_arena c.add_filters.new.lp_arena plan.lp_top.0 c.in_ok-lp_top.lp_top.0 table schema c.in-Filter.input c.in-Filter.predicate c.in_ok-predicate.predicate c.node.result.0 c.in_ok-parts.parts.items (c.get.ensures ∙ ap Some c.in-Filter.is) (c.get-2.ensures ∙ ap Some c.in-DataFrameScan.is) c.node.ensures c.in_ok-predicate.ensures.ok c.in_ok-relax_casts.ensures.relaxed c.in_ok-parts.ensures.ok c.in_ok-lp_top.ensures.ok c.in_ok-lp_top.ensures.grows in
    let made : IRPlan = record { lp_top = c.in_ok-lp_top.lp_top; lp_arena = c.add_filters.new.lp_arena; expr_arena = c.relax_casts.new.arena } in
    let same : made ≡ c.new-2.result = sym c.new-2.ensures in
    record {
      tree = subst HasTree same (split_tree s c.requires);
      split = λ predicate table schema d. subst (λ (r : IRPlan). DenotesPlan r (split_scan (registry c.args.udfs.now) predicate table schema)) same (split_denoted s predicate table schema d);
      others = λ other. let f = was_filtered s c.requires in absurd (other (record { predicate = f.0; table = table; schema = columns schema; denotes = f.1 }));
      stands = λ source is. subst (StandsFor (registry c.args.udfs.now) source) same (split_stands (registry c.args.udfs.now) source plan made table schema s c.relax_casts.ensures.like is);
      err = λ source is. tt;
    }
