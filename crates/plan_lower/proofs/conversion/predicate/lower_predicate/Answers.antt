use Rattle.std.proofs.Common.{◌≡◌, true, map, refl, ap, sym, subst}
use Rattle.std.specs.List.{list_all}
use Rattle.std.proofs.lemmas.Bool.{and_from}
use Rattle.plan_types.specs.Errors.{no_memory, no_room}
use Rattle.plan_types.specs.Schemas.{columns}
use Rattle.plan_types.proofs.ResultLemmas.{passed_on}
use Rattle.plan_dsl.specs.Expressions.{plain_tree, tree_of}
use Rattle.plan_dsl.specs.Registry.{registry}
use Rattle.plan_dsl.specs.Sources.{is_plain}
use Rattle.plan_arena.specs.Items.{named_node}
use Rattle.plan_lower.specs.Outputs.{HasOutputs}
use Rattle.plan_lower.specs.Predicates.{not_expanded, no_predicate}
use Rattle.plan_lower.specs.Projection.{IsProjectionRefusal}
use Rattle.plan_lower.specs.declared.conversion.asked.Asked.TheVariants.{TruthValue}
use Rattle.plan_lower.proofs.ProjectionLemmas.{has_predicate, only_node}
use Rattle.plan_lower.proofs.conversion.predicate.lower_predicate.Goals as goal

pub returns-in_err-expanded-clause-err : goal.returns-in_err-expanded-clause-err
returns-in_err-expanded-clause-err c =
    passed_on c.from_residual.result c.in_err-expanded.field-0.0 _ c.from_residual.ensures.1 (not_expanded c.in_err-expanded.ensures.err)

pub project_asked-requires : goal.project_asked-requires
project_asked-requires c =
    record { plain = subst (λ es. list_all is_plain (map tree_of es) ≡ true) (sym c.in_ok-items.ensures.items) (and_from _ true c.in_ok-expanded.ensures.plain refl) }

pub only_one-requires : goal.only_one-requires
only_one-requires c =
    let has = subst (λ es. HasOutputs (registry c.args.udfs.now) (columns c.args.schema.now) TruthValue c.project_asked.new.arena (map plain_tree es) (map named_node c.in_ok-lowered.lowered.expr.items.items) (columns c.in_ok-lowered.lowered.schema)) c.in_ok-items.ensures.items c.in_ok-lowered.ensures.ok in
    only_node _ _ _ _ _ _ _ has

pub returns-clause-ok : goal.returns-clause-ok
returns-clause-ok c =
    let r = registry c.args.udfs.now in
    let schema = columns c.args.schema.now in
    let items = c.project_asked.new.arena in
    let tree = plain_tree c.in_ok-expanded.expanded in
    let lowered = c.in_ok-lowered.lowered in
    let has = subst (λ es. HasOutputs r schema TruthValue items (map plain_tree es) (map named_node lowered.expr.items.items) (columns lowered.schema)) c.in_ok-items.ensures.items c.in_ok-lowered.ensures.ok in
    record { tree = tree; expanded = c.in_ok-expanded.ensures.ok; lowered = has_predicate r schema items tree (named_node c.only_one.result) _ _ has (ap (map named_node) c.only_one.ensures) }

pub returns-in_err-items-clause-err : goal.returns-in_err-items-clause-err
returns-in_err-items-clause-err c =
    passed_on c.from_residual-in_err-items.result no_memory _ c.from_residual-in_err-items.ensures.1 (not_expanded (no_room refl))

pub returns-in_err-lowered-clause-err : goal.returns-in_err-lowered-clause-err
returns-in_err-lowered-clause-err c =
    let refused = subst (λ es. IsProjectionRefusal (registry c.args.udfs.now) (columns c.args.schema.now) TruthValue (map plain_tree es) c.in_err-lowered.field-0.0) c.in_ok-items.ensures.items c.in_err-lowered.ensures.err in
    passed_on c.from_residual-in_err-lowered.result c.in_err-lowered.field-0.0 _ c.from_residual-in_err-lowered.ensures.1 (no_predicate (plain_tree c.in_ok-expanded.expanded) c.in_ok-expanded.ensures.ok refused)
