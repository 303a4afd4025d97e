use Rattle.std.proofs.Common.{◌≡◌, [], ◌∷◌, Ok, refl, subst, ◌∙◌, arith}
use Rattle.plan_types.specs.Schemas.{Columns, columns, HasDistinctNames}
use Rattle.plan_types.proofs.SchemaLemmas.{schema_has_distinct_names}
use Rattle.plan_dsl.specs.Drops.{drop_leaves}
use Rattle.plan_dsl.specs.Expressions.{selector_trees}
use Rattle.plan_dsl.specs.Plans.{DropWork}
use Rattle.plan_expand.specs.Refusals.{IsUnexpanded}
use Rattle.plan_lower.specs.Lowering.{columns_at}
use Rattle.plan_lower.specs.Works.{IsWorkAt}
use Rattle.plan_lower.proofs.AddedLemmas.{empty_stays, layer_added, own_adds, own_at, refused_plainly, same_grows}
use Rattle.plan_lower.proofs.DropLemmas.{drop_refusal, drop_work}
use Rattle.plan_lower.proofs.conversion.functions.lower_drop.Goals as goal

pub returns : goal.returns
returns c =
    let schema = columns_at c.args.lp_arena.now c.args.input.schema_node.0 in
    let selectors = selector_trees c.args.function.to_drop in
    let strict = c.args.function.strict in
    let own = columns c.in_ok-columns.columns in
    let node = c.in_ok-node.node in
    let input = c.args.input.node.0 in
    let mid = c.input_of.new.lp_arena in
    let new = c.add.new.self in
    let added = c.in_ok-node.ensures.ok in
    let below = c.in_ok-under.ensures in
    let distinct = subst HasDistinctNames c.recorded_schema-schema.ensures (schema_has_distinct_names c.recorded_schema-schema.result.now) in
    let left = subst (λ (s : Columns). drop_leaves s selectors strict ≡ Ok own) c.recorded_schema-schema.ensures c.in_ok-columns.ensures.ok in
    record {
      ok = λ registry items.
          let at = drop_work registry items new node.0 input c.in_ok-under.under.0 schema own selectors strict distinct left (λ e. empty_stays mid new _ _ added (below.nothing (c.len.ensures ∙ e))) (λ p. below.something (omega (arith, c.len.ensures, p))) (layer_added mid new _ node.0 _ added c.in_ok-node.ensures.node refl) in
          own_at mid new _ node own (IsWorkAt registry schema items new node.0 input (DropWork strict) (selectors ∷ [])) added c.in_ok-node.ensures.node refl at;
      err = tt;
      adds = own_adds c.args.lp_arena.now mid new _ node own below.grows below.options added c.in_ok-node.ensures.node refl;
    }

pub returns-in_err-columns : goal.returns-in_err-columns
returns-in_err-columns c =
    let old = c.args.lp_arena.now in
    let schema = columns_at old c.args.input.schema_node.0 in
    let selectors = selector_trees c.args.function.to_drop in
    let strict = c.args.function.strict in
    let unexpanded = subst (λ (s : Columns). IsUnexpanded (drop_leaves s selectors strict) c.in_err-columns.field-0.0) c.recorded_schema-schema.ensures c.in_err-columns.ensures.err in
    refused_plainly (DropWork strict) (selectors ∷ []) [] c.args.input old old c.from_residual.result _ c.from_residual.ensures.1 (λ registry. drop_refusal registry schema selectors strict _ unexpanded) (same_grows old old refl)
