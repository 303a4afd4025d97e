use Rattle.std.proofs.Common.{◌≡◌, List, Ok, sym, subst}
use Rattle.plan_types.proofs.ResultLemmas.{passed_on}
use Rattle.plan_types.specs.Schemas.{columns}
use Rattle.plan_dsl.specs.Expansion.{expansions, key_names}
use Rattle.plan_dsl.specs.Expressions.{plain_trees, trees_of}
use Rattle.plan_dsl.specs.Sources.{Source}
use Rattle.plan_expand.specs.Refusals.{IsUnexpanded}
use Rattle.plan_lower.specs.Groups.{keys_unexpanded, aggregates_unexpanded, not_grouped}
use Rattle.plan_lower.proofs.GroupLemmas.{written_trees}
use Rattle.plan_lower.proofs.conversion.groups.group_strictly.Goals as goal

pub returns-clause-ok : goal.returns-clause-ok
returns-clause-ok c =
    let keys = c.in_ok-keys.keys in
    let same = written_trees keys.items.items c.in_ok-keys.ensures.ok.plain in
    record {
      trees = plain_trees keys;
      expanded = c.in_ok-keys.ensures.ok.trees;
      aggregates = plain_trees c.in_ok-aggs.aggs;
      also = subst (λ (names : List Source). expansions (key_names names) (columns c.args.schema.now) (trees_of c.args.aggs) ≡ Ok (plain_trees c.in_ok-aggs.aggs)) (sym same) c.in_ok-aggs.ensures.ok.trees;
      lowered = c.in_ok-groups.ensures.ok;
    }

pub returns-in_err-keys-clause-err : goal.returns-in_err-keys-clause-err
returns-in_err-keys-clause-err c =
    passed_on c.from_residual.result c.in_err-keys.field-0.0 _ c.from_residual.ensures.1 (keys_unexpanded c.in_err-keys.ensures.err)

pub returns-in_err-aggs-clause-err : goal.returns-in_err-aggs-clause-err
returns-in_err-aggs-clause-err c =
    let keys = c.in_ok-keys.keys in
    let same = written_trees keys.items.items c.in_ok-keys.ensures.ok.plain in
    let refused = subst (λ (names : List Source). IsUnexpanded (expansions (key_names names) (columns c.args.schema.now) (trees_of c.args.aggs)) c.in_err-aggs.field-0.0) (sym same) c.in_err-aggs.ensures.err in
    passed_on c.from_residual-in_err-aggs.result c.in_err-aggs.field-0.0 _ c.from_residual-in_err-aggs.ensures.1 (aggregates_unexpanded (plain_trees keys) c.in_ok-keys.ensures.ok.trees refused)

pub returns-in_err-groups-clause-err : goal.returns-in_err-groups-clause-err
returns-in_err-groups-clause-err c =
    let keys = c.in_ok-keys.keys in
    let same = written_trees keys.items.items c.in_ok-keys.ensures.ok.plain in
    let also = subst (λ (names : List Source). expansions (key_names names) (columns c.args.schema.now) (trees_of c.args.aggs) ≡ Ok (plain_trees c.in_ok-aggs.aggs)) (sym same) c.in_ok-aggs.ensures.ok.trees in
    passed_on c.from_residual-in_err-groups.result c.in_err-groups.field-0.0 _ c.from_residual-in_err-groups.ensures.1 (not_grouped (plain_trees keys) (plain_trees c.in_ok-aggs.aggs) c.in_ok-keys.ensures.ok.trees also c.in_err-groups.ensures.err)
