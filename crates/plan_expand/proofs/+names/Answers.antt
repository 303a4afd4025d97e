use Rattle.std.proofs.Common.{◌≡◌, false, ap, ◌∙◌, sym, subst}
use Rattle.plan_types.proofs.ResultLemmas.{passed_on}
use Rattle.plan_types.specs.Errors.{broken}
use Rattle.plan_types.specs.Schemas.{columns, repeats}
use Rattle.plan_types.specs.declared.error.ErrorKind.TheVariants.{InvalidOperation}
use Rattle.plan_dsl.specs.Expressions.{selector_tree}
use Rattle.plan_expand.specs.Names.{selected, set_rule}
use Rattle.plan_expand.proofs.EachLemmas.{nothing_found}
use Rattle.plan_expand.proofs.NameLemmas.{once_distinct}
use Rattle.plan_expand.proofs.MarkerLemmas.{no_marker, selector_listed, rooted, root_refused, two_selected}
use Rattle.plan_expand.proofs.+names.Goals as goal

pub markers::marker_names-returns-in_ok-list-in-Selector-clause-ok :
    goal.markers::marker_names-returns-in_ok-list-in-Selector-clause-ok
markers::marker_names-returns-in_ok-list-in-Selector-clause-ok t c =
    selector_listed c.args.keys.now.keys (columns c.args.schema.now) c.args.marker.now c.in-Selector.selector c.in_ok-names-in-Selector.names.keys c.lacking.result.keys c.in_ok-list-in-Selector.list.items c.in-Selector.is c.in_ok-names-in-Selector.ensures.ok c.lacking.ensures.names c.in_ok-list-in-Selector.ensures.ok

pub markers::marker_names-returns-in_default : goal.markers::marker_names-returns-in_default
markers::marker_names-returns-in_default t c = record {
  ok = tt;
  err = broken InvalidOperation c.at_top.ensures (no_marker c.args.keys.now.keys (columns c.args.schema.now) c.args.marker.now c.in_default.not-Columns c.in_default.not-DtypeColumn c.in_default.not-IndexColumn c.in_default.not-Nth c.in_default.not-Wildcard c.in_default.not-Exclude c.in_default.not-Selector);
}

pub selectors::rooted-returns-in_err-listed : goal.selectors::rooted-returns-in_err-listed
selectors::rooted-returns-in_err-listed t c = record {
  ok = nothing_found c.from_residual-in_err-listed.result _ c.from_residual-in_err-listed.ensures.0;
  once = nothing_found c.from_residual-in_err-listed.result _ c.from_residual-in_err-listed.ensures.0;
  err = passed_on c.from_residual-in_err-listed.result c.in_err-listed.field-0.0 _ c.from_residual-in_err-listed.ensures.1 (root_refused c.args.keys.now.keys (columns c.args.schema.now) c.args.expr.now c.in_err-listed.field-0.0 c.in_default.not-Column c.in_err-listed.ensures.err);
}

pub selectors::rooted-returns : goal.selectors::rooted-returns
selectors::rooted-returns t c = record {
  ok = rooted c.args.keys.now.keys (columns c.args.schema.now) c.args.expr.now c.in_ok-listed.listed.items c.in_ok-names.names.keys c.in_default.not-Column c.in_ok-listed.ensures.ok c.in_ok-names.ensures.ok;
  once = subst (λ l. repeats l ≡ false) (sym c.in_ok-names.ensures.ok) (once_distinct c.in_ok-listed.listed.items);
  err = tt;
}

pub selectors::selected-returns-in_ok-joined-in-Two-clause-ok :
    goal.selectors::selected-returns-in_ok-joined-in-Two-clause-ok
selectors::selected-returns-in_ok-joined-in-Two-clause-ok t c =
    let keys = c.args.keys.now.keys in
    let schema = columns c.args.schema.now in
    ap (selected keys schema) c.in-Two.ensures ∙ two_selected keys schema (set_rule c.in-Two.rule) (selector_tree c.in-Two.first.now) (selector_tree c.in-Two.second.now) _ _ _ c.in_ok-names-in-Two.ensures.ok c.in_ok-others-in-Two.ensures.ok c.in_ok-joined-in-Two.ensures.ok
