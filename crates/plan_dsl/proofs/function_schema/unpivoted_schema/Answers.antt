use Rattle.std.proofs.Common.{◌≡◌, ◌++◌, Some, true, sym, ap, ◌∙◌}
use Rattle.std.specs.Option.{option_map}
use Rattle.plan_types.specs.Schemas.{columns}
use Rattle.plan_types.specs.Types.{ty}
use Rattle.plan_dsl.specs.Drops.{have_names}
use Rattle.plan_dsl.specs.Plans.{FunctionWork}
use Rattle.plan_dsl.specs.TableFunctions.{UnpivotFunction}
use Rattle.plan_dsl.specs.TableRules.{value_type}
use Rattle.plan_dsl.proofs.FunctionSchemaLemmas.{distinct_made}
use Rattle.plan_dsl.proofs.FunctionTypeLemmas.{unpivoted_kinds, unpivot_makes}
use Rattle.plan_dsl.proofs.function_schema.unpivoted_schema.Goals as goal

pub returns : goal.returns
returns c =
    let whole = columns c.args.schema.now in
    let on = c.args.args.now.on.items.items in
    let index = c.args.args.now.index.items.items in
    let variable = c.args.args.now.variable_name in
    let value = c.args.args.now.value_name in
    let stand : have_names whole (on ++ index) ≡ true = rw (← c.as_slice-on.ensures.value, ← c.as_slice-index.ensures.value) (sym c.has_both.ensures ∙ c.if-not-has_both.false) in
    let common : Some (ty c.in-Some.dtype) ≡ value_type whole on index = rw (← c.as_slice-on.ensures.value, ← c.as_slice-index.ensures.value) (sym (ap (option_map ty) c.in-Some.is) ∙ c.in_ok-dtype.ensures.ok) in
    distinct_made (FunctionWork (UnpivotFunction on index variable value)) whole _ _ c.distinct_schema.result c.in_ok-fields.ensures.ok (unpivoted_kinds whole on index variable value (ty c.in-Some.dtype) common stand) (unpivot_makes whole on index variable value (ty c.in-Some.dtype) common) c.distinct_schema.ensures.ok c.distinct_schema.ensures.err
