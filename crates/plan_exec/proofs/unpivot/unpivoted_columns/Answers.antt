use Rattle.std.proofs.Common.{◌∙◌, ap, map, sym}
use Rattle.std.proofs.lemmas.List.{length-map}
use Rattle.plan_types.specs.FrameFaults.{shown}
use Rattle.plan_types.specs.Schemas.{columns}
use Rattle.plan_types.specs.Types.{TextType}
use Rattle.plan_dsl.specs.TableRules.{value_name, variable_name}
use Rattle.plan_exec.specs.ColumnFunctions.{below_type, column_times, columns_named, names_below, values_below}
use Rattle.plan_exec.proofs.UnpivotLemmas.{all_made, values_castable}
use Rattle.plan_exec.proofs.unpivot.unpivoted_columns.Goals as goal

pub values_column-requires-clause-casts : goal.values_column-requires-clause-casts
values_column-requires-clause-casts c =
    let args = c.args.args.now in
    values_castable (columns c.args.schema.now) c.args.columns.now args.on.items.items args.index.items.items args.variable_name args.value_name _ c.requires.schema c.requires.sound c.requires.kinds (ap (map (λ column. shown column.now)) c.as_slice-4.ensures.value ∙ c.in_ok-on.ensures.ok)

pub returns-clause-ok : goal.returns-clause-ok
returns-clause-ok c =
    let args = c.args.args.now in
    let old = map shown c.args.columns.now in
    let index = c.in_ok-index.ensures.ok ∙ ap (columns_named old) c.as_slice.ensures.value in
    let repeated = c.in_ok-made.ensures.ok ∙ ap (λ columns. map (column_times c.len.result) (map (λ column. shown column.now) columns)) c.as_slice-2.ensures.value in
    let many = c.len.ensures ∙ c.in_ok-on.on.ok.0 ∙ sym (length-map c.in_ok-on.on.items (λ column. shown column.now)) in
    let type = below_type (columns c.args.schema.now) args.on.items.items args.index.items.items in
    let names = c.in_ok-names_column.ensures.ok ∙ ap (λ columns. ((variable_name args.variable_name, TextType), names_below (map (λ column. shown column.now) columns))) c.as_slice-3.ensures.value in
    let values = c.in_ok-values_column.ensures.ok ∙ ap (λ columns. ((value_name args.value_name, type), values_below type (map (λ column. shown column.now) columns))) c.as_slice-4.ensures.value in
    all_made (columns c.args.schema.now) c.args.columns.now args.on.items.items args.index.items.items args.variable_name args.value_name _ _ c.in_ok-made.made.items c.push.new.self.items c.push-2.new.self.items _ _ c.len.result c.requires.schema c.in_ok-on.ensures.ok index many repeated c.in_ok-push.ensures.items c.in_ok-push-2.ensures.items names values
