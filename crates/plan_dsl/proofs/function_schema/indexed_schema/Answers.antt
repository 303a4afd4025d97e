use Rattle.std.proofs.Common.{◌<◌, ◌≤◌, length, map, refl, sym, arith}
use Rattle.plan_types.specs.Schemas.{columns}
use Rattle.plan_types.specs.Types.{field_of}
use Rattle.plan_dsl.specs.Plans.{FunctionWork}
use Rattle.plan_dsl.specs.TableFunctions.{RowIndexFunction}
use Rattle.plan_dsl.specs.TableRules.{indexed_columns}
use Rattle.plan_dsl.proofs.FunctionSchemaLemmas.{all_put, column_there, columns_put, distinct_made, indexed_kinds}
use Rattle.plan_dsl.proofs.function_schema.indexed_schema.Goals as goal
use Rattle.plan_dsl.proofs.function_schema.indexed_schema.Goals.{in-Some+in_ok-push_column-2, in_default}

pub loop-index-preserved : goal.loop-index-preserved
loop-index-preserved c =
    let whole = columns c.args.schema.now in
    let within : c.loop-index.index < length whole = omega (arith, c.len-index-end.ensures) in
    elim c.match-get_at_index.branch [
      | in-Some+in_ok-push_column-2 w ↦ rw w.fields-is (columns_put (λ l. l) _ (map field_of c.loop-index.fields.items) _ whole _ c.loop-index.index _ (sym w.in-Some.ensures) refl w.in_ok-push_column-2.ensures.ok c.loop-index.invariant)
      | in_default w ↦ absurd (column_there whole c.loop-index.index within (sym w.in_default.ensures))
    ]

pub returns : goal.returns
returns c = λ offset.
    let whole = columns c.args.schema.now in
    let name = c.args.name.now in
    let past : length whole ≤ c.loop-index.index = omega (arith, c.len-index-end.ensures) in
    let made = all_put (map field_of c.loop-index.fields.items) whole (indexed_columns name whole) c.loop-index.index past c.loop-index.invariant in
    distinct_made (FunctionWork (RowIndexFunction name offset)) whole (indexed_columns name whole) _ c.distinct_schema.result made (indexed_kinds c.args.schema.now name offset) refl c.distinct_schema.ensures.ok c.distinct_schema.ensures.err
