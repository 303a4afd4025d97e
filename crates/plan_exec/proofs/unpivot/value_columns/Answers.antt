use Rattle.std.proofs.Common.{◌≡◌, ◌∙◌, ◌==◌, ap, filter, length, map, not, subst, sym, true}
use Rattle.plan_types.specs.FrameFaults.{shown}
use Rattle.plan_types.specs.Schemas.{HasDistinctNames, is_among}
use Rattle.plan_types.proofs.SchemaLemmas.{schema_has_distinct_names}
use Rattle.plan_dsl.specs.TableRules.{value_columns}
use Rattle.plan_exec.specs.ColumnFunctions.{columns_named}
use Rattle.plan_exec.proofs.ColumnUnderLemmas.{value_of_none}
use Rattle.plan_exec.proofs.SoundLemmas.{heads_shown}
use Rattle.plan_exec.proofs.unpivot.value_columns.Goals as goal

pub returns-in_ok-found-clause-ok : goal.returns-in_ok-found-clause-ok
returns-in_ok-found-clause-ok c =
    let columns = map shown c.args.columns.now in
    let on = c.args.args.now.on.items.items in
    let index = c.args.args.now.index.items.items in
    let own = heads_shown c.args.columns.now in
    let distinct = subst HasDistinctNames (c.requires.schema ∙ own) (schema_has_distinct_names c.args.schema.now) in
    let none : (length on == 0) ≡ true = ap (λ names. length names == 0) (sym c.as_slice-on.ensures.value) ∙ sym c.is_empty.ensures ∙ c.if-is_empty.true in
    c.in_ok-found.ensures.ok ∙ ap (λ names. filter (λ column. not (is_among column.0.0 names)) columns) c.as_slice.ensures.value
    ∙ value_of_none columns on index distinct none ∙ ap (λ s. columns_named columns (value_columns s on index)) (sym own)
