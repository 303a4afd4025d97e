use Rattle.std.proofs.Common.{◌<◌, ◌∙◌, ap, length, rules}
use Rattle.plan_types.specs.SchemaCalls.{column_at}
use Rattle.plan_exec.proofs.UnpivotCallLemmas.{column_found, name_more, never_missing, place_within}
use Rattle.plan_exec.proofs.unpivot.columns_under.Goals.{in-Some+in_ok-push, in_default}
use Rattle.plan_exec.proofs.unpivot.columns_under.Goals as goal

pub offset_bounds-columns-place : goal.offset_bounds-columns-place
offset_bounds-columns-place c =
    let within : c.in-Some.place < length c.args.columns.now = place_within c.name-item.result _ c.args.columns.now c.in-Some.place (c.in-Some.ensures ∙ ap (λ s. column_at s c.name-item.result) c.requires.schema) in
    search rules

pub bounds-columns-place : goal.bounds-columns-place
bounds-columns-place c =
    place_within c.name-item.result _ c.args.columns.now c.in-Some.place (c.in-Some.ensures ∙ ap (λ s. column_at s c.name-item.result) c.requires.schema)

pub loop-name-preserved : goal.loop-name-preserved
loop-name-preserved c =
    let columns = c.args.columns.now in
    let names = c.args.names.now in
    let i = c.loop-name.name-index in
    let name = c.name-item.result in
    elim c.match-get_full.branch [
      | in-Some+in_ok-push w ↦
          let found = column_found name _ columns w.in-Some.place w.index-columns-place.result (w.in-Some.ensures ∙ ap (λ s. column_at s name) c.requires.schema) w.index-columns-place.is in
          rw w.found-is (name_more columns names c.loop-name.found.items w.push.new.self.items i name _ c.loop-name-test.true c.name-item.is c.loop-name.invariant w.in_ok-push.ensures.items found)
      | in_default w ↦ absurd (never_missing columns names i name c.requires.there c.loop-name-test.true c.name-item.is (w.in_default.ensures ∙ ap (λ s. column_at s name) c.requires.schema))
    ]
