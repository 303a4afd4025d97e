use Rattle.std.proofs.Common.{◌<◌, ◌++◌, [], ◌∷◌, length, map, sym, ap, ◌∙◌, arith}
use Rattle.std.proofs.lemmas.List.{map-append}
use Rattle.plan_types.specs.Schemas.{columns}
use Rattle.plan_dsl.specs.Expressions.{tree_of}
use Rattle.plan_dsl.proofs.FunctionSchemaLemmas.{column_there}
use Rattle.plan_lower.proofs.FunctionLemmas.{statistics_more}
use Rattle.plan_lower.proofs.conversion.statistics.statistics_of.Goals as goal
use Rattle.plan_lower.proofs.conversion.statistics.statistics_of.Goals.{in-Some+in_ok-expr+in_ok-push, in_default}

pub loop-index-preserved : goal.loop-index-preserved
loop-index-preserved c =
    let whole = columns c.args.schema.now in
    let within : c.loop-index.index < length whole = omega (arith, c.len-index-end.ensures) in
    elim c.match-get_at_index.branch [
      | in-Some+in_ok-expr+in_ok-push w ↦ rw w.items-is (statistics_more c.args.statistic (map tree_of c.loop-index.items.items) _ _ whole c.loop-index.index _ (sym w.in-Some.ensures) c.loop-index.invariant (ap (map tree_of) w.in_ok-push.ensures.items ∙ map-append tree_of c.loop-index.items.items (w.in_ok-expr.expr ∷ []) ∙ ap (λ tree. map tree_of c.loop-index.items.items ++ tree ∷ []) w.in_ok-expr.ensures.ok))
      | in_default w ↦ absurd (column_there whole c.loop-index.index within (sym w.in_default.ensures))
    ]
