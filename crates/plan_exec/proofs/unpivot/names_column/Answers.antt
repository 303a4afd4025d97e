use Rattle.std.proofs.Common.{◌≤◌, ◌∙◌, ap, arith, length, map, unwrap_or}
use Rattle.std.proofs.lemmas.List.{take_all}
use Rattle.plan_types.specs.FrameFaults.{shown}
use Rattle.plan_types.specs.Types.{TextType}
use Rattle.plan_exec.specs.ColumnFunctions.{names_below}
use Rattle.plan_exec.proofs.UnpivotCallLemmas.{variable_characters}
use Rattle.plan_exec.proofs.unpivot.names_column.Goals as goal

pub returns-clause-ok : goal.returns-clause-ok
returns-clause-ok c =
    let past : length c.args.columns.now ≤ c.loop-column.column-index = omega (arith, c.loop-column-test.false) in
    let named = c.in_ok-name.ensures.ok ∙ ap (unwrap_or c.args.name.now) variable_characters in
    let made = c.from_values.ensures ∙ c.loop-column.invariant ∙ ap (λ columns. names_below (map (λ column. shown column.now) columns)) (take_all c.loop-column.column-index c.args.columns.now past) in
    (λ i. ((named i, TextType), made i))
