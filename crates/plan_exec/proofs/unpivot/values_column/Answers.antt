use Rattle.std.proofs.Common.{◌≡◌, ◌≤◌, ◌∙◌, ap, arith, length, map, unwrap_or}
use Rattle.std.proofs.lemmas.List.{take_all}
use Rattle.plan_types.specs.Casts.{can_cast}
use Rattle.plan_types.specs.FrameFaults.{shown}
use Rattle.plan_types.specs.Schemas.{columns}
use Rattle.plan_types.specs.Types.{ty}
use Rattle.plan_exec.specs.ColumnFunctions.{below_type, values_below}
use Rattle.plan_exec.proofs.UnpivotCallLemmas.{cast_at, type_found, value_characters}
use Rattle.plan_exec.proofs.unpivot.values_column.Goals as goal

pub push_cast-requires-clause-known : goal.push_cast-requires-clause-known
push_cast-requires-clause-known c =
    let type = below_type (columns c.args.schema.now) c.args.args.now.on.items.items c.args.args.now.index.items.items in
    let is : ty c.in-Some.dtype ≡ type = rw (← c.as_slice-on.ensures.value, ← c.as_slice.ensures.value) (type_found c.in_ok-dtype.field-0 c.in-Some.dtype _ c.in_ok-dtype.ensures.ok c.in-Some.is) in
    ap (can_cast (ty c.column-item.result.now.dtype)) (c.loop-column.invariant.1 ∙ is) ∙ (cast_at type c.args.columns.now c.loop-column.column-index c.column-item.result c.requires.casts c.loop-column-test.true c.column-item.is).0

pub push_cast-requires-clause-fits : goal.push_cast-requires-clause-fits
push_cast-requires-clause-fits c =
    (cast_at _ c.args.columns.now c.loop-column.column-index c.column-item.result c.requires.casts c.loop-column-test.true c.column-item.is).1

pub returns-clause-ok : goal.returns-clause-ok
returns-clause-ok c =
    let past : length c.args.columns.now ≤ c.loop-column.column-index = omega (arith, c.loop-column-test.false) in
    let type = below_type (columns c.args.schema.now) c.args.args.now.on.items.items c.args.args.now.index.items.items in
    let is : ty c.in-Some.dtype ≡ type = rw (← c.as_slice-on.ensures.value, ← c.as_slice.ensures.value) (type_found c.in_ok-dtype.field-0 c.in-Some.dtype _ c.in_ok-dtype.ensures.ok c.in-Some.is) in
    let own = c.loop-column.invariant.1 ∙ is in
    let named = c.in_ok-name.ensures.ok ∙ ap (unwrap_or c.args.args.now.value_name) value_characters in
    let all = take_all c.loop-column.column-index c.args.columns.now past in
    let made = c.from_values.ensures ∙ c.loop-column.invariant.0 ∙ (λ i. values_below (own i) (map (λ column. shown column.now) (all i))) in
    (λ i. ((named i, own i), made i))
