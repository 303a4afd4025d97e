use Rattle.std.proofs.Common.{◌≡◌}
use Rattle.plan_types.specs.Types.{ty, fields_in}
use Rattle.plan_types.specs.Values.{items_fit, parts_fit}
use Rattle.plan_types.specs.ValueViews.{values_in}
use Rattle.plan_types.proofs.FittingLemmas.{items_from, parts_from}
use Rattle.plan_types.proofs.value.+fitting.Given as goal

abbrev pub invariant-items_fit-loop-item : goal.invariant-items_fit-loop-item
invariant-items_fit-loop-item l = items_fit (values_in l.items) (ty l.dtype) ≡ items_from l.item-index l.items (ty l.dtype)

abbrev pub invariant-parts_fit-loop-index : goal.invariant-parts_fit-loop-index
invariant-parts_fit-loop-index l = parts_fit (values_in l.parts) (fields_in l.fields) ≡ parts_from l.index l.parts l.fields
