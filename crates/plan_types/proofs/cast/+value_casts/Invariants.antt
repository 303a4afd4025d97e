use Rattle.plan_types.specs.Types.{ty}
use Rattle.plan_types.proofs.CastPartLemmas.{CastingItems, CastingParts}
use Rattle.plan_types.proofs.cast.+value_casts.Given as goal

abbrev pub invariant-cast_items-loop-item : goal.invariant-cast_items-loop-item
invariant-cast_items-loop-item l = CastingItems l.items (ty l.from) (ty l.to) l.options l.converted.items l.item-index

abbrev pub invariant-cast_parts-loop-index : goal.invariant-cast_parts-loop-index
invariant-cast_parts-loop-index l = CastingParts l.parts l.from l.to l.options l.converted.items l.index
