use Rattle.plan_types.proofs.SuperFieldLemmas.{SuperDone}
use Rattle.plan_types.proofs.supertype.+supertypes.Given as goal

abbrev pub invariant-super_fields-loop-index : goal.invariant-super_fields-loop-index
invariant-super_fields-loop-index l = SuperDone l.fields l.others l.items.items l.index
