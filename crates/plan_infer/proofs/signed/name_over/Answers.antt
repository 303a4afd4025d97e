use Rattle.std.proofs.Common.{sym, ◌∙◌}
use Rattle.plan_infer.specs.KeptTypes.{IsKept}
use Rattle.plan_infer.proofs.TableLemmas.{all_at}
use Rattle.plan_infer.proofs.SignedLemmas.{some_there}
use Rattle.plan_infer.proofs.signed.name_over.Goals as goal

pub get-requires : goal.get-requires
get-requires c = all_at (IsKept c.args.types.now) c.args.inputs.now 0 (record { 0 = 0 }) c.requires.inputs (some_there c.args.inputs.now (sym c.is_empty.ensures ∙ c.if-is_empty.false))
