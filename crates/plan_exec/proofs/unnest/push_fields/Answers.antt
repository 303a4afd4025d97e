use Rattle.std.proofs.Common.{◌++◌, ◌∙◌, ap, map, sym}
use Rattle.plan_types.specs.Types.{fields_in}
use Rattle.plan_types.specs.FrameFaults.{shown}
use Rattle.plan_types.proofs.FieldLemmas.{listed_fields}
use Rattle.plan_exec.specs.ColumnFunctions.{parted}
use Rattle.plan_exec.proofs.unnest.push_fields.Goals as goal

pub loop-field-init : goal.loop-field-init
loop-field-init c =
    let fields = ap fields_in c.into_iter-field-iterator.ensures.into_iter_gives.0 ∙ sym (listed_fields c.args.fields) in
    let rows = c.in_ok-rows.ensures.ok in
    record { can = tt; finite = tt; so_far = λ i. map shown c.args.made.now.items ++ parted (fields i) (rows i) }
