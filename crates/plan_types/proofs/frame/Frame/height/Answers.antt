use Rattle.std.proofs.Common.{sym, ◌∙◌}
use Rattle.std.proofs.lemmas.List.FromFn.{length-map-range_with_len}
use Rattle.plan_types.specs.FrameFaults.{height_of, row_of}
use Rattle.plan_types.proofs.frame.Frame.height.Goals as goal

pub returns : goal.returns
returns c =
    rw (← c.as_slice.ensures.value) (c.height.ensures ∙ sym (length-map-range_with_len (row_of c.as_slice.result.now) 0 (height_of c.as_slice.result.now)))
