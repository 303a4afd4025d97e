use Rattle.std.proofs.Common.{arith}
use Rattle.std.proofs.KnownBytes.{Appends-trans}
use Rattle.std.proofs.Math.Seq.{take-add}
use Rattle.std.proofs.lemmas.List.{take_rest}
use Rattle.byte_streams.proofs.stream.write_all.Goals as goal

pub writing-preserved : goal.writing-preserved
writing-preserved g c = record {
  within = omega (arith, c.in_ok-done.ensures);
  front = rw take-add (Appends-trans _ _ _ _ _ c.writing.invariant.front (rw take_rest at c.in_ok-done.ensures.bytes));
  later = omega (arith, c.in_ok-done.ensures.cause.later);
}
