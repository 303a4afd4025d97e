use Rattle.std.proofs.Common.{◌≡◌, ◌∙◌, length}
use Rattle.std.specs.Iterator.Adapters.{zip_first, zip_second}
use Rattle.std.specs.Slice.Iter.{iter_rest}
use Rattle.std.specs.Vec.Iter.{into_iter_items, into_iter_len}
use Rattle.std.proofs.lemmas.Iterator.{YieldsList-from_slice, YieldsList-from_zip}
use Rattle.std.proofs.lemmas.Iterator.Adapters.{YieldsList-from_vec}
use Rattle.std.proofs.lemmas.Iterator.Consumers.{YieldsList-end}
use Rattle.plan_exec.proofs.RepeatedLemmas.{all_repeated, repeated_next}
use Rattle.plan_exec.proofs.explode.repeated.Goals as goal

pub loop-value-preserved : goal.loop-value-preserved
loop-value-preserved c = repeated_next c.loop-value.yielded (c.in-Some.value, c.in-Some.count) c.loop-value.made.items c.push_times.new.values.items c.loop-value.invariant c.in_ok-push_times.ensures.ok

pub returns-clause-ok : goal.returns-clause-ok
returns-clause-ok c =
    let items : into_iter_items (zip_first c.into_iter-value-iterator.result) ≡ c.into_values.result.items = cc in
    let long : into_iter_len (zip_first c.into_iter-value-iterator.result) ≡ length c.into_values.result.items = let ok = c.into_values.result.ok.0 in cc in
    let counts : iter_rest (zip_second c.into_iter-value-iterator.result) ≡ c.args.counts.now = cc in
    let chain = YieldsList-from_zip {s = c.into_iter-value-iterator.result} (YieldsList-from_vec c.into_values.result.items items long) (YieldsList-from_slice c.args.counts.now counts) in
    let pairs = YieldsList-end chain c.loop-value.yielded c.loop-value.value-iterator c.loop-value.yielded_by c.next.result c.next.new.self c.in-None.is c.next.ensures.steps in
    c.from_values.ensures ∙ all_repeated c.args.counts.now c.into_values.result.items c.loop-value.yielded _ _ pairs.0 c.loop-value.invariant c.into_values.ensures
