use Rattle.std.proofs.Common.{map, sym}
use Rattle.std.proofs.lemmas.Option.{get_or_from_slice_get, slice_get_within}
use Rattle.plan_types.specs.Casts.{cast}
use Rattle.plan_types.specs.FrameFaults.{vals_of}
use Rattle.plan_types.specs.Types.{ty}
use Rattle.plan_types.specs.ValueViews.{val_of}
use Rattle.plan_types.specs.declared.dtype.CastOptions.TheVariants.{NonStrict}
use Rattle.plan_dsl.specs.TableFrames.{given_or_null}
use Rattle.plan_exec.proofs.UnpivotCallLemmas.{value_fits, value_more}
use Rattle.plan_exec.proofs.unpivot.push_cast.Goals as goal

pub cast_or_null-requires-clause-fits : goal.cast_or_null-requires-clause-fits
cast_or_null-requires-clause-fits c =
    value_fits (vals_of c.args.column.now.values) c.loop-row.row (val_of c.value_at.result.now) (ty c.args.column.now.dtype) c.requires.fits c.value_at.ensures

pub loop-row-preserved : goal.loop-row-preserved
loop-row-preserved c =
    let values = vals_of c.args.column.now.values in
    let row = c.loop-row.row in
    let value = val_of c.value_at.result.now in
    value_more (λ value. given_or_null (cast value (ty c.args.column.now.dtype) (ty c.args.dtype.now) NonStrict)) values (map val_of c.args.values.now.items) c.loop-row.values.items c.push.new.self.items row value value c.in_ok-value.value (slice_get_within values row value c.value_at.ensures) (sym (get_or_from_slice_get values row value value c.value_at.ensures)) c.loop-row.invariant c.in_ok-push.ensures.items c.in_ok-value.ensures.ok
