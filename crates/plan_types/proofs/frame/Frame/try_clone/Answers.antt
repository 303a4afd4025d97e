use Rattle.std.proofs.Common.{◌∙◌, ap, map}
use Rattle.std.proofs.lemmas.List.{take_all}
use Rattle.plan_types.specs.FrameFaults.{shown}
use Rattle.plan_types.proofs.FrameCopyLemmas.{same_framed, sound_copy}
use Rattle.plan_types.proofs.ListLemmas.{mapped_more}
use Rattle.plan_types.proofs.frame.Frame.try_clone.Goals as goal

pub loop-column-preserved : goal.loop-column-preserved
loop-column-preserved c =
    mapped_more shown shown _ _ _ c.as_slice-column-items.result.now c.loop-column.column-index _ c.loop-column-test.true c.loop-column.invariant c.in_ok-push.ensures.items c.in_ok-copy.ensures.ok c.column-item.is

pub invariant_of-result : goal.invariant_of-result
invariant_of-result c =
    let items = c.as_slice-column-items.result.now in
    let whole = c.loop-column.invariant ∙ ap (map shown) (take_all c.loop-column.column-index items c.loop-column-test.false ∙ c.as_slice-column-items.ensures.value) in
    record { sound = sound_copy c.loop-column.columns.items c.args.self.now.columns.items whole c.args.self.now.sound }

pub returns-clause-frame : goal.returns-clause-frame
returns-clause-frame c =
    let items = c.as_slice-column-items.result.now in
    let whole = c.loop-column.invariant ∙ ap (map shown) (take_all c.loop-column.column-index items c.loop-column-test.false ∙ c.as_slice-column-items.ensures.value) in
    same_framed c.loop-column.columns.items c.args.self.now.columns.items whole
