use Rattle.std.proofs.Common.{string_bytes, subst}
use Rattle.plan_types.specs.FrameViews.{frame_of}
use Rattle.plan_dsl.specs.Plans.{function_work}
use Rattle.table_functions.specs.Running.{IsRun, IsRunError}
use Rattle.table_functions.proofs.ToldLemmas.{frame_is_told, refusal_is_told}
use Rattle.table_functions.proofs.runs.told.Goals as goal

pub returns-in-Ok : goal.returns-in-Ok
returns-in-Ok c =
    let work = function_work c.args.function.now in
    let frame = frame_of c.args.frame in
    frame_is_told string_bytes work frame c.frame_text.result c.in-Ok.made (subst (IsRun work frame) c.in-Ok.is c.run.ensures).ok c.frame_text.ensures

pub returns-in-Err-Refused : goal.returns-in-Err-Refused
returns-in-Err-Refused c =
    let work = function_work c.args.function.now in
    let frame = frame_of c.args.frame in
    refusal_is_told string_bytes work frame c.told_refusal.result c.in-Err-Refused.error (subst (IsRunError work frame) c.in-Err-Refused.field-0-is (subst (IsRun work frame) c.in-Err-Refused.is c.run.ensures).err) c.told_refusal.ensures.kind c.told_refusal.ensures.text
