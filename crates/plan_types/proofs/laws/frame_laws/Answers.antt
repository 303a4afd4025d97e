use Rattle.plan_types.proofs.FrameCallLemmas.{frame_is_frame}
use Rattle.plan_types.proofs.SchemaLemmas.{schema_has_distinct_names}
use Rattle.plan_types.proofs.laws.frame_laws.Goals as goal

pub returns-clause-schema : goal.returns-clause-schema
returns-clause-schema c = schema_has_distinct_names

pub returns-clause-frame : goal.returns-clause-frame
returns-clause-frame c = frame_is_frame
