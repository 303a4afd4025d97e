use Rattle.plan_dsl.proofs.FrameLemmas.{meaning_has_schema, own_columns_give_the_frame}
use Rattle.plan_dsl.proofs.plan_laws.frame_laws.Goals as goal

pub returns : goal.returns
returns c = record { schema = meaning_has_schema; own_columns = own_columns_give_the_frame }
