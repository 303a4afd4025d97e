use Rattle.plan_dsl.specs.Registry.{registry}
use Rattle.query_run.specs.declared.status.Status.TheVariants.{Lowered, Refused, BadQuery, TooLong, NoMemory}
use Rattle.query_run.proofs.TextLemmas.{tells, not_usage, too_long_where, bad_query_where, refused_where, completes}
use Rattle.query_run.proofs.text.run_to_text.Goals as goal

pub returns-clause-no_usage : goal.returns-clause-no_usage
returns-clause-no_usage c =
    not_usage (registry c.args.udfs.now) c.args.query.now c.told_of.result.text.items c.told_of.result.done c.told_of.ensures.ended c.told_of.ensures.no_fault

pub returns-clause-lowered : goal.returns-clause-lowered
returns-clause-lowered c is =
    tells (registry c.args.udfs.now) c.args.query.now c.told_of.result.text.items c.told_of.result.done c.told_of.ensures.ended c.told_of.ensures.no_fault Lowered is

pub returns-clause-refused : goal.returns-clause-refused
returns-clause-refused c error is =
    (tells (registry c.args.udfs.now) c.args.query.now c.told_of.result.text.items c.told_of.result.done c.told_of.ensures.ended c.told_of.ensures.no_fault (Refused error) is).0

pub returns-clause-bad_query : goal.returns-clause-bad_query
returns-clause-bad_query c error is =
    (tells (registry c.args.udfs.now) c.args.query.now c.told_of.result.text.items c.told_of.result.done c.told_of.ensures.ended c.told_of.ensures.no_fault (BadQuery error) is).0

pub returns-clause-too_long : goal.returns-clause-too_long
returns-clause-too_long c is =
    (tells (registry c.args.udfs.now) c.args.query.now c.told_of.result.text.items c.told_of.result.done c.told_of.ensures.ended c.told_of.ensures.no_fault TooLong is).0

pub returns-clause-no_memory : goal.returns-clause-no_memory
returns-clause-no_memory c is =
    (tells (registry c.args.udfs.now) c.args.query.now c.told_of.result.text.items c.told_of.result.done c.told_of.ensures.ended c.told_of.ensures.no_fault NoMemory is).0

pub returns-clause-too_long_where : goal.returns-clause-too_long_where
returns-clause-too_long_where c =
    too_long_where (registry c.args.udfs.now) c.args.query.now c.told_of.result.text.items c.told_of.result.done c.told_of.ensures.ended c.told_of.ensures.no_fault

pub returns-clause-bad_query_where : goal.returns-clause-bad_query_where
returns-clause-bad_query_where c =
    bad_query_where (registry c.args.udfs.now) c.args.query.now c.told_of.result.text.items c.told_of.result.done c.told_of.ensures.ended c.told_of.ensures.no_fault

pub returns-clause-refused_where : goal.returns-clause-refused_where
returns-clause-refused_where c =
    refused_where (registry c.args.udfs.now) c.args.query.now c.told_of.result.text.items c.told_of.result.done c.told_of.ensures.ended c.told_of.ensures.no_fault

pub returns-clause-complete : goal.returns-clause-complete
returns-clause-complete c =
    completes (registry c.args.udfs.now) c.args.query.now c.told_of.result.text.items c.told_of.result.done c.told_of.ensures.ended c.told_of.ensures.no_fault
