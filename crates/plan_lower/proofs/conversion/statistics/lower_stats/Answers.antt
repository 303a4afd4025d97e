use Rattle.std.proofs.Common.{◌≡◌, map, subst}
use Rattle.plan_types.specs.Schemas.{Columns}
use Rattle.plan_dsl.specs.Expressions.{trees_of}
use Rattle.plan_dsl.specs.Registry.{registry}
use Rattle.plan_dsl.specs.Sources.{written}
use Rattle.plan_dsl.specs.TableCalls.{statistics}
use Rattle.plan_lower.proofs.FunctionLemmas.{stats_lowers}
use Rattle.plan_lower.proofs.conversion.statistics.lower_stats.Goals as goal

pub returns : goal.returns
returns c =
    let are = subst (λ (s : Columns). trees_of c.in_ok-exprs.exprs ≡ map written (statistics c.args.statistic s)) c.recorded_schema-schema.ensures c.in_ok-exprs.ensures.ok in
    stats_lowers (registry c.args.udfs.now) c.args.statistic c.in_ok-exprs.exprs c.args.input _ _ _ _ c.lower_select.result are c.lower_select.ensures
