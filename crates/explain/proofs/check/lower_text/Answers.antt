use Rattle.plan_dsl.specs.Registry.{registry}
use Rattle.plan_json.specs.Bytes.{WritesQuery}
use Rattle.plan_json.specs.Queries.{query_model}
use Rattle.explain.proofs.VerdictLemmas.{answer_refuses, answer_stands, read_one}
use Rattle.explain.proofs.check.lower_text.Goals as goal

pub returns-clause-ok : goal.returns-clause-ok
returns-clause-ok c =
    let writes = read_one (λ query. WritesQuery c.args.text.now (query_model query)) c.read_query.result c.in_ok-query.query c.in_ok-query.ensures.cases c.read_query.ensures.ok in
    answer_stands (registry c.args.udfs.now) c.args.text.now (query_model c.in_ok-query.query) writes _ c.to_alp.result c.map_err-2.result c.map_err-2.ensures.cases c.to_alp.ensures.answers c.to_alp.ensures.typed c.to_alp.ensures.sound c.to_alp.ensures.same_frame

pub returns-clause-err : goal.returns-clause-err
returns-clause-err c =
    let writes = read_one (λ query. WritesQuery c.args.text.now (query_model query)) c.read_query.result c.in_ok-query.query c.in_ok-query.ensures.cases c.read_query.ensures.ok in
    answer_refuses (registry c.args.udfs.now) c.args.text.now (query_model c.in_ok-query.query) writes _ c.to_alp.result c.map_err-2.result c.map_err-2.ensures.cases c.to_alp.ensures.answers (λ error refusal is. cc)
