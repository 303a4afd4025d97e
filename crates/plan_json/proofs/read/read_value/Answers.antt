use Rattle.plan_json.proofs.Names.{Some, ap, codes, refl, a_plan, a_query, part, query_part, table_list, view, names_of, declared}
use Rattle.plan_json.proofs.Lemmas.{declared_names-read, part_in}
use Rattle.plan_json.proofs.read.read_value.Goals as goal

pub returns-in-Err-clause-err : goal.returns-in-Err-clause-err
returns-in-Err-clause-err c = c.below.ensures a_query table_list _ _ (part_in (query_part (codes "tables")) _ _ _ c.in-Some.ensures refl) c.in-Err.ensures.err

pub returns-in-Err-read_plan-clause-err : goal.returns-in-Err-read_plan-clause-err
returns-in-Err-read_plan-clause-err c =
    let names = declared_names-read (view c.in-Some.tables.now) (declared c.in-Ok.tables) c.in-Ok.ensures.ok in
    c.below-in-Err-read_plan.ensures a_query (a_plan (names_of (declared c.in-Ok.tables))) _ (view c.in-Some.plan.now)
    (part_in (query_part (codes "plan")) _ _ _ c.in-Some.ensures (ap (λ n. Some (part (a_plan n) (view c.in-Some.plan.now))) names)) c.in-Err-read_plan.ensures.err
