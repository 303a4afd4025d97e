use Rattle.plan_json.proofs.Names.{ap, sym, ◌∙◌, ◌≡◌, view, query_of}
use Rattle.plan_json.proofs.NoFaults.{query_has_no_fault}
use Rattle.plan_json.proofs.read.read_query.Goals as goal

pub returns-clause-complete : goal.returns-clause-complete
returns-clause-complete c query (d, (text, read), is) =
    let same : d ≡ view c.in-Ok.value = cc (read, c.in-Ok.ensures.ok.1) in
    query_has_no_fault _ query _ (ap query_of (sym same) ∙ is) c.in-Err-read_value.ensures.err
