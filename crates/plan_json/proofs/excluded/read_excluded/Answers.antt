use Rattle.plan_json.proofs.Names.{an_excluded, ap, excluded_form, excluded_key_form, option_map, sym, view}
use Rattle.plan_json.proofs.FaultLemmas.{key_in}
use Rattle.plan_json.proofs.ReaderLemmas.{told}
use Rattle.plan_json.proofs.excluded.read_excluded.Goals as goal

pub returns-in-Err : goal.returns-in-Err
returns-in-Err c =
    told (c.below.ensures an_excluded (excluded_form c.in-Some-find_excluded.key) _ (view c.in-Some.inner.now)
    (key_in excluded_key_form _ _ _ _ _ c.in-Some.ensures c.in-Some-find_excluded.ensures.word (ap (option_map (λ r. excluded_form r.1)) (sym c.in-Some-find_excluded.ensures.row))) c.in-Err.ensures.err)
