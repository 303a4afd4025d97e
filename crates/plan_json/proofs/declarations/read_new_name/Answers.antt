use Rattle.plan_json.proofs.Names.{not, refl, a_new_name, is_among, names_of, declared}
use Rattle.plan_json.proofs.FaultLemmas.{name_error}
use Rattle.plan_json.proofs.declarations.read_new_name.Goals as goal

pub returns-in-Err-clause-err : goal.returns-in-Err-clause-err
returns-in-Err-clause-err c =
    let names = names_of (declared c.args.before.now) in
    name_error (a_new_name names) (λ name. not (is_among name names)) _ _ refl (λ step. refl) c.in-Err.ensures.err
