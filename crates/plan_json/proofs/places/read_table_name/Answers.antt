use Rattle.plan_json.proofs.Names.{ap, is_some, refl, sym, ◌∙◌, BadName, a_scan, is_among, names_of, declared}
use Rattle.plan_json.proofs.Lemmas.{is_some-table_at, IsErrorOf-own, name_error, name_fault-tested}
use Rattle.plan_json.proofs.ReaderLemmas.{told}
use Rattle.plan_json.proofs.places.read_table_name.Goals as goal

pub returns-in-Err : goal.returns-in-Err
returns-in-Err c =
    told (let names = names_of (declared c.args.tables.now) in
    name_error (a_scan names) (λ name. is_among name names) _ _ refl (λ step. refl) c.in-Err.ensures.err)

pub returns-in-None : goal.returns-in-None
returns-in-None c =
    told (let names = names_of (declared c.args.tables.now) in
    let absent = sym (is_some-table_at (declared c.args.tables.now) c.in-Ok.name) ∙ ap is_some (sym c.in-None.ensures) in
    IsErrorOf-own (a_scan names) _ BadName _ c.name-in-None.ensures (name_fault-tested (λ name. is_among name names) _ _ c.in-Ok.ensures.ok absent))
