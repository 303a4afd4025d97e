use Rattle.plan_json.proofs.Names.{codes, refl, a_new_name, a_table, column_list, table_part, names_of, declared}
use Rattle.plan_json.proofs.FaultLemmas.{part_in}
use Rattle.plan_json.proofs.declarations.read_table.Goals as goal

pub returns-in-Err-clause-err : goal.returns-in-Err-clause-err
returns-in-Err-clause-err c =
    let names = names_of (declared c.args.before.now) in
    c.below.ensures (a_table names) (a_new_name names) _ _ (part_in (table_part names (codes "name")) _ _ _ c.in-Some.ensures refl) c.in-Err.ensures.err

pub returns-in-Err-read_columns-clause-err : goal.returns-in-Err-read_columns-clause-err
returns-in-Err-read_columns-clause-err c =
    let names = names_of (declared c.args.before.now) in
    c.below-in-Err-read_columns.ensures (a_table names) column_list _ _ (part_in (table_part names (codes "columns")) _ _ _ c.in-Some.ensures refl) c.in-Err-read_columns.ensures.err
