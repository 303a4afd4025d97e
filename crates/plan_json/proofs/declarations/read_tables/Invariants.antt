use Rattle.plan_json.proofs.Names.{Some, false, length, take, ◌≡◌, all_of, items_view, names_of, repeats, declared, table_of}
use Rattle.plan_json.proofs.declarations.read_tables.Given as goal

pub record TablesRead (l : goal.Live-loop-number) : Type 0 where
  pub read : all_of table_of (items_view (take l.number l.values)) ≡ Some (declared l.tables)
  pub count : length (declared l.tables) ≡ l.number
  pub distinct : repeats (names_of (declared l.tables)) ≡ false

abbrev pub invariant-loop-number : goal.invariant-loop-number
invariant-loop-number l = TablesRead l
