use Rattle.plan_json.proofs.Names.{Some, false, take, ◌≡◌, all_of, items_view, columns, names_of, repeats, column_of}
use Rattle.plan_json.proofs.columns.read_columns.Given as goal

pub record ColumnsRead (l : goal.Live-loop-number) : Type 0 where
  pub read : all_of column_of (items_view (take l.number l.items)) ≡ Some (columns l.schema)
  pub distinct : repeats (names_of (columns l.schema)) ≡ false

abbrev pub invariant-loop-number : goal.invariant-loop-number
invariant-loop-number l = ColumnsRead l
