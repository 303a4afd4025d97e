use Rattle.plan_json.proofs.Names.{drop, map, ◌≡◌, row_named}
use Rattle.plan_json.proofs.forms.find.Given as goal

abbrev pub invariant-loop-row : goal.invariant-loop-row
invariant-loop-row g l = row_named (map (λ row. (row.0.now, row.1)) (drop l.row-index l.rows)) l.word ≡ row_named (map (λ row. (row.0.now, row.1)) l.rows) l.word
