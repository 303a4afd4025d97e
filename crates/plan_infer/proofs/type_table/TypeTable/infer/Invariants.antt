use Rattle.plan_infer.proofs.type_table.TypeTable.infer.Given as goal

abbrev pub ghosts-infer_by : goal.ghosts-infer_by
ghosts-infer_by a = record { name = a.blank.name; parts = a.blank.parts }
