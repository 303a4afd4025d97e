use Rattle.plan_dsl.proofs.function.FunctionIR.schema.Goals as goal

pub returns-in-RowIndex : goal.returns-in-RowIndex
returns-in-RowIndex c = rw c.in-RowIndex.is (c.indexed_schema.ensures _)

pub returns-in-Rename : goal.returns-in-Rename
returns-in-Rename c = rw (c.in-Rename.is, ← c.as_slice-in-Rename.ensures.value, ← c.as_slice-in-Rename-2.ensures.value) (c.renamed_schema.ensures _)
