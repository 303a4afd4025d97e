use Rattle.std.proofs.Common.{◌∷◌, [], Some, refl}
use Rattle.plan_types.specs.Schemas.{columns}
use Rattle.plan_arena.specs.declared.ir.IR.TheVariants.{DataFrameScan}
use Rattle.plan_arena.specs.RecordedSchemas.{IsRecordedAt}
use Rattle.plan_arena.proofs.PlanSchemaLemmas.{keeps_none}
use Rattle.plan_arena.proofs.RecordedSchemaLemmas.{item_records, recorded_at_node}
use Rattle.plan_arena.proofs.examples.schemas.schemas_that_are_recorded.Goals as goal

pub returns-clause-scan : goal.returns-clause-scan
returns-clause-scan c = λ schema.
    let plans = DataFrameScan (Some 0) schema ∷ [] in
    recorded_at_node plans 0 (DataFrameScan (Some 0) schema) (columns schema) refl (item_records plans (DataFrameScan (Some 0) schema) (columns schema) refl)

pub returns-clause-empty : goal.returns-clause-empty
returns-clause-empty c = λ plans cache entries. keeps_none (IsRecordedAt plans) cache entries
