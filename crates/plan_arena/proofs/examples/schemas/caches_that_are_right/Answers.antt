use Rattle.std.proofs.Common.{◌∷◌, [], Some, refl, ap}
use Rattle.std.specs.BTreeMap.{is_at}
use Rattle.std.specs.Map.{lookup}
use Rattle.plan_types.specs.Schemas.{columns}
use Rattle.plan_arena.specs.contracts.arena.NodeOrd.TheImpl as node_order
use Rattle.plan_arena.specs.declared.ir.IR.TheVariants.{DataFrameScan}
use Rattle.plan_arena.specs.PlanSchemas.{IsSchemaAt}
use Rattle.plan_arena.specs.Samples.{node_at}
use Rattle.plan_arena.proofs.PlanSchemaLemmas.{keeps_alone, keeps_none, other_schema, scan_schema}
use Rattle.plan_arena.proofs.examples.schemas.caches_that_are_right.Goals as goal

pub returns-clause-empty : goal.returns-clause-empty
returns-clause-empty c = λ plans cache entries. keeps_none (IsSchemaAt plans) cache entries

pub returns-clause-of_a_scan : goal.returns-clause-of_a_scan
returns-clause-of_a_scan c = λ schema cache entries.
    keeps_alone (IsSchemaAt (DataFrameScan (Some 0) schema ∷ [])) cache (node_at 0) schema entries (scan_schema (DataFrameScan (Some 0) schema ∷ []) 0 (Some 0) schema refl)

pub returns-clause-of_another : goal.returns-clause-of_another
returns-clause-of_another c = λ schema other cache differs entries right.
    let there = right.each (node_at 0) other (ap (lookup (is_at ((node_order.ghosts).cmp (node_at 0)))) entries) in
    differs (other_schema (DataFrameScan (Some 0) schema ∷ []) 0 (Some 0) schema (columns other) refl there)

pub returns-clause-kept : goal.returns-clause-kept
returns-clause-kept c = λ schema cache entries.
    (ap (lookup (is_at ((node_order.ghosts).cmp (node_at 0)))) entries, ap (lookup (is_at ((node_order.ghosts).cmp (node_at 1)))) entries)
