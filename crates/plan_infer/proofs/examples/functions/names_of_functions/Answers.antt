use Rattle.std.proofs.Common.{◌≡◌, ◌-◌, Some, None, slice_get, [], ◌∷◌, codes, refl, sym, ap, ◌∙◌, arith}
use Rattle.plan_dsl.specs.declared.function_expr.FunctionExpr.TheVariants.{IsNull}
use Rattle.plan_dsl.specs.Names.{FromColumn, FromLiteral, Label, column_label}
use Rattle.plan_dsl.specs.Ops.{FunctionOp}
use Rattle.plan_infer.specs.declared.type_table.TypeTable.{TypeTable}
use Rattle.plan_infer.specs.KeptTypes.{IsNamedBy, by_first, by_itself}
use Rattle.plan_infer.proofs.examples.functions.names_of_functions.Goals as goal

pub returns-clause-function : goal.returns-clause-function
returns-clause-function c = λ table. by_itself refl (λ names over. refl)

pub returns-clause-field : goal.returns-clause-field
returns-clause-field c = λ table. by_itself refl (λ names over. refl)

unnamed : (table : TypeTable) → table.entries.items ≡ [] → IsNamedBy table (FunctionOp IsNull []) 1 (0 ∷ []) 1 → ⊥
unnamed table none (by_itself at same) =
    let differs : FromColumn ≡ FromLiteral = ap (λ (l : Label). l.origin) (same (column_label (codes "a") ∷ []) tt) in
    cc
unnamed table none (by_first m rest first inputs found at same) =
    let missing : None ≡ Some (Some first) = sym (ap (λ es. slice_get es (m - table.first)) none) ∙ found.1 in
    cc

pub returns-clause-without_names : goal.returns-clause-without_names
returns-clause-without_names c = λ table first entries named. unnamed table entries named

pub returns-clause-ternary : goal.returns-clause-ternary
returns-clause-ternary c = λ own n d m o table first entries.
    by_first 0 (1 ∷ 2 ∷ []) own refl (rw (first, entries) (omega arith, refl)) (sym n) (λ names. refl)
