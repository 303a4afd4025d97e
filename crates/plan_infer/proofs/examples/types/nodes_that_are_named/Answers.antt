use Rattle.std.proofs.Common.{◌≡◌, [], ◌∷◌, refl, sym, ap, ◌∙◌, subst, arith}
use Rattle.plan_dsl.specs.declared.operator.Operator.TheVariants.{Plus}
use Rattle.plan_dsl.specs.Ops.{BinaryOp}
use Rattle.plan_infer.specs.declared.type_table.Inferred.{Inferred}
use Rattle.plan_infer.specs.declared.type_table.TypeTable.{TypeTable}
use Rattle.plan_infer.specs.KeptTypes.{IsNamedBy, KeepsEntry, by_first, by_itself}
use Rattle.plan_dsl.proofs.KernelLemmas.{first_is}
use Rattle.plan_infer.proofs.TableLemmas.{keeps_one}
use Rattle.plan_infer.proofs.examples.types.nodes_that_are_named.Goals as goal

pub returns-clause-column : goal.returns-clause-column
returns-clause-column c = λ table first entries. by_itself refl (λ names over. refl)

pub returns-clause-sum : goal.returns-clause-sum
returns-clause-sum c = λ left n d m o table first entries.
    by_first 0 (1 ∷ []) left refl (rw (first, entries) (omega arith, refl)) (sym n) (λ names. refl)

not_second : (table : TypeTable) (left : Inferred) → left.name.0 ≡ 0 → KeepsEntry table 0 left → IsNamedBy table (BinaryOp Plus) 2 (0 ∷ 1 ∷ []) 1 → ⊥
not_second table left n keeps (by_itself at same) = absurd (omega (arith, at))
not_second table left n keeps (by_first m rest first inputs found at same) =
    let here = subst (λ k. KeepsEntry table k first) (sym (first_is 0 m (1 ∷ []) rest inputs)) found in
    let one = ap (λ (x : Inferred). x.name.0) (keeps_one table 0 first left here keeps) in
    let e : 1 ≡ 0 = at ∙ one ∙ n in
    absurd (omega (arith, e))

pub returns-clause-by_its_second : goal.returns-clause-by_its_second
returns-clause-by_its_second c = λ left n d m o table first entries named.
    not_second table left n (rw (first, entries) (omega arith, refl)) named
