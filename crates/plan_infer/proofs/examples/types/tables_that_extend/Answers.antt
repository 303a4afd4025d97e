use Rattle.std.proofs.Common.{◌≡◌, ◌-◌, [], ◌∷◌, Some, None, slice_get, refl, sym, ap, ◌∙◌, arith}
use Rattle.plan_types.proofs.ListLemmas.{slice_get-append}
use Rattle.plan_arena.specs.Denotation.{depth_at, depth_within}
use Rattle.plan_infer.specs.KeptTypes.{KeepsEntry}
use Rattle.plan_infer.specs.declared.type_table.Inferred.{Inferred}
use Rattle.plan_infer.specs.declared.type_table.TypeTable.{TypeTable}
use Rattle.plan_infer.proofs.examples.types.tables_that_extend.Goals as goal

pub returns-clause-more : goal.returns-clause-more
returns-clause-more c = λ own n d m o old first entries new from items. record {
  entries = λ k x keeps.
      let place : k - new.first ≡ k - old.first = omega (arith, first, from) in
      (omega (arith, from), ap (λ l. slice_get l (k - new.first)) items ∙ ap (slice_get (Some own ∷ None ∷ Some own ∷ [])) place ∙ slice_get-append (Some own ∷ []) (None ∷ Some own ∷ []) (k - old.first) (Some x) (ap (λ l. slice_get l (k - old.first)) (sym entries) ∙ keeps.1));
}

-- nothing is kept past the end, or in front of the first
past_end : (table : TypeTable) (own x : Inferred) → table.first ≡ 0 → table.entries.items ≡ Some own ∷ [] → KeepsEntry table 2 x → ⊥
past_end table own x first entries keeps =
    let item : slice_get (Some own ∷ []) 2 ≡ Some (Some x) = ap (slice_get (Some own ∷ [])) (sym (ap (λ k. 2 - k) first)) ∙ ap (λ l. slice_get l (2 - table.first)) (sym entries) ∙ keeps.1 in
    cc

pub returns-clause-less : goal.returns-clause-less
returns-clause-less c = λ own n d m o old first entries new from items extends.
    past_end new own own from items (extends.entries 2 own (rw (first, entries) (omega arith, refl)))

pub returns-clause-other_first : goal.returns-clause-other_first
returns-clause-other_first c = λ own n d m o old first entries new from items extends.
    let keeps = extends.entries 0 own (rw (first, entries) (omega arith, refl)) in
    absurd (omega (arith, from, keeps.0))

pub returns-clause-depths : goal.returns-clause-depths
unfolding depth_at depth_within
returns-clause-depths c = refl
