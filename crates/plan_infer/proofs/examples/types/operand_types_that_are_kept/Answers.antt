use Rattle.std.proofs.Common.{◌≡◌, true, false, [], ◌∷◌, inl, inr, refl, ap, ⊎_elim}
use Rattle.plan_dsl.specs.Strictness.{same_types}
use Rattle.plan_infer.specs.Samples.{int8, int32}
use Rattle.plan_infer.proofs.examples.types.operand_types_that_are_kept.Goals as goal

apart : (int8 ∷ int32 ∷ []) ≡ int32 ∷ int32 ∷ [] → ⊥
apart e = let differs : true ≡ false = ap (same_types (int8 ∷ int32 ∷ [])) e in cc

none : [] ≡ int32 ∷ int32 ∷ [] → ⊥
none e = cc

some : (int8 ∷ int32 ∷ []) ≡ [] → ⊥
some e = cc

pub returns-clause-to_others : goal.returns-clause-to_others
returns-clause-to_others c = inl refl

pub returns-clause-as_they_are : goal.returns-clause-as_they_are
returns-clause-as_they_are c = inr (refl, refl)

pub returns-clause-missing : goal.returns-clause-missing
returns-clause-missing c = λ are. ⊎_elim (λ e. none e) (λ p. apart p.1) are

pub returns-clause-wrong : goal.returns-clause-wrong
returns-clause-wrong c = λ are. ⊎_elim (λ e. apart e) (λ p. some p.0) are
