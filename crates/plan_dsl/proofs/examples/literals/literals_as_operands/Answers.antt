use Rattle.std.proofs.Common.{◌≡◌, pos, true, refl, subst}
use Rattle.plan_types.specs.Types.{Integer}
use Rattle.plan_dsl.specs.Strictness.{integer_has}
use Rattle.plan_dsl.proofs.examples.literals.literals_as_operands.Goals as goal

pub returns-clause-in_range : goal.returns-clause-in_range
returns-clause-in_range c = record {
  known = refl;
  casts = λ apart. absurd (apart (pos 300) refl);
  has = λ number e lacks.
      let same : pos 300 ≡ number = cc in
      let has : integer_has (Integer true 16) number ≡ true = subst (λ n. integer_has (Integer true 16) n ≡ true) same refl in
      cc;
}
