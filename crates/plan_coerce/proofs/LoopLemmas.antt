-- What the loop leaves, from what it keeps turn by turn.
use Rattle.std.proofs.Common.{◌≡◌, ◌≤◌, ◌+◌, ◌*◌, ℕ, Bool, List, length, Option, Some, refl, arith, inr}
use Rattle.plan_types.specs.Schemas.{Columns}
use Rattle.plan_dsl.specs.Registry.{Registry}
use Rattle.plan_dsl.specs.Ops.{Expression}
use Rattle.plan_arena.specs.declared.aexpr.AExpr.{AExpr}
use Rattle.plan_infer.specs.declared.type_table.TypeTable.{TypeTable}
use Rattle.plan_infer.specs.KeptTypes.{IsRight}
use Rattle.plan_coerce.specs.Optimizer.{AreApart, AreRoots, AreTypedRoots, LoopLeaves, StaysFinite}
use Rattle.plan_coerce.specs.Rules.{IsCongruent, SettlesNoNumber}
use Rattle.plan_coerce.proofs.CountLemmas.{Counted, counted_end}
use Rattle.plan_coerce.proofs.ManyRootLemmas.{Working}
use Rattle.plan_coerce.proofs.NearLemmas.{Keeping, keeping_end}
use Rattle.plan_coerce.proofs.TurnLemmas.{Pending, like_itself}
use Rattle.plan_coerce.proofs.TypedNodeLemmas.{Standing}

more_steps : (steps cost : ℕ) → steps ≤ steps + cost
more_steps steps cost = omega arith

module _ (is_settled : Expression → Bool) (related : Expression → Expression → Type 0) (turns : Option ℕ) (registry : Registry) (schema : Columns) where
  -- before the first turn
  pub nothing_done : IsCongruent related registry schema → (items : List AExpr) (roots : List ℕ) (table : TypeTable) (steps : ℕ) → IsRight registry schema items table → LoopLeaves is_settled related turns registry schema items items roots table steps steps
  nothing_done congruent items roots table steps right = record {
    typed = λ n t typed d is apart. record { tree = t; denotes = d; like = like_itself related registry schema congruent t };
    like = λ typed n t d. record { tree = t; denotes = d; like = like_itself related registry schema congruent t };
    beside = λ limit is none are n t d away. record { tree = t; denotes = d; like = like_itself related registry schema congruent t };
    finite = λ n tree. tree;
    elsewhere = λ limit is n op inputs apart held. held;
    reaches = λ limit is n reached. inr reached;
    longer = omega arith;
    right = right;
    bounded = λ n is apart. more_steps steps ((2 * n + 2) * length items);
  }

  -- between two turns
  pub turns_done : (measure : Expression → ℕ) (old new : List AExpr) (tops roots : List ℕ) (table : TypeTable) (before after : ℕ) → StaysFinite old new → length old ≤ length new → IsRight registry schema new table → (AreTypedRoots is_settled registry schema old roots → Pending is_settled related registry schema old new tops roots) → ((n : ℕ) → turns ≡ Some n → SettlesNoNumber is_settled registry schema → AreRoots is_settled registry schema old roots → Working is_settled related registry schema old new tops roots) → Standing is_settled related turns registry schema old new tops roots → ((n : ℕ) → turns ≡ Some n → Keeping old roots new tops) → ((n : ℕ) → turns ≡ Some n → AreApart old roots → Counted measure n (2 * n + 2) new tops before after) → LoopLeaves is_settled related turns registry schema old new roots table before after
  turns_done measure old new tops roots table before after finite longer right pending many standing keeping counted = record {
    typed = standing.trees;
    like = λ typed. (pending typed).trees;
    beside = λ n is none are. (many n is none are).trees;
    finite = finite;
    elsewhere = λ n is. (keeping n is).apart;
    reaches = λ n is. keeping_end old roots new tops (keeping n is);
    longer = longer;
    right = right;
    bounded = λ n is apart. counted_end measure n (2 * n + 2) refl new tops before after (counted n is apart);
  }
