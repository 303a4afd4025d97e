use Rattle.std.proofs.Common.{◌≡◌, ℕ, ℤ, ◌+◌, ◌*◌, ◌≤◌, Bool, [], ◌∷◌, length, reverse, Ok, Some}
use Rattle.plan_types.specs.Schemas.{columns}
use Rattle.plan_dsl.specs.Registry.{registry}
use Rattle.plan_dsl.specs.Ops.{Expression}
use Rattle.plan_dsl.specs.Typing.{typing}
use Rattle.plan_types.specs.Types.{Untyped}
use Rattle.plan_arena.specs.Denotation.{Denotes}
use Rattle.plan_arena.specs.Items.{HoldsExpression, numbers}
use Rattle.plan_coerce.specs.Rules.{SettlesNoNumber}
use Rattle.plan_coerce.proofs.ManyRootLemmas.{Working}
use Rattle.plan_coerce.proofs.NumberRootLemmas.{Alone}
use Rattle.plan_infer.specs.KeptTypes.{IsRight}
use Rattle.plan_coerce.specs.Optimizer.{AreApart, AreRoots, AreTrees, AreTypedRoots, LoopKeeps, StaysFinite}
use Rattle.plan_coerce.proofs.AnyRootLemmas.{Settling}
use Rattle.plan_coerce.proofs.CountLemmas.{Counted}
use Rattle.plan_coerce.proofs.NearLemmas.{Keeping}
use Rattle.plan_coerce.proofs.TurnLemmas.{Pending}
use Rattle.plan_coerce.proofs.TypedNodeLemmas.{Standing}
use Rattle.plan_coerce.proofs.stack_opt.coerce_stacked.Given as goal

abbrev pub invariant-loop-turn : goal.invariant-loop-turn
invariant-loop-turn g l =
    let registry = registry l.udfs in
    let schema = columns l.schema in
    let settled = g.R.OptimizationRule.settled l.rule registry schema in
    let roots = numbers l.initial.stack.items in
    record {
      finite : StaysFinite l.initial.arena l.arena;
      waiting : AreTrees l.arena (reverse (numbers l.stack.items));
      longer : length l.initial.arena ≤ length l.arena;
      right : IsRight registry schema l.arena l.types;
      kept : LoopKeeps (g.R.OptimizationRule.forgets l.rule) settled registry schema l.initial.arena roots l.initial.types l.types;
      pending : AreTypedRoots settled registry schema l.initial.arena roots → Pending settled (g.R.OptimizationRule.related l.rule registry schema) registry schema l.initial.arena l.arena (reverse (numbers l.stack.items)) roots;
      settling : Settling settled registry schema l.arena (reverse (numbers l.stack.items)) roots;
      alone : (root : ℕ) (number : ℤ) (many : Bool) (t : Expression) → SettlesNoNumber settled registry schema → roots ≡ root ∷ [] → Denotes (HoldsExpression l.initial.arena) root t → typing registry schema t ≡ Ok (record { type = Untyped number; many = many }) → Alone settled (g.R.OptimizationRule.related l.rule registry schema) registry schema l.arena (reverse (numbers l.stack.items)) root t;
      many : (n : ℕ) → g.R.OptimizationRule.turns l.rule ≡ Some n → SettlesNoNumber settled registry schema → AreRoots settled registry schema l.initial.arena roots → Working settled (g.R.OptimizationRule.related l.rule registry schema) registry schema l.initial.arena l.arena (reverse (numbers l.stack.items)) roots;
      standing : Standing settled (g.R.OptimizationRule.related l.rule registry schema) (g.R.OptimizationRule.turns l.rule) registry schema l.initial.arena l.arena (reverse (numbers l.stack.items)) roots;
      keeping : (n : ℕ) → g.R.OptimizationRule.turns l.rule ≡ Some n → Keeping l.initial.arena roots l.arena (reverse (numbers l.stack.items));
      counted : (n : ℕ) → g.R.OptimizationRule.turns l.rule ≡ Some n → AreApart l.initial.arena roots → Counted (g.R.OptimizationRule.measure l.rule registry schema) n (2 * n + 2) l.arena (reverse (numbers l.stack.items)) l.initial.steps l.steps;
    }
