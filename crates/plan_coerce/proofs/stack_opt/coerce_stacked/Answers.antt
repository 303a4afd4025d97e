use Rattle.std.proofs.Common.{◌+◌, ◌*◌, ◌∙◌, ◌∷◌, reverse, refl, sym, ap, subst, arith, inl, inr, ⊎_elim}
use Rattle.std.specs.List.{AllByRecursion}
use Rattle.plan_types.specs.Schemas.{columns}
use Rattle.plan_dsl.specs.Registry.{registry}
use Rattle.plan_arena.specs.Denotation.{DenotesTree}
use Rattle.plan_arena.specs.Items.{HoldsExpression, numbers}
use Rattle.plan_arena.proofs.DenotationLemmas.{kept}
use Rattle.plan_arena.proofs.ItemLemmas.{grown_held}
use Rattle.plan_arena.proofs.NumberLemmas.{all_joined, all_reversed, all_weaker}
use Rattle.plan_infer.proofs.TableLemmas.{extends_itself, extends_then}
use Rattle.plan_types.proofs.ResultLemmas.{passed_on}
use Rattle.plan_coerce.specs.Optimizer.{AreTrees, HasTyping, IsCoercionRefusal}
use Rattle.plan_coerce.specs.Reaching.{Among}
use Rattle.plan_coerce.proofs.AnyRootLemmas.{Settling, settling_end, settling_start, settling_turn}
use Rattle.plan_coerce.proofs.CountLemmas.{Counted, counted_start, counted_stops, counted_turn}
use Rattle.plan_coerce.proofs.LoopLemmas.{nothing_done, turns_done}
use Rattle.plan_coerce.proofs.NearLemmas.{Keeping, here_near, keeping_start, keeping_stops, keeping_turn, stops_apart, waiting_turn}
use Rattle.plan_coerce.proofs.NumberRootLemmas.{Alone, alone_end, alone_turn, waits}
use Rattle.plan_coerce.proofs.StackLemmas.{no_numbers, pushed_one}
use Rattle.plan_coerce.proofs.TurnLemmas.{Pending, memory_alone, no_memory_left, pending_start, pending_stops, pending_turn, stopped_finite, stopped_longer, top_first, turn_stopped, typed_keeps}
use Rattle.plan_coerce.proofs.TypedRootLemmas.{root_refused}
use Rattle.plan_coerce.proofs.ManyRootLemmas.{Working, working_end, working_start, working_stops, working_turn, working_typed}
use Rattle.plan_coerce.proofs.ReachLemmas.{among_all}
use Rattle.plan_coerce.proofs.TypedNodeLemmas.{Standing, standing_start, standing_turn, stops_typed}
use Rattle.plan_coerce.proofs.stack_opt.coerce_stacked.Goals as goal

pub loop-turn-init : goal.loop-turn-init
loop-turn-init g c =
    let r = registry c.args.udfs.now in
    let s = columns c.args.schema.now in
    let rule = g.R.OptimizationRule in
    let laws = g.met.R.OptimizationRule in
    let roots = numbers c.args.stack.now.items in
    record {
      finite = λ n t. t;
      waiting = all_reversed (DenotesTree (HoldsExpression c.args.arena.now)) roots c.requires.trees;
      longer = omega arith;
      right = c.in_ok-type_nodes.ensures.right;
      kept = λ never typed. extends_itself c.type_nodes.new.types;
      pending = pending_start (rule.settled c.args.rule.now r s) (rule.measure c.args.rule.now r s) (rule.related c.args.rule.now r s) (rule.turns c.args.rule.now) r s (laws.congruent c.args.rule.now r s) (laws.transitive c.args.rule.now r s) (laws.steady c.args.rule.now r s) c.args.arena.now roots;
      settling = settling_start (rule.settled c.args.rule.now r s) (rule.measure c.args.rule.now r s) (rule.related c.args.rule.now r s) (rule.turns c.args.rule.now) r s (laws.congruent c.args.rule.now r s) (laws.steady c.args.rule.now r s) c.args.arena.now roots;
      alone = λ root number many t none is d h. waits (ap reverse is) d;
      many = λ n e none are. working_start (rule.settled c.args.rule.now r s) (rule.measure c.args.rule.now r s) (rule.related c.args.rule.now r s) (rule.turns c.args.rule.now) n e r s (laws.congruent c.args.rule.now r s) (laws.transitive c.args.rule.now r s) (laws.steady c.args.rule.now r s) none c.args.arena.now roots are;
      standing = standing_start (rule.settled c.args.rule.now r s) (rule.measure c.args.rule.now r s) (rule.related c.args.rule.now r s) (rule.turns c.args.rule.now) r s (laws.congruent c.args.rule.now r s) (laws.transitive c.args.rule.now r s) c.args.arena.now roots;
      keeping = λ n e. keeping_start c.args.arena.now roots;
      counted = λ n e. counted_start (rule.measure c.args.rule.now r s) n (2 * n + 2) refl (λ t. laws.bounded c.args.rule.now r s t n e) c.args.arena.now roots c.args.steps.now;
    }

pub visit-requires-clause-tree : goal.visit-requires-clause-tree
visit-requires-clause-tree g c =
    let rest = numbers c.pop.new.self.items in
    let popped = pushed_one c.pop.new.self.items c.loop-turn.stack.items c.in-Some.node c.in-Some.ensures.items in
    (subst (AreTrees c.loop-turn.arena) (ap reverse popped ∙ top_first rest c.in-Some.node.0) c.loop-turn.invariant.waiting).0

pub loop-turn-preserved : goal.loop-turn-preserved
loop-turn-preserved g c =
    let r = registry c.args.udfs.now in
    let s = columns c.args.schema.now in
    let rule = g.R.OptimizationRule in
    let laws = g.met.R.OptimizationRule in
    let settled = rule.settled c.args.rule.now r s in
    let measure = rule.measure c.args.rule.now r s in
    let related = rule.related c.args.rule.now r s in
    let turns = rule.turns c.args.rule.now in
    let roots = numbers c.args.stack.now.items in
    let rest = numbers c.pop.new.self.items in
    let at = c.in-Some.node.0 in
    let popped = ap reverse (pushed_one c.pop.new.self.items c.loop-turn.stack.items c.in-Some.node c.in-Some.ensures.items) in
    let turn = c.in_ok-visit.ensures.ok in
    let inv = c.loop-turn.invariant in
    let waiting = subst (AreTrees c.loop-turn.arena) popped inv.waiting in
    let here = (subst (AreTrees c.loop-turn.arena) (top_first rest at) waiting).0 in
    let stopped = turn_stopped settled measure related turns r s c.loop-turn.arena c.visit.new.arena at rest (numbers c.visit.new.stack.items) c.loop-turn.steps c.visit.new.steps turn in
    let finite = stopped_finite settled measure related turns r s c.loop-turn.arena c.visit.new.arena at here stopped in
    let longer = stopped_longer settled measure related turns r s c.loop-turn.arena c.visit.new.arena at stopped in
    let rooted = all_weaker (DenotesTree (HoldsExpression c.args.arena.now)) (DenotesTree (HoldsExpression c.loop-turn.arena)) inv.finite roots c.requires.trees in
    record {
      finite = λ n t. finite n (inv.finite n t);
      waiting = waiting_turn settled measure related turns r s c.loop-turn.arena c.visit.new.arena at rest (numbers c.visit.new.stack.items) c.loop-turn.steps c.visit.new.steps turn waiting;
      longer = omega (arith, inv.longer, longer);
      right = c.in_ok-visit.ensures.right;
      kept = λ never typed.
          let now = subst (λ l. Pending settled related r s c.args.arena.now c.loop-turn.arena l roots) (popped ∙ top_first rest at) (inv.pending typed) in
          extends_then c.type_nodes.new.types c.loop-turn.types c.visit.new.types (inv.kept never typed) (typed_keeps (rule.forgets c.args.rule.now) settled r s c.loop-turn.arena c.loop-turn.types c.visit.new.types at never now.waiting.0 c.in_ok-visit.ensures.kept);
      pending = λ typed. pending_turn settled measure related turns r s (laws.congruent c.args.rule.now r s) (laws.transitive c.args.rule.now r s) (laws.steady c.args.rule.now r s) c.args.arena.now c.loop-turn.arena c.visit.new.arena at rest (numbers c.visit.new.stack.items) roots c.loop-turn.steps c.visit.new.steps turn (subst (λ l. Pending settled related r s c.args.arena.now c.loop-turn.arena l roots) popped (inv.pending typed));
      settling = settling_turn settled measure related turns r s (laws.congruent c.args.rule.now r s) (laws.steady c.args.rule.now r s) c.loop-turn.arena c.visit.new.arena at rest (numbers c.visit.new.stack.items) roots c.loop-turn.steps c.visit.new.steps turn waiting (subst (λ l. Settling settled r s c.loop-turn.arena l roots) popped inv.settling);
      alone = λ root number many t none is d h. alone_turn settled measure related turns r s (laws.congruent c.args.rule.now r s) (laws.transitive c.args.rule.now r s) (laws.steady c.args.rule.now r s) none root number many c.loop-turn.arena c.visit.new.arena at rest (numbers c.visit.new.stack.items) c.loop-turn.steps c.visit.new.steps t h turn (subst (λ l. Alone settled related r s c.loop-turn.arena l root t) popped (inv.alone root number many t none is d h));
      many = λ n e none are. working_turn settled measure related turns n e r s (laws.congruent c.args.rule.now r s) (laws.transitive c.args.rule.now r s) (laws.steady c.args.rule.now r s) none c.args.arena.now roots are c.loop-turn.arena c.visit.new.arena at inv.finite inv.longer (λ m a. among_all (DenotesTree (HoldsExpression c.args.arena.now)) roots m c.requires.trees a) rest (numbers c.visit.new.stack.items) c.loop-turn.steps c.visit.new.steps turn (subst (λ l. Working settled related r s c.args.arena.now c.loop-turn.arena l roots) popped (inv.many n e none are));
      standing = standing_turn settled measure related turns r s (laws.congruent c.args.rule.now r s) (laws.transitive c.args.rule.now r s) c.args.arena.now roots c.loop-turn.arena c.visit.new.arena at rest (numbers c.visit.new.stack.items) c.loop-turn.steps c.visit.new.steps inv.finite inv.longer turn waiting (subst (λ l. Standing settled related turns r s c.args.arena.now c.loop-turn.arena l roots) popped inv.standing);
      keeping = λ n e. keeping_turn settled measure related turns r s c.loop-turn.arena c.visit.new.arena at rest (numbers c.visit.new.stack.items) c.loop-turn.steps c.visit.new.steps turn n e c.args.arena.now roots inv.longer rooted waiting (subst (Keeping c.args.arena.now roots c.loop-turn.arena) popped (inv.keeping n e));
      counted = λ n e apart. counted_turn measure n (2 * n + 2) refl settled related turns e r s (λ t. laws.bounded c.args.rule.now r s t n e) c.loop-turn.arena c.visit.new.arena at rest (numbers c.visit.new.stack.items) c.args.steps.now c.loop-turn.steps c.visit.new.steps turn (subst (λ l. Counted measure n (2 * n + 2) c.loop-turn.arena l c.args.steps.now c.loop-turn.steps) popped (inv.counted n e apart));
    }

pub returns-in_err-type_nodes-clause-leaves : goal.returns-in_err-type_nodes-clause-leaves
returns-in_err-type_nodes-clause-leaves g c =
    let r = registry c.args.udfs.now in
    let s = columns c.args.schema.now in
    let rule = g.R.OptimizationRule in
    nothing_done (rule.settled c.args.rule.now r s) (rule.related c.args.rule.now r s) (rule.turns c.args.rule.now) r s (g.met.R.OptimizationRule.congruent c.args.rule.now r s) c.args.arena.now (numbers c.args.stack.now.items) c.type_nodes.new.types c.args.steps.now c.in_err-type_nodes.ensures.right

pub returns-in_err-type_nodes-clause-err : goal.returns-in_err-type_nodes-clause-err
returns-in_err-type_nodes-clause-err g c =
    let r = registry c.args.udfs.now in
    let s = columns c.args.schema.now in
    let rule = g.R.OptimizationRule in
    let roots = numbers c.args.stack.now.items in
    let refused = c.in_err-type_nodes.ensures.err in
    passed_on c.from_residual.result c.in_err-type_nodes.field-0.0 _ c.from_residual.ensures.1 (root_refused (rule.settled c.args.rule.now r s) (rule.turns c.args.rule.now) r s c.args.arena.now roots c.in_err-type_nodes.field-0.0 c.requires.trees (refused.0, subst (λ nodes. Among (numbers nodes) refused.0) c.as_slice.ensures refused.1, refused.2))

pub returns-in-None-clause-leaves : goal.returns-in-None-clause-leaves
returns-in-None-clause-leaves g c =
    let r = registry c.args.udfs.now in
    let s = columns c.args.schema.now in
    let rule = g.R.OptimizationRule in
    let settled = rule.settled c.args.rule.now r s in
    let measure = rule.measure c.args.rule.now r s in
    let related = rule.related c.args.rule.now r s in
    let turns = rule.turns c.args.rule.now in
    let roots = numbers c.args.stack.now.items in
    let inv = c.loop-turn.invariant in
    turns_done settled related turns r s measure c.args.arena.now c.loop-turn.arena (reverse (numbers c.loop-turn.stack.items)) roots c.loop-turn.types c.args.steps.now c.loop-turn.steps inv.finite inv.longer inv.right inv.pending inv.many inv.standing inv.keeping inv.counted

pub returns-in-None-clause-kept : goal.returns-in-None-clause-kept
returns-in-None-clause-kept g c = λ never typed.
    extends_then c.args.types.now c.type_nodes.new.types c.loop-turn.types c.in_ok-type_nodes.ensures.kept (c.loop-turn.invariant.kept never typed)

pub returns-in-None-clause-done : goal.returns-in-None-clause-done
returns-in-None-clause-done g c =
    let r = registry c.args.udfs.now in
    let s = columns c.args.schema.now in
    let rule = g.R.OptimizationRule in
    let laws = g.met.R.OptimizationRule in
    let settled = rule.settled c.args.rule.now r s in
    let measure = rule.measure c.args.rule.now r s in
    let related = rule.related c.args.rule.now r s in
    let turns = rule.turns c.args.rule.now in
    let roots = numbers c.args.stack.now.items in
    let inv = c.loop-turn.invariant in
    let empty = ap reverse (no_numbers c.loop-turn.stack.items c.in-None.ensures.variant.1) in
    record {
      roots_typed = subst (λ nodes. AllByRecursion (HasTyping r s c.args.arena.now) (numbers nodes)) c.as_slice.ensures c.in_ok-type_nodes.ensures.ok;
      settled = settling_end settled r s c.loop-turn.arena roots (subst (λ l. Settling settled r s c.loop-turn.arena l roots) empty inv.settling);
      alone = λ root number many t none is d h. alone_end settled measure related turns r s (laws.congruent c.args.rule.now r s) (laws.transitive c.args.rule.now r s) (laws.steady c.args.rule.now r s) none root number many t c.loop-turn.arena (subst (λ l. Alone settled related r s c.loop-turn.arena l root t) empty (inv.alone root number many t none is d h));
      ends = λ n e none are. working_end settled measure related turns n e r s (laws.congruent c.args.rule.now r s) (laws.transitive c.args.rule.now r s) (laws.steady c.args.rule.now r s) none c.args.arena.now roots are c.loop-turn.arena (subst (λ l. Working settled related r s c.args.arena.now c.loop-turn.arena l roots) empty (inv.many n e none are));
    }

pub returns-in_err-visit-clause-leaves : goal.returns-in_err-visit-clause-leaves
returns-in_err-visit-clause-leaves g c =
    let r = registry c.args.udfs.now in
    let s = columns c.args.schema.now in
    let rule = g.R.OptimizationRule in
    let laws = g.met.R.OptimizationRule in
    let settled = rule.settled c.args.rule.now r s in
    let measure = rule.measure c.args.rule.now r s in
    let related = rule.related c.args.rule.now r s in
    let turns = rule.turns c.args.rule.now in
    let roots = numbers c.args.stack.now.items in
    let rest = numbers c.pop.new.self.items in
    let at = c.in-Some.node.0 in
    let popped = ap reverse (pushed_one c.pop.new.self.items c.loop-turn.stack.items c.in-Some.node c.in-Some.ensures.items) ∙ top_first rest at in
    let inv = c.loop-turn.invariant in
    let stopped = c.in_err-visit.ensures.stopped in
    let waiting = subst (AreTrees c.loop-turn.arena) popped inv.waiting in
    let rooted = all_weaker (DenotesTree (HoldsExpression c.args.arena.now)) (DenotesTree (HoldsExpression c.loop-turn.arena)) inv.finite roots c.requires.trees in
    let trees = all_joined (DenotesTree (HoldsExpression c.loop-turn.arena)) roots (at ∷ reverse rest) rooted waiting in
    let longer = stopped_longer settled measure related turns r s c.loop-turn.arena c.visit.new.arena at stopped in
    record {
      typed = stops_typed settled measure related turns r s (laws.congruent c.args.rule.now r s) (laws.transitive c.args.rule.now r s) c.args.arena.now roots c.loop-turn.arena c.visit.new.arena at (reverse rest) inv.finite inv.longer waiting (subst (λ l. Standing settled related turns r s c.args.arena.now c.loop-turn.arena l roots) popped inv.standing) stopped;
      like = λ typed. pending_stops settled measure related turns r s (laws.congruent c.args.rule.now r s) (laws.transitive c.args.rule.now r s) (laws.steady c.args.rule.now r s) c.args.arena.now c.loop-turn.arena c.visit.new.arena at (reverse rest) roots (subst (λ l. Pending settled related r s c.args.arena.now c.loop-turn.arena l roots) popped (inv.pending typed)) stopped;
      beside = λ n e none are. working_stops settled measure related turns n e r s (laws.congruent c.args.rule.now r s) (laws.transitive c.args.rule.now r s) (laws.steady c.args.rule.now r s) none c.args.arena.now roots are c.loop-turn.arena c.visit.new.arena at inv.finite inv.longer (λ m a. among_all (DenotesTree (HoldsExpression c.args.arena.now)) roots m c.requires.trees a) (reverse rest) stopped (subst (λ l. Working settled related r s c.args.arena.now c.loop-turn.arena l roots) popped (inv.many n e none are));
      finite = λ n t. stopped_finite settled measure related turns r s c.loop-turn.arena c.visit.new.arena at waiting.0 stopped n (inv.finite n t);
      elsewhere = λ n e. stops_apart settled measure related turns n e r s c.args.arena.now c.loop-turn.arena c.visit.new.arena at (reverse rest) roots inv.longer trees (subst (Keeping c.args.arena.now roots c.loop-turn.arena) popped (inv.keeping n e)) stopped;
      reaches = λ n e. keeping_stops settled measure related turns n e r s c.args.arena.now c.loop-turn.arena c.visit.new.arena at (reverse rest) roots inv.longer trees (subst (Keeping c.args.arena.now roots c.loop-turn.arena) popped (inv.keeping n e)) stopped;
      longer = omega (arith, inv.longer, longer);
      right = c.in_err-visit.ensures.right;
      bounded = λ n e apart. counted_stops measure n (2 * n + 2) refl c.loop-turn.arena c.visit.new.arena at (reverse rest) c.args.steps.now c.loop-turn.steps c.visit.new.steps (subst (λ l. Counted measure n (2 * n + 2) c.loop-turn.arena l c.args.steps.now c.loop-turn.steps) popped (inv.counted n e apart)) longer c.in_err-visit.ensures.steps;
    }

pub returns-in_err-visit-clause-err : goal.returns-in_err-visit-clause-err
returns-in_err-visit-clause-err g c =
    let r = registry c.args.udfs.now in
    let s = columns c.args.schema.now in
    let rule = g.R.OptimizationRule in
    let settled = rule.settled c.args.rule.now r s in
    let related = rule.related c.args.rule.now r s in
    let roots = numbers c.args.stack.now.items in
    let rest = numbers c.pop.new.self.items in
    let at = c.in-Some.node.0 in
    let popped = ap reverse (pushed_one c.pop.new.self.items c.loop-turn.stack.items c.in-Some.node c.in-Some.ensures.items) ∙ top_first rest at in
    let inv = c.loop-turn.invariant in
    let here = (subst (AreTrees c.loop-turn.arena) popped inv.waiting).0 in
    passed_on c.from_residual-in_err-visit.result c.in_err-visit.field-0.0 _ c.from_residual-in_err-visit.ensures.1 (record {
      cause = ⊎_elim
          (λ memory. inl memory)
          (λ grows. inr (record {
            node = at;
            tree = here.tree;
            denotes = kept (HoldsExpression c.loop-turn.arena) (HoldsExpression c.visit.new.arena) (grown_held c.loop-turn.arena c.visit.new.arena grows) at here.tree here.denotes;
            is = c.in_err-visit.ensures.err here.tree here.denotes;
            near = λ n e. here_near (subst (Keeping c.args.arena.now roots c.loop-turn.arena) popped (inv.keeping n e));
          }))
          c.in_err-visit.ensures.refused;
      typed = λ typed.
          let root = (subst (λ l. Pending settled related r s c.args.arena.now c.loop-turn.arena l roots) popped (inv.pending typed)).waiting.0 in
          memory_alone _ root.typed c.in_err-visit.field-0.0 root.is (c.in_err-visit.ensures.err root.tree root.denotes);
      numbers = λ n e none are.
          let laws = g.met.R.OptimizationRule in
          let now = subst (λ l. Working settled related r s c.args.arena.now c.loop-turn.arena l roots) popped (inv.many n e none are) in
          let top = working_typed settled (rule.measure c.args.rule.now r s) related (rule.turns c.args.rule.now) n e r s (laws.congruent c.args.rule.now r s) (laws.transitive c.args.rule.now r s) (laws.steady c.args.rule.now r s) none c.args.arena.now roots are c.loop-turn.arena at (reverse rest) now in
          memory_alone _ top.1 c.in_err-visit.field-0.0 top.3 (c.in_err-visit.ensures.err top.0 top.2);
    })

pub returns-clause-leaves : goal.returns-clause-leaves
returns-clause-leaves g c =
    let r = registry c.args.udfs.now in
    let s = columns c.args.schema.now in
    let rule = g.R.OptimizationRule in
    let settled = rule.settled c.args.rule.now r s in
    let measure = rule.measure c.args.rule.now r s in
    let related = rule.related c.args.rule.now r s in
    let turns = rule.turns c.args.rule.now in
    let roots = numbers c.args.stack.now.items in
    let inv = c.loop-turn.invariant in
    turns_done settled related turns r s measure c.args.arena.now c.loop-turn.arena (reverse (numbers c.loop-turn.stack.items)) roots c.loop-turn.types c.args.steps.now c.loop-turn.steps inv.finite inv.longer inv.right inv.pending inv.many inv.standing inv.keeping inv.counted

pub returns-clause-err : goal.returns-clause-err
returns-clause-err g c =
    let r = registry c.args.udfs.now in
    let s = columns c.args.schema.now in
    let settled = g.R.OptimizationRule.settled c.args.rule.now r s in
    let roots = numbers c.args.stack.now.items in
    subst (IsCoercionRefusal settled (g.R.OptimizationRule.turns c.args.rule.now) r s c.args.arena.now c.loop-turn.arena roots) (sym c.at_top.ensures) (no_memory_left settled (g.R.OptimizationRule.turns c.args.rule.now) r s c.args.arena.now c.loop-turn.arena roots)
