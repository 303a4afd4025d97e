use Rattle.std.proofs.Common.{refl}
use Rattle.plan_types.specs.Schemas.{columns}
use Rattle.plan_dsl.specs.Registry.{registry}
use Rattle.plan_coerce.specs.Optimizer.{roots_of}
use Rattle.plan_coerce.proofs.RootLemmas.{known_below, known_roots, known_trees, written_roots}
use Rattle.plan_coerce.proofs.TurnLemmas.{on_ok}
use Rattle.plan_lower.proofs.ProjectionLemmas.{refused_as}
use Rattle.plan_lower.proofs.conversion.coercion.coerce_stacked.Goals as goal

pub coerce_uncounted-requires : goal.coerce_uncounted-requires
coerce_uncounted-requires c = record {
  trees = known_trees (registry c.args.udfs.now) (columns c.args.schema.now) c.requires.known.0 c.args.arena.now (roots_of c.args.optimizer) c.requires.known.1;
  right = c.requires.right;
}

pub returns-clause-ok : goal.returns-clause-ok
returns-clause-ok c =
    let r = registry c.args.udfs.now in
    let s = columns c.args.schema.now in
    let old = c.args.arena.now in
    let new = c.coerce_uncounted.new.expr_arena in
    let roots = roots_of c.args.optimizer in
    let left = c.coerce_uncounted.ensures.leaves.2 in
    on_ok c.coerce_uncounted.result c.coerce_uncounted.ensures.done (λ done first known. written_roots r s first old new roots known (left.like (known_roots r s first old roots known)) done.settled (left.elsewhere 8 refl))

pub returns-clause-below : goal.returns-clause-below
returns-clause-below c = λ first known. known_below (registry c.args.udfs.now) (columns c.args.schema.now) first c.args.arena.now c.coerce_uncounted.new.expr_arena (roots_of c.args.optimizer) known (c.coerce_uncounted.ensures.leaves.2.elsewhere 8 refl)

pub returns-clause-err : goal.returns-clause-err
returns-clause-err c =
    let typed = known_roots (registry c.args.udfs.now) (columns c.args.schema.now) c.requires.known.0 c.args.arena.now (roots_of c.args.optimizer) c.requires.known.1 in
    refused_as c.coerce_uncounted.result _ _ (λ error refusal. refusal.typed typed) c.coerce_uncounted.ensures.err
