use Rattle.std.proofs.lemmas.Result.{IfErr-weaker, on_ok_weaker}
use Rattle.plan_types.specs.Schemas.{columns}
use Rattle.plan_dsl.specs.Registry.{registry}
use Rattle.plan_coerce.proofs.RightLemmas.{kept_within}
use Rattle.own_rule.proofs.RelaxedLemmas.{relaxed_roots, tree_root, typed_root}
use Rattle.own_rule.proofs.relax.relax_typed.Goals as goal

pub from_root-requires : goal.from_root-requires
from_root-requires c =
    kept_within c.args.arena.now c.args.types.now c.args.node.0 (record { registry = registry c.args.udfs.now; schema = columns c.args.schema.now; right = c.requires.right }) c.requires.kept

pub coerce_uncounted-requires-clause-trees : goal.coerce_uncounted-requires-clause-trees
coerce_uncounted-requires-clause-trees c = tree_root c.requires.right c.requires.kept c.in_ok-optimizer.ensures.ok

pub returns-clause-relaxed : goal.returns-clause-relaxed
returns-clause-relaxed c =
    let done = c.coerce_uncounted.ensures in
    let root = typed_root c.requires.right c.requires.kept c.in_ok-optimizer.ensures.ok in
    on_ok_weaker c.coerce_uncounted.result (λ ends. relaxed_roots c.requires.right c.requires.kept c.in_ok-optimizer.ensures.ok (done.leaves.2.like root) ends.settled) done.done

pub returns-clause-like : goal.returns-clause-like
returns-clause-like c = c.coerce_uncounted.ensures.leaves.2.like (typed_root c.requires.right c.requires.kept c.in_ok-optimizer.ensures.ok)

pub returns-clause-err : goal.returns-clause-err
returns-clause-err c =
    let root = typed_root c.requires.right c.requires.kept c.in_ok-optimizer.ensures.ok in
    IfErr-weaker c.coerce_uncounted.result _ _ (λ error refused. refused.typed root) c.coerce_uncounted.ensures.err
