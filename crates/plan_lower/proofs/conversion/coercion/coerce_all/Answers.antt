use Rattle.std.proofs.Common.{ℕ, OnOk, sym, subst}
use Rattle.std.specs.List.{AllByRecursion}
use Rattle.plan_types.specs.Schemas.{columns}
use Rattle.plan_dsl.specs.Registry.{registry}
use Rattle.plan_infer.specs.Typed.{DenotesKnown}
use Rattle.plan_coerce.specs.Coercion.{KeepsBelow}
use Rattle.plan_coerce.specs.Optimizer.{AreWrittenOut}
use Rattle.plan_lower.proofs.conversion.coercion.coerce_all.Goals as goal

pub coerce_stacked-requires : goal.coerce_stacked-requires
coerce_stacked-requires c = record {
  right = c.requires.right;
  known = (c.requires.known.0, subst (AllByRecursion (DenotesKnown (registry c.args.udfs.now) (columns c.args.schema.now) c.requires.known.0 c.args.arena.now)) (sym c.in_ok-optimizer.ensures.ok) c.requires.known.1);
}

pub returns-clause-ok : goal.returns-clause-ok
returns-clause-ok c =
    let r = registry c.args.udfs.now in
    let s = columns c.args.schema.now in
    subst (λ l. OnOk c.coerce_stacked.result ((first : ℕ) → AllByRecursion (DenotesKnown r s first c.args.arena.now) l → AreWrittenOut r s first c.args.arena.now c.coerce_stacked.new.arena l)) c.in_ok-optimizer.ensures.ok c.coerce_stacked.ensures.ok

pub returns-clause-below : goal.returns-clause-below
returns-clause-below c =
    let r = registry c.args.udfs.now in
    let s = columns c.args.schema.now in
    subst (λ l. (first : ℕ) → AllByRecursion (DenotesKnown r s first c.args.arena.now) l → KeepsBelow first c.args.arena.now c.coerce_stacked.new.arena) c.in_ok-optimizer.ensures.ok c.coerce_stacked.ensures.below
