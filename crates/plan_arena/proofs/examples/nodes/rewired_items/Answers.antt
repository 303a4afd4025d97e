use Rattle.std.proofs.Common.{refl}
use Rattle.plan_types.specs.declared.dtype.CastOptions.TheVariants.{NonStrict}
use Rattle.plan_types.specs.declared.dtype.DataType.TheVariants.{Int32}
use Rattle.plan_arena.specs.declared.aexpr.AExpr.TheVariants.{Cast}
use Rattle.plan_arena.specs.Samples.{node_at}
use Rattle.plan_arena.proofs.examples.nodes.rewired_items.Goals as goal

pub returns-clause-to_another : goal.returns-clause-to_another
returns-clause-to_another c =
    record { before = Cast (node_at 0) Int32 NonStrict; after = Cast (node_at 7) Int32 NonStrict; got = refl; items = refl; rewired = refl }

pub returns-clause-to_itself : goal.returns-clause-to_itself
returns-clause-to_itself c =
    record { before = Cast (node_at 0) Int32 NonStrict; after = Cast (node_at 0) Int32 NonStrict; got = refl; items = refl; rewired = refl }
