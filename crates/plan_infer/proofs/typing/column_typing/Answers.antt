use Rattle.std.proofs.Common.{refl}
use Rattle.plan_types.specs.Schemas.{columns}
use Rattle.plan_infer.proofs.TypingLemmas.{column_refused, column_ruled}
use Rattle.plan_infer.proofs.typing.column_typing.Goals as goal

pub returns-in-Err-clause-err : goal.returns-in-Err-clause-err
returns-in-Err-clause-err c = λ registry. column_refused registry (columns c.args.schema.now) c.args.name.now _ _ c.at_top.ensures c.in-Err.ensures.err

pub returns-clause-ok : goal.returns-clause-ok
returns-clause-ok c = λ registry.
    let found = c.in-Ok.ensures.ok in
    column_ruled registry (columns c.args.schema.now) c.args.name.now _ _ found.0 found.1 c.in_ok-dtype.ensures.ok refl c.none.ensures
