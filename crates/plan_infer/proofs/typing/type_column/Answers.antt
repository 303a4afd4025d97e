use Rattle.std.proofs.Common.{[], inl, inr, refl, true, ⊎_elim}
use Rattle.plan_types.specs.Errors.{IsRefusal}
use Rattle.plan_types.specs.Schemas.{columns}
use Rattle.plan_dsl.specs.Ops.{ColumnOp}
use Rattle.plan_dsl.specs.Typing.{typing_rule}
use Rattle.plan_infer.specs.declared.type_table.Inferred.{Inferred}
use Rattle.plan_infer.specs.KeptTypes.{IsRuled, by_itself}
use Rattle.plan_infer.proofs.TypingLemmas.{column_refused, column_ruled}
use Rattle.plan_infer.proofs.TableLemmas.{over_kept, own_refused, right_kept}
use Rattle.plan_infer.proofs.typing.type_column.Goals as goal

pub returns-in-Err-clause-err : goal.returns-in-Err-clause-err
returns-in-Err-clause-err g c = λ registry right.
    let schema = columns c.args.schema.now in
    let types = c.args.types.now in
    let op = ColumnOp c.args.name.now in
    let refused = column_refused registry schema c.args.name.now _ _ c.at_top.ensures c.in-Err.ensures.err in
    own_refused registry schema c.args.arena.now types right _ c.args.node.0 op [] c.requires.held tt (over_kept (λ typed. IsRefusal (typing_rule registry schema op typed) c.at_top.result) types [] [] refl refused)

pub returns-clause-right : goal.returns-clause-right
returns-clause-right g c = λ registry right.
    let schema = columns c.args.schema.now in
    let types = c.args.types.now in
    let op = ColumnOp c.args.name.now in
    let own : Inferred = record { name = c.args.node; dtype = c.in_ok-dtype.dtype; many = true; operands = c.none.result } in
    let found = c.in-Ok.ensures.ok in
    let ruled = column_ruled registry schema c.args.name.now _ own found.0 found.1 c.in_ok-dtype.ensures.ok refl c.none.ensures in
    right_kept registry schema c.args.arena.now types c.add.new.self c.args.node.0 op [] own c.requires.held c.requires.tree tt (over_kept (λ typed. IsRuled registry schema op typed own) types [] [] refl ruled) (by_itself refl (λ names over. refl)) c.add.ensures.stays c.add.ensures.only right

pub returns-clause-only : goal.returns-clause-only
returns-clause-only g c = λ n kept. ⊎_elim
    (λ before. inl (record { own = kept.own; keeps = before }))
    (λ here. inr here.0)
    (c.add.ensures.only n kept.own kept.keeps)
