use Rattle.std.proofs.Common.{subst, inl, inr, ⊎_elim}
use Rattle.std.specs.List.{AllByRecursion}
use Rattle.plan_types.specs.Errors.{IsRefusal}
use Rattle.plan_types.specs.Schemas.{columns}
use Rattle.plan_types.proofs.ResultLemmas.{passed_on}
use Rattle.plan_dsl.specs.Registry.{registry}
use Rattle.plan_dsl.specs.Typing.{typing_rule}
use Rattle.plan_arena.specs.Layers.{op_of}
use Rattle.plan_arena.specs.Items.{expression_layer}
use Rattle.plan_infer.specs.KeptTypes.{IsKept, IsNamedBy, IsRuled}
use Rattle.plan_infer.proofs.TableLemmas.{layer_held, over_kept, own_refused, right_kept}
use Rattle.plan_infer.proofs.typing.type_over.Goals as goal

pub own_typing-requires : goal.own_typing-requires
own_typing-requires g c = record { listed = c.requires.listed; inputs = c.requires.inputs }

pub returns-in_err-own-clause-err : goal.returns-in_err-own-clause-err
returns-in_err-own-clause-err g c =
    let items = c.args.arena.now in
    let error = c.in_err-own.field-0.0 in
    let held = layer_held items c.args.node.0 c.args.item.now c.requires.item in
    let known = subst (AllByRecursion (IsKept c.args.types.now)) c.requires.listed c.requires.inputs in
    passed_on c.from_residual.result error _ c.from_residual.ensures.1 (own_refused (registry c.args.udfs.now) (columns c.args.schema.now) items c.args.types.now c.requires.right error c.args.node.0 _ _ held known (over_kept (λ typed. IsRefusal (typing_rule (registry c.args.udfs.now) (columns c.args.schema.now) _ typed) error) c.args.types.now _ _ c.requires.listed c.in_err-own.ensures.err))

pub returns-clause-right : goal.returns-clause-right
returns-clause-right g c =
    let op = op_of (expression_layer c.args.item.now) in
    let held = layer_held c.args.arena.now c.args.node.0 c.args.item.now c.requires.item in
    let known = subst (AllByRecursion (IsKept c.args.types.now)) c.requires.listed c.requires.inputs in
    let ruled = over_kept (λ typed. IsRuled (registry c.args.udfs.now) (columns c.args.schema.now) op typed c.in_ok-own.own) c.args.types.now _ _ c.requires.listed c.in_ok-own.ensures.ok in
    let named = subst (λ ns. IsNamedBy c.args.types.now op c.args.node.0 ns c.in_ok-own.own.name.0) c.requires.listed c.in_ok-own.ensures.name in
    right_kept (registry c.args.udfs.now) (columns c.args.schema.now) c.args.arena.now c.args.types.now c.add.new.self c.args.node.0 op _ c.in_ok-own.own held c.requires.tree known ruled named c.add.ensures.stays c.add.ensures.only c.requires.right

pub returns-clause-only : goal.returns-clause-only
returns-clause-only g c = λ n kept. ⊎_elim
    (λ before. inl (record { own = kept.own; keeps = before }))
    (λ here. inr here.0)
    (c.add.ensures.only n kept.own kept.keeps)
