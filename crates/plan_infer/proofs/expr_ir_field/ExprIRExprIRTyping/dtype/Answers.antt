use Rattle.std.proofs.Common.{ℕ, sym, subst}
use Rattle.plan_types.specs.Errors.{IsRefusal}
use Rattle.plan_types.specs.Schemas.{columns}
use Rattle.plan_types.proofs.ResultLemmas.{passed_on}
use Rattle.plan_dsl.specs.Ops.{Expression}
use Rattle.plan_dsl.specs.Registry.{registry}
use Rattle.plan_dsl.specs.Typing.{typing}
use Rattle.plan_arena.specs.Denotation.{Denotes}
use Rattle.plan_arena.specs.Items.{HoldsExpression}
use Rattle.plan_infer.specs.KeptTypes.{typed_of}
use Rattle.plan_infer.proofs.TableLemmas.{kept_typing, right_start}
use Rattle.plan_infer.proofs.expr_ir_field.ExprIRExprIRTyping.dtype.Goals as goal

pub infer-requires-clause-right : goal.infer-requires-clause-right
infer-requires-clause-right c = right_start (registry c.args.udfs.now) (columns c.args.schema.now) c.args.arena.now c.new-types.result c.new-types.ensures

pub returns-in_err-infer-clause-err : goal.returns-in_err-infer-clause-err
returns-in_err-infer-clause-err c =
    let error = c.in_err-infer.field-0.0 in
    let refused = subst (λ (n : ℕ). (t : Expression) → Denotes (HoldsExpression c.args.arena.now) n t → IsRefusal (typing (registry c.args.udfs.now) (columns c.args.schema.now) t) error) c.node-node.ensures c.in_err-infer.ensures.err in
    passed_on c.from_residual.result error _ c.from_residual.ensures.1 refused

pub returns-clause-ok : goal.returns-clause-ok
returns-clause-ok c = λ t d.
    let own = c.get.result.now in
    let here = subst (λ n. Denotes (HoldsExpression c.args.arena.now) n t) (sym c.node-node.ensures) d in
    record {
      typed = typed_of own;
      typed_is = kept_typing (registry c.args.udfs.now) (columns c.args.schema.now) c.args.arena.now c.infer.new.self c.in_ok-infer.ensures.right c.node-node.result.0 own c.get.ensures t here;
      type = c.in_ok-dtype.ensures.ok;
    }
