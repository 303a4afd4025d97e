use Rattle.plan_types.specs.Schemas.{columns}
use Rattle.plan_types.proofs.ResultLemmas.{passed_on}
use Rattle.plan_dsl.specs.Expressions.{plain_tree}
use Rattle.plan_dsl.specs.Registry.{registry}
use Rattle.plan_arena.specs.Items.{named_node}
use Rattle.plan_infer.specs.KeptTypes.{typed_of}
use Rattle.plan_lower.proofs.ProjectionLemmas.{added_output, adds_output, output_against, refused_output}
use Rattle.plan_lower.proofs.conversion.projection.project_one.Goals as goal

pub returns-in_err-expr_ir-clause-err : goal.returns-in_err-expr_ir-clause-err
returns-in_err-expr_ir-clause-err c =
    passed_on c.from_residual.result c.in_err-expr_ir.field-0.0 _ c.from_residual.ensures.1 (refused_output (registry c.args.udfs.now) (columns c.args.schema.now) c.args.asked (plain_tree c.args.expr) (columns c.args.output.now) _ c.in_err-expr_ir.ensures.err)

pub returns-in_err-ask-clause-err : goal.returns-in_err-ask-clause-err
returns-in_err-ask-clause-err c =
    let is = added_output c.add_typed.new.types c.args.expr _ _ c.get.result.now c.in_ok-expr_ir.ensures.right c.in_ok-expr_ir.ensures.denotes c.node.ensures c.get.ensures in
    passed_on c.from_residual-in_err-ask.result c.in_err-ask.field-0.0 _ c.from_residual-in_err-ask.ensures.1 (output_against c.args.asked _ (named_node c.in_ok-expr_ir.expr_ir).label (columns c.args.output.now) _ c.in_ok-expr_ir.ensures.name is c.in_err-ask.ensures.err)

pub returns-clause-ok : goal.returns-clause-ok
returns-clause-ok c =
    let is = added_output c.add_typed.new.types c.args.expr _ _ c.get.result.now c.in_ok-expr_ir.ensures.right c.in_ok-expr_ir.ensures.denotes c.node.ensures c.get.ensures in
    adds_output c.args.asked (plain_tree c.args.expr) (named_node c.in_ok-expr_ir.expr_ir) (typed_of c.get.result.now) (columns c.args.output.now) (columns c.ask.new.output) c.in_ok-expr_ir.ensures.name is c.in_ok-ask.ensures.met c.in_ok-ask.ensures.put
