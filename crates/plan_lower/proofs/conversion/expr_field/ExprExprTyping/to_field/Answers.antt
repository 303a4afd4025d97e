use Rattle.std.proofs.Common.{◌≡◌, length, false, true, subst}
use Rattle.plan_types.specs.Errors.{IsRefusal}
use Rattle.plan_types.specs.Schemas.{columns}
use Rattle.plan_types.proofs.ResultLemmas.{passed_on}
use Rattle.plan_dsl.specs.Aliases.{pruned}
use Rattle.plan_dsl.specs.Expressions.{plain_tree}
use Rattle.plan_dsl.specs.Names.{name_of}
use Rattle.plan_dsl.specs.Registry.{registry}
use Rattle.plan_dsl.specs.Sources.{Source, is_plain, unwritten}
use Rattle.plan_dsl.specs.Typing.{typing}
use Rattle.plan_infer.specs.Fields.{IsFieldOf}
use Rattle.plan_arena.proofs.ItemLemmas.{any_node, within}
use Rattle.plan_lower.specs.ExpressionFields.{has_no_type}
use Rattle.plan_lower.specs.TopNumbers.{settled_at_top}
use Rattle.plan_lower.proofs.ExpressionFieldLemmas.{field_name, top_layer, top_operands}
use Rattle.plan_lower.proofs.conversion.expr_field.ExprExprTyping.to_field.Goals as goal

pub get-requires : goal.get-requires
get-requires c =
    let tree = pruned true false (settled_at_top (plain_tree c.in_ok-copy.copy)) in
    within c.add_settled.new.arena c.in_ok-node.node.0 tree (any_node (length c.new-arena.result) c.add_settled.new.arena c.in_ok-node.node.0 tree c.in_ok-node.ensures.denotes)

pub to_field-requires : goal.to_field-requires
to_field-requires c =
    top_operands (length c.new-arena.result) c.add_settled.new.arena c.in_ok-node.node.0 c.get.result.now c.get.ensures (pruned true false (settled_at_top (plain_tree c.in_ok-copy.copy))) c.in_ok-node.ensures.denotes

pub returns-in_err-field-clause-err : goal.returns-in_err-field-clause-err
returns-in_err-field-clause-err c =
    let error = c.in_err-field.field-0.0 in
    let handed = c.from_residual-in_err-field in
    let tree = settled_at_top (plain_tree c.in_ok-copy.copy) in
    let here = top_layer (length c.new-arena.result) c.add_settled.new.arena c.in_ok-node.node.0 c.get.result.now c.get.ensures (pruned true false tree) c.in_ok-node.ensures.denotes in
    let plain = subst (λ (s : Source). is_plain s ≡ true) c.in_ok-copy.ensures.ok c.in_ok-node.ensures.plain in
    let found = c.in_err-field.ensures.err (pruned true false tree) here in
    let refused = subst (λ (s : Source). IsRefusal (typing (registry c.args.udfs.now) (columns c.args.schema.now) (pruned true false (settled_at_top (unwritten s)))) error) c.in_ok-copy.ensures.ok found in
    passed_on handed.result error _ handed.ensures.1 (has_no_type plain refused)

pub returns-clause-ok : goal.returns-clause-ok
returns-clause-ok c =
    let tree = settled_at_top (plain_tree c.in_ok-copy.copy) in
    let here = top_layer (length c.new-arena.result) c.add_settled.new.arena c.in_ok-node.node.0 c.get.result.now c.get.ensures (pruned true false tree) c.in_ok-node.ensures.denotes in
    let field = c.in_ok-field.ensures.ok (pruned true false tree) here in
    subst (λ (s : Source). IsFieldOf (registry c.args.udfs.now) (columns c.args.schema.now) c.args.ctxt (pruned true false (settled_at_top (unwritten s))) c.in_ok-field.field) c.in_ok-copy.ensures.ok field

pub returns-clause-name : goal.returns-clause-name
returns-clause-name c =
    let tree = plain_tree c.in_ok-copy.copy in
    let here = top_layer (length c.new-arena.result) c.add_settled.new.arena c.in_ok-node.node.0 c.get.result.now c.get.ensures (pruned true false (settled_at_top tree)) c.in_ok-node.ensures.denotes in
    let name = field_name (registry c.args.udfs.now) (columns c.args.schema.now) c.args.ctxt tree c.in_ok-field.field (c.in_ok-field.ensures.ok (pruned true false (settled_at_top tree)) here) in
    subst (λ (s : Source). c.in_ok-field.field.name ≡ name_of (unwritten s)) c.in_ok-copy.ensures.ok name
