use Rattle.std.proofs.Common.{[], ◌∷◌, length, IfOk, IfErr, sym, ap, ◌∙◌, subst}
use Rattle.std.proofs.lemmas.List.{length-map}
use Rattle.plan_types.specs.Errors.{IsRefusal, no_room}
use Rattle.plan_arena.specs.declared.arena.Node.{Node}
use Rattle.plan_types.specs.Schemas.{columns}
use Rattle.plan_dsl.specs.Registry.{registry}
use Rattle.plan_dsl.specs.Literals.{literal_op}
use Rattle.plan_dsl.specs.Names.{op_label}
use Rattle.plan_dsl.specs.Ops.{ColumnOp}
use Rattle.plan_dsl.specs.Signatures.{function_signature, signature}
use Rattle.plan_dsl.specs.Typing.{own_typed, typing_rule}
use Rattle.plan_arena.specs.Layers.{op_of, inputs_of}
use Rattle.plan_arena.specs.Items.{expression_layer, numbers}
use Rattle.plan_infer.specs.KeptTypes.{IsRuled, Says, by_itself, typings_at}
use Rattle.plan_infer.proofs.TypingLemmas.{if_err, if_ok, refused_so}
use Rattle.plan_infer.proofs.FunctionTypeLemmas.{function_named}
use Rattle.plan_infer.proofs.SignedLemmas.{IsSignedItem, item_signed, named_over, named_signed, over_item}
use Rattle.plan_infer.proofs.typing.own_typing.Goals as goal

pub returns-in-Column-clause-ok : goal.returns-in-Column-clause-ok
returns-in-Column-clause-ok c =
    over_item (λ op typed. IfOk c.column_typing.result (IsRuled (registry c.args.udfs.now) (columns c.args.schema.now) op typed)) c.args.types.now (expression_layer c.args.item.now) (ColumnOp c.in-Column.name) [] (numbers c.args.inputs.now) (ap expression_layer c.in-Column.is) c.requires.listed (if_ok c.column_typing.result _ _ (λ own h. h (registry c.args.udfs.now)) c.column_typing.ensures.ok)

pub returns-in-Column-clause-err : goal.returns-in-Column-clause-err
returns-in-Column-clause-err c =
    over_item (λ op typed. IfErr c.column_typing.result (IsRefusal (typing_rule (registry c.args.udfs.now) (columns c.args.schema.now) op typed))) c.args.types.now (expression_layer c.args.item.now) (ColumnOp c.in-Column.name) [] (numbers c.args.inputs.now) (ap expression_layer c.in-Column.is) c.requires.listed (if_err c.column_typing.result _ _ (λ error h. h (registry c.args.udfs.now)) c.column_typing.ensures.err)

pub returns-in-Literal-clause-ok : goal.returns-in-Literal-clause-ok
returns-in-Literal-clause-ok c =
    over_item (λ op typed. IfOk c.literal_typing.result (IsRuled (registry c.args.udfs.now) (columns c.args.schema.now) op typed)) c.args.types.now (expression_layer c.args.item.now) (literal_op c.in-Literal.value) [] (numbers c.args.inputs.now) (ap expression_layer c.in-Literal.is) c.requires.listed (if_ok c.literal_typing.result _ _ (λ own h. h (registry c.args.udfs.now) (columns c.args.schema.now)) c.literal_typing.ensures.ok)

pub returns-in-Literal-clause-err : goal.returns-in-Literal-clause-err
returns-in-Literal-clause-err c =
    over_item (λ op typed. IfErr c.literal_typing.result (IsRefusal (typing_rule (registry c.args.udfs.now) (columns c.args.schema.now) op typed))) c.args.types.now (expression_layer c.args.item.now) (literal_op c.in-Literal.value) [] (numbers c.args.inputs.now) (ap expression_layer c.in-Literal.is) c.requires.listed (if_err c.literal_typing.result _ _ (λ error h. h (registry c.args.udfs.now) (columns c.args.schema.now)) c.literal_typing.ensures.err)

pub returns-in-BinaryExpr-clause-ok : goal.returns-in-BinaryExpr-clause-ok
returns-in-BinaryExpr-clause-ok c =
    subst (λ op. IfOk c.binary_typing.result (IsRuled (registry c.args.udfs.now) (columns c.args.schema.now) op (typings_at c.args.types.now (numbers c.args.inputs.now)))) (sym (ap op_of (ap expression_layer c.in-BinaryExpr.is))) (if_ok c.binary_typing.result _ _ (λ own h. h (registry c.args.udfs.now) (columns c.args.schema.now)) c.binary_typing.ensures.ok)

pub returns-in-BinaryExpr-clause-name : goal.returns-in-BinaryExpr-clause-name
returns-in-BinaryExpr-clause-name c =
    let is = ap expression_layer c.in-BinaryExpr.is in
    if_ok c.binary_typing.result _ _ (λ own named. named_over c.args.types.now _ c.args.node.0 0 c.in-BinaryExpr.left.0 (c.in-BinaryExpr.right.0 ∷ []) _ own.name.0 (c.requires.listed ∙ ap inputs_of is) c.requires.inputs named (λ names. ap (λ l. op_label (op_of l) names) is)) c.binary_typing.ensures.name

pub returns-in-BinaryExpr-clause-err : goal.returns-in-BinaryExpr-clause-err
returns-in-BinaryExpr-clause-err c =
    subst (λ op. IfErr c.binary_typing.result (IsRefusal (typing_rule (registry c.args.udfs.now) (columns c.args.schema.now) op (typings_at c.args.types.now (numbers c.args.inputs.now))))) (sym (ap op_of (ap expression_layer c.in-BinaryExpr.is))) (if_err c.binary_typing.result _ _ (λ error h. h (registry c.args.udfs.now) (columns c.args.schema.now)) c.binary_typing.ensures.err)

pub returns-in-Cast-clause-ok : goal.returns-in-Cast-clause-ok
returns-in-Cast-clause-ok c =
    subst (λ op. IfOk c.cast_typing.result (IsRuled (registry c.args.udfs.now) (columns c.args.schema.now) op (typings_at c.args.types.now (numbers c.args.inputs.now)))) (sym (ap op_of (ap expression_layer c.in-Cast.is))) (if_ok c.cast_typing.result _ _ (λ own h. h (registry c.args.udfs.now) (columns c.args.schema.now) c.in-Cast.options) c.cast_typing.ensures.ok)

pub returns-in-Cast-clause-name : goal.returns-in-Cast-clause-name
returns-in-Cast-clause-name c =
    let is = ap expression_layer c.in-Cast.is in
    if_ok c.cast_typing.result _ _ (λ own named. named_over c.args.types.now _ c.args.node.0 0 c.in-Cast.expr.0 ([]) _ own.name.0 (c.requires.listed ∙ ap inputs_of is) c.requires.inputs named (λ names. ap (λ l. op_label (op_of l) names) is)) c.cast_typing.ensures.name

pub returns-in-Cast-clause-err : goal.returns-in-Cast-clause-err
returns-in-Cast-clause-err c =
    subst (λ op. IfErr c.cast_typing.result (IsRefusal (typing_rule (registry c.args.udfs.now) (columns c.args.schema.now) op (typings_at c.args.types.now (numbers c.args.inputs.now))))) (sym (ap op_of (ap expression_layer c.in-Cast.is))) (if_err c.cast_typing.result _ _ (λ error h. h (registry c.args.udfs.now) (columns c.args.schema.now) c.in-Cast.options) c.cast_typing.ensures.err)

pub returns-in-Alias-clause-ok : goal.returns-in-Alias-clause-ok
returns-in-Alias-clause-ok c =
    subst (λ op. IfOk c.alias_typing.result (IsRuled (registry c.args.udfs.now) (columns c.args.schema.now) op (typings_at c.args.types.now (numbers c.args.inputs.now)))) (sym (ap op_of (ap expression_layer c.in-Alias.is))) (if_ok c.alias_typing.result _ _ (λ own h. h (registry c.args.udfs.now) (columns c.args.schema.now) c.in-Alias.field-1) c.alias_typing.ensures.ok)

pub returns-in-Alias-clause-name : goal.returns-in-Alias-clause-name
returns-in-Alias-clause-name c =
    let is = ap expression_layer c.in-Alias.is in
    if_ok c.alias_typing.result _ _ (λ own named. by_itself (ap (λ (n : Node). n.0) named) (λ names over. ap (λ l. op_label (op_of l) names) is ∙ sym (ap (λ l. op_label (op_of l) []) is))) c.alias_typing.ensures.name

pub returns-in-Alias-clause-err : goal.returns-in-Alias-clause-err
returns-in-Alias-clause-err c = if_err c.alias_typing.result _ _ (λ error none. no_room none) c.alias_typing.ensures.err

pub returns-in_default-clause-ok : goal.returns-in_default-clause-ok
returns-in_default-clause-ok c =
    let is : IsSignedItem c.args.item.now = record { no_column = c.in_default.not-Column; no_literal = c.in_default.not-Literal; no_operator = c.in_default.not-BinaryExpr; no_cast = c.in_default.not-Cast; no_alias = c.in_default.not-Alias; no_function = c.in_default.not-Function } in
    let typed = typings_at c.args.types.now (numbers c.args.inputs.now) in
    subst (λ found. IfOk c.signed_typing.result (Says found typed)) (item_signed c.args.item.now is (registry c.args.udfs.now) (columns c.args.schema.now) c.args.types.now (numbers c.args.inputs.now) c.signature-in_default.result c.requires.listed c.signature-in_default.ensures) c.signed_typing.ensures.ok

pub returns-in_default-clause-name : goal.returns-in_default-clause-name
returns-in_default-clause-name c =
    let is : IsSignedItem c.args.item.now = record { no_column = c.in_default.not-Column; no_literal = c.in_default.not-Literal; no_operator = c.in_default.not-BinaryExpr; no_cast = c.in_default.not-Cast; no_alias = c.in_default.not-Alias; no_function = c.in_default.not-Function } in
    if_ok c.signed_typing.result _ _ (λ own named. named_signed c.args.item.now c.args.types.now c.args.node.0 own.name.0 (numbers c.args.inputs.now) is c.requires.listed c.requires.inputs named) c.signed_typing.ensures.name

pub returns-in_default-clause-err : goal.returns-in_default-clause-err
returns-in_default-clause-err c =
    let is : IsSignedItem c.args.item.now = record { no_column = c.in_default.not-Column; no_literal = c.in_default.not-Literal; no_operator = c.in_default.not-BinaryExpr; no_cast = c.in_default.not-Cast; no_alias = c.in_default.not-Alias; no_function = c.in_default.not-Function } in
    let same = item_signed c.args.item.now is (registry c.args.udfs.now) (columns c.args.schema.now) c.args.types.now (numbers c.args.inputs.now) c.signature-in_default.result c.requires.listed c.signature-in_default.ensures in
    if_err c.signed_typing.result _ _ (λ error refused. refused_so _ _ error (λ kind e. ap own_typed (sym same ∙ e)) refused) c.signed_typing.ensures.err

pub function_typing-requires-clause-found : goal.function_typing-requires-clause-found
function_typing-requires-clause-found c =
    let is = ap expression_layer c.in-Function.is in
    c.signature.ensures ∙ ap (λ l. signature (op_of l) (length (inputs_of (expression_layer c.args.item.now)))) is ∙ ap (function_signature c.in-Function.function) (ap length (sym c.requires.listed) ∙ length-map c.args.inputs.now _)

pub returns-in-Function-clause-ok : goal.returns-in-Function-clause-ok
returns-in-Function-clause-ok c =
    let typed = typings_at c.args.types.now (numbers c.args.inputs.now) in
    subst (λ item. IfOk c.function_typing.result (IsRuled (registry c.args.udfs.now) (columns c.args.schema.now) (op_of (expression_layer item)) typed)) (sym c.in-Function.is) c.function_typing.ensures.ok

pub returns-in-Function-clause-name : goal.returns-in-Function-clause-name
returns-in-Function-clause-name c =
    let is = ap expression_layer c.in-Function.is in
    let inputs = c.requires.listed ∙ ap inputs_of is in
    if_ok c.function_typing.result _ _ (λ own named. function_named c.args.types.now c.in-Function.function c.in-Function.input c.args.node.0 (expression_layer c.args.item.now) (numbers c.args.inputs.now) own is inputs (ap (λ (n : Node). n.0) named)) c.function_typing.ensures.name

pub returns-in-Function-clause-err : goal.returns-in-Function-clause-err
returns-in-Function-clause-err c =
    let typed = typings_at c.args.types.now (numbers c.args.inputs.now) in
    subst (λ item. IfErr c.function_typing.result (IsRefusal (typing_rule (registry c.args.udfs.now) (columns c.args.schema.now) (op_of (expression_layer item)) typed))) (sym c.in-Function.is)
    (if_err c.function_typing.result _ _ (λ error refused. refused_so _ _ error (λ kind e. ap own_typed e) refused) c.function_typing.ensures.err)
