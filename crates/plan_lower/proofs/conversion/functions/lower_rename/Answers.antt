use Rattle.std.proofs.Common.{[], Ok, refl, sym, ap, ◌∙◌, subst}
use Rattle.plan_types.specs.Schemas.{Columns}
use Rattle.plan_dsl.specs.Plans.{CallWork}
use Rattle.plan_dsl.specs.TableFunctions.{RenameCall}
use Rattle.plan_lower.specs.Lowering.{columns_at}
use Rattle.plan_lower.specs.Works.{IsPlainRefusal}
use Rattle.plan_lower.proofs.AddedLemmas.{refused_plainly, same_grows}
use Rattle.plan_lower.proofs.FunctionLemmas.{function_lowers, rename_refusal, rename_found}
use Rattle.plan_lower.proofs.conversion.functions.lower_rename.Goals as goal

pub returns-then-lacks_some : goal.returns-then-lacks_some
returns-then-lacks_some c =
    let old = c.args.lp_arena.now in
    let work = CallWork (RenameCall c.args.existing.items.items c.args.new.items.items c.args.strict) in
    let refused = rename_refusal _ c.args.existing.items.items c.args.new.items.items c.args.strict _ (sym c.lacks_some.ensures ∙ c.if-lacks_some.true) c.at_top.ensures in
    refused_plainly work [] [] c.args.input old old _ _ refl (subst (λ (s : Columns). IsPlainRefusal s work [] c.at_top.result) c.recorded_schema-schema.ensures refused) (same_grows old old refl)

pub returns : goal.returns
returns c =
    let schema = columns_at c.args.lp_arena.now c.args.input.schema_node.0 in
    let existing = c.args.existing in
    let new = c.args.new in
    let resolved = rename_found _ existing new c.args.strict c.has_some-swapping.result (sym c.lacks_some.ensures ∙ c.if-lacks_some.false) (rw (← c.as_slice.ensures.value) c.has_some-swapping.ensures) in
    function_lowers _ (CallWork (RenameCall existing.items.items new.items.items c.args.strict)) [] c.args.input _ _ c.add_function.result refl (rw (← c.recorded_schema-schema.ensures) resolved) c.add_function.ensures
