use Rattle.std.proofs.Common.{◌≡◌, Some, Ok, Err, [], ◌∷◌, refl, subst}
use Rattle.plan_types.specs.Schemas.{Columns, columns}
use Rattle.plan_dsl.specs.FunctionSchemas.{HasWorkSchema}
use Rattle.plan_dsl.specs.PlanRules.{work_schema}
use Rattle.plan_dsl.specs.Plans.{function_work, over_op}
use Rattle.plan_arena.specs.Layers.{layer}
use Rattle.plan_lower.specs.Lowering.{columns_at}
use Rattle.plan_lower.proofs.AddedLemmas.{layer_added, own_adds, own_at, same_grows}
use Rattle.plan_lower.proofs.FunctionLemmas.{item_own}
use Rattle.plan_lower.proofs.conversion.functions.add_function.Goals as goal

pub returns : goal.returns
returns c =
    let old = c.args.lp_arena.now in
    let new = c.add.new.self in
    let function = c.args.function in
    let schema = columns_at old c.args.input.schema_node.0 in
    let own = columns c.in_ok-schema.schema in
    let node = c.in_ok-node.node in
    let added = c.in_ok-node.ensures.ok in
    let at = c.in_ok-node.ensures.node in
    let answer = subst (λ (s : Columns). HasWorkSchema (function_work function) s (Ok c.in_ok-schema.schema)) c.recorded_schema-before.ensures c.in_ok-schema.ensures in
    record {
      unbroken = answer.unbroken;
      columns = own_at old new _ node own (λ cs. cs ≡ work_schema (function_work function) schema []) added at refl answer.ok;
      item = own_at old new _ node own (item_own new node.0 c.args.input.node.0 function) added at refl (layer_added old new _ node.0 _ added at refl);
      err = tt;
      adds = own_adds old old new _ node own (same_grows old old refl) refl added at refl;
    }
