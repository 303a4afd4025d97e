-- What the nodes of a lowered plan lead to.
use Rattle.std.proofs.Common.{◌≡◌, ◌<◌, ℕ, List, Some, slice_get, map}
use Rattle.plan_arena.specs.Denotation.{DenotesTree, depth_at}
use Rattle.plan_arena.specs.Layers.{op_of, inputs_of, shape_of}
use Rattle.plan_arena.specs.Items.{plan_layer, HoldsPlan}
use Rattle.plan_arena.specs.declared.aexpr.AExpr.{AExpr}
use Rattle.plan_arena.specs.declared.ir.IR.{IR}
use Rattle.plan_arena.proofs.ItemLemmas.{layer_parts}
use Rattle.plan_arena.proofs.NumberLemmas.{all_there}
use Rattle.plan_report.proofs.NodeLemmas.{plan_inputs}

-- an input of a node denotes a plan
pub input_denotes : (expressions : List AExpr) (plans : List IR) (n : ℕ) (item : IR) (i input : ℕ) → slice_get plans n ≡ Some item → slice_get (inputs_of (plan_layer item)) i ≡ Some input → DenotesTree (HoldsPlan expressions plans) n → DenotesTree (HoldsPlan expressions plans) input
input_denotes expressions plans n item i input got at d =
    let leads : ℕ → Type 0 = λ k. DenotesTree (HoldsPlan expressions plans) k × (depth_at (shape_of (map plan_layer plans)) k < depth_at (shape_of (map plan_layer plans)) n) in
    let each = plan_inputs expressions plans n item got (op_of (plan_layer item)) (inputs_of (plan_layer item)) (layer_parts (plan_layer item)) d in
    (all_there leads (inputs_of (plan_layer item)) each i input at).0
