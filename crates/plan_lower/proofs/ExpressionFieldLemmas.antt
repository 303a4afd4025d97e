-- The item on top of an expression's nodes, and its field.
use Rattle.std.proofs.Common.{◌≡◌, ℕ, false, true, List, Some, slice_get, ap, ◌∙◌}
use Rattle.plan_types.specs.Schemas.{Columns}
use Rattle.plan_types.specs.declared.field.Field.{Field}
use Rattle.plan_dsl.specs.Aliases.{pruned}
use Rattle.plan_dsl.specs.Names.{Label, name_of}
use Rattle.plan_dsl.specs.Registry.{Registry}
use Rattle.plan_dsl.proofs.AliasLemmas.{kept_label}
use Rattle.plan_infer.specs.declared.field.Context.{Context}
use Rattle.plan_infer.specs.Fields.{IsFieldOf}
use Rattle.plan_dsl.specs.Ops.{Expression}
use Rattle.plan_arena.specs.declared.aexpr.AExpr.{AExpr}
use Rattle.plan_arena.specs.Denotation.{Denotes}
use Rattle.plan_arena.specs.Items.{HoldsFrom, expression_layer}
use Rattle.plan_arena.proofs.ItemLemmas.{any_node}
use Rattle.plan_infer.specs.ItemTrees.{HasOperands, LayerDenotes}
use Rattle.plan_infer.proofs.ItemTreeLemmas.{denoted_layer, denoted_operands}
use Rattle.plan_lower.specs.TopNumbers.{settled_at_top}
use Rattle.plan_lower.proofs.TopNumberLemmas.{settled_at_top_label}

module _ (first : ℕ) (items : List AExpr) (n : ℕ) (item : AExpr) (got : slice_get items n ≡ Some item) (t : Expression) (d : Denotes (HoldsFrom first items) n t) where
  -- denotes the expression
  pub top_layer : LayerDenotes items (expression_layer item) t
  top_layer = denoted_layer items n item got t (any_node first items n t d)

  -- and its inputs denote operands
  pub top_operands : HasOperands items (expression_layer item)
  top_operands = denoted_operands items n item got (record { tree = t; denotes = any_node first items n t d })

-- the field of an expression's nodes has the expression's name
pub field_name : (registry : Registry) (schema : Columns) (ctxt : Context) (tree : Expression) (field : Field) → IsFieldOf registry schema ctxt (pruned true false (settled_at_top tree)) field → field.name ≡ name_of tree
field_name registry schema ctxt tree field is = is.name ∙ ap (λ (label : Label). label.name) (kept_label false (settled_at_top tree) ∙ settled_at_top_label tree)
