-- Filters that are put over an accepted plan.
use Rattle.std.proofs.Common.{◌≡◌, ℕ, List, [], ◌∷◌, ◌++◌, length, map, Some, slice_get, refl}
use Rattle.plan_types.specs.Schemas.{Columns}
use Rattle.plan_types.proofs.ListLemmas.{slice_get-seam}
use Rattle.plan_dsl.specs.Ops.{Expression}
use Rattle.plan_dsl.specs.Plans.{FilterKind, Named, Plan, filter_op}
use Rattle.plan_dsl.specs.PlanRules.{schema_of}
use Rattle.plan_dsl.specs.Registry.{Registry}
use Rattle.plan_dsl.specs.Trees.{node, no_more, more}
use Rattle.plan_arena.specs.declared.arena.Node.{Node}
use Rattle.plan_arena.specs.declared.aexpr.AExpr.{AExpr}
use Rattle.plan_arena.specs.declared.expr_ir.ExprIR.{ExprIR}
use Rattle.plan_arena.specs.declared.ir.IR.{IR}
use Rattle.plan_arena.specs.declared.ir.IR.TheVariants.{Filter}
use Rattle.plan_arena.specs.Denotation.{Denotes}
use Rattle.plan_arena.specs.Items.{Grows, HoldsExpression, HoldsPlan, named_node, plan_layer}
use Rattle.plan_arena.specs.Runs.{IsAccepted}
use Rattle.plan_arena.proofs.ItemLemmas.{grown_held, plan_added, plan_tree_kept}
use Rattle.plan_coerce.specs.Optimizer.{StaysOver}
use Rattle.plan_coerce.specs.Rules.{HasUncheckedInputs}
use Rattle.plan_coerce.proofs.PlanNodeLemmas.{filter_node, over_accepted}
use Rattle.plan_arena.proofs.UncheckedLemmas.{accepted_schema, one_schema}

module _ (registry : Registry) (old items : List AExpr) (plans filtered : List IR) (input : Node) (n : ℕ) (predicate : ExprIR) (t : Plan) (e : Expression) (grows : Grows old items) (longer : filtered ≡ plans ++ Filter input predicate ∷ []) (at : n ≡ length plans) (denotes : Denotes (HoldsPlan old plans) input.0 t) (accepted : IsAccepted registry t) (tree : Denotes (HoldsExpression items) (named_node predicate).expression e) where
  abbrev output : Named Expression
  output = record { label = (named_node predicate).label; expression = e }

  below : Denotes (HoldsPlan items filtered) input.0 t
  below = plan_tree_kept old items plans filtered (grown_held old items grows) (record { added = Filter input predicate ∷ []; longer = longer }) input.0 t denotes

  item : slice_get (map plan_layer filtered) n ≡ Some (plan_layer (Filter input predicate))
  item = rw (longer, at) (plan_added plans (Filter input predicate))

  filter : Denotes (HoldsPlan items filtered) n (node (filter_op output) (more t no_more))
  filter = (
    input.0 ∷ [],
    record { flat = filter_op (named_node predicate); item = item; denotes = record { same_recorded = refl; kind = ((output ∷ []) ∷ [], refl, ((refl, tree, tt), tt)) } },
    (below, tt),
  )

  -- it stands over an input that keeps the rules
  pub over_input : HasUncheckedInputs registry items filtered n
  over_input = over_accepted registry items filtered n (record { op = filter_op output; inputs = more t no_more; denotes = filter; accepted = (accepted, tt) })

  got : slice_get filtered n ≡ Some (Filter input predicate)
  got = rw (longer, at) (slice_get-seam plans (Filter input predicate) [])

  -- the schema that goes into it is that of the plan
  pub over_schema : (schema : Columns) → schema_of registry t ≡ Some schema → StaysOver registry items filtered n schema
  over_schema schema is other into s =
      let only = (filter_node registry items filtered n input predicate got over_input).only (FilterKind other) into s in
      one_schema registry filtered input.0 into schema only.3 (accepted_schema registry items filtered input.0 t schema below accepted is)
