-- The nodes of a filter over a scan whose casts were relaxed, and which was split.
use Rattle.std.proofs.Common.{◌≡◌, ℕ, List, [], ◌∷◌, map, Option, Some, slice_get, sym, subst}
use Rattle.plan_types.specs.Schemas.{Columns, columns}
use Rattle.plan_types.specs.declared.schema.Schema.{Schema}
use Rattle.plan_dsl.specs.Ops.{Expression}
use Rattle.plan_dsl.specs.Plans.{Named}
use Rattle.plan_dsl.specs.Registry.{Registry}
use Rattle.plan_arena.specs.Denotation.{Denotes, DenotesTree}
use Rattle.plan_arena.specs.Items.{DenoteNamed, Grows, HoldsExpression, HoldsPlan, named_node}
use Rattle.plan_arena.specs.declared.aexpr.AExpr.{AExpr}
use Rattle.plan_arena.specs.declared.arena.Node.{Node}
use Rattle.plan_arena.specs.declared.expr_ir.ExprIR.{ExprIR}
use Rattle.plan_arena.specs.declared.ir.IR.{IR}
use Rattle.plan_arena.specs.declared.ir.IR.TheVariants.{DataFrameScan, Filter}
use Rattle.plan_arena.proofs.ItemLemmas.{plan_got, plan_stays}
use Rattle.plan_lower.specs.Lowering.{AreFilters}
use Rattle.plan_lower.proofs.ExamplePlanLemmas.{scan_denotes}
use Rattle.plan_lower.proofs.FilterLemmas.{filters_denoted}
use Rattle.plan_properties.specs.Splitting.{split_predicate}
use Rattle.own_rule.specs.HarmlessCasts.{relaxed}
use Rattle.planner.specs.Planning.{filtered_scan, scan, split_scan, with_relaxed}
use Rattle.planner.proofs.ArenaLemmas.{filtered_is, same_filter}

-- What was done to the filter at a node: its predicate was relaxed, and the parts of that are the predicates of filters over
-- the same scan.
pub record IsSplit (registry : Registry) (old new : List AExpr) (plans grown : List IR) (n m : ℕ) (table : Option ℕ) (schema : Schema) : Type 0 where
  pub input : Node
  pub predicate : ExprIR
  pub parts : List ExprIR
  pub got : slice_get plans n ≡ Some (Filter input predicate)
  pub below : slice_get plans input.0 ≡ Some (DataFrameScan table schema)
  pub relaxes : (t : Expression) → Denotes (HoldsExpression old) (named_node predicate).expression t → Denotes (HoldsExpression new) (named_node predicate).expression (relaxed registry (columns schema) t)
  pub splits : (whole : Named Expression) → DenoteNamed new (named_node predicate ∷ []) (whole ∷ []) → DenoteNamed new (map named_node parts) (split_predicate whole)
  pub filters : AreFilters grown m (map named_node parts) input.0
  pub grows : Grows plans grown

-- so it was, of a copy of the predicate
pub was_split : (registry : Registry) (old new : List AExpr) (plans grown : List IR) (n m : ℕ) (table : Option ℕ) (schema : Schema) (input : Node) (predicate copy : ExprIR) (at : ℕ) (parts : List ExprIR) → slice_get plans n ≡ Some (Filter input predicate) → slice_get plans input.0 ≡ Some (DataFrameScan table schema) → at ≡ (named_node predicate).expression → copy ≡ predicate → ((t : Expression) → Denotes (HoldsExpression old) at t → Denotes (HoldsExpression new) at (relaxed registry (columns schema) t)) → ((whole : Named Expression) → DenoteNamed new (named_node copy ∷ []) (whole ∷ []) → DenoteNamed new (map named_node parts) (split_predicate whole)) → AreFilters grown m (map named_node parts) input.0 → Grows plans grown → IsSplit registry old new plans grown n m table schema
was_split registry old new plans grown n m table schema input predicate copy at parts got below there copied relaxes splits filters grows = record {
  input = input;
  predicate = predicate;
  parts = parts;
  got = got;
  below = below;
  relaxes = subst (λ k. (t : Expression) → Denotes (HoldsExpression old) k t → Denotes (HoldsExpression new) k (relaxed registry (columns schema) t)) there relaxes;
  splits = subst (λ (e : ExprIR). (whole : Named Expression) → DenoteNamed new (named_node e ∷ []) (whole ∷ []) → DenoteNamed new (map named_node parts) (split_predicate whole)) copied splits;
  filters = filters;
  grows = grows;
}

module _ {registry : Registry} {old new : List AExpr} {plans grown : List IR} {n m : ℕ} {table : Option ℕ} {schema : Schema} (s : IsSplit registry old new plans grown n m table schema) where
  scan_there : Denotes (HoldsPlan new grown) s.input.0 (scan table (columns schema))
  scan_there =
      scan_denotes new grown s.input.0 table (columns schema) (plan_stays plans grown s.grows s.input.0 _ (plan_got plans s.input.0 (DataFrameScan table schema) s.below))

  made : (q : Named Expression) → DenoteNamed old (named_node s.predicate ∷ []) (q ∷ []) → Denotes (HoldsPlan new grown) m (split_scan registry q table (columns schema))
  made q d =
      filters_denoted new grown (map named_node s.parts) (split_predicate (with_relaxed registry (columns schema) q)) m s.input.0 (scan table (columns schema)) s.filters (s.splits (with_relaxed registry (columns schema) q) (d.0, s.relaxes q.expression d.1, tt)) scan_there

  -- the new top denotes filters of the scan by the parts
  pub split_denoted : (p : Named Expression) (t : Option ℕ) (own : Columns) → Denotes (HoldsPlan old plans) n (filtered_scan p t own) → Denotes (HoldsPlan new grown) m (split_scan registry p t own)
  split_denoted p t own d =
      let f = filtered_is old plans n s.input s.predicate table schema s.got s.below (filtered_scan p t own) d in
      let same = same_filter p f.0 t table own (columns schema) f.1 in
      subst (λ x. Denotes (HoldsPlan new grown) m (split_scan registry x t own)) (sym same.predicates)
      (subst (λ x. Denotes (HoldsPlan new grown) m (split_scan registry f.0 x own)) (sym same.tables)
      (subst (λ x. Denotes (HoldsPlan new grown) m (split_scan registry f.0 table x)) (sym same.schemas) (made f.0 f.2)))

  -- the old top denoted one
  pub was_filtered : DenotesTree (HoldsPlan old plans) n → (p : Named Expression) × Denotes (HoldsPlan old plans) n (filtered_scan p table (columns schema))
  was_filtered d =
      let f = filtered_is old plans n s.input s.predicate table schema s.got s.below d.tree d.denotes in
      (f.0, subst (Denotes (HoldsPlan old plans) n) f.1 d.denotes)

  pub split_tree : DenotesTree (HoldsPlan old plans) n → DenotesTree (HoldsPlan new grown) m
  split_tree d =
      let f = was_filtered d in
      record { tree = split_scan registry f.0 table (columns schema); denotes = split_denoted f.0 table (columns schema) f.1 }
