use Rattle.std.proofs.Common.{◌≡◌, List, [], ◌∷◌, codes, true, None, Ok, refl}
use Rattle.plan_types.specs.Types.{Truth}
use Rattle.plan_types.specs.Schemas.{Name, Columns}
use Rattle.plan_types.specs.declared.error.ErrorKind.{ErrorKind}
use Rattle.plan_types.specs.declared.error.ErrorKind.TheVariants.{ComputeError, Duplicate}
use Rattle.plan_dsl.specs.Trees.{node, no_more}
use Rattle.plan_dsl.specs.Ops.{ColumnOp, Expression}
use Rattle.plan_dsl.specs.Plans.{scan_op}
use Rattle.plan_dsl.specs.Expansion.{expansions}
use Rattle.plan_dsl.specs.Samples.{all}
use Rattle.plan_dsl.specs.Sources.{Source, written}
use Rattle.plan_infer.specs.Samples.{a, a_items}
use Rattle.plan_bounds.proofs.BoundLemmas.{scan_bounded}
use Rattle.plan_lower.specs.Outputs.{Lowered, IsLowered, HasExpandedOutputs}
use Rattle.plan_lower.specs.Samples.{node_named}
use Rattle.plan_lower.proofs.ExamplePlanLemmas.{item_at, scan_denotes, built}
use Rattle.plan_lower.proofs.PlanLemmas.{hstack_work, select_work}
use Rattle.plan_lower.proofs.examples.plans.nodes_that_stand_for_plans.Goals as goal

pub returns-clause-built : goal.returns-clause-built
returns-clause-built c = built

abbrev truths : Name → Columns
truths name = (name, Truth) ∷ []

abbrev output : Name → Lowered
output name = let column : Expression = node (ColumnOp name) no_more in record { tree = column; typed = record { type = Truth; many = true }; after = column }

keep_lowered : IsLowered [] (truths (codes "keep")) (output (codes "keep"))
keep_lowered = record { typed = refl; same = record { typing = refl; name = refl; meaning = λ rows. refl }; strict = refl; casts = refl; names = (tt, tt); wide = refl }

a_lowered : IsLowered [] (truths (codes "a")) (output (codes "a"))
a_lowered = record { typed = refl; same = record { typing = refl; name = refl; meaning = λ rows. refl }; strict = refl; casts = refl; names = (tt, tt); wide = refl }

a_expanded : (twice : ErrorKind) (sources : List Source) → expansions [] (truths (codes "a")) sources ≡ Ok (a ∷ []) → HasExpandedOutputs [] (truths (codes "a")) twice a_items sources (node_named (codes "a") 0 ∷ []) (truths (codes "a"))
a_expanded twice sources expanded = record {
  trees = a ∷ [];
  expanded = expanded;
  lowered = record {
    outputs = output (codes "a") ∷ [];
    trees_are = refl;
    each = (a_lowered, tt);
    types = refl;
    distinct = (refl, tt);
    denotes = (refl, ([], refl, tt), tt);
    columns_are = refl;
  };
}

pub returns-clause-filter : goal.returns-clause-filter
returns-clause-filter c = λ plans is. record {
  predicate = node_named (codes "keep") 0;
  has = record {
    tree = (output (codes "keep")).tree;
    expanded = refl;
    lowered = record { output = output (codes "keep"); filters = record { tree_is = refl; is = keep_lowered; truth = refl }; denotes = (refl, ([], refl, tt), tt) };
  };
  parts = node_named (codes "keep") 0 ∷ [];
  denote = (refl, ([], refl, tt), tt);
  filters = (0, item_at plans _ 1 _ is refl, refl);
}

pub returns-clause-filters : goal.returns-clause-filters
returns-clause-filters c = λ plans is. (1, item_at plans _ 2 _ is refl, (0, item_at plans _ 1 _ is refl, refl))

pub returns-clause-select : goal.returns-clause-select
returns-clause-select c = λ plans is.
    select_work [] a_items plans 1 0 (truths (codes "a")) (truths (codes "a")) (all ∷ []) (node_named (codes "a") 0 ∷ []) 0 (a_expanded Duplicate (all ∷ []) refl) (λ e. absurd cc) (λ p. refl) (item_at plans _ 1 _ is refl)

pub returns-clause-hstack : goal.returns-clause-hstack
returns-clause-hstack c = λ plans is.
    hstack_work [] a_items plans 1 0 (truths (codes "a")) (truths (codes "a")) (written a ∷ []) (node_named (codes "a") 0 ∷ []) (truths (codes "a")) (a_expanded ComputeError (written a ∷ []) refl) refl (item_at plans _ 1 _ is refl)

pub returns-clause-scan : goal.returns-clause-scan
returns-clause-scan c = λ plans is. record {
  lowered = node (scan_op None []) no_more;
  denotes = scan_denotes [] plans 0 None [] (item_at plans _ 0 _ is refl);
  built = record { well_formed = (refl, tt); source_schema = refl; lowered_schema = refl; accepted = (refl, tt); strict = (tt, tt); names = (tt, tt); wide = (tt, tt); split = (tt, tt); fits = λ tables fits. fits; same = λ tables fits. refl; bounds = scan_bounded [] None [] };
}
