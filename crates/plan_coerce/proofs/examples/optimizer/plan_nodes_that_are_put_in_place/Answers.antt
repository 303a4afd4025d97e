use Rattle.std.proofs.Common.{◌≡◌, true, false, [], ◌∷◌, Some, inl, inr, refl, sym, subst, ⊎_elim}
use Rattle.plan_types.specs.Schemas.{Columns, columns}
use Rattle.plan_types.specs.declared.schema.Schema.{Schema}
use Rattle.plan_dsl.specs.declared.operator.Operator.TheVariants.{Eq}
use Rattle.plan_dsl.specs.Plans.{FilterKind, named, filter_op, scan_op}
use Rattle.plan_dsl.specs.Samples.{keep, scan_of}
use Rattle.plan_dsl.specs.Trees.{no_more, more}
use Rattle.plan_arena.specs.declared.ir.IR.TheVariants.{DataFrameScan}
use Rattle.plan_arena.specs.Denotation.{Denotes}
use Rattle.plan_arena.specs.Items.{HoldsPlan}
use Rattle.plan_infer.specs.Samples.{two_columns, a, b, binary}
use Rattle.plan_coerce.specs.Rules.{IsPlanReplacement, IsSettledPlan, StandsOver, has_truth}
use Rattle.plan_coerce.specs.Samples.{equal_items, filter_by, scan_and}
use Rattle.plan_coerce.proofs.ExampleLemmas.{equal_denotes, filter_denotes, filter_kind, filter_over, filter_stands, no_filter, one_kind, over_scan, scan_accepted, scan_at, scan_denotes, scan_node, truth_settled}
use Rattle.plan_coerce.proofs.examples.optimizer.plan_nodes_that_are_put_in_place.Goals as goal

module _ (schema : Schema) (is : columns schema ≡ two_columns) where
  by_number : Denotes (HoldsPlan equal_items (scan_and schema (filter_by 0 0 ∷ []))) 1 (keep a (scan_of 0 two_columns))
  by_number = filter_denotes (scan_and schema (filter_by 0 0 ∷ [])) 1 0 0 (scan_of 0 two_columns) a refl refl ([], refl, tt) (scan_denotes schema (filter_by 0 0 ∷ []) is)

  by_truth : Denotes (HoldsPlan equal_items (scan_and schema (filter_by 0 2 ∷ []))) 1 (keep (binary Eq a b) (scan_of 0 two_columns))
  by_truth = filter_denotes (scan_and schema (filter_by 0 2 ∷ [])) 1 0 2 (scan_of 0 two_columns) (binary Eq a b) refl refl equal_denotes (scan_denotes schema (filter_by 0 2 ∷ []) is)

  two_scans : Denotes (HoldsPlan equal_items (scan_and schema (DataFrameScan (Some 0) schema ∷ []))) 1 (scan_of 0 two_columns)
  two_scans = scan_at (scan_and schema (DataFrameScan (Some 0) schema ∷ [])) 1 schema refl is

  no_filters : (predicate : _) (over : Columns) → StandsOver [] equal_items (scan_and schema (DataFrameScan (Some 0) schema ∷ [])) 1 (FilterKind predicate) over → ⊥
  no_filters predicate over s = no_filter predicate (one_kind (scan_and schema (DataFrameScan (Some 0) schema ∷ [])) 1 (scan_op (Some 0) two_columns) no_more two_scans (FilterKind predicate) over s)

  other_filter : IsPlanReplacement [] equal_items (scan_and schema (filter_by 0 0 ∷ [])) (scan_and schema (filter_by 0 2 ∷ [])) 1
  other_filter = record {
    over = record { op = filter_op (named (binary Eq a b)); inputs = more (scan_of 0 two_columns) no_more; is = over_scan (scan_and schema (filter_by 0 2 ∷ [])) 1 (binary Eq a b) by_truth };
    accepted = λ before. record { op = filter_op (named (binary Eq a b)); inputs = more (scan_of 0 two_columns) no_more; denotes = by_truth; accepted = scan_accepted };
    filter = λ predicate over s. (
      named a,
      subst (StandsOver [] equal_items (scan_and schema (filter_by 0 0 ∷ [])) 1 (FilterKind (named a))) (sym (filter_over (scan_and schema (filter_by 0 2 ∷ [])) 1 (binary Eq a b) by_truth (FilterKind predicate) over s))
          (filter_stands (scan_and schema (filter_by 0 0 ∷ [])) 1 a by_number),
    );
  }

  no_replacement : IsPlanReplacement [] equal_items (scan_and schema (DataFrameScan (Some 0) schema ∷ [])) (scan_and schema (filter_by 0 2 ∷ [])) 1 → ⊥
  no_replacement r =
      let before = r.filter (named (binary Eq a b)) two_columns (filter_stands (scan_and schema (filter_by 0 2 ∷ [])) 1 (binary Eq a b) by_truth) in
      no_filters before.0 two_columns before.1

  settled_now : IsSettledPlan has_truth [] equal_items (scan_and schema (filter_by 0 2 ∷ [])) 1
  settled_now kind over s =
      subst (λ k. has_truth [] over k ≡ true) (sym (filter_kind (scan_and schema (filter_by 0 2 ∷ [])) 1 (binary Eq a b) by_truth kind over s))
      (subst (λ o. has_truth [] o (FilterKind (named (binary Eq a b))) ≡ true) (sym (filter_over (scan_and schema (filter_by 0 2 ∷ [])) 1 (binary Eq a b) by_truth kind over s)) refl)

pub returns-clause-other_filter : goal.returns-clause-other_filter
returns-clause-other_filter c = other_filter

pub returns-clause-scan_for_a_filter : goal.returns-clause-scan_for_a_filter
returns-clause-scan_for_a_filter c = λ schema is. record {
  over = record { op = scan_op (Some 0) two_columns; inputs = no_more; is = scan_node (scan_and schema (DataFrameScan (Some 0) schema ∷ [])) 1 two_columns (two_scans schema is) };
  accepted = λ before. record { op = scan_op (Some 0) two_columns; inputs = no_more; denotes = two_scans schema is; accepted = tt };
  filter = λ predicate over s. absurd (no_filters schema is predicate over s);
}

pub returns-clause-filter_for_a_scan : goal.returns-clause-filter_for_a_scan
returns-clause-filter_for_a_scan c = no_replacement

pub returns-clause-turn : goal.returns-clause-turn
returns-clause-turn c = λ schema is. (settled_now schema is, inr (refl, other_filter schema is))

pub returns-clause-settled : goal.returns-clause-settled
returns-clause-settled c = λ schema is. (truth_settled schema is, inl refl)

other_items : (schema : Schema) → scan_and schema (filter_by 0 2 ∷ []) ≡ scan_and schema (DataFrameScan (Some 0) schema ∷ []) → ⊥
other_items schema e = cc

pub returns-clause-no_turn : goal.returns-clause-no_turn
returns-clause-no_turn c = λ schema is turn. ⊎_elim (λ p. other_items schema p) (λ p. no_replacement schema is p.1) turn.1

-- a filter by a number isn't settled
pub returns-clause-left : goal.returns-clause-left
returns-clause-left c = λ schema is turn.
    let truth : false ≡ true = turn.0 (FilterKind (named a)) two_columns (filter_stands (scan_and schema (filter_by 0 0 ∷ [])) 1 a (by_number schema is)) in
    cc
