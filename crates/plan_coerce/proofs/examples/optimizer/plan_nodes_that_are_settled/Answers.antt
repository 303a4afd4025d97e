use Rattle.std.proofs.Common.{◌≡◌, [], ◌∷◌, true, false, Some, refl, sym, subst}
use Rattle.plan_dsl.specs.declared.operator.Operator.TheVariants.{Eq}
use Rattle.plan_dsl.specs.Plans.{FilterKind, named, scan_op}
use Rattle.plan_dsl.specs.Trees.{no_more}
use Rattle.plan_infer.specs.Samples.{two_columns, a, b, binary}
use Rattle.plan_coerce.specs.Rules.{has_truth}
use Rattle.plan_coerce.specs.Samples.{filter_by, filters}
use Rattle.plan_coerce.proofs.ExampleLemmas.{filter_over, filter_stands, no_filter, number_filter, one_kind, scan_denotes, truth_filter, truth_settled}
use Rattle.plan_coerce.proofs.examples.optimizer.plan_nodes_that_are_settled.Goals as goal

pub returns-clause-into_the_filter : goal.returns-clause-into_the_filter
returns-clause-into_the_filter c = λ schema is predicate into s. filter_over (filters schema) 1 (binary Eq a b) (truth_filter schema is) (FilterKind predicate) into s

some_columns : two_columns ≡ [] → ⊥
some_columns e = cc

pub returns-clause-other_schema : goal.returns-clause-other_schema
returns-clause-other_schema c = λ schema is stays.
    some_columns (stays (named (binary Eq a b)) two_columns (filter_stands (filters schema) 1 (binary Eq a b) (truth_filter schema is)))

pub returns-clause-any_schema : goal.returns-clause-any_schema
returns-clause-any_schema c = λ schema is predicate into s.
    absurd (no_filter predicate (one_kind (filters schema) 0 (scan_op (Some 0) two_columns) no_more (scan_denotes schema (filter_by 0 2 ∷ filter_by 0 0 ∷ filter_by 2 2 ∷ []) is) (FilterKind predicate) into s))

pub returns-clause-truth : goal.returns-clause-truth
returns-clause-truth c = truth_settled

pub returns-clause-scan : goal.returns-clause-scan
returns-clause-scan c = λ schema is kind over s.
    subst (λ k. has_truth [] over k ≡ true) (sym (one_kind (filters schema) 0 (scan_op (Some 0) two_columns) no_more (scan_denotes schema (filter_by 0 2 ∷ filter_by 0 0 ∷ filter_by 2 2 ∷ []) is) kind over s)) refl

pub returns-clause-number : goal.returns-clause-number
returns-clause-number c = λ schema is settled.
    let truth : false ≡ true = settled (FilterKind (named a)) two_columns (filter_stands (filters schema) 2 a (number_filter schema is)) in
    cc
