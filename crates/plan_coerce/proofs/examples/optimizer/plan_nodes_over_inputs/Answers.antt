use Rattle.std.proofs.Common.{◌≡◌, [], ◌∷◌, true, false, codes, Some, refl, ap, arith}
use Rattle.plan_dsl.specs.declared.operator.Operator.TheVariants.{Eq}
use Rattle.plan_dsl.specs.Ops.{Expression}
use Rattle.plan_dsl.specs.Plans.{Named, FilterKind, named, filter_op, scan_op}
use Rattle.plan_dsl.specs.Samples.{keep, scan_of}
use Rattle.plan_dsl.specs.Trees.{node, no_more, more}
use Rattle.plan_arena.specs.declared.expr_ir.OutputName.TheVariants.{ColumnLhs}
use Rattle.plan_arena.proofs.ItemLemmas.{plan_within}
use Rattle.plan_infer.specs.Samples.{two_columns, a, b, at, binary}
use Rattle.plan_coerce.specs.Samples.{equal_items, filter_by, filters}
use Rattle.plan_coerce.proofs.ExampleLemmas.{filter_of_filter, filter_stands, first_recorded, inputs_accepted, keep_node, keep_stands, no_filter, number_filter, one_kind, over_scan, scan_accepted, scan_denotes, scan_node, scan_refused, scan_stands, truth_filter}
use Rattle.plan_coerce.proofs.PlanNodeLemmas.{filter_node, over_accepted}
use Rattle.plan_coerce.proofs.examples.optimizer.plan_nodes_over_inputs.Goals as goal

pub returns-clause-scan : goal.returns-clause-scan
returns-clause-scan c = λ schema is. scan_node (filters schema) 0 two_columns (scan_denotes schema (filter_by 0 2 ∷ filter_by 0 0 ∷ filter_by 2 2 ∷ []) is)

pub returns-clause-filter : goal.returns-clause-filter
returns-clause-filter c = λ schema is. over_scan (filters schema) 1 (binary Eq a b) (truth_filter schema is)

predicate_same : (p q : Named Expression) → FilterKind p ≡ FilterKind q → p ≡ q
predicate_same p q e = cc

-- an operator has two operands, and a column none
no_operands : a ≡ binary Eq a b → ⊥
no_operands e = cc

pub returns-clause-other_predicate : goal.returns-clause-other_predicate
returns-clause-other_predicate c = λ schema is n.
    let kinds = one_kind (filters schema) 1 (filter_op (named (binary Eq a b))) (more (scan_of 0 two_columns) no_more) (truth_filter schema is) (FilterKind (named a)) two_columns (filter_stands (filters schema) 1 a n.denotes) in
    no_operands (ap (λ (p : Named Expression). p.expression) (predicate_same (named a) (named (binary Eq a b)) kinds))

pub returns-clause-accepted_input : goal.returns-clause-accepted_input
returns-clause-accepted_input c = λ schema is.
    record { op = filter_op (named a); inputs = more (scan_of 0 two_columns) no_more; denotes = number_filter schema is; accepted = scan_accepted }

pub returns-clause-refused_input : goal.returns-clause-refused_input
returns-clause-refused_input c = λ schema is h.
    let has : false ≡ true = (inputs_accepted (filters schema) 3 (filter_op (named (binary Eq a b))) (more (keep a (scan_of 0 two_columns)) no_more) (filter_of_filter schema is) h).0.0 in
    cc

pub returns-clause-unchecked_input : goal.returns-clause-unchecked_input
returns-clause-unchecked_input c = λ schema is. record {
  op = filter_op (named (binary Eq a b));
  inputs = more (keep a (scan_of 0 two_columns)) no_more;
  is = keep_node (filters schema) 3 (binary Eq a b) (keep a (scan_of 0 two_columns)) two_columns (refl, ((refl, tt), tt)) refl (filter_of_filter schema is);
}

pub returns-clause-over_a_filter : goal.returns-clause-over_a_filter
returns-clause-over_a_filter c = λ schema is. keep_stands (filters schema) 3 (binary Eq a b) (keep a (scan_of 0 two_columns)) two_columns (refl, ((refl, tt), tt)) refl (filter_of_filter schema is)

pub returns-clause-other_rule : goal.returns-clause-other_rule
returns-clause-other_rule c = λ schema is h.
    let f = filter_node [] equal_items (filters schema) 2 (at 0) (record { node = at 0; output_name = ColumnLhs (codes "a") }) refl h in
    scan_refused (filters schema) 0 schema refl is f.below f.has

pub returns-clause-accepted : goal.returns-clause-accepted
returns-clause-accepted c = over_accepted

pub returns-clause-no_such_node : goal.returns-clause-no_such_node
returns-clause-no_such_node c = λ schema h. omega (arith, plan_within equal_items (filters schema) 4 (record { tree = node h.op h.inputs; denotes = h.is.denotes }))

pub returns-clause-over_the_scan : goal.returns-clause-over_the_scan
returns-clause-over_the_scan c = λ schema is. filter_stands (filters schema) 2 a (number_filter schema is)

pub returns-clause-over_nothing : goal.returns-clause-over_nothing
returns-clause-over_nothing c = λ schema is. scan_stands (filters schema) 0 two_columns (scan_denotes schema (filter_by 0 2 ∷ filter_by 0 0 ∷ filter_by 2 2 ∷ []) is)

pub returns-clause-other_kind : goal.returns-clause-other_kind
returns-clause-other_kind c = λ schema is s.
    no_filter (named a) (one_kind (filters schema) 0 (scan_op (Some 0) two_columns) no_more (scan_denotes schema (filter_by 0 2 ∷ filter_by 0 0 ∷ filter_by 2 2 ∷ []) is) (FilterKind (named a)) two_columns s)

some_columns : Some two_columns ≡ Some [] → ⊥
some_columns e = cc

pub returns-clause-other_schema : goal.returns-clause-other_schema
returns-clause-other_schema c = λ schema is s.
    some_columns (first_recorded (filters schema) 2 (filter_op (named a)) (more (scan_of 0 two_columns) no_more) (number_filter schema is) (FilterKind (named a)) [] s (scan_of 0 two_columns) refl)
