use Rattle.std.proofs.Common.{◌<◌, [], ◌∷◌, Some, refl, arith}
use Rattle.plan_types.specs.Schemas.{columns}
use Rattle.plan_dsl.specs.Plans.{filter_op, scan_op}
use Rattle.plan_dsl.specs.Trees.{node, no_more}
use Rattle.plan_arena.specs.declared.ir.IR.{IR}
use Rattle.plan_arena.specs.declared.ir.IR.TheVariants.{DataFrameScan, Filter}
use Rattle.plan_arena.specs.Items.{named_node}
use Rattle.plan_arena.specs.Samples.{node_at}
use Rattle.plan_arena.proofs.ItemLemmas.{only_input_less_deep, plan_within}
use Rattle.plan_arena.proofs.examples.nodes.inputs_of_items.Goals as goal

pub returns-clause-scan : goal.returns-clause-scan
returns-clause-scan c = λ schema. record { valid = λ e. cc; expressions = []; each = tt }

pub returns-clause-taken_out : goal.returns-clause-taken_out
returns-clause-taken_out c = λ h. h.valid refl

pub returns-clause-filter : goal.returns-clause-filter
returns-clause-filter c = λ schema predicate. record {
  valid = λ e. cc;
  expressions = [];
  each = (
    record {
      tree = node (scan_op (Some 0) (columns schema)) no_more;
      denotes = ([], record { flat = scan_op (Some 0) (columns schema); item = refl; denotes = record { same_recorded = refl; kind = refl } }, tt);
    },
    tt,
  );
}

pub returns-clause-no_such_input : goal.returns-clause-no_such_input
returns-clause-no_such_input c = λ schema predicate h.
    let within : 1 < 1 = plan_within h.expressions (DataFrameScan (Some 0) schema ∷ []) 1 h.each.0 in
    absurd (omega (arith, within))

pub returns-clause-itself_as_its_input : goal.returns-clause-itself_as_its_input
returns-clause-itself_as_its_input c = λ predicate h.
    let item : IR = Filter (node_at 0) predicate in
    let less = only_input_less_deep (item ∷ []) item (filter_op (named_node predicate)) 0 refl h item refl in
    absurd (omega (arith, less))
