use Rattle.std.proofs.Common.{[], ◌∷◌, Option, ℕ, List, Some, codes, refl}
use Rattle.plan_types.specs.Schemas.{Columns, columns}
use Rattle.plan_dsl.specs.Plans.{Named, scan_op, filter_op}
use Rattle.plan_dsl.specs.Names.{column_label}
use Rattle.plan_dsl.specs.Ops.{Expression}
use Rattle.plan_arena.specs.declared.aexpr.AExpr.{AExpr}
use Rattle.plan_arena.specs.Items.{DenoteNamed, DenotesOp, output_label}
use Rattle.plan_arena.proofs.examples.nodes.plans_of_items.Goals as goal

scan_denotes : (items : List AExpr) (table : Option ℕ) (schema : Columns) → DenotesOp items (scan_op table schema) (scan_op table schema)
scan_denotes items table schema = record { same_recorded = refl; kind = refl }

pub returns-clause-held_scan : goal.returns-clause-held_scan
returns-clause-held_scan c = λ schema. record { flat = scan_op (Some 0) (columns schema); item = refl; denotes = scan_denotes [] (Some 0) (columns schema) }

filter_denotes : (items : List AExpr) (n : Named ℕ) (e : Named Expression) → DenoteNamed items (n ∷ []) (e ∷ []) → DenotesOp items (filter_op n) (filter_op e)
filter_denotes items n e d = record { same_recorded = refl; kind = ((e ∷ []) ∷ [], refl, (d, tt)) }

pub returns-clause-held_filter : goal.returns-clause-held_filter
returns-clause-held_filter c = λ name. record {
  flat = filter_op (record { label = output_label name; expression = 0 });
  item = refl;
  denotes = filter_denotes _ _ _ (refl, ([], refl, tt), tt);
}

pub returns-clause-scan : goal.returns-clause-scan
returns-clause-scan c = λ schema.
    ([], record { flat = scan_op (Some 0) (columns schema); is = refl; denotes = scan_denotes [] (Some 0) (columns schema) }, tt)

pub returns-clause-filter : goal.returns-clause-filter
returns-clause-filter c = λ schema. (
  0 ∷ [],
  record {
    flat = filter_op (record { label = column_label (codes "a"); expression = 0 });
    is = refl;
    denotes = filter_denotes _ _ _ (refl, ([], refl, tt), tt);
  },
  (([], record { flat = scan_op (Some 0) (columns schema); item = refl; denotes = scan_denotes _ (Some 0) (columns schema) }, tt), tt),
)

pub returns-clause-top : goal.returns-clause-top
returns-clause-top c = λ schema.
    ([], record { flat = scan_op (Some 3) (columns schema); item = refl; denotes = scan_denotes [] (Some 3) (columns schema) }, tt)
