use Rattle.std.proofs.Common.{◌≡◌, ℕ, [], ◌∷◌, map, codes, Some, slice_get, refl, sym, ap, ◌∙◌, subst, arith}
use Rattle.plan_types.specs.Schemas.{columns}
use Rattle.plan_types.specs.declared.schema.Schema.{Schema}
use Rattle.plan_dsl.specs.Plans.{Named, Plan, PlanOp, filter_op, named, scan_op}
use Rattle.plan_dsl.specs.Samples.{a, keep, scan, schema_ab}
use Rattle.plan_dsl.specs.Trees.{node}
use Rattle.plan_arena.specs.declared.aexpr.AExpr.TheVariants.{Column}
use Rattle.plan_arena.specs.declared.ir.IR.TheVariants.{DataFrameScan, Filter}
use Rattle.plan_arena.specs.Denotation.{Denotes}
use Rattle.plan_arena.specs.Items.{DenotesKind, HoldsPlan, plan_layer}
use Rattle.plan_arena.specs.Layers.{layer}
use Rattle.plan_arena.specs.Samples.{a_at, filtered_scan, named_at, node_at}
use Rattle.plan_arena.specs.Unchecked.{HasUncheckedSchema, IsUncheckedAt}
use Rattle.plan_arena.proofs.DenotationLemmas.{some_same}
use Rattle.plan_arena.proofs.ItemLemmas.{filter_denoted, layer_op, within}
use Rattle.plan_arena.proofs.PlanSchemaLemmas.{keeps_alone, keeps_none, unchecked_at_item}
use Rattle.plan_arena.proofs.RecordedSchemaLemmas.{item_records, kept_records}
use Rattle.plan_arena.proofs.UncheckedLemmas.{one_schema, some_one}
use Rattle.plan_arena.proofs.examples.schemas.nodes_with_unchecked_predicates.Goals as goal

has_schema : (schema : Schema) → columns schema ≡ schema_ab → HasUncheckedSchema [] (filtered_scan schema) 1 schema_ab
has_schema schema is = record {
  expressions = Column (codes "a") ∷ [];
  plan = keep a (scan schema_ab);
  denotes = (
    0 ∷ [],
    record { flat = filter_op (named_at "a" 0); item = refl; denotes = record { same_recorded = refl; kind = ((named a ∷ []) ∷ [], refl, ((refl, ([], refl, tt), tt), tt)) } },
    (([], record { flat = scan_op (Some 0) schema_ab; item = ap (λ s. Some (layer (scan_op (Some 0) s) [])) is; denotes = record { same_recorded = refl; kind = refl } }, tt), tt),
  );
  keeps = (refl, ((refl, tt), tt));
  is = refl;
}

no_columns : schema_ab ≡ [] → ⊥
no_columns e = cc

is_schema : (schema : Schema) → IsUncheckedAt (filtered_scan schema) 1 (columns schema)
is_schema schema =
    let records = item_records (filtered_scan schema) (DataFrameScan (Some 0) schema) (columns schema) refl in
    let item = Filter (node_at 0) (a_at 0) in
    unchecked_at_item (filtered_scan schema) 1 item (columns schema) refl (kept_records (filtered_scan schema) item (DataFrameScan (Some 0) schema) (filter_op (named_at "a" 0)) 0 (columns schema) refl refl refl records)

none_without : (schema : Schema) (t : Plan) → Denotes (HoldsPlan [] (filtered_scan schema)) 1 t → ⊥
none_without schema (node op ts) d =
    let same = some_same (slice_get (map plan_layer (filtered_scan schema)) 1) (layer (filter_op (named_at "a" 0)) (0 ∷ [])) (layer d.1.flat d.0) refl d.1.item in
    let kind = filter_denoted [] (named_at "a" 0) op.kind (subst (λ (f : PlanOp (Named ℕ)). DenotesKind [] f.kind op.kind) (sym (layer_op (filter_op (named_at "a" 0)) d.1.flat (0 ∷ []) d.0 same)) d.1.denotes.kind) in
    omega (arith, within [] 0 kind.0.expression kind.2.1)

pub returns-clause-has : goal.returns-clause-has
returns-clause-has c = has_schema

pub returns-clause-has_no_other : goal.returns-clause-has_no_other
returns-clause-has_no_other c = λ schema is h. no_columns (one_schema [] (filtered_scan schema) 1 schema_ab [] (has_schema schema is) h)

pub returns-clause-without_expressions : goal.returns-clause-without_expressions
returns-clause-without_expressions c = λ schema d. none_without schema d.tree d.denotes

pub returns-clause-is : goal.returns-clause-is
returns-clause-is c = is_schema

pub returns-clause-is_no_other : goal.returns-clause-is_no_other
returns-clause-is_no_other c = λ schema is other.
    let h = has_schema schema is in
    no_columns (some_one schema_ab [] (sym h.is ∙ other h.expressions [] h.plan h.denotes h.keeps))

pub returns-clause-into : goal.returns-clause-into
returns-clause-into c = has_schema

pub returns-clause-empty : goal.returns-clause-empty
returns-clause-empty c = λ plans cache entries. keeps_none (IsUncheckedAt plans) cache entries

pub returns-clause-of_the_filter : goal.returns-clause-of_the_filter
returns-clause-of_the_filter c = λ schema cache entries. keeps_alone (IsUncheckedAt (filtered_scan schema)) cache (node_at 1) schema entries (is_schema schema)
