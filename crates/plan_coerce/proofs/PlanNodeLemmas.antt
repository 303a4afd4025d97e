-- Nodes of plans that a rule is asked for: what stands over what, and a filter's predicate.
use Rattle.std.proofs.Common.{◌≡◌, ℕ, ◌<◌, true, false, cond, List, [], ◌∷◌, length, map, Some, Result, Ok, Err, slice_get, refl, sym, ap, ◌∙◌, subst}
use Rattle.std.specs.List.{AllByRecursion}
use Rattle.plan_types.specs.declared.error.PlanError.{PlanError}
use Rattle.plan_types.specs.declared.error.ErrorKind.{ErrorKind}
use Rattle.plan_types.specs.declared.error.ErrorKind.TheVariants.{InvalidOperation}
use Rattle.plan_types.specs.Errors.{IsRefusal, no_room, broken, no_memory, at_top}
use Rattle.plan_types.specs.Types.{is_truth}
use Rattle.plan_types.specs.Schemas.{Columns}
use Rattle.plan_dsl.specs.Registry.{Registry}
use Rattle.plan_dsl.specs.Ops.{Expression}
use Rattle.plan_dsl.specs.Plans.{Named, Plan, PlanKind, PlanOp, FilterKind, filter_op}
use Rattle.plan_dsl.specs.Trees.{Trees, node}
use Rattle.plan_dsl.specs.Typing.{Typed, typing}
use Rattle.plan_arena.specs.declared.arena.Node.{Node}
use Rattle.plan_arena.specs.declared.aexpr.AExpr.{AExpr}
use Rattle.plan_arena.specs.declared.ir.IR.{IR}
use Rattle.plan_arena.specs.declared.ir.IR.TheVariants.{Filter}
use Rattle.plan_arena.specs.declared.expr_ir.ExprIR.{ExprIR}
use Rattle.plan_arena.specs.Denotation.{Denotes, DenotesTree}
use Rattle.plan_arena.specs.Layers.{layer, shape_of}
use Rattle.plan_arena.specs.Items.{DenotesItem, DenotesKind, HasInputs, HoldsExpression, HoldsPlan, expression_layer, named_node, plan_layer}
use Rattle.plan_arena.specs.RecordedSchemas.{schema_recorded}
use Rattle.plan_arena.proofs.DenotationLemmas.{denotes_one, some_same}
use Rattle.plan_arena.proofs.ItemLemmas.{DenotesFilter, expression_laws, filter_denoted, item_denotes, item_inputs, layer_inputs, layer_op, plan_got, plan_within}
use Rattle.plan_infer.specs.declared.type_table.TypeTable.{TypeTable}
use Rattle.plan_infer.specs.KeptTypes.{IsRight}
use Rattle.plan_coerce.specs.Rules.{HasAcceptedInputs, HasUncheckedInputs, RefusesPredicate, StandsOver, has_truth, is_ok_typed, truth_of}
use Rattle.plan_arena.specs.Unchecked.{GoesInto, HasUncheckedSchema}
use Rattle.plan_arena.proofs.UncheckedLemmas.{all_accepted_schemas, schema_recorded_is, some_one}

-- a filter's node: its input, its predicate, and the schema that goes into it
pub record IsFilter (registry : Registry) (expressions : List AExpr) (plans : List IR) (n : ℕ) (input : Node) (predicate : ExprIR) : Type 0 where
  pub tree : Expression
  pub denotes : Denotes (HoldsExpression expressions) predicate.node.0 tree
  pub below : Columns
  pub has : HasUncheckedSchema registry plans input.0 below
  pub stands : (schema : Columns) → HasUncheckedSchema registry plans input.0 schema → (named : Named Expression) × (named.expression ≡ tree) × StandsOver registry expressions plans n (FilterKind named) schema
  pub only : (kind : PlanKind (Named Expression)) (schema : Columns) → StandsOver registry expressions plans n kind schema → (named : Named Expression) × (kind ≡ FilterKind named) × (named.expression ≡ tree) × HasUncheckedSchema registry plans input.0 schema

module _ (registry : Registry) (expressions : List AExpr) (plans : List IR) (n : ℕ) where
  -- accepted inputs are such
  pub over_accepted : HasAcceptedInputs registry expressions plans n → HasUncheckedInputs registry expressions plans n
  over_accepted h =
      let d = h.denotes in
      record { op = h.op; inputs = h.inputs; is = record { denotes = d; each = all_accepted_schemas registry expressions plans d.0 h.inputs d.2 h.accepted } }

  plan_tree : HasUncheckedInputs registry expressions plans n → DenotesTree (HoldsPlan expressions plans) n
  plan_tree h = record { tree = node h.op h.inputs; denotes = h.is.denotes }

  module _ (input : Node) (predicate : ExprIR) (got : slice_get plans n ≡ Some (Filter input predicate)) where
    filter_kind : (op : PlanOp (Named Expression)) (ts : Trees (PlanOp (Named Expression))) (d : Denotes (HoldsPlan expressions plans) n (node op ts)) → DenotesFilter expressions (named_node predicate) op.kind × (d.0 ≡ input.0 ∷ [])
    filter_kind op ts d =
        let there = some_same (slice_get (map plan_layer plans) n) (layer d.1.flat d.0) (layer (filter_op (named_node predicate)) (input.0 ∷ [])) d.1.item (plan_got plans n (Filter input predicate) got) in
        let flat = layer_op d.1.flat (filter_op (named_node predicate)) d.0 (input.0 ∷ []) there in
        (filter_denoted expressions (named_node predicate) op.kind (subst (λ (f : PlanOp (Named _)). DenotesKind expressions f.kind op.kind) flat d.1.denotes.kind), layer_inputs d.1.flat (filter_op (named_node predicate)) d.0 (input.0 ∷ []) there)

    -- its predicate has one tree
    one_predicate : (p q : PlanKind (Named Expression)) (x : DenotesFilter expressions (named_node predicate) p) (y : DenotesFilter expressions (named_node predicate) q) → x.0.expression ≡ y.0.expression
    one_predicate p q x y = denotes_one (shape_of (map expression_layer expressions)) (HoldsExpression expressions) (expression_laws expressions) predicate.node.0 x.0.expression y.0.expression x.2.1 y.2.1

    pub filter_node : HasUncheckedInputs registry expressions plans n → IsFilter registry expressions plans n input predicate
    filter_node h =
        let kind = filter_kind h.op h.inputs h.is.denotes in
        let one = subst (AllByRecursion (λ m. (schema : Columns) × HasUncheckedSchema registry plans m schema)) kind.1 h.is.each in
        record {
          tree = kind.0.0.expression;
          denotes = kind.0.2.1;
          below = one.0.0;
          has = one.0.1;
          stands = λ schema has. (
            kind.0.0,
            refl,
            record {
              op = h.op;
              inputs = h.inputs;
              is = h.is;
              of_kind = kind.0.1;
              into = subst (λ ns. GoesInto registry plans (FilterKind kind.0.0) ns schema) (sym kind.1) has;
            },
          );
          only = λ k schema s.
              let other = filter_kind s.op s.inputs s.is.denotes in (
                other.0.0,
                sym s.of_kind ∙ other.0.1,
                one_predicate s.op.kind h.op.kind other.0 kind.0,
                subst (λ ns. GoesInto registry plans k ns schema) other.1 s.into,
              );
        }

    pub input_within : HasUncheckedInputs registry expressions plans n → input.0 < length plans
    input_within h = let f = filter_node h in plan_within f.has.expressions plans input.0 (record { tree = f.has.plan; denotes = f.has.denotes })

    pub input_has : (item : IR) → slice_get plans input.0 ≡ Some item → HasUncheckedInputs registry expressions plans n → HasInputs plans item
    input_has item there h = let f = filter_node h in item_inputs f.has.expressions plans input.0 item there (record { tree = f.has.plan; denotes = f.has.denotes })

    pub predicate_tree : HasUncheckedInputs registry expressions plans n → DenotesTree (HoldsExpression expressions) predicate.node.0
    predicate_tree h = let f = filter_node h in record { tree = f.tree; denotes = f.denotes }

    module _ (h : HasUncheckedInputs registry expressions plans n) (item : IR) (there : slice_get plans input.0 ≡ Some item) (schema : Columns) (recorded : (es : List AExpr) (plan : Plan) → DenotesItem es plans item plan → schema_recorded plan ≡ Some schema) where
      -- the schema that its input records goes into it, and no other
      is_into : (other : Columns) → HasUncheckedSchema registry plans input.0 other → other ≡ schema
      is_into other has =
          some_one other schema (sym (schema_recorded_is registry plans input.0 other has has.expressions has.plan has.denotes)
          ∙ recorded has.expressions has.plan (item_denotes has.expressions plans input.0 item there has.plan has.denotes))

      goes_into : HasUncheckedSchema registry plans input.0 schema
      goes_into = let f = filter_node h in subst (HasUncheckedSchema registry plans input.0) (is_into f.below f.has) f.has

      pub right_over_filter : (table : TypeTable) → ((named : Named Expression) (s : Columns) → StandsOver registry expressions plans n (FilterKind named) s → IsRight registry s expressions table) → IsRight registry schema expressions table
      right_over_filter table right = let s = (filter_node h).stands schema goes_into in right s.0 schema s.2

      pub schema_is : (other : Columns) → ((named : Named Expression) (s : Columns) → StandsOver registry expressions plans n (FilterKind named) s → s ≡ other) → schema ≡ other
      schema_is other same = let s = (filter_node h).stands schema goes_into in same s.0 schema s.2

      pub is_over : ((named : Named Expression) (s : Columns) → ¬ (StandsOver registry expressions plans n (FilterKind named) s)) → ⊥
      is_over none = let s = (filter_node h).stands schema goes_into in none s.0 schema s.2

      pub checked : ((t : Expression) → Denotes (HoldsExpression expressions) predicate.node.0 t → is_ok_typed (truth_of (typing registry schema t)) ≡ true) → (kind : PlanKind (Named Expression)) (s : Columns) → StandsOver registry expressions plans n kind s → has_truth registry s kind ≡ true
      checked ok kind s stands =
          let f = filter_node h in
          let o = f.only kind s stands in
          let same = sym (is_into s o.3) in
          subst (λ k. has_truth registry s k ≡ true) (sym o.1) (subst (λ c. is_ok_typed (truth_of (typing registry c o.0.expression)) ≡ true) same (subst (λ e. is_ok_typed (truth_of (typing registry schema e)) ≡ true) (sym o.2) (ok f.tree f.denotes)))

      pub refused : (error : PlanError) → ((t : Expression) → Denotes (HoldsExpression expressions) predicate.node.0 t → IsRefusal (truth_of (typing registry schema t)) error) → (kind : PlanKind (Named Expression)) (s : Columns) → StandsOver registry expressions plans n kind s → RefusesPredicate (λ checked. IsRefusal checked error) (error ≡ no_memory) registry s kind
      refused error err kind s stands =
          let f = filter_node h in
          let o = f.only kind s stands in
          let same = sym (is_into s o.3) in
          subst (RefusesPredicate (λ checked. IsRefusal checked error) (error ≡ no_memory) registry s) (sym o.1) (subst (λ c. IsRefusal (truth_of (typing registry c o.0.expression)) error) same (subst (λ e. IsRefusal (truth_of (typing registry schema e)) error) (sym o.2) (err f.tree f.denotes)))

-- ---- a predicate's type

pub truth_refused : (answer : Result Typed ErrorKind) (error : PlanError) → IsRefusal answer error → IsRefusal (truth_of answer) error
truth_refused answer error r = elim r as (λ _. IsRefusal (truth_of answer) error) [ no_room e ↦ no_room e | broken kind e is ↦ broken kind e (ap truth_of is) ]

pub truth_found : (answer : Result Typed ErrorKind) (typed : Typed) → answer ≡ Ok typed → is_truth typed.type ≡ true → is_ok_typed (truth_of answer) ≡ true
truth_found answer typed is truth = ap (λ a. is_ok_typed (truth_of a)) is ∙ ap (λ b. is_ok_typed (cond b (Ok typed) (Err InvalidOperation))) truth

pub truth_missing : (answer : Result Typed ErrorKind) (typed : Typed) (error : PlanError) → answer ≡ Ok typed → is_truth typed.type ≡ false → error ≡ at_top InvalidOperation → IsRefusal (truth_of answer) error
truth_missing answer typed error is other e = broken InvalidOperation e (ap truth_of is ∙ ap (λ b. cond b (Ok typed) (Err InvalidOperation)) other)
