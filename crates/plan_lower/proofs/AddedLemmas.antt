-- Items of plans that were added, what a step's function leaves and answers, and nodes without expressions.
use Rattle.std.proofs.Common.{◌≡◌, ℕ, List, [], ◌∷◌, ◌++◌, length, map, true, false, cond, None, Some, Result, Ok, Err, is_some, slice_get, refl, sym, ap, ◌∙◌, subst}
use Rattle.std.specs.Result.{IsErrAnd}
use Rattle.std.proofs.lemmas.List.{append-nil}
use Rattle.plan_types.specs.Schemas.{Columns}
use Rattle.plan_types.specs.declared.error.PlanError.{PlanError}
use Rattle.plan_dsl.specs.Plans.{Named, PassWork, PlanOp, PlanOption, SamePass, Work, over_op}
use Rattle.plan_dsl.specs.PlanRules.{keeps_schema, work_schema}
use Rattle.plan_dsl.proofs.RuleLemmas.{kept_schemas}
use Rattle.plan_dsl.specs.Registry.{Registry}
use Rattle.plan_dsl.specs.Sources.{Source}
use Rattle.plan_arena.specs.declared.aexpr.AExpr.{AExpr}
use Rattle.plan_arena.specs.declared.ir.IR.{IR}
use Rattle.plan_arena.specs.Items.{Grows, plan_layer}
use Rattle.plan_arena.specs.Layers.{Layer, layer, op_of}
use Rattle.plan_arena.specs.Options.{option_of, options_of}
use Rattle.plan_arena.specs.declared.arena.Node.{Node}
use Rattle.plan_arena.proofs.ItemLemmas.{grows_then, plan_added, plan_stays}
use Rattle.plan_arena.proofs.OptionLemmas.{options_added}
use Rattle.plan_lower.specs.declared.conversion.step.LoweredNode.{LoweredNode}
use Rattle.plan_lower.specs.declared.conversion.step.Plain.{Plain}
use Rattle.plan_lower.specs.declared.conversion.step.Plain.TheVariants.{Cache, Sink, Slice}
use Rattle.plan_lower.specs.declared.conversion.step.Step.{Step}
use Rattle.plan_lower.specs.Lowering.{IsEmptyTableAt, columns_at}
use Rattle.plan_lower.specs.Nodes.{KeepsExpressions}
use Rattle.plan_lower.specs.Steps.{AddsStep, IsStepAt, IsStepRefusal, LowersPlainly, LowersStep, plain_work, step_lists, step_option, step_work}
use Rattle.plan_lower.specs.Works.{IsItemAt, IsPlain, IsPlainRefusal, IsWorkAt, is_same, recorded_of}
use Rattle.plan_lower.proofs.RecordedLemmas.{columns_of_recorded, recorded_added}

-- an item that was added stands behind the others, and what stood there stays
pub layer_added : (plans new : List IR) (item : IR) (n : ℕ) (l : Layer (PlanOp (Named ℕ))) → new ≡ plans ++ item ∷ [] → n ≡ length plans → plan_layer item ≡ l → slice_get (map plan_layer new) n ≡ Some l
layer_added plans new item n l grown at is = rw (grown, at) (plan_added plans item ∙ ap Some is)

pub one_grows : (plans new : List IR) (item : IR) → new ≡ plans ++ item ∷ [] → Grows plans new
one_grows plans new item grown = record { added = item ∷ []; longer = grown }

pub same_grows : (plans new : List IR) → new ≡ plans → Grows plans new
same_grows plans new same = record { added = []; longer = same ∙ sym (append-nil plans) }

-- a refusal says why the step becomes no node, whatever was added before
pub refused_lowers : (registry : Registry) (step : Step) (input : LoweredNode) (expressions grown : List AExpr) (old new : List IR) (result : Result LoweredNode PlanError) (error : PlanError) → IsErrAnd result (λ e. e ≡ error) → IsStepRefusal registry (columns_at old input.schema_node.0) step error → KeepsExpressions expressions grown → Grows old new → LowersStep registry step input expressions grown old new result
refused_lowers registry step input expressions grown old new (Ok lowered) error is refused kept grows = absurd is
refused_lowers registry step input expressions grown old new (Err e) error is refused kept grows = record {
  ok = tt;
  err = subst (IsStepRefusal registry (columns_at old input.schema_node.0) step) (sym is) refused;
  kept = kept;
  adds = record { recorded = tt; grows = grows; options = tt };
}

pub refused_plainly : (work : Work) (lists : List (List Source)) (own : List PlanOption) (input : LoweredNode) (old new : List IR) (result : Result LoweredNode PlanError) (error : PlanError) → IsErrAnd result (λ e. e ≡ error) → IsPlainRefusal (columns_at old input.schema_node.0) work lists error → Grows old new → LowersPlainly work lists own input old new result
refused_plainly work lists own input old new (Ok lowered) error is refused grows = absurd is
refused_plainly work lists own input old new (Err e) error is refused grows = record {
  ok = tt;
  err = subst (IsPlainRefusal (columns_at old input.schema_node.0) work lists) (sym is) refused;
  adds = record { recorded = tt; grows = grows; options = tt };
}

-- a step that does such a work keeps all expressions
pub plainly_lowers : (registry : Registry) (step : Step) (input : LoweredNode) (expressions : List AExpr) (old new : List IR) (result : Result LoweredNode PlanError) → ((n : ℕ) (columns : Columns) → IsWorkAt registry (columns_at old input.schema_node.0) expressions new n input.node.0 (step_work step) (step_lists step) columns → IsStepAt registry (columns_at old input.schema_node.0) expressions new n input.node.0 step columns) → LowersPlainly (step_work step) (step_lists step) (step_option step) input old new result → LowersStep registry step input expressions expressions old new result
plainly_lowers registry step input expressions old new (Ok lowered) by_work lowers = record { ok = by_work lowered.node.0 (columns_at new lowered.schema_node.0) (lowers.ok registry expressions); err = tt; kept = λ n op inputs held. held; adds = lowers.adds }
plainly_lowers registry step input expressions old new (Err error) by_work lowers = record { ok = tt; err = lowers.err registry; kept = λ n op inputs held. held; adds = lowers.adds }

-- a node that records its schema, behind what was added before it: what holds of that schema holds of the one that it records
pub own_at : (mid new : List IR) (item : IR) (node : Node) (own : Columns) (P : Columns → Type 0) → new ≡ mid ++ item ∷ [] → node.0 ≡ length mid → (op_of (plan_layer item)).recorded ≡ Some own → P own → P (columns_at new node.0)
own_at mid new item node own P added at is holds = subst P (sym (columns_of_recorded new node.0 own (recorded_added mid new item node.0 own added at is))) holds

pub own_adds : (old mid new : List IR) (item : IR) (node : Node) (own : Columns) → Grows old mid → options_of mid ≡ options_of old → new ≡ mid ++ item ∷ [] → node.0 ≡ length mid → (op_of (plan_layer item)).recorded ≡ Some own → AddsStep old new (option_of item) (Ok (record { node = node; schema_node = node }))
own_adds old mid new item node own grows options added at is = record {
  recorded = ap is_some (recorded_added mid new item node.0 own added at is);
  grows = grows_then old mid new grows (one_grows mid new item added);
  options = options_added mid new item added ∙ ap (λ l. l ++ option_of item) options;
}

pub empty_stays : (plans new : List IR) (item : IR) (n : ℕ) → new ≡ plans ++ item ∷ [] → IsEmptyTableAt plans n → IsEmptyTableAt new n
empty_stays plans new item n grown empty = plan_stays plans new (one_grows plans new item grown) n _ empty

-- what a node without expressions does breaks no rule, and keeps its input's schema
pub plain_keeps : (plain : Plain) → keeps_schema (plain_work plain) ≡ true
plain_keeps (Slice offset len) = refl
plain_keeps (Cache id) = refl
plain_keeps (Sink payload) = refl

pub plain_kept : (schema : Columns) (plain : Plain) → IsPlain schema (plain_work plain) [] (plain_work plain)
plain_kept schema (Slice offset len) = record { expanded = refl; resolved = refl; unbroken = refl; whole = tt; something = refl; other = refl }
plain_kept schema (Cache id) = record { expanded = refl; resolved = refl; unbroken = refl; whole = tt; something = refl; other = refl }
plain_kept schema (Sink payload) = record { expanded = refl; resolved = refl; unbroken = refl; whole = tt; something = refl; other = refl }

-- the node of another work than none is an item
pub item_at : (own : Work) (plans : List IR) (n input : ℕ) (item : Layer (PlanOp (Named ℕ))) → is_same own ≡ false → slice_get (map plan_layer plans) n ≡ Some item → IsItemAt own plans n input item
item_at (PassWork SamePass) plans n input item other is = absurd cc
item_at own plans n input item other is = is

-- its node is the one that a query has
pub plain_at : (registry : Registry) (schema columns : Columns) (items : List AExpr) (plans : List IR) (n input : ℕ) (work own : Work) (lists : List (List Source)) → IsPlain schema work lists own → columns ≡ work_schema own schema [] → slice_get (map plan_layer plans) n ≡ Some (layer (over_op own [] (recorded_of own columns)) (input ∷ [])) → IsWorkAt registry schema items plans n input work lists columns
plain_at registry schema columns items plans n input work own lists is copy item =
    record {
      trees = [];
      expanded = is.expanded;
      own = own;
      resolved = is.resolved;
      outputs = [];
      trees_are = refl;
      unbroken = record { each = tt; types = refl; kinds = is.unbroken };
      whole = is.whole;
      columns_are = copy;
      nodes = [];
      denote = tt;
      below = input;
      nothing = λ e. let never : true ≡ false = sym e ∙ is.something in absurd cc;
      something = λ e. refl;
      item = item_at own plans n input _ is.other item;
    }

-- one that keeps its input's schema records none
pub kept_at : (registry : Registry) (schema columns : Columns) (items : List AExpr) (plans : List IR) (n input : ℕ) (work own : Work) (lists : List (List Source)) → IsPlain schema work lists own → keeps_schema own ≡ true → columns ≡ schema → slice_get (map plan_layer plans) n ≡ Some (layer (over_op own [] None) (input ∷ [])) → IsWorkAt registry schema items plans n input work lists columns
kept_at registry schema columns items plans n input work own lists is keeps copy item =
    plain_at registry schema columns items plans n input work own lists is (copy ∙ sym (kept_schemas own keeps schema [])) (item ∙ ap (λ kept. Some (layer (over_op own [] (cond kept None (Some columns))) (input ∷ []))) (sym keeps))
