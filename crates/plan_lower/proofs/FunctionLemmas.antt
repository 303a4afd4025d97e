-- Functions from a frame to a frame, over an input that is lowered.
use Rattle.std.proofs.Common.{◌≡◌, ℕ, List, [], ◌∷◌, map, length, ◌++◌, ◌<◌, ◌+◌, drop, IsTrue, is_some, append_assoc, Bool, true, false, not, ◌&&◌, ◌||◌, ◌==◌, None, Some, Result, Ok, Err, cond, slice_get, refl, sym, ap, ◌∙◌, subst, ⊎_elim}
use Rattle.std.proofs.lemmas.Bool.{false≢true}
use Rattle.std.proofs.lemmas.List.Elements.{Contains-push}
use Rattle.plan_types.specs.Errors.{at_top}
use Rattle.std.proofs.lemmas.List.{append-nil}
use Rattle.std.proofs.lemmas.Option.{slice_get_within, get_or_from_slice_get}
use Rattle.plan_types.proofs.ListLemmas.{item_left}
use Rattle.plan_types.proofs.SchemaLemmas.{is_among-type_at}
use Rattle.plan_types.specs.Schemas.{Name, Columns, type_at}
use Rattle.plan_types.specs.Types.{Ty}
use Rattle.plan_types.specs.declared.error.ErrorKind.{ErrorKind}
use Rattle.plan_types.specs.declared.error.ErrorKind.TheVariants.{ColumnNotFound}
use Rattle.plan_types.specs.declared.error.PlanError.{PlanError}
use Rattle.plan_dsl.specs.Drops.{have_names}
use Rattle.plan_dsl.specs.FunctionSchemas.{IsOneOf}
use Rattle.plan_dsl.specs.Markers.{names_of_selectors}
use Rattle.plan_dsl.specs.Ops.{Expression}
use Rattle.plan_dsl.specs.PlanKernels.{gives_nothing}
use Rattle.plan_dsl.specs.PlanRules.{keeps_schema, work_kinds, work_schema}
use Rattle.plan_dsl.specs.Plans.{CallWork, FunctionWork, OverKind, PassWork, SamePass, SelectWork, Work, function_work, over_op, stats_options}
use Rattle.plan_dsl.specs.Refusals.{then_ok}
use Rattle.plan_dsl.specs.Registry.{Registry}
use Rattle.plan_dsl.specs.Resolving.{expanded_each, expanded_lists, expanded_over, in_front_of, over_named, resolved_work}
use Rattle.plan_dsl.specs.Sources.{Source, written}
use Rattle.plan_dsl.specs.TableCalls.{called_lists, called_work, explode_work, has_some, rename_work, statistic_by, statistic_of, statistics}
use Rattle.plan_dsl.specs.TableFunctions.{ExplodeFunction, RenameCall, RenameFunction, StatsCall, TableCall}
use Rattle.plan_dsl.specs.Expressions.{trees_of}
use Rattle.plan_dsl.specs.declared.expr.Exprs.{Exprs}
use Rattle.plan_dsl.specs.declared.distinct_options.ColumnNames.{ColumnNames}
use Rattle.plan_dsl.specs.declared.function.DslFunction.TheVariants.{Stats}
use Rattle.plan_dsl.specs.declared.function.FunctionIR.{FunctionIR}
use Rattle.plan_dsl.specs.declared.function.FunctionIR.TheVariants.{Explode, Rechunk, Rename, RowIndex, Unnest, Unpivot}
use Rattle.plan_dsl.specs.declared.function.StatsFunction.{StatsFunction}
use Rattle.plan_dsl.specs.Expansion.{expansions}
use Rattle.plan_dsl.proofs.ExpansionLemmas.{all_written_expanded}
use Rattle.plan_arena.specs.Items.{plan_layer}
use Rattle.plan_arena.specs.Layers.{layer}
use Rattle.plan_arena.specs.Options.{options_of}
use Rattle.plan_arena.specs.declared.aexpr.AExpr.{AExpr}
use Rattle.plan_arena.specs.declared.ir.IR.{IR}
use Rattle.plan_expand.specs.Refusals.{IsUnexpanded, no_room, unexpanded}
use Rattle.plan_properties.specs.Splitting.{IsWhole}
use Rattle.plan_lower.specs.Works.{IsPlain, IsPlainRefusal, IsWorkAt, IsWorkRefusal, against_a_rule, is_same, unresolved, without_memory}
use Rattle.plan_lower.specs.declared.conversion.step.LoweredNode.{LoweredNode}
use Rattle.plan_lower.specs.declared.conversion.step.Step.TheVariants.{Function, Select}
use Rattle.plan_lower.specs.Lowering.{columns_at, recorded_at}
use Rattle.plan_lower.specs.Steps.{AddsFunction, LowersPlainly, LowersStep}
use Rattle.plan_lower.proofs.AddedLemmas.{plain_at, same_grows}
use Rattle.plan_lower.proofs.BuiltLemmas.{unexpanded_then}

-- ---- functions over names

-- a function's node is an item, which records its schema
record IsFunctionWork (own : Work) : Type 0 where
  whole : IsWhole (OverKind own [])
  something : gives_nothing own [] ≡ false
  other : is_same own ≡ false
  records : keeps_schema own ≡ false
  expanded : (schema : Columns) → expanded_lists schema own [] ≡ Ok []
  resolved : (schema : Columns) → resolved_work schema own [] ≡ Ok own

function_is : (function : FunctionIR) → IsFunctionWork (function_work function)
function_is (Explode columns) = record { whole = tt; something = refl; other = refl; records = refl; expanded = λ schema. refl; resolved = λ schema. refl }
function_is Rechunk = record { whole = tt; something = refl; other = refl; records = refl; expanded = λ schema. refl; resolved = λ schema. refl }
function_is (Rename existing new swapping) = record { whole = tt; something = refl; other = refl; records = refl; expanded = λ schema. refl; resolved = λ schema. refl }
function_is (RowIndex name offset) = record { whole = tt; something = refl; other = refl; records = refl; expanded = λ schema. refl; resolved = λ schema. refl }
function_is (Unnest columns) = record { whole = tt; something = refl; other = refl; records = refl; expanded = λ schema. refl; resolved = λ schema. refl }
function_is (Unpivot args) = record { whole = tt; something = refl; other = refl; records = refl; expanded = λ schema. refl; resolved = λ schema. refl }

module _ (schema : Columns) (function : FunctionIR) (work : Work) (lists : List (List Source)) (expanded : expanded_lists schema work lists ≡ Ok []) (resolved : resolved_work schema work lists ≡ Ok (function_work function)) where
  -- so it is the node of each work that is resolved to it, where it breaks no rule
  function_at : (registry : Registry) (items : List AExpr) (plans : List IR) (n input : ℕ) (own : Columns) → work_kinds (function_work function) schema [] ≡ [] → own ≡ work_schema (function_work function) schema [] → slice_get (map plan_layer plans) n ≡ Some (layer (over_op (function_work function) [] (Some own)) (input ∷ [])) → IsWorkAt registry schema items plans n input work lists own
  function_at registry items plans n input own unbroken columns item =
      let is = function_is function in
      plain_at registry schema own items plans n input work (function_work function) lists (record { expanded = expanded; resolved = resolved; unbroken = unbroken; whole = is.whole; something = is.something; other = is.other }) columns (item ∙ ap (λ keeps. Some (layer (over_op (function_work function) [] (cond keeps None (Some own))) (input ∷ []))) (sym is.records))

  -- and else there is none
  function_refused : (error : PlanError) → IsOneOf (work_kinds (function_work function) schema []) error → IsPlainRefusal schema work lists error
  function_refused error told registry =
      ⊎_elim (λ e. without_memory e) (λ broken. against_a_rule [] (function_work function) error.kind expanded resolved broken.0 broken.1) told

pub function_lowers : (function : FunctionIR) (work : Work) (lists : List (List Source)) (input : LoweredNode) (old new : List IR) (result : Result LoweredNode PlanError) → expanded_lists (columns_at old input.schema_node.0) work lists ≡ Ok [] → resolved_work (columns_at old input.schema_node.0) work lists ≡ Ok (function_work function) → AddsFunction function input old new result → LowersPlainly work lists [] input old new result
function_lowers function work lists input old new (Ok lowered) expanded resolved adds = record {
  ok = λ registry items. function_at (columns_at old input.schema_node.0) function work lists expanded resolved registry items new lowered.node.0 input.node.0 (columns_at new lowered.schema_node.0) adds.unbroken adds.columns adds.item;
  err = tt;
  adds = adds.adds;
}
function_lowers function work lists input old new (Err error) expanded resolved adds = record {
  ok = tt;
  err = function_refused (columns_at old input.schema_node.0) function work lists expanded resolved error adds.err;
  adds = adds.adds;
}

pub own_lowers : (function : FunctionIR) (input : LoweredNode) (old new : List IR) (result : Result LoweredNode PlanError) → AddsFunction function input old new result → LowersPlainly (function_work function) [] [] input old new result
own_lowers function input old new result adds =
    let is = function_is function in
    function_lowers function (function_work function) [] input old new result (is.expanded (columns_at old input.schema_node.0)) (is.resolved (columns_at old input.schema_node.0)) adds

-- the item of a function that records columns
abbrev pub item_own : List IR → ℕ → ℕ → FunctionIR → Columns → Type 0
item_own plans n input function own = slice_get (map plan_layer plans) n ≡ Some (layer (over_op (function_work function) [] (Some own)) (input ∷ []))

-- nothing that is done over an input is that input
pub same_lowers : (work : Work) (lists : List (List Source)) (input : LoweredNode) (plans : List IR) → expanded_lists (columns_at plans input.schema_node.0) work lists ≡ Ok [] → resolved_work (columns_at plans input.schema_node.0) work lists ≡ Ok (PassWork SamePass) → IsTrue (is_some (recorded_at plans input.schema_node.0)) → LowersPlainly work lists [] input plans plans (Ok input)
same_lowers work lists input plans expanded resolved records = record {
  ok = λ registry items. record {
    trees = [];
    expanded = expanded;
    own = PassWork SamePass;
    resolved = resolved;
    outputs = [];
    trees_are = refl;
    unbroken = record { each = tt; types = refl; kinds = refl };
    whole = tt;
    columns_are = refl;
    nodes = [];
    denote = tt;
    below = input.node.0;
    nothing = λ e. absurd (false≢true e);
    something = λ e. refl;
    item = refl;
  };
  err = tt;
  adds = record { recorded = records; grows = same_grows plans plans refl; options = sym (append-nil (options_of plans)) };
}

-- names that selectors make, one by one
pub some_more : (schema : Columns) (names rest : List Name) (name : Name) (found : Bool) → names ≡ name ∷ rest → is_some (type_at schema name) ≡ found → has_some schema names ≡ (found || has_some schema rest)
some_more schema names rest name found is there = ap (has_some schema) is ∙ ap (λ b. b || has_some schema rest) (is_among-type_at schema name ∙ there)

-- ---- calls

-- an explode of columns, or of none, which isn't allowed
pub some_exploded : (names : List Name) → ¬ (length names ≡ 0) → (allow_empty : Bool) → explode_work allow_empty names ≡ FunctionWork (ExplodeFunction names)
some_exploded [] some allow_empty = absurd (some refl)
some_exploded (name ∷ names) some true = refl
some_exploded (name ∷ names) some false = refl

pub asked_exploded : (allow_empty : Bool) (names : List Name) → allow_empty ≡ false → explode_work allow_empty names ≡ FunctionWork (ExplodeFunction names)
asked_exploded true names asked = absurd (false≢true (sym asked))
asked_exploded false names asked = refl

-- and of none, which is
pub none_exploded : (allow_empty : Bool) (names : List Name) → allow_empty ≡ true → length names ≡ 0 → explode_work allow_empty names ≡ PassWork SamePass
none_exploded true [] allowed none = refl
none_exploded true (name ∷ names) allowed none = absurd cc
none_exploded false names allowed none = absurd (false≢true allowed)

-- where the names of selectors aren't made, a call isn't resolved
pub called_refusal : (schema : Columns) (call : TableCall) (lists : List (List Source)) (selectors : List Source) (next : List Name → Result Work (List ErrorKind)) (error : PlanError) → called_work schema call lists ≡ then_ok (names_of_selectors schema selectors) next → IsUnexpanded (names_of_selectors schema selectors) error → IsPlainRefusal schema (CallWork call) lists error
called_refusal schema call lists selectors next error is refused registry =
    unresolved (unexpanded_then (called_work schema call lists) (λ own. Ok (over_named (called_lists schema call) own)) error (subst (λ r. IsUnexpanded r error) (sym is) (unexpanded_then (names_of_selectors schema selectors) next error refused)))

-- nor is a rename of a name that must stand and doesn't
pub rename_refusal : (schema : Columns) (existing new : List Name) (strict : Bool) (error : PlanError) → (length existing == length new && (strict && not (have_names schema existing))) ≡ true → error ≡ at_top ColumnNotFound → IsPlainRefusal schema (CallWork (RenameCall existing new strict)) [] error
rename_refusal schema existing new strict error lacks told registry =
    unresolved (unexpanded_then (rename_work schema existing new strict) (λ own. Ok (over_named [] own)) error (unexpanded (ColumnNotFound ∷ []) ColumnNotFound told (ap (λ b. cond b (Err (ColumnNotFound ∷ [])) (Ok (FunctionWork (RenameFunction existing new (has_some schema new))))) lacks) (Contains-push [] ColumnNotFound)))

pub rename_found : (schema : Columns) (existing new : ColumnNames) (strict swapping : Bool) → (length existing.items.items == length new.items.items && (strict && not (have_names schema existing.items.items))) ≡ false → swapping ≡ has_some schema new.items.items → rename_work schema existing.items.items new.items.items strict ≡ Ok (function_work (Rename existing new swapping))
rename_found schema existing new strict swapping stand swaps =
    ap (λ b. cond b (Err (ColumnNotFound ∷ [])) (Ok (FunctionWork (RenameFunction existing.items.items new.items.items (has_some schema new.items.items))))) stand ∙ ap (λ b. Ok (FunctionWork (RenameFunction existing.items.items new.items.items b))) (sym swaps)

-- ---- statistics

module _ (registry : Registry) (schema : Columns) (statistic : StatsFunction) (sources : List Source) (are : sources ≡ map written (statistics statistic schema)) where
  select_expanded : expanded_lists schema SelectWork (sources ∷ []) ≡ Ok (statistics statistic schema ∷ [])
  select_expanded =
      ap (λ (r : Result (List Expression) (List ErrorKind)). then_ok r (λ trees. in_front_of trees (expanded_each schema []))) (ap (expansions [] schema) are ∙ all_written_expanded [] schema (statistics statistic schema))

  -- a select of them is the node of statistics
  pub stats_at : (items : List AExpr) (plans : List IR) (n input : ℕ) (own : Columns) → IsWorkAt registry schema items plans n input SelectWork (sources ∷ []) own → IsWorkAt registry schema items plans n input (CallWork (StatsCall statistic)) [] own
  stats_at items plans n input own is =
      record {
        trees = is.trees;
        expanded = sym select_expanded ∙ is.expanded;
        own = is.own;
        resolved = is.resolved;
        outputs = is.outputs;
        trees_are = is.trees_are;
        unbroken = is.unbroken;
        whole = is.whole;
        columns_are = is.columns_are;
        nodes = is.nodes;
        denote = is.denote;
        below = is.below;
        nothing = is.nothing;
        something = is.something;
        item = is.item;
      }

  no_refusal : {A : Type 0} (found : Result A (List ErrorKind)) (own : A) (error : PlanError) → found ≡ Ok own → IsUnexpanded found error → IsWorkRefusal registry schema (CallWork (StatsCall statistic)) [] error
  no_refusal found own error is (no_room e) = without_memory e
  no_refusal found own error is (unexpanded kinds kind told by there) = absurd cc

  -- and so is a refusal of it
  pub stats_refusal : (error : PlanError) → IsWorkRefusal registry schema SelectWork (sources ∷ []) error → IsWorkRefusal registry schema (CallWork (StatsCall statistic)) [] error
  stats_refusal error (without_memory e) = without_memory e
  stats_refusal error (unresolved refused) =
      no_refusal (expanded_over schema SelectWork (sources ∷ [])) (over_named (statistics statistic schema ∷ []) SelectWork) error (ap (λ (r : Result (List (List Expression)) (List ErrorKind)). then_ok r (λ trees. Ok (over_named trees SelectWork))) select_expanded) refused
  stats_refusal error (against_a_rule trees own kind expanded is e breaks) = against_a_rule trees own kind (sym select_expanded ∙ expanded) is e breaks

-- one more statistic
pub statistics_more : (statistic : StatsFunction) (done new all : List Source) (whole : Columns) (i : ℕ) (column : Name × Ty) → slice_get whole i ≡ Some column → done ++ map written (statistics statistic (drop i whole)) ≡ all → new ≡ done ++ written (statistic_by (statistic_of statistic column.1) column) ∷ [] → new ++ map written (statistics statistic (drop (i + 1) whole)) ≡ all
statistics_more statistic done new all whole i column at so_far grown =
    let left = item_left whole i column column (slice_get_within whole i column at) (sym (get_or_from_slice_get whole i column column at)) in
    let rest = map written (statistics statistic (drop (i + 1) whole)) in
    ap (λ l. l ++ rest) grown ∙ append_assoc done (written (statistic_by (statistic_of statistic column.1) column) ∷ []) rest ∙ ap (λ l. done ++ map written (statistics statistic l)) (sym left) ∙ so_far

-- a select of statistics does what the call asks
pub stats_lowers : (registry : Registry) (statistic : StatsFunction) (exprs : Exprs) (input : LoweredNode) (items grown : List AExpr) (old new : List IR) (result : Result LoweredNode PlanError) → trees_of exprs ≡ map written (statistics statistic (columns_at old input.schema_node.0)) → LowersStep registry (Select exprs stats_options) input items grown old new result → LowersStep registry (Function (Stats statistic)) input items grown old new result
stats_lowers registry statistic exprs input items grown old new (Ok lowered) are lowers = record {
  ok = stats_at registry (columns_at old input.schema_node.0) statistic (trees_of exprs) are grown new lowered.node.0 input.node.0 (columns_at new lowered.schema_node.0) lowers.ok;
  err = tt;
  kept = lowers.kept;
  adds = lowers.adds;
}
stats_lowers registry statistic exprs input items grown old new (Err error) are lowers = record {
  ok = tt;
  err = stats_refusal registry (columns_at old input.schema_node.0) statistic (trees_of exprs) are error lowers.err;
  kept = lowers.kept;
  adds = lowers.adds;
}
