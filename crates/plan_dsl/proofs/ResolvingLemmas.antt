-- Queries' plans, resolved: places, schemas and scans.
use Rattle.std.proofs.Common.{◌≡◌, ℕ, zero, suc, List, [], ◌∷◌, ◌++◌, map, Option, Some, None, option_map, is_some, IsTrue, Bool, true, false, not, ◌&&◌, ◌==◌, length, cond, Result, Ok, Err, refl, sym, ap, ◌∙◌, subst}
use Rattle.std.specs.List.{Contains, flat_map, list_all}
use Rattle.plan_types.specs.Schemas.{Columns}
use Rattle.plan_types.specs.declared.error.ErrorKind.{ErrorKind}
use Rattle.plan_dsl.specs.Registry.{Registry}
use Rattle.plan_dsl.specs.Trees.{Trees, node, no_more, more, fold_all, child_at, child_of, tree_at}
use Rattle.plan_dsl.specs.Ops.{Expression}
use Rattle.plan_dsl.specs.Plans.{Work, SelectWork, HStackWork, GroupByWork, FilterWork, SimpleProjectionWork, DropWork, SortWork, DistinctWork, FunctionWork, CallWork, PlanKind, ScanKind, OverKind, RefusedKind, PlanOp, Named, named, over_op, select_op, hstack_op, group_by_op, filter_op, simple_projection_op, source_over, source_select, source_hstack, source_group_by, source_filter, source_drop, SourcePlan, own_scans, scans_in}
use Rattle.plan_dsl.specs.Sources.{Source, written}
use Rattle.plan_dsl.specs.Refusals.{then_ok, with_kinds}
use Rattle.plan_dsl.specs.Expansion.{expansions, key_names, predicate_expansion}
use Rattle.plan_dsl.specs.Markers.{names_of_selectors}
use Rattle.plan_dsl.specs.Drops.{drop_leaves, have_names}
use Rattle.plan_dsl.specs.SortFlags.{sort_flags}
use Rattle.plan_dsl.specs.TableCalls.{called_work, explode_work, has_some}
use Rattle.plan_dsl.specs.TableFunctions.{TableCall, ExplodeCall, RenameCall, StatsCall, UnnestCall, UnpivotCall, RenameFunction, UnnestFunction, UnpivotFunction}
use Rattle.plan_dsl.specs.PlanRules.{broken_kinds, where_unbroken, plan_rule, schema_of, schemas_of, IsWellFormed, AllWellFormed}
use Rattle.plan_dsl.specs.PlanMeaning.{HasTables}
use Rattle.plan_dsl.specs.Resolving.{over_keys, in_front_of, expanded_each, expanded_lists, resolved_work, over_named, over_expanded, expanded_kind, first_columns, schemas_there, resolution, resolved_kind, resolved_op, resolved, all_resolved}
use Rattle.plan_dsl.specs.Laws.{UnresolvedIsTold, PlacesStay, ResolvedBreaksNothing, NothingIsToldAboveARefusal, ScansStay, QueryHasSchema}
use Rattle.plan_dsl.proofs.RuleLemmas.{unbroken_kinds}
use Rattle.plan_dsl.proofs.FrameLemmas.{meaning_has_schema}
use Rattle.plan_dsl.proofs.DropLemmas.{absent_told, drop_is_told, names_told, then_either_told}
use Rattle.plan_dsl.proofs.SortFlagLemmas.{sort_is_told}
use Rattle.plan_dsl.proofs.ExpansionLemmas.{unexpanded_told, with_kinds_told}

-- a kind scans what it did
then_next_scans : {A K : Type 0} (r : Result A K) (next : A → Result (PlanKind (Named Expression)) K) (found : PlanKind (Named Expression)) → ((x : A) → next x ≡ Ok found → own_scans found ≡ []) → then_ok r next ≡ Ok found → own_scans found ≡ []
then_next_scans (Ok x) next found none h = none x h
then_next_scans (Err kinds) next found none h = absurd cc

work_scans_none : (trees : List (List Expression)) (work : Result Work (List ErrorKind)) (found : PlanKind (Named Expression)) → over_expanded work trees ≡ Ok found → own_scans found ≡ []
work_scans_none trees (Ok own) found h = let same : found ≡ over_named trees own = cc in ap own_scans same
work_scans_none trees (Err kinds) found h = absurd cc

scans_expanded : (registry : Registry) (inputs : List Columns) (kind : PlanKind Source) (found : PlanKind (Named Expression)) → expanded_kind registry inputs kind ≡ Ok found → own_scans found ≡ own_scans kind
scans_expanded registry inputs (ScanKind (Some number) own) found h = let same : found ≡ ScanKind (Some number) own = cc in ap own_scans same
scans_expanded registry inputs (ScanKind None own) found h = let same : found ≡ ScanKind None own = cc in ap own_scans same
scans_expanded registry inputs (OverKind work lists) found h =
    let under = first_columns inputs in
    let own = resolved_work under work lists in
    then_next_scans (expanded_lists under work lists) (over_expanded own) found (λ trees. work_scans_none trees own found) h
scans_expanded registry inputs (RefusedKind kinds) found h = let same : found ≡ RefusedKind kinds = cc in ap own_scans same

scans_of_resolved : (registry : Registry) (kind : PlanKind Source) (inputs : List (Option Columns)) (found : PlanKind (Named Expression)) → resolution registry kind inputs ≡ Ok found → own_scans found ≡ own_scans kind
scans_of_resolved registry kind inputs found h =
    elim (list_all is_some inputs) as (λ b. cond b (expanded_kind registry (schemas_there inputs) kind) (Err []) ≡ Ok found → own_scans found ≡ own_scans kind) [ true ↦ scans_expanded registry (schemas_there inputs) kind found | false ↦ λ h. absurd cc ] h

-- a node as it is resolved
abbrev op_of : Result (PlanKind (Named Expression)) (List ErrorKind) → Option Columns → PlanOp (Named Expression)
op_of found recorded = record { kind = resolved_kind found; recorded = recorded }

-- whatever it breaks, a refused node has no schema
without_schema : (kinds : List ErrorKind) → where_unbroken kinds None ≡ None
without_schema [] = refl
without_schema (kind ∷ kinds) = refl

module _ (registry : Registry) where
  child_resolved : (inputs : Trees (PlanOp Source)) (number : ℕ) → child_at (all_resolved registry inputs) number ≡ option_map (resolved registry) (child_at inputs number)
  child_resolved no_more number = refl
  child_resolved (more plan rest) zero = refl
  child_resolved (more plan rest) (suc number) = child_resolved rest number

  step_resolved : (plan : Option SourcePlan) (number : ℕ) → child_of (option_map (resolved registry) plan) number ≡ option_map (resolved registry) (child_of plan number)
  step_resolved None number = refl
  step_resolved (Some (node op inputs)) number = child_resolved inputs number

  place_resolved : (plan : Option SourcePlan) (place : List ℕ) → tree_at (option_map (resolved registry) plan) place ≡ option_map (resolved registry) (tree_at plan place)
  place_resolved plan [] = refl
  place_resolved plan (number ∷ place) = ap (λ t. tree_at t place) (step_resolved plan number) ∙ place_resolved (child_of plan number) place

  -- a node over one input that has a schema is resolved to its expansion over the resolved input
  pub resolved_over : (op : PlanOp Source) (input : SourcePlan) (schema : Columns) → schema_of registry (resolved registry input) ≡ Some schema → resolved registry (node op (more input no_more)) ≡ node (record { kind = resolved_kind (expanded_kind registry (schema ∷ []) op.kind); recorded = op.recorded }) (more (resolved registry input) no_more)
  resolved_over op input schema there = ap (λ s. node (resolved_op registry op (s ∷ [])) (more (resolved registry input) no_more)) there

  -- a node over it is resolved to what its kind expands to, or is refused
  pub resolved_as : (op : PlanOp Source) (input : SourcePlan) (schema : Columns) (found : Result (PlanKind (Named Expression)) (List ErrorKind)) → schema_of registry (resolved registry input) ≡ Some schema → expanded_kind registry (schema ∷ []) op.kind ≡ found → resolved registry (node op (more input no_more)) ≡ node (op_of found op.recorded) (more (resolved registry input) no_more)
  resolved_as op input schema found there is =
      resolved_over op input schema there ∙ ap (λ r. node (op_of r op.recorded) (more (resolved registry input) no_more)) is

  -- so a query's node to its work over its expressions, each under its own name
  pub work_resolved : (work own : Work) (lists : List (List Source)) (trees : List (List Expression)) (input : SourcePlan) (schema : Columns) → schema_of registry (resolved registry input) ≡ Some schema → expanded_lists schema work lists ≡ Ok trees → resolved_work schema work lists ≡ Ok own → resolved registry (source_over work lists input) ≡ node (over_op own (map (map named) trees) None) (more (resolved registry input) no_more)
  work_resolved work own lists trees input schema there expanded is =
      resolved_as (over_op work lists None) input schema (Ok (over_named trees own)) there (ap (λ r. then_ok r (over_expanded (resolved_work schema work lists))) expanded ∙ ap (λ r. over_expanded r trees) is)

  -- a select, an hstack, a group-by, a filter and a drop over it
  pub select_resolved : (sources : List Source) (trees : List Expression) (input : SourcePlan) (schema : Columns) → schema_of registry (resolved registry input) ≡ Some schema → expansions [] schema sources ≡ Ok trees → resolved registry (source_select sources input) ≡ node (select_op (map named trees) None) (more (resolved registry input) no_more)
  select_resolved sources trees input schema there is =
      work_resolved SelectWork SelectWork (sources ∷ []) (trees ∷ []) input schema there (ap (λ r. then_ok r (λ outputs. in_front_of outputs (Ok []))) is) refl

  pub hstack_resolved : (sources : List Source) (trees : List Expression) (input : SourcePlan) (schema : Columns) → schema_of registry (resolved registry input) ≡ Some schema → expansions [] schema sources ≡ Ok trees → resolved registry (source_hstack sources input) ≡ node (hstack_op (map named trees) None) (more (resolved registry input) no_more)
  hstack_resolved sources trees input schema there is =
      work_resolved HStackWork HStackWork (sources ∷ []) (trees ∷ []) input schema there (ap (λ r. then_ok r (λ outputs. in_front_of outputs (Ok []))) is) refl

  pub group_resolved : (keys aggs : List Source) (trees others : List Expression) (input : SourcePlan) (schema : Columns) → schema_of registry (resolved registry input) ≡ Some schema → expansions [] schema keys ≡ Ok trees → expansions (key_names (map written trees)) schema aggs ≡ Ok others → resolved registry (source_group_by keys aggs input) ≡ node (group_by_op (map named trees) (map named others) None) (more (resolved registry input) no_more)
  group_resolved keys aggs trees others input schema there is behind =
      work_resolved GroupByWork GroupByWork (keys ∷ aggs ∷ []) (trees ∷ others ∷ []) input schema there (ap (λ r. then_ok r (over_keys schema aggs)) is ∙ ap (λ r. then_ok r (λ found. Ok (trees ∷ found ∷ []))) behind) refl

  pub filter_resolved : (source : Source) (tree : Expression) (input : SourcePlan) (schema : Columns) → schema_of registry (resolved registry input) ≡ Some schema → predicate_expansion schema source ≡ Ok tree → resolved registry (source_filter source input) ≡ node (filter_op (named tree)) (more (resolved registry input) no_more)
  filter_resolved source tree input schema there is =
      work_resolved FilterWork FilterWork ((source ∷ []) ∷ []) ((tree ∷ []) ∷ []) input schema there (ap (λ r. then_ok (with_kinds r) (λ found. Ok ((found ∷ []) ∷ []))) is) refl

  pub drop_resolved : (selectors : List Source) (strict : Bool) (input : SourcePlan) (schema columns : Columns) → schema_of registry (resolved registry input) ≡ Some schema → drop_leaves schema selectors strict ≡ Ok columns → resolved registry (source_drop selectors strict input) ≡ node (simple_projection_op columns None) (more (resolved registry input) no_more)
  drop_resolved selectors strict input schema columns there is =
      work_resolved (DropWork strict) (SimpleProjectionWork columns) (selectors ∷ []) [] input schema there refl (ap (λ r. then_ok r (λ own. Ok (SimpleProjectionWork own))) is)

  own_scans_stay : (op : PlanOp Source) (inputs : List (Option Columns)) → IsTrue (is_some (plan_rule registry (resolved_op registry op inputs) inputs)) → own_scans (resolved_op registry op inputs).kind ≡ own_scans op.kind
  own_scans_stay op inputs h =
      elim (resolution registry op.kind inputs) as (λ r. resolution registry op.kind inputs ≡ r → IsTrue (is_some (plan_rule registry (op_of r op.recorded) inputs)) → own_scans (resolved_kind r) ≡ own_scans op.kind) [ Ok found ↦ λ e h. scans_of_resolved registry op.kind inputs found e | Err kinds ↦ λ e h. let none = without_schema (broken_kinds registry (op_of (Err kinds) op.recorded) inputs) in let there : IsTrue (is_some {T = Columns} None) = subst (λ s. IsTrue (is_some s)) none h in absurd cc ] refl h

  mutual
    scans_stay : (plan : SourcePlan) → IsWellFormed registry (resolved registry plan) → scans_in (resolved registry plan) ≡ scans_in plan
    scans_stay (node op inputs) h =
        let own = own_scans_stay op (schemas_of registry (all_resolved registry inputs)) h.0 in
        let below = all_scans_stay inputs h.1 in
        λ i. own i ++ flat_map (λ scans. scans) (below i)

    all_scans_stay : (inputs : Trees (PlanOp Source)) → AllWellFormed registry (all_resolved registry inputs) → fold_all (λ (op : PlanOp (Named Expression)) below. own_scans op.kind ++ flat_map (λ scans. scans) below) (all_resolved registry inputs) ≡ fold_all (λ (op : PlanOp Source) below. own_scans op.kind ++ flat_map (λ scans. scans) below) inputs
    all_scans_stay no_more h = refl
    all_scans_stay (more plan rest) h =
        let first = scans_stay plan h.0 in
        let later = all_scans_stay rest h.1 in
        λ i. first i ∷ later i

pub places_stay : PlacesStay
places_stay registry plan place = place_resolved registry (Some plan) place

breaks_nothing : (registry : Registry) (recorded : Option Columns) (inputs : List (Option Columns)) (schema : Columns) (r : Result (PlanKind (Named Expression)) (List ErrorKind)) → plan_rule registry (op_of r recorded) inputs ≡ Some schema → (kind : PlanKind (Named Expression)) × (r ≡ Ok kind) × (broken_kinds registry (op_of r recorded) inputs ≡ [])
breaks_nothing registry recorded inputs schema (Ok kind) h = (kind, refl, unbroken_kinds (broken_kinds registry (op_of (Ok kind) recorded) inputs) _ schema h)
breaks_nothing registry recorded inputs schema (Err kinds) h = let none = without_schema (broken_kinds registry (op_of (Err kinds) recorded) inputs) in absurd cc

pub resolved_breaks_nothing : ResolvedBreaksNothing
resolved_breaks_nothing registry op inputs schema h = breaks_nothing registry op.recorded inputs schema (resolution registry op.kind inputs) h

nothing_told : (registry : Registry) (op : PlanOp Source) (inputs : List (Option Columns)) (b : Bool) → b ≡ false → let found = op_of (cond b (expanded_kind registry (schemas_there inputs) op.kind) (Err [])) op.recorded in (plan_rule registry found inputs ≡ None) × (broken_kinds registry found inputs ≡ [])
nothing_told registry op inputs true e = absurd cc
nothing_told registry op inputs false e = (refl, refl)

pub nothing_is_told : NothingIsToldAboveARefusal
nothing_is_told registry op inputs h = nothing_told registry op inputs (list_all is_some inputs) h

-- what isn't resolved over inputs that have schemas is refused by some kind
there_are_schemas : (schemas : List Columns) → list_all is_some (map Some schemas) ≡ true
there_are_schemas [] = refl
there_are_schemas (schema ∷ schemas) = there_are_schemas schemas

then_told : {A B : Type 0} (r : Result A (List ErrorKind)) (change : A → B) (kinds : List ErrorKind) → ((others : List ErrorKind) → r ≡ Err others → (told : ErrorKind) × Contains others told) → then_ok r (λ x. Ok (change x)) ≡ Err kinds → (told : ErrorKind) × Contains kinds told
then_told (Ok x) change kinds told h = absurd cc
then_told (Err others) change kinds told h = let same : others ≡ kinds = cc in subst (λ l. (first : ErrorKind) × Contains l first) same (told others refl)

each_told : (schema : Columns) (lists : List (List Source)) (kinds : List ErrorKind) → expanded_each schema lists ≡ Err kinds → (told : ErrorKind) × Contains kinds told
each_told schema [] kinds h = absurd cc
each_told schema (sources ∷ lists) kinds h =
    then_either_told (expansions [] schema sources) (λ trees. in_front_of trees (expanded_each schema lists)) kinds (unexpanded_told [] schema sources) (λ trees e. then_told (expanded_each schema lists) (λ rest. trees ∷ rest) kinds (each_told schema lists) e) h

lists_are_told : (schema : Columns) (work : Work) (lists : List (List Source)) (kinds : List ErrorKind) → expanded_lists schema work lists ≡ Err kinds → (told : ErrorKind) × Contains kinds told
lists_are_told schema GroupByWork (keys ∷ aggs ∷ []) kinds h =
    then_either_told (expansions [] schema keys) (over_keys schema aggs) kinds (unexpanded_told [] schema keys) (λ trees e. then_told (expansions (key_names (map written trees)) schema aggs) (λ others. trees ∷ others ∷ []) kinds (unexpanded_told (key_names (map written trees)) schema aggs) e) h
lists_are_told schema FilterWork ((source ∷ []) ∷ []) kinds h = then_told (with_kinds (predicate_expansion schema source)) (λ tree. (tree ∷ []) ∷ []) kinds (with_kinds_told (predicate_expansion schema source)) h
lists_are_told schema (DropWork strict) lists kinds h = absurd cc
lists_are_told schema (DistinctWork keep None) (selectors ∷ []) kinds h = absurd cc
lists_are_told schema (CallWork call) lists kinds h = absurd cc
lists_are_told schema work lists kinds h = each_told schema lists kinds h

call_is_told : (schema : Columns) (call : TableCall) (lists : List (List Source)) (kinds : List ErrorKind) → called_work schema call lists ≡ Err kinds → (told : ErrorKind) × Contains kinds told
call_is_told schema (ExplodeCall allow_empty) (selectors ∷ []) kinds h = then_told (names_of_selectors schema selectors) (explode_work allow_empty) kinds (names_told schema selectors) h
call_is_told schema (UnpivotCall variable value) (on ∷ index ∷ []) kinds h =
    then_either_told (names_of_selectors schema on) (λ names. then_ok (names_of_selectors schema index) (λ others. Ok (FunctionWork (UnpivotFunction names others variable value)))) kinds (names_told schema on) (λ names e. then_told (names_of_selectors schema index) (λ others. FunctionWork (UnpivotFunction names others variable value)) kinds (names_told schema index) e) h
call_is_told schema (RenameCall existing new strict) [] kinds h =
    absent_told (FunctionWork (RenameFunction existing new (has_some schema new))) (length existing == length new && (strict && not (have_names schema existing))) kinds h
call_is_told schema UnnestCall (selectors ∷ []) kinds h = then_told (names_of_selectors schema selectors) (λ names. FunctionWork (UnnestFunction names)) kinds (names_told schema selectors) h
call_is_told schema (StatsCall statistic) [] kinds h = absurd cc
call_is_told schema call lists kinds h = absurd cc

work_is_told : (schema : Columns) (work : Work) (lists : List (List Source)) (kinds : List ErrorKind) → resolved_work schema work lists ≡ Err kinds → (told : ErrorKind) × Contains kinds told
work_is_told schema (DropWork strict) (selectors ∷ []) kinds h = then_told (drop_leaves schema selectors strict) SimpleProjectionWork kinds (drop_is_told schema selectors strict) h
work_is_told schema (SortWork descending nulls_last) (by ∷ []) kinds h =
    then_told (sort_flags schema by descending nulls_last) (λ flags. SortWork flags.0 flags.1) kinds (sort_is_told schema by descending nulls_last) h
work_is_told schema (DistinctWork keep None) (selectors ∷ []) kinds h =
    then_told (names_of_selectors schema selectors) (λ names. DistinctWork keep (Some names)) kinds (names_told schema selectors) h
work_is_told schema (CallWork call) lists kinds h = call_is_told schema call lists kinds h
work_is_told schema work lists kinds h = absurd cc

kind_is_told : (registry : Registry) (inputs : List Columns) (kind : PlanKind Source) (kinds : List ErrorKind) → expanded_kind registry inputs kind ≡ Err kinds → (told : ErrorKind) × Contains kinds told
kind_is_told registry inputs (ScanKind table own) kinds h = absurd cc
kind_is_told registry inputs (OverKind work lists) kinds h =
    let under = first_columns inputs in
    let own = resolved_work under work lists in
    then_either_told (expanded_lists under work lists) (over_expanded own) kinds (lists_are_told under work lists) (λ trees e. then_told own (over_named trees) kinds (work_is_told under work lists) e) h
kind_is_told registry inputs (RefusedKind others) kinds h = absurd cc

pub unresolved_is_told : UnresolvedIsTold
unresolved_is_told registry kind inputs kinds h =
    let there = schemas_there (map Some inputs) in
    kind_is_told registry there kind kinds (ap (λ b. cond b (expanded_kind registry there kind) (Err [])) (sym (there_are_schemas inputs)) ∙ h)

pub scans_are_kept : ScansStay
scans_are_kept registry plan h = scans_stay registry plan h

pub query_has_schema : QueryHasSchema
query_has_schema registry tables plan schema fits well there =
    meaning_has_schema registry tables (resolved registry plan) schema (subst (HasTables tables) (sym (scans_stay registry plan well)) fits) well there
