-- Plans whose predicates' types aren't checked: their schemas are those that are recorded, with any arena of expressions.
use Rattle.std.proofs.Common.{◌≡◌, ◌≢◌, ℕ, List, [], ◌∷◌, ◌++◌, map, IsTrue, true, Option, Some, None, is_some, option_map, slice_get, refl, sym, ap, ◌∙◌, subst}
use Rattle.std.specs.List.{AllByRecursion}
use Rattle.std.proofs.lemmas.Option.{slice_get-map}
use Rattle.plan_types.specs.Schemas.{Columns, columns}
use Rattle.plan_types.specs.declared.error.ErrorKind.{ErrorKind}
use Rattle.plan_dsl.specs.Registry.{Registry}
use Rattle.plan_dsl.specs.Trees.{Trees, node, no_more, more, fold_all}
use Rattle.plan_dsl.specs.Ops.{Expression}
use Rattle.plan_dsl.specs.Plans.{Named, Work, FilterWork, SliceWork, DistinctWork, PassWork, CachePass, SinkPass, PlanKind, OverKind, PlanOp, Plan, column_names, expressions_of, over_op, sort_work}
use Rattle.plan_dsl.specs.PlanRules.{TypedOutput, all_type_kinds, expression_kinds, input_schema, keeps_schema, own_kinds, plan_rule, schema_by, schema_of, schemas_of, typed_lists, where_unbroken, work_schema}
use Rattle.plan_dsl.proofs.RuleLemmas.{kept_schemas}
use Rattle.plan_arena.specs.declared.aexpr.AExpr.{AExpr}
use Rattle.plan_arena.specs.declared.ir.IR.{IR}
use Rattle.plan_arena.specs.declared.ir.IR.TheVariants.{Cache, DataFrameScan, Distinct, Filter, GroupBy, HStack, Select, SimpleProjection, Sink, Slice, Sort, Invalid}
use Rattle.plan_arena.specs.Denotation.{Denotes, DenoteAll}
use Rattle.plan_arena.specs.Layers.{Layer, layer, op_of}
use Rattle.plan_arena.specs.Items.{DenotesItem, DenotesKind, DenotesOp, HoldsPlan, KeepsInput, plan_layer}
use Rattle.plan_arena.specs.PlanSchemas.{schema_into}
use Rattle.plan_arena.specs.RecordedSchemas.{recorded_into, recorded_over, schema_recorded}
use Rattle.plan_arena.specs.Runs.{AllAccepted, HasRecorded, IsAccepted, own_schema}
use Rattle.plan_arena.specs.Unchecked.{AllKeepOtherRules, HasUncheckedSchema, KeepsOtherRules, unchecked_into, unchecked_kinds, unchecked_own_kinds, unchecked_rule, unchecked_schema}
use Rattle.plan_arena.proofs.DenotationLemmas.{some_same}
use Rattle.plan_arena.proofs.ItemLemmas.{is_valid, layer_inputs, layer_op}
use Rattle.plan_arena.proofs.RecordedSchemaLemmas.{RecordsSchema}

-- ---- one schema is recorded

module _ (plans : List IR) (items others : List AExpr) where
  mutual
    -- the plans that a node denotes with two arenas of expressions record one schema
    pub recorded_same : (n : ℕ) (t u : Plan) → Denotes (HoldsPlan items plans) n t → Denotes (HoldsPlan others plans) n u → schema_recorded t ≡ schema_recorded u
    recorded_same n (node op ts) (node op' us) d e =
        let there = some_same (slice_get (map plan_layer plans) n) (layer d.1.flat d.0) (layer e.1.flat e.0) d.1.item e.1.item in
        let recorded = sym d.1.denotes.same_recorded ∙ ap (λ (f : PlanOp (Named ℕ)). f.recorded) (layer_op d.1.flat e.1.flat d.0 e.0 there) ∙ e.1.denotes.same_recorded in
        let first = first_same d.0 ts us d.2 (subst (λ ns. DenoteAll (HoldsPlan others plans) ns us) (sym (layer_inputs d.1.flat e.1.flat d.0 e.0 there)) e.2) in
        ap (λ r. own_schema r (input_schema (fold_all recorded_over ts) 0)) recorded ∙ ap (own_schema op'.recorded) first

    first_same : (ns : List ℕ) (ts us : Trees (PlanOp (Named Expression))) → DenoteAll (HoldsPlan items plans) ns ts → DenoteAll (HoldsPlan others plans) ns us → input_schema (fold_all recorded_over ts) 0 ≡ input_schema (fold_all recorded_over us) 0
    first_same [] no_more no_more d e = refl
    first_same (n ∷ ns) (more t ts) (more u us) d e = recorded_same n t u d.0 e.0
    first_same [] (more t ts) us d e = absurd d
    first_same [] no_more (more u us) d e = absurd e
    first_same (n ∷ ns) no_more us d e = absurd d
    first_same (n ∷ ns) (more t ts) no_more d e = absurd e

-- ---- it is the one of the rules

has_some : (r found : Option Columns) → HasRecorded r found → IsTrue (is_some found)
has_some None found h = h
has_some (Some own) found h = subst (λ o. IsTrue (is_some o)) (sym h) refl

unbroken_is : (kinds : List ErrorKind) (schema : Option Columns) → IsTrue (is_some (where_unbroken kinds schema)) → where_unbroken kinds schema ≡ schema
unbroken_is [] schema h = refl
unbroken_is (kind ∷ kinds) schema h = absurd cc

kept_schema : (work : Work) → keeps_schema work ≡ true → (schema : Columns) (outputs : Option (List (List TypedOutput))) → IsTrue (is_some (option_map (work_schema work schema) outputs)) → option_map (work_schema work schema) outputs ≡ Some schema
kept_schema work keeps schema None h = absurd cc
kept_schema work keeps schema (Some outputs) h = ap Some (kept_schemas work keeps schema outputs)

has_kept : (registry : Registry) (work : Work) → keeps_schema work ≡ true → (lists : List (List (Named Expression))) (recorded schema : Option Columns) → IsTrue (is_some (unchecked_rule registry (over_op work lists recorded) (schema ∷ []))) → unchecked_rule registry (over_op work lists recorded) (schema ∷ []) ≡ schema
has_kept registry work keeps lists recorded None h = unbroken_is (unchecked_kinds registry (over_op work lists recorded) (None ∷ [])) None h
has_kept registry work keeps lists recorded (Some schema) h =
    let found = option_map (work_schema work schema) (typed_lists registry schema lists) in
    let same = unbroken_is (unchecked_kinds registry (over_op work lists recorded) (Some schema ∷ [])) found h in
    same ∙ kept_schema work keeps schema (typed_lists registry schema lists) (subst (λ o. IsTrue (is_some o)) same h)

-- a node that keeps its input's schema has that, where it has one
keeps_inputs : (registry : Registry) (op : PlanOp (Named Expression)) (work : Work) (lists : List (List (Named Expression))) → keeps_schema work ≡ true → op.kind ≡ OverKind work lists → (schema : Option Columns) → IsTrue (is_some (unchecked_rule registry op (schema ∷ []))) → unchecked_rule registry op (schema ∷ []) ≡ schema
keeps_inputs registry op work lists keeps kind schema h =
    let rule : unchecked_rule registry op (schema ∷ []) ≡ unchecked_rule registry (over_op work lists op.recorded) (schema ∷ []) =
    ap (λ (k : PlanKind (Named Expression)). unchecked_rule registry (record { kind = k; recorded = op.recorded }) (schema ∷ [])) kind in
    rule ∙ has_kept registry work keeps lists op.recorded schema (subst (λ o. IsTrue (is_some o)) rule h)

-- what is recorded is one of two: a node's own, or that of its input
by_recorded : (r found first : Option Columns) → HasRecorded r found → (r ≡ None → first ≡ found) → own_schema r first ≡ found
by_recorded (Some own) found first has none = sym has
by_recorded None found first has none = none refl

over_input_of : (work : Work) (nodes : List (List (Named ℕ))) (input : ℕ) → keeps_schema work ≡ true → (n : ℕ) × KeepsInput (layer (over_op work nodes None) (input ∷ [])) n
over_input_of work nodes input keeps = (input, record { work = work; nodes = nodes; keeps = keeps; is = refl })

-- an item that records none and was not taken out keeps the schema of its only input
pub keeps_input : (item : IR) → item ≢ Invalid → (op_of (plan_layer item)).recorded ≡ None → (n : ℕ) × KeepsInput (plan_layer item) n
keeps_input (Filter input predicate) valid none = over_input_of FilterWork _ input.0 refl
keeps_input (Sort input by_column sort_options) valid none = over_input_of (sort_work sort_options) _ input.0 refl
keeps_input (Distinct input options) valid none = over_input_of (DistinctWork options.keep_strategy (column_names options.subset)) _ input.0 refl
keeps_input (Slice input offset len) valid none = over_input_of (SliceWork offset len) _ input.0 refl
keeps_input (Cache input id cache_hits) valid none = over_input_of (PassWork (CachePass id)) _ input.0 refl
keeps_input (Sink input payload) valid none = over_input_of (PassWork SinkPass) _ input.0 refl
keeps_input Invalid valid none = absurd (valid refl)
keeps_input _ valid none = cc

module _ (expressions : List AExpr) where
  -- an item that records none keeps the schema of its only input
  keeps_its : (item : IR) (flat : PlanOp (Named ℕ)) (ns : List ℕ) (op : PlanOp (Named Expression)) → plan_layer item ≡ layer flat ns → DenotesOp expressions flat op → op.recorded ≡ None → (work : Work) × (lists : List (List (Named Expression))) × (m : ℕ) × (keeps_schema work ≡ true) × (op.kind ≡ OverKind work lists) × (ns ≡ m ∷ [])
  keeps_its item flat ns op is d none =
      let recorded = ap (λ (l : Layer (PlanOp (Named ℕ))). (op_of l).recorded) is ∙ d.same_recorded ∙ none in
      let own = keeps_input item (is_valid expressions item flat ns op is d) recorded in
      let same = sym own.1.is ∙ is in
      let kind = subst (λ (f : PlanOp (Named ℕ)). DenotesKind expressions f.kind op.kind) (sym (layer_op (over_op own.1.work own.1.nodes None) flat (own.0 ∷ []) ns same)) d.kind in
      (own.1.work, kind.0, own.0, own.1.keeps, kind.1, sym (layer_inputs (over_op own.1.work own.1.nodes None) flat (own.0 ∷ []) ns same))

  item_of : (found : Option IR) (l : Layer (PlanOp (Named ℕ))) → option_map plan_layer found ≡ Some l → (item : IR) × (plan_layer item ≡ l)
  item_of None l e = cc
  item_of (Some item) l e = let is : plan_layer item ≡ l = cc in (item, is)

  module _ (plans : List IR) (registry : Registry) where
    kept_over : (op : PlanOp (Named Expression)) (work : Work) (lists : List (List (Named Expression))) → keeps_schema work ≡ true → op.kind ≡ OverKind work lists → (m : ℕ) (ts : Trees (PlanOp (Named Expression))) → DenoteAll (HoldsPlan expressions plans) (m ∷ []) ts → IsTrue (is_some (unchecked_schema registry (node op ts))) → input_schema (fold_all (unchecked_rule registry) ts) 0 ≡ unchecked_schema registry (node op ts)
    kept_over op work lists keeps kind m (more t no_more) d there = sym (keeps_inputs registry op work lists keeps kind (unchecked_schema registry t) there)
    kept_over op work lists keeps kind m no_more d there = absurd d
    kept_over op work lists keeps kind m (more t (more u us)) d there = absurd d.1

    -- an item, where its first input has the schema that is recorded of it
    by_first : (item : IR) (op : PlanOp (Named Expression)) (ts : Trees (PlanOp (Named Expression))) → DenotesItem expressions plans item (node op ts) → HasRecorded op.recorded (unchecked_schema registry (node op ts)) → input_schema (fold_all recorded_over ts) 0 ≡ input_schema (fold_all (unchecked_rule registry) ts) 0 → schema_recorded (node op ts) ≡ unchecked_schema registry (node op ts)
    by_first item op ts d has first =
        by_recorded op.recorded (unchecked_schema registry (node op ts)) (input_schema (fold_all recorded_over ts) 0) has (λ none.
        let f = keeps_its item d.1.flat d.0 op d.1.is d.1.denotes none in
        first ∙ kept_over op f.0 f.1 f.3 f.4 f.2 ts (subst (λ ns. DenoteAll (HoldsPlan expressions plans) ns ts) f.5 d.2) (has_some op.recorded _ has))

    mutual
      -- a plan that keeps the other rules has the schema that is recorded of it
      pub recorded_is : (n : ℕ) (t : Plan) → Denotes (HoldsPlan expressions plans) n t → KeepsOtherRules registry t → schema_recorded t ≡ unchecked_schema registry t
      recorded_is n (node op ts) d keeps =
          let item = item_of (slice_get plans n) (layer d.1.flat d.0) (sym (slice_get-map plan_layer plans n) ∙ d.1.item) in
          by_first item.0 op ts (d.0, record { flat = d.1.flat; is = item.1; denotes = d.1.denotes }, d.2) keeps.0 (first_is d.0 ts d.2 keeps.1)

      first_is : (ns : List ℕ) (ts : Trees (PlanOp (Named Expression))) → DenoteAll (HoldsPlan expressions plans) ns ts → AllKeepOtherRules registry ts → input_schema (fold_all recorded_over ts) 0 ≡ input_schema (fold_all (unchecked_rule registry) ts) 0
      first_is ns no_more d keeps = refl
      first_is (n ∷ ns) (more t ts) d keeps = recorded_is n t d.0 keeps.0
      first_is [] (more t ts) d keeps = absurd d

    -- and so has what goes into a node over such plans
    pub into_is : (kind : PlanKind (Named Expression)) (ns : List ℕ) (ts : Trees (PlanOp (Named Expression))) → DenoteAll (HoldsPlan expressions plans) ns ts → AllKeepOtherRules registry ts → recorded_into kind ts ≡ unchecked_into registry kind ts
    into_is kind ns no_more d keeps = refl
    into_is kind ns (more t ts) d keeps = first_is ns (more t ts) d keeps

-- and the plan of an item
pub records_unchecked : (plans : List IR) (item : IR) (schema : Columns) → RecordsSchema plans item schema → (expressions : List AExpr) (registry : Registry) (t : Plan) → DenotesItem expressions plans item t → KeepsOtherRules registry t → unchecked_schema registry t ≡ Some schema
records_unchecked plans item schema records expressions registry (node op ts) d keeps =
    sym (by_first expressions plans registry item op ts d keeps.0 (first_is expressions plans registry d.0 ts d.2 keeps.1)) ∙ records expressions (node op ts) d

-- ---- a node has one schema so

pub some_one : (a b : Columns) → Some a ≡ Some b → a ≡ b
some_one a b e = cc

module _ (registry : Registry) (plans : List IR) (n : ℕ) where
  -- it is recorded of whatever plan the node denotes
  pub schema_recorded_is : (schema : Columns) → HasUncheckedSchema registry plans n schema → (items : List AExpr) (t : Plan) → Denotes (HoldsPlan items plans) n t → schema_recorded t ≡ Some schema
  schema_recorded_is schema h items t d =
      recorded_same plans items h.expressions n t h.plan d h.denotes ∙ recorded_is h.expressions plans registry n h.plan h.denotes h.keeps ∙ h.is

  pub one_schema : (a b : Columns) → HasUncheckedSchema registry plans n a → HasUncheckedSchema registry plans n b → a ≡ b
  one_schema a b h k = some_one a b (sym (schema_recorded_is a h k.expressions k.plan k.denotes) ∙ schema_recorded_is b k k.expressions k.plan k.denotes)

-- ---- what is accepted keeps the other rules

none_of : (kinds others : List ErrorKind) → kinds ++ others ≡ [] → (kinds ≡ []) × (others ≡ [])
none_of [] others e = (refl, e)
none_of (kind ∷ kinds) others e = cc

unbroken_none : (kinds : List ErrorKind) (schema : Option Columns) → IsTrue (is_some (where_unbroken kinds schema)) → kinds ≡ []
unbroken_none [] schema h = refl
unbroken_none (kind ∷ kinds) schema h = absurd cc

own_none : (registry : Registry) (kind : PlanKind (Named Expression)) (inputs : List (Option Columns)) → own_kinds registry kind inputs ≡ [] → unchecked_own_kinds registry kind inputs ≡ []
own_none registry (OverKind work lists) (Some schema ∷ []) e = (none_of (all_type_kinds registry work schema lists) _ e).1
own_none registry kind inputs e = e

-- a node that has a schema has it unchecked
unchecked_is : (registry : Registry) (op : PlanOp (Named Expression)) (inputs : List (Option Columns)) → IsTrue (is_some (plan_rule registry op inputs)) → unchecked_rule registry op inputs ≡ plan_rule registry op inputs
unchecked_is registry op inputs h =
    let found = schema_by registry op.kind inputs in
    let none = none_of (expression_kinds registry inputs (expressions_of op.kind)) (own_kinds registry op.kind inputs) (unbroken_none _ found h) in
    ap (λ kinds. where_unbroken (expression_kinds registry inputs (expressions_of op.kind) ++ kinds) found) (own_none registry op.kind inputs none.1 ∙ sym none.1)

module _ (registry : Registry) where
  mutual
    pub accepted_keeps : (t : Plan) → IsAccepted registry t → KeepsOtherRules registry t × (unchecked_schema registry t ≡ schema_of registry t)
    accepted_keeps (node op ts) accepted =
        let below = all_accepted_keep ts accepted.1 in
        let same = ap (unchecked_rule registry op) below.1 ∙ unchecked_is registry op (schemas_of registry ts) (has_some op.recorded _ accepted.0) in
        ((subst (HasRecorded op.recorded) (sym same) accepted.0, below.0), same)

    all_accepted_keep : (ts : Trees (PlanOp (Named Expression))) → AllAccepted registry ts → AllKeepOtherRules registry ts × (fold_all (unchecked_rule registry) ts ≡ schemas_of registry ts)
    all_accepted_keep no_more accepted = (tt, refl)
    all_accepted_keep (more t ts) accepted =
        let first = accepted_keeps t accepted.0 in
        let rest = all_accepted_keep ts accepted.1 in
        ((first.0, rest.0), ap (λ s. s ∷ fold_all (unchecked_rule registry) ts) first.1 ∙ ap (λ ss. schema_of registry t ∷ ss) rest.1)

  -- so its schema is recorded of its item
  pub records_accepted : (plans : List IR) (item : IR) (schema : Columns) → RecordsSchema plans item schema → (expressions : List AExpr) (t : Plan) → DenotesItem expressions plans item t → IsAccepted registry t → schema_of registry t ≡ Some schema
  records_accepted plans item schema records expressions t d accepted =
      let keeps = accepted_keeps t accepted in
      sym keeps.1 ∙ records_unchecked plans item schema records expressions registry t d keeps.0

  -- and what goes into a node of its first input
  pub into_accepted : (expressions : List AExpr) (plans : List IR) (kind : PlanKind (Named Expression)) (ns : List ℕ) (ts : Trees (PlanOp (Named Expression))) → DenoteAll (HoldsPlan expressions plans) ns ts → AllAccepted registry ts → recorded_into kind ts ≡ schema_into registry kind ts
  into_accepted expressions plans kind ns no_more d accepted = refl
  into_accepted expressions plans kind ns (more t ts) d accepted =
      into_is expressions plans registry kind ns (more t ts) d (all_accepted_keep (more t ts) accepted).0 ∙ (accepted_keeps t accepted.0).1

  -- an item that keeps its input's schema, whose input is known
  module _ (expressions : List AExpr) (plans : List IR) (item : IR) (work : Work) (keeps : keeps_schema work ≡ true) (nodes : List (List (Named ℕ))) (recorded : Option Columns) (n : ℕ) (is : plan_layer item ≡ layer (over_op work nodes recorded) (n ∷ [])) where
    kept_children : (op : PlanOp (Named Expression)) (lists : List (List (Named Expression))) → op.kind ≡ OverKind work lists → (ts : Trees (PlanOp (Named Expression))) → DenoteAll (HoldsPlan expressions plans) (n ∷ []) ts → IsAccepted registry (node op ts) → (t : Plan) × Denotes (HoldsPlan expressions plans) n t × IsAccepted registry t × (schema_of registry (node op ts) ≡ schema_of registry t)
    kept_children op lists kind (more t no_more) d accepted =
        let all = accepted_keeps (node op (more t no_more)) accepted in
        let below = accepted_keeps t accepted.1.0 in
        (t, d.0, accepted.1.0, sym all.1 ∙ keeps_inputs registry op work lists keeps kind (unchecked_schema registry t) (has_some op.recorded _ all.0.0) ∙ below.1)
    kept_children op lists kind no_more d accepted = absurd d
    kept_children op lists kind (more t (more u ts)) d accepted = absurd d.1

    -- an accepted one has the schema of its input
    pub kept_item : (t : Plan) → DenotesItem expressions plans item t → IsAccepted registry t → (u : Plan) × Denotes (HoldsPlan expressions plans) n u × IsAccepted registry u × (schema_of registry t ≡ schema_of registry u)
    kept_item (node op ts) d accepted =
        let same = sym d.1.is ∙ is in
        let kind = subst (λ (f : PlanOp (Named ℕ)). DenotesKind expressions f.kind op.kind) (layer_op d.1.flat (over_op work nodes recorded) d.0 (n ∷ []) same) d.1.denotes.kind in
        kept_children op kind.0 kind.1 ts (subst (λ ns. DenoteAll (HoldsPlan expressions plans) ns ts) (layer_inputs d.1.flat (over_op work nodes recorded) d.0 (n ∷ []) same) d.2) accepted

  -- an accepted plan's node has its schema so
  pub accepted_schema : (expressions : List AExpr) (plans : List IR) (n : ℕ) (t : Plan) (schema : Columns) → Denotes (HoldsPlan expressions plans) n t → IsAccepted registry t → schema_of registry t ≡ Some schema → HasUncheckedSchema registry plans n schema
  accepted_schema expressions plans n t schema d accepted is =
      let keeps = accepted_keeps t accepted in
      record { expressions = expressions; plan = t; denotes = d; keeps = keeps.0; is = keeps.1 ∙ is }

  schema_there : (found : Option Columns) → IsTrue (is_some found) → (schema : Columns) × (found ≡ Some schema)
  schema_there (Some schema) h = (schema, refl)
  schema_there None h = absurd cc

  top_there : (t : Plan) → IsAccepted registry t → IsTrue (is_some (schema_of registry t))
  top_there (node op ts) accepted = has_some op.recorded _ accepted.0

  -- and so has each of such nodes
  pub all_accepted_schemas : (expressions : List AExpr) (plans : List IR) (ns : List ℕ) (ts : Trees (PlanOp (Named Expression))) → DenoteAll (HoldsPlan expressions plans) ns ts → AllAccepted registry ts → AllByRecursion (λ n. (schema : Columns) × HasUncheckedSchema registry plans n schema) ns
  all_accepted_schemas expressions plans [] ts d accepted = tt
  all_accepted_schemas expressions plans (n ∷ ns) (more t ts) d accepted =
      let there = schema_there (schema_of registry t) (top_there t accepted.0) in
      ((there.0, accepted_schema expressions plans n t there.0 d.0 accepted.0 there.1), all_accepted_schemas expressions plans ns ts d.1 accepted.1)
  all_accepted_schemas expressions plans (n ∷ ns) no_more d accepted = absurd d
