-- Rules and what breaks them: of expressions, of those of a select and of an hstack, of a predicate, of columns, and of
-- plans.
use Rattle.std.proofs.Common.{◌≡◌, ℕ, zero, suc, List, [], ◌∷◌, ◌++◌, map, Option, Some, None, Bool, true, false, not, is_some, Result, Ok, Err, refl, sym, ap, ◌∙◌, subst, arith}
use Rattle.std.specs.List.{Contains, AllByRecursion, flat_map, list_all}
use Rattle.std.specs.Option.{option_map}
use Rattle.std.proofs.lemmas.List.{map-append}
use Rattle.std.proofs.lemmas.List.Elements.{Contains-append_left, Contains-append_right, Contains-push}
use Rattle.plan_types.specs.Schemas.{Name, Columns, type_at, repeats, names_of, HasDistinctNames, all_known}
use Rattle.plan_types.specs.Types.{Truth, same_type}
use Rattle.plan_types.specs.declared.error.ErrorKind.{ErrorKind}
use Rattle.plan_types.specs.declared.error.ErrorKind.TheVariants.{Duplicate, SchemaMismatch, InvalidOperation, ComputeError}
use Rattle.plan_types.proofs.SchemaLemmas.{repeated_test, test_from_distinct, distinct_from_test}
use Rattle.plan_dsl.specs.Registry.{Registry}
use Rattle.plan_dsl.specs.Trees.{Trees, node, no_more, more, child_at, child_of, tree_at, tree_count}
use Rattle.plan_dsl.specs.Ops.{Op, Expression}
use Rattle.plan_dsl.specs.Plans.{Named, Work, SelectWork, HStackWork, GroupByWork, FilterWork, SliceWork, SortWork, DistinctWork, PassWork, PlanKind, ScanKind, OverKind, RefusedKind, PlanOp, Plan, over_input, scan_op, over_op, select_op, hstack_op, group_by_op, filter_op, simple_projection_op}
use Rattle.plan_dsl.specs.Literals.{settled}
use Rattle.plan_dsl.specs.Names.{Label}
use Rattle.plan_dsl.specs.Signatures.{bare_kinds}
use Rattle.plan_dsl.specs.Typing.{Typed, typing, typing_all, typing_rule, then_typed, typed_before, kind_of, own_kind, kinds_in, kinds_in_all}
use Rattle.plan_dsl.specs.PlanRules.{all_kinds, expression_kinds, kind_where, key_kinds, name_kinds, names_in, scan_kinds, type_kinds, typed_kinds, list_type_kinds, all_type_kinds, work_kinds, stands_in, projection_kinds, broken_kinds, TypedOutput, output_before, typed_outputs, list_before, typed_lists, work_schema, keeps_schema, schema_by, where_unbroken, plan_rule, schema_of, IsWellFormed, AllWellFormed, top_kinds, Breaks}
use Rattle.plan_dsl.specs.Laws.{NoSchemaIsBroken}

same_kind : {A : Type 0} (r : Result A ErrorKind) (k kind : ErrorKind) → r ≡ Err k → r ≡ Err kind → k ≡ kind
same_kind r k kind e f = cc

module _ (registry : Registry) (schema : Columns) where
  mutual
    -- a typed expression breaks no rule
    pub typed_breaks_nothing : (tree : Expression) (typed : Typed) → typing registry schema tree ≡ Ok typed → kinds_in registry schema tree ≡ []
    typed_breaks_nothing (node op children) typed h =
        let rule = typing_rule registry schema op in
        let bare = bare_kinds op (tree_count children) in
        elim (typing_all registry schema children) as (λ r. typing_all registry schema children ≡ r → then_typed r rule ≡ Ok typed → kinds_in_all registry schema children ++ own_kind bare r rule ≡ []) [ Ok ts ↦ λ e t. ap (λ k. k ++ kind_of (rule ts)) (all_break_nothing children ts e) ∙ ap kind_of t | Err k ↦ λ e t. cc ] refl h

    all_break_nothing : (trees : Trees Op) (typed : List Typed) → typing_all registry schema trees ≡ Ok typed → kinds_in_all registry schema trees ≡ []
    all_break_nothing no_more typed h = refl
    all_break_nothing (more child rest) typed h =
        elim (typing registry schema child) as (λ r. typing registry schema child ≡ r → typed_before r (typing_all registry schema rest) ≡ Ok typed → kinds_in registry schema child ++ kinds_in_all registry schema rest ≡ []) [ Ok t ↦ λ e h. elim (typing_all registry schema rest) as (λ r. typing_all registry schema rest ≡ r → typed_before (Ok t) r ≡ Ok typed → kinds_in registry schema child ++ kinds_in_all registry schema rest ≡ []) [ Ok ts ↦ λ es h. ap (λ k. k ++ kinds_in_all registry schema rest) (typed_breaks_nothing child t e) ∙ all_break_nothing rest ts es | Err k ↦ λ es h. cc ] refl h | Err k ↦ λ e h. cc ] refl h

  mutual
    -- the kind for which an expression is refused is one that it breaks
    pub refusal_is_broken : (tree : Expression) (kind : ErrorKind) → typing registry schema tree ≡ Err kind → Contains (kinds_in registry schema tree) kind
    refusal_is_broken (node op children) kind h =
        let rule = typing_rule registry schema op in
        let below = kinds_in_all registry schema children in
        let bare = bare_kinds op (tree_count children) in
        elim (typing_all registry schema children) as (λ r. typing_all registry schema children ≡ r → then_typed r rule ≡ Err kind → Contains (below ++ own_kind bare r rule) kind) [ Ok ts ↦ λ e t. Contains-append_right below (kind_of (rule ts)) kind (subst (λ r. Contains (kind_of r) kind) (sym t) (Contains-push [] kind)) | Err k ↦ λ e t. Contains-append_left below bare kind (one_is_broken children kind (e ∙ ap Err (same_kind (Err k) k kind refl t))) ] refl h

    one_is_broken : (trees : Trees Op) (kind : ErrorKind) → typing_all registry schema trees ≡ Err kind → Contains (kinds_in_all registry schema trees) kind
    one_is_broken no_more kind h = cc
    one_is_broken (more child rest) kind h =
        let first = kinds_in registry schema child in
        let later = kinds_in_all registry schema rest in
        elim (typing registry schema child) as (λ r. typing registry schema child ≡ r → typed_before r (typing_all registry schema rest) ≡ Err kind → Contains (first ++ later) kind) [ Ok t ↦ λ e h. elim (typing_all registry schema rest) as (λ r. typing_all registry schema rest ≡ r → typed_before (Ok t) r ≡ Err kind → Contains (first ++ later) kind) [ Ok ts ↦ λ es h. cc | Err k ↦ λ es h. Contains-append_right first later kind (one_is_broken rest kind (es ∙ h)) ] refl h | Err k ↦ λ e h. Contains-append_left first later kind (refusal_is_broken child kind (e ∙ ap Err (same_kind (Err k) k kind refl h))) ] refl h

  -- what one of a list breaks, the list breaks
  pub kinds_of_one : {A : Type 0} (kinds : A → List ErrorKind) (front : List A) (x : A) (back : List A) (kind : ErrorKind) → Contains (kinds x) kind → Contains (flat_map kinds (front ++ x ∷ back)) kind
  kinds_of_one kinds [] x back kind h = Contains-append_left (kinds x) (flat_map kinds back) kind h
  kinds_of_one kinds (y ∷ front) x back kind h = Contains-append_right (kinds y) (flat_map kinds (front ++ x ∷ back)) kind (kinds_of_one kinds front x back kind h)

  -- expressions break the kind for which one of them is refused
  pub refused_among : (front : List (Named Expression)) (o : Named Expression) (back : List (Named Expression)) (kind : ErrorKind) → typing registry schema (settled o.expression) ≡ Err kind → Contains (all_kinds registry schema (front ++ o ∷ back)) kind
  refused_among front o back kind h = kinds_of_one (λ (x : Named Expression). kinds_in registry schema (settled x.expression)) front o back kind (refusal_is_broken (settled o.expression) kind h)

  lists_break : (lists : List (List (Named Expression))) → expression_kinds registry (Some schema ∷ []) (map (over_input 0) lists) ≡ flat_map (all_kinds registry schema) lists
  lists_break [] = refl
  lists_break (list ∷ lists) = ap (λ kinds. all_kinds registry schema list ++ kinds) (lists_break lists)

  -- a node over an input of the schema breaks what its expressions break,
  module _ (work : Work) (lists : List (List (Named Expression))) (recorded : Option Columns) where
    pub expressions_refused : (kind : ErrorKind) → Contains (flat_map (all_kinds registry schema) lists) kind → Contains (broken_kinds registry (over_op work lists recorded) (Some schema ∷ [])) kind
    expressions_refused kind h =
        Contains-append_left (expression_kinds registry (Some schema ∷ []) (map (over_input 0) lists)) _ kind (subst (λ kinds. Contains kinds kind) (sym (lists_break lists)) h)

    -- what they break by their types,
    pub types_refused : (kind : ErrorKind) → Contains (all_type_kinds registry work schema lists) kind → Contains (broken_kinds registry (over_op work lists recorded) (Some schema ∷ [])) kind
    types_refused kind h =
        Contains-append_right (expression_kinds registry (Some schema ∷ []) (map (over_input 0) lists)) _ kind (Contains-append_left (all_type_kinds registry work schema lists) _ kind h)

    -- and what it breaks whatever these are
    pub work_refused : (kind : ErrorKind) → Contains (work_kinds work schema (map names_in lists)) kind → Contains (broken_kinds registry (over_op work lists recorded) (Some schema ∷ [])) kind
    work_refused kind h =
        Contains-append_right (expression_kinds registry (Some schema ∷ []) (map (over_input 0) lists)) _ kind (Contains-append_right (all_type_kinds registry work schema lists) _ kind h)

  -- the kind for which one of its first list is refused, and one of its second
  pub first_refused : (work : Work) (recorded : Option Columns) (front : List (Named Expression)) (o : Named Expression) (back : List (Named Expression)) (lists : List (List (Named Expression))) (kind : ErrorKind) → typing registry schema (settled o.expression) ≡ Err kind → Contains (broken_kinds registry (over_op work ((front ++ o ∷ back) ∷ lists) recorded) (Some schema ∷ [])) kind
  first_refused work recorded front o back lists kind h =
      expressions_refused work ((front ++ o ∷ back) ∷ lists) recorded kind (Contains-append_left (all_kinds registry schema (front ++ o ∷ back)) _ kind (refused_among front o back kind h))

  pub second_refused : (work : Work) (recorded : Option Columns) (first front : List (Named Expression)) (o : Named Expression) (back : List (Named Expression)) (lists : List (List (Named Expression))) (kind : ErrorKind) → typing registry schema (settled o.expression) ≡ Err kind → Contains (broken_kinds registry (over_op work (first ∷ (front ++ o ∷ back) ∷ lists) recorded) (Some schema ∷ [])) kind
  second_refused work recorded first front o back lists kind h =
      expressions_refused work (first ∷ (front ++ o ∷ back) ∷ lists) recorded kind (Contains-append_right (all_kinds registry schema first) _ kind (Contains-append_left (all_kinds registry schema (front ++ o ∷ back)) _ kind (refused_among front o back kind h)))

  -- names of which one stands among those before it repeat, and break that rule
  pub repeated_name : (before : Columns) (front : List (Named Expression)) (o : Named Expression) (back : List (Named Expression)) → names_of before ≡ names_in front → is_some (type_at before o.label.name) ≡ true → repeats (names_in (front ++ o ∷ back)) ≡ true
  repeated_name before front o back names found =
      ap repeats (map-append (λ (x : Named Expression). x.label.name) front (o ∷ back) ∙ ap (λ l. l ++ o.label.name ∷ names_in back) (sym names)) ∙ repeated_test before o.label.name (names_in back) found

  pub names_refused : (kind : ErrorKind) (names : List Name) → repeats names ≡ true → Contains (name_kinds kind names) kind
  names_refused kind names h = subst (λ b. Contains (kind_where b kind) kind) (sym h) (Contains-push [] kind)

  -- in a select, and in an hstack
  pub select_repeated_name : (recorded : Option Columns) (before : Columns) (front : List (Named Expression)) (o : Named Expression) (back : List (Named Expression)) → names_of before ≡ names_in front → is_some (type_at before o.label.name) ≡ true → Contains (broken_kinds registry (select_op (front ++ o ∷ back) recorded) (Some schema ∷ [])) Duplicate
  select_repeated_name recorded before front o back names found =
      work_refused SelectWork ((front ++ o ∷ back) ∷ []) recorded Duplicate (names_refused Duplicate (names_in (front ++ o ∷ back)) (repeated_name before front o back names found))

  pub hstack_repeated_name : (recorded : Option Columns) (before : Columns) (front : List (Named Expression)) (o : Named Expression) (back : List (Named Expression)) → names_of before ≡ names_in front → is_some (type_at before o.label.name) ≡ true → Contains (broken_kinds registry (hstack_op (front ++ o ∷ back) recorded) (Some schema ∷ [])) ComputeError
  hstack_repeated_name recorded before front o back names found =
      work_refused HStackWork ((front ++ o ∷ back) ∷ []) recorded ComputeError (names_refused ComputeError (names_in (front ++ o ∷ back)) (repeated_name before front o back names found))

  -- a group-by without keys breaks that rule
  pub no_keys_kind : (recorded : Option Columns) (aggs : List (Named Expression)) → Contains (broken_kinds registry (group_by_op [] aggs recorded) (Some schema ∷ [])) ComputeError
  no_keys_kind recorded aggs =
      work_refused GroupByWork ([] ∷ aggs ∷ []) recorded ComputeError (Contains-append_left (ComputeError ∷ []) _ ComputeError (Contains-push [] ComputeError))

  -- and one whose names of keys and aggregates repeat that of distinct names
  pub group_repeated_names : (recorded : Option Columns) (keys aggs : List (Named Expression)) → repeats (names_in keys ++ names_in aggs) ≡ true → Contains (broken_kinds registry (group_by_op keys aggs recorded) (Some schema ∷ [])) Duplicate
  group_repeated_names recorded keys aggs repeated =
      work_refused GroupByWork (keys ∷ aggs ∷ []) recorded Duplicate (Contains-append_right (key_kinds (names_in keys)) _ Duplicate (names_refused Duplicate (names_in keys ++ names_in aggs) repeated))

  -- a filter whose predicate has another type than that of truth values breaks the rule of its type
  pub filter_other_type : (predicate : Named Expression) (typed : Typed) → typing registry schema (settled predicate.expression) ≡ Ok typed → same_type typed.type Truth ≡ false → Contains (broken_kinds registry (filter_op predicate) (Some schema ∷ [])) InvalidOperation
  filter_other_type predicate typed h other =
      let broken = subst (λ b. Contains (kind_where (not b) InvalidOperation) InvalidOperation) (sym other) (Contains-push [] InvalidOperation) in
      let here = Contains-append_left (type_kinds FilterWork typed) [] InvalidOperation broken in
      types_refused FilterWork ((predicate ∷ []) ∷ []) None InvalidOperation (Contains-append_left _ [] InvalidOperation (subst (λ r. Contains (typed_kinds FilterWork r ++ []) InvalidOperation) (sym h) here))

  not_contained : (kinds : List ErrorKind) (kind : ErrorKind) → kinds ≡ [] → Contains kinds kind → ⊥
  not_contained [] kind e h = omega (arith, h.1)
  not_contained (k ∷ ks) kind e h = cc

  -- the predicate of a filter that breaks no rule has a type
  pub predicate_typed : (predicate : Named Expression) → broken_kinds registry (filter_op predicate) (Some schema ∷ []) ≡ [] → (typed : Typed) × (typing registry schema (settled predicate.expression) ≡ Ok typed)
  predicate_typed predicate none =
      elim (typing registry schema (settled predicate.expression)) as (λ r. typing registry schema (settled predicate.expression) ≡ r → (typed : Typed) × (typing registry schema (settled predicate.expression) ≡ Ok typed)) [ Ok typed ↦ λ e. (typed, e) | Err kind ↦ λ e. absurd (not_contained _ kind none (first_refused FilterWork None [] predicate [] [] kind e)) ] refl

  -- expressions that are typed, each with its name, tree and type
  module _ {A : Type 0} (label : A → Label) (tree : A → Expression) (typed : A → Typed) where
    abbrev output : A → Named Expression
    output a = record { label = label a; expression = tree a }

    abbrev typed_output : A → TypedOutput
    typed_output a = record { name = (label a).name; typed = typed a }

    abbrev AreTyped : List A → Type 0
    AreTyped outputs = AllByRecursion (λ a. typing registry schema (settled (tree a)) ≡ Ok (typed a)) outputs

    abbrev names_from : List A → List Name
    names_from outputs = map (λ a. (label a).name) outputs

    abbrev types_from : Work → List A → List ErrorKind
    types_from work outputs = flat_map (λ a. type_kinds work (typed a)) outputs

    -- they have these types
    pub outputs_from_typed : (outputs : List A) → AreTyped outputs → typed_outputs registry schema (map output outputs) ≡ Some (map typed_output outputs)
    outputs_from_typed [] h = refl
    outputs_from_typed (a ∷ rest) h =
        ap (λ r. output_before (label a).name r (typed_outputs registry schema (map output rest))) h.0
        ∙ ap (output_before (label a).name (Ok (typed a))) (outputs_from_typed rest h.1)

    pub lists_from_typed : (lists : List (List A)) → AllByRecursion AreTyped lists → typed_lists registry schema (map (map output) lists) ≡ Some (map (map typed_output) lists)
    lists_from_typed [] h = refl
    lists_from_typed (list ∷ lists) h =
        ap (λ o. list_before o (typed_lists registry schema (map (map output) lists))) (outputs_from_typed list h.0)
        ∙ ap (list_before (Some (map typed_output list))) (lists_from_typed lists h.1)

    -- break no rule
    pub no_kinds_from_typed : (outputs : List A) → AreTyped outputs → all_kinds registry schema (map output outputs) ≡ []
    no_kinds_from_typed [] h = refl
    no_kinds_from_typed (a ∷ rest) h =
        ap (λ k. k ++ all_kinds registry schema (map output rest)) (typed_breaks_nothing (settled (tree a)) (typed a) h.0) ∙ no_kinds_from_typed rest h.1

    no_kinds_in_lists : (lists : List (List A)) → AllByRecursion AreTyped lists → expression_kinds registry (Some schema ∷ []) (map (over_input 0) (map (map output) lists)) ≡ []
    no_kinds_in_lists [] h = refl
    no_kinds_in_lists (list ∷ lists) h =
        ap (λ k. k ++ expression_kinds registry (Some schema ∷ []) (map (over_input 0) (map (map output) lists))) (no_kinds_from_typed list h.0) ∙ no_kinds_in_lists lists h.1

    -- but what their types break
    kinds_from_types : (work : Work) (outputs : List A) → AreTyped outputs → list_type_kinds registry work schema (map output outputs) ≡ types_from work outputs
    kinds_from_types work [] h = refl
    kinds_from_types work (a ∷ rest) h =
        let later = kinds_from_types work rest h.1 in
        ap (λ r. typed_kinds work r ++ list_type_kinds registry work schema (map output rest)) h.0 ∙ ap (λ k. type_kinds work (typed a) ++ k) later

    kinds_from_lists : (work : Work) (lists : List (List A)) → AllByRecursion AreTyped lists → all_type_kinds registry work schema (map (map output) lists) ≡ flat_map (types_from work) lists
    kinds_from_lists work [] h = refl
    kinds_from_lists work (list ∷ lists) h =
        let first = kinds_from_types work list h.0 in
        let later = kinds_from_lists work lists h.1 in
        λ i. first i ++ later i

    names_are : (outputs : List A) → names_in (map output outputs) ≡ names_from outputs
    names_are [] = refl
    names_are (a ∷ rest) = ap (λ l. (label a).name ∷ l) (names_are rest)

    names_of_lists : (lists : List (List A)) → map names_in (map (map output) lists) ≡ map names_from lists
    names_of_lists [] = refl
    names_of_lists (list ∷ lists) =
        let first = names_are list in
        let later = names_of_lists lists in
        λ i. first i ∷ later i

    -- so a node over them has the schema that its work makes of their types, where it breaks no rule by these, nor whatever these are
    pub work_has_schema : (work : Work) (recorded : Option Columns) (lists : List (List A)) → AllByRecursion AreTyped lists → flat_map (types_from work) lists ≡ [] → work_kinds work schema (map names_from lists) ≡ [] → plan_rule registry (over_op work (map (map output) lists) recorded) (Some schema ∷ []) ≡ Some (work_schema work schema (map (map typed_output) lists))
    work_has_schema work recorded lists h types kinds =
        let outputs = map (map output) lists in
        let found = schema_by registry (OverKind work outputs) (Some schema ∷ []) in
        let none = ap (λ k. k ++ (all_type_kinds registry work schema outputs ++ work_kinds work schema (map names_in outputs))) (no_kinds_in_lists lists h) in
        let typed_none = ap (λ k. k ++ work_kinds work schema (map names_in outputs)) (kinds_from_lists work lists h ∙ types) in
        let own_none = ap (work_kinds work schema) (names_of_lists lists) ∙ kinds in
        ap (λ k. where_unbroken k found) (none ∙ typed_none ∙ own_none) ∙ ap (option_map (work_schema work schema)) (lists_from_typed lists h)

  -- a filter by a typed predicate of truth values has the schema of its input
  pub filter_schema : (predicate : Named Expression) (typed : Typed) → typing registry schema (settled predicate.expression) ≡ Ok typed → typed.type ≡ Truth → plan_rule registry (filter_op predicate) (Some schema ∷ []) ≡ Some schema
  filter_schema predicate typed h truth =
      work_has_schema (λ (o : Named Expression). o.label) (λ o. o.expression) (λ o. typed) FilterWork None ((predicate ∷ []) ∷ []) ((h, tt), tt) (ap (λ t. (kind_where (not (same_type t Truth)) InvalidOperation ++ []) ++ []) truth) refl

-- where a work asks nothing of types, none is broken by them
pub no_types : {A : Type 0} (outputs : List A) → flat_map {X = A} {A = ErrorKind} (λ a. []) outputs ≡ []
no_types [] = refl
no_types (a ∷ rest) = no_types rest

-- the names of columns that are distinct break no rule of names
pub distinct_names : (kind : ErrorKind) (names : List Name) (columns : Columns) → names ≡ names_of columns → HasDistinctNames columns → name_kinds kind names ≡ []
distinct_names kind names columns are distinct = ap (λ b. kind_where b kind) (ap repeats are ∙ test_from_distinct columns distinct)

-- a work that keeps its input's schema has that
pub kept_schemas : (work : Work) → keeps_schema work ≡ true → (schema : Columns) (outputs : List (List TypedOutput)) → work_schema work schema outputs ≡ schema
kept_schemas FilterWork keeps schema outputs = refl
kept_schemas (SliceWork offset count) keeps schema outputs = refl
kept_schemas (SortWork descending nulls_last) keeps schema outputs = refl
kept_schemas (DistinctWork keep subset) keeps schema outputs = refl
kept_schemas (PassWork passing) keeps schema outputs = refl
kept_schemas work keeps schema outputs = absurd cc

-- a scan of columns with types has its table's schema
pub scan_schema : (registry : Registry) (table : Option ℕ) (own : Columns) → HasDistinctNames own → all_known own ≡ true → plan_rule registry (scan_op table own) [] ≡ Some own
scan_schema registry table own distinct known =
    ap (λ b. where_unbroken (kind_where (not b) InvalidOperation ++ kind_where (repeats (names_of own)) Duplicate) (Some own)) known
    ∙ ap (λ b. where_unbroken (kind_where b Duplicate) (Some own)) (test_from_distinct own distinct)

-- a scan of a column whose type isn't known breaks that rule
pub scan_unknown_kind : (own : Columns) → all_known own ≡ false → Contains (scan_kinds own) InvalidOperation
scan_unknown_kind own h =
    Contains-append_left (kind_where (not (all_known own)) InvalidOperation) _ InvalidOperation (subst (λ b. Contains (kind_where (not b) InvalidOperation) InvalidOperation) (sym h) (Contains-push [] InvalidOperation))

-- a simple projection of columns that stand in its input, with distinct names, has them
pub projection_schema : (registry : Registry) (recorded : Option Columns) (schema own : Columns) → list_all (stands_in schema) own ≡ true → HasDistinctNames own → plan_rule registry (simple_projection_op own recorded) (Some schema ∷ []) ≡ Some own
projection_schema registry recorded schema own stand distinct =
    ap (λ b. where_unbroken (kind_where (not b) InvalidOperation ++ name_kinds Duplicate (names_of own)) (Some own)) stand
    ∙ ap (λ b. where_unbroken (kind_where b Duplicate) (Some own)) (test_from_distinct own distinct)

-- one of a column that doesn't stand there with its type breaks that rule, and one of repeated names that of names
pub projection_absent_kind : (registry : Registry) (recorded : Option Columns) (schema own : Columns) → list_all (stands_in schema) own ≡ false → Contains (broken_kinds registry (simple_projection_op own recorded) (Some schema ∷ [])) InvalidOperation
projection_absent_kind registry recorded schema own h =
    Contains-append_left (kind_where (not (list_all (stands_in schema) own)) InvalidOperation) _ InvalidOperation (subst (λ b. Contains (kind_where (not b) InvalidOperation) InvalidOperation) (sym h) (Contains-push [] InvalidOperation))

pub projection_repeated_name : (registry : Registry) (recorded : Option Columns) (schema own : Columns) → repeats (names_of own) ≡ true → Contains (broken_kinds registry (simple_projection_op own recorded) (Some schema ∷ [])) Duplicate
projection_repeated_name registry recorded schema own h =
    Contains-append_right (kind_where (not (list_all (stands_in schema) own)) InvalidOperation) _ Duplicate (names_refused registry schema Duplicate (names_of own) h)

-- a node that breaks a kind of rule has no schema
broken_has_none : (kinds : List ErrorKind) (kind : ErrorKind) (found : Option Columns) → Contains kinds kind → is_some (where_unbroken kinds found) ≡ false
broken_has_none [] kind found h = absurd (omega (arith, h.1))
broken_has_none (k ∷ ks) kind found h = refl

not_both : (b : Bool) → b ≡ false → b ≡ true → ⊥
not_both b none some = cc

-- a node that has a schema breaks no rule, and has the schema that its kind gives it
pub unbroken_kinds : (kinds : List ErrorKind) (found : Option Columns) (schema : Columns) → where_unbroken kinds found ≡ Some schema → kinds ≡ []
unbroken_kinds [] found schema h = refl
unbroken_kinds (k ∷ ks) found schema h = cc

pub unbroken_schema : (kinds : List ErrorKind) (found : Option Columns) (schema : Columns) → where_unbroken kinds found ≡ Some schema → found ≡ Some schema
unbroken_schema [] found schema h = h
unbroken_schema (k ∷ ks) found schema h = cc

pub no_tail : (kinds tail : List ErrorKind) → kinds ++ tail ≡ [] → tail ≡ []
no_tail [] tail h = h
no_tail (k ∷ ks) tail h = cc

pub no_front : (kinds tail : List ErrorKind) → kinds ++ tail ≡ [] → kinds ≡ []
no_front [] tail h = refl
no_front (k ∷ ks) tail h = cc

not_refused : (b : Bool) → kind_where (not b) InvalidOperation ≡ [] → b ≡ true
not_refused true h = refl
not_refused false h = cc

-- names that break no rule don't repeat
pub not_repeated : (b : Bool) (kind : ErrorKind) → kind_where b kind ≡ [] → b ≡ false
not_repeated true kind h = cc
not_repeated false kind h = refl

-- the columns of a scan that breaks no rule have distinct names
pub scan_distinct : (own : Columns) → scan_kinds own ≡ [] → HasDistinctNames own
scan_distinct own none = distinct_from_test own (not_repeated (repeats (names_of own)) Duplicate (no_tail (kind_where (not (all_known own)) InvalidOperation) _ none))

-- the columns of a simple projection that breaks no rule stand in its input, and have distinct names
pub projection_stands : (schema own : Columns) → projection_kinds schema own ≡ [] → list_all (stands_in schema) own ≡ true
projection_stands schema own none = not_refused (list_all (stands_in schema) own) (no_front _ (kind_where (repeats (names_of own)) Duplicate) none)

pub projection_distinct : (schema own : Columns) → projection_kinds schema own ≡ [] → HasDistinctNames own
projection_distinct schema own none =
    distinct_from_test own (not_repeated (repeats (names_of own)) Duplicate (no_tail (kind_where (not (list_all (stands_in schema) own)) InvalidOperation) _ none))

-- expressions of which one has no type break a kind
untyped_breaks : (registry : Registry) (under : Columns) (os : List (Named Expression)) → typed_outputs registry under os ≡ None → (kind : ErrorKind) × Contains (all_kinds registry under os) kind
untyped_breaks registry under [] h = absurd cc
untyped_breaks registry under (o ∷ os) h =
    let rest = typed_outputs registry under os in
    let own = kinds_in registry under (settled o.expression) in
    elim (typing registry under (settled o.expression)) as (λ t. typing registry under (settled o.expression) ≡ t → output_before o.label.name t rest ≡ None → (kind : ErrorKind) × Contains (own ++ all_kinds registry under os) kind) [ Ok typed ↦ λ e h. elim rest as (λ r. rest ≡ r → output_before o.label.name (Ok typed) r ≡ None → (kind : ErrorKind) × Contains (own ++ all_kinds registry under os) kind) [ Some outputs ↦ λ e h. absurd cc | None ↦ λ e h. let later = untyped_breaks registry under os e in (later.0, Contains-append_right own (all_kinds registry under os) later.0 later.1) ] refl h | Err kind ↦ λ e h. (kind, Contains-append_left own (all_kinds registry under os) kind (refusal_is_broken registry under (settled o.expression) kind e)) ] refl h

-- so do lists of them
untyped_lists_break : (registry : Registry) (under : Columns) (lists : List (List (Named Expression))) → typed_lists registry under lists ≡ None → (kind : ErrorKind) × Contains (flat_map (all_kinds registry under) lists) kind
untyped_lists_break registry under [] h = absurd cc
untyped_lists_break registry under (list ∷ lists) h =
    let first = typed_outputs registry under list in
    let rest = typed_lists registry under lists in
    let kinds = all_kinds registry under list in
    let others = flat_map (all_kinds registry under) lists in
    elim first as (λ f. first ≡ f → list_before f rest ≡ None → (kind : ErrorKind) × Contains (kinds ++ others) kind) [ Some outputs ↦ λ e h. elim rest as (λ r. rest ≡ r → list_before (Some outputs) r ≡ None → (kind : ErrorKind) × Contains (kinds ++ others) kind) [ Some found ↦ λ f h. absurd cc | None ↦ λ f h. let later = untyped_lists_break registry under lists f in (later.0, Contains-append_right kinds others later.0 later.1) ] refl h | None ↦ λ e h. let found = untyped_breaks registry under list e in (found.0, Contains-append_left kinds others found.0 found.1) ] refl h

-- where there would be a schema, a node that has none breaks a kind
some_kind : (kinds : List ErrorKind) (schema : Columns) → where_unbroken kinds (Some schema) ≡ None → (kind : ErrorKind) × Contains kinds kind
some_kind [] schema h = absurd cc
some_kind (kind ∷ kinds) schema h = (kind, Contains-append_left (kind ∷ []) kinds kind (Contains-push [] kind))

some_last : (kinds : List ErrorKind) (last : ErrorKind) → (kind : ErrorKind) × Contains (kinds ++ last ∷ []) kind
some_last kinds last = (last, Contains-append_right kinds (last ∷ []) last (Contains-push [] last))

-- a node over one input without a schema, which has one, breaks a rule
work_breaks : (registry : Registry) (under : Columns) (work : Work) (lists : List (List (Named Expression))) (recorded : Option Columns) → plan_rule registry (over_op work lists recorded) (Some under ∷ []) ≡ None → (kind : ErrorKind) × Contains (broken_kinds registry (over_op work lists recorded) (Some under ∷ [])) kind
work_breaks registry under work lists recorded h =
    let kinds = broken_kinds registry (over_op work lists recorded) (Some under ∷ []) in
    let found = typed_lists registry under lists in
    elim found as (λ f. found ≡ f → where_unbroken kinds (option_map (work_schema work under) f) ≡ None → (kind : ErrorKind) × Contains kinds kind) [ Some outputs ↦ λ e h. some_kind kinds (work_schema work under outputs) h | None ↦ λ e h. let broken = untyped_lists_break registry under lists e in (broken.0, expressions_refused registry under work lists recorded broken.0 broken.1) ] refl h

-- a node of the kind without a schema, whose inputs have one, breaks a rule
kind_breaks : (registry : Registry) (kind : PlanKind (Named Expression)) (inputs : List Columns) → ¬ (kind ≡ RefusedKind []) → plan_rule registry (record { kind = kind; recorded = None }) (map Some inputs) ≡ None → (k : ErrorKind) × Contains (broken_kinds registry (record { kind = kind; recorded = None }) (map Some inputs)) k
kind_breaks registry (ScanKind table schema) [] known h = some_kind (scan_kinds schema) schema h
kind_breaks registry (ScanKind table schema) (under ∷ inputs) known h = some_last [] SchemaMismatch
kind_breaks registry (OverKind work lists) [] known h = some_last (expression_kinds registry [] (map (over_input 0) lists)) SchemaMismatch
kind_breaks registry (OverKind work lists) (under ∷ []) known h = work_breaks registry under work lists None h
kind_breaks registry (OverKind work lists) (under ∷ other ∷ inputs) known h =
    some_last (expression_kinds registry (Some under ∷ Some other ∷ map Some inputs) (map (over_input 0) lists)) SchemaMismatch
kind_breaks registry (RefusedKind []) inputs known h = absurd (known refl)
kind_breaks registry (RefusedKind (kind ∷ kinds)) inputs known h = (kind, Contains-append_left (kind ∷ []) kinds kind (Contains-push [] kind))

pub no_schema_is_broken : NoSchemaIsBroken
no_schema_is_broken registry op inputs known h = kind_breaks registry op.kind inputs known h

module _ (registry : Registry) where
  -- there is no plan, or it is well formed
  abbrev IsWellFormedWhere : Option Plan → Type 0
  IsWellFormedWhere None = Unit {0}
  IsWellFormedWhere (Some plan) = IsWellFormed registry plan

  child_well_formed : (inputs : Trees (PlanOp (Named Expression))) (number : ℕ) → AllWellFormed registry inputs → IsWellFormedWhere (child_at inputs number)
  child_well_formed no_more number h = tt
  child_well_formed (more plan rest) zero h = h.0
  child_well_formed (more plan rest) (suc number) h = child_well_formed rest number h.1

  step_well_formed : (plan : Option Plan) (number : ℕ) → IsWellFormedWhere plan → IsWellFormedWhere (child_of plan number)
  step_well_formed None number h = tt
  step_well_formed (Some (node op inputs)) number h = child_well_formed inputs number h.1

  place_well_formed : (plan : Option Plan) (place : List ℕ) → IsWellFormedWhere plan → IsWellFormedWhere (tree_at plan place)
  place_well_formed plan [] h = h
  place_well_formed plan (number ∷ place) h = place_well_formed (child_of plan number) place (step_well_formed plan number h)

  is_there : (found : Option Columns) → is_some found ≡ true → (schema : Columns) × (found ≡ Some schema)
  is_there None h = cc
  is_there (Some schema) h = (schema, refl)

  -- a well-formed plan has a schema
  pub well_formed_schema : (plan : Plan) → IsWellFormed registry plan → (schema : Columns) × (schema_of registry plan ≡ Some schema)
  well_formed_schema (node op inputs) h = is_there _ h.0

  unbroken_top : (plan : Option Plan) (kind : ErrorKind) → Contains (top_kinds registry plan) kind → IsWellFormedWhere plan → ⊥
  unbroken_top None kind broken h = omega (arith, broken.1)
  unbroken_top (Some (node op inputs)) kind broken h =
      not_both _ (broken_has_none (top_kinds registry (Some (node op inputs))) kind _ broken) h.0

  -- a plan in which a rule is broken at some place is not well formed
  pub broken_is_ill_formed : (kind : ErrorKind) (place : List ℕ) (plan : Plan) → Breaks registry kind place plan → ¬ (IsWellFormed registry plan)
  broken_is_ill_formed kind place plan broken h = unbroken_top (tree_at (Some plan) place) kind broken (place_well_formed (Some plan) place h)
