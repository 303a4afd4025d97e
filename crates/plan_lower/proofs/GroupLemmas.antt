-- Group-bys: their columns, what is built from them, and why one isn't lowered.
use Rattle.std.proofs.Common.{◌≡◌, ◌||◌, ℕ, zero, suc, ◌+◌, ◌<◌, ◌≤◌, ◌==◌, List, [], ◌∷◌, ◌++◌, length, map, drop, get_or, Bool, true, false, is_some, Some, None, Ok, slice_get, refl, sym, ap, ◌∙◌, subst, arith, append_assoc, append-nil, ⊎_elim}
use Rattle.std.specs.List.{AllByRecursion, Contains, flat_map, list_all}
use Rattle.std.specs.Option.{option_map}
use Rattle.std.proofs.lemmas.List.{drop_all, map-append, length-map}
use Rattle.std.proofs.lemmas.Bool.{and_parts}
use Rattle.std.proofs.lemmas.Option.{slice_get_within, slice_get-get_or, slice_get-map, get_or_from_slice_get}
use Rattle.plan_types.specs.Types.{Ty}
use Rattle.plan_types.specs.Schemas.{Name, Columns, same_name, type_at, HasDistinctNames, is_among, repeats, names_of}
use Rattle.plan_types.specs.Errors.{at_top}
use Rattle.plan_types.specs.declared.error.ErrorKind.{ErrorKind}
use Rattle.plan_types.specs.declared.error.ErrorKind.TheVariants.{ComputeError, Duplicate}
use Rattle.plan_types.specs.declared.error.PlanError.{PlanError}
use Rattle.plan_types.proofs.ListLemmas.{item_left, map-map}
use Rattle.plan_types.proofs.SchemaLemmas.{repeated_test}
use Rattle.plan_dsl.specs.Registry.{Registry}
use Rattle.plan_dsl.specs.Ops.{Expression}
use Rattle.plan_dsl.specs.Aliases.{spelled}
use Rattle.plan_dsl.specs.Literals.{settled}
use Rattle.plan_dsl.specs.Names.{name_of}
use Rattle.plan_dsl.specs.Plans.{GroupByWork, Named, named, group_by_op}
use Rattle.plan_dsl.specs.PlanRules.{TypedOutput, aggregate_columns, broken_kinds, names_in, type_in_groups, work_kinds}
use Rattle.plan_dsl.specs.Refusals.{then_ok}
use Rattle.plan_dsl.specs.Resolving.{expanded_lists, over_expanded, over_keys}
use Rattle.plan_dsl.specs.Sources.{Source, is_plain, written}
use Rattle.plan_dsl.specs.Expressions.{plain_tree, tree_of}
use Rattle.plan_dsl.specs.declared.expr.Expr.{Expr}
use Rattle.plan_dsl.proofs.ExpansionLemmas.{what_is_plain}
use Rattle.plan_dsl.specs.Expansion.{expansions, key_names}
use Rattle.plan_dsl.specs.Typing.{Typed}
use Rattle.plan_dsl.proofs.GroupLemmas.{or_right}
use Rattle.plan_dsl.proofs.RuleLemmas.{distinct_names, first_refused, group_repeated_names, no_keys_kind, no_types, repeated_name, second_refused}
use Rattle.plan_arena.specs.declared.aexpr.AExpr.{AExpr}
use Rattle.plan_arena.specs.declared.ir.IR.{IR}
use Rattle.plan_arena.specs.Layers.{layer}
use Rattle.plan_arena.specs.declared.expr_ir.ExprIR.{ExprIR}
use Rattle.plan_arena.specs.Items.{DenoteNamed, named_node, plan_layer}
use Rattle.plan_arena.proofs.ItemLemmas.{any_node, named_kept}
use Rattle.plan_expand.specs.Refusals.{IsUnexpanded}
use Rattle.plan_lower.proofs.SpelledLemmas.{typed_spelled}
use Rattle.plan_infer.specs.KeptTypes.{AllKept, IsKept, IsRight, KeepsEntry, KeepsTyped, typed_of}
use Rattle.plan_infer.specs.declared.type_table.Inferred.{Inferred}
use Rattle.plan_infer.specs.declared.type_table.TypeTable.{TypeTable}
use Rattle.plan_infer.proofs.TableLemmas.{keeps_one, kept_typing}
use Rattle.plan_lower.specs.Groups.{HasAggregates, HasExpandedGroups, HasGroups, IsAggregateRefusal, not_typed, twice, IsGroupRefusal, short, without_keys, of_keys, of_aggregates, IsUngrouped, keys_unexpanded, aggregates_unexpanded, not_grouped, group_column, group_columns_of, named_in_groups}
use Rattle.plan_coerce.specs.Optimizer.{AreWrittenOut}
use Rattle.plan_lower.specs.declared.conversion.asked.Asked.TheVariants.{NewName}
use Rattle.plan_lower.specs.Nodes.{KeepsExpressions}
use Rattle.plan_lower.specs.Outputs.{HasOutputs, Lowered, lowered_column, lowered_named}
use Rattle.plan_lower.specs.Projection.{IsOutput, IsProjectionRefusal, Output, output_node, Projects}
use Rattle.plan_lower.proofs.BuiltLemmas.{unexpanded_then}
use Rattle.plan_lower.proofs.ProjectionLemmas.{alike, has_lowered}
use Rattle.plan_lower.proofs.WorkLemmas.{columns_are, names_against, names_are}
use Rattle.plan_lower.specs.Works.{IsWorkAt, IsWorkRefusal, against_a_rule, lowered_names, lowered_output, unresolved, without_memory}

-- ---- names

or_kept : (a b c : Bool) → (b ≡ true → c ≡ true) → (a || b) ≡ true → (a || c) ≡ true
or_kept true b c later h = refl
or_kept false b c later h = later h

both_kept : (a b c d : Bool) → (a ≡ true → b ≡ true) → (c ≡ true → d ≡ true) → (a || c) ≡ true → (b || d) ≡ true
both_kept true b c d first later h = ap (λ x. x || d) (first refl)
both_kept false b c d first later h = or_right b d (later h)

among_left : (name : Name) (xs ys : List Name) → is_among name xs ≡ true → is_among name (xs ++ ys) ≡ true
among_left name [] ys h = cc
among_left name (x ∷ xs) ys h = or_kept (same_name name x) (is_among name xs) (is_among name (xs ++ ys)) (among_left name xs ys) h

pub repeats_left : (xs ys : List Name) → repeats xs ≡ true → repeats (xs ++ ys) ≡ true
repeats_left [] ys h = cc
repeats_left (x ∷ xs) ys h = both_kept (is_among x xs) (is_among x (xs ++ ys)) (repeats xs) (repeats (xs ++ ys)) (among_left x xs ys) (repeats_left xs ys) h

pub repeats_right : (xs ys : List Name) → repeats ys ≡ true → repeats (xs ++ ys) ≡ true
repeats_right [] ys h = h
repeats_right (x ∷ xs) ys h = or_right (is_among x (xs ++ ys)) (repeats (xs ++ ys)) (repeats_right xs ys h)

-- ---- columns in groups

abbrev pub root_of : ExprIR → ℕ
root_of e = (named_node e).expression

abbrev pub name_at : ExprIR → Name
name_at e = (named_node e).label.name

abbrev output_group_column : Output → Name × Ty
output_group_column o = (name_of o.tree, type_in_groups o.typed)

-- what is kept of outputs' nodes are their typings
pub outputs_kept : (registry : Registry) (schema : Columns) (first : ℕ) (items : List AExpr) (table : TypeTable) → IsRight registry schema items table → (outputs : List Output) → AllByRecursion (IsOutput registry schema first items) outputs → AllByRecursion (IsKept table) (map (λ (o : Output). o.node) outputs) → AllKept table (map (λ (o : Output). o.node) outputs) (map (λ (o : Output). o.typed) outputs)
outputs_kept registry schema first items table right [] each kept = tt
outputs_kept registry schema first items table right (o ∷ os) each kept =
    let tree = settled (spelled o.tree) in
    let found = kept_typing registry schema items table right o.node kept.0.own kept.0.keeps tree (any_node first items o.node tree each.0.denotes) in
    let typed = typed_spelled registry schema o.tree o.typed each.0.typed in
    (record { own = kept.0.own; keeps = kept.0.keeps; is = cc }, outputs_kept registry schema first items table right os each.1 kept.1)

outputs_in_groups : (outputs : List Output) → named_in_groups (map output_node outputs) (map (λ (o : Output). o.typed) outputs) ≡ map output_group_column outputs
outputs_in_groups [] = refl
outputs_in_groups (o ∷ os) = ap (λ l. output_group_column o ∷ l) (outputs_in_groups os)

-- aggregates that were projected and coerced, with their columns in groups behind those of the keys
pub has_aggregates : (registry : Registry) (schema : Columns) (first : ℕ) (old new : List AExpr) (table : TypeTable) (trees : List Expression) (nodes : List (Named ℕ)) (roots : List ℕ) (own keys whole : Columns) → (p : Projects registry schema (NewName Duplicate) first old trees nodes own) → AreWrittenOut registry schema first old new (map (λ (o : Output). o.node) p.outputs) → roots ≡ map (λ (o : Output). o.node) p.outputs → IsRight registry schema old table → AllByRecursion (IsKept table) roots → ((typed : List Typed) → AllKept table roots typed → whole ≡ keys ++ named_in_groups nodes typed) → HasAggregates registry schema new trees nodes keys whole
has_aggregates registry schema first old new table trees nodes roots own keys whole p coerced at right kept columns =
    let h = has_lowered registry schema first old new p.outputs p.each coerced.each in
    let typed = map (λ (o : Output). o.typed) p.outputs in
    let all = outputs_kept registry schema first old table right p.outputs p.each (subst (AllByRecursion (IsKept table)) at kept) in
    let found = columns typed (subst (λ ns. AllKept table ns typed) (sym at) all) in
    let same = alike (λ pair. (name_of pair.0, type_in_groups pair.1)) h.lowered p.outputs h.same in
    record {
      outputs = h.lowered;
      trees_are = alike (λ pair. pair.0) h.lowered p.outputs h.same ∙ p.trees_are;
      each = h.each;
      denotes = subst (λ ns. DenoteNamed new ns (map lowered_named h.lowered)) p.nodes_are h.denotes;
      columns_are = found ∙ ap (λ ns. keys ++ named_in_groups ns typed) (sym p.nodes_are) ∙ ap (λ l. keys ++ l) (outputs_in_groups p.outputs ∙ sym same);
    }

-- the names of a projection's nodes are those of its expressions
pub projected_names : (registry : Registry) (schema : Columns) (first : ℕ) (items : List AExpr) (trees : List Expression) (nodes : List (Named ℕ)) (own : Columns) → (p : Projects registry schema (NewName Duplicate) first items trees nodes own) → map (λ (n : Named ℕ). n.label.name) nodes ≡ map name_of trees
projected_names registry schema first items trees nodes own p =
    ap (map (λ (n : Named ℕ). n.label.name)) (sym p.nodes_are)
    ∙ map-map (λ (n : Named ℕ). n.label.name) output_node p.outputs
    ∙ sym (map-map name_of (λ (o : Output). o.tree) p.outputs)
    ∙ ap (map name_of) p.trees_are

pub named_names : (exprs : List ExprIR) → map name_at exprs ≡ map (λ (n : Named ℕ). n.label.name) (map named_node exprs)
named_names [] = refl
named_names (e ∷ es) = ap (λ l. name_at e ∷ l) (named_names es)

pub some_trees : (exprs : List Expr) (count : ℕ) → length exprs ≡ count → (count == 0) ≡ false → ¬ (map plain_tree exprs ≡ [])
some_trees [] count long some e = let other : (0 == 0) ≡ false = subst (λ n. (n == 0) ≡ false) (sym long) some in cc
some_trees (x ∷ xs) count long some e = cc

pub no_trees : (exprs : List Expr) (count : ℕ) → length exprs ≡ count → (count == 0) ≡ true → map plain_tree exprs ≡ []
no_trees [] count long none = refl
no_trees (x ∷ xs) count long none = absurd (grind arith)

-- so are those of the columns of outputs
pub column_names : (registry : Registry) (schema : Columns) (items : List AExpr) (trees : List Expression) (nodes : List (Named ℕ)) (own : Columns) → (h : HasOutputs registry schema (NewName Duplicate) items trees nodes own) → names_of own ≡ map name_of trees
column_names registry schema items trees nodes own h =
    ap names_of h.columns_are
    ∙ map-map (λ (c : Name × Ty). c.0) lowered_column h.outputs
    ∙ sym (map-map name_of (λ (l : Lowered). l.tree) h.outputs)
    ∙ ap (map name_of) h.trees_are

no_outputs : (outputs : List Lowered) (trees : List Expression) → map (λ (l : Lowered). l.tree) outputs ≡ trees → ¬ (trees ≡ []) → ¬ (outputs ≡ [])
no_outputs outputs trees are some e = some (sym are ∙ ap (map (λ (l : Lowered). l.tree)) e)

-- keys, and aggregates behind them
pub has_groups : (registry : Registry) (schema : Columns) (items items' : List AExpr) (keys aggs : List Expression) (nodes others : List (Named ℕ)) (own whole : Columns) → KeepsExpressions items items' → HasOutputs registry schema (NewName Duplicate) items keys nodes own → HasAggregates registry schema items' aggs others own whole → HasDistinctNames whole → ¬ (keys ≡ []) → HasGroups registry schema items' keys aggs nodes others whole
has_groups registry schema items items' keys aggs nodes others own whole keeps h a distinct some =
    let columns = a.columns_are ∙ ap (λ l. l ++ map group_column a.outputs) h.columns_are in
    record {
      key_outputs = h.outputs;
      agg_outputs = a.outputs;
      groups = record {
        keys_are = h.trees_are;
        aggs_are = a.trees_are;
        each_key = h.each;
        each_agg = a.each;
        distinct = subst HasDistinctNames columns distinct;
        some = no_outputs h.outputs keys h.trees_are some;
      };
      keys_denote = named_kept items items' keeps nodes (map lowered_named h.outputs) h.denotes;
      aggs_denote = a.denotes;
      columns_are = columns;
    }

-- expressions with plans' ops alone are what they come to, as it is written
pub written_trees : (exprs : List Expr) → list_all is_plain (map tree_of exprs) ≡ true → map written (map plain_tree exprs) ≡ map tree_of exprs
written_trees [] h = refl
written_trees (e ∷ es) h =
    let parts = and_parts (is_plain (tree_of e)) (list_all is_plain (map tree_of es)) h in
    let first = (what_is_plain (tree_of e)).written_so parts.0 in
    let later = written_trees es parts.1 in
    λ i. first i ∷ later i

-- ---- columns that are put in one by one

left_behind : {A : Type 0} (xs : List A) (i : ℕ) (x : A) → slice_get xs i ≡ Some x → drop i xs ≡ x ∷ drop (i + 1) xs
left_behind xs i x at = item_left xs i x x (slice_get_within xs i x at) (sym (get_or_from_slice_get xs i x x at))

item_there : {B : Type 0} (f : ExprIR → B) (items : List ExprIR) (i : ℕ) (item : ExprIR) → i < length items → item ≡ get_or items i item → slice_get (map f items) i ≡ Some (f item)
item_there f items i item within is =
    slice_get-map f items i ∙ ap (option_map f) (slice_get-get_or items i item within ∙ ap Some (sym is))

each_there : (P : ℕ → Type 0) (ns : List ℕ) → AllByRecursion P ns → (i n : ℕ) → slice_get ns i ≡ Some n → P n
each_there P [] all i n at = absurd cc
each_there P (m ∷ ns) all zero n at = let same : m ≡ n = cc in subst P same all.0
each_there P (m ∷ ns) all (suc i) n at = each_there P ns all.1 i n at

-- what is kept of an item's node
pub kept_there : (table : TypeTable) (items : List ExprIR) → AllByRecursion (IsKept table) (map root_of items) → (i : ℕ) (item : ExprIR) → i < length items → item ≡ get_or items i item → IsKept table (root_of item)
kept_there table items all i item within is = each_there (IsKept table) (map root_of items) all i (root_of item) (item_there root_of items i item within is)

typing_there : (table : TypeTable) (ns : List ℕ) (typed : List Typed) → AllKept table ns typed → (i n : ℕ) → slice_get ns i ≡ Some n → (t : Typed) × (slice_get typed i ≡ Some t) × KeepsTyped table n t
typing_there table [] [] all i n at = absurd cc
typing_there table (m ∷ ns) (t ∷ ts) all zero n at = let same : m ≡ n = cc in (t, refl, subst (λ k. KeepsTyped table k t) same all.0)
typing_there table (m ∷ ns) (t ∷ ts) all (suc i) n at = typing_there table ns ts all.1 i n at
typing_there table [] (t ∷ ts) all i n at = absurd all
typing_there table (m ∷ ns) [] all i n at = absurd all

same_typing : (table : TypeTable) (n : ℕ) (own : Inferred) (typed : Typed) → KeepsEntry table n own → KeepsTyped table n typed → typed_of own ≡ typed
same_typing table n own typed k t = ap typed_of (keeps_one table n own t.own k t.keeps) ∙ t.is

-- the columns so far, with those that are left behind them, are all
abbrev pub AreInGroups : TypeTable → List ExprIR → ℕ → Columns → Columns → Type 0
AreInGroups table items i keys whole = (typed : List Typed) → AllKept table (map root_of items) typed → whole ++ named_in_groups (drop i (map named_node items)) (drop i typed) ≡ keys ++ named_in_groups (map named_node items) typed

pub one_in_groups : (table : TypeTable) (items : List ExprIR) (i : ℕ) (item : ExprIR) (own : Inferred) (keys old new : Columns) → i < length items → item ≡ get_or items i item → KeepsEntry table (root_of item) own → new ≡ old ++ (name_at item, type_in_groups (typed_of own)) ∷ [] → AreInGroups table items i keys old → AreInGroups table items (i + 1) keys new
one_in_groups table items i item own keys old new within is keeps put so_far typed all =
    let found = typing_there table (map root_of items) typed all i (root_of item) (item_there root_of items i item within is) in
    let nodes = left_behind (map named_node items) i (named_node item) (item_there named_node items i item within is) in
    let typings = left_behind typed i found.0 found.1 in
    let same = same_typing table (root_of item) own found.0 keeps found.2 in
    let rest = named_in_groups (drop (i + 1) (map named_node items)) (drop (i + 1) typed) in
    ap (λ l. l ++ rest) put
    ∙ append_assoc old ((name_at item, type_in_groups (typed_of own)) ∷ []) rest
    ∙ ap (λ t. old ++ (name_at item, type_in_groups t) ∷ rest) same
    ∙ (λ i. old ++ named_in_groups (sym nodes i) (sym typings i))
    ∙ so_far typed all

-- so are their names
pub one_name : (items : List ExprIR) (i : ℕ) (item : ExprIR) (type : Ty) (names : List Name) (old new : Columns) → i < length items → item ≡ get_or items i item → new ≡ old ++ (name_at item, type) ∷ [] → names_of old ++ drop i (map name_at items) ≡ names → names_of new ++ drop (i + 1) (map name_at items) ≡ names
one_name items i item type names old new within is put so_far =
    let left = left_behind (map name_at items) i (name_at item) (item_there name_at items i item within is) in
    let rest = drop (i + 1) (map name_at items) in
    ap (λ l. names_of l ++ rest) put
    ∙ ap (λ l. l ++ rest) (map-append (λ (c : Name × Ty). c.0) old ((name_at item, type) ∷ []))
    ∙ append_assoc (names_of old) (name_at item ∷ []) rest
    ∙ ap (λ l. names_of old ++ l) (sym left)
    ∙ so_far

-- a name that stands among those so far comes twice
pub name_twice : (items : List ExprIR) (i : ℕ) (item : ExprIR) (names : List Name) (whole : Columns) → i < length items → item ≡ get_or items i item → names_of whole ++ drop i (map name_at items) ≡ names → is_some (type_at whole (name_at item)) ≡ true → repeats names ≡ true
name_twice items i item names whole within is so_far found =
    let left = left_behind (map name_at items) i (name_at item) (item_there name_at items i item within is) in
    ap repeats (sym so_far ∙ ap (λ l. names_of whole ++ l) left) ∙ repeated_test whole (name_at item) (drop (i + 1) (map name_at items)) found

none_left : {A : Type 0} (xs : List A) (i : ℕ) → length xs ≤ i → drop i xs ≡ []
none_left xs i past = drop_all i xs past

nothing_in_groups : (typed : List Typed) → named_in_groups [] typed ≡ []
nothing_in_groups typed = refl

pub all_in_groups : (table : TypeTable) (items : List ExprIR) (i : ℕ) (keys whole : Columns) → length items ≤ i → AreInGroups table items i keys whole → (typed : List Typed) → AllKept table (map root_of items) typed → whole ≡ keys ++ named_in_groups (map named_node items) typed
all_in_groups table items i keys whole past so_far typed all =
    let none = none_left (map named_node items) i (omega (arith, past, length-map items named_node)) in
    sym (append-nil whole) ∙ ap (λ ns. whole ++ named_in_groups ns (drop i typed)) (sym none) ∙ so_far typed all

-- ---- what is built

module _ (registry : Registry) where
  group_columns : (outputs : List Lowered) → aggregate_columns (map lowered_output outputs) ≡ map group_column outputs
  group_columns outputs = map-map (λ (o : TypedOutput). (o.name, type_in_groups o.typed)) lowered_output outputs

  group_names : (keys aggs : List Lowered) → lowered_names keys ++ lowered_names aggs ≡ names_of (group_columns_of keys aggs)
  group_names keys aggs =
      let front = names_are keys in
      let behind = map-map (λ (c : Name × Ty). c.0) group_column aggs in
      (λ i. front i ++ sym behind i) ∙ sym (map-append (λ (c : Name × Ty). c.0) (map lowered_column keys) (map group_column aggs))

  -- keys of which there are some, with aggregates under distinct names, break no rule
  group_unbroken : (schema : Columns) (keys aggs : List Lowered) → HasDistinctNames (group_columns_of keys aggs) → ¬ (keys ≡ []) → work_kinds GroupByWork schema (lowered_names keys ∷ lowered_names aggs ∷ []) ≡ []
  group_unbroken schema [] aggs distinct some = absurd (some refl)
  group_unbroken schema (k ∷ ks) aggs distinct some =
      distinct_names Duplicate (lowered_names (k ∷ ks) ++ lowered_names aggs) (group_columns_of (k ∷ ks) aggs) (group_names (k ∷ ks) aggs) distinct

  -- a group-by is a node over one input
  pub groups_work : (items : List AExpr) (plans : List IR) (n input : ℕ) (schema own : Columns) (keys aggs : List Source) (nodes others : List (Named ℕ)) → HasExpandedGroups registry schema items keys aggs nodes others own → slice_get (map plan_layer plans) n ≡ Some (layer (group_by_op nodes others (Some own)) (input ∷ [])) → IsWorkAt registry schema items plans n input GroupByWork (keys ∷ aggs ∷ []) own
  groups_work items plans n input schema own keys aggs nodes others is item =
      let has = is.lowered in
      let front = columns_are has.key_outputs in
      let behind = group_columns has.agg_outputs in
      let first = has.groups.keys_are in
      let later = has.groups.aggs_are in
      record {
        trees = is.trees ∷ is.aggregates ∷ [];
        expanded = ap (λ r. then_ok r (over_keys schema aggs)) is.expanded ∙ ap (λ r. then_ok r (λ found. Ok (is.trees ∷ found ∷ []))) is.also;
        own = GroupByWork;
        resolved = refl;
        outputs = has.key_outputs ∷ has.agg_outputs ∷ [];
        trees_are = λ i. first i ∷ later i ∷ [];
        unbroken = record {
          each = (has.groups.each_key, (has.groups.each_agg, tt));
          types = ap (λ l. l ++ (flat_map {X = Lowered} {A = ErrorKind} (λ o. []) has.agg_outputs ++ [])) (no_types has.key_outputs) ∙ append-nil _ ∙ no_types has.agg_outputs;
          kinds = group_unbroken schema has.key_outputs has.agg_outputs has.groups.distinct has.groups.some;
        };
        whole = tt;
        columns_are = has.columns_are ∙ (λ i. sym front i ++ sym behind i);
        nodes = nodes ∷ others ∷ [];
        denote = (has.keys_denote, (has.aggs_denote, tt));
        below = input;
        nothing = λ e. absurd cc;
        something = λ e. refl;
        item = item;
      }

  -- ---- refusals

  -- names that repeat break their rule
  names_broken : (schema : Columns) (keys aggs : List Expression) → repeats (map name_of keys ++ map name_of aggs) ≡ true → Contains (broken_kinds registry (group_by_op (map named keys) (map named aggs) None) (Some schema ∷ [])) Duplicate
  names_broken schema keys aggs h =
      let front = map-map (λ (o : Named Expression). o.label.name) named keys in
      let behind = map-map (λ (o : Named Expression). o.label.name) named aggs in
      group_repeated_names registry schema None (map named keys) (map named aggs) ((λ i. repeats (front i ++ behind i)) ∙ h)

  module _ (schema : Columns) (error : PlanError) where
    -- keys and aggregates, as their sources are expanded
    module _ (keys aggs : List Source) (trees others : List Expression) (is : expansions [] schema keys ≡ Ok trees) (also : expansions (key_names (map written trees)) schema aggs ≡ Ok others) where
      both_expanded : expanded_lists schema GroupByWork (keys ∷ aggs ∷ []) ≡ Ok (trees ∷ others ∷ [])
      both_expanded = ap (λ r. then_ok r (over_keys schema aggs)) is ∙ ap (λ r. then_ok r (λ found. Ok (trees ∷ found ∷ []))) also

      of_kind : (kind : ErrorKind) → error ≡ at_top kind → Contains (broken_kinds registry (group_by_op (map named trees) (map named others) None) (Some schema ∷ [])) kind → IsWorkRefusal registry schema GroupByWork (keys ∷ aggs ∷ []) error
      of_kind kind e breaks = against_a_rule (trees ∷ others ∷ []) GroupByWork kind both_expanded refl e breaks

      keys_against : IsProjectionRefusal registry schema (NewName Duplicate) trees error → IsWorkRefusal registry schema GroupByWork (keys ∷ aggs ∷ []) error
      keys_against r =
          ⊎_elim (λ e. without_memory e) (λ a. of_kind a.0 a.1 a.2) (names_against registry schema GroupByWork Duplicate (λ os. os ∷ map named others ∷ []) (λ front o back kind. first_refused registry schema GroupByWork None front o back (map named others ∷ []) kind) (λ before front o back names found.
          group_repeated_names registry schema None (front ++ o ∷ back) (map named others) (repeats_left (names_in (front ++ o ∷ back)) (names_in (map named others)) (repeated_name registry schema before front o back names found))) trees error r)

      aggregates_against : IsProjectionRefusal registry schema (NewName Duplicate) others error → IsWorkRefusal registry schema GroupByWork (keys ∷ aggs ∷ []) error
      aggregates_against r =
          ⊎_elim (λ e. without_memory e) (λ a. of_kind a.0 a.1 a.2) (names_against registry schema GroupByWork Duplicate (λ os. map named trees ∷ os ∷ []) (λ front o back kind. second_refused registry schema GroupByWork None (map named trees) front o back [] kind) (λ before front o back names found.
          group_repeated_names registry schema None (map named trees) (front ++ o ∷ back) (repeats_right (names_in (map named trees)) (names_in (front ++ o ∷ back)) (repeated_name registry schema before front o back names found))) others error r)

      behind_keys : IsAggregateRefusal registry schema (map name_of trees) others error → IsWorkRefusal registry schema GroupByWork (keys ∷ aggs ∷ []) error
      behind_keys (not_typed r) = aggregates_against r
      behind_keys (twice e h) = of_kind Duplicate e (names_broken schema trees others h)

      grouped_against : IsGroupRefusal registry schema trees others error → IsWorkRefusal registry schema GroupByWork (keys ∷ aggs ∷ []) error
      grouped_against (short e) = without_memory e
      grouped_against (without_keys e none) =
          of_kind ComputeError e (subst (λ ks. Contains (broken_kinds registry (group_by_op (map named ks) (map named others) None) (Some schema ∷ [])) ComputeError) (sym none) (no_keys_kind registry schema None (map named others)))
      grouped_against (of_keys r) = keys_against r
      grouped_against (of_aggregates r) = behind_keys r

    -- a refusal of a group-by is one of a node over one input
    pub groups_refusal : (keys aggs : List Source) → IsUngrouped registry schema keys aggs error → IsWorkRefusal registry schema GroupByWork (keys ∷ aggs ∷ []) error
    groups_refusal keys aggs (keys_unexpanded r) =
        unresolved (unexpanded_then (then_ok (expansions [] schema keys) (over_keys schema aggs)) (over_expanded (Ok GroupByWork)) error (unexpanded_then (expansions [] schema keys) (over_keys schema aggs) error r))
    groups_refusal keys aggs (aggregates_unexpanded trees is r) =
        let beside = unexpanded_then (expansions (key_names (map written trees)) schema aggs) (λ others. Ok (trees ∷ others ∷ [])) error r in
        let whole = subst (λ found. IsUnexpanded (then_ok found (over_keys schema aggs)) error) (sym is) beside in
        unresolved (unexpanded_then (then_ok (expansions [] schema keys) (over_keys schema aggs)) (over_expanded (Ok GroupByWork)) error whole)
    groups_refusal keys aggs (not_grouped trees others is also r) = grouped_against keys aggs trees others is also r
