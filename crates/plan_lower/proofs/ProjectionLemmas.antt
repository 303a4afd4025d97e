-- Projections, output by output, of which something is asked.
use Rattle.std.proofs.Common.{◌≡◌, ℕ, ◌≤◌, IfErr, Result, Ok, Err, List, [], ◌∷◌, ◌++◌, length, map, Option, Some, None, Bool, true, false, is_some, IsTrue, refl, sym, ap, ◌∙◌, subst, arith, append_assoc, append-nil, ⊎_elim}
use Rattle.std.specs.List.{AllByRecursion, flat_map}
use Rattle.std.proofs.lemmas.Bool.{not-false}
use Rattle.std.proofs.lemmas.Grind.{flat_map-append}
use Rattle.std.proofs.lemmas.List.{map-append, length-map}
use Rattle.std.proofs.lemmas.List.Folds.{flat_map-map}
use Rattle.plan_types.proofs.ListLemmas.{map-map}
use Rattle.plan_types.specs.Types.{Ty, Truth}
use Rattle.plan_types.specs.TypeLaws.{same_type_exact}
use Rattle.plan_types.specs.Schemas.{Name, Columns, type_at, with_column, HasDistinctNames}
use Rattle.plan_types.specs.declared.error.ErrorKind.{ErrorKind}
use Rattle.plan_types.specs.declared.error.ErrorKind.TheVariants.{InvalidOperation}
use Rattle.plan_types.specs.declared.error.PlanError.{PlanError}
use Rattle.plan_types.proofs.SchemaLemmas.{with_column-new, HasDistinctNames-push}
use Rattle.plan_dsl.specs.declared.expr.Expr.{Expr}
use Rattle.plan_dsl.specs.Expressions.{plain_tree}
use Rattle.plan_dsl.specs.Registry.{Registry}
use Rattle.plan_dsl.specs.Ops.{Expression}
use Rattle.plan_dsl.specs.Names.{Label, label_of, name_of}
use Rattle.plan_dsl.specs.PlanRules.{kind_where, type_kinds}
use Rattle.plan_dsl.specs.Plans.{FilterWork, Named, Work}
use Rattle.plan_dsl.specs.Aliases.{core, spelled}
use Rattle.plan_dsl.specs.Literals.{settled}
use Rattle.plan_dsl.proofs.LiteralLemmas.{settled_known}
use Rattle.plan_dsl.specs.Typing.{Typed, typing}
use Rattle.plan_arena.specs.declared.aexpr.AExpr.{AExpr}
use Rattle.plan_arena.specs.Denotation.{Denotes}
use Rattle.plan_arena.specs.declared.expr_ir.ExprIR.{ExprIR}
use Rattle.plan_arena.specs.Items.{HoldsFrom, HoldsExpression, Grows, DenoteNamed, named_node, expression_layer}
use Rattle.plan_arena.specs.Layers.{shape_of, inputs_of}
use Rattle.plan_arena.specs.Runs.{NamesOperands}
use Rattle.plan_arena.proofs.OperandNameLemmas.{plan_names}
use Rattle.plan_arena.proofs.ItemLemmas.{any_node, tree_grown, expression_laws, grown_held}
use Rattle.plan_infer.specs.Typed.{DenotesKnown}
use Rattle.plan_coerce.specs.Coercion.{KeepsBelow}
use Rattle.plan_coerce.specs.Optimizer.{AreWrittenOut, IsWrittenOut}
use Rattle.plan_coerce.proofs.NameLemmas.{written_names}
use Rattle.plan_bounds.specs.LoweredPlans.{has_wide_horizontals}
use Rattle.plan_bounds.proofs.WideLemmas.{plan_wide, written_wide}
use Rattle.plan_infer.proofs.TableLemmas.{kept_typing, still_kept}
use Rattle.plan_infer.specs.KeptTypes.{IsKept, IsRight, KeepsEntry, Extends, typed_of}
use Rattle.plan_lower.proofs.SpelledLemmas.{typed_core, typed_spelled}
use Rattle.plan_lower.specs.declared.conversion.asked.Asked.{Asked}
use Rattle.plan_lower.specs.declared.conversion.asked.Asked.TheVariants.{NewName, TruthValue, Order}
use Rattle.plan_lower.specs.Asked.{IsMemoryOrOne, asked_columns, asked_kinds, asked_work}
use Rattle.plan_lower.specs.Nodes.{KeepsExpressions}
use Rattle.plan_lower.specs.Outputs.{Lowered, lowered_named, IsLowered, HasOutputs}
use Rattle.plan_infer.specs.declared.type_table.Inferred.{Inferred}
use Rattle.plan_infer.specs.declared.type_table.TypeTable.{TypeTable}
use Rattle.plan_arena.proofs.NumberLemmas.{all_weaker, all_joined}
use Rattle.plan_types.specs.Errors.{IsRefusal, no_room as short, broken}
use Rattle.plan_lower.specs.Predicates.{HasPredicate}
use Rattle.plan_lower.specs.Projection.{Output, output_node, output_column, IsOutput, Projects, AddsOutput, IsOutputRefusal, no_room, untyped, against, IsProjectionRefusal, refused}

pub refused_output : (registry : Registry) (schema : Columns) (asked : Asked) (tree : Expression) (before : Columns) (error : PlanError) → IsRefusal (typing registry schema (settled (core tree))) error → IsOutputRefusal registry schema asked tree before error
refused_output registry schema asked tree before error (short e) = no_room e
refused_output registry schema asked tree before error (broken kind e b) = untyped kind e b

-- ---- what is asked

no_kind : (test : Bool) (kind : ErrorKind) → kind_where test kind ≡ [] → test ≡ false
no_kind true kind e = absurd cc
no_kind false kind e = refl

type_met : (asked : Asked) (before : Columns) (name : Name) (typed : Typed) → asked_kinds asked before name typed ≡ [] → type_kinds (asked_work asked) typed ≡ []
type_met (NewName twice) before name typed e = refl
type_met TruthValue before name typed e = e
type_met Order before name typed e = e

-- of types nothing depends on the columns before
any_columns : (asked : Asked) (columns : Columns) (name : Name) (typed : Typed) → asked_kinds asked (asked_columns asked columns) name typed ≡ asked_kinds asked columns name typed
any_columns (NewName twice) columns name typed = refl
any_columns TruthValue columns name typed = refl
any_columns Order columns name typed = refl

columns_more : (asked : Asked) (front back : Columns) → asked_columns asked (front ++ back) ≡ asked_columns asked front ++ asked_columns asked back
columns_more (NewName twice) front back = refl
columns_more TruthValue front back = refl
columns_more Order front back = refl

no_columns : (asked : Asked) → asked_columns asked [] ≡ []
no_columns (NewName twice) = refl
no_columns TruthValue = refl
no_columns Order = refl

no_type : (o : Option Ty) → is_some o ≡ false → o ≡ None
no_type None e = refl
no_type (Some type) e = cc

pub column_added : (old new : Columns) (seen copy name : Name) (type : Ty) → is_some (type_at old seen) ≡ false → seen ≡ name → copy ≡ name → new ≡ with_column old copy type → new ≡ old ++ (name, type) ∷ []
column_added old new seen copy name type absent s c e =
    let new_name = no_type (type_at old name) (ap (λ n. is_some (type_at old n)) (sym s) ∙ absent) in
    e ∙ ap (λ n. with_column old n type) c ∙ with_column-new old name type new_name

still_distinct : (asked : Asked) (before : Columns) (name : Name) (typed : Typed) → asked_kinds asked before name typed ≡ [] → HasDistinctNames before → HasDistinctNames (before ++ asked_columns asked ((name, typed.type) ∷ []))
still_distinct (NewName twice) before name typed e distinct = HasDistinctNames-push before name typed.type distinct (no_type (type_at before name) (no_kind _ twice e))
still_distinct TruthValue before name typed e distinct = subst HasDistinctNames (sym (append-nil before)) distinct
still_distinct Order before name typed e distinct = subst HasDistinctNames (sym (append-nil before)) distinct

abbrev record_of : Label → ℕ → Named ℕ
record_of label expression = record { label = label; expression = expression }

-- the node of an output of which what is asked holds, and its column
pub adds_output : {registry : Registry} {schema : Columns} {first : ℕ} {items : List AExpr} (asked : Asked) (tree : Expression) (node : Named ℕ) (typed : Typed) (old new : Columns) → node.label ≡ label_of tree → IsOutput registry schema first items (record { tree = tree; node = node.expression; typed = typed }) → asked_kinds asked old node.label.name typed ≡ [] → new ≡ old ++ asked_columns asked ((node.label.name, typed.type) ∷ []) → AddsOutput registry schema asked first items tree node old new
adds_output asked tree node typed old new label is met put = record {
  output = record { tree = tree; node = node.expression; typed = typed };
  is = is;
  tree_is = refl;
  node_is = ap (λ l. record_of l node.expression) (sym label);
  unbroken = ap (λ (l : Label). asked_kinds asked old l.name typed) (sym label) ∙ met;
  column_is = put ∙ ap (λ (l : Label). old ++ asked_columns asked ((l.name, typed.type) ∷ [])) label;
}

-- and one of which it doesn't
pub output_against : {registry : Registry} {schema : Columns} {first : ℕ} {items : List AExpr} (asked : Asked) (o : Output) (label : Label) (before : Columns) (error : PlanError) → label ≡ label_of o.tree → IsOutput registry schema first items o → IsMemoryOrOne (asked_kinds asked before label.name o.typed) error → IsOutputRefusal registry schema asked o.tree before error
output_against asked o label before error same is r =
    ⊎_elim (λ e. no_room e) (λ a. against o.typed a.0 a.1 is.typed (ap (λ (l : Label). asked_kinds asked before l.name o.typed) (sym same) ∙ a.2)) r

-- outputs stay where the arena grows
pub outputs_grown : (registry : Registry) (schema : Columns) (first : ℕ) (items grown : List AExpr) → Grows items grown → (outputs : List Output) → AllByRecursion (IsOutput registry schema first items) outputs → AllByRecursion (IsOutput registry schema first grown) outputs
outputs_grown registry schema first items grown g [] all = tt
outputs_grown registry schema first items grown g (o ∷ os) all =
    (record { denotes = tree_grown first first items grown (omega arith) g o.node (settled (spelled o.tree)) all.0.denotes; typed = all.0.typed; names = all.0.names; wide = all.0.wide }, outputs_grown registry schema first items grown g os all.1)

pub all_pushed : (P : Output → Type 0) (os : List Output) (o : Output) → AllByRecursion P os → P o → AllByRecursion P (os ++ o ∷ [])
all_pushed P [] o all p = (p, tt)
all_pushed P (x ∷ xs) o all p = (all.0, all_pushed P xs o all.1 p)

names_alike : (outputs : List Output) → map (λ (c : Name × Ty). c.0) (map output_column outputs) ≡ map name_of (map (λ (o : Output). o.tree) outputs)
names_alike [] = refl
names_alike (o ∷ os) = ap (λ l. name_of o.tree ∷ l) (names_alike os)

-- the projection of the front of the expressions
pub record Projecting (registry : Registry) (schema : Columns) (asked : Asked) (first : ℕ) (items : List AExpr) (whole rest : List Expression) (nodes : List (Named ℕ)) (columns : Columns) : Type 0 where
  pub front : List Expression
  pub projects : Projects registry schema asked first items front nodes columns
  pub split : whole ≡ front ++ rest

pub projecting_start : (registry : Registry) (schema : Columns) (asked : Asked) (first : ℕ) (items : List AExpr) (whole rest : List Expression) (columns : Columns) → rest ≡ whole → columns ≡ [] → Projecting registry schema asked first items whole rest [] columns
projecting_start registry schema asked first items whole rest columns e none = record {
  front = [];
  projects = record { outputs = []; trees_are = refl; nodes_are = refl; columns_are = no_columns asked ∙ sym none; each = tt; types = refl; distinct = subst HasDistinctNames (sym none) tt };
  split = sym e;
}

pub projecting_step : (registry : Registry) (schema : Columns) (asked : Asked) (first : ℕ) (items grown : List AExpr) (whole before rest : List Expression) (tree : Expression) (nodes nodes' : List (Named ℕ)) (node : Named ℕ) (columns columns' : Columns) → Projecting registry schema asked first items whole before nodes columns → before ≡ tree ∷ rest → first ≤ length items → Grows items grown → AddsOutput registry schema asked (length items) grown tree node columns columns' → nodes' ≡ nodes ++ node ∷ [] → Projecting registry schema asked first grown whole rest nodes' columns'
projecting_step registry schema asked first items grown whole before rest tree nodes nodes' node columns columns' p e le g a pushed =
    let o = a.output in
    let outputs = p.projects.outputs in
    let own = output_column o ∷ [] in
    let nothing : Grows grown grown = record { added = []; longer = sym (append-nil grown) } in
    let lower = tree_grown (length items) first grown grown le nothing o.node (settled (spelled o.tree)) a.is.denotes in
    let kinds = λ (x : Output). type_kinds (asked_work asked) x.typed in
    record {
      front = p.front ++ tree ∷ [];
      projects = record {
        outputs = outputs ++ o ∷ [];
        trees_are = map-append (λ (o : Output). o.tree) outputs (o ∷ []) ∙ ap (λ l. l ++ o.tree ∷ []) p.projects.trees_are ∙ ap (λ t. p.front ++ t ∷ []) a.tree_is;
        nodes_are = map-append output_node outputs (o ∷ []) ∙ ap (λ l. l ++ output_node o ∷ []) p.projects.nodes_are ∙ ap (λ n. nodes ++ n ∷ []) a.node_is ∙ sym pushed;
        columns_are = ap (asked_columns asked) (map-append output_column outputs (o ∷ [])) ∙ columns_more asked (map output_column outputs) own ∙ ap (λ l. l ++ asked_columns asked own) p.projects.columns_are ∙ sym a.column_is;
        each = all_pushed (IsOutput registry schema first grown) outputs o (outputs_grown registry schema first items grown g outputs p.projects.each) (record { denotes = lower; typed = a.is.typed; names = a.is.names; wide = a.is.wide });
        types = flat_map-append kinds outputs (o ∷ []) ∙ ap (λ l. l ++ (kinds o ++ [])) p.projects.types ∙ ap (λ l. l ++ []) (type_met asked columns (name_of o.tree) o.typed a.unbroken);
        distinct = subst HasDistinctNames (sym a.column_is) (still_distinct asked columns (name_of o.tree) o.typed a.unbroken p.projects.distinct);
      };
      split = p.split ∙ ap (λ l. p.front ++ l) e ∙ sym (append_assoc p.front (tree ∷ []) rest);
    }

pub projecting_end : (registry : Registry) (schema : Columns) (asked : Asked) (first : ℕ) (items : List AExpr) (whole rest : List Expression) (nodes : List (Named ℕ)) (columns : Columns) → Projecting registry schema asked first items whole rest nodes columns → rest ≡ [] → Projects registry schema asked first items whole nodes columns
projecting_end registry schema asked first items whole rest nodes columns p none =
    subst (λ t. Projects registry schema asked first items t nodes columns) (sym (p.split ∙ ap (λ l. p.front ++ l) none ∙ append-nil p.front)) p.projects

-- a refusal behind the columns that are made is one behind those of all outputs
behind_all : (registry : Registry) (schema : Columns) (asked : Asked) (tree : Expression) (columns : Columns) (error : PlanError) → IsOutputRefusal registry schema asked tree (asked_columns asked columns) error → IsOutputRefusal registry schema asked tree columns error
behind_all registry schema asked tree columns error (no_room e) = no_room e
behind_all registry schema asked tree columns error (untyped kind e b) = untyped kind e b
behind_all registry schema asked tree columns error (against typed kind e is b) = against typed kind e is (sym (any_columns asked columns (name_of tree) typed) ∙ b)

pub projecting_refused : (registry : Registry) (schema : Columns) (asked : Asked) (first : ℕ) (items : List AExpr) (whole before rest : List Expression) (tree : Expression) (nodes : List (Named ℕ)) (columns : Columns) (error : PlanError) → Projecting registry schema asked first items whole before nodes columns → before ≡ tree ∷ rest → IsOutputRefusal registry schema asked tree columns error → IsProjectionRefusal registry schema asked whole error
projecting_refused registry schema asked first items whole before rest tree nodes columns error p e r =
    let outputs = p.projects.outputs in
    refused (record {
      front = p.front;
      tree = tree;
      back = rest;
      split = p.split ∙ ap (λ l. p.front ++ l) e;
      before = map output_column outputs;
      names = names_alike outputs ∙ ap (map name_of) p.projects.trees_are;
      refusal = behind_all registry schema asked tree (map output_column outputs) error (subst (λ cs. IsOutputRefusal registry schema asked tree cs error) (sym p.projects.columns_are) r);
    })

pub pushed_node : (old new : List ExprIR) (e : ExprIR) → new ≡ old ++ e ∷ [] → map named_node new ≡ map named_node old ++ named_node e ∷ []
pushed_node old new e grown = ap (map named_node) grown ∙ map-append named_node old (e ∷ [])

-- one more root whose type is kept
pub roots_kept : (table table' : TypeTable) (exprs exprs' : List ExprIR) (e : ExprIR) → Extends table table' → exprs' ≡ exprs ++ e ∷ [] → AllByRecursion (IsKept table) (map (λ (x : ExprIR). (named_node x).expression) exprs) → IsKept table' (named_node e).expression → AllByRecursion (IsKept table') (map (λ (x : ExprIR). (named_node x).expression) exprs')
roots_kept table table' exprs exprs' e x pushed kept here =
    let before = all_weaker (IsKept table) (IsKept table') (still_kept table table' x) (map (λ (x : ExprIR). (named_node x).expression) exprs) kept in
    let roots = ap (map (λ (x : ExprIR). (named_node x).expression)) pushed ∙ map-append (λ (x : ExprIR). (named_node x).expression) exprs (e ∷ []) in
    subst (AllByRecursion (IsKept table')) (sym roots) (all_joined (IsKept table') (map (λ (x : ExprIR). (named_node x).expression) exprs) ((named_node e).expression ∷ []) before (here, tt))

-- the roots of a projection
pub roots_are : (exprs : List ExprIR) (outputs : List Output) → map output_node outputs ≡ map named_node exprs → map (λ (e : ExprIR). (named_node e).expression) exprs ≡ map (λ (o : Output). o.node) outputs
roots_are exprs outputs e =
    sym (map-map (λ (n : Named ℕ). n.expression) named_node exprs) ∙ ap (map (λ (n : Named ℕ). n.expression)) (sym e) ∙ map-map (λ (n : Named ℕ). n.expression) output_node outputs

-- are typed, from each number up to the projection's first
pub roots_typed : (registry : Registry) (schema : Columns) (lower first : ℕ) (items : List AExpr) → lower ≤ first → (outputs : List Output) → AllByRecursion (IsOutput registry schema first items) outputs → AllByRecursion (DenotesKnown registry schema lower items) (map (λ (o : Output). o.node) outputs)
roots_typed registry schema lower first items le [] all = tt
roots_typed registry schema lower first items le (o ∷ os) all =
    let nothing : Grows items items = record { added = []; longer = sym (append-nil items) } in
    let typed = typed_spelled registry schema o.tree o.typed all.0.typed in
    (record { tree = settled (spelled o.tree); denotes = tree_grown first lower items items le nothing o.node (settled (spelled o.tree)) all.0.denotes; has = record { typed = o.typed; is = typed; known = settled_known registry schema (spelled o.tree) o.typed typed } }, roots_typed registry schema lower first items le os all.1)

-- and so are those that are lent
pub projected_typed : {registry : Registry} {schema : Columns} {first : ℕ} {items : List AExpr} {asked : Asked} {trees : List Expression} {columns : Columns} (exprs lent : List ExprIR) → Projects registry schema asked first items trees (map named_node exprs) columns → lent ≡ exprs → AllByRecursion (DenotesKnown registry schema first items) (map (λ (e : ExprIR). (named_node e).expression) lent)
projected_typed {registry} {schema} {first} {items} exprs lent p is =
    let roots = ap (map (λ (e : ExprIR). (named_node e).expression)) is ∙ roots_are exprs p.outputs p.nodes_are in
    subst (AllByRecursion (DenotesKnown registry schema first items)) (sym roots) (roots_typed registry schema first first items (omega arith) p.outputs p.each)

-- an output's expression and type, before coercion and after
abbrev typed_tree : Output → Expression × Typed
typed_tree o = (o.tree, o.typed)

abbrev lowered_tree : Lowered → Expression × Typed
lowered_tree l = (l.tree, l.typed)

-- the outputs with what stands for them after coercion
pub record HasLowered (registry : Registry) (schema : Columns) (items : List AExpr) (outputs : List Output) : Type 0 where
  pub lowered : List Lowered
  pub same : map lowered_tree lowered ≡ map typed_tree outputs
  pub each : AllByRecursion (IsLowered registry schema) lowered
  pub denotes : DenoteNamed items (map output_node outputs) (map lowered_named lowered)

-- what stands for one output after coercion
lowered_as : (registry : Registry) (schema : Columns) (first : ℕ) (old new : List AExpr) (o : Output) → IsOutput registry schema first old o → ((t : Expression) → Denotes (HoldsExpression old) o.node t → IsWrittenOut registry schema new o.node t) → (after : Expression) × IsLowered registry schema (record { tree = o.tree; typed = o.typed; after = after }) × Denotes (HoldsExpression new) o.node after
lowered_as registry schema first old new o is each =
    let tree = settled (spelled o.tree) in
    let typed = typed_spelled registry schema o.tree o.typed is.typed in
    let w = each tree (any_node first old o.node tree is.denotes) in
    let names = subst NamesOperands (sym w.is) (written_names registry schema tree o.typed typed is.names) in
    let wide = subst (λ t. IsTrue (has_wide_horizontals t)) (sym w.is) (written_wide registry schema tree o.typed typed is.wide) in
    (w.tree, record { typed = is.typed; same = w.same; strict = w.strict; casts = w.is; names = names; wide = wide }, w.denotes)

pub has_lowered : (registry : Registry) (schema : Columns) (first : ℕ) (old new : List AExpr) → (outputs : List Output) → AllByRecursion (IsOutput registry schema first old) outputs → AllByRecursion (λ n. (t : Expression) → Denotes (HoldsExpression old) n t → IsWrittenOut registry schema new n t) (map (λ (o : Output). o.node) outputs) → HasLowered registry schema new outputs
has_lowered registry schema first old new [] all written = record { lowered = []; same = refl; each = tt; denotes = tt }
has_lowered registry schema first old new (o ∷ os) all written =
    let here = lowered_as registry schema first old new o all.0 written.0 in
    let rest = has_lowered registry schema first old new os all.1 written.1 in
    let l : Lowered = record { tree = o.tree; typed = o.typed; after = here.0 } in
    record {
      lowered = l ∷ rest.lowered;
      same = ap (λ ls. typed_tree o ∷ ls) rest.same;
      each = (here.1, rest.each);
      denotes = (refl, here.2, rest.denotes);
    }

-- they are alike in all that expressions and types say
pub alike : {A : Type 0} (f : Expression × Typed → A) (lowered : List Lowered) (outputs : List Output) → map lowered_tree lowered ≡ map typed_tree outputs → map (λ (l : Lowered). f (lowered_tree l)) lowered ≡ map (λ (o : Output). f (typed_tree o)) outputs
alike f lowered outputs same =
    sym (map-map f lowered_tree lowered) ∙ ap (map f) same ∙ map-map f typed_tree outputs

kinds_alike : (work : Work) (lowered : List Lowered) (outputs : List Output) → map lowered_tree lowered ≡ map typed_tree outputs → flat_map (λ (l : Lowered). type_kinds work l.typed) lowered ≡ flat_map (λ (o : Output). type_kinds work o.typed) outputs
kinds_alike work lowered outputs same =
    let kinds = λ (pair : Expression × Typed). type_kinds work pair.1 in
    sym (flat_map-map kinds lowered_tree lowered) ∙ ap (flat_map kinds) same ∙ flat_map-map kinds typed_tree outputs

-- a projection that was coerced
pub has_outputs : (registry : Registry) (schema : Columns) (asked : Asked) (first : ℕ) (old new : List AExpr) (trees : List Expression) (nodes : List (Named ℕ)) (columns : Columns) → (p : Projects registry schema asked first old trees nodes columns) → AreWrittenOut registry schema first old new (map (λ (o : Output). o.node) p.outputs) → HasOutputs registry schema asked new trees nodes columns
has_outputs registry schema asked first old new trees nodes columns p coerced =
    let h = has_lowered registry schema first old new p.outputs p.each coerced.each in
    let columns_are = sym p.columns_are ∙ ap (asked_columns asked) (sym (alike (λ pair. (name_of pair.0, pair.1.type)) h.lowered p.outputs h.same)) in
    record {
      outputs = h.lowered;
      trees_are = alike (λ pair. pair.0) h.lowered p.outputs h.same ∙ p.trees_are;
      each = h.each;
      types = kinds_alike (asked_work asked) h.lowered p.outputs h.same ∙ p.types;
      distinct = subst HasDistinctNames columns_are p.distinct;
      denotes = subst (λ ns. DenoteNamed new ns (map lowered_named h.lowered)) p.nodes_are h.denotes;
      columns_are = columns_are;
    }

-- an expression that was added, of the typing that is kept at its node
pub added_output : {registry : Registry} {schema : Columns} {first : ℕ} {items : List AExpr} (types : TypeTable) (expr : Expr) (n asked : ℕ) (own : Inferred) → IsRight registry schema items types → Denotes (HoldsFrom first items) n (settled (spelled (plain_tree expr))) → asked ≡ n → KeepsEntry types asked own
    → IsOutput registry schema first items (record { tree = plain_tree expr; node = n; typed = typed_of own })
added_output {registry} {schema} {first} {items} types expr n asked own right denotes at keeps =
    let tree = settled (spelled (plain_tree expr)) in
    let here = subst (λ k. Denotes (HoldsExpression items) k tree) (sym at) (any_node first items n tree denotes) in
    let typed = typed_core registry schema (plain_tree expr) (typed_of own) (kept_typing registry schema items types right asked own keeps tree here) in
    record { denotes = denotes; typed = typed; names = plan_names expr; wide = plan_wide expr }

-- the only output of truth values is a predicate
one_predicate : (registry : Registry) (schema : Columns) (items : List AExpr) (tree : Expression) (node : Named ℕ) (outputs : List Lowered) → map (λ (l : Lowered). l.tree) outputs ≡ tree ∷ [] → AllByRecursion (IsLowered registry schema) outputs → flat_map (λ (l : Lowered). type_kinds FilterWork l.typed) outputs ≡ [] → DenoteNamed items (node ∷ []) (map lowered_named outputs) → HasPredicate registry schema items tree node
one_predicate registry schema items tree node (o ∷ []) trees each types d =
    let alone = sym (append-nil (type_kinds FilterWork o.typed)) ∙ types in
    record { output = o; filters = record { tree_is = cc; is = each.0; truth = same_type_exact o.typed.type Truth (not-false _ (no_kind _ InvalidOperation alone)) }; denotes = d }
one_predicate registry schema items tree node [] trees each types d = absurd d
one_predicate registry schema items tree node (o ∷ other ∷ rest) trees each types d = absurd d.2

pub has_predicate : (registry : Registry) (schema : Columns) (items : List AExpr) (tree : Expression) (node : Named ℕ) (nodes : List (Named ℕ)) (columns : Columns) → HasOutputs registry schema TruthValue items (tree ∷ []) nodes columns → nodes ≡ node ∷ [] → HasPredicate registry schema items tree node
has_predicate registry schema items tree node nodes columns h alone =
    one_predicate registry schema items tree node h.outputs h.trees_are h.each h.types (subst (λ ns. DenoteNamed items ns (map lowered_named h.outputs)) alone h.denotes)

-- as many nodes as expressions
pub as_many : (items : List AExpr) (nodes : List (Named ℕ)) (outputs : List Lowered) → DenoteNamed items nodes (map lowered_named outputs) → length nodes ≡ length outputs
as_many items [] [] d = refl
as_many items (n ∷ ns) (o ∷ os) d = let rest = as_many items ns os d.2 in omega arith
as_many items [] (o ∷ os) d = absurd d
as_many items (n ∷ ns) [] d = absurd d

pub only_node : (registry : Registry) (schema : Columns) (asked : Asked) (items : List AExpr) (tree : Expression) (exprs : List ExprIR) (columns : Columns) → HasOutputs registry schema asked items (tree ∷ []) (map named_node exprs) columns → length exprs ≡ 1
only_node registry schema asked items tree exprs columns h =
    sym (length-map exprs named_node) ∙ as_many items (map named_node exprs) h.outputs h.denotes ∙ sym (length-map h.outputs (λ (l : Lowered). l.tree)) ∙ ap length h.trees_are

-- a refusal for one reason is one for another
pub refused_as : {T E : Type 0} (r : Result T E) (P Q : E → Type 0) → ((error : E) → P error → Q error) → IfErr r P → IfErr r Q
refused_as (Ok x) P Q each h = tt
refused_as (Err error) P Q each h = each error h

-- earlier items stay
pub earlier_kept : (old mid new : List AExpr) → Grows old mid → KeepsBelow (length old) mid new → KeepsExpressions old new
earlier_kept old mid new g below n op inputs h =
    let within = (expression_laws old).below n op inputs h in
    let short : length (shape_of (map expression_layer old)) ≡ length old = length-map (map expression_layer old) inputs_of ∙ length-map old expression_layer in
    below n op inputs (λ le. absurd (omega (arith, within, short, le))) (grown_held old mid g n op inputs h)
