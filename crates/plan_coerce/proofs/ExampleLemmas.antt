-- What the examples share.
use Rattle.std.proofs.Common.{◌≡◌, ◌<◌, ◌≤◌, ◌-◌, ℕ, ℤ, Option, zero, suc, List, [], ◌∷◌, ◌++◌, length, map, slice_get, codes, pos, true, false, None, Some, Result, Ok, Err, refl, sym, subst, ap, ◌∙◌, arith, inl, inr, ⊎_elim}
use Rattle.std.specs.List.{AllByRecursion}
use Rattle.std.proofs.lemmas.Bool.{false≢true}
use Rattle.plan_types.specs.Schemas.{Columns, columns, same_name}
use Rattle.plan_types.specs.declared.schema.Schema.{Schema}
use Rattle.plan_types.specs.Types.{Untyped, is_known}
use Rattle.plan_types.specs.Values.{Val}
use Rattle.plan_types.specs.declared.dtype.DataType.TheVariants.{Int32}
use Rattle.plan_types.specs.declared.error.ErrorKind.{ErrorKind}
use Rattle.plan_types.specs.declared.error.ErrorKind.TheVariants.{ColumnNotFound}
use Rattle.plan_dsl.specs.Names.{Label, column_label, label_of}
use Rattle.plan_dsl.specs.Plans.{Named, PlanKind, PlanOp, Plan, FilterKind, ScanKind, named, filter_op, scan_op}
use Rattle.plan_dsl.specs.Samples.{keep, scan_of}
use Rattle.plan_dsl.specs.Registry.{Registry}
use Rattle.plan_dsl.specs.Ops.{Op, BinaryOp, LenOp, LiteralOp, Expression}
use Rattle.plan_dsl.specs.declared.operator.Operator.TheVariants.{Eq, Plus}
use Rattle.plan_dsl.specs.Trees.{Trees, node, no_more, more}
use Rattle.plan_dsl.specs.Typing.{Typed, typing}
use Rattle.plan_dsl.proofs.TypingLemmas.{ok_same}
use Rattle.plan_dsl.specs.declared.literal.LiteralValue.TheVariants.{Int}
use Rattle.plan_arena.specs.declared.aexpr.AExpr.{AExpr}
use Rattle.plan_arena.specs.declared.aexpr.AExpr.TheVariants.{Literal}
use Rattle.plan_arena.specs.Denotation.{Denotes, DenoteAll}
use Rattle.plan_arena.specs.declared.ir.IR.{IR}
use Rattle.plan_arena.specs.declared.ir.IR.TheVariants.{DataFrameScan}
use Rattle.plan_arena.specs.Layers.{layer, shape_of}
use Rattle.plan_arena.specs.RecordedSchemas.{schema_recorded}
use Rattle.plan_arena.specs.Runs.{AllAccepted}
use Rattle.plan_arena.specs.Samples.{named_twice}
use Rattle.plan_arena.specs.Items.{HoldsExpression, HoldsPlan, expression_layer, plan_layer}
use Rattle.plan_arena.proofs.DenotationLemmas.{denotes_one, some_same}
use Rattle.plan_arena.proofs.ItemLemmas.{expression_laws, layer_inputs, plan_got, plan_laws, within}
use Rattle.plan_coerce.specs.CoercionRule.{IsCoercion}
use Rattle.plan_coerce.specs.Kinds.{cast_put}
use Rattle.plan_coerce.specs.Optimizer.{AreRoots, DenotesLike, IsNumberRoot, IsTypedRoot}
use Rattle.plan_coerce.specs.Reaching.{Among, AreOnce, HasNodes, HaveNodes, Near, ReachedBy}
use Rattle.plan_coerce.specs.Rules.{IsSettledPlan, HasAcceptedInputs, IsPlanNode, IsLike, IsReplacement, IsSameOnFrames, KeepsNone, SettlesNoNumber, StandsOver, has_truth, is_settled, until_settled}
use Rattle.plan_coerce.specs.Samples.{wide, cast_of, strict_items, strict_sum, equal_items, filter_by, filters, scan_and, IsSumFound, IsSumPlaced}
use Rattle.plan_arena.specs.Unchecked.{GoesInto, HasUncheckedSchema, KeepsOtherRules, unchecked_schema}
use Rattle.plan_coerce.proofs.SettledLemmas.{settled_no_number}
use Rattle.plan_arena.proofs.UncheckedLemmas.{schema_recorded_is}
use Rattle.plan_infer.specs.declared.type_table.Inferred.{Inferred}
use Rattle.plan_infer.specs.declared.type_table.TypeTable.{TypeTable}
use Rattle.plan_infer.specs.KeptTypes.{KeepsEntry}
use Rattle.plan_infer.specs.Typed.{HasKnownType}
use Rattle.plan_infer.specs.Samples.{int8, int32, two_columns, of_type, a, b, five, binary, sum, pair, columns_and, sum_items, a_items}

-- a node denotes one tree
pub one_denoted : (items : List AExpr) (n : ℕ) (t u : Expression) → Denotes (HoldsExpression items) n t → Denotes (HoldsExpression items) n u → t ≡ u
one_denoted items = denotes_one (shape_of (map expression_layer items)) (HoldsExpression items) (expression_laws items)

-- an expression of a type of columns has the type that its typing says
pub known_one : (answer : Result Typed ErrorKind) (typed : Typed) → HasKnownType answer → answer ≡ Ok typed → is_known typed.type ≡ true
known_one answer typed has is = subst (λ t. is_known t.type ≡ true) (ok_same answer has.typed typed has.is is) has.known

-- two names that the examples use differ
pub other_name : codes "b" ≡ codes "a" → ⊥
other_name e = let differs : false ≡ true = ap (same_name (codes "a")) e in cc

pub other_label : column_label (codes "b") ≡ column_label (codes "a") → ⊥
other_label e = other_name (ap (λ (label : Label). label.name) e)

-- what a node denotes says the same
pub same_tree : (related : Expression → Expression → Type 0) (registry : Registry) (schema : Columns) (items : List AExpr) (n : ℕ) (before tree : Expression) → DenotesLike related registry schema items n before → Denotes (HoldsExpression items) n tree → IsSameOnFrames registry schema before tree
same_tree related registry schema items n before tree found d = subst (IsSameOnFrames registry schema before) (one_denoted items n found.tree tree found.denotes d) found.like.same

-- what the sums denote, and that no node has a number past the end
pub sum_denotes : Denotes (HoldsExpression sum_items) 2 sum
sum_denotes = (0 ∷ 1 ∷ [], refl, (([], refl, tt), (([], refl, tt), tt)))

pub strict_denotes : Denotes (HoldsExpression strict_items) 2 strict_sum
strict_denotes = (3 ∷ 1 ∷ [], refl, ((0 ∷ [], refl, (([], refl, tt), tt)), (([], refl, tt), tt)))

pub no_node : (items : List AExpr) (n : ℕ) (t : Expression) → length items ≤ n → Denotes (HoldsExpression items) n t → ⊥
no_node items n t past d = omega (arith, past, within items n t d)

-- a first node without inputs leads nowhere
pub reached_alone : (items : List AExpr) (op : Op) → HoldsExpression items 0 op [] → (steps n : ℕ) → ReachedBy items (0 ∷ []) steps n → n ≡ 0
reached_alone items op held zero n path = ⊎_elim (λ e. e) (λ none. absurd none) path
reached_alone items op held (suc steps) n path =
    let here = subst (λ m. HoldsExpression items m path.1 path.2) (reached_alone items op held steps path.0 path.3) path.4 in
    let none = layer_inputs op path.1 [] path.2 (some_same (slice_get (map expression_layer items) 0) _ _ held here) in
    absurd (subst (λ ns. Among ns n) (sym none) path.5)

-- no roots reach no node
pub none_reached : (items : List AExpr) (steps n : ℕ) → ReachedBy items [] steps n → ⊥
none_reached items zero n path = path
none_reached items (suc steps) n path = none_reached items steps path.0 path.3

-- a node leads to the nodes of one list
module _ (items : List AExpr) where
  mutual
    pub one_list : (n : ℕ) (t u : Expression) (ms ns : List ℕ) → HasNodes items n t ms → HasNodes items n u ns → ms ≡ ns
    one_list n (node op ts) (node op' us) ms ns h k =
        let same = layer_inputs op op' h.0 k.0 (some_same (slice_get (map expression_layer items) n) _ _ h.2 k.2) in
        h.3 ∙ ap (λ l. n ∷ l) (one_list_of_all h.0 ts us h.1 k.1 h.4 (subst (λ is. HaveNodes items is us k.1) (sym same) k.4)) ∙ sym k.3

    pub one_list_of_all : (is : List ℕ) (ts us : Trees Op) (ms ns : List ℕ) → HaveNodes items is ts ms → HaveNodes items is us ns → ms ≡ ns
    one_list_of_all [] no_more no_more ms ns h k = h ∙ sym k
    one_list_of_all (n ∷ is) (more t ts) (more u us) ms ns h k =
        h.2 ∙ ap (λ l. l ++ h.1) (one_list n t u h.0 k.0 h.3 k.3) ∙ ap (λ l. k.0 ++ l) (one_list_of_all is ts us h.1 k.1 h.4 k.4) ∙ sym k.2
    one_list_of_all [] (more t ts) us ms ns h k = absurd h
    one_list_of_all [] no_more (more u us) ms ns h k = absurd k
    one_list_of_all (n ∷ is) no_more us ms ns h k = absurd h
    one_list_of_all (n ∷ is) (more t ts) no_more ms ns h k = absurd k

-- the sum that is put in place of the other: what it leads to, and that it is a replacement, which the rule places
first_strict : HasNodes strict_items 0 a (0 ∷ [])
first_strict = ([], [], refl, refl, refl)

pub strict_nodes : HasNodes strict_items 2 strict_sum (2 ∷ 3 ∷ 0 ∷ 1 ∷ [])
strict_nodes = (3 ∷ 1 ∷ [], 3 ∷ 0 ∷ 1 ∷ [], refl, refl, (3 ∷ 0 ∷ [], 1 ∷ [], refl, (0 ∷ [], 0 ∷ [], refl, refl, (0 ∷ [], [], refl, first_strict, refl)), (1 ∷ [], [], refl, ([], [], refl, refl, refl), refl)))

pub strict_once : AreOnce (2 ∷ 3 ∷ 0 ∷ 1 ∷ [])
strict_once = (
  λ a. ⊎_elim (λ e. absurd (omega (arith, e))) (λ b. ⊎_elim (λ e. absurd (omega (arith, e))) (λ d. ⊎_elim (λ e. absurd (omega (arith, e))) (λ n. absurd n) d) b) a,
  (
    λ a. ⊎_elim (λ e. absurd (omega (arith, e))) (λ b. ⊎_elim (λ e. absurd (omega (arith, e))) (λ n. absurd n) b) a,
    (λ a. ⊎_elim (λ e. absurd (omega (arith, e))) (λ n. absurd n) a, ((λ a. a), tt)),
  ),
)

wide_measured : until_settled [] two_columns wide < 2
wide_measured = omega arith

new_measured : (n : ℕ) (t : Expression) → 3 ≤ n → Denotes (HoldsExpression strict_items) n t → until_settled [] two_columns t < 2
new_measured zero t le d = absurd (omega (arith, le))
new_measured (suc zero) t le d = absurd (omega (arith, le))
new_measured (suc (suc zero)) t le d = absurd (omega (arith, le))
new_measured (suc (suc (suc zero))) t le d =
    subst (λ u. until_settled [] two_columns u < 2) (one_denoted strict_items 3 wide t (0 ∷ [], refl, (([], refl, tt), tt)) d) wide_measured
new_measured (suc (suc (suc (suc n)))) t le d = absurd (no_node strict_items (suc (suc (suc (suc n)))) t (omega arith) d)

no_numbers : (n : ℕ) (number : ℤ) (value : Val) (inputs : List ℕ) → HoldsExpression strict_items n (LiteralOp (Untyped number) value) inputs → ⊥
no_numbers zero number value inputs h = cc
no_numbers (suc zero) number value inputs h = cc
no_numbers (suc (suc zero)) number value inputs h = cc
no_numbers (suc (suc (suc zero))) number value inputs h = cc
no_numbers (suc (suc (suc (suc n)))) number value inputs h = cc

sum_coerced : IsCoercion [] two_columns sum strict_sum
sum_coerced = record { same = refl; becomes = record { count = 1; steps = (strict_sum, inr (more wide (more b no_more), refl, inl (inl (cast_put (of_type int8) int32 refl refl refl), refl)), refl) } }

pub sums_alike : IsLike (IsCoercion [] two_columns) [] two_columns sum strict_sum
sums_alike = record { same = record { typing = refl; name = refl; meaning = λ rows is numbers within. refl }; relates = sum_coerced }

pub sum_replaced : IsReplacement (IsCoercion [] two_columns) (until_settled [] two_columns) [] two_columns sum_items strict_items 2 sum
sum_replaced = record {
  tree = strict_sum;
  denotes = strict_denotes;
  like = λ typed is. sums_alike;
  ill_typed = λ kind is. let differs : Ok (of_type int32) ≡ Err kind = is in cc;
  known = λ typed is. known_one _ typed (record { typed = of_type int32; is = refl; known = refl }) is;
  falls = omega arith;
  fresh = λ n t le r d. new_measured n t le d;
  numbers = λ n number value inputs r h. absurd (no_numbers n number value inputs h);
}

-- each node is near the sum
pub near_sum : (n : ℕ) → Near sum_items (2 ∷ []) n
near_sum zero = inr (record { steps = 1; path = (2, BinaryOp Plus, 0 ∷ 1 ∷ [], inl refl, refl, inl refl) })
near_sum (suc zero) = inr (record { steps = 1; path = (2, BinaryOp Plus, 0 ∷ 1 ∷ [], inl refl, refl, inr (inl refl)) })
near_sum (suc (suc zero)) = inr (record { steps = 0; path = inl refl })
near_sum (suc (suc (suc n))) = inl (omega arith)

pub all_near_sum : (ns : List ℕ) → AllByRecursion (Near sum_items (2 ∷ [])) ns
all_near_sum [] = tt
all_near_sum (n ∷ ns) = (near_sum n, all_near_sum ns)

pub sum_placed : IsSumPlaced sum_items strict_items 2
sum_placed = record {
  grown = columns_and (pair 0 Plus 1 ∷ cast_of 0 Int32 ∷ []);
  grows = record { added = cast_of 0 Int32 ∷ []; longer = refl };
  item = pair 3 Plus 1;
  is = refl;
  answer = λ t d. subst (IsReplacement (IsCoercion [] two_columns) (until_settled [] two_columns) [] two_columns sum_items strict_items 2) (one_denoted sum_items 2 sum t sum_denotes d) sum_replaced;
  numbers = λ t typed d is unknown. settled_no_number [] two_columns;
  reaches = λ n is m op inputs near h. all_near_sum inputs;
  once = λ n is t ns h once. (strict_sum, 2 ∷ 3 ∷ 0 ∷ 1 ∷ [], strict_nodes, strict_once);
}

-- the sum is not strict, so it is neither found settled nor left as it is
pub sum_not_found : (new : List AExpr) → IsSumFound sum_items new 2 → ⊥
sum_not_found new found = let settled : false ≡ true = found.is sum sum_denotes in cc

pub sum_not_left : IsSumPlaced sum_items sum_items 2 → ⊥
sum_not_left placed =
    let r = placed.answer sum sum_denotes in
    let falls : 2 < 2 = subst (λ (t : Expression). until_settled [] two_columns t < 2) (one_denoted sum_items 2 r.tree sum r.denotes sum_denotes) r.falls in
    omega (arith, falls)

pub sum_nodes : HasNodes sum_items 2 sum (2 ∷ 0 ∷ 1 ∷ [])
sum_nodes = (0 ∷ 1 ∷ [], 0 ∷ 1 ∷ [], refl, refl, (0 ∷ [], 1 ∷ [], refl, ([], [], refl, refl, refl), (1 ∷ [], [], refl, ([], [], refl, refl, refl), refl)))

pub sum_once : AreOnce (2 ∷ 0 ∷ 1 ∷ [])
sum_once = (
  λ a. ⊎_elim (λ e. absurd (omega (arith, e))) (λ b. ⊎_elim (λ e. absurd (omega (arith, e))) (λ n. absurd n) b) a,
  (λ a. ⊎_elim (λ e. absurd (omega (arith, e))) (λ n. absurd n) a, ((λ a. a), tt)),
)

-- ---- plans' nodes

-- a scan, with any arena of expressions
pub scan_with : (items : List AExpr) (plans : List IR) (n : ℕ) (schema : Schema) (own : Columns) → slice_get plans n ≡ Some (DataFrameScan (Some 0) schema) → columns schema ≡ own → Denotes (HoldsPlan items plans) n (scan_of 0 own)
scan_with items plans n schema own got is = (
  [],
  record {
    flat = scan_op (Some 0) own;
    item = plan_got plans n (DataFrameScan (Some 0) schema) got ∙ ap (λ s. Some (layer (scan_op (Some 0) s) [])) is;
    denotes = record { same_recorded = refl; kind = refl };
  },
  tt,
)

pub scan_at : (plans : List IR) (n : ℕ) (schema : Schema) → slice_get plans n ≡ Some (DataFrameScan (Some 0) schema) → columns schema ≡ two_columns → Denotes (HoldsPlan equal_items plans) n (scan_of 0 two_columns)
scan_at plans n schema = scan_with equal_items plans n schema two_columns

-- one of columns of one name has no schema
pub scan_refused : (plans : List IR) (n : ℕ) (schema : Schema) → slice_get plans n ≡ Some (DataFrameScan (Some 0) schema) → columns schema ≡ named_twice → (s : Columns) → HasUncheckedSchema [] plans n s → ⊥
scan_refused plans n schema got is s h =
    let same = denotes_one (shape_of (map plan_layer plans)) (HoldsPlan h.expressions plans) (plan_laws h.expressions plans) n h.plan (scan_of 0 named_twice) h.denotes (scan_with h.expressions plans n schema named_twice got is) in
    let none : None ≡ Some s = subst (λ t. unchecked_schema [] t ≡ Some s) same h.is in
    cc

pub scan_denotes : (schema : Schema) (behind : List IR) → columns schema ≡ two_columns → Denotes (HoldsPlan equal_items (scan_and schema behind)) 0 (scan_of 0 two_columns)
scan_denotes schema behind is = scan_at (scan_and schema behind) 0 schema refl is

-- a filter over a node that denotes a plan
pub filter_denotes : (plans : List IR) (n input by : ℕ) (below : Plan) (predicate : Expression) → slice_get plans n ≡ Some (filter_by input by) → column_label (codes "a") ≡ label_of predicate → Denotes (HoldsExpression equal_items) by (named predicate).expression → Denotes (HoldsPlan equal_items plans) input below → Denotes (HoldsPlan equal_items plans) n (keep predicate below)
filter_denotes plans n input by below predicate got label d under = (
  input ∷ [],
  record {
    flat = filter_op (record { label = column_label (codes "a"); expression = by });
    item = plan_got plans n (filter_by input by) got;
    denotes = record { same_recorded = refl; kind = ((named predicate ∷ []) ∷ [], refl, ((label, d, tt), tt)) };
  },
  (under, tt),
)

pub equal_denotes : Denotes (HoldsExpression equal_items) 2 (binary Eq a b)
equal_denotes = (0 ∷ 1 ∷ [], refl, (([], refl, tt), (([], refl, tt), tt)))

-- the filters over the scan, by truth values and by numbers, and the one over the latter
module _ (schema : Schema) (is : columns schema ≡ two_columns) where
  under : Denotes (HoldsPlan equal_items (filters schema)) 0 (scan_of 0 two_columns)
  under = scan_denotes schema (filter_by 0 2 ∷ filter_by 0 0 ∷ filter_by 2 2 ∷ []) is

  pub truth_filter : Denotes (HoldsPlan equal_items (filters schema)) 1 (keep (binary Eq a b) (scan_of 0 two_columns))
  truth_filter = filter_denotes (filters schema) 1 0 2 (scan_of 0 two_columns) (binary Eq a b) refl refl equal_denotes under

  pub number_filter : Denotes (HoldsPlan equal_items (filters schema)) 2 (keep a (scan_of 0 two_columns))
  number_filter = filter_denotes (filters schema) 2 0 0 (scan_of 0 two_columns) a refl refl ([], refl, tt) under

  pub filter_of_filter : Denotes (HoldsPlan equal_items (filters schema)) 3 (keep (binary Eq a b) (keep a (scan_of 0 two_columns)))
  filter_of_filter = filter_denotes (filters schema) 3 2 2 (keep a (scan_of 0 two_columns)) (binary Eq a b) refl refl equal_denotes number_filter

-- the scan is accepted
pub scan_accepted : AllAccepted [] (more (scan_of 0 two_columns) no_more)
scan_accepted = ((refl, tt), tt)

-- nodes without inputs and over one, and what is recorded of an input
no_input : (plans : List IR) (own : Columns) (ns : List ℕ) → DenoteAll (HoldsPlan equal_items plans) ns no_more → AllByRecursion (λ n. (schema : Columns) × HasUncheckedSchema [] plans n schema) ns × GoesInto [] plans (ScanKind (Some 0) own) ns own
no_input plans own [] d = (tt, refl)
no_input plans own (n ∷ ns) d = absurd d

one_input : (plans : List IR) (predicate : Named Expression) (t : Plan) (schema : Columns) → KeepsOtherRules [] t → unchecked_schema [] t ≡ Some schema → (ns : List ℕ) → DenoteAll (HoldsPlan equal_items plans) ns (more t no_more) → AllByRecursion (λ n. (own : Columns) × HasUncheckedSchema [] plans n own) ns × GoesInto [] plans (FilterKind predicate) ns schema
one_input plans predicate t schema keeps is [] d = absurd d
one_input plans predicate t schema keeps is (n ∷ []) d =
    let has : HasUncheckedSchema [] plans n schema = record { expressions = equal_items; plan = t; denotes = d.0; keeps = keeps; is = is } in
    (((schema, has), tt), has)
one_input plans predicate t schema keeps is (n ∷ m ∷ ns) d = absurd d.1

-- a scan, and a filter over a plan that keeps the other rules
module _ (plans : List IR) (n : ℕ) (own : Columns) (d : Denotes (HoldsPlan equal_items plans) n (scan_of 0 own)) where
  pub scan_node : IsPlanNode [] equal_items plans n (scan_op (Some 0) own) no_more
  scan_node = record { denotes = d; each = (no_input plans own d.0 d.2).0 }

  pub scan_stands : StandsOver [] equal_items plans n (ScanKind (Some 0) own) own
  scan_stands =
      let over = no_input plans own d.0 d.2 in
      record { op = scan_op (Some 0) own; inputs = no_more; is = record { denotes = d; each = over.0 }; of_kind = refl; into = over.1 }

module _ (plans : List IR) (n : ℕ) (predicate : Expression) (t : Plan) (schema : Columns) (keeps : KeepsOtherRules [] t) (is : unchecked_schema [] t ≡ Some schema) (d : Denotes (HoldsPlan equal_items plans) n (keep predicate t)) where
  pub keep_node : IsPlanNode [] equal_items plans n (filter_op (named predicate)) (more t no_more)
  keep_node = record { denotes = d; each = (one_input plans (named predicate) t schema keeps is d.0 d.2).0 }

  pub keep_stands : StandsOver [] equal_items plans n (FilterKind (named predicate)) schema
  keep_stands =
      let over = one_input plans (named predicate) t schema keeps is d.0 d.2 in
      record { op = filter_op (named predicate); inputs = more t no_more; is = record { denotes = d; each = over.0 }; of_kind = refl; into = over.1 }

into_recorded : (plans : List IR) (kind : PlanKind (Named Expression)) (over : Columns) (first : Plan) (ns : List ℕ) → DenoteAll (HoldsPlan equal_items plans) ns (more first no_more) → GoesInto [] plans kind ns over → schema_recorded first ≡ Some over
into_recorded plans kind over first [] d into = absurd d
into_recorded plans kind over first (n ∷ ns) d into = schema_recorded_is [] plans n over into equal_items first d.0

-- a node is of one kind, over one schema
module _ (plans : List IR) (n : ℕ) (op : PlanOp (Named Expression)) (inputs : Trees (PlanOp (Named Expression))) (d : Denotes (HoldsPlan equal_items plans) n (node op inputs)) where
  pub one_plan : (t : Plan) → Denotes (HoldsPlan equal_items plans) n t → t ≡ node op inputs
  one_plan t e = denotes_one (shape_of (map plan_layer plans)) (HoldsPlan equal_items plans) (plan_laws equal_items plans) n t (node op inputs) e d

  op_same : (o : PlanOp (Named Expression)) (ts : Trees (PlanOp (Named Expression))) → node o ts ≡ node op inputs → o ≡ op
  op_same o ts e = cc

  inputs_same : (o : PlanOp (Named Expression)) (ts : Trees (PlanOp (Named Expression))) → node o ts ≡ node op inputs → ts ≡ inputs
  inputs_same o ts e = cc

  pub one_kind : (kind : PlanKind (Named Expression)) (over : Columns) → StandsOver [] equal_items plans n kind over → kind ≡ op.kind
  one_kind kind over s = sym s.of_kind ∙ ap (λ (o : PlanOp (Named Expression)). o.kind) (op_same s.op s.inputs (one_plan (node s.op s.inputs) s.is.denotes))

  -- what goes into it is recorded of its first input
  pub first_recorded : (kind : PlanKind (Named Expression)) (over : Columns) → StandsOver [] equal_items plans n kind over → (first : Plan) → inputs ≡ more first no_more → schema_recorded first ≡ Some over
  first_recorded kind over s first is =
      let d = s.is.denotes in
      into_recorded plans kind over first d.0 (subst (DenoteAll (HoldsPlan equal_items plans) d.0) (inputs_same s.op s.inputs (one_plan (node s.op s.inputs) d) ∙ is) d.2) s.into

  pub inputs_accepted : HasAcceptedInputs [] equal_items plans n → AllAccepted [] inputs
  inputs_accepted h = subst (AllAccepted []) (inputs_same h.op h.inputs (one_plan (node h.op h.inputs) h.denotes)) h.accepted

pub no_filter : (predicate : Named Expression) → FilterKind predicate ≡ ScanKind (Some 0) two_columns → ⊥
no_filter predicate e = cc

some_same_columns : (s t : Columns) → Some s ≡ Some t → t ≡ s
some_same_columns s t e = cc

-- a filter over the scan: what stands there is it
module _ (plans : List IR) (n : ℕ) (predicate : Expression) (d : Denotes (HoldsPlan equal_items plans) n (keep predicate (scan_of 0 two_columns))) where
  pub over_scan : IsPlanNode [] equal_items plans n (filter_op (named predicate)) (more (scan_of 0 two_columns) no_more)
  over_scan = keep_node plans n predicate (scan_of 0 two_columns) two_columns (refl, tt) refl d

  pub filter_stands : StandsOver [] equal_items plans n (FilterKind (named predicate)) two_columns
  filter_stands = keep_stands plans n predicate (scan_of 0 two_columns) two_columns (refl, tt) refl d

  pub filter_kind : (kind : PlanKind (Named Expression)) (over : Columns) → StandsOver [] equal_items plans n kind over → kind ≡ FilterKind (named predicate)
  filter_kind kind over s = one_kind plans n (filter_op (named predicate)) (more (scan_of 0 two_columns) no_more) d kind over s

  pub filter_over : (kind : PlanKind (Named Expression)) (over : Columns) → StandsOver [] equal_items plans n kind over → over ≡ two_columns
  filter_over kind over s = some_same_columns two_columns over (first_recorded plans n (filter_op (named predicate)) (more (scan_of 0 two_columns) no_more) d kind over s (scan_of 0 two_columns) refl)

pub truth_settled : (schema : Schema) → columns schema ≡ two_columns → IsSettledPlan has_truth [] equal_items (filters schema) 1
truth_settled schema is kind over s =
    let d = truth_filter schema is in
    subst (λ k. has_truth [] over k ≡ true) (sym (filter_kind (filters schema) 1 (binary Eq a b) d kind over s))
    (subst (λ o. has_truth [] o (FilterKind (named (binary Eq a b))) ≡ true) (sym (filter_over (filters schema) 1 (binary Eq a b) d kind over s)) refl)

-- ---- tables of one entry

pub one_entry_kept : (table : TypeTable) (left own : Inferred) → table.first ≡ 2 → table.entries.items ≡ Some left ∷ [] → KeepsEntry table 2 own → left ≡ own
one_entry_kept table left own first entries keeps =
    let item = keeps.1 in
    cc

pub entry_kept : (table : TypeTable) (own : Inferred) → table.first ≡ 2 → table.entries.items ≡ Some own ∷ [] → KeepsEntry table 2 own
entry_kept table own first entries = rw (first, entries) (omega arith, refl)

none_listed : (n : ℕ) (own : Inferred) → slice_get (None ∷ []) n ≡ Some (Some own) → ⊥
none_listed zero own e = cc
none_listed (suc n) own e = cc

pub no_entry_kept : (table : TypeTable) → table.first ≡ 2 → table.entries.items ≡ None ∷ [] → KeepsNone table
no_entry_kept table first entries n k = none_listed (n - table.first) k.own (subst (λ (l : List (Option Inferred)). slice_get l (n - table.first) ≡ Some (Some k.own)) entries k.keeps.1)

-- ---- numbers without a type as roots

abbrev pub number_items : List AExpr
number_items = Literal (Int (pos 5)) ∷ []

pub number_denotes : Denotes (HoldsExpression number_items) 0 five
number_denotes = ([], refl, tt)

pub number_root : IsNumberRoot [] [] number_items 0
number_root = record { tree = five; denotes = number_denotes; number = pos 5; many = false; is = refl }

-- a root alone has none beside it
pub none_beside : (root : ℕ) (front back : List ℕ) (m : ℕ) → root ∷ [] ≡ front ++ m ∷ back → (n : ℕ) → Among (front ++ back) n → ⊥
none_beside root [] back m is n among =
    let none : back ≡ [] = cc in
    subst (λ l. Among l n) none among
none_beside root (f ∷ []) back m is n among = cc
none_beside root (f ∷ g ∷ fs) back m is n among = cc

pub number_alone : AreRoots (is_settled [] []) [] [] number_items (0 ∷ [])
number_alone = record { each = (inr number_root, tt); apart = λ front back m is number n among reaches. none_beside 0 front back m is n among }

-- a column that isn't there has no type
pub no_column_typed : (t : Expression) (typed : Typed) → Denotes (HoldsExpression a_items) 0 t → typing [] [] t ≡ Ok typed → ⊥
no_column_typed t typed d is =
    let none : Err ColumnNotFound ≡ Ok typed = subst (λ u. typing [] [] u ≡ Ok typed) (one_denoted a_items 0 t a d ([], refl, tt)) is in
    cc

pub no_column_root : AreRoots (is_settled [] []) [] [] a_items (0 ∷ []) → ⊥
no_column_root roots = ⊎_elim (λ (r : IsTypedRoot (is_settled [] []) [] [] a_items 0). no_column_typed r.tree r.typed r.denotes r.is) (λ (r : IsNumberRoot [] [] a_items 0). no_column_typed r.tree (record { type = Untyped r.number; many = r.many }) r.denotes r.is) roots.each.0

-- a rule that calls every node settled settles numbers without a type
pub any_settled : SettlesNoNumber (λ t. true) [] [] → ⊥
any_settled settles = false≢true ((settles LenOp (more five no_more) refl).0 (record { type = Untyped (pos 5); many = false }) refl)
