-- Laws of comparing expressions.
use Rattle.std.specs.Prelude.{◌≡◌, ◌==◌, Bool, true, false, Option, Some, None}
use Rattle.std.specs.Cmp.{IsEquivalence, booleans_Decides}
use Rattle.std.specs.Cmp.Lexicographic.{pointwise, pointwise_decides}
use Rattle.std.proofs.Common.{refl, ap, subst, ◌∙◌}
use Rattle.std.specs.Str.{bytes_eq}
use Rattle.std.proofs.lemmas.Slice.Eq.{bytes_eq-Decides}
use Rattle.std.proofs.lemmas.Bool.{and_parts, and_from}
use Rattle.std.proofs.lemmas.Bool.Decides.{Decides-eqb, Decides-int_eq}
use Rattle.std.proofs.lemmas.Cmp.{on_equiv}
use Rattle.std.specs.Bool.{Decides, beq}
use Rattle.std.specs.Ordering.{on}
use Rattle.plan_types.specs.Types.{same_type}
use Rattle.plan_types.specs.TypeLaws.{equivalence_from_exact, same_type_exact, same_type_own}
use Rattle.plan_types.specs.Values.{same_value}
use Rattle.plan_types.specs.ValueLaws.{same_value_exact, same_value_own}
use Rattle.plan_types.specs.declared.dtype.CastOptions.{CastOptions}
use Rattle.plan_types.specs.declared.dtype.CastOptions.TheVariants.{Strict, NonStrict, Overflowing}
use Rattle.plan_dsl.specs.declared.aggregate.GroupByMethod.{GroupByMethod}
use Rattle.plan_dsl.specs.declared.aggregate.GroupByMethod.TheVariants.{Min, NanMin, Max, NanMax, NUnique, First, Last, Implode, Sum, Count, Groups}
use Rattle.plan_dsl.specs.declared.literal.LiteralValue.{LiteralValue}
use Rattle.plan_dsl.specs.declared.operator.Operator.{Operator}
use Rattle.plan_dsl.specs.declared.operator.Operator.TheVariants.{Eq, EqValidity, NotEq, NotEqValidity, Lt, LtEq, Gt, GtEq, Plus, Minus, Multiply, Divide, FloorDivide, Modulus, And, Or, Xor, LogicalAnd, LogicalOr}
use Rattle.plan_dsl.specs.declared.sort_options.SortOptions.{SortOptions}
use Rattle.plan_dsl.specs.Trees.{Tree, Trees, node, no_more, more}
use Rattle.plan_dsl.specs.Ops.{Op, ColumnOp, LiteralOp, BinaryOp, CastOp, LenOp, SliceOp, AliasOp, ExplodeOp, GatherOp, FilterOp, SortOp, SortByOp, AggOp, WindowOp, TernaryOp, FunctionOp}
use Rattle.plan_dsl.specs.declared.function_expr.FunctionExpr.{FunctionExpr}
use Rattle.plan_dsl.specs.declared.function_expr.FunctionExpr.TheVariants.{AllHorizontal, AnyHorizontal, IsNull, IsNotNull, FillNull, IsIn, ShiftAndFill, ListGet, FieldByName, FieldByIndex}
use Rattle.plan_dsl.specs.Functions.{same_function}
use Rattle.plan_dsl.specs.Labels.{Label, Origin, FromColumn, FromLiteral, FromAlias, FromField, FromNothing}
use Rattle.plan_dsl.specs.Literals.{literal_type, literal_value, literal_op}
use Rattle.plan_dsl.specs.SameExpressions.{operator_rank, same_operator, method_rank, same_method, options_rank, same_options, same_sort, same_flags, same_label, same_literal, same_op, origin_rank, same_tree, same_trees, literal_writes, same_order}

-- operators and ways to cast that compare equal are one
pub same_operator_exact : (a b : Operator) → same_operator a b ≡ true → a ≡ b
same_operator_exact Eq Eq h = refl
same_operator_exact EqValidity EqValidity h = refl
same_operator_exact NotEq NotEq h = refl
same_operator_exact NotEqValidity NotEqValidity h = refl
same_operator_exact Lt Lt h = refl
same_operator_exact LtEq LtEq h = refl
same_operator_exact Gt Gt h = refl
same_operator_exact GtEq GtEq h = refl
same_operator_exact Plus Plus h = refl
same_operator_exact Minus Minus h = refl
same_operator_exact Multiply Multiply h = refl
same_operator_exact Divide Divide h = refl
same_operator_exact FloorDivide FloorDivide h = refl
same_operator_exact Modulus Modulus h = refl
same_operator_exact And And h = refl
same_operator_exact Or Or h = refl
same_operator_exact Xor Xor h = refl
same_operator_exact LogicalAnd LogicalAnd h = refl
same_operator_exact LogicalOr LogicalOr h = refl
same_operator_exact _ _ h = cc

pub same_operator_own : (a : Operator) → same_operator a a ≡ true
same_operator_own a = (Decides-eqb (operator_rank a) (operator_rank a)).1 refl

pub same_options_exact : (a b : CastOptions) → same_options a b ≡ true → a ≡ b
same_options_exact Strict Strict h = refl
same_options_exact NonStrict NonStrict h = refl
same_options_exact Overflowing Overflowing h = refl
same_options_exact _ _ h = cc

pub same_options_own : (a : CastOptions) → same_options a a ≡ true
same_options_own a = (Decides-eqb (options_rank a) (options_rank a)).1 refl

pub same_sort_exact : (a b : SortOptions) → same_sort a b ≡ true → a ≡ b
same_sort_exact a b h =
    let parts = and_parts (beq a.descending b.descending) (beq a.nulls_last b.nulls_last) h in
    let descending = (booleans_Decides a.descending b.descending).0 parts.0 in
    let nulls_last = (booleans_Decides a.nulls_last b.nulls_last).0 parts.1 in
    λ i. record { descending = descending i; nulls_last = nulls_last i }

pub same_sort_own : (a : SortOptions) → same_sort a a ≡ true
same_sort_own a = and_from _ _ ((booleans_Decides a.descending a.descending).1 refl) ((booleans_Decides a.nulls_last a.nulls_last).1 refl)

-- methods that compare equal are one
pub same_method_exact : (a b : GroupByMethod) → same_method a b ≡ true → a ≡ b
same_method_exact Min Min h = refl
same_method_exact NanMin NanMin h = refl
same_method_exact Max Max h = refl
same_method_exact NanMax NanMax h = refl
same_method_exact NUnique NUnique h = refl
same_method_exact First First h = refl
same_method_exact Last Last h = refl
same_method_exact Implode Implode h = refl
same_method_exact Sum Sum h = refl
same_method_exact (Count true) (Count true) h = refl
same_method_exact (Count false) (Count false) h = refl
same_method_exact Groups Groups h = refl
same_method_exact (Count true) _ h = cc
same_method_exact (Count false) _ h = cc
same_method_exact _ (Count true) h = cc
same_method_exact _ (Count false) h = cc
same_method_exact _ _ h = cc

pub same_method_own : (a : GroupByMethod) → same_method a a ≡ true
same_method_own a = (Decides-eqb (method_rank a) (method_rank a)).1 refl

pub same_order_exact : (a b : Option SortOptions) → same_order a b ≡ true → a ≡ b
same_order_exact None None h = refl
same_order_exact (Some options) (Some other) h = ap Some (same_sort_exact options other h)
same_order_exact None (Some other) h = cc
same_order_exact (Some options) None h = cc

pub same_order_own : (a : Option SortOptions) → same_order a a ≡ true
same_order_own None = refl
same_order_own (Some options) = same_sort_own options

-- functions that compare equal are one
pub same_function_exact : (a b : FunctionExpr) → same_function a b ≡ true → a ≡ b
same_function_exact IsNull IsNull h = refl
same_function_exact IsNotNull IsNotNull h = refl
same_function_exact FillNull FillNull h = refl
same_function_exact IsIn IsIn h = refl
same_function_exact ShiftAndFill ShiftAndFill h = refl
same_function_exact (ListGet flag) (ListGet other) h = ap ListGet ((booleans_Decides flag other).0 h)
same_function_exact (FieldByName name) (FieldByName other) h = ap FieldByName ((bytes_eq-Decides name other).0 h)
same_function_exact AllHorizontal AllHorizontal h = refl
same_function_exact AnyHorizontal AnyHorizontal h = refl
same_function_exact (FieldByIndex place) (FieldByIndex other) h = ap FieldByIndex ((Decides-int_eq place other).0 h)
same_function_exact _ _ h = cc

pub same_function_own : (a : FunctionExpr) → same_function a a ≡ true
same_function_own (ListGet flag) = (booleans_Decides flag flag).1 refl
same_function_own (FieldByName name) = (bytes_eq-Decides name name).1 refl
same_function_own (FieldByIndex place) = (Decides-int_eq place place).1 refl
same_function_own _ = refl

same_origin_exact : (a b : Origin) → (origin_rank a == origin_rank b) ≡ true → a ≡ b
same_origin_exact FromColumn FromColumn h = refl
same_origin_exact FromLiteral FromLiteral h = refl
same_origin_exact FromAlias FromAlias h = refl
same_origin_exact FromField FromField h = refl
same_origin_exact FromNothing FromNothing h = refl
same_origin_exact _ _ h = cc

same_label_exact : (a b : Label) → same_label a b ≡ true → a ≡ b
same_label_exact a b h =
    let parts = and_parts (bytes_eq a.name b.name) (origin_rank a.origin == origin_rank b.origin) h in
    let name = (bytes_eq-Decides a.name b.name).0 parts.0 in
    let origin = same_origin_exact a.origin b.origin parts.1 in
    λ i. record { name = name i; origin = origin i }

same_label_own : (a : Label) → same_label a a ≡ true
same_label_own a = and_from _ _ ((bytes_eq-Decides a.name a.name).1 refl) ((Decides-eqb (origin_rank a.origin) (origin_rank a.origin)).1 refl)

labels_decided : (a b : Label) → Decides (same_label a b) (a ≡ b)
labels_decided a b = (same_label_exact a b, λ e. subst (λ x. same_label a x ≡ true) e (same_label_own a))

-- nodes that compare equal do the same
pub same_op_exact : (a b : Op) → same_op a b ≡ true → a ≡ b
same_op_exact (ColumnOp name) (ColumnOp other) h = ap ColumnOp ((bytes_eq-Decides name other).0 h)
same_op_exact (LiteralOp type value) (LiteralOp other given) h =
    let parts = and_parts (same_type type other) (same_value value given) h in
    ap (λ t. LiteralOp t value) (same_type_exact type other parts.0) ∙ ap (LiteralOp other) (same_value_exact value given parts.1)
same_op_exact (BinaryOp operator) (BinaryOp other) h = ap BinaryOp (same_operator_exact operator other h)
same_op_exact (CastOp target options) (CastOp other given) h =
    let parts = and_parts (same_type target other) (same_options options given) h in
    ap (λ t. CastOp t options) (same_type_exact target other parts.0) ∙ ap (CastOp other) (same_options_exact options given parts.1)
same_op_exact LenOp LenOp h = refl
same_op_exact SliceOp SliceOp h = refl
same_op_exact ExplodeOp ExplodeOp h = refl
same_op_exact (GatherOp returns_scalar) (GatherOp other) h = ap GatherOp ((booleans_Decides returns_scalar other).0 h)
same_op_exact FilterOp FilterOp h = refl
same_op_exact (SortOp options) (SortOp other) h = ap SortOp (same_sort_exact options other h)
same_op_exact (SortByOp descending nulls_last) (SortByOp other others) h =
    let parts = and_parts (same_flags descending other) (same_flags nulls_last others) h in
    let same = pointwise_decides booleans_Decides in
    ap (λ d. SortByOp d nulls_last) ((same descending other).0 parts.0) ∙ ap (SortByOp other) ((same nulls_last others).0 parts.1)
same_op_exact (WindowOp order) (WindowOp other) h = ap WindowOp (same_order_exact order other h)
same_op_exact (AliasOp name) (AliasOp other) h = ap AliasOp ((bytes_eq-Decides name other).0 h)
same_op_exact (AggOp method) (AggOp other) h = ap AggOp (same_method_exact method other h)
same_op_exact TernaryOp TernaryOp h = refl
same_op_exact (FunctionOp function recorded) (FunctionOp other others) h =
    let parts = and_parts (same_function function other) (pointwise same_label recorded others) h in
    ap (λ f. FunctionOp f recorded) (same_function_exact function other parts.0) ∙ ap (FunctionOp other) ((pointwise_decides labels_decided recorded others).0 parts.1)
same_op_exact _ _ h = cc

pub same_op_own : (a : Op) → same_op a a ≡ true
same_op_own (ColumnOp name) = (bytes_eq-Decides name name).1 refl
same_op_own (LiteralOp type value) = and_from _ _ (same_type_own type) (same_value_own value)
same_op_own (BinaryOp operator) = same_operator_own operator
same_op_own (CastOp target options) = and_from _ _ (same_type_own target) (same_options_own options)
same_op_own LenOp = refl
same_op_own SliceOp = refl
same_op_own ExplodeOp = refl
same_op_own (GatherOp returns_scalar) = (booleans_Decides returns_scalar returns_scalar).1 refl
same_op_own FilterOp = refl
same_op_own (SortOp options) = same_sort_own options
same_op_own (SortByOp descending nulls_last) = and_from _ _ ((pointwise_decides booleans_Decides descending descending).1 refl) ((pointwise_decides booleans_Decides nulls_last nulls_last).1 refl)
same_op_own (WindowOp order) = same_order_own order
same_op_own (AliasOp name) = (bytes_eq-Decides name name).1 refl
same_op_own (AggOp method) = same_method_own method
same_op_own TernaryOp = refl
same_op_own (FunctionOp function recorded) = and_from _ _ (same_function_own function) ((pointwise_decides labels_decided recorded recorded).1 refl)

-- trees that compare equal are one where nodes are, and each is equal to itself
module _ {O : Type 0} (test : O → O → Bool) where
  mutual
    pub same_tree_exact : ((a b : O) → test a b ≡ true → a ≡ b) → (t u : Tree O) → same_tree test t u ≡ true → t ≡ u
    same_tree_exact exact (node op children) (node other others) h =
        let parts = and_parts (test op other) (same_trees test children others) h in
        ap (λ o. node o children) (exact op other parts.0) ∙ ap (node other) (same_trees_exact exact children others parts.1)

    pub same_trees_exact : ((a b : O) → test a b ≡ true → a ≡ b) → (t u : Trees O) → same_trees test t u ≡ true → t ≡ u
    same_trees_exact exact no_more no_more h = refl
    same_trees_exact exact no_more (more other others) h = cc
    same_trees_exact exact (more child rest) no_more h = cc
    same_trees_exact exact (more child rest) (more other others) h =
        let parts = and_parts (same_tree test child other) (same_trees test rest others) h in
        ap (λ t. more t rest) (same_tree_exact exact child other parts.0) ∙ ap (more other) (same_trees_exact exact rest others parts.1)

  mutual
    pub same_tree_own : ((a : O) → test a a ≡ true) → (t : Tree O) → same_tree test t t ≡ true
    same_tree_own own (node op children) = and_from _ _ (own op) (same_trees_own own children)

    pub same_trees_own : ((a : O) → test a a ≡ true) → (t : Trees O) → same_trees test t t ≡ true
    same_trees_own own no_more = refl
    same_trees_own own (more child rest) = and_from _ _ (same_tree_own own child) (same_trees_own own rest)

-- ---- literals

-- literals are compared as their ops are
abbrev pub literals_compared : IsEquivalence (on literal_op same_op)
literals_compared = on_equiv literal_op (equivalence_from_exact same_op same_op_exact same_op_own)

pub same_literal_is_equivalence : IsEquivalence same_literal
same_literal_is_equivalence = literals_compared

-- equal literals are hashed alike
pub same_literal_hash : (a b : LiteralValue) → same_literal a b ≡ true → literal_writes (literal_type a) (literal_value a) ≡ literal_writes (literal_type b) (literal_value b)
same_literal_hash a b h =
    let parts = and_parts (same_type (literal_type a) (literal_type b)) (same_value (literal_value a) (literal_value b)) h in
    ap (λ t. literal_writes t (literal_value a)) (same_type_exact (literal_type a) (literal_type b) parts.0)
    ∙ ap (literal_writes (literal_type b)) (same_value_exact (literal_value a) (literal_value b) parts.1)
