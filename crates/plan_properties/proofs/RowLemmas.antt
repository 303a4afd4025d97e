-- What an elementwise expression gives on a row hangs on that row alone.
use Rattle.std.proofs.Common.{◌≡◌, ℕ, Bool, true, false, cond, List, [], ◌∷◌, Ok, Err, refl, ap}
use Rattle.std.proofs.lemmas.Bool.{and_parts}
use Rattle.plan_types.specs.Frames.{Frame, Row, row_at, value_in}
use Rattle.plan_types.specs.Outcomes.{Done, then_do}
use Rattle.plan_types.specs.Schemas.{Columns}
use Rattle.plan_types.specs.Types.{Ty, same_type}
use Rattle.plan_types.specs.Values.{Val}
use Rattle.plan_types.specs.declared.dtype.CastOptions.TheVariants.{NonStrict}
use Rattle.plan_dsl.specs.Kernels.{Meaning, cast_meaning, cast_values, given, kernel}
use Rattle.plan_dsl.specs.Meaning.{applied, meaning, meaning_all, node_meaning, ruled_meaning, taken_to}
use Rattle.plan_dsl.specs.Ops.{Op, ColumnOp, LiteralOp, BinaryOp, CastOp, LenOp, SliceOp, ExplodeOp, GatherOp, FilterOp, SortOp, SortByOp, WindowOp, AliasOp, AggOp, TernaryOp, FunctionOp, Expression}
use Rattle.plan_dsl.specs.Properties.{all_hold, is_elementwise, is_own_elementwise, literals, never}
use Rattle.plan_dsl.specs.Registry.{Registry}
use Rattle.plan_dsl.specs.Trees.{Trees, node, no_more, more}
use Rattle.plan_dsl.specs.Typing.{Ruling, rule, types_of, typing_all}
use Rattle.plan_properties.specs.Laws.{RowsDecide}

module _ (registry : Registry) (schema : Columns) (rows others : List Row) (row other : ℕ) (same : row_at (record { schema = schema; rows = rows }) row ≡ row_at (record { schema = schema; rows = others }) other) where
  abbrev one : Frame
  one = record { schema = schema; rows = rows }

  abbrev two : Frame
  two = record { schema = schema; rows = others }

  -- operands that give the same on the row
  abbrev AllAgree : List Meaning → List Meaning → Type 0
  AllAgree [] [] = Unit {0}
  AllAgree (m ∷ ms) (k ∷ ks) = (m (row ∷ []) ≡ k (other ∷ [])) × AllAgree ms ks
  AllAgree [] (k ∷ ks) = ⊥
  AllAgree (m ∷ ms) [] = ⊥

  cast_agrees : (from target : Ty) (m k : Meaning) → m (row ∷ []) ≡ k (other ∷ []) → cast_meaning from target NonStrict m (row ∷ []) ≡ cast_meaning from target NonStrict k (other ∷ [])
  cast_agrees from target m k h =
      elim (same_type from target) as (λ b. cond b m (λ rows. then_do (m rows) (cast_values from target NonStrict)) (row ∷ []) ≡ cond b k (λ rows. then_do (k rows) (cast_values from target NonStrict)) (other ∷ [])) [
        | true ↦ h
        | false ↦ ap (λ o. then_do o (cast_values from target NonStrict)) h
      ]

  given_agrees : (types targets : List Ty) (ms ks : List Meaning) → AllAgree ms ks → given (taken_to types targets ms) (row ∷ []) ≡ given (taken_to types targets ks) (other ∷ [])
  given_agrees [] targets ms ks all = refl
  given_agrees (from ∷ types) [] ms ks all = refl
  given_agrees (from ∷ types) (target ∷ targets) [] [] all = refl
  given_agrees (from ∷ types) (target ∷ targets) [] (k ∷ ks) all = absurd all
  given_agrees (from ∷ types) (target ∷ targets) (m ∷ ms) [] all = absurd all
  given_agrees (from ∷ types) (target ∷ targets) (m ∷ ms) (k ∷ ks) all = λ i.
      then_do (cast_agrees from target m k all.0 i) (λ column. then_do (given_agrees types targets ms ks all.1 i) (λ columns. Done (column ∷ columns)))

  kernel_agrees : (op : Op) (operands : List Bool) (targets : List Ty) (type : Ty) (columns : List (List Val)) → is_own_elementwise op operands ≡ true → kernel registry one (row ∷ []) op targets type columns ≡ kernel registry two (other ∷ []) op targets type columns
  kernel_agrees (ColumnOp name) operands [] type [] s = ap (λ values. Done (value_in schema name values ∷ [])) same
  kernel_agrees (ColumnOp name) operands [] type (c ∷ cs) s = refl
  kernel_agrees (ColumnOp name) operands (a ∷ targets) type columns s = refl
  kernel_agrees (LiteralOp of value) operands [] type [] s = refl
  kernel_agrees (LiteralOp of value) operands [] type (c ∷ cs) s = refl
  kernel_agrees (LiteralOp of value) operands (a ∷ targets) type columns s = refl
  kernel_agrees (BinaryOp operator) operands [] type columns s = refl
  kernel_agrees (BinaryOp operator) operands (a ∷ targets) type [] s = refl
  kernel_agrees (BinaryOp operator) operands (a ∷ targets) type (c ∷ []) s = refl
  kernel_agrees (BinaryOp operator) operands (a ∷ targets) type (c ∷ d ∷ []) s = refl
  kernel_agrees (BinaryOp operator) operands (a ∷ targets) type (c ∷ d ∷ e ∷ cs) s = refl
  kernel_agrees (CastOp target options) operands [] type columns s = refl
  kernel_agrees (CastOp target options) operands (a ∷ []) type [] s = refl
  kernel_agrees (CastOp target options) operands (a ∷ []) type (c ∷ []) s = refl
  kernel_agrees (CastOp target options) operands (a ∷ []) type (c ∷ d ∷ cs) s = refl
  kernel_agrees (CastOp target options) operands (a ∷ b ∷ targets) type columns s = refl
  kernel_agrees (AliasOp name) operands targets type [] s = refl
  kernel_agrees (AliasOp name) operands targets type (c ∷ []) s = refl
  kernel_agrees (AliasOp name) operands targets type (c ∷ d ∷ cs) s = refl
  kernel_agrees LenOp operands targets type columns s = cc
  kernel_agrees SliceOp operands targets type columns s = cc
  kernel_agrees ExplodeOp operands targets type columns s = cc
  kernel_agrees (GatherOp scalar) operands targets type columns s = cc
  kernel_agrees FilterOp operands targets type columns s = cc
  kernel_agrees (SortOp options) operands targets type columns s = cc
  kernel_agrees (SortByOp descending nulls_last) operands targets type columns s = cc
  kernel_agrees (WindowOp order) operands targets type columns s = cc
  kernel_agrees (AggOp method) operands targets type columns s = cc
  kernel_agrees TernaryOp operands targets type columns s = refl
  kernel_agrees (FunctionOp function recorded) operands targets type columns s = refl

  -- an op that is no window's goes by columns
  by_columns : (op : Op) (operands : List Bool) (ruling : Ruling) (types : List Ty) (ms ks : List Meaning) → is_own_elementwise op operands ≡ true → AllAgree ms ks
      → then_do (given (taken_to types ruling.operands ms) (row ∷ [])) (kernel registry one (row ∷ []) op ruling.operands ruling.own.type) ≡ then_do (given (taken_to types ruling.operands ks) (other ∷ [])) (kernel registry two (other ∷ []) op ruling.operands ruling.own.type)
  by_columns op operands ruling types ms ks s all = λ i. then_do (given_agrees types ruling.operands ms ks all i) (λ columns. kernel_agrees op operands ruling.operands ruling.own.type columns s i)

  applied_agrees : (op : Op) (operands : List Bool) (ruling : Ruling) (types : List Ty) (ms ks : List Meaning) → is_own_elementwise op operands ≡ true → AllAgree ms ks
      → applied registry one op ruling (taken_to types ruling.operands ms) (row ∷ []) ≡ applied registry two op ruling (taken_to types ruling.operands ks) (other ∷ [])
  applied_agrees (ColumnOp name) operands ruling types ms ks s all = by_columns (ColumnOp name) operands ruling types ms ks s all
  applied_agrees (LiteralOp of value) operands ruling types ms ks s all = by_columns (LiteralOp of value) operands ruling types ms ks s all
  applied_agrees (BinaryOp operator) operands ruling types ms ks s all = by_columns (BinaryOp operator) operands ruling types ms ks s all
  applied_agrees (CastOp target options) operands ruling types ms ks s all = by_columns (CastOp target options) operands ruling types ms ks s all
  applied_agrees (AliasOp name) operands ruling types ms ks s all = by_columns (AliasOp name) operands ruling types ms ks s all
  applied_agrees LenOp operands ruling types ms ks s all = cc
  applied_agrees SliceOp operands ruling types ms ks s all = cc
  applied_agrees ExplodeOp operands ruling types ms ks s all = cc
  applied_agrees (GatherOp scalar) operands ruling types ms ks s all = cc
  applied_agrees FilterOp operands ruling types ms ks s all = cc
  applied_agrees (SortOp options) operands ruling types ms ks s all = cc
  applied_agrees (SortByOp descending nulls_last) operands ruling types ms ks s all = cc
  applied_agrees (WindowOp order) operands ruling types ms ks s all = cc
  applied_agrees (AggOp method) operands ruling types ms ks s all = cc
  applied_agrees TernaryOp operands ruling types ms ks s all = by_columns TernaryOp operands ruling types ms ks s all
  applied_agrees (FunctionOp function recorded) operands ruling types ms ks s all = by_columns (FunctionOp function recorded) operands ruling types ms ks s all

  mutual
    expression_agrees : (t : Expression) → is_elementwise t ≡ true → meaning registry one t (row ∷ []) ≡ meaning registry two t (other ∷ [])
    expression_agrees (node op ts) s =
        let both = and_parts (is_own_elementwise op (literals ts)) (all_hold never is_own_elementwise ts) s in
        let ms = meaning_all registry one ts in
        let ks = meaning_all registry two ts in
        elim (typing_all registry schema ts) as (λ r. node_meaning registry one op r ms (row ∷ []) ≡ node_meaning registry two op r ks (other ∷ [])) [
          | Err kind ↦ refl
          | Ok typed ↦ elim (rule registry schema op typed) as (λ r. ruled_meaning registry one op (types_of typed) r ms (row ∷ []) ≡ ruled_meaning registry two op (types_of typed) r ks (other ∷ [])) [
            | Err kind ↦ refl
            | Ok ruling ↦ applied_agrees op (literals ts) ruling (types_of typed) ms ks both.0 (expressions_agree ts both.1)
          ]
        ]

    expressions_agree : (ts : Trees Op) → all_hold never is_own_elementwise ts ≡ true → AllAgree (meaning_all registry one ts) (meaning_all registry two ts)
    expressions_agree no_more s = tt
    expressions_agree (more t ts) s =
        let both = and_parts (is_elementwise t) (all_hold never is_own_elementwise ts) s in
        (expression_agrees t both.0, expressions_agree ts both.1)

pub rows_decide : RowsDecide
rows_decide registry schema rows others tree elementwise row other same = expression_agrees registry schema rows others row other same tree elementwise
