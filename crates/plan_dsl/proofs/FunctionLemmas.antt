-- What ternaries and functions give of operands that fit, where they have a signature: values of their own type.
use Rattle.std.proofs.Common.{◌≡◌, ◌∙◌, ℕ, zero, suc, ℤ, pos, negsuc, Bool, true, false, cond, List, [], ◌∷◌, ◌++◌, length, map, replicate, drop, IsTrue, refl, sym, subst}
use Rattle.std.specs.Prelude.{min, slice_get}
use Rattle.std.proofs.lemmas.Bool.{and_parts}
use Rattle.plan_types.specs.Types.{Ty, Truth, ListType}
use Rattle.plan_types.specs.Values.{Val, NullValue, TruthValue, IntValue, ListValue, fits, all_fit}
use Rattle.plan_types.specs.Frames.{Row}
use Rattle.plan_types.specs.Outcomes.{Meets}
use Rattle.plan_types.proofs.ValueLemmas.{ConvertedFits}
use Rattle.plan_dsl.specs.declared.function_expr.FunctionExpr.{FunctionExpr}
use Rattle.plan_dsl.specs.declared.function_expr.FunctionExpr.TheVariants.{AllHorizontal, AnyHorizontal, IsNull, IsNotNull, FillNull, ShiftAndFill, ListGet}
use Rattle.plan_dsl.specs.declared.signature.OwnType.TheVariants.{Item, Truths}
use Rattle.plan_dsl.specs.FunctionValues.{all_true, any_true, found_item, function_value, is_missing, item_at, list_item, moved_down, moved_up, shift_values, shifted, ternary_value}
use Rattle.plan_dsl.specs.Labels.{Label}
use Rattle.plan_dsl.specs.Laws.{AreOf}
use Rattle.plan_dsl.specs.Ops.{TernaryOp, FunctionOp}
use Rattle.plan_dsl.specs.Picks.{is_true, items_in}
use Rattle.plan_dsl.specs.declared.signature.Ask.TheVariants.{Boolean}
use Rattle.plan_dsl.specs.declared.signature.Many.TheVariants.{WhereAny}
use Rattle.plan_dsl.specs.declared.signature.Sharing.TheVariants.{Alone}
use Rattle.plan_dsl.specs.declared.signature.Signature.{Signature}
use Rattle.plan_dsl.specs.Signatures.{asked_at, asked_target, asks, horizontal_ask, is_list, own_type}
use Rattle.plan_dsl.specs.Slices.{slice_start}
use Rattle.plan_dsl.specs.Typing.{Typed, types_of}
use Rattle.plan_dsl.proofs.BitLemmas.{both_keeps, either_keeps}
use Rattle.plan_dsl.proofs.ColumnLemmas.{AreAllOf, dropped_fit, one_value, replicate_fits, taken_fit}
use Rattle.plan_dsl.proofs.PickLemmas.{items_in_fit, joined_fit}
use Rattle.plan_dsl.proofs.RowLemmas.{RowIs, by_row_fits}
use Rattle.plan_dsl.proofs.SignatureLemmas.{KernelGives, OnAsked}

-- one of two values that fit
either_fits : (test : Bool) (x y : Val) (type : Ty) → IsTrue (fits x type) → IsTrue (fits y type) → IsTrue (fits (cond test x y) type)
either_fits true x y type h k = h
either_fits false x y type h k = k

truth_fits : (truth : Bool) → IsTrue (fits (TruthValue truth) Truth)
truth_fits truth = refl

-- ---- ternaries

ternary_fits : (t p f : Typed) → t.type ≡ f.type → (row : Row) → RowIs (t ∷ p ∷ f ∷ []) row → ConvertedFits t.type (ternary_value row)
ternary_fits t p f same [] of = absurd of
ternary_fits t p f same (x ∷ []) of = absurd of.1
ternary_fits t p f same (x ∷ y ∷ []) of = absurd of.1.1
ternary_fits t p f same (x ∷ y ∷ z ∷ []) of = either_fits (is_true y) x z t.type of.0 (subst (λ type. IsTrue (fits z type)) (sym same) of.1.1.0)
ternary_fits t p f same (x ∷ y ∷ z ∷ w ∷ row) of = absurd of.1.1.1

pub ternary_gives : KernelGives TernaryOp
ternary_gives registry frame rows shared (t ∷ p ∷ f ∷ []) = λ truthy a predicate b falsy c.
    by_row_fits (t ∷ p ∷ f ∷ []) t.type ternary_value (ternary_fits t p f (a.same shared refl ∙ sym (c.same shared refl))) (truthy ∷ predicate ∷ falsy ∷ []) (a.of, (b.of, (c.of, tt)))
ternary_gives registry frame rows shared _ = tt

-- ---- nulls

null_fits : (types : List Ty) (t : Typed) (row : Row) → RowIs (t ∷ []) row → ConvertedFits Truth (function_value IsNull types row)
null_fits types t [] of = absurd of
null_fits types t (value ∷ []) of = truth_fits (is_missing value)
null_fits types t (value ∷ second ∷ row) of = absurd of.1

not_null_fits : (types : List Ty) (t : Typed) (row : Row) → RowIs (t ∷ []) row → ConvertedFits Truth (function_value IsNotNull types row)
not_null_fits types t [] of = absurd of
not_null_fits types t (value ∷ []) of = truth_fits (cond (is_missing value) false true)
not_null_fits types t (value ∷ second ∷ row) of = absurd of.1

filled_fits : (types : List Ty) (t u : Typed) → t.type ≡ u.type → (row : Row) → RowIs (t ∷ u ∷ []) row → ConvertedFits t.type (function_value FillNull types row)
filled_fits types t u same [] of = absurd of
filled_fits types t u same (value ∷ []) of = absurd of.1
filled_fits types t u same (value ∷ other ∷ []) of = either_fits (is_missing value) other value t.type (subst (λ type. IsTrue (fits other type)) (sym same) of.1.0) of.0
filled_fits types t u same (value ∷ other ∷ third ∷ row) of = absurd of.1.1

-- ---- items of lists

found_fits : (null_on_oob : Bool) (values : List Val) (place : ℕ) (type : Ty) → IsTrue (all_fit values type) → ConvertedFits type (found_item null_on_oob (slice_get values place))
found_fits true [] place type h = refl
found_fits false [] place type h = tt
found_fits null_on_oob (value ∷ values) zero type h = (and_parts (fits value type) (all_fit values type) h).0
found_fits null_on_oob (value ∷ values) (suc place) type h = found_fits null_on_oob values place type (and_parts (fits value type) (all_fit values type) h).1

placed_fits : (null_on_oob : Bool) (values : List Val) (place : ℤ) (type : Ty) → IsTrue (all_fit values type) → ConvertedFits type (item_at null_on_oob values place)
placed_fits null_on_oob values (pos place) type h = found_fits null_on_oob values place type h
placed_fits true values (negsuc before) type h = refl
placed_fits false values (negsuc before) type h = tt

item_fits : (null_on_oob : Bool) (x y : Val) (type : Ty) → is_list type ≡ true → IsTrue (fits x type) → ConvertedFits (own_type Item type) (list_item null_on_oob (x ∷ y ∷ []))
item_fits null_on_oob (ListValue items) (IntValue index) (ListType item) l h = placed_fits null_on_oob (items_in items) (slice_start index (length (items_in items))) item (items_in_fit items item h)
item_fits null_on_oob (ListValue items) _ (ListType item) l h = refl
item_fits null_on_oob _ y (ListType item) l h = refl
item_fits null_on_oob _ y _ l h = cc

items_fit_rows : (null_on_oob : Bool) (t u : Typed) → is_list t.type ≡ true → (row : Row) → RowIs (t ∷ u ∷ []) row → ConvertedFits (own_type Item t.type) (list_item null_on_oob row)
items_fit_rows null_on_oob t u l [] of = absurd of
items_fit_rows null_on_oob t u l (x ∷ []) of = absurd of.1
items_fit_rows null_on_oob t u l (x ∷ y ∷ []) of = item_fits null_on_oob x y t.type l of.0
items_fit_rows null_on_oob t u l (x ∷ y ∷ z ∷ row) of = absurd of.1.1

-- ---- columns that are shifted

down_fits : (count : ℕ) (values : List Val) (fill : Val) (type : Ty) → IsTrue (all_fit values type) → IsTrue (fits fill type) → IsTrue (all_fit (moved_down count values fill) type)
down_fits count values fill type h k = taken_fit (length values) (replicate (min count (length values)) fill ++ values) type (joined_fit (replicate (min count (length values)) fill) values type (replicate_fits (min count (length values)) fill type k) h)

up_fits : (count : ℕ) (values : List Val) (fill : Val) (type : Ty) → IsTrue (all_fit values type) → IsTrue (fits fill type) → IsTrue (all_fit (moved_up count values fill) type)
up_fits count values fill type h k = joined_fit (drop count values) (replicate (min count (length values)) fill) type (dropped_fit count values type h) (replicate_fits (min count (length values)) fill type k)

nulls_fit : (values : List Val) (type : Ty) → IsTrue (all_fit (map (λ value. NullValue) values) type)
nulls_fit [] type = refl
nulls_fit (value ∷ values) type = nulls_fit values type

shifted_fits : (values : List Val) (count fill : Val) (type : Ty) → IsTrue (all_fit values type) → IsTrue (fits fill type) → IsTrue (all_fit (shifted values count fill) type)
shifted_fits values (IntValue (pos count)) fill type h k = down_fits count values fill type h k
shifted_fits values (IntValue (negsuc before)) fill type h k = up_fits (suc before) values fill type h k
shifted_fits values _ fill type h k = nulls_fit values type

shift_fits : (type : Ty) (values counts fills : List Val) → IsTrue (all_fit values type) → IsTrue (all_fit fills type) → length counts ≡ 1 → length fills ≡ 1 → Meets (AreOf (record { type = type; many = true })) (shift_values (values ∷ counts ∷ fills ∷ []))
shift_fits type values counts fills h k one single =
    one_value (λ counts. Meets (AreOf (record { type = type; many = true })) (shift_values (values ∷ counts ∷ fills ∷ []))) (λ count.
    one_value (λ fills. IsTrue (all_fit fills type) → Meets (AreOf (record { type = type; many = true })) (shift_values (values ∷ (count ∷ []) ∷ fills ∷ []))) (λ fill k.
    record { fitting = shifted_fits values count fill type h (and_parts (fits fill type) true k).0; single = λ one. cc }) fills single k) counts one

-- ---- horizontals

abbrev AllTruths : List Typed → Type 0
AllTruths [] = Unit {0}
AllTruths (t ∷ ts) = (t.type ≡ Truth) × AllTruths ts

all_true_fits : (typed : List Typed) → AllTruths typed → (row : Row) → RowIs typed row → IsTrue (fits (all_true row) Truth)
all_true_fits [] truths [] of = refl
all_true_fits [] truths (value ∷ row) of = absurd of
all_true_fits (t ∷ ts) truths [] of = absurd of
all_true_fits (t ∷ ts) truths (value ∷ row) of = both_keeps Truth value (all_true row) (subst (λ type. IsTrue (fits value type)) truths.0 of.0) (all_true_fits ts truths.1 row of.1)

any_true_fits : (typed : List Typed) → AllTruths typed → (row : Row) → RowIs typed row → IsTrue (fits (any_true row) Truth)
any_true_fits [] truths [] of = refl
any_true_fits [] truths (value ∷ row) of = absurd of
any_true_fits (t ∷ ts) truths [] of = absurd of
any_true_fits (t ∷ ts) truths (value ∷ row) of = either_keeps Truth value (any_true row) (subst (λ type. IsTrue (fits value type)) truths.0 of.0) (any_true_fits ts truths.1 row of.1)

-- of each operand truth values are asked, and of one alone what can be cast to them
abbrev truths_asked : ℕ → Signature
truths_asked count = record { first = asks (horizontal_ask count); second = asks Boolean; rest = asks Boolean; own = Truths; many = WhereAny; sharing = Alone }

truth_at : (count place : ℕ) (type : Ty) → asked_target (asked_at (truths_asked count) place).ask type ≡ Truth
truth_at zero zero type = refl
truth_at (suc zero) zero type = refl
truth_at (suc (suc count)) zero type = refl
truth_at count (suc zero) type = refl
truth_at count (suc (suc place)) type = refl

on_truths : (shared : Ty) (count place : ℕ) (typed : List Typed) (P : List (List Val) → Type 0) → (AllTruths typed → (columns : List (List Val)) → AreAllOf typed columns → P columns) → OnAsked shared (truths_asked count) place typed P
on_truths shared count place [] P h = h tt [] tt
on_truths shared count place (t ∷ ts) P h = λ column i.
    on_truths shared count (suc place) ts (λ columns. P (column ∷ columns)) (λ truths columns of. h (sym (i.kept refl) ∙ truth_at count place t.type, truths) (column ∷ columns) (i.of, of))

-- ---- by function

pub function_gives : (function : FunctionExpr) (recorded : List Label) → KernelGives (FunctionOp function recorded)
function_gives IsNull recorded registry frame rows shared (t ∷ []) = λ values a.
    by_row_fits (t ∷ []) Truth (function_value IsNull (t.type ∷ [])) (null_fits (t.type ∷ []) t) (values ∷ []) (a.of, tt)
function_gives IsNotNull recorded registry frame rows shared (t ∷ []) = λ values a.
    by_row_fits (t ∷ []) Truth (function_value IsNotNull (t.type ∷ [])) (not_null_fits (t.type ∷ []) t) (values ∷ []) (a.of, tt)
function_gives FillNull recorded registry frame rows shared (t ∷ u ∷ []) = λ values a others b.
    by_row_fits (t ∷ u ∷ []) t.type (function_value FillNull (t.type ∷ u.type ∷ [])) (filled_fits (t.type ∷ u.type ∷ []) t u (a.same shared refl ∙ sym (b.same shared refl))) (values ∷ others ∷ []) (a.of, (b.of, tt))
function_gives ShiftAndFill recorded registry frame rows shared (t ∷ n ∷ u ∷ []) = λ values a counts b fills c.
    let same : t.type ≡ u.type = a.same shared refl ∙ sym (c.same shared refl) in
    shift_fits t.type values counts fills a.of.fitting (subst (λ type. IsTrue (all_fit fills type)) (sym same) c.of.fitting) (b.one refl) (c.one refl)
function_gives (ListGet null_on_oob) recorded registry frame rows shared (t ∷ u ∷ []) = λ values a indices b.
    by_row_fits (t ∷ u ∷ []) (own_type Item t.type) (list_item null_on_oob) (items_fit_rows null_on_oob t u (a.passes refl)) (values ∷ indices ∷ []) (a.of, (b.of, tt))
function_gives AllHorizontal recorded registry frame rows shared typed =
    on_truths shared (length typed) 0 typed _ (λ truths columns of. by_row_fits typed Truth (function_value AllHorizontal (types_of typed)) (all_true_fits typed truths) columns of)
function_gives AnyHorizontal recorded registry frame rows shared typed =
    on_truths shared (length typed) 0 typed _ (λ truths columns of. by_row_fits typed Truth (function_value AnyHorizontal (types_of typed)) (any_true_fits typed truths) columns of)
function_gives _ recorded registry frame rows shared _ = tt
