-- Rows of groups: keys and values that fit.
use Rattle.std.proofs.Common.{ℕ, List, [], ◌∷◌, ◌++◌, map, Bool, true, false, cond, not, IsTrue, refl, arith}
use Rattle.std.specs.List.{AllByRecursion, filter}
use Rattle.std.proofs.lemmas.Bool.{and_parts}
use Rattle.plan_types.specs.Types.{Ty}
use Rattle.plan_types.specs.Schemas.{Columns}
use Rattle.plan_types.specs.Values.{Val, fits}
use Rattle.plan_types.specs.Frames.{Row, RowFits}
use Rattle.plan_types.specs.Outcomes.{Meets}
use Rattle.plan_dsl.specs.Typing.{Typed}
use Rattle.plan_dsl.specs.PlanRules.{type_in_groups}
use Rattle.plan_dsl.specs.Groups.{Group, firsts, groups, items_beside, same_keys}
use Rattle.plan_dsl.specs.Grouping.{group_value}
use Rattle.plan_dsl.specs.Laws.{AreOf}
use Rattle.plan_dsl.proofs.ColumnLemmas.{list_of_fitting}

-- what each of some items has, each that is kept of them has
pub kept_have : {A : Type 0} (P : A → Type 0) (test : A → Bool) (items : List A) → AllByRecursion P items → AllByRecursion P (filter test items)
kept_have P test [] h = tt
kept_have P test (item ∷ items) h =
    let rest = kept_have P test items h.1 in
    elim (test item) as (λ b. AllByRecursion P (cond b (item ∷ filter test items) (filter test items))) [ true ↦ (h.0, rest) | false ↦ rest ]

pub firsts_have : {A : Type 0} (P : A → Type 0) (same : A → A → Bool) (items : List A) → AllByRecursion P items → AllByRecursion P (firsts same items)
firsts_have P same [] h = tt
firsts_have P same (item ∷ items) h = (h.0, kept_have P (λ other. not (same item other)) (firsts same items) (firsts_have P same items h.1))

each_key : (P : Row → Type 0) (keys : List Row) (items : List ℕ) (found : List Row) → AllByRecursion P found → AllByRecursion (λ (group : Group ℕ). P group.key) (map (λ key. record { key = key; items = items_beside key keys items }) found)
each_key P keys items [] h = tt
each_key P keys items (key ∷ found) h = (h.0, each_key P keys items found h.1)

-- the keys of groups are some of those beside the items
pub groups_have : (P : Row → Type 0) (keys : List Row) (items : List ℕ) → AllByRecursion P keys → AllByRecursion (λ (group : Group ℕ). P group.key) (groups keys items)
groups_have P keys items h = each_key P keys items (firsts same_keys keys) (firsts_have P same_keys keys h)

-- a fitting row behind another fits the columns behind those of the other
pub rows_joined_fit : (cs ds : Columns) (row other : Row) → RowFits cs row → RowFits ds other → RowFits (cs ++ ds) (row ++ other)
rows_joined_fit [] ds [] other h k = k
rows_joined_fit [] ds (value ∷ row) other h k = absurd h
rows_joined_fit (c ∷ cs) ds [] other h k = absurd h
rows_joined_fit (c ∷ cs) ds (value ∷ row) other h k = (h.0, rows_joined_fit cs ds row other h.1 k)

value_in_group : (type : Ty) (many : Bool) (values : List Val) → AreOf (record { type = type; many = many }) values → Meets (λ value. IsTrue (fits value (type_in_groups (record { type = type; many = many })))) (group_value many values)
value_in_group type true values h = list_of_fitting values type h.fitting
value_in_group type false [] h = absurd (omega (arith, h.single refl))
value_in_group type false (value ∷ []) h = (and_parts (fits value type) true h.fitting).0
value_in_group type false (first ∷ second ∷ rest) h = absurd (omega (arith, h.single refl))

-- what an aggregate's values are in a group is of its type there
pub group_value_fits : (typed : Typed) (values : List Val) → AreOf typed values → Meets (λ value. IsTrue (fits value (type_in_groups typed))) (group_value typed.many values)
group_value_fits typed values h = value_in_group typed.type typed.many values (record { fitting = h.fitting; single = h.single })
