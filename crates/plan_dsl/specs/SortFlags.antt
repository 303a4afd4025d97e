-- Flags of a plan's sort.
-- A query's sort has one flag for all keys, or one for each expression that it is sorted by. Such an expression may be
-- expanded to any number of keys, and its flag serves all of them. A list of names that stands alone has one for each name.
use Rattle.std.specs.Prelude.{ℕ, Bool, ◌==◌, List, [], ◌∷◌, ◌++◌, length, replicate, map, Result, Ok, Err, if◌then◌else◌}
use Rattle.plan_types.specs.Schemas.{Columns}
use Rattle.plan_types.specs.declared.error.ErrorKind.{ErrorKind}
use Rattle.plan_types.specs.declared.error.ErrorKind.TheVariants.{ComputeError}
use Rattle.plan_dsl.specs.Trees.{node, no_more}
use Rattle.plan_dsl.specs.Ops.{Expression}
use Rattle.plan_dsl.specs.Refusals.{then_ok}
use Rattle.plan_dsl.specs.Sources.{ColumnsOp, Source}
use Rattle.plan_dsl.specs.Expansion.{expansion}

-- how many expressions came of one: none where it can't be expanded
abbrev pub count_of : Result (List Expression) ErrorKind → ℕ
count_of (Ok trees) = length trees
count_of (Err kind) = 0

-- how many keys each of some expressions is expanded to
abbrev pub key_counts : Columns → List Source → List ℕ
key_counts schema by = map (λ source. count_of (expansion [] schema source)) by

-- how many keys each flag serves
abbrev pub keys_served : Columns → List Source → List ℕ
keys_served schema (node (ColumnsOp names) no_more ∷ []) = map (λ name. 1) names
keys_served schema by = key_counts schema by

-- each flag as often as it serves
abbrev pub each_served : List ℕ → List Bool → List Bool
each_served [] flags = []
each_served (count ∷ counts) [] = []
each_served (count ∷ counts) (flag ∷ flags) = replicate count flag ++ each_served counts flags

-- flags, one for each key: the one for all stays alone, and another number of them than is served is refused
abbrev pub flags_served : List ℕ → List Bool → Result (List Bool) (List ErrorKind)
flags_served counts flags =
    if length flags == 1 then Ok flags else if length flags == length counts then Ok (each_served counts flags) else Err (ComputeError ∷ [])

-- two lists of flags, which keys descend and which have their nulls last
abbrev pub both_served : List ℕ → List Bool → List Bool → Result (List Bool × List Bool) (List ErrorKind)
both_served counts descending nulls_last = then_ok (flags_served counts descending) (λ falling. then_ok (flags_served counts nulls_last) (λ last. Ok (falling, last)))

-- those of a sort
abbrev pub sort_flags : Columns → List Source → List Bool → List Bool → Result (List Bool × List Bool) (List ErrorKind)
sort_flags schema by descending nulls_last = both_served (keys_served schema by) descending nulls_last
