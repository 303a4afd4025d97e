-- Flags of sorts: a refusal is by some kind, and what is resolved has flags for its keys.
use Rattle.std.proofs.Common.{◌≡◌, ℕ, suc, ◌+◌, Bool, true, false, cond, ◌||◌, List, [], ◌∷◌, ◌++◌, length, replicate, map, Result, Ok, Err, refl, sym, ap, ◌∙◌, subst, arith, append-nil}
use Rattle.std.specs.Prelude.{◌==◌}
use Rattle.std.specs.List.{Contains}
use Rattle.std.proofs.Math.Bool.{or-true}
use Rattle.std.proofs.lemmas.Bool.{and_from, eq-eqb, eqb-true}
use Rattle.std.proofs.lemmas.List.{length-append, length-map, length-replicate}
use Rattle.std.proofs.lemmas.List.Elements.{Contains-push}
use Rattle.plan_types.specs.Schemas.{Name, Columns}
use Rattle.plan_types.specs.declared.error.ErrorKind.{ErrorKind}
use Rattle.plan_types.specs.declared.error.ErrorKind.TheVariants.{ComputeError}
use Rattle.plan_dsl.specs.Trees.{node, no_more}
use Rattle.plan_dsl.specs.Ops.{Expression}
use Rattle.plan_dsl.specs.Refusals.{then_ok, each_ok, with_kinds, joined}
use Rattle.plan_dsl.specs.Sources.{ColumnsOp, Source}
use Rattle.plan_dsl.specs.Sorting.{are_for}
use Rattle.plan_dsl.specs.Expansion.{as_expression, expansion, expansions, with_column_put}
use Rattle.plan_dsl.specs.SortFlags.{count_of, key_counts, keys_served, each_served, flags_served, sort_flags}
use Rattle.plan_dsl.specs.Laws.{SortsHaveFlags}
use Rattle.plan_dsl.proofs.DropLemmas.{then_either_told}

-- ---- refusals

other_number_told : (one many : Bool) (flags others : List Bool) (kinds : List ErrorKind) → cond one (Ok flags) (cond many (Ok others) (Err (ComputeError ∷ []))) ≡ Err kinds → (told : ErrorKind) × Contains kinds told
other_number_told true many flags others kinds h = absurd cc
other_number_told false true flags others kinds h = absurd cc
other_number_told false false flags others kinds h = let same : ComputeError ∷ [] ≡ kinds = cc in (ComputeError, subst (λ l. Contains l ComputeError) same (Contains-push [] ComputeError))

flags_told : (counts : List ℕ) (flags : List Bool) (kinds : List ErrorKind) → flags_served counts flags ≡ Err kinds → (told : ErrorKind) × Contains kinds told
flags_told counts flags kinds h = other_number_told (length flags == 1) (length flags == length counts) flags (each_served counts flags) kinds h

pub sort_is_told : (schema : Columns) (by : List Source) (descending nulls_last : List Bool) (kinds : List ErrorKind) → sort_flags schema by descending nulls_last ≡ Err kinds → (told : ErrorKind) × Contains kinds told
sort_is_told schema by descending nulls_last kinds h =
    let counts = keys_served schema by in
    then_either_told (flags_served counts descending) (λ falling. then_ok (flags_served counts nulls_last) (λ last. Ok (falling, last))) kinds (flags_told counts descending) (λ falling e.
    then_either_told (flags_served counts nulls_last) (λ last. Ok (falling, last)) kinds (flags_told counts nulls_last) (λ last f. absurd cc) e) h

-- ---- flags for each key

either_one : (count keys : ℕ) → count ≡ keys → (count == keys || count == 1) ≡ true
either_one count keys same = ap (λ b. b || count == 1) (eq-eqb count keys same)

for_all : (found : List Bool) (keys : ℕ) → (length found == 1) ≡ true → are_for found keys ≡ true
for_all found keys one = ap (λ b. length found == keys || b) one ∙ or-true (length found == keys)

same_found : {A : Type 0} (K : Type 0) (x y : A) → let found : Result A K = Ok x in found ≡ Ok y → x ≡ y
same_found K x y h = cc

-- where as many keys are served as there are flags for, the flags found are for these
served_for : (counts : List ℕ) (flags found : List Bool) (keys : ℕ) → (length flags ≡ length counts → length (each_served counts flags) ≡ keys) → flags_served counts flags ≡ Ok found → are_for found keys ≡ true
served_for counts flags found keys served h =
    let others = each_served counts flags in
    elim (length flags == 1) as (λ b. (length flags == 1) ≡ b → cond b (Ok flags) (cond (length flags == length counts) (Ok others) (Err (ComputeError ∷ []))) ≡ Ok found → are_for found keys ≡ true) [
      | true ↦ λ e h. subst (λ l. are_for l keys ≡ true) (same_found (List ErrorKind) flags found h) (for_all flags keys e)
      | false ↦ λ e h. elim (length flags == length counts) as (λ b. (length flags == length counts) ≡ b → cond b (Ok others) (Err (ComputeError ∷ [])) ≡ Ok found → are_for found keys ≡ true) [
        | true ↦ λ f h. subst (λ l. are_for l keys ≡ true) (same_found (List ErrorKind) others found h) (either_one (length others) keys (served (eqb-true (length flags) (length counts) f)))
        | false ↦ λ f h. absurd cc
      ] refl h
    ] refl h

-- of a list of names each is one key
ones_served : {A : Type 0} (names : List A) (flags : List Bool) → length flags ≡ length (map {B = ℕ} (λ name. 1) names) → length (each_served (map (λ name. 1) names) flags) ≡ length names
ones_served [] flags h = refl
ones_served (name ∷ names) [] h = absurd (omega (arith, h))
ones_served (name ∷ names) (flag ∷ flags) h = ap suc (ones_served names flags (omega (arith, h)))

each_found : {B : Type 0} (first : Result B ErrorKind) (rest : Result (List B) ErrorKind) (found : List B) → then_ok first (λ x. then_ok rest (λ others. Ok (x ∷ others))) ≡ Ok found → (x : B) × (others : List B) × (rest ≡ Ok others) × (found ≡ x ∷ others)
each_found (Ok x) (Ok others) found h = (x, others, refl, sym (same_found ErrorKind (x ∷ others) found h))
each_found (Ok x) (Err kind) found h = absurd cc
each_found (Err kind) rest found h = absurd cc

each_many : {A B : Type 0} (definition : A → Result B ErrorKind) (items : List A) (found : List B) → each_ok definition items ≡ Ok found → length found ≡ length items
each_many definition [] found h = ap length (sym (same_found ErrorKind [] found h))
each_many definition (item ∷ items) found h =
    let parts = each_found (definition item) (each_ok definition items) found h in
    ap length parts.3 ∙ ap suc (each_many definition items parts.1 parts.2)

joined_found : {A : Type 0} (first : Result (List A) ErrorKind) (rest : Result (List A) (List ErrorKind)) (found : List A) → joined (with_kinds first) rest ≡ Ok found → (items : List A) × (others : List A) × (first ≡ Ok items) × (rest ≡ Ok others) × (found ≡ items ++ others)
joined_found (Ok items) (Ok others) found h = (items, others, refl, refl, sym (same_found (List ErrorKind) (items ++ others) found h))
joined_found (Ok items) (Err kinds) found h = absurd cc
joined_found (Err kind) (Ok others) found h = absurd cc
joined_found (Err kind) (Err kinds) found h = absurd cc

-- of expressions each is as many keys as it is expanded to
counts_served : (schema : Columns) (by : List Source) (keys : List Expression) (flags : List Bool) → expansions [] schema by ≡ Ok keys → length flags ≡ length (key_counts schema by) → length (each_served (key_counts schema by) flags) ≡ length keys
counts_served schema [] keys flags h many = ap length (same_found (List ErrorKind) [] keys h)
counts_served schema (source ∷ by) keys [] h many = absurd (omega (arith, many))
counts_served schema (source ∷ by) keys (flag ∷ flags) h many =
    let parts = joined_found (expansion [] schema source) (expansions [] schema by) keys h in
    let count = count_of (expansion [] schema source) in
    let first : length (replicate count flag) ≡ length parts.0 = length-replicate count flag ∙ ap count_of parts.2 in
    let later : length (each_served (key_counts schema by) flags) ≡ length parts.1 = counts_served schema by parts.1 flags parts.3 (omega (arith, many)) in
    length-append (replicate count flag) (each_served (key_counts schema by) flags) ∙ (λ i. first i + later i) ∙ sym (length-append parts.0 parts.1) ∙ ap length (sym parts.4)

names_expanded : (schema : Columns) (names : List Name) (keys : List Expression) → expansions [] schema (node (ColumnsOp names) no_more ∷ []) ≡ Ok keys → length keys ≡ length names
names_expanded schema names keys h =
    let marker : Source = node (ColumnsOp names) no_more in
    let parts = joined_found (expansion [] schema marker) (Ok []) keys h in
    let put = map (λ name. with_column_put name marker) names in
    let none : parts.1 ≡ [] = sym (same_found (List ErrorKind) [] parts.1 parts.3) in
    ap length (parts.4 ∙ ap (λ l. parts.0 ++ l) none ∙ append-nil parts.0) ∙ each_many (as_expression schema) put parts.0 parts.2 ∙ length-map names (λ name. with_column_put name marker)

keys_are_served : (schema : Columns) (by : List Source) (keys : List Expression) (flags : List Bool) → expansions [] schema by ≡ Ok keys → length flags ≡ length (keys_served schema by) → length (each_served (keys_served schema by) flags) ≡ length keys
keys_are_served schema (node (ColumnsOp names) no_more ∷ []) keys flags h many = ones_served names flags many ∙ sym (names_expanded schema names keys h)
keys_are_served schema by keys flags h many = counts_served schema by keys flags h many

both_found : {A K : Type 0} (first second : Result A K) (found : A × A) → then_ok first (λ x. then_ok second (λ y. Ok (x, y))) ≡ Ok found → (first ≡ Ok found.0) × (second ≡ Ok found.1)
both_found {K = K} (Ok x) (Ok y) found h = let same = same_found K (x, y) found h in (ap (λ pair. Ok pair.0) same, ap (λ pair. Ok pair.1) same)
both_found (Ok x) (Err kinds) found h = absurd cc
both_found (Err kinds) second found h = absurd cc

-- what is resolved has flags for the keys that are expanded
pub sorts_have_flags : SortsHaveFlags
sorts_have_flags schema by descending nulls_last keys flags expanded found =
    let counts = keys_served schema by in
    let parts = both_found (flags_served counts descending) (flags_served counts nulls_last) flags found in
    and_from (are_for flags.0 (length keys)) (are_for flags.1 (length keys)) (served_for counts descending flags.0 (length keys) (keys_are_served schema by keys descending expanded) parts.0) (served_for counts nulls_last flags.1 (length keys) (keys_are_served schema by keys nulls_last expanded) parts.1)
