-- What drops leave: columns that stand, with distinct names; or a refusal by some kind.
use Rattle.std.proofs.Common.{◌≡◌, List, [], ◌∷◌, Some, None, Bool, true, false, cond, not, ◌&&◌, Result, Ok, Err, refl, sym, ap, ◌∙◌, subst}
use Rattle.std.specs.List.{Contains, filter, list_all}
use Rattle.std.specs.Option.{option_map_or}
use Rattle.std.proofs.lemmas.Bool.{or_parts, and_parts, and_from}
use Rattle.std.proofs.lemmas.Cmp.{nat_list_eq_equiv}
use Rattle.std.proofs.lemmas.List.Elements.{Contains-push}
use Rattle.plan_types.specs.Types.{Ty, same_type}
use Rattle.plan_types.specs.TypeLaws.{same_type_own}
use Rattle.plan_types.specs.Schemas.{Name, Columns, same_name, type_at, is_among, repeats, names_of, HasDistinctNames}
use Rattle.plan_types.specs.declared.error.ErrorKind.{ErrorKind}
use Rattle.plan_types.specs.declared.error.ErrorKind.TheVariants.{ColumnNotFound}
use Rattle.plan_types.proofs.SchemaLemmas.{distinct_from_test, test_from_distinct}
use Rattle.plan_dsl.specs.Registry.{Registry}
use Rattle.plan_dsl.specs.Plans.{SimpleProjectionWork, simple_projection_op}
use Rattle.plan_dsl.specs.Refusals.{then_ok, lists_joined}
use Rattle.plan_dsl.specs.Sources.{Source}
use Rattle.plan_dsl.specs.Markers.{once, selector_names, names_of_selectors}
use Rattle.plan_dsl.specs.Drops.{have_names, columns_but, left_but, drop_leaves}
use Rattle.plan_dsl.specs.PlanRules.{stands_in, plan_rule}
use Rattle.plan_dsl.specs.Resolving.{over_expanded, resolved_kind}
use Rattle.plan_dsl.specs.Laws.{DropsHaveSchemas}
use Rattle.plan_dsl.proofs.MarkerLemmas.{absent_kept, distinct_kept}
use Rattle.plan_dsl.proofs.ExpansionLemmas.{lists_told}
use Rattle.plan_dsl.proofs.RuleLemmas.{projection_schema}

-- ---- refusals

pub then_either_told : {A B : Type 0} (r : Result A (List ErrorKind)) (next : A → Result B (List ErrorKind)) (kinds : List ErrorKind) → ((others : List ErrorKind) → r ≡ Err others → (told : ErrorKind) × Contains others told) → ((x : A) → next x ≡ Err kinds → (told : ErrorKind) × Contains kinds told) → then_ok r next ≡ Err kinds → (told : ErrorKind) × Contains kinds told
then_either_told (Ok x) next kinds first later h = later x h
then_either_told (Err others) next kinds first later h = let same : others ≡ kinds = cc in subst (λ l. (told : ErrorKind) × Contains l told) same (first others refl)

pub absent_told : {A : Type 0} (found : A) (absent : Bool) (kinds : List ErrorKind) → cond absent (Err (ColumnNotFound ∷ [])) (Ok found) ≡ Err kinds → (told : ErrorKind) × Contains kinds told
absent_told found true kinds h = let same : ColumnNotFound ∷ [] ≡ kinds = cc in (ColumnNotFound, subst (λ l. Contains l ColumnNotFound) same (Contains-push [] ColumnNotFound))
absent_told found false kinds h = absurd cc

pub names_told : (schema : Columns) (selectors : List Source) (kinds : List ErrorKind) → names_of_selectors schema selectors ≡ Err kinds → (told : ErrorKind) × Contains kinds told
names_told schema selectors kinds h =
    then_either_told (lists_joined (selector_names [] schema) selectors) (λ names. Ok (once names)) kinds (lists_told (selector_names [] schema) selectors) (λ names e. absurd cc) h

-- what a drop is refused by is some kind of rule
pub drop_is_told : (schema : Columns) (selectors : List Source) (strict : Bool) (kinds : List ErrorKind) → drop_leaves schema selectors strict ≡ Err kinds → (told : ErrorKind) × Contains kinds told
drop_is_told schema selectors strict kinds h =
    then_either_told (names_of_selectors schema selectors) (left_but strict schema) kinds (names_told schema selectors) (λ names e. absent_told (columns_but names schema) (strict && not (have_names schema names)) kinds e) h

-- ---- columns that are left

-- columns stand behind one of another name
stand_behind : (d : Name × Ty) (cs xs : Columns) → is_among d.0 (names_of xs) ≡ false → list_all (stands_in cs) xs ≡ true → list_all (stands_in (d ∷ cs)) xs ≡ true
stand_behind d cs [] apart h = refl
stand_behind d cs (x ∷ xs) apart h =
    let parts = or_parts (same_name d.0 x.0) _ apart in
    let there = and_parts (stands_in cs x) (list_all (stands_in cs) xs) h in
    let other : same_name x.0 d.0 ≡ false = nat_list_eq_equiv.symm x.0 d.0 ∙ parts.0 in
    let here : stands_in (d ∷ cs) x ≡ true = ap (λ b. option_map_or (same_type x.1) (cond b (Some d.1) (type_at cs x.0)) false) other ∙ there.0 in
    and_from (stands_in (d ∷ cs) x) (list_all (stands_in (d ∷ cs)) xs) here (stand_behind d cs xs parts.1 there.1)

-- columns that are kept of distinct ones stand among them
kept_stand : (p : Name × Ty → Bool) (cs : Columns) → repeats (names_of cs) ≡ false → list_all (stands_in cs) (filter p cs) ≡ true
kept_stand p [] distinct = refl
kept_stand p (c ∷ cs) distinct =
    let parts = or_parts (is_among c.0 (names_of cs)) _ distinct in
    let later = stand_behind c cs (filter p cs) (absent_kept (λ (column : Name × Ty). column.0) p c.0 cs parts.0) (kept_stand p cs parts.1) in
    let here : stands_in (c ∷ cs) c ≡ true = ap (λ b. option_map_or (same_type c.1) (cond b (Some c.1) (type_at cs c.0)) false) (nat_list_eq_equiv.refl c.0) ∙ same_type_own c.1 in
    elim (p c) as (λ b. list_all (stands_in (c ∷ cs)) (cond b (c ∷ filter p cs) (filter p cs)) ≡ true) [ true ↦ and_from (stands_in (c ∷ cs) c) (list_all (stands_in (c ∷ cs)) (filter p cs)) here later | false ↦ later ]

left_is : (columns own : Columns) (absent : Bool) → cond absent (Err (ColumnNotFound ∷ [])) (Ok columns) ≡ Ok own → own ≡ columns
left_is columns own true h = absurd cc
left_is columns own false h = cc

-- what a drop leaves is some of the columns
then_left : (schema own : Columns) (strict : Bool) (r : Result (List Name) (List ErrorKind)) → then_ok r (left_but strict schema) ≡ Ok own → (names : List Name) × (own ≡ columns_but names schema)
then_left schema own strict (Ok names) h = (names, left_is (columns_but names schema) own (strict && not (have_names schema names)) h)
then_left schema own strict (Err kinds) h = absurd cc

some_left : (registry : Registry) (schema : Columns) (p : Name × Ty → Bool) → HasDistinctNames schema → plan_rule registry (simple_projection_op (filter p schema) None) (Some schema ∷ []) ≡ Some (filter p schema)
some_left registry schema p distinct =
    let test = test_from_distinct schema distinct in
    projection_schema registry None schema (filter p schema) (kept_stand p schema test) (distinct_from_test (filter p schema) (distinct_kept (λ (column : Name × Ty). column.0) p schema test))

pub drops_have_schemas : DropsHaveSchemas
drops_have_schemas registry selectors strict schema own distinct left =
    let found = then_left schema own strict (names_of_selectors schema selectors) left in
    let projected = some_left registry schema (λ column. not (is_among column.0 found.0)) distinct in
    ap (λ r. plan_rule registry (record { kind = resolved_kind (over_expanded (then_ok r (λ columns. Ok (SimpleProjectionWork columns))) []); recorded = None }) (Some schema ∷ [])) left
    ∙ subst (λ columns. plan_rule registry (simple_projection_op columns None) (Some schema ∷ []) ≡ Some columns) (sym found.1) projected
