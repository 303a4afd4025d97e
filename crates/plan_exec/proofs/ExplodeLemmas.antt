-- Explodes, column by column: where the lists of each row agree, columns of their items, else a fault.
use Rattle.std.proofs.Common.{◌≡◌, ◌⊎◌, ◌∙◌, ◌+◌, ℕ, zero, suc, ◌==◌, List, [], ◌∷◌, ◌++◌, drop, length, map, replicate, Bool, true, false, cond, ◌||◌, Option, Some, None, IsTrue, inl, inr, refl, sym, ap, subst, arith, eq-eqb, length-append}
use Rattle.std.specs.List.{list_all}
use Rattle.std.proofs.lemmas.Bool.{and_from, and_parts, eqb-true}
use Rattle.std.proofs.lemmas.List.{length-replicate, nil_from_length}
use Rattle.std.proofs.lemmas.List.Concat.{flat_map-cons}
use Rattle.plan_types.specs.Schemas.{Name, is_among}
use Rattle.plan_types.specs.Values.{Val}
use Rattle.plan_types.specs.Outcomes.{Outcome, Done, Fault, then_do}
use Rattle.plan_types.specs.Frames.{Row}
use Rattle.plan_types.proofs.ListLemmas.{map-map}
use Rattle.plan_dsl.specs.Aggregates.{first_value}
use Rattle.plan_dsl.specs.Picks.{exploded, explode_values}
use Rattle.plan_dsl.specs.Rows.{at_length, in_front}
use Rattle.plan_dsl.specs.TableFrames.{agreed, exploded_row, exploded_rows, list_lengths, rows_of_items}
use Rattle.plan_exec.specs.ColumnFunctions.{AllMake, Disagree, counts_in, exploded_column, exploded_values, repeated, some_listed}
use Rattle.plan_exec.specs.LaidFrames.{Shown, HaveRows, beside, contents, heads}
use Rattle.plan_exec.proofs.LaidLemmas.{Many, beside_joined, beside_many}

-- ---- first values, and the others

abbrev tail_of : Shown → Shown
tail_of column = (column.0, drop 1 column.1)

abbrev tails : List Shown → List Shown
tails columns = map tail_of columns

abbrev firsts : List Shown → Row
firsts columns = map (λ column. first_value column.1) columns

tail_many : (count : ℕ) (values : List Val) → length values ≡ suc count → length (drop 1 values) ≡ count
tail_many count [] h = cc
tail_many count (value ∷ values) h = omega (arith, h)

tails_even : (count : ℕ) (columns : List Shown) → HaveRows (suc count) columns → HaveRows count (tails columns)
tails_even count [] h = tt
tails_even count (c ∷ cs) h = (tail_many count c.1 h.0, tails_even count cs h.1)

heads_of_tails : (columns : List Shown) → heads (tails columns) ≡ heads columns
heads_of_tails columns = map-map (λ (column : Shown). column.0) tail_of columns

step_front : (values : List Val) (count : ℕ) (rows : List Row) (row : Row) (rest : List Row) → length values ≡ suc count → rows ≡ row ∷ rest → in_front values rows ≡ (first_value values ∷ row) ∷ in_front (drop 1 values) rest
step_front [] count rows row rest h is = cc
step_front (value ∷ values) count rows row rest h is = ap (in_front (value ∷ values)) is

-- the first row of columns is that of their first values
beside_step : (count : ℕ) (columns : List Shown) → HaveRows (suc count) columns → beside (suc count) (contents columns) ≡ firsts columns ∷ beside count (contents (tails columns))
beside_step count [] h = refl
beside_step count (c ∷ cs) h = step_front c.1 count (beside (suc count) (contents cs)) (firsts cs) (beside count (contents (tails cs))) h.0 (beside_step count cs h.1)

none_beside : (columns : List Shown) → HaveRows 0 columns → beside 0 (contents columns) ≡ []
none_beside columns h = nil_from_length (beside 0 (contents columns)) (beside_many 0 columns h)

-- ---- numbers that agree

agreed_as : (count : ℕ) (lengths : List ℕ) → IsTrue (list_all (λ other. other == count) lengths) → ¬ (lengths ≡ []) → agreed lengths ≡ Some count
agreed_as count [] all some = absurd (some refl)
agreed_as count (first ∷ lengths) all some =
    let both = and_parts (first == count) (list_all (λ other. other == count) lengths) all in
    subst (λ n. cond (list_all (λ other. other == n) lengths) (Some n) None ≡ Some count) (sym (eqb-true first count both.0)) (ap (λ b. cond b (Some count) None) both.1)

-- whether an item stands in a list
abbrev pub IsIn : {A : Type 0} → List A → A → Type 0
IsIn [] item = ⊥
IsIn (first ∷ rest) item = (first ≡ item) ⊎ IsIn rest item

each_is : (count : ℕ) (lengths : List ℕ) (own : ℕ) → IsTrue (list_all (λ other. other == count) lengths) → IsIn lengths own → own ≡ count
each_is count [] own all there = absurd there
each_is count (first ∷ lengths) own all (inl same) = sym same ∙ eqb-true first count (and_parts (first == count) (list_all (λ other. other == count) lengths) all).0
each_is count (first ∷ lengths) own all (inr later) = each_is count lengths own (and_parts (first == count) (list_all (λ other. other == count) lengths) all).1 later

not_agreed : (lengths : List ℕ) (own other : ℕ) → IsIn lengths own → IsIn lengths other → ¬ (own ≡ other) → agreed lengths ≡ None
not_agreed [] own other there also differ = absurd there
not_agreed (first ∷ lengths) own other there also differ =
    elim (list_all (λ n. n == first) lengths) as (λ b. list_all (λ n. n == first) lengths ≡ b → cond b (Some first) None ≡ None) [
      | true ↦ λ e. let all = and_from (first == first) (list_all (λ n. n == first) lengths) (eq-eqb first first refl) e in absurd (differ (each_is first (first ∷ lengths) own all there ∙ sym (each_is first (first ∷ lengths) other all also)))
      | false ↦ λ e. refl
    ] refl

-- ---- columns that are exploded

abbrev pub total : List ℕ → ℕ
total [] = 0
total (count ∷ counts) = count + total counts

explode_many : (values : List Val) → length (explode_values values) ≡ total (counts_in values)
explode_many [] = refl
explode_many (value ∷ values) =
    ap length (flat_map-cons exploded value values) ∙ length-append (exploded value) (explode_values values) ∙ ap (λ n. length (exploded value) + n) (explode_many values)

repeated_many : (counts : List ℕ) (values : List Val) → length values ≡ length counts → length (repeated counts values) ≡ total counts
repeated_many [] values h = refl
repeated_many (count ∷ counts) [] h = cc
repeated_many (count ∷ counts) (value ∷ values) h =
    let first = length-replicate count value in
    let later = repeated_many counts values (omega (arith, h)) in
    length-append (replicate count value) (repeated counts values) ∙ (λ i. first i + later i)

abbrev first_values : Bool → ℕ → List Val → List Val
first_values listed count values = cond listed (exploded (first_value values)) (replicate count (first_value values))

values_step : (listed : Bool) (count : ℕ) (counts : List ℕ) (values : List Val) → length values ≡ suc (length counts) → exploded_values listed (count ∷ counts) values ≡ first_values listed count values ++ exploded_values listed counts (drop 1 values)
values_step listed count counts [] h = cc
values_step true count counts (value ∷ values) h = flat_map-cons exploded value values
values_step false count counts (value ∷ values) h = refl

counts_step : (count : ℕ) (counts : List ℕ) (values : List Val) → counts_in values ≡ count ∷ counts → (length (exploded (first_value values)) ≡ count) × (counts_in (drop 1 values) ≡ counts)
counts_step count counts [] h = cc
counts_step count counts (value ∷ values) h = (cc, cc)

first_count : (listed : Bool) (count : ℕ) (counts : List ℕ) (values : List Val) → (listed ≡ true → counts_in values ≡ count ∷ counts) → length (first_values listed count values) ≡ count
first_count true count counts values h = (counts_step count counts values (h refl)).0
first_count false count counts values h = length-replicate count (first_value values)

module _ (names : List Name) (test : Name → Bool) (same : (name : Name) → test name ≡ is_among name names) where
  abbrev listed : Shown → Bool
  listed column = test column.0.0

  abbrev made : List ℕ → Shown → List Val
  made counts column = exploded_values (listed column) counts column.1

  abbrev first_made : ℕ → Shown → List Val
  first_made count column = first_values (listed column) count column.1

  -- each column gets as many values
  made_many : (counts : List ℕ) (column : Shown) → length column.1 ≡ length counts → (listed column ≡ true → counts_in column.1 ≡ counts) → length (made counts column) ≡ total counts
  made_many counts column many makes =
      elim (listed column) as (λ b. (b ≡ true → counts_in column.1 ≡ counts) → length (exploded_values b counts column.1) ≡ total counts) [ true ↦ λ h. explode_many column.1 ∙ ap total (h refl) | false ↦ λ h. repeated_many counts column.1 many ] makes

  pub exploded_even : (counts : List ℕ) (columns : List Shown) → HaveRows (length counts) columns → AllMake test counts columns → HaveRows (total counts) (map (exploded_column test counts) columns)
  exploded_even counts [] h makes = tt
  exploded_even counts (c ∷ cs) h makes = (made_many counts c h.0 makes.0, exploded_even counts cs h.1 makes.1)

  -- the numbers of rows that the first row's lists make
  abbrev lengths : List Shown → List ℕ
  lengths columns = list_lengths names (heads columns) (firsts columns)

  lengths_of : (c : Shown) (cs : List Shown) → lengths (c ∷ cs) ≡ cond (listed c) (length (exploded (first_value c.1)) ∷ lengths cs) (lengths cs)
  lengths_of c cs = ap (λ b. cond b (length (exploded (first_value c.1)) ∷ lengths cs) (lengths cs)) (sym (same c.0.0))

  lengths_all : (count : ℕ) (counts : List ℕ) (columns : List Shown) → AllMake test (count ∷ counts) columns → IsTrue (list_all (λ other. other == count) (lengths columns))
  lengths_all count counts [] h = refl
  lengths_all count counts (c ∷ cs) h =
      let own = length (exploded (first_value c.1)) in
      let rest = lengths_all count counts cs h.1 in
      subst (λ l. IsTrue (list_all (λ other. other == count) l)) (sym (lengths_of c cs))
      (elim (listed c) as (λ b. (b ≡ true → counts_in c.1 ≡ count ∷ counts) → IsTrue (list_all (λ other. other == count) (cond b (own ∷ lengths cs) (lengths cs)))) [
        | true ↦ λ makes. and_from (own == count) (list_all (λ other. other == count) (lengths cs)) (eq-eqb own count (counts_step count counts c.1 (makes refl)).0) rest
        | false ↦ λ makes. rest
      ] h.0)

  lengths_some : (columns : List Shown) → some_listed test columns ≡ true → ¬ (lengths columns ≡ [])
  lengths_some [] h = cc
  lengths_some (c ∷ cs) h =
      let own = length (exploded (first_value c.1)) in
      subst (λ l. ¬ (l ≡ [])) (sym (lengths_of c cs))
      (elim (listed c) as (λ b. (b || some_listed test cs) ≡ true → ¬ (cond b (own ∷ lengths cs) (lengths cs) ≡ [])) [ true ↦ λ t e. cc | false ↦ λ t. lengths_some cs t ] h)

  -- the rows of the first row stand side by side
  first_rows : (count : ℕ) (columns : List Shown) → rows_of_items count names (heads columns) (firsts columns) ≡ beside count (map (first_made count) columns)
  first_rows count [] = refl
  first_rows count (c ∷ cs) =
      let value = first_value c.1 in
      let rest = first_rows count cs in
      let test_is = sym (same c.0.0) in
      (λ i. in_front (cond (test_is i) (exploded value) (replicate count value)) (rest i))

  firsts_many : (count : ℕ) (counts : List ℕ) (columns : List Shown) → AllMake test (count ∷ counts) columns → Many (first_made count) (first_made count) count count columns
  firsts_many count counts [] h = tt
  firsts_many count counts (c ∷ cs) h = (first_count (listed c) count counts c.1 h.0, firsts_many count counts cs h.1)

  tails_make : (count : ℕ) (counts : List ℕ) (columns : List Shown) → AllMake test (count ∷ counts) columns → AllMake test counts (tails columns)
  tails_make count counts [] h = tt
  tails_make count counts (c ∷ cs) h = ((λ t. (counts_step count counts c.1 (h.0 t)).1), tails_make count counts cs h.1)

  tails_listed : (columns : List Shown) → some_listed test (tails columns) ≡ some_listed test columns
  tails_listed [] = refl
  tails_listed (c ∷ cs) = ap (λ b. listed c || b) (tails_listed cs)

  all_parted : (count : ℕ) (counts : List ℕ) (columns : List Shown) → HaveRows (suc (length counts)) columns → map (made (count ∷ counts)) columns ≡ map (λ column. first_made count column ++ made counts (tail_of column)) columns
  all_parted count counts [] h = refl
  all_parted count counts (c ∷ cs) h =
      let first = values_step (listed c) count counts c.1 h.0 in
      let rest = all_parted count counts cs h.1 in
      (λ i. first i ∷ rest i)

  rows_made_step : (count : ℕ) (counts : List ℕ) (columns : List Shown) → HaveRows (suc (length counts)) columns → AllMake test (count ∷ counts) columns
      → beside count (map (first_made count) columns) ++ beside (total counts) (map (made counts) (tails columns)) ≡ beside (total (count ∷ counts)) (map (made (count ∷ counts)) columns)
  rows_made_step count counts columns even makes =
      let later : Shown → List Val = λ column. made counts (tail_of column) in
      let joined = beside_joined (first_made count) later count (total counts) columns (firsts_many count counts columns makes) in
      ap (λ l. beside count (map (first_made count) columns) ++ beside (total counts) l) (map-map (made counts) tail_of columns)
      ∙ sym joined ∙ ap (beside (count + total counts)) (sym (all_parted count counts columns even))

  none_made : (columns : List Shown) → HaveRows 0 columns → AllMake test [] columns → beside 0 (map (made []) columns) ≡ []
  none_made [] h makes = refl
  none_made (c ∷ cs) h makes =
      let empty = nil_from_length (made [] c) (made_many [] c h.0 makes.0) in
      ap (λ l. in_front l (beside 0 (map (made []) cs))) empty

  -- where the lists of each row agree
  pub exploded_done : (counts : List ℕ) (columns : List Shown) → HaveRows (length counts) columns → AllMake test counts columns → some_listed test columns ≡ true
      → exploded_rows names (heads columns) (beside (length counts) (contents columns)) ≡ Done (beside (total counts) (map (made counts) columns))
  exploded_done [] columns even makes some =
      ap (exploded_rows names (heads columns)) (none_beside columns even) ∙ ap Done (sym (none_made columns even makes))
  exploded_done (count ∷ counts) columns even makes some =
      let schema = heads columns in
      let rest = beside (length counts) (contents (tails columns)) in
      let make : ℕ → List Row = λ many. rows_of_items many names schema (firsts columns) in
      let first = ap (λ o. at_length o make) (agreed_as count (lengths columns) (lengths_all count counts columns makes) (lengths_some columns some)) ∙ ap Done (first_rows count columns) in
      let later = ap (λ s. exploded_rows names s rest) (sym (heads_of_tails columns)) ∙ exploded_done counts (tails columns) (tails_even (length counts) columns even) (tails_make count counts columns makes) (tails_listed columns ∙ some) in
      ap (exploded_rows names schema) (beside_step (length counts) columns even)
      ∙ ap (λ o. then_do o (λ own. then_do (exploded_rows names schema rest) (λ others. Done (own ++ others)))) first
      ∙ ap (λ o. then_do o (λ others. Done (beside count (map (first_made count) columns) ++ others))) later
      ∙ ap Done (rows_made_step count counts columns even makes)

  -- ---- lists that don't agree

  length_there : (columns : List Shown) (own : Shown) → IsIn columns own → listed own ≡ true → IsIn (lengths columns) (length (exploded (first_value own.1)))
  length_there [] own there is = absurd there
  length_there (c ∷ cs) own there is =
      let many = length (exploded (first_value c.1)) in
      let length_own = length (exploded (first_value own.1)) in
      subst (λ l. IsIn l length_own) (sym (lengths_of c cs)) (elim there as (λ t. IsIn (cond (listed c) (many ∷ lengths cs) (lengths cs)) length_own) [
        | inl e ↦ subst (λ b. IsIn (cond b (many ∷ lengths cs) (lengths cs)) length_own) (sym (ap listed e ∙ is)) (inl (ap (λ (x : Shown). length (exploded (first_value x.1))) e))
        | inr later ↦ elim (listed c) as (λ b. IsIn (cond b (many ∷ lengths cs) (lengths cs)) length_own) [ true ↦ inr (length_there cs own later is) | false ↦ length_there cs own later is ]
      ])

  tail_there : (columns : List Shown) (own : Shown) → IsIn columns own → IsIn (tails columns) (tail_of own)
  tail_there [] own there = absurd there
  tail_there (c ∷ cs) own (inl e) = inl (ap tail_of e)
  tail_there (c ∷ cs) own (inr later) = inr (tail_there cs own later)

  rows_there : (count : ℕ) (columns : List Shown) (own : Shown) → HaveRows count columns → IsIn columns own → length own.1 ≡ count
  rows_there count [] own h there = absurd there
  rows_there count (c ∷ cs) own h (inl e) = subst (λ (x : Shown). length x.1 ≡ count) e h.0
  rows_there count (c ∷ cs) own h (inr later) = rows_there count cs own h.1 later

  fault_behind : (outcome : Outcome (List Row)) (rest : Outcome (List Row)) → ¬ (outcome ≡ Outcome.Stuck) → rest ≡ Fault → then_do outcome (λ own. then_do rest (λ others. Done (own ++ others))) ≡ Fault
  fault_behind (Done own) rest some h = ap (λ o. then_do o (λ others. Done (own ++ others))) h
  fault_behind Fault rest some h = refl
  fault_behind Outcome.Stuck rest some h = absurd (some refl)

  never_stuck : (count : Option ℕ) (make : ℕ → List Row) → ¬ (at_length count make ≡ Outcome.Stuck)
  never_stuck None make = λ e. cc
  never_stuck (Some count) make = λ e. cc

  none_differ : (values others : List Val) → length values ≡ 0 → length others ≡ 0 → counts_in values ≡ counts_in others
  none_differ [] [] h k = refl
  none_differ [] (other ∷ others) h k = cc
  none_differ (value ∷ values) others h k = cc

  same_counts : (values others : List Val) (count : ℕ) → length values ≡ suc count → length others ≡ suc count → length (exploded (first_value values)) ≡ length (exploded (first_value others)) → counts_in (drop 1 values) ≡ counts_in (drop 1 others) → counts_in values ≡ counts_in others
  same_counts [] others count h k first rest = cc
  same_counts (value ∷ values) [] count h k first rest = cc
  same_counts (value ∷ values) (other ∷ others) count h k first rest = (λ i. first i ∷ rest i)

  exploded_fault : (count : ℕ) (columns : List Shown) (own other : Shown) → HaveRows count columns → IsIn columns own → IsIn columns other → listed own ≡ true → listed other ≡ true → ¬ (counts_in own.1 ≡ counts_in other.1)
      → exploded_rows names (heads columns) (beside count (contents columns)) ≡ Fault
  exploded_fault zero columns own other even there also is is_other differ =
      absurd (differ (none_differ own.1 other.1 (rows_there 0 columns own even there) (rows_there 0 columns other even also)))
  exploded_fault (suc count) columns own other even there also is is_other differ =
      let schema = heads columns in
      let rest = beside count (contents (tails columns)) in
      let make : ℕ → List Row = λ many. rows_of_items many names schema (firsts columns) in
      let first = length (exploded (first_value own.1)) in
      let first_other = length (exploded (first_value other.1)) in
      let at_first = length_there columns own there is in
      let at_other = length_there columns other also is_other in
      ap (exploded_rows names schema) (beside_step count columns even)
      ∙ elim (first == first_other) as (λ b. (first == first_other) ≡ b → then_do (exploded_row names schema (firsts columns)) (λ made. then_do (exploded_rows names schema rest) (λ others. Done (made ++ others))) ≡ Fault) [
        | true ↦ λ e.
            let behind : ¬ (counts_in (drop 1 own.1) ≡ counts_in (drop 1 other.1)) = λ k. differ (same_counts own.1 other.1 count (rows_there (suc count) columns own even there) (rows_there (suc count) columns other even also) (eqb-true first first_other e) k) in
            let later = ap (λ s. exploded_rows names s rest) (sym (heads_of_tails columns)) ∙ exploded_fault count (tails columns) (tail_of own) (tail_of other) (tails_even count columns even) (tail_there columns own there) (tail_there columns other also) is is_other behind in
            fault_behind (exploded_row names schema (firsts columns)) (exploded_rows names schema rest) (never_stuck (agreed (lengths columns)) make) later
        | false ↦ λ e.
            let apart : ¬ (first ≡ first_other) = λ k. let yes = eq-eqb first first_other k in absurd cc in
            ap (λ o. then_do (at_length o make) (λ made. then_do (exploded_rows names schema rest) (λ others. Done (made ++ others)))) (not_agreed (lengths columns) first first_other at_first at_other apart)
      ] refl

  in_front_part : (front : List Shown) (own : Shown) (back : List Shown) → IsIn front own → IsIn (front ++ back) own
  in_front_part [] own back there = absurd there
  in_front_part (c ∷ cs) own back (inl e) = inl e
  in_front_part (c ∷ cs) own back (inr later) = inr (in_front_part cs own back later)

  in_between : (front : List Shown) (own : Shown) (back : List Shown) → IsIn (front ++ own ∷ back) own
  in_between [] own back = inl refl
  in_between (c ∷ cs) own back = inr (in_between cs own back)

  record Makes (counts : List ℕ) (columns : List Shown) : Type 0 where
    own : Shown
    there : IsIn columns own
    is : listed own ≡ true
    makes : counts_in own.1 ≡ counts

  one_makes : (counts : List ℕ) (columns : List Shown) → AllMake test counts columns → some_listed test columns ≡ true → Makes counts columns
  one_makes counts [] makes some = cc
  one_makes counts (c ∷ cs) makes some =
      elim (listed c) as (λ b. listed c ≡ b → (b || some_listed test cs) ≡ true → Makes counts (c ∷ cs)) [
        | true ↦ λ e s. record { own = c; there = inl refl; is = e; makes = makes.0 e }
        | false ↦ λ e s. let later = one_makes counts cs makes.1 s in record { own = later.own; there = inr later.there; is = later.is; makes = later.makes }
      ] refl some

  pub disagreeing : (count : ℕ) (columns : List Shown) → HaveRows count columns → Disagree test columns → exploded_rows names (heads columns) (beside count (contents columns)) ≡ Fault
  disagreeing count columns even d =
      let one = one_makes d.counts d.front d.made d.some in
      let behind = d.other ∷ d.back in
      subst (λ l. HaveRows count l → exploded_rows names (heads l) (beside count (contents l)) ≡ Fault) (sym d.whole)
      (λ even. exploded_fault count (d.front ++ behind) d.other one.own even (in_between d.front d.other d.back) (in_front_part d.front one.own behind one.there) d.listed one.is (λ e. d.differs (e ∙ one.makes))) even
