-- Explodes of frames: that a column is exploded, how many rows there are, and the frame of columns that were made, or the fault.
use Rattle.std.proofs.Common.{◌≡◌, ◌∙◌, ℕ, List, [], ◌∷◌, length, map, Bool, true, false, cond, ◌||◌, None, refl, sym, ap, subst}
use Rattle.std.proofs.lemmas.Bool.{and_parts}
use Rattle.std.proofs.lemmas.Cmp.{nat_list_eq_equiv}
use Rattle.std.proofs.lemmas.List.{length-map}
use Rattle.plan_types.specs.Schemas.{Name, Columns, is_among, names_of, same_name}
use Rattle.plan_types.specs.Outcomes.{Done, Fault, Meets, then_do}
use Rattle.plan_types.specs.Frames.{Frame, IsFrame, IsFrameOf}
use Rattle.plan_types.specs.FrameFaults.{frame_fault, framed, height_of, shown}
use Rattle.plan_types.specs.declared.column.Column.{Column}
use Rattle.plan_types.specs.declared.error.ErrorKind.{ErrorKind}
use Rattle.plan_types.specs.declared.error.ErrorKind.TheVariants.{ColumnNotFound}
use Rattle.plan_types.proofs.FrameCallLemmas.{framed_is_frame}
use Rattle.plan_types.proofs.ListLemmas.{map-map}
use Rattle.plan_dsl.specs.Drops.{have_names}
use Rattle.plan_dsl.specs.Signatures.{own_type}
use Rattle.plan_dsl.specs.declared.signature.OwnType.TheVariants.{Item}
use Rattle.plan_dsl.specs.TableFrames.{exploded_on, exploded_rows}
use Rattle.plan_dsl.specs.TableRules.{explode_kinds, exploded_columns, where_standing}
use Rattle.plan_dsl.proofs.ExplodeLemmas.{explode_keeps}
use Rattle.plan_exec.specs.ColumnFunctions.{AllMake, Disagree, counts_in, exploded_column, exploded_values, some_listed}
use Rattle.plan_exec.specs.LaidFrames.{Shown, HaveRows, beside, contents, heads, laid}
use Rattle.plan_exec.proofs.ExplodeLemmas.{disagreeing, exploded_done, exploded_even, total}
use Rattle.plan_exec.proofs.SoundLemmas.{heads_shown, laid_is_sound, sound_is_laid}

-- names of which each has a column
standing : (schema : Columns) (names : List Name) (kinds : List ErrorKind) → where_standing schema names kinds ≡ [] → have_names schema names ≡ true
standing schema names kinds h =
    elim (have_names schema names) as (λ b. cond b kinds (ColumnNotFound ∷ []) ≡ [] → b ≡ true) [ true ↦ λ h. refl | false ↦ λ h. cc ] h

-- as many rows are counted as the column has
counted : (test : Name → Bool) (counts : List ℕ) (count : ℕ) (columns : List Shown) → AllMake test counts columns → some_listed test columns ≡ true → HaveRows count columns → length counts ≡ count
counted test counts count [] makes some even = cc
counted test counts count (c ∷ cs) makes some even =
    elim (test c.0.0) as (λ b. (b ≡ true → counts_in c.1 ≡ counts) → (b || some_listed test cs) ≡ true → length counts ≡ count) [
      | true ↦ λ own s. ap length (sym (own refl)) ∙ length-map c.1 _ ∙ even.0
      | false ↦ λ own s. counted test counts count cs makes.1 s even.1
    ] makes.0 some

module _ (names : List Name) (test : Name → Bool) (same : (name : Name) → test name ≡ is_among name names) where
  -- a name of which there is a column is one that is exploded
  one_listed : (first : Name) (rest : List Name) → names ≡ first ∷ rest → (columns : List Shown) → is_among first (names_of (heads columns)) ≡ true → some_listed test columns ≡ true
  one_listed first rest is [] h = cc
  one_listed first rest is (c ∷ cs) h =
      elim (same_name first c.0.0) as (λ b. same_name first c.0.0 ≡ b → (b || is_among first (names_of (heads cs))) ≡ true → (test c.0.0 || some_listed test cs) ≡ true) [
        | true ↦ λ e t. ap (λ b. b || some_listed test cs) (same c.0.0 ∙ ap (is_among c.0.0) is ∙ ap (λ b. b || is_among c.0.0 rest) (nat_list_eq_equiv.symm c.0.0 first ∙ e))
        | false ↦ λ e t. ap (λ b. test c.0.0 || b) (one_listed first rest is cs t) ∙ elim (test c.0.0) as (λ b. (b || true) ≡ true) [ true ↦ refl | false ↦ refl ]
      ] refl h

  listed_by_names : (given : List Name) → names ≡ given → (schema : Columns) (columns : List Shown) → schema ≡ heads columns → explode_kinds schema given ≡ [] → some_listed test columns ≡ true
  listed_by_names [] is schema columns own h = cc
  listed_by_names (first ∷ rest) is schema columns own h =
      one_listed first rest is columns (ap (λ s. is_among first (names_of s)) (sym own) ∙ (and_parts (is_among first (names_of schema)) _ (standing schema (first ∷ rest) _ h)).0)

  -- where an explode breaks no rule, there is a column that is exploded
  pub is_listed : (columns : List Column) → explode_kinds (framed columns).schema names ≡ [] → some_listed test (map shown columns) ≡ true
  is_listed columns h = listed_by_names names refl (framed columns).schema (map shown columns) (heads_shown columns) h

  exploded_heads : (counts : List ℕ) (columns : List Shown) → heads (map (exploded_column test counts) columns) ≡ exploded_columns names (heads columns)
  exploded_heads counts [] = refl
  exploded_heads counts (c ∷ cs) =
      let rest = exploded_heads counts cs in
      (λ i. (c.0.0, cond (same c.0.0 i) (own_type Item c.0.1) c.0.1) ∷ rest i)

  -- the frame that is made
  abbrev made_frame : List ℕ → List Shown → Frame
  made_frame counts columns = record { schema = exploded_columns names (heads columns); rows = beside (total counts) (map (λ column. exploded_values (test column.0.0) counts column.1) columns) }

  -- columns that are made are a frame, which the explode gives
  pub record IsExploded (old : List Column) (new : List Column) : Type 0 where
    pub sound : frame_fault new ≡ None
    pub gives : exploded_on names (framed old) ≡ Done (framed new)

  laid_exploded : (count : ℕ) (counts : List ℕ) (columns : List Shown) → length counts ≡ count → HaveRows count columns → AllMake test counts columns → some_listed test columns ≡ true → exploded_on names (laid count columns) ≡ Done (made_frame counts columns)
  laid_exploded count counts columns many even makes some =
      let rows = subst (λ n. HaveRows n columns → exploded_rows names (heads columns) (beside n (contents columns)) ≡ Done (beside (total counts) (map (λ column. exploded_values (test column.0.0) counts column.1) columns))) many (λ even. exploded_done names test same counts columns even makes some) even in
      ap (λ o. then_do o (λ rows. Done (record { schema = exploded_columns names (heads columns); rows = rows }))) rows

  pub exploded_is : (old new : List Column) (counts : List ℕ) → frame_fault old ≡ None → explode_kinds (framed old).schema names ≡ [] → AllMake test counts (map shown old) → map shown new ≡ map (exploded_column test counts) (map shown old) → IsExploded old new
  exploded_is old new counts sound kinds makes are =
      let is_laid = sound_is_laid old sound in
      let columns = map shown old in
      let some = is_listed old kinds in
      let many = counted test counts (height_of old) columns makes some is_laid.even in
      let frame = made_frame counts columns in
      let gives : exploded_on names (framed old) ≡ Done frame = ap (exploded_on names) is_laid.frame ∙ laid_exploded (height_of old) counts columns many is_laid.even makes some in
      let own : IsFrameOf (framed old).schema (framed old) = record { schema_is = refl; frame_is = framed_is_frame old sound } in
      let kept : IsFrame frame = (subst (Meets (IsFrameOf (exploded_columns names (framed old).schema))) gives (explode_keeps (framed old).schema (framed old) names own)).frame_is in
      let each = subst (λ n. HaveRows n columns) (sym many) is_laid.even in
      let even : HaveRows (total counts) (map shown new) = subst (HaveRows (total counts)) (sym are) (exploded_even names test same counts columns each makes) in
      let values : contents (map (exploded_column test counts) columns) ≡ map (λ column. exploded_values (test column.0.0) counts column.1) columns = map-map (λ (column : Shown). column.1) (exploded_column test counts) columns in
      let made : laid (total counts) (map (exploded_column test counts) columns) ≡ frame = let schema = exploded_heads counts columns in λ i. record { schema = schema i; rows = beside (total counts) (values i) } in
      let found = laid_is_sound (total counts) new frame even (ap (laid (total counts)) are ∙ made) kept in
      record { sound = found.sound; gives = gives ∙ ap Done (sym found.frame_is) }

  -- where two columns make different numbers of rows, the explode is a fault
  pub exploded_is_fault : (old : List Column) → frame_fault old ≡ None → Disagree test (map shown old) → exploded_on names (framed old) ≡ Fault
  exploded_is_fault old sound d =
      let is_laid = sound_is_laid old sound in
      let columns = map shown old in
      let rows = disagreeing names test same (height_of old) columns is_laid.even d in
      ap (exploded_on names) is_laid.frame ∙ ap (λ o. then_do o (λ rows. Done (record { schema = exploded_columns names (heads columns); rows = rows }))) rows
