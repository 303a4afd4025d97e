-- Expressions of which the operands are changed one by one, in place.
use Rattle.std.proofs.Common.{◌≡◌, ◌<◌, ◌≤◌, ◌+◌, ℕ, zero, suc, List, [], ◌∷◌, ◌++◌, drop, length, slice_get, slice_set, Some, None, true, false, cond, Result, Ok, refl, sym, ap, ◌∙◌, append_assoc, append-nil, length-append, arith}
use Rattle.std.specs.Option.{option_map}
use Rattle.std.specs.Prelude.{unwrap_or}
use Rattle.std.proofs.lemmas.Option.{slice_get_within}
use Rattle.plan_types.specs.Errors.{IsRefusal, no_room, broken}
use Rattle.plan_types.specs.declared.error.ErrorKind.{ErrorKind}
use Rattle.plan_types.specs.declared.error.PlanError.{PlanError}
use Rattle.plan_dsl.specs.Expansion.{is_marker}
use Rattle.plan_dsl.specs.Refusals.{then_ok, each_ok}
use Rattle.plan_dsl.specs.Sources.{Source, SourceOp}
use Rattle.plan_dsl.specs.Trees.{Trees, node, no_more, more, children_from, top_op, tree_depth}
use Rattle.plan_expand.specs.Walks.{below, children_of, operand_list, operands_in, over}
use Rattle.plan_expand.proofs.EachLemmas.{behind, each_start, each_step, each_refused, each_end}
use Rattle.plan_expand.proofs.WalkLemmas.{at_place, none_left, operand_below}

-- ---- operands

pub children_again : (children : Trees SourceOp) → children_from (children_of children) ≡ children
children_again no_more = refl
children_again (more child rest) = ap (more child) (children_again rest)

over_own : (source : Source) → source ≡ over source (below source)
over_own (node op children) = ap (node op) (sym (children_again children))

listed_again : (sources : List Source) → children_of (children_from sources) ≡ sources
listed_again [] = refl
listed_again (source ∷ sources) = ap (λ l. source ∷ l) (listed_again sources)

-- of what is no marker
unmarked_list : (source : Source) → is_marker (top_op source) ≡ false → operand_list source ≡ below source
unmarked_list (node op children) marks = ap (λ b. unwrap_or (cond b None (Some (children_of children))) []) marks

pub unmarked_count : (source : Source) (count : ℕ) → Some count ≡ option_map length (operands_in source) → (is_marker (top_op source) ≡ false) × (count ≡ length (below source))
unmarked_count (node op children) count is =
    elim (is_marker op) as (λ b. Some count ≡ option_map length (cond b None (Some (children_of children))) → (b ≡ false) × (count ≡ length (children_of children))) [ true ↦ λ e. absurd cc | false ↦ λ e. (refl, cc) ] is

over_list : (source : Source) (sources : List Source) → is_marker (top_op source) ≡ false → operand_list (over source sources) ≡ sources
over_list source sources marks = unmarked_list (over source sources) marks ∙ listed_again sources

-- an item behind others
get_behind : {A : Type 0} (done rest : List A) → slice_get (done ++ rest) (length done) ≡ slice_get rest 0
get_behind [] rest = refl
get_behind (item ∷ done) rest = get_behind done rest

set_behind : {A : Type 0} (done rest : List A) (item made : A) → slice_set (done ++ item ∷ rest) (length done) made ≡ done ++ made ∷ rest
set_behind [] rest item made = refl
set_behind (own ∷ done) rest item made = ap (λ l. own ∷ l) (set_behind done rest item made)

first_left : {A : Type 0} (items : List A) (place : ℕ) → slice_get (drop place items) 0 ≡ slice_get items place
first_left items zero = refl
first_left [] (suc place) = refl
first_left (item ∷ items) (suc place) = first_left items place

past_left : {A : Type 0} (items : List A) (place : ℕ) → place < length items → (item : A) × (Some item ≡ slice_get items place)
past_left [] place within = absurd (omega (arith, within))
past_left (item ∷ items) zero within = (item, refl)
past_left (item ∷ items) (suc place) within = past_left items place (omega (arith, within))

module _ (change : Source → Result Source ErrorKind) where
  -- an expression of which so many operands are changed, and no other
  pub record IsChanged (old now : Source) (place : ℕ) : Type 0 where
    pub done : List Source
    pub marks : is_marker (top_op old) ≡ false
    pub so_many : length done ≡ place
    pub is : now ≡ over old (done ++ drop place (below old))
    pub so_far : each_ok change (below old) ≡ behind done (each_ok change (drop place (below old)))

  pub changed_start : (old : Source) → is_marker (top_op old) ≡ false → IsChanged old old 0
  changed_start old marks = record { done = []; marks = marks; so_many = refl; is = over_own old; so_far = each_start change (below old) }

  module _ (old now : Source) (place : ℕ) (changed : IsChanged old now place) where
    abbrev left : List Source
    left = drop place (below old)

    listed_now : operand_list now ≡ changed.done ++ left
    listed_now = ap operand_list changed.is ∙ over_list old (changed.done ++ left) changed.marks

    -- the operand at the place
    pub operand_now : (operand : Source) → Some operand ≡ slice_get (operand_list now) place → Some operand ≡ slice_get (below old) place
    operand_now operand is =
        is ∙ (λ i. slice_get (listed_now i) (sym changed.so_many i)) ∙ get_behind changed.done left ∙ first_left (below old) place

    pub operand_less_deep : (operand : Source) → Some operand ≡ slice_get (operand_list now) place → tree_depth operand < tree_depth old
    operand_less_deep operand is = depth old changed.marks (operand_now operand is)
      where
        depth : (source : Source) → is_marker (top_op source) ≡ false → Some operand ≡ slice_get (below source) place → tree_depth operand < tree_depth source
        depth (node op children) marks at = operand_below (node op children) (children_of children) place operand (sym (ap (λ b. cond b None (Some (children_of children))) marks)) at

    pub place_now : place < length (below old) → place < length (operand_list now)
    place_now within =
        let at = past_left (below old) place within in
        slice_get_within (operand_list now) place at.0 ((λ i. slice_get (listed_now i) (sym changed.so_many i)) ∙ get_behind changed.done left ∙ first_left (below old) place ∙ sym at.1)

    module _ (operand : Source) (at : Some operand ≡ slice_get (operand_list now) place) where
      taken : left ≡ operand ∷ drop (place + 1) (below old)
      taken = at_place (below old) place operand (operand_now operand at)

      put_now : (made : Source) → slice_set (operand_list now) place made ≡ changed.done ++ made ∷ drop (place + 1) (below old)
      put_now made =
          (λ i. slice_set ((listed_now ∙ ap (λ l. changed.done ++ l) taken) i) (sym changed.so_many i) made) ∙ set_behind changed.done (drop (place + 1) (below old)) operand made

      module _ (between spare : Source) (lent : between ≡ over now (slice_set (operand_list now) place spare)) where
        top_between : top_op between ≡ top_op old
        top_between = ap top_op lent ∙ ap top_op changed.is

        listed_between : operand_list between ≡ changed.done ++ spare ∷ drop (place + 1) (below old)
        listed_between =
            ap operand_list lent ∙ over_list now (slice_set (operand_list now) place spare) (ap (λ s. is_marker (top_op s)) changed.is ∙ changed.marks) ∙ put_now spare

        -- it is put back
        pub place_between : place < length (operand_list between)
        place_between = slice_get_within (operand_list between) place spare ((λ i. slice_get (listed_between i) (sym changed.so_many i)) ∙ get_behind changed.done (spare ∷ drop (place + 1) (below old)))

        pub changed_step : (made new : Source) → change operand ≡ Ok made → new ≡ over between (slice_set (operand_list between) place made) → IsChanged old new (place + 1)
        changed_step made new found put = record {
          done = changed.done ++ made ∷ [];
          marks = changed.marks;
          so_many = length-append changed.done (made ∷ []) ∙ ap (λ n. n + 1) changed.so_many;
          is = put ∙ (λ i. node (top_between i) (children_from (slice_set (listed_between i) (sym changed.so_many i) made)))
              ∙ ap (over old) (set_behind changed.done (drop (place + 1) (below old)) spare made ∙ sym (append_assoc changed.done (made ∷ []) (drop (place + 1) (below old))));
          so_far = changed.so_far ∙ ap (λ l. behind changed.done (each_ok change l)) taken ∙ each_step change changed.done (changed.done ++ made ∷ []) operand (drop (place + 1) (below old)) made found refl;
        }

      pub changed_refused : (error : PlanError) → IsRefusal (change operand) error → IsRefusal (each_ok change (below old)) error
      changed_refused error refused =
          each_refused change changed.done operand (drop (place + 1) (below old)) error (each_ok change (below old)) (changed.so_far ∙ ap (λ l. behind changed.done (each_ok change l)) taken) refused

    -- all are changed
    pub changed_end : (count : ℕ) → count ≡ length (below old) → count ≤ place → (each_ok change (below old) ≡ Ok (below now)) × (top_op now ≡ top_op old)
    changed_end count is past =
        let none = none_left (below old) place count is past in
        let all : below now ≡ changed.done = ap below changed.is ∙ listed_again (changed.done ++ left) ∙ ap (λ l. changed.done ++ l) none ∙ append-nil changed.done in
        (changed.so_far ∙ each_end change changed.done left none ∙ ap Ok (sym all), ap top_op changed.is)

-- ---- what follows on all operands

-- a refusal of what comes first is one of the whole
pub then_refused : {A B : Type 0} (first : Result A ErrorKind) (next : A → Result B ErrorKind) (error : PlanError) → IsRefusal first error → IsRefusal (then_ok first next) error
then_refused first next error (no_room e) = no_room e
then_refused first next error (broken kind told by) = broken kind told (ap (λ r. then_ok r next) by)

pub then_found : {A B : Type 0} (first : Result A ErrorKind) (next : A → Result B ErrorKind) (found : A) → first ≡ Ok found → then_ok first next ≡ next found
then_found first next found is = ap (λ r. then_ok r next) is
