-- What all numbers of a list have.
use Rattle.std.proofs.Common.{◌≡◌, ℕ, zero, suc, ◌<◌, List, [], ◌∷◌, ◌++◌, get_or, length, reverse, take, Some, slice_get, refl, sym, ap, ◌∙◌, subst, arith}
use Rattle.std.proofs.Math.Seq.{take-suc}
use Rattle.std.proofs.lemmas.Option.{slice_get_within, get_or_from_slice_get}
use Rattle.std.proofs.lemmas.Grind.{reverse_onto}
use Rattle.std.specs.List.{AllByRecursion}
use Rattle.plan_arena.specs.Items.{numbers}
use Rattle.plan_arena.specs.declared.arena.Node.{Node}

pub all_front : (P : ℕ → Type 0) (ms ns : List ℕ) → AllByRecursion P (ms ++ ns) → AllByRecursion P ms
all_front P [] ns all = tt
all_front P (m ∷ ms) ns all = (all.0, all_front P ms ns all.1)

pub all_joined : (P : ℕ → Type 0) (ms ns : List ℕ) → AllByRecursion P ms → AllByRecursion P ns → AllByRecursion P (ms ++ ns)
all_joined P [] ns a b = b
all_joined P (m ∷ ms) ns a b = (a.0, all_joined P ms ns a.1 b)

pub all_weaker : (P Q : ℕ → Type 0) → ((n : ℕ) → P n → Q n) → (ns : List ℕ) → AllByRecursion P ns → AllByRecursion Q ns
all_weaker P Q h [] all = tt
all_weaker P Q h (n ∷ ns) all = (h n all.0, all_weaker P Q h ns all.1)

pub all_last : (P : ℕ → Type 0) (ms : List ℕ) (last : ℕ) → AllByRecursion P (ms ++ last ∷ []) → P last
all_last P [] last all = all.0
all_last P (m ∷ ms) last all = all_last P ms last all.1

pub all_reversed : (P : ℕ → Type 0) (ns : List ℕ) → AllByRecursion P ns → AllByRecursion P (reverse ns)
all_reversed P [] all = tt
all_reversed P (n ∷ ns) all =
    subst (AllByRecursion P) (sym (reverse_onto ns n [])) (all_joined P (reverse ns) (n ∷ []) (all_reversed P ns all.1) (all.0, tt))

-- one of them has it
pub all_there : (P : ℕ → Type 0) (ns : List ℕ) → AllByRecursion P ns → (i n : ℕ) → slice_get ns i ≡ Some n → P n
all_there P [] all i n at = cc
all_there P (m ∷ ns) all zero n at = let same : m ≡ n = cc in subst P same all.0
all_there P (m ∷ ns) all (suc i) n at = all_there P ns all.1 i n at

-- one more than so many of them
pub taken_more : (ns : List ℕ) (i n : ℕ) → slice_get ns i ≡ Some n → take (suc i) ns ≡ take i ns ++ n ∷ []
taken_more ns i n at = take-suc ns i n (slice_get_within ns i n at) ∙ ap (λ k. take i ns ++ k ∷ []) (get_or_from_slice_get ns i n n at)

-- the number of the node at a place
pub number_at : (ns : List Node) (i : ℕ) (default : Node) → i < length ns → slice_get (numbers ns) i ≡ Some (get_or ns i default).0
number_at [] i default lt = absurd (omega (arith, lt))
number_at (n ∷ ns) zero default lt = refl
number_at (n ∷ ns) (suc i) default lt = number_at ns i default (omega (arith, lt))
