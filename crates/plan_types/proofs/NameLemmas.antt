-- Names among names, and lists that grow by a name.
use Rattle.std.proofs.Common.{◌≡◌, List, [], ◌∷◌, ◌++◌, Bool, true, false, ◌||◌, refl, sym, ap, ◌∙◌}
use Rattle.std.proofs.lemmas.Bool.{or_parts}
use Rattle.std.proofs.lemmas.Cmp.{nat_list_eq_equiv}
use Rattle.plan_types.specs.Schemas.{Name, same_name, is_among, repeats}

either-false : (a b : Bool) → a ≡ false → b ≡ false → (a || b) ≡ false
either-false a b f g = ap (λ x. x || b) f ∙ g

either-second : (a b : Bool) → b ≡ true → (a || b) ≡ true
either-second true b t = refl
either-second false b t = t

same_name-symmetric : (a b : Name) → same_name a b ≡ same_name b a
same_name-symmetric a b = nat_list_eq_equiv.symm a b

-- a name that is one of a list
among_there : (front : List Name) (x name : Name) (back : List Name) → same_name x name ≡ true → is_among x (front ++ name ∷ back) ≡ true
among_there [] x name back h = ap (λ b. b || is_among x back) h
among_there (n ∷ front) x name back h = either-second (same_name x n) _ (among_there front x name back h)

among_neither : (front : List Name) (x name : Name) → is_among x front ≡ false → same_name x name ≡ false → is_among x (front ++ name ∷ []) ≡ false
among_neither [] x name none other = ap (λ b. b || false) other
among_neither (n ∷ front) x name none other =
    let parts = or_parts (same_name x n) _ none in either-false (same_name x n) _ parts.0 (among_neither front x name parts.1 other)

-- a name that stands before is found by the test, whatever comes behind it
pub repeats-again : (front : List Name) (name : Name) (back : List Name) → is_among name front ≡ true → repeats (front ++ name ∷ back) ≡ true
repeats-again [] name back h = cc
repeats-again (n ∷ front) name back h =
    let later = front ++ name ∷ back in
    elim (same_name name n) as (λ b. same_name name n ≡ b → (b || is_among name front) ≡ true → (is_among n later || repeats later) ≡ true) [ true ↦ λ e t. ap (λ b. b || repeats later) (among_there front n name back (same_name-symmetric n name ∙ e)) | false ↦ λ e t. either-second (is_among n later) _ (repeats-again front name back t) ] refl h

-- where no name stands twice, none stands before its place
pub repeats-apart : (front : List Name) (name : Name) (back : List Name) → repeats (front ++ name ∷ back) ≡ false → is_among name front ≡ false
repeats-apart front name back none =
    elim (is_among name front) as (λ b. is_among name front ≡ b → b ≡ false) [ true ↦ λ e. let again : true ≡ false = sym (repeats-again front name back e) ∙ none in again | false ↦ λ e. refl ] refl

-- a new name goes behind the others
pub repeats-push : (front : List Name) (name : Name) → repeats front ≡ false → is_among name front ≡ false → repeats (front ++ name ∷ []) ≡ false
repeats-push [] name none new = refl
repeats-push (n ∷ front) name none new =
    let parts = or_parts (is_among n front) _ none in
    let others = or_parts (same_name name n) _ new in
    either-false (is_among n (front ++ name ∷ [])) _ (among_neither front n name parts.0 (same_name-symmetric n name ∙ others.0)) (repeats-push front name parts.1 others.1)
