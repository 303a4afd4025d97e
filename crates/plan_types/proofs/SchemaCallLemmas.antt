-- Calls on schemas: the place of a name.
use Rattle.std.proofs.Common.{◌≡◌, ℕ, ◌+◌, suc, List, [], ◌∷◌, map, Option, Some, None, true, false, cond, IfSome, refl, sym, ap, ◌∙◌, arith, slice_get, Bor}
use Rattle.std.specs.Option.{option_map}
use Rattle.std.specs.List.{position, position_from}
use Rattle.std.specs.Map.{keys_of}
use Rattle.std.proofs.lemmas.Option.{slice_get-map}
use Rattle.std.proofs.lemmas.Iterator.Adapters.{position_from-zero}
use Rattle.plan_types.specs.Types.{Ty, ty}
use Rattle.plan_types.specs.Schemas.{Name, Columns, same_name, column_of}
use Rattle.plan_types.specs.SchemaCalls.{column_at}
use Rattle.plan_types.specs.declared.dtype.DataType.{DataType}

-- a place that is counted from one item further in front
abbrev one_on : {A : Type 0} → Option (ℕ × A) → Option (ℕ × A)
one_on {A} r = option_map (λ (f : ℕ × A). (suc f.0, f.1)) r

abbrev Stands : Columns → ℕ × (Name × Ty) → Type 0
Stands cs f = slice_get cs f.0 ≡ Some f.1

shifted : {A : Type 0} (n : ℕ) (r : Option (ℕ × A)) → option_map (λ (f : ℕ × A). (n + 1) + f.0) r ≡ option_map (λ (f : ℕ × A). n + f.0) (one_on r)
shifted n None = refl
shifted n (Some f) = ap Some (omega arith)

-- the place is that of the key
placed_from : (es : List (Name × DataType)) (name : Name) (n : ℕ) → position_from (same_name name) n (keys_of es) ≡ option_map (λ (f : ℕ × (Name × Ty)). n + f.0) (column_at (map column_of es) name)
placed_from [] name n = refl
placed_from (e ∷ es) name n =
    elim (same_name name e.0) as (λ b. cond b (Some n) (position_from (same_name name) (n + 1) (keys_of es)) ≡ option_map (λ (f : ℕ × (Name × Ty)). n + f.0) (cond b (Some (0, column_of e)) (one_on (column_at (map column_of es) name)))) [
      | true ↦ ap Some (omega arith)
      | false ↦ placed_from es name (n + 1) ∙ shifted n (column_at (map column_of es) name)
    ]

one_later : (c : Name × Ty) (cs : Columns) (r : Option (ℕ × (Name × Ty))) → IfSome r (Stands cs) → IfSome (one_on r) (Stands (c ∷ cs))
one_later c cs None h = tt
one_later c cs (Some f) h = h

-- the column that is found stands at its place
stands_there : (cs : Columns) (name : Name) → IfSome (column_at cs name) (Stands cs)
stands_there [] name = tt
stands_there (c ∷ cs) name =
    elim (same_name name c.0) as (λ b. IfSome (cond b (Some (0, c)) (one_on (column_at cs name))) (Stands (c ∷ cs))) [ true ↦ refl | false ↦ one_later c cs (column_at cs name) (stands_there cs name) ]

some_pair : {A : Type 0} (n : ℕ) (x : A) (f : ℕ × A) → n ≡ f.0 → x ≡ f.1 → Some (n, x) ≡ Some f
some_pair n x f p q = λ i. Some (p i, q i)

some_inner : {A : Type 0} (x y : A) → Some x ≡ Some y → x ≡ y
some_inner x y e = cc

agree : (es : List (Name × DataType)) (o : Option (ℕ × Bor Name × Bor DataType)) (r : Option (ℕ × (Name × Ty))) → option_map (λ (p : ℕ × Bor Name × Bor DataType). p.0) o ≡ option_map (λ (f : ℕ × (Name × Ty)). 0 + f.0) r → IfSome o (λ (p : ℕ × Bor Name × Bor DataType). slice_get es p.0 ≡ Some (p.1.now, p.2.now)) → IfSome r (Stands (map column_of es)) → option_map (λ (p : ℕ × Bor Name × Bor DataType). (p.0, (p.1.now, ty p.2.now))) o ≡ r
agree es None None e h g = refl
agree es None (Some f) e h g = cc
agree es (Some p) None e h g = cc
agree es (Some p) (Some f) e h g =
    let place : p.0 ≡ f.0 = some_inner p.0 (0 + f.0) e ∙ omega arith in
    let found = sym (slice_get-map column_of es p.0 ∙ ap (option_map column_of) h) ∙ ap (slice_get (map column_of es)) place ∙ g in
    some_pair p.0 (p.1.now, ty p.2.now) f place (some_inner _ _ found)

-- what a map finds, with its place, is the column at the name
pub found_column : (es : List (Name × DataType)) (name : Name) (o : Option (ℕ × Bor Name × Bor DataType)) → option_map (λ (p : ℕ × Bor Name × Bor DataType). p.0) o ≡ position (same_name name) (keys_of es) → IfSome o (λ (p : ℕ × Bor Name × Bor DataType). slice_get es p.0 ≡ Some (p.1.now, p.2.now)) → option_map (λ (p : ℕ × Bor Name × Bor DataType). (p.0, (p.1.now, ty p.2.now))) o ≡ column_at (map column_of es) name
found_column es name o e h =
    agree es o (column_at (map column_of es) name) (e ∙ position_from-zero (same_name name) (keys_of es) ∙ placed_from es name 0) h (stands_there (map column_of es) name)
