-- What is typed has one typing, and children that are typed are so one by one.
use Rattle.std.proofs.Common.{◌≡◌, Bool, true, false, cond, List, [], ◌∷◌, Result, Ok, Err, refl, subst}
use Rattle.plan_types.specs.Schemas.{Columns}
use Rattle.plan_types.specs.declared.error.ErrorKind.{ErrorKind}
use Rattle.plan_dsl.specs.Registry.{Registry}
use Rattle.plan_dsl.specs.Trees.{Trees, node}
use Rattle.plan_dsl.specs.Ops.{Op}
use Rattle.plan_dsl.specs.Typing.{Typed, Ruling, rule, ruled_as, own_typed, typing_rule, then_typed, typed_before, typing, typing_all}
use Rattle.plan_dsl.specs.OperatorTypes.{Taken}

-- what was found is one
pub ok_same : {A E : Type 0} (found : Result A E) (x y : A) → found ≡ Ok x → found ≡ Ok y → x ≡ y
ok_same found x y e f = cc

-- what holds of typings of which the first and the rest are known holds of typed children
pub by_children : (P : List Typed → Type 0) (first : Result Typed ErrorKind) (rest : Result (List Typed) ErrorKind) (typed : List Typed) → typed_before first rest ≡ Ok typed → ((t : Typed) (ts : List Typed) → first ≡ Ok t → rest ≡ Ok ts → P (t ∷ ts)) → P typed
by_children P (Err kind) rest typed h each = cc
by_children P (Ok t) (Err kind) typed h each = cc
by_children P (Ok t) (Ok ts) typed h each = let e : (t ∷ ts) ≡ typed = cc in subst P e (each t ts refl refl)

-- and no children have no typings
pub by_no_children : (P : List Typed → Type 0) (typed : List Typed) → (let none : Result (List Typed) ErrorKind = Ok [] in none ≡ Ok typed) → P [] → P typed
by_no_children P typed h none = let e : [] ≡ typed = cc in subst P e none

-- what is there where a test says so
pub ok_where : {A E : Type 0} (test : Bool) (x y : A) (error : E) → cond test (Ok x) (Err error) ≡ Ok y → (test ≡ true) × (x ≡ y)
ok_where true x y error h = (refl, ok_same (Ok x) x y refl h)
ok_where false x y error h = cc

-- what a table of types says is what a rule says
abbrev pub ruling_of : Taken → Bool → Ruling
ruling_of taken many = record { operands = taken.operands; own = record { type = taken.type; many = many } }

pub ruled_is : (P : Ruling → Type 0) (found : Result Taken ErrorKind) (many : Bool) (ruling : Ruling) → ruled_as found many ≡ Ok ruling → ((taken : Taken) → found ≡ Ok taken → P (ruling_of taken many)) → P ruling
ruled_is P (Err kind) many ruling h each = cc
ruled_is P (Ok taken) many ruling h each = subst P (ok_same (ruled_as (Ok taken) many) (ruling_of taken many) ruling refl h) (each taken refl)

-- the parts of a typing
pub record TypedParts (registry : Registry) (schema : Columns) (op : Op) (children : Trees Op) (typed : Typed) : Type 0 where
  pub below : List Typed
  pub children_typed : typing_all registry schema children ≡ Ok below
  pub ruling : Ruling
  pub rules : rule registry schema op below ≡ Ok ruling
  pub is : ruling.own ≡ typed

pub typed_parts : (registry : Registry) (schema : Columns) (op : Op) (children : Trees Op) (typed : Typed) → typing registry schema (node op children) ≡ Ok typed → TypedParts registry schema op children typed
typed_parts registry schema op children typed h =
    elim (typing_all registry schema children) as (λ r. typing_all registry schema children ≡ r → then_typed r (typing_rule registry schema op) ≡ Ok typed → TypedParts registry schema op children typed) [
      | Err kind ↦ λ e h. cc
      | Ok below ↦ λ e h. elim (rule registry schema op below) as (λ r. rule registry schema op below ≡ r → own_typed r ≡ Ok typed → TypedParts registry schema op children typed) [
        | Err kind ↦ λ f h. cc
        | Ok ruling ↦ λ f h. record { below = below; children_typed = e; ruling = ruling; rules = f; is = ok_same (own_typed (Ok ruling)) ruling.own typed refl h }
      ] refl h
    ] refl h
