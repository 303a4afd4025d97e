-- What is strict: its parts, and what makes it so.
use Rattle.std.proofs.Common.{◌≡◌, true, List, [], ◌∷◌, Result, Ok, Err, refl, ap, ◌∙◌}
use Rattle.std.proofs.lemmas.Bool.{and_parts, and_from}
use Rattle.plan_types.specs.Types.{Ty, is_known, same_type}
use Rattle.plan_types.specs.TypeLaws.{same_type_exact, same_type_own}
use Rattle.plan_types.specs.Schemas.{Columns}
use Rattle.plan_types.specs.declared.error.ErrorKind.{ErrorKind}
use Rattle.plan_dsl.specs.Registry.{Registry}
use Rattle.plan_dsl.specs.Trees.{Trees}
use Rattle.plan_dsl.specs.Ops.{Op}
use Rattle.plan_dsl.specs.Typing.{Typed, Ruling, rule, types_of, typing_all}
use Rattle.plan_dsl.specs.Strictness.{IsStrictOver, is_strict_over, is_strict_rule, same_types, takes_own}

-- types that compare equal one by one are the same
pub same_types_exact : (types targets : List Ty) → same_types types targets ≡ true → types ≡ targets
same_types_exact [] [] h = refl
same_types_exact (type ∷ types) (target ∷ targets) h =
    let parts = and_parts (same_type type target) (same_types types targets) h in
    ap (λ t. t ∷ types) (same_type_exact type target parts.0) ∙ ap (λ l. target ∷ l) (same_types_exact types targets parts.1)
same_types_exact _ _ h = cc

pub own_types : (types : List Ty) → same_types types types ≡ true
own_types [] = refl
own_types (type ∷ types) = and_from (same_type type type) (same_types types types) (same_type_own type) (own_types types)

-- a strict node takes its operands as they are, and its own type is one of columns
pub record StrictParts (registry : Registry) (schema : Columns) (op : Op) (children : Trees Op) : Type 0 where
  pub typed : List Typed
  pub types : typing_all registry schema children ≡ Ok typed
  pub ruling : Ruling
  pub rules : rule registry schema op typed ≡ Ok ruling
  pub takes : takes_own (types_of typed) ruling ≡ true
  pub kept : types_of typed ≡ ruling.operands
  pub known : is_known ruling.own.type ≡ true

ruled_parts : (registry : Registry) (schema : Columns) (op : Op) (children : Trees Op) (typed : List Typed) (found : Result Ruling ErrorKind) → typing_all registry schema children ≡ Ok typed → rule registry schema op typed ≡ found → is_strict_rule (types_of typed) found ≡ true → StrictParts registry schema op children
ruled_parts registry schema op children typed (Err kind) types rules h = cc
ruled_parts registry schema op children typed (Ok ruling) types rules h =
    let parts = and_parts (same_types (types_of typed) ruling.operands) (is_known ruling.own.type) h in
    record { typed = typed; types = types; ruling = ruling; rules = rules; takes = h; kept = same_types_exact (types_of typed) ruling.operands parts.0; known = parts.1 }

typed_strict : (registry : Registry) (schema : Columns) (op : Op) (children : Trees Op) (found : Result (List Typed) ErrorKind) → typing_all registry schema children ≡ found → is_strict_over registry schema op found ≡ true → StrictParts registry schema op children
typed_strict registry schema op children (Err kind) types h = cc
typed_strict registry schema op children (Ok typed) types h = ruled_parts registry schema op children typed (rule registry schema op typed) types refl h

pub strict_parts : (registry : Registry) (schema : Columns) (op : Op) (children : Trees Op) → IsStrictOver registry schema op children → StrictParts registry schema op children
strict_parts registry schema op children strict = typed_strict registry schema op children (typing_all registry schema children) refl strict

pub strict_from : (registry : Registry) (schema : Columns) (op : Op) (children : Trees Op) (typed : List Typed) (ruling : Ruling) → typing_all registry schema children ≡ Ok typed → rule registry schema op typed ≡ Ok ruling → types_of typed ≡ ruling.operands → is_known ruling.own.type ≡ true → IsStrictOver registry schema op children
strict_from registry schema op children typed ruling types rules kept known =
    ap (is_strict_over registry schema op) types
    ∙ ap (is_strict_rule (types_of typed)) rules
    ∙ and_from (same_types (types_of typed) ruling.operands) (is_known ruling.own.type) (ap (λ ts. same_types ts ruling.operands) kept ∙ own_types ruling.operands) known
