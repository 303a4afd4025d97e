-- What a signature says of typed operands keeps the rule, whatever the op: operands can become of the types to which they
-- are taken, and these are taken as they are.
use Rattle.std.proofs.Common.{◌≡◌, ℕ, suc, nat_lt, Bool, true, false, ◌&&◌, cond, List, [], ◌∷◌, length, Option, Some, None, Result, Ok, Err, refl, sym, ap, ◌∙◌, subst}
use Rattle.plan_types.specs.Types.{Ty, NullType, Truth, Integer, ListType, StructType, Untyped, Fields, no_field, with_field, are_known, is_known}
use Rattle.plan_types.specs.Values.{Val}
use Rattle.plan_types.specs.Casts.{can_cast, can_cast_fields}
use Rattle.plan_types.specs.CommonTypes.{type_alone}
use Rattle.plan_types.specs.Frames.{Frame}
use Rattle.plan_types.specs.Outcomes.{Meets}
use Rattle.plan_types.specs.declared.error.ErrorKind.{ErrorKind}
use Rattle.plan_types.proofs.CommonLemmas.{alone_known, alone_itself, alone_same}
use Rattle.plan_types.proofs.CastLemmas.{cast_own as own_cast}
use Rattle.plan_types.proofs.SupertypeLemmas.{some_same}
use Rattle.std.proofs.lemmas.Bool.{and_parts, and_from}
use Rattle.plan_dsl.specs.declared.signature.Ask.{Ask}
use Rattle.plan_dsl.specs.declared.signature.Ask.TheVariants.{Any, Sortable, Boolean, Castable, Place, Length, Summable, Listed}
use Rattle.plan_dsl.specs.declared.signature.Asked.{Asked}
use Rattle.plan_dsl.specs.declared.signature.OwnType.{OwnType}
use Rattle.plan_dsl.specs.declared.signature.OwnType.TheVariants.{First, Item, ListOf, Count, Total, Rows, Truths}
use Rattle.plan_dsl.specs.declared.signature.Signature.{Signature}
use Rattle.plan_dsl.specs.Registry.{Registry}
use Rattle.plan_dsl.specs.Ops.{Op}
use Rattle.plan_dsl.specs.Kernels.{kernel}
use Rattle.plan_dsl.specs.Signatures.{asked_at, asked_target, is_asked, own_type, signature, sum_type}
use Rattle.plan_dsl.specs.Typing.{Typed, Ruling, first_of, own_over, shared_at, shared_type, signed, signed_sharing, signed_to, taken_alone, taken_by, taken_from, type_before, typed_to, types_of}
use Rattle.plan_dsl.specs.Strictness.{CanBecome}
use Rattle.plan_dsl.specs.Laws.{AreOf}
use Rattle.plan_dsl.proofs.ColumnLemmas.{OnColumns}
use Rattle.plan_dsl.proofs.SharingLemmas.{SharedFrom, SharesFrom, shared_again, shares_type}
use Rattle.plan_dsl.proofs.TypingLemmas.{ok_same}

-- an operand can become one of the type to which it is taken, or the node, of its type, passes it on
pub data IsTakenTo (own from target : Ty) : Type 0 where
  makes : (can : CanBecome from target) → IsTakenTo own from target
  passes : (kept : from ≡ target) (owned : target ≡ own) → IsTakenTo own from target

pub takes_known : (own from target : Ty) → is_known own ≡ true → IsTakenTo own from target → is_known target ≡ true
takes_known own from target known (makes can) = can.known
takes_known own from target known (passes kept owned) = ap is_known owned ∙ known

-- each of a node of that type is taken to its type
abbrev pub AllBecome : Ty → List Ty → List Ty → Type 0
AllBecome own [] [] = Unit {0}
AllBecome own (from ∷ types) (target ∷ targets) = IsTakenTo own from target × AllBecome own types targets
AllBecome own [] (target ∷ targets) = ⊥
AllBecome own (from ∷ types) [] = ⊥

-- ---- operands alone

-- the type of a number without one is no cast's target
mutual
  pub target_known : (from target : Ty) → can_cast from target ≡ true → is_known target ≡ true
  target_known NullType target h = h
  target_known (ListType item) (ListType other) h = target_known item other h
  target_known (StructType fields) (StructType others) h = targets_known fields others h
  target_known _ (ListType item) h = cc
  target_known _ (StructType fields) h = cc
  target_known _ (Untyped number) h = cc
  target_known _ _ h = refl

  targets_known : (fields others : Fields) → can_cast_fields fields others ≡ true → are_known others ≡ true
  targets_known no_field no_field h = refl
  targets_known no_field (with_field other found others) h = cc
  targets_known (with_field name type rest) no_field h = cc
  targets_known (with_field name type rest) (with_field other found others) h =
      let parts = and_parts (can_cast type found) (can_cast_fields rest others) h in
      and_from (is_known found) (are_known others) (target_known type found parts.0) (targets_known rest others parts.1)

-- an operand alone can become of a type of columns to which there is a cast from the type that it has alone
pub alone_casts : (from own target : Ty) → type_alone from ≡ Some own → can_cast own target ≡ true → CanBecome from target
alone_casts from own target alone casts = record {
  known = target_known own target casts;
  casts = λ apart. subst (λ t. can_cast t target ≡ true) (alone_same from own alone apart) casts;
  has = λ number e lacks. (own, alone, casts);
}

-- so it can become of that type itself
pub alone_becomes : (from own : Ty) → type_alone from ≡ Some own → CanBecome from own
alone_becomes from own alone = alone_casts from own own alone (own_cast own (alone_known from own alone))

-- ---- one operand

-- there is a cast to what is asked
asked_casts : (ask : Ask) (type : Ty) → is_known type ≡ true → is_asked ask type ≡ true → can_cast type (asked_target ask type) ≡ true
asked_casts Any type k h = own_cast type k
asked_casts Sortable type k h = own_cast type k
asked_casts Summable type k h = own_cast type k
asked_casts Listed type k h = own_cast type k
asked_casts Boolean NullType k h = refl
asked_casts Boolean Truth k h = refl
asked_casts Castable type k h = h
asked_casts Place (Integer signed bits) k h = refl
asked_casts Length NullType k h = refl
asked_casts Length (Integer signed bits) k h = refl
asked_casts _ _ k h = cc

-- which is what is asked, and is kept
target_asked : (ask : Ask) (type : Ty) → is_asked ask type ≡ true → is_asked ask (asked_target ask type) ≡ true
target_asked Any type h = refl
target_asked Sortable type h = h
target_asked Summable type h = h
target_asked Listed type h = h
target_asked Boolean type h = refl
target_asked Castable type h = refl
target_asked Place type h = refl
target_asked Length type h = refl

target_kept : (ask : Ask) (type : Ty) → asked_target ask (asked_target ask type) ≡ asked_target ask type
target_kept Any type = refl
target_kept Sortable type = refl
target_kept Summable type = refl
target_kept Listed type = refl
target_kept Boolean type = refl
target_kept Castable type = refl
target_kept Place type = refl
target_kept Length type = refl

-- an operand that is taken as it is: it has the type that it shares, or else what is asked
pub record TakesOwn (shared : Option Ty) (asked : Asked) (operand : Typed) : Type 0 where
  pub single : asked.one ≡ true → operand.many ≡ false
  pub known : is_known operand.type ≡ true
  pub passes : shared ≡ None → is_asked asked.ask operand.type ≡ true
  pub kept : shared ≡ None → asked_target asked.ask operand.type ≡ operand.type
  pub same : (type : Ty) → shared ≡ Some type → operand.type ≡ type

-- an operand is taken to a type of which it can become, and one of that type is taken as it is
record IsTaken (shared : Option Ty) (asked : Asked) (operand : Typed) (target : Ty) : Type 0 where
  pub becomes : CanBecome operand.type target
  pub takes : TakesOwn shared asked (record { type = target; many = operand.many })

-- what a test doesn't keep back
unless_kept : {A : Type 0} (test : Bool) (found : Option A) (x : A) → cond test None found ≡ Some x → (test ≡ false) × (found ≡ Some x)
unless_kept true found x h = cc
unless_kept false found x h = (refl, h)

where_some : {A : Type 0} (test : Bool) (x y : A) → cond test (Some x) None ≡ Some y → (test ≡ true) × (x ≡ y)
where_some true x y h = (refl, cc)
where_some false x y h = cc

one_single : (one many : Bool) → (one && many) ≡ false → one ≡ true → many ≡ false
one_single true many h one = h
one_single false many h one = cc

is_taken : (shared : Option Ty) (asked : Asked) (operand : Typed) (target : Ty) → ((type : Ty) → shared ≡ Some type → CanBecome operand.type type) → taken_by shared asked operand ≡ Some target → IsTaken shared asked operand target
is_taken (Some type) asked operand target becomes h =
    let parts = unless_kept (asked.one && operand.many) (Some type) target h in
    subst (IsTaken (Some type) asked operand) (some_same type target parts.1) (record {
      becomes = becomes type refl;
      takes = record {
        single = one_single asked.one operand.many parts.0;
        known = (becomes type refl).known;
        passes = λ none. cc;
        kept = λ none. cc;
        same = λ other e. some_same type other e;
      };
    })
is_taken None asked operand target becomes h =
    let parts = unless_kept (asked.one && operand.many) (taken_alone asked.ask (type_alone operand.type)) target h in
    elim (type_alone operand.type) as (λ o. type_alone operand.type ≡ o → taken_alone asked.ask o ≡ Some target → IsTaken None asked operand target) [
      | None ↦ λ alone h. cc
      | Some own ↦ λ alone h.
          let found = where_some (is_asked asked.ask own) (asked_target asked.ask own) target h in
          let casts = asked_casts asked.ask own (alone_known operand.type own alone) found.0 in
          subst (IsTaken None asked operand) found.1 (record {
            becomes = alone_casts operand.type own (asked_target asked.ask own) alone casts;
            takes = record {
              single = one_single asked.one operand.many parts.0;
              known = target_known own (asked_target asked.ask own) casts;
              passes = λ none. target_asked asked.ask own found.0;
              kept = λ none. target_kept asked.ask own;
              same = λ type e. cc;
            };
          })
    ] refl parts.1

one_apart : (one many : Bool) → (one ≡ true → many ≡ false) → (one && many) ≡ false
one_apart true many h = h refl
one_apart false many h = refl

taken_own : (shared : Option Ty) (asked : Asked) (operand : Typed) → TakesOwn shared asked operand → taken_by shared asked operand ≡ Some operand.type
taken_own (Some type) asked operand takes =
    ap (λ b. cond b None (Some type)) (one_apart asked.one operand.many takes.single) ∙ sym (ap Some (takes.same type refl))
taken_own None asked operand takes =
    ap (λ b. cond b None (taken_alone asked.ask (type_alone operand.type))) (one_apart asked.one operand.many takes.single)
    ∙ ap (taken_alone asked.ask) (alone_itself operand.type takes.known)
    ∙ ap (λ b. cond b (Some (asked_target asked.ask operand.type)) None) (takes.passes refl)
    ∙ ap Some (takes.kept refl)

-- ---- all operands

-- a column of an operand that is taken as it is
pub record IsAsked (shared : Option Ty) (asked : Asked) (operand : Typed) (column : List Val) : Type 0 where
  pub of : AreOf operand column
  pub one : asked.one ≡ true → length column ≡ 1
  pub passes : shared ≡ None → is_asked asked.ask operand.type ≡ true
  pub kept : shared ≡ None → asked_target asked.ask operand.type ≡ operand.type
  pub same : (type : Ty) → shared ≡ Some type → operand.type ≡ type

-- what holds of a signature, where there is one
abbrev pub OnSigned : Result Signature ErrorKind → (Signature → Type 0) → Type 0
OnSigned (Err kind) P = Unit {0}
OnSigned (Ok signature) P = P signature

-- which there is where a test of the op says so
pub where_signed : (test : Bool) (signature : Signature) (kind : ErrorKind) (P : Signature → Type 0) → P signature → OnSigned (cond test (Ok signature) (Err kind)) P
where_signed true signature kind P h = h
where_signed false signature kind P h = tt

-- what holds of the columns of operands of which this is asked, from a place on, where those that share a type have it
abbrev pub OnAsked : Ty → Signature → ℕ → List Typed → (List (List Val) → Type 0) → Type 0
OnAsked shared signature place [] P = P []
OnAsked shared signature place (t ∷ ts) P =
    (column : List Val) → IsAsked (shared_at signature.sharing shared place) (asked_at signature place) t column → OnAsked shared signature (suc place) ts (λ columns. P (column ∷ columns))

-- what holds of any columns holds of those
pub any_columns : (shared : Ty) (signature : Signature) (place : ℕ) (typed : List Typed) (P : List (List Val) → Type 0) → ((columns : List (List Val)) → P columns) → OnAsked shared signature place typed P
any_columns shared signature place [] P h = h []
any_columns shared signature place (t ∷ ts) P h = λ column of. any_columns shared signature (suc place) ts (λ columns. P (column ∷ columns)) (λ columns. h (column ∷ columns))

-- over columns of operands that are taken as they are, the kernel gives values of the own type
abbrev pub KernelGives : Op → Type 0
KernelGives op = (registry : Registry) (frame : Frame) (rows : List ℕ) (shared : Ty) (typed : List Typed) → OnSigned (signature op (length typed)) (λ signature.
    OnAsked shared signature 0 typed (λ columns. Meets (AreOf (own_over signature typed)) (kernel registry frame rows op (types_of typed) (own_over signature typed).type columns)))

record AreTaken (shared : Ty) (signature : Signature) (place : ℕ) (typed : List Typed) (targets : List Ty) : Type 1 where
  pub becomes : (own : Ty) → AllBecome own (types_of typed) targets
  pub again : taken_from shared signature place (typed_to typed targets) ≡ Some targets
  pub twice : typed_to (typed_to typed targets) targets ≡ typed_to typed targets
  pub types : types_of (typed_to typed targets) ≡ targets
  pub as_many : length (typed_to typed targets) ≡ length typed
  pub first_known : is_known (first_of (typed_to typed targets)).type ≡ true
  pub same : SharedFrom shared signature.sharing place (typed_to typed targets)
  pub on : (P : List (List Val) → Type 0) → OnAsked shared signature place (typed_to typed targets) P → OnColumns (typed_to typed targets) P

before_parts : (first : Option Ty) (rest : Option (List Ty)) (types : List Ty) → type_before first rest ≡ Some types → (type : Ty) × (others : List Ty) × (first ≡ Some type) × (rest ≡ Some others) × ((type ∷ others) ≡ types)
before_parts None rest types h = cc
before_parts (Some type) None types h = cc
before_parts (Some type) (Some others) types h = (type, others, refl, refl, cc)

are_taken : (shared : Ty) (signature : Signature) (place : ℕ) (typed : List Typed) (targets : List Ty) → SharesFrom shared signature.sharing place typed → taken_from shared signature place typed ≡ Some targets → AreTaken shared signature place typed targets
are_taken shared signature place [] targets shares h =
    let e : [] ≡ targets = cc in
    subst (AreTaken shared signature place []) e (record { becomes = λ own. tt; again = refl; twice = refl; types = refl; as_many = refl; first_known = refl; same = tt; on = λ P h. h })
are_taken shared signature place (t ∷ ts) targets shares h =
    let with = shared_at signature.sharing shared place in
    let asked = asked_at signature place in
    let p = before_parts (taken_by with asked t) (taken_from shared signature (suc place) ts) targets h in
    let here = is_taken with asked t p.0 shares.0 p.2 in
    let rest = are_taken shared signature (suc place) ts p.1 shares.1 p.3 in
    let own : Typed = record { type = p.0; many = t.many } in
    subst (AreTaken shared signature place (t ∷ ts)) p.4 (record {
      becomes = λ own. (makes here.becomes, rest.becomes own);
      again = ap (λ o. type_before o (taken_from shared signature (suc place) (typed_to ts p.1))) (taken_own with asked own here.takes) ∙ ap (type_before (Some p.0)) rest.again;
      twice = ap (λ l. own ∷ l) rest.twice;
      types = ap (λ l. p.0 ∷ l) rest.types;
      as_many = ap suc rest.as_many;
      first_known = here.takes.known;
      same = (here.takes.same, rest.same);
      on = λ P each column of. rest.on (λ columns. P (column ∷ columns)) (each column (record { of = of; one = λ one. of.single (here.takes.single one); passes = here.takes.passes; kept = here.takes.kept; same = here.takes.same }));
    })

-- ---- the ruling

sum_known : (type : Ty) → is_known type ≡ true → is_known (sum_type type) ≡ true
sum_known Truth k = refl
sum_known (Integer signed bits) k = elim (nat_lt bits 32) as (λ b. is_known (cond b (Integer true 64) (Integer signed bits)) ≡ true) [ true ↦ refl | false ↦ refl ]
sum_known _ k = k

own_known : (own : OwnType) (type : Ty) → is_known type ≡ true → is_known (own_type own type) ≡ true
own_known First type k = k
own_known Item (ListType item) k = k
own_known Item _ k = k
own_known ListOf type k = k
own_known Count type k = refl
own_known Total type k = sum_known type k
own_known Rows type k = refl
own_known Truths type k = refl

-- what a signature says, where it says something
pub record IsSigned (found : Result Signature ErrorKind) (typed : List Typed) (ruling : Ruling) : Type 1 where
  pub signature : Signature
  pub found_is : found ≡ Ok signature
  pub becomes : AllBecome ruling.own.type (types_of typed) ruling.operands
  pub stays : signed found (typed_to typed ruling.operands) ≡ Ok ruling
  pub types : types_of (typed_to typed ruling.operands) ≡ ruling.operands
  pub as_many : length (typed_to typed ruling.operands) ≡ length typed
  pub own : own_over signature (typed_to typed ruling.operands) ≡ ruling.own
  pub known : is_known ruling.own.type ≡ true
  pub shared : Ty
  pub on : (P : List (List Val) → Type 0) → OnAsked shared signature 0 (typed_to typed ruling.operands) P → OnColumns (typed_to typed ruling.operands) P

taken_signed : (signature : Signature) (typed : List Typed) (shared : Ty) (found : Option (List Ty)) (ruling : Ruling) → shared_type signature.sharing typed ≡ Ok shared → taken_from shared signature 0 typed ≡ found → signed_to signature typed found ≡ Ok ruling → IsSigned (Ok signature) typed ruling
taken_signed signature typed shared None ruling shares taken h = cc
taken_signed signature typed shared (Some targets) ruling shares taken h =
    let all = are_taken shared signature 0 typed targets (shares_type signature.sharing typed shared shares) taken in
    let own = typed_to typed targets in
    subst (IsSigned (Ok signature) typed) (ok_same (signed_to signature typed (Some targets)) (record { operands = targets; own = own_over signature own }) ruling refl h) (record {
      signature = signature;
      found_is = refl;
      becomes = all.becomes (own_over signature own).type;
      stays = ap (signed_sharing signature own) (shared_again signature.sharing typed own shared all.as_many shares all.same) ∙ ap (signed_to signature own) all.again ∙ ap (λ l. Ok (record { operands = targets; own = own_over signature l })) all.twice;
      types = all.types;
      as_many = all.as_many;
      own = refl;
      known = own_known signature.own (first_of own).type all.first_known;
      shared = shared;
      on = all.on;
    })

pub is_signed : (found : Result Signature ErrorKind) (typed : List Typed) (ruling : Ruling) → signed found typed ≡ Ok ruling → IsSigned found typed ruling
is_signed (Err kind) typed ruling h = cc
is_signed (Ok signature) typed ruling h =
    elim (shared_type signature.sharing typed) as (λ r. shared_type signature.sharing typed ≡ r → signed_sharing signature typed r ≡ Ok ruling → IsSigned (Ok signature) typed ruling) [
      | Err kind ↦ λ shares h. cc
      | Ok shared ↦ λ shares h. taken_signed signature typed shared (taken_from shared signature 0 typed) ruling shares refl h
    ] refl h
