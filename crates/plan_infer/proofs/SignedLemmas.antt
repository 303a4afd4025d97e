-- Kinds that go by a signature: what is found of their inputs one by one, and the names of their nodes.
use Rattle.std.proofs.Common.{◌≡◌, ◌≢◌, ◌⊎◌, inl, inr, ℕ, zero, suc, ◌<◌, ◌≤◌, ◌==◌, ◌||◌, false, List, [], ◌∷◌, ◌++◌, length, map, drop, get_or, Option, Some, None, Result, Ok, Err, slice_get, refl, sym, ap, ◌∙◌, subst, arith, ⊎_elim}
use Rattle.std.specs.List.{AllByRecursion}
use Rattle.std.proofs.lemmas.List.{append-nil, append_assoc, length-map}
use Rattle.plan_types.proofs.ListLemmas.{drop_item}
use Rattle.plan_types.specs.Types.{Ty, NullType, ty}
use Rattle.plan_types.specs.Schemas.{Columns}
use Rattle.plan_types.specs.Errors.{IsMemoryOr, IsRefusal, no_room, broken}
use Rattle.plan_types.specs.CommonTypes.{common_type}
use Rattle.plan_types.specs.declared.error.ErrorKind.{ErrorKind}
use Rattle.plan_types.specs.declared.error.ErrorKind.TheVariants.{InvalidOperation, SchemaMismatch}
use Rattle.plan_types.specs.declared.error.PlanError.{PlanError}
use Rattle.plan_types.specs.declared.dtype.DataType.{DataType}
use Rattle.plan_dsl.specs.declared.signature.Many.{Many}
use Rattle.plan_dsl.specs.declared.signature.Many.TheVariants.{Never, Always, AsFirst, WhereAny}
use Rattle.plan_dsl.specs.declared.signature.Signature.{Signature}
use Rattle.plan_dsl.specs.Ops.{Op}
use Rattle.plan_dsl.specs.Registry.{Registry}
use Rattle.plan_dsl.specs.Names.{Label, first_label, op_label}
use Rattle.plan_dsl.specs.Signatures.{asked_at, own_type, signature}
use Rattle.plan_dsl.specs.Typing.{Typed, first_of, many_of, own_over, rule, shared_at, shared_type, signed, signed_sharing, signed_to, some_many, taken_by, taken_from, type_before, typed_to, types_of}
use Rattle.plan_dsl.proofs.SignatureLemmas.{is_signed}
use Rattle.plan_infer.specs.Operands.{common_of_both, common_with}
use Rattle.plan_infer.proofs.TypingLemmas.{refused_so}
use Rattle.plan_arena.specs.declared.arena.Node.{Node}
use Rattle.plan_arena.specs.declared.aexpr.AExpr.{AExpr}
use Rattle.plan_arena.specs.declared.aexpr.AExpr.TheVariants.{Column, Literal, BinaryExpr, Cast, Len, Alias, Function}
use Rattle.plan_arena.specs.Layers.{Layer, layer, op_of, inputs_of}
use Rattle.plan_arena.specs.Items.{expression_layer, numbers}
use Rattle.plan_infer.specs.declared.type_table.Inferred.{Inferred}
use Rattle.plan_infer.specs.declared.type_table.TypeTable.{TypeTable}
use Rattle.plan_infer.specs.KeptTypes.{AreOperands, IsKept, IsNamedBy, KeepsEntry, Says, by_first, by_itself, name_at, named_by, typed_by, typed_of, typings_at}

-- ---- inputs one by one

pub typings_length : (table : TypeTable) (ns : List Node) → length (typings_at table (numbers ns)) ≡ length ns
typings_length table [] = refl
typings_length table (n ∷ ns) = ap suc (typings_length table ns)

-- the typing at a place is that of the entry there
pub place_typed : (table : TypeTable) (ns : List Node) (i : ℕ) (n : Node) (own : Inferred) → i < length ns → KeepsEntry table (get_or ns i n).0 own → typed_of own ≡ get_or (typings_at table (numbers ns)) i (typed_of own)
place_typed table [] i n own lt k = absurd (omega (arith, lt))
place_typed table (m ∷ ns) zero n own lt k = sym (ap typed_by k.1)
place_typed table (m ∷ ns) (suc i) n own lt k = place_typed table ns i n own (omega (arith, lt)) k

-- so what is left from a place on begins with it
pub typings_left : (table : TypeTable) (ns : List Node) (i k : ℕ) (n : Node) (own : Inferred) → i < length ns → KeepsEntry table (get_or ns i n).0 own → k ≡ suc i → drop i (typings_at table (numbers ns)) ≡ typed_of own ∷ drop k (typings_at table (numbers ns))
typings_left table ns i k n own lt keeps next =
    drop_item (typings_at table (numbers ns)) i k (typed_of own) (omega (arith, lt, typings_length table ns)) (place_typed table ns i n own lt keeps) next

pub one_typing : (table : TypeTable) (ns : List Node) (d : Node) (own : Inferred) → length ns ≡ 1 → KeepsEntry table (get_or ns 0 d).0 own → typings_at table (numbers ns) ≡ typed_of own ∷ []
one_typing table (n ∷ []) d own one k = ap (λ o. typed_by o ∷ []) k.1
one_typing table [] d own one k = absurd (omega (arith, one))
one_typing table (n ∷ m ∷ ns) d own one k = absurd (omega (arith, one))

pub two_typings : (table : TypeTable) (ns : List Node) (d : Node) (left right : Inferred) → length ns ≡ 2 → KeepsEntry table (get_or ns 0 d).0 left → KeepsEntry table (get_or ns 1 d).0 right → typings_at table (numbers ns) ≡ typed_of left ∷ typed_of right ∷ []
two_typings table [] d left right two k l = absurd (omega (arith, two))
two_typings table (n ∷ ns) d left right two k l =
    ap (λ o. typed_by o ∷ typings_at table (numbers ns)) k.1 ∙ ap (λ typed. typed_of left ∷ typed) (one_typing table ns d right (omega (arith, two)) l)

pub drop_all : {A : Type 0} (xs : List A) (i : ℕ) → i ≡ length xs → drop i xs ≡ []
drop_all [] zero h = refl
drop_all [] (suc i) h = refl
drop_all (x ∷ xs) zero h = absurd (omega (arith, h))
drop_all (x ∷ xs) (suc i) h = drop_all xs i (omega (arith, h))

pub none_left : (table : TypeTable) (ns : List Node) (i : ℕ) → i ≡ length ns → drop i (typings_at table (numbers ns)) ≡ []
none_left table ns i whole = drop_all (typings_at table (numbers ns)) i (whole ∙ sym (typings_length table ns))

pub some_there : {A : Type 0} (xs : List A) → (length xs == 0) ≡ false → 0 < length xs
some_there [] h = cc
some_there (x ∷ xs) h = omega arith

pub or_other : (kind : ErrorKind) (P Q : Type 0) (error : PlanError) → (P → Q) → IsMemoryOr kind P error → IsMemoryOr kind Q error
or_other kind P Q error so b = ⊎_elim (λ e. inl e) (λ p. inr (p.0, so p.1)) b

-- the first of two names a node over them
pub first_named : (table : TypeTable) (ns : List Node) (d : Node) (own : Inferred) → length ns ≡ 2 → KeepsEntry table (get_or ns 0 d).0 own → own.name.0 ≡ name_at table 0 (numbers ns)
first_named table [] d own two k = absurd (omega (arith, two))
first_named table (n ∷ ns) d own two k = sym (ap (named_by 0) k.1)

-- ---- the types to which they are taken

-- types in front of those of the others
abbrev pub types_before : List Ty → Option (List Ty) → Option (List Ty)
types_before done None = None
types_before done (Some types) = Some (done ++ types)

before_more : (done : List Ty) (target : Ty) (rest : Option (List Ty)) → types_before done (type_before (Some target) rest) ≡ types_before (done ++ target ∷ []) rest
before_more done target None = refl
before_more done target (Some types) = ap Some (sym (append_assoc done (target ∷ []) types))

module _ (shared : Ty) (s : Signature) (all : List Typed) (done : List Ty) (i k : ℕ) (t : Typed) (before : taken_from shared s 0 all ≡ types_before done (taken_from shared s i (drop i all))) (next : k ≡ suc i) (left : drop i all ≡ t ∷ drop k all) where
  taken_here : (found : Option Ty) → taken_by (shared_at s.sharing shared i) (asked_at s i) t ≡ found → taken_from shared s 0 all ≡ types_before done (type_before found (taken_from shared s (suc i) (drop k all)))
  taken_here found is = before ∙ ap (λ l. types_before done (taken_from shared s i l)) left ∙ ap (λ o. types_before done (type_before o (taken_from shared s (suc i) (drop k all)))) is

  pub taken_more : (target : Ty) → taken_by (shared_at s.sharing shared i) (asked_at s i) t ≡ Some target → taken_from shared s 0 all ≡ types_before (done ++ target ∷ []) (taken_from shared s k (drop k all))
  taken_more target is =
      taken_here (Some target) is ∙ before_more done target (taken_from shared s (suc i) (drop k all)) ∙ ap (λ m. types_before (done ++ target ∷ []) (taken_from shared s m (drop k all))) (sym next)

  pub taken_none : taken_by (shared_at s.sharing shared i) (asked_at s i) t ≡ None → taken_from shared s 0 all ≡ None
  taken_none is = taken_here None is

pub taken_whole : (shared : Ty) (s : Signature) (all : List Typed) (done : List Ty) (i : ℕ) → taken_from shared s 0 all ≡ types_before done (taken_from shared s i (drop i all)) → drop i all ≡ [] → taken_from shared s 0 all ≡ Some done
taken_whole shared s all done i before none = before ∙ ap (λ l. types_before done (taken_from shared s i l)) none ∙ ap Some (append-nil done)

-- ---- the type that they share

-- the typing at a place is there
pub typing_there : (table : TypeTable) (ns : List Node) (i : ℕ) (n : Node) (own : Inferred) → i < length ns → KeepsEntry table (get_or ns i n).0 own → slice_get (typings_at table (numbers ns)) i ≡ Some (typed_of own)
typing_there table [] i n own lt k = absurd (omega (arith, lt))
typing_there table (m ∷ ns) zero n own lt k = ap (λ o. Some (typed_by o)) k.1
typing_there table (m ∷ ns) (suc i) n own lt k = typing_there table ns i n own (omega (arith, lt)) k

pub both_there : (typed : List Typed) (place : ℕ) (first other : Typed) → slice_get typed 0 ≡ Some first → slice_get typed place ≡ Some other → common_with place typed ≡ common_type first.type other.type
both_there typed place first other f o = ap (λ t. common_of_both t (slice_get typed place)) f ∙ ap (common_of_both (Some first)) o

none_there : {A : Type 0} (xs : List A) (i : ℕ) → length xs ≤ i → slice_get xs i ≡ None
none_there [] i h = refl
none_there (x ∷ xs) zero h = absurd (omega (arith, h))
none_there (x ∷ xs) (suc i) h = none_there xs i (omega (arith, h))

no_other : (first : Option Typed) → common_of_both first None ≡ Err SchemaMismatch
no_other None = refl
no_other (Some first) = refl

pub none_common : (table : TypeTable) (ns : List Node) (place : ℕ) → length ns ≤ place → common_with place (typings_at table (numbers ns)) ≡ Err SchemaMismatch
none_common table ns place few =
    let typed = typings_at table (numbers ns) in
    ap (common_of_both (slice_get typed 0)) (none_there typed place (omega (arith, few, typings_length table ns))) ∙ no_other (slice_get typed 0)

-- ---- what a signature says of them

many_taken : (typed : List Typed) (targets : List Ty) → length (typed_to typed targets) ≡ length typed → some_many (typed_to typed targets) ≡ some_many typed
many_taken [] targets h = refl
many_taken (t ∷ ts) [] h = absurd (omega (arith, h))
many_taken (t ∷ ts) (target ∷ targets) h = ap (λ b. t.many || b) (many_taken ts targets (omega (arith, h)))

many_of_taken : (many : Many) (typed : List Typed) (targets : List Ty) → length (typed_to typed targets) ≡ length typed → many_of many (typed_to typed targets) ≡ many_of many typed
many_of_taken Never typed targets h = refl
many_of_taken Always typed targets h = refl
many_of_taken AsFirst [] targets h = refl
many_of_taken AsFirst (t ∷ ts) [] h = absurd (omega (arith, h))
many_of_taken AsFirst (t ∷ ts) (target ∷ targets) h = refl
many_of_taken WhereAny typed targets h = many_taken typed targets h

first_taken : (typed : List Typed) (targets : List Ty) → types_of (typed_to typed targets) ≡ targets → (first_of (typed_to typed targets)).type ≡ get_or targets 0 NullType
first_taken [] [] h = refl
first_taken (t ∷ ts) [] h = refl
first_taken (t ∷ ts) (target ∷ targets) h = refl
first_taken [] (target ∷ targets) h = cc

-- it says this of typed operands where they are taken so
signed_so : (found : Result Signature ErrorKind) (s : Signature) (typed : List Typed) (shared : Ty) (taken : Option (List Ty)) → found ≡ Ok s → shared_type s.sharing typed ≡ Ok shared → taken_from shared s 0 typed ≡ taken → signed found typed ≡ signed_to s typed taken
signed_so found s typed shared taken is shares takes =
    ap (λ f. signed f typed) is ∙ ap (signed_sharing s typed) shares ∙ ap (signed_to s typed) takes

pub signed_says : (found : Result Signature ErrorKind) (s : Signature) (typed : List Typed) (shared : Ty) (targets : List Ty) (own : Inferred) → found ≡ Ok s → shared_type s.sharing typed ≡ Ok shared → taken_from shared s 0 typed ≡ Some targets → ty own.dtype ≡ own_type s.own (get_or targets 0 NullType) → own.many ≡ many_of s.many typed → AreOperands (map ty own.operands) (types_of typed) targets → Says (signed found typed) typed own
signed_says found s typed shared targets own is shares taken type many operands =
    let own_typing = own_over s (typed_to typed targets) in
    let rules = signed_so found s typed shared (Some targets) is shares taken in
    let all = is_signed found typed (record { operands = targets; own = own_typing }) rules in
    record {
      ruling = record { operands = targets; own = own_typing };
      rules = rules;
      is = λ i. record { type = (ap (own_type s.own) (first_taken typed targets all.types) ∙ sym type) i; many = (many_of_taken s.many typed targets all.as_many ∙ sym many) i };
      operands = operands;
    }

-- as many as there are inputs
pub as_many_targets : (s : Signature) (table : TypeTable) (ns : List Node) (shared : Ty) (targets : List DataType) → shared_type s.sharing (typings_at table (numbers ns)) ≡ Ok shared → taken_from shared s 0 (typings_at table (numbers ns)) ≡ Some (map ty targets) → length targets ≡ length ns
as_many_targets s table ns shared targets shares taken =
    let typed = typings_at table (numbers ns) in
    let types = map ty targets in
    let all = is_signed (Ok s) typed (record { operands = types; own = own_over s (typed_to typed types) }) (signed_so (Ok s) s typed shared (Some types) refl shares taken) in
    sym (length-map targets ty) ∙ sym (ap length all.types) ∙ length-map (typed_to typed types) _ ∙ all.as_many ∙ typings_length table ns

pub signed_refused : (found : Result Signature ErrorKind) (s : Signature) (typed : List Typed) (shared : Ty) (error : PlanError) → found ≡ Ok s → shared_type s.sharing typed ≡ Ok shared → IsMemoryOr InvalidOperation (taken_from shared s 0 typed ≡ None) error → IsRefusal (signed found typed) error
signed_refused found s typed shared error is shares b =
    ⊎_elim (λ e. no_room e) (λ p. broken InvalidOperation p.0 (signed_so found s typed shared None is shares p.1)) b

-- operands without a common type
pub shared_refused : (found : Result Signature ErrorKind) (s : Signature) (typed : List Typed) (error : PlanError) → found ≡ Ok s → IsRefusal (shared_type s.sharing typed) error → IsRefusal (signed found typed) error
shared_refused found s typed error is refused =
    refused_so (shared_type s.sharing typed) (signed found typed) error (λ kind e. ap (λ f. signed f typed) is ∙ ap (signed_sharing s typed) e) refused

-- ---- items

-- what holds of an item's op over these typings
pub over_item : (P : Op → List Typed → Type 0) (table : TypeTable) (l : Layer Op) (op : Op) (ms ns : List ℕ) → l ≡ layer op ms → ns ≡ inputs_of l → P op (typings_at table ms) → P (op_of l) (typings_at table ns)
over_item P table l op ms ns is listed p =
    subst (λ o. P o (typings_at table ns)) (sym (ap op_of is)) (subst (λ ks. P op (typings_at table ks)) (sym (listed ∙ ap inputs_of is)) p)

-- no item of these, whose kinds have clauses of their own
pub record IsSignedItem (item : AExpr) : Type 0 where
  pub no_column : (name : _) → item ≢ Column name
  pub no_literal : (value : _) → item ≢ Literal value
  pub no_operator : (left : _) (operator : _) (right : _) → item ≢ BinaryExpr left operator right
  pub no_cast : (expr : _) (dtype : _) (options : _) → item ≢ Cast expr dtype options
  pub no_alias : (expr : _) (name : _) → item ≢ Alias expr name
  pub no_function : (input : _) (function : _) → item ≢ Function input function

-- any other goes by its signature
pub by_signature : (item : AExpr) → IsSignedItem item → (registry : Registry) (schema : Columns) (typed : List Typed) → rule registry schema (op_of (expression_layer item)) typed ≡ signed (signature (op_of (expression_layer item)) (length typed)) typed
by_signature (Column name) is registry schema typed = absurd (is.no_column name refl)
by_signature (Literal value) is registry schema typed = absurd (is.no_literal value refl)
by_signature (BinaryExpr left operator right) is registry schema typed = absurd (is.no_operator left operator right refl)
by_signature (Cast expr dtype options) is registry schema typed = absurd (is.no_cast expr dtype options refl)
by_signature (Alias expr name) is registry schema typed = absurd (is.no_alias expr name refl)
by_signature (Function input function) is registry schema typed = absurd (is.no_function input function refl)
by_signature _ is registry schema typed = refl

-- and has the name of its first input, or one of its own where it has none
name_of_first : (item : AExpr) → IsSignedItem item → ((inputs_of (expression_layer item) ≡ []) × ((names : List Label) → op_label (op_of (expression_layer item)) names ≡ op_label (op_of (expression_layer item)) []))
    ⊎ ((m : ℕ) × (rest : List ℕ) × (inputs_of (expression_layer item) ≡ m ∷ rest) × ((names : List Label) → op_label (op_of (expression_layer item)) names ≡ first_label names))
name_of_first (Column name) is = absurd (is.no_column name refl)
name_of_first (Literal value) is = absurd (is.no_literal value refl)
name_of_first (BinaryExpr left operator right) is = absurd (is.no_operator left operator right refl)
name_of_first (Cast expr dtype options) is = absurd (is.no_cast expr dtype options refl)
name_of_first (Alias expr name) is = absurd (is.no_alias expr name refl)
name_of_first (Function input function) is = absurd (is.no_function input function refl)
name_of_first Len is = inl (refl, λ names. refl)
name_of_first _ is = inr (_, _, refl, λ names. refl)

-- what its rule says of inputs is what its signature says
pub item_signed : (item : AExpr) → IsSignedItem item → (registry : Registry) (schema : Columns) (table : TypeTable) (ns : List ℕ) (found : Result Signature ErrorKind) → ns ≡ inputs_of (expression_layer item) → found ≡ signature (op_of (expression_layer item)) (length (inputs_of (expression_layer item))) → signed found (typings_at table ns) ≡ rule registry schema (op_of (expression_layer item)) (typings_at table ns)
item_signed item is registry schema table ns found listed at =
    ap (λ f. signed f (typings_at table ns)) (at ∙ ap (signature (op_of (expression_layer item))) (ap length (sym listed) ∙ sym (length-map ns _)))
    ∙ sym (by_signature item is registry schema (typings_at table ns))

-- a node over inputs is named by the first
pub named_over : (table : TypeTable) (op : Op) (n k m : ℕ) (rest ns : List ℕ) (name : ℕ) → ns ≡ m ∷ rest → AllByRecursion (IsKept table) ns → name ≡ name_at table k ns → ((names : List Label) → op_label op names ≡ first_label names) → IsNamedBy table op n ns name
named_over table op n k m rest ns name is all named first =
    let kept = (subst (AllByRecursion (IsKept table)) is all).0 in
    by_first m rest kept.own is kept.keeps (named ∙ ap (name_at table k) is ∙ ap (named_by k) kept.keeps.1) first

pub named_signed : (item : AExpr) (table : TypeTable) (n name : ℕ) (ns : List ℕ) → IsSignedItem item → ns ≡ inputs_of (expression_layer item) → AllByRecursion (IsKept table) ns → name ≡ name_at table n ns → IsNamedBy table (op_of (expression_layer item)) n ns name
named_signed item table n name ns is listed all named = ⊎_elim
    (λ own. by_itself (named ∙ ap (name_at table n) (listed ∙ own.0)) (λ names over. own.1 names))
    (λ first. named_over table (op_of (expression_layer item)) n n first.0 first.1 ns name (listed ∙ first.2) all named first.3)
    (name_of_first item is)
