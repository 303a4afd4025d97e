-- A horizontal and the chain for which it is written out: they are typed alike, and mean the same.
use Rattle.std.proofs.Common.{◌≡◌, ℕ, zero, suc, Bool, true, false, ◌&&◌, ◌||◌, cond, List, [], ◌∷◌, length, Option, Some, None, Result, Ok, Err, IsTrue, int_lt, refl, sym, ap, ◌∙◌, subst}
use Rattle.std.specs.Prelude.{ℤ, pos}
use Rattle.std.specs.List.{AllByRecursion}
use Rattle.std.proofs.lemmas.Bool.{and_parts}
use Rattle.plan_types.specs.Types.{Ty, NullType, Truth, Integer, ListType, StructType, Untyped, is_integer, is_known, same_type}
use Rattle.plan_types.specs.Schemas.{Columns}
use Rattle.plan_types.specs.Values.{Val, TruthValue, IntValue, all_fit}
use Rattle.plan_types.specs.Casts.{Gives, can_cast}
use Rattle.plan_types.specs.CommonTypes.{first_with, signed_types, unsigned_types, types_alone, literal_type, least_signed, least_unsigned, own_type, type_alone, type_beside}
use Rattle.plan_types.specs.Frames.{Frame, IsFrame, Row}
use Rattle.plan_types.specs.Outcomes.{Outcome, Done, Fault, Stuck, Meets, then_do}
use Rattle.plan_types.specs.declared.dtype.CastOptions.TheVariants.{NonStrict}
use Rattle.plan_types.specs.declared.error.ErrorKind.{ErrorKind}
use Rattle.plan_types.specs.declared.error.ErrorKind.TheVariants.{InvalidOperation}
use Rattle.plan_types.proofs.CommonLemmas.{alone_same, literal_has}
use Rattle.plan_dsl.specs.declared.function_expr.FunctionExpr.{FunctionExpr}
use Rattle.plan_dsl.specs.declared.function_expr.FunctionExpr.TheVariants.{AllHorizontal, AnyHorizontal}
use Rattle.plan_dsl.specs.declared.operator.Operator.{Operator}
use Rattle.plan_dsl.specs.declared.operator.Operator.TheVariants.{LogicalAnd, LogicalOr}
use Rattle.plan_dsl.specs.declared.signature.Ask.TheVariants.{Boolean, Castable}
use Rattle.plan_dsl.specs.declared.signature.Many.TheVariants.{WhereAny}
use Rattle.plan_dsl.specs.declared.signature.OwnType.TheVariants.{Truths}
use Rattle.plan_dsl.specs.declared.signature.Sharing.TheVariants.{Alone}
use Rattle.plan_dsl.specs.declared.signature.Signature.{Signature}
use Rattle.plan_dsl.specs.Aliases.{chain, chained}
use Rattle.plan_dsl.specs.FunctionValues.{all_true, any_true, function_values}
use Rattle.plan_dsl.specs.HorizontalLaws.{HorizontalsAreTheirChains, IsItsChain, horizontal_chain, horizontal_node}
use Rattle.plan_dsl.specs.Kernels.{Meaning, at_each, at_length, cast_column, cast_meaning, common_length, given, kernel, operator_values, stretched}
use Rattle.plan_dsl.specs.Laws.{AreOf}
use Rattle.plan_dsl.specs.Meaning.{meaning, meaning_all, node_meaning, ruled_meaning, taken_to}
use Rattle.plan_dsl.specs.Names.{label_of}
use Rattle.plan_dsl.specs.OperatorTypes.{Taken, is_truth_or_null, pair_to, pair_types, truth_types, with_types}
use Rattle.plan_dsl.specs.Operators.{both_true, either_true, operator_value}
use Rattle.plan_dsl.specs.Ops.{Op, BinaryOp, CastOp, FunctionOp, LiteralOp, Expression}
use Rattle.plan_dsl.specs.Registry.{Registry}
use Rattle.plan_dsl.specs.Rows.{by_row}
use Rattle.plan_dsl.specs.Signatures.{asked_at, asks, horizontal_ask, horizontal_signature}
use Rattle.plan_dsl.specs.Strictness.{CanBecome, cast_to}
use Rattle.plan_dsl.specs.Trees.{Trees, node, no_more, more}
use Rattle.plan_dsl.specs.Typing.{Typed, Ruling, cast_taken, function_rule, own_typed, rule, ruled_as, signed, signed_to, some_many, taken_alone, taken_by, taken_from, then_typed, type_before, typed_before, typed_to, types_of, typing, typing_all, typing_rule}
use Rattle.plan_dsl.proofs.AliasLemmas.{alias_means, chain_label}
use Rattle.plan_dsl.proofs.CastMeaningLemmas.{cast_own, column_by_column}
use Rattle.plan_dsl.proofs.ChainColumnLemmas.{IsFolded, all_folded, any_folded, over_nothing, over_one, over_two}
use Rattle.plan_dsl.proofs.ColumnLemmas.{become_fits}
use Rattle.plan_dsl.proofs.FitLemmas.{cast_means, meaning_has_type, meanings_have_types}
use Rattle.plan_dsl.proofs.GivenLemmas.{AllMean, given_meet}
use Rattle.plan_dsl.proofs.LiteralLemmas.{bare, under, child_is, literal_means, number_cast, number_node, own_number_cast}
use Rattle.plan_dsl.proofs.SignatureLemmas.{alone_casts}
use Rattle.plan_dsl.proofs.TypingLemmas.{by_children, by_no_children, ok_same, typed_parts}

-- ---- truth values and nulls

abbrev is_logic : Option Ty → Bool
is_logic None = false
is_logic (Some type) = is_truth_or_null type

-- whether an operand of the type may be a truth value
abbrev may_be_true : Ty → Bool
may_be_true type = is_logic (type_alone type)

either_logic : (b : Bool) (x y : Option Ty) → is_logic x ≡ false → is_logic y ≡ false → is_logic (cond b x y) ≡ false
either_logic true x y h k = h
either_logic false x y h k = k

no_truth : (type : Ty) → is_integer type ≡ true → is_truth_or_null type ≡ false
no_truth (Integer signed bits) h = refl
no_truth _ h = cc

first_logic : (types : List Ty) (number : ℤ) → AllByRecursion (λ type. is_integer type ≡ true) types → is_logic (first_with types number) ≡ false
first_logic [] number each = refl
first_logic (type ∷ types) number each = either_logic _ (Some type) (first_with types number) (no_truth type each.0) (first_logic types number each.1)

alone_logic : (number : ℤ) → is_logic (literal_type number) ≡ false
alone_logic number = first_logic types_alone number (refl, (refl, (refl, tt)))

signed_logic : (number : ℤ) → is_logic (least_signed number) ≡ false
signed_logic number = first_logic signed_types number (refl, (refl, (refl, (refl, (refl, tt)))))

unsigned_logic : (number : ℤ) → is_logic (least_unsigned number) ≡ false
unsigned_logic number = first_logic unsigned_types number (refl, (refl, (refl, (refl, tt))))

own_logic : (number : ℤ) (other : Ty) → is_logic (own_type number other) ≡ false
own_logic number (Integer true bits) = either_logic _ (Some (Integer true bits)) (least_signed number) refl (signed_logic number)
own_logic number (Integer false bits) =
    either_logic _ (Some (Integer false bits)) _ refl (either_logic (int_lt number (pos 0)) (least_signed number) (least_unsigned number) (signed_logic number) (unsigned_logic number))
own_logic number other = alone_logic number

beside_logic : (type other : Ty) → is_logic (type_beside type other) ≡ may_be_true type
beside_logic (Untyped number) other = own_logic number other ∙ sym (alone_logic number)
beside_logic type other = refl

false_true : false ≡ true → ⊥
false_true h = cc

-- such an operand becomes a truth value
logic_becomes : (type : Ty) → may_be_true type ≡ true → CanBecome type Truth
logic_becomes NullType h = alone_casts NullType NullType Truth refl refl
logic_becomes Truth h = alone_casts Truth Truth Truth refl refl
logic_becomes (ListType item) h = absurd (false_true (sym (either_logic (is_known (ListType item)) (Some (ListType item)) None refl refl) ∙ h))
logic_becomes (StructType fields) h = absurd (false_true (sym (either_logic (is_known (StructType fields)) (Some (StructType fields)) None refl refl) ∙ h))
logic_becomes (Untyped number) h = absurd (false_true (sym (alone_logic number) ∙ h))
logic_becomes _ h = cc

abbrev pub of_truth : Bool → Typed
of_truth many = record { type = Truth; many = many }

-- what a pair is taken to
abbrev where_truths : Bool → Result Taken ErrorKind
where_truths b = cond b (Ok (pair_to Truth Truth Truth)) (Err InvalidOperation)

found_truths : (left right : Option Ty) → with_types left right truth_types ≡ where_truths (is_logic left && is_logic right)
found_truths None right = refl
found_truths (Some left) None = elim (is_truth_or_null left) as (λ b. Err InvalidOperation ≡ where_truths (b && false)) [ true ↦ refl | false ↦ refl ]
found_truths (Some left) (Some right) = refl

pair_truths : (left right : Ty) → with_types (type_beside left right) (type_beside right left) truth_types ≡ where_truths (may_be_true left && may_be_true right)
pair_truths left right =
    found_truths (type_beside left right) (type_beside right left) ∙ (λ i. where_truths (beside_logic left right i && beside_logic right left i))

-- ---- the typing of the node

abbrev pub truths : List Typed → List Ty
truths [] = []
truths (t ∷ ts) = Truth ∷ truths ts

abbrev all_logic : List Typed → Bool
all_logic [] = true
all_logic (t ∷ ts) = may_be_true t.type && all_logic ts

abbrev asked_truths : ℕ → Signature
asked_truths count = record { first = asks (horizontal_ask count); second = asks Boolean; rest = asks Boolean; own = Truths; many = WhereAny; sharing = Alone }

asked_truth : (count place : ℕ) → asked_at (asked_truths (suc (suc count))) place ≡ asks Boolean
asked_truth count zero = refl
asked_truth count (suc zero) = refl
asked_truth count (suc (suc place)) = refl

one_before : (found : Option Ty) (b : Bool) (types : List Ty) → type_before (taken_alone Boolean found) (cond b (Some types) None) ≡ cond (is_logic found && b) (Some (Truth ∷ types)) None
one_before None b types = refl
one_before (Some type) true types = elim (is_truth_or_null type) as (λ c. type_before (cond c (Some Truth) None) (Some types) ≡ cond (c && true) (Some (Truth ∷ types)) None) [ true ↦ refl | false ↦ refl ]
one_before (Some type) false types = elim (is_truth_or_null type) as (λ c. type_before (cond c (Some Truth) None) None ≡ cond (c && false) (Some (Truth ∷ types)) None) [ true ↦ refl | false ↦ refl ]

taken_truths : (shared : Ty) (count place : ℕ) (ts : List Typed) → taken_from shared (asked_truths (suc (suc count))) place ts ≡ cond (all_logic ts) (Some (truths ts)) None
taken_truths shared count place [] = refl
taken_truths shared count place (t ∷ ts) =
    ap (λ asked. type_before (taken_by None asked t) (taken_from shared (asked_truths (suc (suc count))) (suc place) ts)) (asked_truth count place)
    ∙ ap (type_before (taken_alone Boolean (type_alone t.type))) (taken_truths shared count (suc place) ts)
    ∙ one_before (type_alone t.type) (all_logic ts) (truths ts)

still_many : (ts : List Typed) → some_many (typed_to ts (truths ts)) ≡ some_many ts
still_many [] = refl
still_many (t ∷ ts) = ap (λ b. t.many || b) (still_many ts)

abbrev ruling_over : List Typed → Ruling
ruling_over ts = record { operands = truths ts; own = of_truth (some_many ts) }

abbrev where_logic : Bool → List Typed → Result Ruling ErrorKind
where_logic b ts = cond b (Ok (ruling_over ts)) (Err InvalidOperation)

several_ruled : (f n : Typed) (ts : List Typed) → signed (horizontal_signature (length (f ∷ n ∷ ts))) (f ∷ n ∷ ts) ≡ where_logic (all_logic (f ∷ n ∷ ts)) (f ∷ n ∷ ts)
several_ruled f n ts =
    let all = f ∷ n ∷ ts in
    let signature = asked_truths (suc (suc (length ts))) in
    ap (signed_to signature all) (taken_truths NullType (length ts) 0 all)
    ∙ elim (all_logic all) as (λ b. signed_to signature all (cond b (Some (truths all)) None) ≡ where_logic b all) [ true ↦ ap (λ many. Ok (record { operands = truths all; own = of_truth many })) (still_many all) | false ↦ refl ]

-- what one alone is taken to
abbrev where_cast : Bool → Typed → Result Ruling ErrorKind
where_cast b f = cond b (Ok (record { operands = Truth ∷ []; own = of_truth f.many })) (Err InvalidOperation)

or_false : (b : Bool) → (b || false) ≡ b
or_false true = refl
or_false false = refl

abbrev can_be_true : Option Ty → Bool
can_be_true None = false
can_be_true (Some own) = can_cast own Truth

alone_ruled : (f : Typed) → signed (horizontal_signature 1) (f ∷ []) ≡ where_cast (can_be_true (type_alone f.type)) f
alone_ruled f = by_type (type_alone f.type) where
  by_type : (found : Option Ty) → signed_to (asked_truths 1) (f ∷ []) (type_before (taken_alone Castable found) (Some [])) ≡ where_cast (can_be_true found) f
  by_type None = refl
  by_type (Some own) =
      elim (can_cast own Truth) as (λ b. signed_to (asked_truths 1) (f ∷ []) (type_before (cond b (Some Truth) None) (Some [])) ≡ where_cast b f) [ true ↦ ap (λ many. Ok (record { operands = Truth ∷ []; own = of_truth many })) (or_false f.many) | false ↦ refl ]

-- ---- of each horizontal

-- a horizontal that is written out by the operator, over none as that literal
pub record IsChained (function : FunctionExpr) (operator : Operator) (nothing : Bool) : Type 0 where
  pub value : Row → Val
  pub merge : Val → Val → Val
  pub folded : IsFolded value merge nothing
  pub rules : (typed : List Typed) → function_rule function typed ≡ signed (horizontal_signature (length typed)) typed
  pub values : (types : List Ty) (columns : List (List Val)) → function_values function types columns ≡ by_row (λ row. Gives (value row)) columns
  pub pairs : pair_types operator ≡ truth_types
  pub merges : (from type : Ty) → operator_value operator from type ≡ merge

pub all_chained : IsChained AllHorizontal LogicalAnd true
all_chained = record { value = all_true; merge = both_true; folded = all_folded; rules = λ typed. refl; values = λ types columns. refl; pairs = refl; merges = λ from type. refl }

pub any_chained : IsChained AnyHorizontal LogicalOr false
any_chained = record { value = any_true; merge = either_true; folded = any_folded; rules = λ typed. refl; values = λ types columns. refl; pairs = refl; merges = λ from type. refl }

and_apart : (a b c : Bool) → (a && (b && c)) ≡ ((a && b) && c)
and_apart true b c = refl
and_apart false b c = refl

many_apart : (a b c : Bool) → ((a || (b || false)) || c) ≡ (a || (b || c))
many_apart true b c = refl
many_apart false true c = refl
many_apart false false c = refl

module _ (registry : Registry) (function : FunctionExpr) (operator : Operator) (nothing : Bool) (is : IsChained function operator nothing) where
  abbrev op : Op
  op = FunctionOp function []

  abbrev pair : Expression → Expression → Expression
  pair tree next = node (BinaryOp operator) (more tree (more next no_more))

  -- ---- what operands are taken to

  -- each operand of the node to truth values, where there are two or more
  pub node_takes : (schema : Columns) (f n : Typed) (ts : List Typed) (ruling : Ruling) → rule registry schema op (f ∷ n ∷ ts) ≡ Ok ruling → ruling.operands ≡ truths (f ∷ n ∷ ts)
  node_takes schema f n ts ruling h =
      by_test (all_logic (f ∷ n ∷ ts)) (sym (is.rules (f ∷ n ∷ ts) ∙ several_ruled f n ts) ∙ h) where
        by_test : (b : Bool) → where_logic b (f ∷ n ∷ ts) ≡ Ok ruling → ruling.operands ≡ truths (f ∷ n ∷ ts)
        by_test true h = ap (λ r. r.operands) (sym (ok_same (where_logic true (f ∷ n ∷ ts)) (ruling_over (f ∷ n ∷ ts)) ruling refl h))
        by_test false h = cc

  -- ---- the typing of the chain

  module _ (schema : Columns) where
    abbrev where_true : Bool → Bool → Result Typed ErrorKind
    where_true b many = cond b (Ok (of_truth many)) (Err InvalidOperation)

    pair_ruled : (f n : Typed) → ruled_as (with_types (type_beside f.type n.type) (type_beside n.type f.type) (pair_types operator)) (f.many || (n.many || false)) ≡ ruled_as (where_truths (may_be_true f.type && may_be_true n.type)) (f.many || (n.many || false))
    pair_ruled f n =
        let many = f.many || (n.many || false) in
        ap (λ take. ruled_as (with_types (type_beside f.type n.type) (type_beside n.type f.type) take) many) is.pairs ∙ ap (λ r. ruled_as r many) (pair_truths f.type n.type)

    -- both operands of a link are taken to truth values
    pub link_takes : (f n : Typed) (ruling : Ruling) → rule registry schema (BinaryOp operator) (f ∷ n ∷ []) ≡ Ok ruling → ruling ≡ record { operands = Truth ∷ Truth ∷ []; own = of_truth (f.many || (n.many || false)) }
    link_takes f n ruling h = by_test (may_be_true f.type && may_be_true n.type) (sym (pair_ruled f n) ∙ h) where
      by_test : (b : Bool) → ruled_as (where_truths b) (f.many || (n.many || false)) ≡ Ok ruling → ruling ≡ record { operands = Truth ∷ Truth ∷ []; own = of_truth (f.many || (n.many || false)) }
      by_test true h = sym (ok_same (ruled_as (where_truths true) (f.many || (n.many || false))) (record { operands = Truth ∷ Truth ∷ []; own = of_truth (f.many || (n.many || false)) }) ruling refl h)
      by_test false h = cc

    pair_typed : (tree next : Expression) (f n : Typed) → typing registry schema tree ≡ Ok f → typing registry schema next ≡ Ok n → typing registry schema (pair tree next) ≡ where_true (may_be_true f.type && may_be_true n.type) (f.many || (n.many || false))
    pair_typed tree next f n h k =
        (λ i. then_typed (typed_before (h i) (typed_before (k i) (Ok []))) (typing_rule registry schema (BinaryOp operator)))
        ∙ ap own_typed (pair_ruled f n)
        ∙ elim (may_be_true f.type && may_be_true n.type) as (λ b. own_typed (ruled_as (where_truths b) (f.many || (n.many || false))) ≡ where_true b (f.many || (n.many || false))) [ true ↦ refl | false ↦ refl ]

    -- what isn't typed in front makes the whole so
    chain_refused : (tree : Expression) (trees : Trees Op) (kind : ErrorKind) → typing registry schema tree ≡ Err kind → typing registry schema (chain operator tree trees) ≡ Err kind
    chain_refused tree no_more kind h = h
    chain_refused tree (more next rest) kind h =
        chain_refused (pair tree next) rest kind (ap (λ r. then_typed (typed_before r (typed_before (typing registry schema next) (Ok []))) (typing_rule registry schema (BinaryOp operator))) h)

    same_typed : (f : Typed) → f.type ≡ Truth → Ok f ≡ where_true true (f.many || false)
    same_typed f truth = λ i. Ok (record { type = truth i; many = sym (or_false f.many) i })

    -- two operands in front of others, where these are typed behind a truth value
    chain_step : (tree : Expression) (f : Typed) (next : Expression) (n : Typed) (rest : Trees Op) (ns : List Typed) → typing registry schema tree ≡ Ok f → typing registry schema next ≡ Ok n
        → (typing registry schema (pair tree next) ≡ Ok (of_truth (f.many || (n.many || false))) → typing registry schema (chain operator (pair tree next) rest) ≡ where_true (all_logic ns) ((f.many || (n.many || false)) || some_many ns))
        → typing registry schema (chain operator (pair tree next) rest) ≡ where_true (all_logic (f ∷ n ∷ ns)) (some_many (f ∷ n ∷ ns))
    chain_step tree f next n rest ns h first others =
        let many = f.many || (n.many || false) in
        (elim (may_be_true f.type && may_be_true n.type) as (λ b. typing registry schema (pair tree next) ≡ where_true b many → typing registry schema (chain operator (pair tree next) rest) ≡ where_true (b && all_logic ns) (f.many || (n.many || some_many ns))) [
          | true ↦ λ e. others e ∙ ap (where_true (all_logic ns)) (many_apart f.many n.many (some_many ns))
          | false ↦ λ e. chain_refused (pair tree next) rest InvalidOperation e
        ] (pair_typed tree next f n h first))
        ∙ ap (λ b. where_true b (some_many (f ∷ n ∷ ns))) (sym (and_apart (may_be_true f.type) (may_be_true n.type) (all_logic ns)))

    chain_from : (tree : Expression) (f : Typed) (trees : Trees Op) (ts : List Typed) → f.type ≡ Truth → typing registry schema tree ≡ Ok f → typing_all registry schema trees ≡ Ok ts → typing registry schema (chain operator tree trees) ≡ where_true (all_logic ts) (f.many || some_many ts)
    chain_from tree f no_more ts truth h k =
        by_no_children (λ ts. typing registry schema tree ≡ where_true (all_logic ts) (f.many || some_many ts)) ts k (h ∙ same_typed f truth)
    chain_from tree f (more next rest) ts truth h k =
        by_children (λ ts. typing registry schema (chain operator (pair tree next) rest) ≡ where_true (all_logic ts) (f.many || some_many ts)) _ _ ts k (λ n ns first others.
        chain_step tree f next n rest ns h first (λ e. chain_from (pair tree next) (of_truth (f.many || (n.many || false))) rest ns refl e others)
        ∙ ap (λ type. where_true (may_be_true type && all_logic (n ∷ ns)) (f.many || some_many (n ∷ ns))) truth)

    chain_two : (tree : Expression) (f : Typed) (next : Expression) (n : Typed) (rest : Trees Op) (ns : List Typed) → typing registry schema tree ≡ Ok f → typing registry schema next ≡ Ok n → typing_all registry schema rest ≡ Ok ns → typing registry schema (chain operator (pair tree next) rest) ≡ where_true (all_logic (f ∷ n ∷ ns)) (some_many (f ∷ n ∷ ns))
    chain_two tree f next n rest ns h first others =
        chain_step tree f next n rest ns h first (λ e. chain_from (pair tree next) (of_truth (f.many || (n.many || false))) rest ns refl e others)

    abbrev typed_node : Trees Op → Result Typed ErrorKind
    typed_node children = typing registry schema (node op children)

    node_typed : (children : Trees Op) (below : List Typed) → typing_all registry schema children ≡ Ok below → typed_node children ≡ own_typed (signed (horizontal_signature (length below)) below)
    node_typed children below h = ap (λ r. then_typed r (typing_rule registry schema op)) h ∙ ap own_typed (is.rules below)

    cast_typed : (tree : Expression) (f : Typed) → typing registry schema tree ≡ Ok f → typing registry schema (cast_to Truth tree) ≡ own_typed (where_cast (can_be_true (type_alone f.type)) f)
    cast_typed tree f h =
        ap (λ r. then_typed (typed_before r (Ok [])) (typing_rule registry schema (CastOp Truth NonStrict))) h ∙ by_type (type_alone f.type) where
          by_type : (found : Option Ty) → own_typed (ruled_as (cast_taken Truth found) f.many) ≡ own_typed (where_cast (can_be_true found) f)
          by_type None = refl
          by_type (Some own) =
              elim (can_cast own Truth) as (λ b. own_typed (ruled_as (cond b (Ok (record { operands = own ∷ []; type = Truth })) (Err InvalidOperation)) f.many) ≡ own_typed (where_cast b f)) [ true ↦ refl | false ↦ refl ]

    own_where : (b : Bool) (ts : List Typed) → own_typed (where_logic b ts) ≡ where_true b (some_many ts)
    own_where true ts = refl
    own_where false ts = refl

    -- where the operands are typed both have one typing, or are refused for one kind
    pub chain_typing : (children : Trees Op) (below : List Typed) → typing_all registry schema children ≡ Ok below → typing registry schema (chained operator nothing children) ≡ typed_node children
    chain_typing no_more below h =
        by_no_children (λ ts. typing registry schema (chained operator nothing no_more) ≡ own_typed (signed (horizontal_signature (length ts)) ts)) below h refl ∙ sym (node_typed no_more below h)
    chain_typing (more tree no_more) below h =
        by_children (λ ts. typing registry schema (cast_to Truth tree) ≡ own_typed (signed (horizontal_signature (length ts)) ts)) _ _ below h (λ t ts first others.
        by_no_children (λ ts. typing registry schema (cast_to Truth tree) ≡ own_typed (signed (horizontal_signature (length (t ∷ ts))) (t ∷ ts))) ts others (cast_typed tree t first ∙ ap own_typed (sym (alone_ruled t))))
        ∙ sym (node_typed (more tree no_more) below h)
    chain_typing (more tree (more next rest)) below h =
        by_children (λ ts. typing registry schema (chain operator (pair tree next) rest) ≡ own_typed (signed (horizontal_signature (length ts)) ts)) _ _ below h (λ f fs first others.
        by_children (λ ts. typing registry schema (chain operator (pair tree next) rest) ≡ own_typed (signed (horizontal_signature (length (f ∷ ts))) (f ∷ ts))) _ _ fs others (λ n ns second last.
        chain_two tree f next n rest ns first second last ∙ sym (own_where (all_logic (f ∷ n ∷ ns)) (f ∷ n ∷ ns)) ∙ ap own_typed (sym (several_ruled f n ns))))
        ∙ sym (node_typed (more tree (more next rest)) below h)

    -- what is typed has typed operands
    pub record ArePartsTyped (tree : Expression) (trees : Trees Op) : Type 0 where
      pub first : Typed
      pub first_typed : typing registry schema tree ≡ Ok first
      pub others : List Typed
      pub others_typed : typing_all registry schema trees ≡ Ok others

    in_front : (tree next : Expression) (rest : Trees Op) → ArePartsTyped (pair tree next) rest → ArePartsTyped tree (more next rest)
    in_front tree next rest parts =
        let p = typed_parts registry schema (BinaryOp operator) (more tree (more next no_more)) parts.first parts.first_typed in
        by_children (λ _. ArePartsTyped tree (more next rest)) _ _ p.below p.children_typed (λ f fs first others.
        by_children (λ _. ArePartsTyped tree (more next rest)) _ _ fs others (λ n ns second last.
        record { first = f; first_typed = first; others = n ∷ parts.others; others_typed = λ i. typed_before (second i) (parts.others_typed i) }))

    pub chain_parts : (tree : Expression) (trees : Trees Op) (typed : Typed) → typing registry schema (chain operator tree trees) ≡ Ok typed → ArePartsTyped tree trees
    chain_parts tree no_more typed h = record { first = typed; first_typed = h; others = []; others_typed = refl }
    chain_parts tree (more next rest) typed h = in_front tree next rest (chain_parts (pair tree next) rest typed h)

    pub operands_typed : (children : Trees Op) (typed : Typed) → typing registry schema (chained operator nothing children) ≡ Ok typed → (below : List Typed) × (typing_all registry schema children ≡ Ok below)
    operands_typed no_more typed h = ([], refl)
    operands_typed (more tree no_more) typed h =
        let p = typed_parts registry schema (CastOp Truth NonStrict) (more tree no_more) typed h in (p.below, p.children_typed)
    operands_typed (more tree (more next rest)) typed h =
        let p = chain_parts tree (more next rest) typed h in (p.first ∷ p.others, λ i. typed_before (p.first_typed i) (p.others_typed i))

  -- ---- what both mean on a frame

  module _ (frame : Frame) (of : IsFrame frame) where
    abbrev whole : List (List Val) → Outcome (List Val)
    whole columns = by_row (λ row. Gives (is.value row)) columns

    abbrev over : List Meaning → Meaning
    over operands rows = then_do (given operands rows) whole

    abbrev casts : List Typed → List Meaning → List Meaning
    casts typed ms = taken_to (types_of typed) (truths typed) ms

    casts_mean : (ts : List Typed) (ms : List Meaning) → all_logic ts ≡ true → AllMean ts ms → AllMean (typed_to ts (truths ts)) (casts ts ms)
    casts_mean [] [] b h = tt
    casts_mean [] (m ∷ ms) b h = absurd h
    casts_mean (t ∷ ts) [] b h = absurd h
    casts_mean (t ∷ ts) (m ∷ ms) b h =
        let both = and_parts (may_be_true t.type) (all_logic ts) b in
        (cast_means t.type Truth NonStrict t.many m (become_fits t.type Truth (logic_becomes t.type both.0)) h.0, casts_mean ts ms both.1 h.1)

    -- a node over such operands
    node_means : (children : Trees Op) (f n : Typed) (ns : List Typed) → typing_all registry frame.schema children ≡ Ok (f ∷ n ∷ ns) → all_logic (f ∷ n ∷ ns) ≡ true → (rows : List ℕ) → meaning registry frame (node op children) rows ≡ over (casts (f ∷ n ∷ ns) (meaning_all registry frame children)) rows
    node_means children f n ns h b rows =
        let all = f ∷ n ∷ ns in
        let ms = meaning_all registry frame children in
        ap (λ r. node_meaning registry frame op r ms rows) h
        ∙ ap (λ r. ruled_meaning registry frame op (types_of all) r ms rows) (is.rules all ∙ several_ruled f n ns ∙ ap (λ c. where_logic c all) b)
        ∙ (λ i. then_do (given (casts all ms) rows) (λ columns. is.values (truths all) columns i))

    -- the operator's, over two of them
    pair_means : (tree next : Expression) (f n : Typed) → typing registry frame.schema tree ≡ Ok f → typing registry frame.schema next ≡ Ok n → (may_be_true f.type && may_be_true n.type) ≡ true → (rows : List ℕ)
        → meaning registry frame (pair tree next) rows ≡ then_do (given (cast_meaning f.type Truth NonStrict (meaning registry frame tree) ∷ cast_meaning n.type Truth NonStrict (meaning registry frame next) ∷ []) rows) (kernel registry frame rows (BinaryOp operator) (Truth ∷ Truth ∷ []) Truth)
    pair_means tree next f n h k b rows =
        let ms = meaning registry frame tree ∷ meaning registry frame next ∷ [] in
        (λ i. node_meaning registry frame (BinaryOp operator) (typed_before (h i) (typed_before (k i) (Ok []))) ms rows)
        ∙ ap (λ r. ruled_meaning registry frame (BinaryOp operator) (f.type ∷ n.type ∷ []) r ms rows) (pair_ruled frame.schema f n ∙ ap (λ c. ruled_as (where_truths c) (f.many || (n.many || false))) b)

    then_front : (o : Outcome (List Val)) (columns : List (List Val)) → then_do (then_do o (λ column. Done (column ∷ columns))) whole ≡ then_do o (λ column. whole (column ∷ columns))
    then_front (Done column) columns = refl
    then_front Fault columns = refl
    then_front Stuck columns = refl

    then_fault : (found : Option ℕ) (make : ℕ → List Val) → Fault ≡ then_do (then_do (at_length found make) (λ column. Fault)) whole
    then_fault None make = refl
    then_fault (Some count) make = refl

    -- the first two can be put together beforehand
    two_given : (P : List (List Val) → Type 0) (rows : List ℕ) (first second : Outcome (List Val)) (others : Outcome (List (List Val))) → Meets P others
        → then_do (then_do first (λ c. then_do (then_do second (λ d. then_do others (λ cs. Done (d ∷ cs)))) (λ cs. Done (c ∷ cs)))) whole
        ≡ then_do (then_do (then_do (then_do first (λ c. then_do (then_do second (λ d. Done (d ∷ []))) (λ cs. Done (c ∷ cs)))) (kernel registry frame rows (BinaryOp operator) (Truth ∷ Truth ∷ []) Truth)) (λ e. then_do others (λ cs. Done (e ∷ cs)))) whole
    two_given P rows (Done c) (Done d) (Done cs) h =
        over_two is.value is.merge nothing is.folded c d cs
        ∙ ap (λ merge. then_do (at_length (common_length (length c) (length d)) (λ count. at_each merge (stretched count c) (stretched count d))) (λ column. whole (column ∷ cs))) (sym (is.merges Truth Truth))
        ∙ sym (then_front (operator_values operator Truth Truth c d) cs)
    two_given P rows (Done c) (Done d) Fault h = then_fault (common_length (length c) (length d)) (λ count. at_each (operator_value operator Truth Truth) (stretched count c) (stretched count d))
    two_given P rows (Done c) (Done d) Stuck h = absurd h
    two_given P rows (Done c) Fault others h = refl
    two_given P rows (Done c) Stuck others h = refl
    two_given P rows Fault second others h = refl
    two_given P rows Stuck second others h = refl

    -- of one operand of truth values it is that
    alone_given : (typed : Typed) (o : Outcome (List Val)) → typed.type ≡ Truth → Meets (AreOf typed) o → o ≡ then_do (then_do o (λ column. Done (column ∷ []))) whole
    alone_given typed (Done column) truth h = sym (over_one is.value is.merge nothing is.folded column (subst (λ type. IsTrue (all_fit column type)) truth h.fitting))
    alone_given typed Fault truth h = refl
    alone_given typed Stuck truth h = absurd h

    abbrev means : Expression → Meaning
    means tree = meaning registry frame tree

    -- two operands in front of others, where these mean so behind a truth value
    means_step : (tree : Expression) (f : Typed) (next : Expression) (n : Typed) (rest : Trees Op) (ns : List Typed) → typing registry frame.schema tree ≡ Ok f → typing registry frame.schema next ≡ Ok n → typing_all registry frame.schema rest ≡ Ok ns → all_logic (f ∷ n ∷ ns) ≡ true → (rows : List ℕ)
        → meaning registry frame (chain operator (pair tree next) rest) rows ≡ over (means (pair tree next) ∷ casts ns (meaning_all registry frame rest)) rows
        → meaning registry frame (chain operator (pair tree next) rest) rows ≡ over (casts (f ∷ n ∷ ns) (means tree ∷ means next ∷ meaning_all registry frame rest)) rows
    means_step tree f next n rest ns h first others b rows behind =
        let split = and_parts (may_be_true f.type && may_be_true n.type) (all_logic ns) (sym (and_apart (may_be_true f.type) (may_be_true n.type) (all_logic ns)) ∙ b) in
        let ms = meaning_all registry frame rest in
        let mean = casts_mean ns ms split.1 (meanings_have_types registry frame of rest ns others) in
        behind
        ∙ ap (λ o. then_do (then_do o (λ e. then_do (given (casts ns ms) rows) (λ cs. Done (e ∷ cs)))) whole) (pair_means tree next f n h first split.0 rows)
        ∙ sym (two_given _ rows (cast_meaning f.type Truth NonStrict (means tree) rows) (cast_meaning n.type Truth NonStrict (means next) rows) (given (casts ns ms) rows) (given_meet (typed_to ns (truths ns)) (casts ns ms) mean rows))

    pair_there : (tree next : Expression) (f n : Typed) → typing registry frame.schema tree ≡ Ok f → typing registry frame.schema next ≡ Ok n → (may_be_true f.type && may_be_true n.type) ≡ true → typing registry frame.schema (pair tree next) ≡ Ok (of_truth (f.many || (n.many || false)))
    pair_there tree next f n h k b = pair_typed frame.schema tree next f n h k ∙ ap (λ c. where_true frame.schema c (f.many || (n.many || false))) b

    front_logic : (f n : Typed) (ns : List Typed) → all_logic (f ∷ n ∷ ns) ≡ true → ((may_be_true f.type && may_be_true n.type) ≡ true) × (all_logic ns ≡ true)
    front_logic f n ns b = and_parts (may_be_true f.type && may_be_true n.type) (all_logic ns) (sym (and_apart (may_be_true f.type) (may_be_true n.type) (all_logic ns)) ∙ b)

    means_from : (tree : Expression) (f : Typed) (trees : Trees Op) (ts : List Typed) → f.type ≡ Truth → typing registry frame.schema tree ≡ Ok f → typing_all registry frame.schema trees ≡ Ok ts → all_logic ts ≡ true → (rows : List ℕ) → meaning registry frame (chain operator tree trees) rows ≡ over (means tree ∷ casts ts (meaning_all registry frame trees)) rows
    means_from tree f no_more ts truth h k b rows =
        by_no_children (λ ts. means tree rows ≡ over (means tree ∷ casts ts []) rows) ts k (alone_given f (means tree rows) truth (meaning_has_type registry frame of tree f h rows))
    means_from tree f (more next rest) ts truth h k b rows =
        by_children (λ ts. all_logic ts ≡ true → means (chain operator (pair tree next) rest) rows ≡ over (means tree ∷ casts ts (means next ∷ meaning_all registry frame rest)) rows) _ _ ts k (λ n ns first others b.
        let all = ap (λ type. may_be_true type && all_logic (n ∷ ns)) truth ∙ b in
        let both = front_logic f n ns all in
        means_step tree f next n rest ns h first others all rows (means_from (pair tree next) (of_truth (f.many || (n.many || false))) rest ns refl (pair_there tree next f n h first both.0) others both.1 rows)
        ∙ ap (λ m. over (m ∷ casts (n ∷ ns) (means next ∷ meaning_all registry frame rest)) rows) (ap (λ type. cast_meaning type Truth NonStrict (means tree)) truth ∙ cast_own Truth (means tree))) b

    means_two : (tree : Expression) (f : Typed) (next : Expression) (n : Typed) (rest : Trees Op) (ns : List Typed) → typing registry frame.schema tree ≡ Ok f → typing registry frame.schema next ≡ Ok n → typing_all registry frame.schema rest ≡ Ok ns → all_logic (f ∷ n ∷ ns) ≡ true → (rows : List ℕ)
        → meaning registry frame (chain operator (pair tree next) rest) rows ≡ over (casts (f ∷ n ∷ ns) (means tree ∷ means next ∷ meaning_all registry frame rest)) rows
    means_two tree f next n rest ns h first others b rows =
        let both = front_logic f n ns b in
        means_step tree f next n rest ns h first others b rows (means_from (pair tree next) (of_truth (f.many || (n.many || false))) rest ns refl (pair_there tree next f n h first both.0) others both.1 rows)

    -- ---- one operand

    -- a number without a type means the number
    number_means : (number : ℤ) (tree : Expression) (many : Bool) → typing registry frame.schema tree ≡ Ok (record { type = Untyped number; many = many }) → means tree ≡ (λ rows. Done (IntValue number ∷ []))
    number_means number (node own (more child no_more)) many h =
        elim (number_node registry frame.schema number own (more child no_more) many h) as (λ _. means (node own (more child no_more)) ≡ (λ rows. Done (IntValue number ∷ []))) [
          | bare op_is none single literal ↦ let other : more child no_more ≡ no_more = none in cc
          | under name tree op_is over typed ↦
              let same = child_is child tree over in
              let here = ap (typing registry frame.schema) same ∙ typed in
              ap (λ o. means (node o (more child no_more))) op_is ∙ alias_means registry frame name child _ here ∙ number_means number child many here
        ]
    number_means number (node own children) many h =
        elim (number_node registry frame.schema number own children many h) as (λ _. means (node own children) ≡ (λ rows. Done (IntValue number ∷ []))) [
          | bare op_is none single literal ↦ (λ i. means (node (op_is i) (none i))) ∙ literal_means registry frame (Untyped number) (IntValue number) literal
          | under name tree op_is over typed ↦ cc
        ]

    integer_apart : (type : Ty) → is_integer type ≡ true → same_type type Truth ≡ false
    integer_apart (Integer signed bits) h = refl
    integer_apart _ h = cc

    -- an operand that is cast by the type that it has alone is cast as it is
    cast_twice : (from own : Ty) (tree : Expression) (many : Bool) → typing registry frame.schema tree ≡ Ok (record { type = from; many = many }) → type_alone from ≡ Some own → cast_meaning own Truth NonStrict (cast_meaning from own NonStrict (means tree)) ≡ cast_meaning from Truth NonStrict (means tree)
    cast_twice (Untyped number) own tree many h alone =
        let has = literal_has number own alone in
        let is_number = number_means number tree many h in
        ap (λ m. cast_meaning own Truth NonStrict (cast_meaning (Untyped number) own NonStrict m)) is_number
        ∙ ap (cast_meaning own Truth NonStrict) (number_cast number own has.1 has.0)
        ∙ own_number_cast number own Truth has.2 (integer_apart own has.2) refl
        ∙ ap (cast_meaning (Untyped number) Truth NonStrict) (sym is_number)
    cast_twice from own tree many h alone =
        let same = alone_same from own alone (λ number e. cc) in
        ap (λ type. cast_meaning type Truth NonStrict (cast_meaning from type NonStrict (means tree))) same ∙ ap (cast_meaning from Truth NonStrict) (cast_own from (means tree))

    one_cast : (rows : List ℕ) (from : Ty) (o : Outcome (List Val)) → then_do (then_do o (λ column. Done (column ∷ []))) (kernel registry frame rows (CastOp Truth NonStrict) (from ∷ []) Truth) ≡ then_do o (cast_column from Truth NonStrict)
    one_cast rows from (Done column) = refl
    one_cast rows from Fault = refl
    one_cast rows from Stuck = refl

    cast_given : (tree : Expression) (f : Typed) (own : Ty) → typing registry frame.schema tree ≡ Ok f → type_alone f.type ≡ Some own → can_cast own Truth ≡ true → means (cast_to Truth tree) ≡ cast_meaning f.type Truth NonStrict (means tree)
    cast_given tree f own h alone casts =
        let m = means tree in
        let rules : ruled_as (cast_taken Truth (type_alone f.type)) f.many ≡ Ok (record { operands = own ∷ []; own = of_truth f.many }) =
        ap (λ found. ruled_as (cast_taken Truth found) f.many) alone ∙ ap (λ b. ruled_as (cond b (Ok (record { operands = own ∷ []; type = Truth })) (Err InvalidOperation)) f.many) casts in
        ap (λ r. node_meaning registry frame (CastOp Truth NonStrict) (typed_before r (Ok [])) (m ∷ [])) h
        ∙ ap (λ r. ruled_meaning registry frame (CastOp Truth NonStrict) (f.type ∷ []) r (m ∷ [])) rules
        ∙ (λ i rows. one_cast rows own (cast_meaning f.type own NonStrict m rows) i)
        ∙ column_by_column own Truth NonStrict (cast_meaning f.type own NonStrict m)
        ∙ cast_twice f.type own tree f.many h alone

    alone_means : (tree : Expression) (f : Typed) (own : Ty) → typing registry frame.schema tree ≡ Ok f → type_alone f.type ≡ Some own → can_cast own Truth ≡ true → (rows : List ℕ) → means (cast_to Truth tree) rows ≡ means (node op (more tree no_more)) rows
    alone_means tree f own h alone casts rows =
        let m = means tree in
        let fits = cast_means f.type Truth NonStrict f.many m (become_fits f.type Truth (alone_casts f.type own Truth alone casts)) (meaning_has_type registry frame of tree f h) in
        let rules : function_rule function (f ∷ []) ≡ where_cast true f =
        is.rules (f ∷ []) ∙ alone_ruled f ∙ ap (λ found. where_cast (can_be_true found) f) alone ∙ ap (λ b. where_cast b f) casts in
        ap (λ n. n rows) (cast_given tree f own h alone casts)
        ∙ alone_given (of_truth f.many) (cast_meaning f.type Truth NonStrict m rows) refl (fits rows)
        ∙ sym (
        ap (λ r. node_meaning registry frame op (typed_before r (Ok [])) (m ∷ []) rows) h
        ∙ ap (λ r. ruled_meaning registry frame op (f.type ∷ []) r (m ∷ []) rows) rules
        ∙ (λ i. then_do (given (cast_meaning f.type Truth NonStrict m ∷ []) rows) (λ columns. is.values (Truth ∷ []) columns i))
        )

    -- ---- any number

    -- what a test lets through
    logic_there : (b : Bool) (ts : List Typed) (typed : Typed) → own_typed (where_logic b ts) ≡ Ok typed → b ≡ true
    logic_there true ts typed h = refl
    logic_there false ts typed h = cc

    cast_there : (found : Option Ty) (f typed : Typed) → own_typed (where_cast (can_be_true found) f) ≡ Ok typed → (own : Ty) × (found ≡ Some own) × (can_cast own Truth ≡ true)
    cast_there None f typed h = cc
    cast_there (Some own) f typed h =
        (own, refl, elim (can_cast own Truth) as (λ b. own_typed (where_cast b f) ≡ Ok typed → b ≡ true) [ true ↦ λ h. refl | false ↦ λ h. cc ] h)

    nothing_means : (rows : List ℕ) → means (node (LiteralOp Truth (TruthValue nothing)) no_more) rows ≡ means (node op no_more) rows
    nothing_means rows =
        sym (over_nothing is.value is.merge nothing is.folded)
        ∙ sym (ap (λ r. ruled_meaning registry frame op [] r [] rows) (is.rules []) ∙ (λ i. is.values [] [] i))

    pub chain_means : (children : Trees Op) (typed : Typed) → typed_node frame.schema children ≡ Ok typed → (rows : List ℕ) → means (chained operator nothing children) rows ≡ means (node op children) rows
    chain_means no_more typed h rows = nothing_means rows
    chain_means (more tree no_more) typed h rows =
        let p = typed_parts registry frame.schema op (more tree no_more) typed h in
        by_children (λ ts. own_typed (function_rule function ts) ≡ Ok typed → means (cast_to Truth tree) rows ≡ means (node op (more tree no_more)) rows) _ _ p.below p.children_typed (λ f fs first others.
        by_no_children (λ fs. own_typed (function_rule function (f ∷ fs)) ≡ Ok typed → means (cast_to Truth tree) rows ≡ means (node op (more tree no_more)) rows) fs others (λ rules.
        let there = cast_there (type_alone f.type) f typed (sym (ap own_typed (is.rules (f ∷ []) ∙ alone_ruled f)) ∙ rules) in
        alone_means tree f there.0 first there.1 there.2 rows)) (ap own_typed p.rules ∙ ap Ok p.is)
    chain_means (more tree (more next rest)) typed h rows =
        let p = typed_parts registry frame.schema op (more tree (more next rest)) typed h in
        let Goal = means (chain operator (pair tree next) rest) rows ≡ means (node op (more tree (more next rest))) rows in
        by_children (λ ts. own_typed (function_rule function ts) ≡ Ok typed → typing_all registry frame.schema (more tree (more next rest)) ≡ Ok ts → Goal) _ _ p.below p.children_typed (λ f fs first others.
        by_children (λ fs. own_typed (function_rule function (f ∷ fs)) ≡ Ok typed → typing_all registry frame.schema (more tree (more next rest)) ≡ Ok (f ∷ fs) → Goal) _ _ fs others (λ n ns second last rules below.
        let b = logic_there (all_logic (f ∷ n ∷ ns)) (f ∷ n ∷ ns) typed (sym (ap own_typed (is.rules (f ∷ n ∷ ns) ∙ several_ruled f n ns)) ∙ rules) in
        means_two tree f next n rest ns first second last b rows ∙ sym (node_means (more tree (more next rest)) f n ns below b rows))) (ap own_typed p.rules ∙ ap Ok p.is) p.children_typed

-- ---- the law

module _ (registry : Registry) (schema : Columns) where
  chain_name : (operator : Operator) (nothing : Bool) (function : FunctionExpr) (children : Trees Op) → label_of (horizontal_node function no_more) ≡ label_of (chained operator nothing no_more) → ((tree : Expression) (trees : Trees Op) → label_of (horizontal_node function (more tree trees)) ≡ label_of tree) → label_of (chained operator nothing children) ≡ label_of (horizontal_node function children)
  chain_name operator nothing function no_more none some = sym none
  chain_name operator nothing function (more tree no_more) none some = sym (some tree no_more)
  chain_name operator nothing function (more tree (more next rest)) none some = chain_label operator tree (more next rest) ∙ sym (some tree (more next rest))

  typed_one : (function : FunctionExpr) (operator : Operator) (nothing : Bool) (children : Trees Op) (typed : Typed) → IsChained function operator nothing → typing registry schema (horizontal_node function children) ≡ Ok typed → typing registry schema (chained operator nothing children) ≡ Ok typed
  typed_one function operator nothing children typed is h =
      let p = typed_parts registry schema (FunctionOp function []) children typed h in
      chain_typing registry function operator nothing is schema children p.below p.children_typed ∙ h

  chain_alone : (function : FunctionExpr) (operator : Operator) (nothing : Bool) (children : Trees Op) (typed : Typed) → IsChained function operator nothing → typing registry schema (chained operator nothing children) ≡ Ok typed → typing registry schema (horizontal_node function children) ≡ Ok typed
  chain_alone function operator nothing children typed is h =
      let below = operands_typed registry function operator nothing is schema children typed h in
      sym (chain_typing registry function operator nothing is schema children below.0 below.1) ∙ h

  meaning_on : (function : FunctionExpr) (operator : Operator) (nothing : Bool) (children : Trees Op) (frame : Frame) (typed : Typed) → IsChained function operator nothing → IsFrame frame → frame.schema ≡ schema → typing registry schema (horizontal_node function children) ≡ Ok typed → (rows : List ℕ) → meaning registry frame (chained operator nothing children) rows ≡ meaning registry frame (horizontal_node function children) rows
  meaning_on function operator nothing children frame typed is of same h rows =
      chain_means registry function operator nothing is frame of children typed (ap (λ s. typing registry s (horizontal_node function children)) same ∙ h) rows

  chain_is : (function : FunctionExpr) (operator : Operator) (nothing : Bool) (children : Trees Op) → IsChained function operator nothing → horizontal_chain function children ≡ chained operator nothing children → label_of (chained operator nothing children) ≡ label_of (horizontal_node function children) → IsItsChain registry schema function children
  chain_is function operator nothing children is out name = record {
    name = ap label_of out ∙ name;
    typed = λ typed h. ap (typing registry schema) out ∙ typed_one function operator nothing children typed is h;
    typed_alone = λ typed h. chain_alone function operator nothing children typed is (sym (ap (typing registry schema) out) ∙ h);
    refused = λ below h. ap (typing registry schema) out ∙ chain_typing registry function operator nothing is schema children below h;
    meaning = λ frame typed of same h rows. ap (λ t. meaning registry frame t rows) out ∙ meaning_on function operator nothing children frame typed is of same h rows;
  }

-- a horizontal is the chain for which it is written out
pub its_chain : HorizontalsAreTheirChains
its_chain registry schema AllHorizontal children h = chain_is registry schema AllHorizontal LogicalAnd true children all_chained refl (chain_name registry schema LogicalAnd true AllHorizontal children refl (λ tree trees. refl))
its_chain registry schema AnyHorizontal children h = chain_is registry schema AnyHorizontal LogicalOr false children any_chained refl (chain_name registry schema LogicalOr false AnyHorizontal children refl (λ tree trees. refl))
its_chain registry schema _ children h = cc
