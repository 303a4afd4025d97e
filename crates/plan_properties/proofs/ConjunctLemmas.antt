-- A condition whose top asks that both of two are true: both are conditions, and it is true of a row where both are.
use Rattle.std.proofs.Common.{◌≡◌, ℕ, true, false, cond, ◌&&◌, List, [], ◌∷◌, Option, Some, None, Result, Ok, Err, bit_and, refl, sym, ap, ◌∙◌}
use Rattle.std.proofs.lemmas.Bool.{and_parts}
use Rattle.plan_types.specs.Frames.{Frame, Row}
use Rattle.plan_types.specs.Outcomes.{then_do}
use Rattle.plan_types.specs.Schemas.{Columns}
use Rattle.plan_types.specs.Supertypes.{supertype}
use Rattle.plan_types.specs.CommonTypes.{type_beside}
use Rattle.plan_types.specs.Types.{Ty, Truth}
use Rattle.plan_types.specs.Values.{Val, TruthValue, IntValue}
use Rattle.plan_types.specs.declared.error.ErrorKind.{ErrorKind}
use Rattle.plan_types.specs.declared.error.ErrorKind.TheVariants.{InvalidOperation}
use Rattle.plan_dsl.specs.declared.operator.Operator.{Operator}
use Rattle.plan_dsl.specs.declared.operator.Operator.TheVariants.{And, LogicalAnd}
use Rattle.plan_dsl.specs.Kernels.{given, kernel}
use Rattle.plan_dsl.specs.Meaning.{meaning, meaning_all, node_meaning, ruled_meaning, taken_to}
use Rattle.plan_dsl.specs.Operators.{bitwise, both_true, operator_value}
use Rattle.plan_dsl.specs.OperatorTypes.{Taken, both_to, has_bits, is_truth_or_null, operator_types, pair_to, pair_types, with_types}
use Rattle.plan_dsl.specs.Ops.{Op, BinaryOp, Expression}
use Rattle.plan_dsl.specs.Picks.{is_true}
use Rattle.plan_dsl.specs.Registry.{Registry}
use Rattle.plan_dsl.specs.Strictness.{are_strict, is_strict, is_strict_over}
use Rattle.plan_dsl.specs.Trees.{Trees, node, no_more, more}
use Rattle.plan_dsl.specs.Typing.{Typed, Ruling, own_typed, rule, some_many, then_typed, typed_before, types_of, typing, typing_all, typing_rule}
use Rattle.plan_dsl.proofs.StrictLemmas.{StrictParts, strict_parts}
use Rattle.plan_dsl.proofs.TypingLemmas.{ok_same, ok_where, ruled_is}
use Rattle.plan_properties.specs.Splitting.{IsCondition, is_conjunction}

-- ---- values

both_is_true : (l r : Val) → is_true (both_true l r) ≡ (is_true l && is_true r)
both_is_true (TruthValue true) (TruthValue r) = refl
both_is_true (TruthValue false) r = refl
both_is_true l (TruthValue false) = refl
both_is_true l r = refl

bits_are_true : (bit : ℕ → ℕ → ℕ) (type : Ty) (l r : Val) → is_true (bitwise bit both_true type l r) ≡ (is_true l && is_true r)
bits_are_true bit type (IntValue l) (IntValue r) = refl
bits_are_true bit type l r = both_is_true l r

-- it is true where both are
pub conjunction_is_true : (operator : Operator) → is_conjunction (BinaryOp operator) ≡ true → (from type : Ty) (l r : Val) → is_true (operator_value operator from type l r) ≡ (is_true l && is_true r)
conjunction_is_true And h from type l r = bits_are_true bit_and type l r
conjunction_is_true LogicalAnd h from type l r = both_is_true l r
conjunction_is_true operator h from type l r = cc

-- ---- types

of_common : (common : Option Ty) (taken : Taken) → both_to common (λ t. t) ≡ Ok taken → taken.type ≡ Truth → taken.operands ≡ Truth ∷ Truth ∷ []
of_common None taken h truth = cc
of_common (Some type) taken h truth =
    let e = ok_same (both_to (Some type) (λ t. t)) (pair_to type type type) taken refl h in
    let same : type ≡ Truth = ap (λ (k : Taken). k.type) e ∙ truth in
    sym (ap (λ (k : Taken). k.operands) e) ∙ ap (λ t. t ∷ t ∷ []) same

pair_of_truths : (operator : Operator) → is_conjunction (BinaryOp operator) ≡ true → (l r : Ty) (taken : Taken) → pair_types operator l r ≡ Ok taken → taken.type ≡ Truth → taken.operands ≡ Truth ∷ Truth ∷ []
pair_of_truths And s l r taken h truth =
    elim (has_bits l && has_bits r) as (λ b. cond b (both_to (supertype l r) (λ t. t)) (Err InvalidOperation) ≡ Ok taken → taken.operands ≡ Truth ∷ Truth ∷ []) [
      | true ↦ λ h. of_common (supertype l r) taken h truth
      | false ↦ λ h. cc
    ] h
pair_of_truths LogicalAnd s l r taken h truth = sym (ap (λ (k : Taken). k.operands) (ok_where (is_truth_or_null l && is_truth_or_null r) (pair_to Truth Truth Truth) taken InvalidOperation h).1)
pair_of_truths operator s l r taken h truth = cc

with_truths : (operator : Operator) → is_conjunction (BinaryOp operator) ≡ true → (l r : Option Ty) (taken : Taken) → with_types l r (pair_types operator) ≡ Ok taken → taken.type ≡ Truth → taken.operands ≡ Truth ∷ Truth ∷ []
with_truths operator s None r taken h truth = cc
with_truths operator s (Some l) None taken h truth = cc
with_truths operator s (Some l) (Some r) taken h truth = pair_of_truths operator s l r taken h truth

-- ---- two operands

first_typed : (first : Result Typed ErrorKind) (rest : Result (List Typed) ErrorKind) (x : Typed) (xs : List Typed) → typed_before first rest ≡ Ok (x ∷ xs) → (first ≡ Ok x) × (rest ≡ Ok xs)
first_typed (Err kind) rest x xs h = cc
first_typed (Ok t) (Err kind) x xs h = cc
first_typed (Ok t) (Ok ts) x xs h =
    let same = ok_same (typed_before (Ok t) (Ok ts)) (t ∷ ts) (x ∷ xs) refl h in
    let head : t ≡ x = cc in
    let tail : ts ≡ xs = cc in
    (ap Ok head, ap Ok tail)

-- lists of two lengths, and of two of one length
apart : {E : Type 0} {x : Typed} {xs : List Typed} → (let none : Result (List Typed) E = Ok [] in none ≡ Ok (x ∷ xs)) → ⊥
apart h = cc

first_same : {a b c d : Ty} → a ∷ b ∷ [] ≡ c ∷ d ∷ [] → a ≡ c
first_same h = cc

second_same : {a b c d : Ty} → a ∷ b ∷ [] ≡ c ∷ d ∷ [] → b ≡ d
second_same h = cc

none_typed : (first : Result Typed ErrorKind) (rest : Result (List Typed) ErrorKind) → typed_before first rest ≡ Ok [] → ⊥
none_typed (Err kind) rest h = cc
none_typed (Ok t) (Err kind) h = cc
none_typed (Ok t) (Ok ts) h = cc

record TwoTruths (typed : List Typed) (ruling : Ruling) : Type 0 where
  left : Typed
  right : Typed
  are : typed ≡ left ∷ right ∷ []
  operands : ruling.operands ≡ Truth ∷ Truth ∷ []

module _ (registry : Registry) (schema : Columns) where
  two_truths : (operator : Operator) → is_conjunction (BinaryOp operator) ≡ true → (typed : List Typed) (ruling : Ruling) → rule registry schema (BinaryOp operator) typed ≡ Ok ruling → ruling.own.type ≡ Truth → TwoTruths typed ruling
  two_truths operator s [] ruling h truth = cc
  two_truths operator s (x ∷ []) ruling h truth = cc
  two_truths operator s (x ∷ y ∷ []) ruling h truth =
      ruled_is (λ r. r.own.type ≡ Truth → TwoTruths (x ∷ y ∷ []) r) (operator_types operator (x.type ∷ y.type ∷ [])) (some_many (x ∷ y ∷ [])) ruling h
      (λ taken e truth. record { left = x; right = y; are = refl; operands = with_truths operator s (type_beside x.type y.type) (type_beside y.type x.type) taken e truth }) truth
  two_truths operator s (x ∷ y ∷ z ∷ zs) ruling h truth = cc

-- a conjunction's operands: there are two, both are conditions, and it is true of a row where both are
pub record BothConditions (registry : Registry) (schema : Columns) (op : Op) (ts : Trees Op) : Type 0 where
  pub left : Expression
  pub right : Expression
  pub are : ts ≡ more left (more right no_more)
  pub left_is : IsCondition registry schema left
  pub right_is : IsCondition registry schema right
  pub operator : Operator
  pub op_is : op ≡ BinaryOp operator
  pub type : Ty
  pub means : (rows : List Row) → meaning registry (record { schema = schema; rows = rows }) (node op ts) ≡
      (λ numbers. then_do (given (meaning registry (record { schema = schema; rows = rows }) left ∷ meaning registry (record { schema = schema; rows = rows }) right ∷ []) numbers) (kernel registry (record { schema = schema; rows = rows }) numbers (BinaryOp operator) (Truth ∷ Truth ∷ []) type))

module _ (registry : Registry) (schema : Columns) where
  -- what an operator on truth values means over operands that are typed so
  pair_means : (operator : Operator) (left right : Expression) (s : StrictParts registry schema (BinaryOp operator) (more left (more right no_more))) → s.ruling.operands ≡ Truth ∷ Truth ∷ [] → (rows : List Row) →
      meaning registry (record { schema = schema; rows = rows }) (node (BinaryOp operator) (more left (more right no_more))) ≡
      (λ numbers. then_do (given (meaning registry (record { schema = schema; rows = rows }) left ∷ meaning registry (record { schema = schema; rows = rows }) right ∷ []) numbers) (kernel registry (record { schema = schema; rows = rows }) numbers (BinaryOp operator) (Truth ∷ Truth ∷ []) s.ruling.own.type))
  pair_means operator left right s operands rows =
      let frame : Frame = record { schema = schema; rows = rows } in
      let ms = meaning_all registry frame (more left (more right no_more)) in
      ap (λ r. node_meaning registry frame (BinaryOp operator) r ms) s.types
      ∙ ap (λ r. ruled_meaning registry frame (BinaryOp operator) (types_of s.typed) r ms) s.rules
      ∙ ap (λ ts. λ numbers. then_do (given (taken_to ts s.ruling.operands ms) numbers) (kernel registry frame numbers (BinaryOp operator) s.ruling.operands s.ruling.own.type)) s.kept
      ∙ ap (λ ts. λ numbers. then_do (given (taken_to ts ts ms) numbers) (kernel registry frame numbers (BinaryOp operator) ts s.ruling.own.type)) operands

  condition : (tree : Expression) (own : Typed) → typing registry schema tree ≡ Ok own → own.type ≡ Truth → is_strict registry schema tree ≡ true → IsCondition registry schema tree
  condition tree own typed truth strict = record { own = own; typed = typed; truth = truth; strict = strict }

  -- two operands of a node that takes truth values
  pair_is : (operator : Operator) (ts : Trees Op) (s : StrictParts registry schema (BinaryOp operator) ts) → are_strict registry schema ts ≡ true → TwoTruths s.typed s.ruling → BothConditions registry schema (BinaryOp operator) ts
  pair_is operator no_more s strict two =
      let e : typing_all registry schema no_more ≡ Ok (two.left ∷ two.right ∷ []) = s.types ∙ ap Ok two.are in
      cc
  pair_is operator (more left no_more) s strict two =
      let h = s.types ∙ ap Ok two.are in
      let first = first_typed (typing registry schema left) (Ok []) two.left (two.right ∷ []) h in
      absurd (apart first.1)
  pair_is operator (more left (more right no_more)) s strict two =
      let h = s.types ∙ ap Ok two.are in
      let first = first_typed (typing registry schema left) (typing_all registry schema (more right no_more)) two.left (two.right ∷ []) h in
      let second = first_typed (typing registry schema right) (Ok []) two.right [] first.1 in
      let types : two.left.type ∷ two.right.type ∷ [] ≡ Truth ∷ Truth ∷ [] = sym (ap types_of two.are) ∙ s.kept ∙ two.operands in
      let strict_left = and_parts (is_strict registry schema left) (is_strict registry schema right && true) strict in
      let strict_right = and_parts (is_strict registry schema right) true strict_left.1 in
      record {
        left = left;
        right = right;
        are = refl;
        left_is = condition left two.left first.0 (first_same types) strict_left.0;
        right_is = condition right two.right second.0 (second_same types) strict_right.0;
        operator = operator;
        op_is = refl;
        type = s.ruling.own.type;
        means = pair_means operator left right s two.operands;
      }
  pair_is operator (more left (more right (more third rest))) s strict two =
      let h = s.types ∙ ap Ok two.are in
      let first = first_typed (typing registry schema left) (typing_all registry schema (more right (more third rest))) two.left (two.right ∷ []) h in
      let second = first_typed (typing registry schema right) (typing_all registry schema (more third rest)) two.right [] first.1 in
      absurd (none_typed (typing registry schema third) (typing_all registry schema rest) second.1)

  both_of : (operator : Operator) (ts : Trees Op) → is_conjunction (BinaryOp operator) ≡ true → IsCondition registry schema (node (BinaryOp operator) ts) → BothConditions registry schema (BinaryOp operator) ts
  both_of operator ts s c =
      let parts = and_parts (is_strict_over registry schema (BinaryOp operator) (typing_all registry schema ts)) (are_strict registry schema ts) c.strict in
      let p = strict_parts registry schema (BinaryOp operator) ts parts.0 in
      let found : typing registry schema (node (BinaryOp operator) ts) ≡ Ok p.ruling.own = ap (λ r. then_typed r (typing_rule registry schema (BinaryOp operator))) p.types ∙ ap own_typed p.rules in
      let own = ok_same (typing registry schema (node (BinaryOp operator) ts)) p.ruling.own c.own found c.typed in
      pair_is operator ts p parts.1 (two_truths registry schema operator s p.typed p.ruling p.rules (ap (λ (t : Typed). t.type) own ∙ c.truth))

  -- a conjunction that is a condition has two operands that are
  pub both_conditions : (op : Op) (ts : Trees Op) → is_conjunction op ≡ true → IsCondition registry schema (node op ts) → BothConditions registry schema op ts
  both_conditions (BinaryOp operator) ts s c = both_of operator ts s c
  both_conditions op ts s c = cc
