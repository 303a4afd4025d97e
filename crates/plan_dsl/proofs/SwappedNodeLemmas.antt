-- Nodes of an operator over swapped operands: where the operator takes swapped operands to the same types and gives the
-- same columns of them, the node has the same type and meaning.
use Rattle.std.proofs.Common.{◌≡◌, ℕ, Bool, true, false, ◌||◌, List, [], ◌∷◌, Ok, refl, sym, ap, ◌∙◌}
use Rattle.plan_types.specs.Types.{Ty}
use Rattle.plan_types.specs.Schemas.{Columns}
use Rattle.plan_types.specs.Values.{Val}
use Rattle.plan_types.specs.Outcomes.{Outcome, Done, Fault, Stuck, Meets, then_do}
use Rattle.plan_types.specs.Frames.{Frame, IsFrame}
use Rattle.plan_types.specs.declared.dtype.CastOptions.TheVariants.{NonStrict}
use Rattle.plan_dsl.specs.declared.operator.Operator.{Operator}
use Rattle.plan_dsl.specs.Registry.{Registry}
use Rattle.plan_dsl.specs.Trees.{no_more, more}
use Rattle.plan_dsl.specs.Ops.{BinaryOp, Expression}
use Rattle.plan_dsl.specs.Typing.{Typed, own_typed, rule, ruled_as, then_typed, typed_before, typing, typing_all, typing_rule}
use Rattle.plan_dsl.specs.OperatorTypes.{Taken, pair_to, operator_types}
use Rattle.plan_dsl.specs.Kernels.{cast_meaning, given, kernel, operator_values}
use Rattle.plan_dsl.specs.Meaning.{meaning, node_meaning, ruled_meaning}
use Rattle.plan_dsl.specs.Laws.{AreOf, operator_node}
use Rattle.plan_dsl.specs.Strictness.{CanBecome}
use Rattle.plan_dsl.proofs.TypingLemmas.{by_children, by_no_children, ruled_is, typed_parts}
use Rattle.plan_dsl.proofs.OperatorLemmas.{operands_taken, pair_becomes}
use Rattle.plan_dsl.proofs.ColumnLemmas.{become_fits}
use Rattle.plan_dsl.proofs.FitLemmas.{cast_means, meaning_has_type}

-- swapped operands are taken to the same types
abbrev pub TakesSwapped : Operator → Operator → Type 0
TakesSwapped operator other = (a b left right type : Ty) → operator_types operator (a ∷ b ∷ []) ≡ Ok (pair_to left right type) → operator_types other (b ∷ a ∷ []) ≡ Ok (pair_to right left type)

-- and give the same columns
abbrev pub GivesSwapped : Operator → Operator → Type 0
GivesSwapped operator other = (left right type : Ty) (xs ys : List Val) → operator_values other right type ys xs ≡ operator_values operator left type xs ys

-- the parts of a typed node of an operator
record NodeParts (registry : Registry) (schema : Columns) (operator : Operator) (a b : Expression) (typed : Typed) : Type 0 where
  first : Typed
  first_is : typing registry schema a ≡ Ok first
  second : Typed
  second_is : typing registry schema b ≡ Ok second
  left : Ty
  right : Ty
  type : Ty
  takes : operator_types operator (first.type ∷ second.type ∷ []) ≡ Ok (pair_to left right type)
  left_can : CanBecome first.type left
  right_can : CanBecome second.type right
  is : record { type = type; many = first.many || (second.many || false) } ≡ typed

made_parts : (registry : Registry) (schema : Columns) (operator : Operator) (a b : Expression) (first second typed : Typed) (taken : Taken) → typing registry schema a ≡ Ok first → typing registry schema b ≡ Ok second → operator_types operator (first.type ∷ second.type ∷ []) ≡ Ok taken → record { type = taken.type; many = first.many || (second.many || false) } ≡ typed → NodeParts registry schema operator a b typed
made_parts registry schema operator a b first second typed taken f s h is =
    let o = operands_taken operator first.type second.type taken h in
    let can = pair_becomes operator first.type second.type taken o in
    record {
      first = first;
      first_is = f;
      second = second;
      second_is = s;
      left = o.pair.left;
      right = o.pair.right;
      type = o.pair.type;
      takes = h ∙ ap Ok (sym o.pair.is);
      left_can = can.0;
      right_can = can.1;
      is = ap (λ (t : Taken). record { type = t.type; many = first.many || (second.many || false) }) o.pair.is ∙ is;
    }

node_parts : (registry : Registry) (schema : Columns) (operator : Operator) (a b : Expression) (typed : Typed) → typing registry schema (operator_node operator a b) ≡ Ok typed → NodeParts registry schema operator a b typed
node_parts registry schema operator a b typed h =
    let p = typed_parts registry schema (BinaryOp operator) (more a (more b no_more)) typed h in
    let parts : List Typed → Type 0 = λ below. rule registry schema (BinaryOp operator) below ≡ Ok p.ruling → NodeParts registry schema operator a b typed in
    by_children parts (typing registry schema a) (typing_all registry schema (more b no_more)) p.below p.children_typed (λ first rest f r.
    by_children (λ ts. parts (first ∷ ts)) (typing registry schema b) (typing_all registry schema no_more) rest r (λ second none s n.
    by_no_children (λ ts. parts (first ∷ second ∷ ts)) none n (λ rules.
    ruled_is (λ ruling. ruling.own ≡ typed → NodeParts registry schema operator a b typed) (operator_types operator (first.type ∷ second.type ∷ [])) (first.many || (second.many || false)) p.ruling rules (λ taken found is. made_parts registry schema operator a b first second typed taken f s found is) p.is))) p.rules

-- a node's typing over typed operands, and its meaning
node_typing : (registry : Registry) (schema : Columns) (operator : Operator) (a b : Expression) (first second : Typed) (left right type : Ty) → typing registry schema a ≡ Ok first → typing registry schema b ≡ Ok second → operator_types operator (first.type ∷ second.type ∷ []) ≡ Ok (pair_to left right type) → typing registry schema (operator_node operator a b) ≡ Ok (record { type = type; many = first.many || (second.many || false) })
node_typing registry schema operator a b first second left right type f s h =
    ap (λ r. then_typed (typed_before r (typed_before (typing registry schema b) (Ok []))) (typing_rule registry schema (BinaryOp operator))) f
    ∙ ap (λ r. then_typed (typed_before (Ok first) (typed_before r (Ok []))) (typing_rule registry schema (BinaryOp operator))) s
    ∙ ap (λ o. own_typed (ruled_as o (first.many || (second.many || false)))) h

-- an operator's columns, of what two operands give
abbrev pair_given : Outcome (List Val) → Outcome (List Val) → (List Val → List Val → Outcome (List Val)) → Outcome (List Val)
pair_given left right next = then_do left (λ l. then_do right (next l))

two_given : (registry : Registry) (frame : Frame) (rows : List ℕ) (operator : Operator) (left right type : Ty) (l r : Outcome (List Val)) → then_do (given ((λ rows. l) ∷ (λ rows. r) ∷ []) rows) (kernel registry frame rows (BinaryOp operator) (left ∷ right ∷ []) type) ≡ pair_given l r (operator_values operator left type)
two_given registry frame rows operator left right type (Done xs) (Done ys) = refl
two_given registry frame rows operator left right type (Done xs) Fault = refl
two_given registry frame rows operator left right type (Done xs) Stuck = refl
two_given registry frame rows operator left right type Fault r = refl
two_given registry frame rows operator left right type Stuck r = refl

pair_meaning : (registry : Registry) (frame : Frame) (operator : Operator) (a b : Expression) (first second : Typed) (left right type : Ty) → typing registry frame.schema a ≡ Ok first → typing registry frame.schema b ≡ Ok second → operator_types operator (first.type ∷ second.type ∷ []) ≡ Ok (pair_to left right type) → (rows : List ℕ) → meaning registry frame (operator_node operator a b) rows ≡ pair_given (cast_meaning first.type left NonStrict (meaning registry frame a) rows) (cast_meaning second.type right NonStrict (meaning registry frame b) rows) (operator_values operator left type)
pair_meaning registry frame operator a b first second left right type f s h rows =
    let m = meaning registry frame a in
    let n = meaning registry frame b in
    ap (λ r. node_meaning registry frame (BinaryOp operator) (typed_before r (typed_before (typing registry frame.schema b) (Ok []))) (m ∷ n ∷ []) rows) f
    ∙ ap (λ r. node_meaning registry frame (BinaryOp operator) (typed_before (Ok first) (typed_before r (Ok []))) (m ∷ n ∷ []) rows) s
    ∙ ap (λ o. ruled_meaning registry frame (BinaryOp operator) (first.type ∷ second.type ∷ []) (ruled_as o (first.many || (second.many || false))) (m ∷ n ∷ []) rows) h
    ∙ two_given registry frame rows operator left right type (cast_meaning first.type left NonStrict m rows) (cast_meaning second.type right NonStrict n rows)

either_many : (first second : Bool) → (second || (first || false)) ≡ (first || (second || false))
either_many true true = refl
either_many true false = refl
either_many false true = refl
either_many false false = refl

-- two columns in either order, none of which is stuck
both_turned : (P Q : List Val → Type 0) (l r : Outcome (List Val)) (f g : List Val → List Val → Outcome (List Val)) → Meets P l → Meets Q r → ((xs ys : List Val) → g ys xs ≡ f xs ys) → pair_given r l g ≡ pair_given l r f
both_turned P Q (Done xs) (Done ys) f g h k same = same xs ys
both_turned P Q (Done xs) Fault f g h k same = refl
both_turned P Q Fault (Done ys) f g h k same = refl
both_turned P Q Fault Fault f g h k same = refl
both_turned P Q Stuck r f g h k same = absurd h
both_turned P Q (Done xs) Stuck f g h k same = absurd k
both_turned P Q Fault Stuck f g h k same = absurd k

module _ (operator other : Operator) (takes : TakesSwapped operator other) where
  pub swapped_typing : (registry : Registry) (schema : Columns) (a b : Expression) (typed : Typed) → typing registry schema (operator_node operator a b) ≡ Ok typed → typing registry schema (operator_node other b a) ≡ Ok typed
  swapped_typing registry schema a b typed h =
      let p = node_parts registry schema operator a b typed h in
      node_typing registry schema other b a p.second p.first p.right p.left p.type p.second_is p.first_is (takes p.first.type p.second.type p.left p.right p.type p.takes)
      ∙ ap (λ many. Ok (record { type = p.type; many = many })) (either_many p.first.many p.second.many)
      ∙ ap Ok p.is

  pub swapped_meaning : GivesSwapped operator other → (registry : Registry) (frame : Frame) (a b : Expression) (typed : Typed) → IsFrame frame → typing registry frame.schema (operator_node operator a b) ≡ Ok typed → (rows : List ℕ) → meaning registry frame (operator_node other b a) rows ≡ meaning registry frame (operator_node operator a b) rows
  swapped_meaning gives registry frame a b typed of h rows =
      let p = node_parts registry frame.schema operator a b typed h in
      let l = cast_meaning p.first.type p.left NonStrict (meaning registry frame a) in
      let r = cast_meaning p.second.type p.right NonStrict (meaning registry frame b) in
      let left_means = cast_means p.first.type p.left NonStrict p.first.many (meaning registry frame a) (become_fits p.first.type p.left p.left_can) (meaning_has_type registry frame of a p.first p.first_is) rows in
      let right_means = cast_means p.second.type p.right NonStrict p.second.many (meaning registry frame b) (become_fits p.second.type p.right p.right_can) (meaning_has_type registry frame of b p.second p.second_is) rows in
      pair_meaning registry frame other b a p.second p.first p.right p.left p.type p.second_is p.first_is (takes p.first.type p.second.type p.left p.right p.type p.takes) rows
      ∙ both_turned (AreOf (record { type = p.left; many = p.first.many })) (AreOf (record { type = p.right; many = p.second.many })) (l rows) (r rows) (operator_values operator p.left p.type) (operator_values other p.right p.type) left_means right_means (gives p.left p.right p.type)
      ∙ sym (pair_meaning registry frame operator a b p.first p.second p.left p.right p.type p.first_is p.second_is p.takes rows)
