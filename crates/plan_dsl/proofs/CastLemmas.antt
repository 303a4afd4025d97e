-- Operands that are made of types: by casts round them, or as literals in place of numbers without a type. They have the
-- type, the name that they had, and what they meant, cast.
use Rattle.std.proofs.Common.{◌≡◌, ℕ, Bool, true, false, cond, List, [], ◌∷◌, Ok, Err, refl, sym, ap, ◌∙◌, subst}
use Rattle.std.specs.Prelude.{ℤ, Some, unwrap_or}
use Rattle.std.proofs.lemmas.Bool.{and_parts, and_from}
use Rattle.plan_types.specs.Types.{Ty, Untyped, is_integer, is_known, same_type}
use Rattle.plan_types.specs.TypeLaws.{same_type_own, same_type_exact}
use Rattle.plan_types.specs.Outcomes.{Outcome, Done, Fault, Stuck, then_do}
use Rattle.plan_types.specs.Schemas.{Name, Columns}
use Rattle.plan_types.specs.Values.{Val, IntValue, in_range}
use Rattle.plan_types.specs.Casts.{can_cast}
use Rattle.plan_types.specs.CommonTypes.{type_alone}
use Rattle.plan_types.proofs.CommonLemmas.{HasNumber, alone_itself, literal_has}
use Rattle.plan_types.specs.Frames.{Frame}
use Rattle.plan_types.specs.declared.error.ErrorKind.TheVariants.{InvalidOperation}
use Rattle.plan_types.specs.declared.dtype.CastOptions.{CastOptions}
use Rattle.plan_types.specs.declared.dtype.CastOptions.TheVariants.{NonStrict}
use Rattle.plan_dsl.specs.Registry.{Registry}
use Rattle.plan_dsl.specs.Trees.{Trees, node, no_more, more}
use Rattle.plan_dsl.specs.Aliases.{renamed}
use Rattle.plan_dsl.specs.Ops.{Op, LiteralOp, CastOp, AliasOp, Expression}
use Rattle.plan_dsl.specs.Literals.{is_literal, settled_type}
use Rattle.plan_dsl.specs.Names.{label_of}
use Rattle.plan_dsl.specs.Typing.{Ruling, cast_taken, own_typed, ruled_as, typing, typing_rule, then_typed, typed_before}
use Rattle.plan_dsl.specs.Kernels.{cast_column, cast_meaning, kernel}
use Rattle.plan_dsl.specs.Meaning.{applied, meaning, node_meaning, ruled_meaning}
use Rattle.plan_dsl.proofs.AliasLemmas.{alias, alias_means, alias_typing}
use Rattle.plan_dsl.proofs.SignatureLemmas.{IsTakenTo, makes, passes}
use Rattle.plan_dsl.proofs.CastMeaningLemmas.{cast_own, cast_same, column_by_column}
use Rattle.plan_dsl.proofs.LiteralLemmas.{bare, child_is, number_node, under, untyped, typed_known, literal_means, literal_typing, becomes_literal, number_cast, own_number_cast}
use Rattle.plan_dsl.specs.Strictness.{CanBecome, integer_has, number_literal, cast_to, number_as, changed, as_operand}

-- the kernel of a cast, over what an operand gives
one_given : (registry : Registry) (frame : Frame) (rows : List ℕ) (from target : Ty) (options : CastOptions) (o : Outcome (List Val)) → then_do (then_do o (λ column. Done (column ∷ []))) (kernel registry frame rows (CastOp target options) (from ∷ []) target) ≡ then_do o (cast_column from target options)
one_given registry frame rows from target options (Done column) = refl
one_given registry frame rows from target options Fault = refl
one_given registry frame rows from target options Stuck = refl

-- an operand of the first type that was made one of the second has that type, its name, and what it meant, cast
pub record IsMade (registry : Registry) (schema : Columns) (from target : Ty) (many : Bool) (t made : Expression) : Type 0 where
  pub typing : typing registry schema made ≡ Ok (record { type = target; many = many })
  pub name : label_of made ≡ label_of t
  pub meaning : (frame : Frame) → frame.schema ≡ schema → meaning registry frame made ≡ cast_meaning from target NonStrict (meaning registry frame t)

-- a cast that is put round an operand of a type of columns
module _ (registry : Registry) (schema : Columns) (from target : Ty) (t : Expression) (many : Bool) (typed : typing registry schema t ≡ Ok (record { type = from; many = many })) (known_from : is_known from ≡ true) (casts : can_cast from target ≡ true) where
  abbrev ruling : Ruling
  ruling = record { operands = from ∷ []; own = record { type = target; many = many } }

  takes_cast : ruled_as (cast_taken target (type_alone from)) many ≡ Ok ruling
  takes_cast = ap (λ found. ruled_as (cast_taken target found) many) (alone_itself from known_from) ∙ ap (λ b. ruled_as (cond b (Ok (record { operands = from ∷ []; type = target })) (Err InvalidOperation)) many) casts

  cast_typing : typing registry schema (cast_to target t) ≡ Ok (record { type = target; many = many })
  cast_typing = ap (λ r. then_typed (typed_before r (Ok [])) (typing_rule registry schema (CastOp target NonStrict))) typed ∙ ap own_typed takes_cast

  cast_means : (frame : Frame) → frame.schema ≡ schema → meaning registry frame (cast_to target t) ≡ cast_meaning from target NonStrict (meaning registry frame t)
  cast_means frame same =
      let op = CastOp target NonStrict in
      let m = meaning registry frame t in
      let there = subst (λ s. typing registry s t ≡ Ok (record { type = from; many = many })) (sym same) typed in
      ap (λ r. node_meaning registry frame op (typed_before r (Ok [])) (m ∷ [])) there
      ∙ ap (λ r. ruled_meaning registry frame op (from ∷ []) r (m ∷ [])) takes_cast
      ∙ ap (λ m. applied registry frame op ruling (m ∷ [])) (cast_own from m)
      ∙ (λ i rows. one_given registry frame rows from target NonStrict (m rows) i)
      ∙ column_by_column from target NonStrict m

  cast_made : IsMade registry schema from target many t (cast_to target t)
  cast_made = record { typing = cast_typing; name = refl; meaning = cast_means }

-- a number without a type
module _ (registry : Registry) (schema : Columns) (number : ℤ) (literal : is_literal (Untyped number) (IntValue number) ≡ true) where
  abbrev t : Expression
  t = untyped number

  means_number : (frame : Frame) → meaning registry frame t ≡ (λ rows. Done (IntValue number ∷ []))
  means_number frame = literal_means registry frame (Untyped number) (IntValue number) literal

  -- as a literal of a type that has it
  literal_made : (target : Ty) → is_known target ≡ true → in_range target number ≡ true → IsMade registry schema (Untyped number) target false t (number_literal target number)
  literal_made target known has =
      let literal = becomes_literal target number known has in
      record {
        typing = literal_typing registry schema target (IntValue number) literal;
        name = refl;
        meaning = λ frame same.
            literal_means registry frame target (IntValue number) literal
            ∙ sym (number_cast number target known has)
            ∙ ap (cast_meaning (Untyped number) target NonStrict) (sym (means_number frame));
      }

  -- as that of the type that it has alone, with a cast round it to one that lacks it
  module _ (target own : Ty) (known : is_known target ≡ true) (lacks : integer_has target number ≡ false) (alone : type_alone (Untyped number) ≡ Some own) (casts : can_cast own target ≡ true) where
    has : HasNumber number own
    has = literal_has number own alone

    other : same_type own target ≡ false
    other =
        elim (same_type own target) as (λ b. same_type own target ≡ b → b ≡ false) [
          | true ↦ λ e. let here : integer_has target number ≡ true = subst (λ type. integer_has type number ≡ true) (same_type_exact own target e) (and_from (is_integer own) (in_range own number) has.2 has.0) in cc
          | false ↦ λ e. refl
        ] refl

    own_made : IsMade registry schema (Untyped number) own false t (number_literal own number)
    own_made = literal_made own has.1 has.0

    lacking_made : IsMade registry schema (Untyped number) target false t (cast_to target (number_literal own number))
    lacking_made = record {
      typing = cast_typing registry schema own target (number_literal own number) false own_made.typing has.1 casts;
      name = own_made.name;
      meaning = λ frame same.
          cast_means registry schema own target (number_literal own number) false own_made.typing has.1 casts frame same
          ∙ ap (cast_meaning own target NonStrict) (literal_means registry frame own (IntValue number) (becomes_literal own number has.1 has.0))
          ∙ own_number_cast number own target has.2 other known
          ∙ ap (cast_meaning (Untyped number) target NonStrict) (sym (means_number frame));
    }

  bare_made : (target : Ty) → CanBecome (Untyped number) target → IsMade registry schema (Untyped number) target false t (number_as number target)
  bare_made target can =
      elim (integer_has target number) as (λ b. integer_has target number ≡ b → IsMade registry schema (Untyped number) target false t (cond b (number_literal target number) (cast_to target (number_literal (settled_type (Untyped number)) number)))) [
        | true ↦ λ e. literal_made target can.known (and_parts (is_integer target) (in_range target number) e).1
        | false ↦ λ e.
            let own = can.has number refl e in
            subst (λ type. IsMade registry schema (Untyped number) target false t (cast_to target (number_literal type number))) (sym (ap (λ found. unwrap_or found (Untyped number)) own.1)) (lacking_made target own.0 can.known e own.1 own.2)
      ] refl

-- an alias of what is made
alias_made : (registry : Registry) (schema : Columns) (from target : Ty) (many : Bool) (name : Name) (tree made : Expression) → typing registry schema tree ≡ Ok (record { type = from; many = many }) → IsMade registry schema from target many tree made → IsMade registry schema from target many (alias name tree) (alias name made)
alias_made registry schema from target many name tree made typed is = record {
  typing = alias_typing registry schema name made _ is.typing;
  name = refl;
  meaning = λ frame same.
      alias_means registry frame name made _ (ap (λ s. typing registry s made) same ∙ is.typing)
      ∙ is.meaning frame same
      ∙ sym (ap (cast_meaning from target NonStrict) (alias_means registry frame name tree _ (ap (λ s. typing registry s tree) same ∙ typed)));
}

-- a number without a type, maybe under aliases
module _ (registry : Registry) (schema : Columns) (number : ℤ) (many : Bool) (target : Ty) (can : CanBecome (Untyped number) target) where
  abbrev IsNumberMade : Expression → Type 0
  IsNumberMade tree = IsMade registry schema (Untyped number) target many tree (renamed tree (number_as number target))

  node_made : (op : Op) (children : Trees Op) → typing registry schema (node op children) ≡ Ok (record { type = Untyped number; many = many }) → ((name : Name) (tree : Expression) → children ≡ more tree no_more → typing registry schema tree ≡ Ok (record { type = Untyped number; many = many }) → IsNumberMade tree) → IsNumberMade (node op children)
  node_made op children h each =
      elim (number_node registry schema number op children many h) as (λ _. IsNumberMade (node op children)) [
        | bare op_is none single literal ↦
            let there = subst (λ m. IsMade registry schema (Untyped number) target m (untyped number) (number_as number target)) (sym single) (bare_made registry schema number literal target can) in
            subst (λ o. IsNumberMade (node o children)) (sym op_is) (subst (λ c. IsNumberMade (node (LiteralOp (Untyped number) (IntValue number)) c)) (sym none) there)
        | under name tree op_is over typed ↦
            subst (λ o. IsNumberMade (node o children)) (sym op_is) (subst (λ c. IsNumberMade (node (AliasOp name) c)) (sym over)
            (alias_made registry schema (Untyped number) target many name tree (renamed tree (number_as number target)) typed (each name tree over typed)))
      ]

  pub number_made : (tree : Expression) → typing registry schema tree ≡ Ok (record { type = Untyped number; many = many }) → IsNumberMade tree
  number_made (node op (more child no_more)) h =
      node_made op (more child no_more) h (λ name tree over typed. let same = child_is child tree over in subst IsNumberMade same (number_made child (ap (typing registry schema) same ∙ typed)))
  number_made (node op children) h = node_made op children h (λ name tree over typed. cc)

module _ (registry : Registry) (schema : Columns) (target : Ty) (t : Expression) (many : Bool) where
  changed_made : (from : Ty) → typing registry schema t ≡ Ok (record { type = from; many = many }) → CanBecome from target → IsMade registry schema from target many t (changed from target t)
  changed_made (Untyped number) typed can = number_made registry schema number many target can t typed
  changed_made from typed can = cast_made registry schema from target t many typed (typed_known registry schema t from many typed (λ number e. cc)) (can.casts (λ number e. cc))

  -- an operand that has the type stays
  same_made : (from : Ty) → typing registry schema t ≡ Ok (record { type = from; many = many }) → same_type from target ≡ true → IsMade registry schema from target many t t
  same_made from typed same = record {
    typing = typed ∙ ap (λ x. Ok (record { type = x; many = many })) (same_type_exact from target same);
    name = refl;
    meaning = λ frame of. sym (cast_same from target NonStrict (meaning registry frame t) same);
  }

  -- the operand as it is taken
  pub operand_made : (own from : Ty) → typing registry schema t ≡ Ok (record { type = from; many = many }) → IsTakenTo own from target → IsMade registry schema from target many t (as_operand from target t)
  operand_made own from typed (makes can) =
      elim (same_type from target) as (λ b. same_type from target ≡ b → IsMade registry schema from target many t (cond b t (changed from target t))) [ true ↦ same_made from typed | false ↦ λ e. changed_made from typed can ] refl
  operand_made own from typed (passes kept owned) =
      let same = ap (same_type from) (sym kept) ∙ same_type_own from in
      subst (λ b. IsMade registry schema from target many t (cond b t (changed from target t))) (sym same) (same_made from typed same)
