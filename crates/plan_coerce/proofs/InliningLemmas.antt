-- Casts that can be told beforehand: what stands for one says the same, and what stays is as it was.
use Rattle.std.proofs.Common.{◌≡◌, ℕ, Bool, true, false, cond, List, [], ◌∷◌, Option, Some, None, Ok, Err, refl, sym, ap, ◌∙◌, subst}
use Rattle.std.specs.Prelude.{◌&&◌, unwrap_or}
use Rattle.std.proofs.lemmas.Bool.{and_parts, and_from}
use Rattle.plan_types.specs.Types.{Ty, Truth, is_known, same_type}
use Rattle.plan_types.specs.TypeLaws.{same_type_exact, same_type_own}
use Rattle.plan_types.specs.Casts.{Converted, Gives, Fails, can_cast, cast}
use Rattle.plan_types.specs.Frames.{Frame, Row}
use Rattle.plan_types.specs.Outcomes.{Outcome, Done, Fault, Stuck, then_do}
use Rattle.plan_types.specs.Schemas.{Columns}
use Rattle.plan_types.specs.Values.{Val, NullValue}
use Rattle.plan_types.specs.declared.dtype.CastOptions.{CastOptions}
use Rattle.plan_types.specs.declared.error.ErrorKind.{ErrorKind}
use Rattle.plan_types.specs.declared.error.ErrorKind.TheVariants.{InvalidOperation}
use Rattle.plan_types.proofs.CastLemmas.{source_known}
use Rattle.plan_types.proofs.CommonLemmas.{alone_itself}
use Rattle.plan_dsl.specs.declared.operator.Operator.{Operator}
use Rattle.plan_dsl.specs.declared.operator.Operator.TheVariants.{LogicalAnd, LogicalOr}
use Rattle.plan_dsl.specs.Aliases.{IsCore, are_core, is_core, is_core_op}
use Rattle.plan_dsl.specs.InlinedCasts.{all_inlined, cast_of, converted, in_place_of, inlined, is_logical, literal_cast, literal_given, literal_with}
use Rattle.plan_dsl.specs.Kernels.{Meaning, cast_column, cast_values, given, kernel, stuck, value_before}
use Rattle.plan_dsl.specs.Literals.{is_literal}
use Rattle.plan_dsl.specs.Meaning.{meaning, meaning_all, applied, node_meaning, ruled_meaning}
use Rattle.plan_dsl.specs.OperatorTypes.{is_truth_or_null, pair_to, truth_types, with_types}
use Rattle.plan_dsl.specs.Ops.{Op, LiteralOp, BinaryOp, CastOp, Expression}
use Rattle.plan_dsl.specs.Registry.{Registry}
use Rattle.plan_dsl.specs.Strictness.{IsSame, IsStrict, is_strict_over, is_strict_rule}
use Rattle.plan_dsl.specs.Trees.{Trees, node, no_more, more, AllRelated}
use Rattle.plan_dsl.specs.Typing.{Typed, Ruling, cast_taken, own_typed, rule, ruled_as, some_many, then_typed, typed_before, types_of, typing, typing_all, typing_rule}
use Rattle.plan_dsl.proofs.CastMeaningLemmas.{cast_own, if_true}
use Rattle.plan_dsl.proofs.LiteralLemmas.{literal_means, literal_typing}
use Rattle.plan_dsl.proofs.SameLemmas.{node_same, same_itself, same_then}
use Rattle.plan_dsl.proofs.TypingLemmas.{ok_same, typed_parts}

-- ---- what a literal in place of a cast is

pub record GivesLiteral (from : Ty) (value : Val) (target : Ty) (options : CastOptions) (e : Expression) : Type 0 where
  pub literal : is_literal from value ≡ true
  pub casts : can_cast from target ≡ true
  pub made : Val
  pub gives : converted from value target options ≡ Gives made
  pub fits : is_literal target made ≡ true
  pub is : e ≡ node (LiteralOp target made) no_more

pub some_where : {A : Type 0} (b : Bool) (x e : A) → cond b (Some x) None ≡ Some e → (b ≡ true) × (e ≡ x)
some_where true x e h = (refl, cc)
some_where false x e h = cc

with_facts : (target : Ty) (value : Val) (e : Expression) → literal_with target value ≡ Some e → (is_literal target value ≡ true) × (e ≡ node (LiteralOp target value) no_more)
with_facts target NullValue e h = cc
with_facts target value e h = some_where (is_literal target value) (node (LiteralOp target value) no_more) e h

given_facts : (target : Ty) (found : Converted) (e : Expression) → literal_given target found ≡ Some e → (made : Val) × (found ≡ Gives made) × (is_literal target made ≡ true) × (e ≡ node (LiteralOp target made) no_more)
given_facts target Fails e h = cc
given_facts target (Gives value) e h = let facts = with_facts target value e h in (value, refl, facts.0, facts.1)

pub gives_literal : (from : Ty) (value : Val) (target : Ty) (options : CastOptions) (e : Expression) → literal_cast from value target options ≡ Some e → GivesLiteral from value target options e
gives_literal from value target options e =
    elim (is_literal from value && can_cast from target) as (λ b. (is_literal from value && can_cast from target) ≡ b → cond b (literal_given target (converted from value target options)) None ≡ Some e → GivesLiteral from value target options e) [
      | true ↦ λ both h.
          let parts = and_parts (is_literal from value) (can_cast from target) both in
          let facts = given_facts target (converted from value target options) e h in
          record { literal = parts.0; casts = parts.1; made = facts.0; gives = facts.1; fits = facts.2; is = facts.3 }
      | false ↦ λ none h. cc
    ] refl

-- ---- a cast and what stands for it say the same

module _ (registry : Registry) (schema : Columns) (target : Ty) (options : CastOptions) where
  cast_ruled : (from : Ty) (many : Bool) → can_cast from target ≡ true → rule registry schema (CastOp target options) (record { type = from; many = many } ∷ []) ≡ Ok (record { operands = from ∷ []; own = record { type = target; many = many } })
  cast_ruled from many casts =
      ap (λ r. ruled_as r many) (ap (cast_taken target) (alone_itself from (source_known from target casts)) ∙ if_true (can_cast from target) (Ok (record { operands = from ∷ []; type = target })) (Err InvalidOperation) casts)

  cast_typing : (from : Ty) (many : Bool) (x : Expression) → can_cast from target ≡ true → typing registry schema x ≡ Ok (record { type = from; many = many }) → typing registry schema (node (CastOp target options) (more x no_more)) ≡ Ok (record { type = target; many = many })
  cast_typing from many x casts h =
      ap (λ r. then_typed (typed_before r (Ok [])) (typing_rule registry schema (CastOp target options))) h ∙ ap own_typed (cast_ruled from many casts)

  -- a cast means what its kernel makes of what the operand means
  cast_means : (frame : Frame) (from : Ty) (many : Bool) (x : Expression) (m : Meaning) → frame.schema ≡ schema → can_cast from target ≡ true → typing registry frame.schema x ≡ Ok (record { type = from; many = many }) → rule registry frame.schema (CastOp target options) (record { type = from; many = many } ∷ []) ≡ Ok (record { operands = from ∷ []; own = record { type = target; many = many } }) → meaning registry frame x ≡ m → meaning registry frame (node (CastOp target options) (more x no_more)) ≡ (λ rows. then_do (given (m ∷ []) rows) (kernel registry frame rows (CastOp target options) (from ∷ []) target))
  cast_means frame from many x m over casts h ruled is =
      let ruling : Ruling = record { operands = from ∷ []; own = record { type = target; many = many } } in
      ap (λ r. node_meaning registry frame (CastOp target options) (typed_before r (Ok [])) (meaning registry frame x ∷ [])) h
      ∙ ap (λ r. ruled_meaning registry frame (CastOp target options) (from ∷ []) r (meaning registry frame x ∷ [])) ruled
      ∙ ap (λ n. applied registry frame (CastOp target options) ruling (n ∷ [])) (cast_own from (meaning registry frame x) ∙ is)

  -- a column stays in a cast to its own type
  own_column : (same : same_type target target ≡ true) (frame : Frame) (rows : List ℕ) (o : Outcome (List Val)) → then_do (then_do o (λ column. then_do (Done []) (λ columns. Done (column ∷ columns)))) (kernel registry frame rows (CastOp target options) (target ∷ []) target) ≡ o
  own_column same frame rows (Done values) = if_true (same_type target target) (Done values) (cast_values target target options values) same
  own_column same frame rows Fault = refl
  own_column same frame rows Stuck = refl

  -- so a cast to the own type says the same
  pub own_cast_same : (many : Bool) (x : Expression) → can_cast target target ≡ true → typing registry schema x ≡ Ok (record { type = target; many = many }) → IsSame registry schema (node (CastOp target options) (more x no_more)) x
  own_cast_same many x casts h = record {
    typing = h ∙ sym (cast_typing target many x casts h);
    name = refl;
    meaning = λ rows.
        let frame : Frame = record { schema = schema; rows = rows } in
        let m = meaning registry frame x in
        sym (cast_means frame target many x m refl casts h (cast_ruled target many casts) refl ∙ (λ i rows. own_column (same_type_own target) frame rows (m rows) i));
  }

  one_converted : (from : Ty) (value made : Val) → converted from value target options ≡ Gives made → cast_column from target options (value ∷ []) ≡ Done (made ∷ [])
  one_converted from value made =
      elim (same_type from target) as (λ b. cond b (Gives value) (cast value from target options) ≡ Gives made → cond b (Done (value ∷ [])) (cast_values from target options (value ∷ [])) ≡ Done (made ∷ [])) [ true ↦ λ e. cc | false ↦ λ e. ap (λ c. value_before c (Done [])) e ]

  literal_same : (from : Ty) (value made : Val) → is_literal from value ≡ true → can_cast from target ≡ true → converted from value target options ≡ Gives made → is_literal target made ≡ true → IsSame registry schema (node (CastOp target options) (more (node (LiteralOp from value) no_more) no_more)) (node (LiteralOp target made) no_more)
  literal_same from value made literal casts gives fits =
      let h = literal_typing registry schema from value literal in
      record {
        typing = literal_typing registry schema target made fits ∙ sym (cast_typing from false (node (LiteralOp from value) no_more) casts h);
        name = refl;
        meaning = λ rows.
            let frame : Frame = record { schema = schema; rows = rows } in
            literal_means registry frame target made fits
            ∙ sym (cast_means frame from false (node (LiteralOp from value) no_more) (λ rows. Done (value ∷ [])) refl casts h (cast_ruled from false casts) (literal_means registry frame from value literal) ∙ ap (λ o. λ rows. o) (one_converted from value made gives));
      }

-- ---- casts of logical operators

truths_typed : (left right : Option Ty) (many : Bool) (ruling : Ruling) → ruled_as (with_types left right truth_types) many ≡ Ok ruling → ruling.own.type ≡ Truth
truths_typed None right many ruling h = cc
truths_typed (Some a) None many ruling h = cc
truths_typed (Some a) (Some b) many ruling h =
    elim (is_truth_or_null a && is_truth_or_null b) as (λ t. ruled_as (cond t (Ok (pair_to Truth Truth Truth)) (Err InvalidOperation)) many ≡ Ok ruling → ruling.own.type ≡ Truth) [
      | true ↦ λ e. ap (λ (r : Ruling). r.own.type) (ok_same _ ruling (record { operands = Truth ∷ Truth ∷ []; own = record { type = Truth; many = many } }) e refl)
      | false ↦ λ e. cc
    ] h

pub logical_truth : (registry : Registry) (schema : Columns) (operator : Operator) (typed : List Typed) (ruling : Ruling) → is_logical operator ≡ true → rule registry schema (BinaryOp operator) typed ≡ Ok ruling → ruling.own.type ≡ Truth
logical_truth registry schema LogicalAnd (a ∷ b ∷ []) ruling l h = truths_typed _ _ (some_many (a ∷ b ∷ [])) ruling h
logical_truth registry schema LogicalOr (a ∷ b ∷ []) ruling l h = truths_typed _ _ (some_many (a ∷ b ∷ [])) ruling h
logical_truth registry schema LogicalAnd [] ruling l h = cc
logical_truth registry schema LogicalAnd (a ∷ []) ruling l h = cc
logical_truth registry schema LogicalAnd (a ∷ b ∷ c ∷ rest) ruling l h = cc
logical_truth registry schema LogicalOr [] ruling l h = cc
logical_truth registry schema LogicalOr (a ∷ []) ruling l h = cc
logical_truth registry schema LogicalOr (a ∷ b ∷ c ∷ rest) ruling l h = cc
logical_truth registry schema operator typed ruling l h = cc

-- ---- an expression without these casts says the same

module _ (registry : Registry) (schema : Columns) where
  -- what has no typing means nothing
  untyped_stuck : (rows : List Row) (t : Expression) (kind : ErrorKind) → typing registry schema t ≡ Err kind → meaning registry (record { schema = schema; rows = rows }) t ≡ stuck
  untyped_stuck rows (node op ts) kind h =
      let frame : Frame = record { schema = schema; rows = rows } in
      elim (typing_all registry schema ts) as (λ r. then_typed r (typing_rule registry schema op) ≡ Err kind → node_meaning registry frame op r (meaning_all registry frame ts) ≡ stuck) [
        | Err k ↦ λ e. refl
        | Ok typed ↦ λ e. elim (rule registry schema op typed) as (λ r. own_typed r ≡ Err kind → ruled_meaning registry frame op (types_of typed) r (meaning_all registry frame ts) ≡ stuck) [ Err k ↦ λ f. refl | Ok ruling ↦ λ f. cc ] e
      ] h

  module _ (target : Ty) (options : CastOptions) where
    abbrev over : Expression → Expression
    over x = node (CastOp target options) (more x no_more)

    -- a cast of what has no typing has none either
    untyped_cast_same : (x : Expression) (kind : ErrorKind) → typing registry schema x ≡ Err kind → IsSame registry schema (over x) x
    untyped_cast_same x kind h =
        let none : typing registry schema (over x) ≡ Err kind = ap (λ r. then_typed (typed_before r (Ok [])) (typing_rule registry schema (CastOp target options))) h in
        record { typing = h ∙ sym none; name = refl; meaning = λ rows. untyped_stuck rows x kind h ∙ sym (untyped_stuck rows (over x) kind none) }

    of_literal : (from : Ty) (value : Val) (found : Option Expression) → literal_cast from value target options ≡ found → IsSame registry schema (over (node (LiteralOp from value) no_more)) (unwrap_or found (over (node (LiteralOp from value) no_more)))
    of_literal from value None is = same_itself registry schema _
    of_literal from value (Some e) is =
        let g = gives_literal from value target options e is in
        subst (IsSame registry schema (over (node (LiteralOp from value) no_more))) (sym g.is) (literal_same registry schema target options from value g.made g.literal g.casts g.gives g.fits)

    of_typed_operator : (operator : Operator) (operands : Trees Op) → is_logical operator ≡ true → same_type Truth target ≡ true → (own : Typed) → typing registry schema (node (BinaryOp operator) operands) ≡ Ok own → IsSame registry schema (over (node (BinaryOp operator) operands)) (node (BinaryOp operator) operands)
    of_typed_operator operator operands logical truth own h =
        let p = typed_parts registry schema (BinaryOp operator) operands own h in
        let same : Truth ≡ target = same_type_exact Truth target truth in
        let type : own.type ≡ target = ap (λ (t : Typed). t.type) (sym p.is) ∙ logical_truth registry schema operator p.below p.ruling logical p.rules ∙ same in
        own_cast_same registry schema target options own.many (node (BinaryOp operator) operands) (subst (λ t. can_cast t t ≡ true) same refl) (h ∙ ap (λ t. Ok (record { type = t; many = own.many })) type)

    of_operator : (operator : Operator) (operands : Trees Op) (found : Bool) → (is_logical operator && same_type Truth target) ≡ found → IsSame registry schema (over (node (BinaryOp operator) operands)) (unwrap_or (cond found (Some (node (BinaryOp operator) operands)) None) (over (node (BinaryOp operator) operands)))
    of_operator operator operands false is = same_itself registry schema _
    of_operator operator operands true is =
        let parts = and_parts (is_logical operator) (same_type Truth target) is in
        let x = node (BinaryOp operator) operands in
        elim (typing registry schema x) as (λ r. typing registry schema x ≡ r → IsSame registry schema (over x) x) [ Ok own ↦ λ h. of_typed_operator operator operands parts.0 parts.1 own h | Err kind ↦ λ h. untyped_cast_same x kind h ] refl

    pub cast_in_place : (x : Expression) → IsSame registry schema (over x) (unwrap_or (cast_of target options x) (over x))
    cast_in_place (node (LiteralOp from value) no_more) = of_literal from value (literal_cast from value target options) refl
    cast_in_place (node (BinaryOp operator) operands) = of_operator operator operands (is_logical operator && same_type Truth target) refl
    cast_in_place (node op operands) = same_itself registry schema _

  node_in_place : (op : Op) (ts : Trees Op) → IsSame registry schema (node op ts) (unwrap_or (in_place_of op ts) (node op ts))
  node_in_place (CastOp target options) (more x no_more) = cast_in_place target options x
  node_in_place op ts = same_itself registry schema (node op ts)

  mutual
    pub inlined_same : (tree : Expression) → IsSame registry schema tree (inlined tree)
    inlined_same (node op ts) =
        let mid = node_same registry schema op ts (all_inlined ts) (all_inlined_same ts) in
        same_then registry schema (node op ts) (node op (all_inlined ts)) (inlined (node op ts)) mid (node_in_place op (all_inlined ts))

    pub all_inlined_same : (trees : Trees Op) → AllRelated (IsSame registry schema) trees (all_inlined trees)
    all_inlined_same no_more = tt
    all_inlined_same (more tree trees) = (inlined_same tree, all_inlined_same trees)

  -- what stands for a cast of a literal is strict
  pub literal_strict : (target : Ty) (made : Val) → is_known target ≡ true → is_literal target made ≡ true → IsStrict registry schema (node (LiteralOp target made) no_more)
  literal_strict target made known fits =
      let ruled : rule registry schema (LiteralOp target made) [] ≡ Ok (record { operands = []; own = record { type = target; many = false } }) = ap (λ b. ruled_as (cond b (Ok (record { operands = []; type = target })) (Err InvalidOperation)) false) fits in
      and_from (is_strict_over registry schema (LiteralOp target made) (Ok [])) true (ap (is_strict_rule []) ruled ∙ known) refl

-- ---- casts that go leave no alias behind

cast_core : (target : Ty) (options : CastOptions) (x : Expression) → IsCore x → (e : Expression) → cast_of target options x ≡ Some e → IsCore e
cast_core target options (node (LiteralOp from value) no_more) core e h =
    subst IsCore (sym (gives_literal from value target options e h).is) refl
cast_core target options (node (BinaryOp operator) operands) core e h =
    subst IsCore (sym (some_where (is_logical operator && same_type Truth target) (node (BinaryOp operator) operands) e h).1) core
cast_core target options (node op operands) core e h = cc

placed_core : (op : Op) (us : Trees Op) → IsCore (node op us) → are_core us ≡ true → (found : Option Expression) → in_place_of op us ≡ found → IsCore (unwrap_or found (node op us))
placed_core op us core below None is = core
placed_core (CastOp target options) (more x no_more) core below (Some e) is = cast_core target options x (and_parts (is_core x) true below).0 e is
placed_core op us core below (Some e) is = cc

mutual
  pub inlined_core : (tree : Expression) → IsCore tree → IsCore (inlined tree)
  inlined_core (node op ts) core =
      let parts = and_parts (is_core_op op) (are_core ts) core in
      let below = all_inlined_core ts parts.1 in
      placed_core op (all_inlined ts) (and_from (is_core_op op) (are_core (all_inlined ts)) parts.0 below) below (in_place_of op (all_inlined ts)) refl

  pub all_inlined_core : (trees : Trees Op) → are_core trees ≡ true → are_core (all_inlined trees) ≡ true
  all_inlined_core no_more core = refl
  all_inlined_core (more tree trees) core =
      let parts = and_parts (is_core tree) (are_core trees) core in
      and_from (is_core (inlined tree)) (are_core (all_inlined trees)) (inlined_core tree parts.0) (all_inlined_core trees parts.1)
