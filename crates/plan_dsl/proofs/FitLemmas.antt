-- A typed expression is not stuck on a frame, and gives values of its type.
use Rattle.std.proofs.Common.{◌≡◌, Bool, List, [], ◌∷◌, Ok, refl, sym, ap, ◌∙◌, subst}
use Rattle.plan_types.specs.Types.{Ty}
use Rattle.plan_types.specs.Frames.{Frame, IsFrame}
use Rattle.plan_types.specs.declared.dtype.CastOptions.{CastOptions}
use Rattle.plan_types.specs.declared.dtype.CastOptions.TheVariants.{NonStrict}
use Rattle.plan_types.proofs.ValueLemmas.{meets_then}
use Rattle.plan_dsl.specs.Registry.{Registry}
use Rattle.plan_dsl.specs.Trees.{Trees, node, no_more, more}
use Rattle.plan_dsl.specs.Ops.{Op, Expression}
use Rattle.plan_dsl.specs.Typing.{Typed, types_of, typed_to, typing, typing_all}
use Rattle.plan_dsl.specs.Kernels.{Meaning, cast_column, cast_meaning}
use Rattle.plan_dsl.specs.Meaning.{meaning, meaning_all, node_meaning, ruled_meaning, taken_to}
use Rattle.plan_dsl.specs.Laws.{AreOf}
use Rattle.plan_dsl.proofs.CastMeaningLemmas.{cast_own, column_by_column}
use Rattle.plan_dsl.proofs.ColumnLemmas.{CastFits, become_fits, cast_column_fits}
use Rattle.plan_dsl.proofs.GivenLemmas.{AllMean, MeansType}
use Rattle.plan_dsl.proofs.OpLemmas.{keeps_rule}
use Rattle.plan_dsl.proofs.SignatureLemmas.{AllBecome, IsTakenTo, makes, passes}
use Rattle.plan_dsl.proofs.TypingLemmas.{by_children, by_no_children, typed_parts}

-- a cast of what has a type has the target's
pub cast_means : (from target : Ty) (options : CastOptions) (many : Bool) (input : Meaning) → CastFits from target options → MeansType (record { type = from; many = many }) input → MeansType (record { type = target; many = many }) (cast_meaning from target options input)
cast_means from target options many input each h =
    subst (MeansType (record { type = target; many = many })) (column_by_column from target options input) (λ rows.
    meets_then (AreOf (record { type = from; many = many })) (AreOf (record { type = target; many = many })) (input rows) (cast_column from target options) (h rows) (λ values of. cast_column_fits from target options many values each of))

-- operands that are taken have the types to which they are taken
taken_means : (own from target : Ty) (many : Bool) (input : Meaning) → IsTakenTo own from target → MeansType (record { type = from; many = many }) input → MeansType (record { type = target; many = many }) (cast_meaning from target NonStrict input)
taken_means own from target many input (makes can) h = cast_means from target NonStrict many input (become_fits from target can) h
taken_means own from target many input (passes kept owned) h =
    subst (λ t. MeansType (record { type = t; many = many }) (cast_meaning from t NonStrict input)) kept (subst (MeansType (record { type = from; many = many })) (sym (cast_own from input)) h)

taken_mean : (own : Ty) (typed : List Typed) (targets : List Ty) (operands : List Meaning) → AllBecome own (types_of typed) targets → AllMean typed operands → AllMean (typed_to typed targets) (taken_to (types_of typed) targets operands)
taken_mean own [] targets [] b h = tt
taken_mean own [] targets (m ∷ ms) b h = absurd h
taken_mean own (t ∷ ts) [] operands b h = tt
taken_mean own (t ∷ ts) (target ∷ targets) [] b h = absurd h
taken_mean own (t ∷ ts) (target ∷ targets) (m ∷ ms) b h = (taken_means own t.type target t.many m b.0 h.0, taken_mean own ts targets ms b.1 h.1)

module _ (registry : Registry) (frame : Frame) (of : IsFrame frame) where
  mutual
    pub meaning_has_type : (tree : Expression) (typed : Typed) → typing registry frame.schema tree ≡ Ok typed → MeansType typed (meaning registry frame tree)
    meaning_has_type (node op children) typed h =
        let p = typed_parts registry frame.schema op children typed h in
        let keeps = keeps_rule registry frame.schema op p.below p.ruling p.rules in
        let ms = meaning_all registry frame children in
        let mean = taken_mean p.ruling.own.type p.below p.ruling.operands ms keeps.becomes (meanings_have_types children p.below p.children_typed) in
        let is = ap (λ r. node_meaning registry frame op r ms) p.children_typed ∙ ap (λ r. ruled_meaning registry frame op (types_of p.below) r ms) p.rules in
        subst (λ own. MeansType own (meaning registry frame (node op children))) p.is
        (subst (MeansType p.ruling.own) (sym is) (keeps.gives frame refl of (taken_to (types_of p.below) p.ruling.operands ms) mean))

    pub meanings_have_types : (trees : Trees Op) (typed : List Typed) → typing_all registry frame.schema trees ≡ Ok typed → AllMean typed (meaning_all registry frame trees)
    meanings_have_types no_more typed h = by_no_children (λ ts. AllMean ts []) typed h tt
    meanings_have_types (more tree trees) typed h =
        by_children (λ ts. AllMean ts (meaning registry frame tree ∷ meaning_all registry frame trees)) _ _ typed h (λ t ts first rest. (meaning_has_type tree t first, meanings_have_types trees ts rest))
