-- A strict expression gives what it means: its operands have the types to which they would be cast.
use Rattle.std.proofs.Common.{◌≡◌, ◌&&◌, true, List, [], ◌∷◌, Ok, refl, sym, ap, ◌∙◌}
use Rattle.std.proofs.lemmas.Bool.{and_parts, and_from}
use Rattle.plan_types.specs.Frames.{Frame}
use Rattle.plan_dsl.specs.Registry.{Registry}
use Rattle.plan_dsl.specs.Trees.{Trees, node, no_more, more}
use Rattle.plan_dsl.specs.Aliases.{IsCore, are_core, is_core, is_core_op}
use Rattle.plan_dsl.specs.Ops.{Op, Expression}
use Rattle.plan_dsl.specs.Typing.{Typed, types_of, typing_all}
use Rattle.plan_dsl.specs.Kernels.{Meaning, stuck}
use Rattle.plan_dsl.specs.Meaning.{applied, meaning, meaning_all, node_meaning, ruled_meaning, taken_to}
use Rattle.plan_dsl.specs.Strictness.{AllStrict, IsStrict, IsStrictOver, are_strict, is_strict, is_strict_over, takes_own}
use Rattle.plan_dsl.specs.StrictRun.{strict_run, strict_run_all, node_run, ruled_run}
use Rattle.plan_dsl.proofs.TypingLemmas.{by_children, by_no_children}
use Rattle.plan_dsl.proofs.StrictLemmas.{strict_parts}
use Rattle.plan_dsl.proofs.CastMeaningLemmas.{if_true, cast_own}

module _ (registry : Registry) (frame : Frame) where
  -- typed operands that are taken to their own types stay
  own_taken : (trees : Trees Op) (typed : List Typed) → typing_all registry frame.schema trees ≡ Ok typed → taken_to (types_of typed) (types_of typed) (meaning_all registry frame trees) ≡ meaning_all registry frame trees
  own_taken no_more typed h = by_no_children (λ ts. taken_to (types_of ts) (types_of ts) [] ≡ []) typed h refl
  own_taken (more tree trees) typed h =
      let m = meaning registry frame tree in
      let ms = meaning_all registry frame trees in
      by_children (λ ts. taken_to (types_of ts) (types_of ts) (m ∷ ms) ≡ (m ∷ ms)) _ _ typed h (λ t ts first rest. ap (λ x. x ∷ taken_to (types_of ts) (types_of ts) ms) (cast_own t.type m) ∙ ap (λ l. m ∷ l) (own_taken trees ts rest))

  -- a strict node runs as it means, over operands that do
  strict_node : (op : Op) (children : Trees Op) (operands : List Meaning) → is_core_op op ≡ true → IsStrictOver registry frame.schema op children → operands ≡ meaning_all registry frame children → node_run registry frame op (typing_all registry frame.schema children) operands ≡ node_meaning registry frame op (typing_all registry frame.schema children) (meaning_all registry frame children)
  strict_node op children operands plain strict same =
      let s = strict_parts registry frame.schema op children strict in
      let types = types_of s.typed in
      let means = meaning_all registry frame children in
      let own : taken_to types s.ruling.operands means ≡ means = ap (λ ts. taken_to types ts means) (sym s.kept) ∙ own_taken children s.typed s.types in
      ap (λ r. node_run registry frame op r operands) s.types
      ∙ ap (λ r. ruled_run registry frame op types r operands) s.rules
      ∙ if_true (is_core_op op && takes_own types s.ruling) (applied registry frame op s.ruling operands) stuck (and_from (is_core_op op) (takes_own types s.ruling) plain s.takes)
      ∙ ap (applied registry frame op s.ruling) (same ∙ sym own)
      ∙ sym (ap (λ r. ruled_meaning registry frame op types r means) s.rules)
      ∙ sym (ap (λ r. node_meaning registry frame op r means) s.types)

  mutual
    pub strict_is_meaning : (tree : Expression) → IsCore tree → IsStrict registry frame.schema tree → strict_run registry frame tree ≡ meaning registry frame tree
    strict_is_meaning (node op children) none strict =
        let cores = and_parts (is_core_op op) (are_core children) none in
        let parts = and_parts (is_strict_over registry frame.schema op (typing_all registry frame.schema children)) (are_strict registry frame.schema children) strict in
        strict_node op children (strict_run_all registry frame children) cores.0 parts.0 (strict_are_meanings children cores.1 parts.1)

    strict_are_meanings : (trees : Trees Op) → are_core trees ≡ true → AllStrict registry frame.schema trees → strict_run_all registry frame trees ≡ meaning_all registry frame trees
    strict_are_meanings no_more none strict = refl
    strict_are_meanings (more tree trees) none strict =
        let cores = and_parts (is_core tree) (are_core trees) none in
        let parts = and_parts (is_strict registry frame.schema tree) (are_strict registry frame.schema trees) strict in
        ap (λ m. m ∷ strict_run_all registry frame trees) (strict_is_meaning tree cores.0 parts.0)
        ∙ ap (λ l. meaning registry frame tree ∷ l) (strict_are_meanings trees cores.1 parts.1)
