use Rattle.std.proofs.Common.{◌≡◌, List, [], ◌∷◌, ◌++◌, not, Ok, refl, sym, ap, subst}
use Rattle.std.proofs.lemmas.List.Elements.{Contains-push}
use Rattle.plan_types.specs.Errors.{at_top, no_memory, no_room, broken}
use Rattle.plan_types.specs.Schemas.{Columns}
use Rattle.plan_types.specs.Types.{Truth, same_type}
use Rattle.plan_types.specs.declared.error.ErrorKind.TheVariants.{ColumnNotFound, ComputeError, Duplicate, InvalidOperation, NoMemory}
use Rattle.plan_dsl.specs.Expansion.{expansions, predicate_expansion}
use Rattle.plan_dsl.specs.Aliases.{core}
use Rattle.plan_dsl.specs.Literals.{settled}
use Rattle.plan_dsl.specs.Ops.{Expression}
use Rattle.plan_dsl.specs.PlanRules.{kind_where}
use Rattle.plan_dsl.specs.Typing.{Typed, typing}
use Rattle.plan_dsl.specs.Samples.{all}
use Rattle.plan_expand.specs.Refusals.{no_room as no_place, unexpanded}
use Rattle.plan_lower.specs.declared.conversion.asked.Asked.TheVariants.{NewName, TruthValue}
use Rattle.plan_infer.specs.Samples.{int8, of_type, one_column, a}
use Rattle.plan_lower.specs.Predicates.{IsUnfiltered, not_expanded as unreduced, no_predicate}
use Rattle.plan_lower.specs.Projection.{IsOutputRefusal, IsProjectionRefusal, against, no_room as short, out_of_memory, refused, untyped, IsUnprojected, not_expanded, not_projected}
use Rattle.plan_lower.specs.Samples.{truths, keep}
use Rattle.plan_lower.proofs.examples.outputs.refusals_of_sources.Goals as goal

pub returns-clause-place_beyond_the_columns : goal.returns-clause-place_beyond_the_columns
returns-clause-place_beyond_the_columns c = not_expanded (unexpanded (ColumnNotFound ∷ []) ColumnNotFound refl refl (Contains-push [] ColumnNotFound))

pub returns-clause-name_twice : goal.returns-clause-name_twice
returns-clause-name_twice c = not_projected (a ∷ a ∷ []) refl (refused (record {
  front = a ∷ [];
  tree = a;
  back = [];
  split = refl;
  before = one_column int8;
  names = refl;
  refusal = against (of_type int8) Duplicate refl refl refl;
}))

no_memory_else : at_top Duplicate ≡ no_memory → ⊥
no_memory_else e = let differs : Duplicate ≡ NoMemory = ap (λ error. error.kind) e in cc

no_split : (front back : List Expression) (tree : Expression) → [] ≡ front ++ tree ∷ back → ⊥
no_split [] back tree e = cc
no_split (first ∷ front) back tree e = cc

nothing_refused : (trees : List Expression) → expansions [] [] (all ∷ []) ≡ Ok trees → IsProjectionRefusal [] [] (NewName Duplicate) trees (at_top Duplicate) → ⊥
nothing_refused [] is (out_of_memory e) = no_memory_else e
nothing_refused [] is (refused r) = no_split r.front r.back r.tree r.split
nothing_refused (tree ∷ trees) is r = cc

unprojected : IsUnprojected [] [] Duplicate (all ∷ []) (at_top Duplicate) → ⊥
unprojected (not_expanded (no_place e)) = no_memory_else e
unprojected (not_expanded (unexpanded kinds kind told by there)) = cc
unprojected (not_projected trees is r) = nothing_refused trees is r

pub returns-clause-projected : goal.returns-clause-projected
returns-clause-projected c = unprojected

pub returns-clause-two_predicates : goal.returns-clause-two_predicates
returns-clause-two_predicates c = unreduced (broken ComputeError refl refl)

pub returns-clause-number : goal.returns-clause-number
returns-clause-number c = no_predicate a refl (refused (record { front = []; tree = a; back = []; split = refl; before = []; names = refl; refusal = against (of_type int8) InvalidOperation refl refl refl }))

no_memory_either : at_top InvalidOperation ≡ no_memory → ⊥
no_memory_either e = let differs : InvalidOperation ≡ NoMemory = ap (λ error. error.kind) e in cc

truth_type : (typed : Typed) → typing [] truths (settled (core keep)) ≡ Ok typed → typed.type ≡ Truth
truth_type typed is = cc

accepted : (before : Columns) → IsOutputRefusal [] truths TruthValue keep before (at_top InvalidOperation) → ⊥
accepted before (short e) = no_memory_either e
accepted before (untyped kind e by) = cc
accepted before (against typed kind e is unmet) =
    let differs : [] ≡ kind ∷ [] = subst (λ type. kind_where (not (same_type type Truth)) InvalidOperation ≡ kind ∷ []) (truth_type typed is) unmet in cc

only_one : (front back : List Expression) (tree : Expression) → keep ∷ [] ≡ front ++ tree ∷ back → keep ≡ tree
only_one [] back tree e = cc
only_one (first ∷ []) back tree e = cc
only_one (first ∷ second ∷ front) back tree e = cc

none_refused : IsProjectionRefusal [] truths TruthValue (keep ∷ []) (at_top InvalidOperation) → ⊥
none_refused (out_of_memory e) = no_memory_either e
none_refused (refused r) = accepted r.before (subst (λ t. IsOutputRefusal [] truths TruthValue t r.before (at_top InvalidOperation)) (sym (only_one r.front r.back r.tree r.split)) r.refusal)

only_keep : (tree : Expression) → predicate_expansion truths all ≡ Ok tree → keep ≡ tree
only_keep tree is = cc

unfiltered : IsUnfiltered [] truths all (at_top InvalidOperation) → ⊥
unfiltered (unreduced (no_room e)) = no_memory_either e
unfiltered (unreduced (broken kind told by)) = cc
unfiltered (no_predicate tree is r) = none_refused (subst (λ t. IsProjectionRefusal [] truths TruthValue (t ∷ []) (at_top InvalidOperation)) (sym (only_keep tree is)) r)

pub returns-clause-predicate : goal.returns-clause-predicate
returns-clause-predicate c = unfiltered
