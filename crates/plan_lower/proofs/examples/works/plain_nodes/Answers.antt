use Rattle.std.proofs.Common.{◌≡◌, List, [], ◌∷◌, Result, Ok, pos, refl, subst}
use Rattle.plan_types.specs.declared.error.ErrorKind.{ErrorKind}
use Rattle.plan_dsl.specs.Plans.{CachePass, PassWork, SinkPass, SliceWork, Work}
use Rattle.plan_dsl.specs.Resolving.{resolved_work}
use Rattle.plan_infer.specs.Samples.{int8, one_column, two_columns}
use Rattle.plan_lower.specs.Works.{unbroken_schema, without_memory}
use Rattle.plan_lower.specs.declared.conversion.step.Plain.TheVariants.{Cache, Slice}
use Rattle.plan_lower.proofs.AddedLemmas.{kept_at, plain_kept}
use Rattle.plan_lower.proofs.ExamplePlanLemmas.{item_at}
use Rattle.plan_lower.proofs.examples.works.plain_nodes.Goals as goal

pub returns-clause-slice : goal.returns-clause-slice
returns-clause-slice c = λ plans is registry items. kept_at registry two_columns two_columns items plans 1 0 (SliceWork (pos 1) 2) (SliceWork (pos 1) 2) [] (plain_kept two_columns (Slice (pos 1) 2)) refl refl (item_at plans _ 1 _ is refl)

pub returns-clause-cache : goal.returns-clause-cache
returns-clause-cache c = λ plans is registry items. kept_at registry two_columns two_columns items plans 1 0 (PassWork (CachePass 7)) (PassWork (CachePass 7)) [] (plain_kept two_columns (Cache 7)) refl refl (item_at plans _ 1 _ is refl)

same_work : (found : Result Work (List ErrorKind)) (work own : Work) → found ≡ Ok work → found ≡ Ok own → own ≡ work
same_work found work own e f = cc

one_is_not_two : {A : Type 0} (x y z : A) → x ∷ [] ≡ y ∷ z ∷ [] → ⊥
one_is_not_two x y z e = cc

pub returns-clause-other_schema : goal.returns-clause-other_schema
returns-clause-other_schema c = λ plans is.
    let node = is [] [] in
    let own = same_work (resolved_work two_columns (PassWork SinkPass) []) (PassWork SinkPass) node.own refl node.resolved in
    one_is_not_two _ _ _ (subst (λ work. one_column int8 ≡ unbroken_schema work two_columns node.outputs) own node.columns_are)

pub returns-clause-refused : goal.returns-clause-refused
returns-clause-refused c = λ registry. without_memory refl
