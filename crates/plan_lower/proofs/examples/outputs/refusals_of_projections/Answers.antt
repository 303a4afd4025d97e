use Rattle.std.proofs.Common.{◌≡◌, List, [], ◌∷◌, ◌++◌, codes, refl, ap}
use Rattle.plan_types.specs.Errors.{at_top, no_memory}
use Rattle.plan_types.specs.declared.error.ErrorKind.TheVariants.{ColumnNotFound, ComputeError, Duplicate, NoMemory}
use Rattle.plan_types.specs.declared.error.PlanError.{PlanError}
use Rattle.plan_dsl.specs.Ops.{Expression}
use Rattle.plan_lower.specs.Projection.{RefusesOne, IsProjectionRefusal, untyped, against, out_of_memory, refused}
use Rattle.plan_lower.specs.declared.conversion.asked.Asked.TheVariants.{NewName}
use Rattle.plan_infer.specs.Samples.{int8, one_column, column, of_type, a}
use Rattle.plan_lower.proofs.examples.outputs.refusals_of_projections.Goals as goal

pub returns-clause-no_such_column : goal.returns-clause-no_such_column
returns-clause-no_such_column c = untyped ColumnNotFound refl refl

pub returns-clause-name_before_it : goal.returns-clause-name_before_it
returns-clause-name_before_it c = against (of_type int8) Duplicate refl refl refl

pub returns-clause-name_told_as_another_kind : goal.returns-clause-name_told_as_another_kind
returns-clause-name_told_as_another_kind c = against (of_type int8) ComputeError refl refl refl

pub returns-clause-second : goal.returns-clause-second
returns-clause-second c = record {
  front = a ∷ [];
  tree = a;
  back = [];
  split = refl;
  before = one_column int8;
  names = refl;
  refusal = against (of_type int8) Duplicate refl refl refl;
}

pub returns-clause-first : goal.returns-clause-first
returns-clause-first c = refused (record {
  front = [];
  tree = column (codes "c");
  back = [];
  split = refl;
  before = [];
  names = refl;
  refusal = untyped ColumnNotFound refl refl;
})

no_split : (front back : List Expression) (tree : Expression) → [] ≡ front ++ tree ∷ back → ⊥
no_split [] back tree e = cc
no_split (first ∷ front) back tree e = cc

none_refused : (error : PlanError) → RefusesOne [] [] (NewName Duplicate) [] error → ⊥
none_refused error r = no_split r.front r.back r.tree r.split

no_memory_else : at_top Duplicate ≡ no_memory → ⊥
no_memory_else e = let differs : Duplicate ≡ NoMemory = ap (λ error. error.kind) e in cc

no_refusal : IsProjectionRefusal [] [] (NewName Duplicate) [] (at_top Duplicate) → ⊥
no_refusal (out_of_memory e) = no_memory_else e
no_refusal (refused r) = none_refused (at_top Duplicate) r

pub returns-clause-of_nothing : goal.returns-clause-of_nothing
returns-clause-of_nothing c = none_refused (at_top Duplicate)

pub returns-clause-projection_of_nothing : goal.returns-clause-projection_of_nothing
returns-clause-projection_of_nothing c = no_refusal
