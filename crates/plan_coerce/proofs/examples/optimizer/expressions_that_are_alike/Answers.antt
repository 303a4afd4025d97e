use Rattle.std.proofs.Common.{◌≡◌, true, false, [], refl}
use Rattle.plan_types.specs.declared.dtype.CastOptions.TheVariants.{NonStrict}
use Rattle.plan_dsl.specs.Ops.{CastOp}
use Rattle.plan_dsl.specs.Trees.{no_more, more}
use Rattle.plan_infer.specs.Samples.{int8, int32, two_columns, a, cast_to, sum}
use Rattle.plan_coerce.specs.CoercedLaws.{coercion_congruent, same_written_over, settled_steady}
use Rattle.plan_coerce.specs.Rules.{HasSameWritten}
use Rattle.plan_coerce.specs.Samples.{strict_sum}
use Rattle.plan_coerce.proofs.ExampleLemmas.{other_label, sums_alike}
use Rattle.plan_coerce.proofs.examples.optimizer.expressions_that_are_alike.Goals as goal

pub returns-clause-cast : goal.returns-clause-cast
returns-clause-cast c = sums_alike

pub returns-clause-unrelated : goal.returns-clause-unrelated
returns-clause-unrelated c = λ like. like.relates

pub returns-clause-other_name : goal.returns-clause-other_name
returns-clause-other_name c = λ like. other_label like.same.name

pub returns-clause-same_written : goal.returns-clause-same_written
returns-clause-same_written c = same_written_over (HasSameWritten [] two_columns) [] two_columns (λ t u same. same)

pub returns-clause-coerced : goal.returns-clause-coerced
returns-clause-coerced c = coercion_congruent [] two_columns

no_column : cast_to int32 a ≡ a → ⊥
no_column e = cc

pub returns-clause-one_column_alone : goal.returns-clause-one_column_alone
returns-clause-one_column_alone c = λ congruent.
    no_column (congruent (CastOp int32 NonStrict) (more a no_more) (more a no_more) (record { same = record { typing = refl; name = refl; meaning = λ rows is numbers within. refl }; relates = refl }, tt))

pub returns-clause-settled_nodes : goal.returns-clause-settled_nodes
returns-clause-settled_nodes c = settled_steady (HasSameWritten [] two_columns) [] two_columns (λ t u same. same)

pub returns-clause-strict_throughout : goal.returns-clause-strict_throughout
returns-clause-strict_throughout c = λ steady.
    let same : true ≡ false = steady (CastOp int8 NonStrict) (more sum no_more) (more strict_sum no_more) (sums_alike, tt) in
    cc
