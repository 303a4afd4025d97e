use Rattle.plan_dsl.specs.Registry.{registry}
use Rattle.plan_lower.specs.declared.conversion.step.Step.TheVariants.{Function}
use Rattle.plan_lower.proofs.AddedLemmas.{plainly_lowers}
use Rattle.plan_lower.proofs.FunctionLemmas.{own_lowers}
use Rattle.plan_lower.proofs.conversion.functions.lower_function.Goals as goal

pub returns-in-Drop : goal.returns-in-Drop
returns-in-Drop c = rw c.in-Drop.is (plainly_lowers (registry c.args.udfs.now) (Function _) c.args.input _ _ _ _ (λ n columns at. at) c.lower_drop.ensures)

pub returns-in-Explode : goal.returns-in-Explode
returns-in-Explode c = rw c.in-Explode.is (plainly_lowers (registry c.args.udfs.now) (Function _) c.args.input _ _ _ _ (λ n columns at. at) c.lower_explode.ensures)

pub returns-in-Rename : goal.returns-in-Rename
returns-in-Rename c = rw c.in-Rename.is (plainly_lowers (registry c.args.udfs.now) (Function _) c.args.input _ _ _ _ (λ n columns at. at) c.lower_rename.ensures)

pub returns-in-Unnest : goal.returns-in-Unnest
returns-in-Unnest c = rw c.in-Unnest.is (plainly_lowers (registry c.args.udfs.now) (Function _) c.args.input _ _ _ _ (λ n columns at. at) c.lower_unnest.ensures)

pub returns-in-Unpivot : goal.returns-in-Unpivot
returns-in-Unpivot c = rw c.in-Unpivot.is (plainly_lowers (registry c.args.udfs.now) (Function _) c.args.input _ _ _ _ (λ n columns at. at) c.lower_unpivot.ensures)

pub returns-in-FunctionIR : goal.returns-in-FunctionIR
returns-in-FunctionIR c = rw c.in-FunctionIR.is (plainly_lowers (registry c.args.udfs.now) (Function _) c.args.input _ _ _ _ (λ n columns at. at) (own_lowers _ c.args.input _ _ _ c.add_function.ensures))

pub returns-in-RowIndex : goal.returns-in-RowIndex
returns-in-RowIndex c = rw c.in-RowIndex.is (plainly_lowers (registry c.args.udfs.now) (Function _) c.args.input _ _ _ _ (λ n columns at. at) (own_lowers _ c.args.input _ _ _ c.add_function-in-RowIndex.ensures))
