use Rattle.std.proofs.Common.{◌≡◌, ◌∙◌, None, ap, map, subst}
use Rattle.plan_types.specs.FrameFaults.{frame_fault, framed, shown}
use Rattle.plan_types.specs.FrameViews.{columns_of}
use Rattle.plan_exec.specs.ColumnFunctions.{renamed_column}
use Rattle.plan_exec.proofs.MovedLemmas.{renamed_is}
use Rattle.plan_exec.proofs.rename.renamed.Goals as goal

pub new_no_checks-requires : goal.new_no_checks-requires
new_no_checks-requires c =
    let apart = c.into_columns.ensures.columns in
    let sound = subst (λ columns. frame_fault columns ≡ None) apart c.into_columns.ensures.sound in
    let are = c.in_ok-columns.ensures.ok ∙ ap (λ columns. map (renamed_column c.args.existing.now c.args.new.now) (map shown columns)) apart in
    (renamed_is c.args.existing.now c.args.new.now (columns_of c.args.frame) c.in_ok-columns.columns.items sound c.requires are).sound

pub returns-clause-ok : goal.returns-clause-ok
returns-clause-ok c =
    let apart = c.into_columns.ensures.columns in
    let sound = subst (λ columns. frame_fault columns ≡ None) apart c.into_columns.ensures.sound in
    let are = c.in_ok-columns.ensures.ok ∙ ap (λ columns. map (renamed_column c.args.existing.now c.args.new.now) (map shown columns)) apart in
    ap framed c.new_no_checks.ensures ∙ (renamed_is c.args.existing.now c.args.new.now (columns_of c.args.frame) c.in_ok-columns.columns.items sound c.requires are).frame_is
