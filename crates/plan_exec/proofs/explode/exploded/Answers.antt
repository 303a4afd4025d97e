use Rattle.std.proofs.Common.{◌≡◌, ◌∙◌, None, ap, map, subst, sym}
use Rattle.plan_types.specs.FrameFaults.{frame_fault, framed, shown}
use Rattle.plan_types.specs.FrameViews.{columns_of, frame_of}
use Rattle.plan_types.specs.Outcomes.{Done}
use Rattle.plan_types.specs.Schemas.{Name, is_among}
use Rattle.plan_dsl.specs.Plans.{FunctionWork}
use Rattle.plan_dsl.specs.TableFunctions.{ExplodeFunction}
use Rattle.plan_exec.specs.ColumnFunctions.{AllMake, Disagree, exploded_column, is_kept, some_listed}
use Rattle.plan_exec.specs.declared.error.ExecError.{ExecError}
use Rattle.plan_exec.proofs.AnswerLemmas.{ok_kept, refused}
use Rattle.plan_exec.proofs.ExplodedLemmas.{exploded_is, exploded_is_fault, is_listed}
use Rattle.plan_exec.proofs.explode.exploded.Goals as goal

pub row_counts-requires : goal.row_counts-requires
row_counts-requires c =
    let test = is_kept c.in_ok-names.names.keys in
    let same = ok_kept ExecError (λ set. (name : Name) → is_kept set.keys name ≡ is_among name c.args.names.now) _ c.names_in.result c.in_ok-names.names c.in_ok-names.ensures.cases c.in_ok-names.ensures.variant c.names_in.ensures.ok in
    let apart = c.as_slice.ensures.value ∙ c.into_columns-columns.ensures.columns in
    ap (λ columns. some_listed test (map shown columns)) apart ∙ is_listed c.args.names.now test same (columns_of c.args.frame) c.requires

pub new_no_checks-requires : goal.new_no_checks-requires
new_no_checks-requires c =
    let test = is_kept c.in_ok-names.names.keys in
    let same = ok_kept ExecError (λ set. (name : Name) → is_kept set.keys name ≡ is_among name c.args.names.now) _ c.names_in.result c.in_ok-names.names c.in_ok-names.ensures.cases c.in_ok-names.ensures.variant c.names_in.ensures.ok in
    let apart = c.into_columns-columns.ensures.columns in
    let sound = subst (λ columns. frame_fault columns ≡ None) apart c.into_columns-columns.ensures.sound in
    let makes = subst (λ columns. AllMake test c.in_ok-counts.counts.items (map shown columns)) (c.as_slice.ensures.value ∙ apart) c.in_ok-counts.ensures.ok in
    let made = ok_kept ExecError (λ made. map shown made.items ≡ map (exploded_column test c.as_slice-2.result.now) (map shown c.into_columns-columns.result.items)) _ c.exploded_columns.result c.in_ok-columns.columns c.in_ok-columns.ensures.cases c.in_ok-columns.ensures.variant c.exploded_columns.ensures.ok in
    let counts = c.as_slice-2.ensures.value in
    let are = made ∙ (λ i. map (exploded_column test (counts i)) (map shown (apart i))) in
    (exploded_is c.args.names.now test same (columns_of c.args.frame) c.in_ok-columns.columns.items c.in_ok-counts.counts.items sound c.requires makes are).sound

pub returns-in_err-counts : goal.returns-in_err-counts
returns-in_err-counts c =
    let test = is_kept c.in_ok-names.names.keys in
    let same = ok_kept ExecError (λ set. (name : Name) → is_kept set.keys name ≡ is_among name c.args.names.now) _ c.names_in.result c.in_ok-names.names c.in_ok-names.ensures.cases c.in_ok-names.ensures.variant c.names_in.ensures.ok in
    let apart = c.into_columns-columns.ensures.columns in
    let sound = subst (λ columns. frame_fault columns ≡ None) apart c.into_columns-columns.ensures.sound in
    let differ = c.in_err-counts.ensures.err in
    refused (FunctionWork (ExplodeFunction c.args.names.now)) (frame_of c.args.frame) c.from_residual-in_err-counts.result c.in_err-counts.field-0.0 c.from_residual-in_err-counts.ensures.0 c.from_residual-in_err-counts.ensures.1
    (λ fault. exploded_is_fault c.args.names.now test same (columns_of c.args.frame) sound (subst (λ columns. Disagree test (map shown columns)) (c.as_slice.ensures.value ∙ apart) (differ fault)))

pub returns : goal.returns
returns c =
    let test = is_kept c.in_ok-names.names.keys in
    let same = ok_kept ExecError (λ set. (name : Name) → is_kept set.keys name ≡ is_among name c.args.names.now) _ c.names_in.result c.in_ok-names.names c.in_ok-names.ensures.cases c.in_ok-names.ensures.variant c.names_in.ensures.ok in
    let apart = c.into_columns-columns.ensures.columns in
    let sound = subst (λ columns. frame_fault columns ≡ None) apart c.into_columns-columns.ensures.sound in
    let makes = subst (λ columns. AllMake test c.in_ok-counts.counts.items (map shown columns)) (c.as_slice.ensures.value ∙ apart) c.in_ok-counts.ensures.ok in
    let made = ok_kept ExecError (λ made. map shown made.items ≡ map (exploded_column test c.as_slice-2.result.now) (map shown c.into_columns-columns.result.items)) _ c.exploded_columns.result c.in_ok-columns.columns c.in_ok-columns.ensures.cases c.in_ok-columns.ensures.variant c.exploded_columns.ensures.ok in
    let counts = c.as_slice-2.ensures.value in
    let are = made ∙ (λ i. map (exploded_column test (counts i)) (map shown (apart i))) in
    let gives = (exploded_is c.args.names.now test same (columns_of c.args.frame) c.in_ok-columns.columns.items c.in_ok-counts.counts.items sound c.requires makes are).gives in
    record { ok = gives ∙ ap (λ columns. Done (framed columns)) (sym c.new_no_checks.ensures); err = tt }
