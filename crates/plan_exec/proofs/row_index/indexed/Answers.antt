use Rattle.std.proofs.Common.{◌≡◌, ◌∙◌, ◌∷◌, None, ap, length, refl, subst}
use Rattle.plan_types.specs.FrameFaults.{frame_fault, framed}
use Rattle.plan_types.specs.FrameViews.{columns_of, frame_of}
use Rattle.plan_types.specs.declared.column.Column.{Column}
use Rattle.plan_types.specs.declared.dtype.DataType.TheVariants.{UInt32}
use Rattle.plan_exec.proofs.MovedLemmas.{indexed_is, numbered}
use Rattle.plan_exec.proofs.row_index.indexed.Goals as goal

pub new_no_checks-requires : goal.new_no_checks-requires
new_no_checks-requires c =
    let apart = c.into_columns-columns.ensures.columns in
    let sound = subst (λ columns. frame_fault columns ≡ None) apart c.into_columns-columns.ensures.sound in
    let column : Column = record { name = c.in_ok-name.name; dtype = UInt32; values = c.in_ok-values.values } in
    let own = numbered c.args.name.now c.args.offset (length (frame_of c.args.frame).rows) column c.unwrap_or.result c.height.result c.in_ok-name.ensures.ok refl c.in_ok-values.ensures.ok c.unwrap_or.ensures c.height.ensures in
    let put = c.in_ok-insert.ensures.items ∙ ap (λ columns. column ∷ columns) apart in
    (indexed_is c.args.name.now c.args.offset (columns_of c.args.frame) c.insert.new.self.items column sound c.requires put own).sound

pub returns-clause-ok : goal.returns-clause-ok
returns-clause-ok c =
    let apart = c.into_columns-columns.ensures.columns in
    let sound = subst (λ columns. frame_fault columns ≡ None) apart c.into_columns-columns.ensures.sound in
    let column : Column = record { name = c.in_ok-name.name; dtype = UInt32; values = c.in_ok-values.values } in
    let own = numbered c.args.name.now c.args.offset (length (frame_of c.args.frame).rows) column c.unwrap_or.result c.height.result c.in_ok-name.ensures.ok refl c.in_ok-values.ensures.ok c.unwrap_or.ensures c.height.ensures in
    let put = c.in_ok-insert.ensures.items ∙ ap (λ columns. column ∷ columns) apart in
    ap framed c.new_no_checks.ensures ∙ (indexed_is c.args.name.now c.args.offset (columns_of c.args.frame) c.insert.new.self.items column sound c.requires put own).frame_is
