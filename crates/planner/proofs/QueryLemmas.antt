-- What the query of both flags is built from.
use Rattle.std.proofs.Common.{◌≡◌, [], ◌∷◌, codes, Some, refl, ap, ◌∙◌}
use Rattle.std.specs.Str.{chars}
use Rattle.std.proofs.lemmas.Str.{chars-encodes}
use Rattle.plan_types.specs.Types.{Truth}
use Rattle.plan_types.specs.Schemas.{Columns, Name, with_column}
use Rattle.plan_types.specs.declared.dtype.CastOptions.TheVariants.{Strict}
use Rattle.plan_dsl.specs.declared.operator.Operator.TheVariants.{LogicalAnd}
use Rattle.plan_dsl.specs.Ops.{BinaryOp, CastOp}
use Rattle.plan_dsl.specs.Plans.{SourcePlan, scan_op, source_filter}
use Rattle.plan_dsl.specs.Sources.{Plain, Source}
use Rattle.plan_dsl.specs.Trees.{node, no_more, more}
use Rattle.planner.specs.Planning.{both_flags, column, flagged_query}

p_is : chars (codes "p") ≡ codes "p"
unfolding lib.Utf8.encode
p_is = chars-encodes (codes "p") refl

q_is : chars (codes "q") ≡ codes "q"
unfolding lib.Utf8.encode
q_is = chars-encodes (codes "q") refl

pub both_columns : (zero one two : Columns) (p q : Name) → zero ≡ [] → p ≡ chars (codes "p") → one ≡ with_column zero p Truth → q ≡ chars (codes "q") → two ≡ with_column one q Truth → two ≡ (codes "p", Truth) ∷ (codes "q", Truth) ∷ []
both_columns zero one two p q none first before second after =
    let start : one ≡ with_column [] (codes "p") Truth = before ∙ ap (λ c. with_column c p Truth) none ∙ ap (λ n. with_column [] n Truth) (first ∙ p_is) in
    after ∙ ap (λ c. with_column c q Truth) start ∙ ap (λ n. with_column (with_column [] (codes "p") Truth) n Truth) (second ∙ q_is)

both_are : (cast left right : Source) → left ≡ column (chars (codes "p")) → cast ≡ node (Plain (CastOp Truth Strict)) (more left no_more) → right ≡ column (chars (codes "q")) → node (Plain (BinaryOp LogicalAnd)) (more cast (more right no_more)) ≡ both_flags
both_are cast left right first under second =
    let whole : cast ≡ node (Plain (CastOp Truth Strict)) (more (column (codes "p")) no_more) = under ∙ ap (λ x. node (Plain (CastOp Truth Strict)) (more x no_more)) (first ∙ ap column p_is) in
    ap (λ x. node (Plain (BinaryOp LogicalAnd)) (more x (more right no_more))) whole
    ∙ ap (λ x. node (Plain (BinaryOp LogicalAnd)) (more (node (Plain (CastOp Truth Strict)) (more (column (codes "p")) no_more)) (more x no_more))) (second ∙ ap column q_is)

pub query_is : (built below : SourcePlan) (cast left right : Source) (columns : Columns) → built ≡ source_filter (node (Plain (BinaryOp LogicalAnd)) (more cast (more right no_more))) below → left ≡ column (chars (codes "p")) → cast ≡ node (Plain (CastOp Truth Strict)) (more left no_more) → right ≡ column (chars (codes "q")) → below ≡ node (scan_op (Some 0) columns) no_more → columns ≡ (codes "p", Truth) ∷ (codes "q", Truth) ∷ [] → built ≡ flagged_query
query_is built below cast left right columns made first under second scanned are =
    made
    ∙ ap (λ p. source_filter p below) (both_are cast left right first under second)
    ∙ ap (source_filter both_flags) (scanned ∙ ap (λ c. node (scan_op (Some 0) c) no_more) are)
