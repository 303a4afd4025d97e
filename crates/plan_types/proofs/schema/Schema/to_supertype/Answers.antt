use Rattle.std.proofs.Common.{sym, ◌∙◌, arith}
use Rattle.std.proofs.lemmas.List.{length-map}
use Rattle.plan_types.specs.Types.{ty}
use Rattle.plan_types.specs.Schemas.{columns}
use Rattle.plan_types.specs.SchemaCalls.{types_of}
use Rattle.plan_types.proofs.ResultLemmas.{passed_on}
use Rattle.plan_types.proofs.SchemaPairLemmas.{as_many, as_many_types, changed_where, common_given, names_refused, super_found, types_refused}
use Rattle.plan_types.proofs.schema.Schema.to_supertype.Goals as goal

pub returns-then-not-has_names_of-clause-err : goal.returns-then-not-has_names_of-clause-err
returns-then-not-has_names_of-clause-err c =
    names_refused (columns c.args.self.now) (columns c.args.other.now) c.at_top.result (sym c.has_names_of.ensures ∙ c.if-not-has_names_of.true) c.at_top.ensures

pub common_types-requires : goal.common_types-requires
common_types-requires c = as_many (columns c.args.self.now) (columns c.args.other.now) (sym c.has_names_of.ensures ∙ c.if-not-has_names_of.false)

pub returns-in_err-types-clause-err : goal.returns-in_err-types-clause-err
returns-in_err-types-clause-err c =
    passed_on c.from_residual.result c.in_err-types.field-0.0 _ c.from_residual.ensures.1 (types_refused (columns c.args.self.now) (columns c.args.other.now) _ (sym c.has_names_of.ensures ∙ c.if-not-has_names_of.false) c.in_err-types.ensures.err)

pub give_types-requires : goal.give_types-requires
give_types-requires c =
    let cs = columns c.args.self.now in
    let many = as_many_types (types_of cs) (types_of (columns c.args.other.now)) _ c.in_ok-types.ensures.ok in
    omega (arith, many, length-map c.in_ok-types.types.items ty, length-map cs (λ column. column.1))

pub returns-clause-ok : goal.returns-clause-ok
returns-clause-ok c =
    let cs = columns c.args.self.now in
    let ds = columns c.args.other.now in
    super_found cs ds _ (sym c.has_names_of.ensures ∙ c.if-not-has_names_of.false) (common_given cs ds _ _ c.in_ok-types.ensures.ok c.give_types.ensures)

pub returns-clause-changed : goal.returns-clause-changed
returns-clause-changed c =
    let cs = columns c.args.self.now in
    let ds = columns c.args.other.now in
    changed_where cs ds _ c.has_columns_of-changed.result (common_given cs ds _ _ c.in_ok-types.ensures.ok c.give_types.ensures) c.has_columns_of-changed.ensures
