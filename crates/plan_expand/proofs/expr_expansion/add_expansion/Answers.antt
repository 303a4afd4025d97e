use Rattle.std.proofs.Common.{◌∷◌, [], sym, ◌∙◌}
use Rattle.plan_types.specs.Schemas.{columns}
use Rattle.plan_dsl.specs.Expressions.{tree_of}
use Rattle.plan_expand.proofs.ExpansionLemmas.{added_plain, made_behind, one_plain, plain_alone}
use Rattle.plan_expand.proofs.expr_expansion.add_expansion.Goals as goal

pub returns-then-is_plain-clause-ok : goal.returns-then-is_plain-clause-ok
returns-then-is_plain-clause-ok c =
    let is = sym c.is_plain.ensures ∙ c.if-is_plain.true in
    made_behind c.args.expanded.now.items (c.args.expr ∷ []) _ _ (plain_alone c.args.keys.now.keys (columns c.args.schema.now) (tree_of c.args.expr) is) c.in_ok-push.ensures.items

pub returns-then-is_plain-clause-plain : goal.returns-then-is_plain-clause-plain
returns-then-is_plain-clause-plain c =
    added_plain c.args.expanded.now.items (c.args.expr ∷ []) _ c.in_ok-push.ensures.items (one_plain c.args.expr (sym c.is_plain.ensures ∙ c.if-is_plain.true))

pub returns-clause-ok : goal.returns-clause-ok
returns-clause-ok c = made_behind c.args.expanded.now.items c.in_ok-more.more.items _ _ c.in_ok-more.ensures.ok c.in_ok-append.ensures.items

pub returns-clause-plain : goal.returns-clause-plain
returns-clause-plain c = added_plain c.args.expanded.now.items c.in_ok-more.more.items _ c.in_ok-append.ensures.items c.in_ok-more.ensures.plain
