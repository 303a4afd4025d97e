use Rattle.std.proofs.Common.{sym, ◌∙◌}
use Rattle.plan_infer.proofs.TableLemmas.{found_kept, none_found}
use Rattle.plan_infer.proofs.type_table.TypeTable.keep_within.Goals as goal

pub returns-then-is_some-clause-kept : goal.returns-then-is_some-clause-kept
returns-then-is_some-clause-kept c =
    found_kept c.args.self.now c.args.node.0 (λ own. own.now) c.kept.result c.kept.ensures (sym c.is_some.ensures ∙ c.if-is_some.true)

pub returns-then-is_some-clause-count : goal.returns-then-is_some-clause-count
returns-then-is_some-clause-count c = λ none.
    absurd (none (found_kept c.args.self.now c.args.node.0 (λ own. own.now) c.kept.result c.kept.ensures (sym c.is_some.ensures ∙ c.if-is_some.true)))

pub add_within-requires : goal.add_within-requires
add_within-requires c = none_found c.args.self.now c.args.node.0 (λ own. own.now) c.kept.result c.kept.ensures (sym c.is_some.ensures ∙ c.if-is_some.false)
