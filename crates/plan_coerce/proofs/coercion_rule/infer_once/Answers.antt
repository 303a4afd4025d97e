use Rattle.std.proofs.Common.{sym, ◌∙◌}
use Rattle.plan_infer.proofs.TableLemmas.{extends_itself, found_kept}
use Rattle.plan_coerce.proofs.coercion_rule.infer_once.Goals as goal

pub returns-then-is_some-clause-kept : goal.returns-then-is_some-clause-kept
returns-then-is_some-clause-kept g c =
    found_kept c.args.types.now c.args.node.0 (λ own. own.now) c.kept.result c.kept.ensures (sym c.is_some.ensures ∙ c.if-is_some.true)

pub returns-then-is_some-clause-extends : goal.returns-then-is_some-clause-extends
returns-then-is_some-clause-extends g c = extends_itself c.args.types.now
