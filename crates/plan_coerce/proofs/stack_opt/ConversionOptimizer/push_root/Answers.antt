use Rattle.std.proofs.Common.{[], ◌∷◌, ◌++◌, reverse, sym, ap, ◌∙◌}
use Rattle.std.proofs.lemmas.List.{append_assoc}
use Rattle.plan_arena.specs.Items.{expression_layer, numbers, passed}
use Rattle.plan_coerce.specs.Optimizer.{stacked}
use Rattle.plan_coerce.proofs.StackLemmas.{pushed_one, some_inputs}
use Rattle.plan_coerce.proofs.TurnLemmas.{on_refusal}
use Rattle.plan_coerce.proofs.stack_opt.ConversionOptimizer.push_root.Goals as goal

pub returns-clause-stacked : goal.returns-clause-stacked
returns-clause-stacked c =
    let node = c.args.node.0 in
    let pushed = pushed_one c.args.self.now.scratch.items c.push.new.self.items c.args.node c.in_ok-push.ensures.ok in
    let inputs = reverse (passed (expression_layer c.get.result.now)) in
    c.in_ok-inputs_rev.ensures.ok ∙ ap (λ l. l ++ inputs) pushed ∙ append_assoc (stacked c.args.self.now) (node ∷ []) inputs ∙ ap (λ l. stacked c.args.self.now ++ l) (sym (some_inputs c.args.expr_arena.now node c.get.result.now c.get.ensures))

pub returns-in_err-push-2-clause-more : goal.returns-in_err-push-2-clause-more
returns-in_err-push-2-clause-more c =
    let node = c.args.node.0 in
    let pushed = pushed_one c.args.self.now.scratch.items c.push.new.self.items c.args.node c.in_ok-push.ensures.ok in
    let inputs = reverse (passed (expression_layer c.get.result.now)) in
    on_refusal c.from_residual-in_err-push-2.result (record { added = node ∷ inputs; longer = c.in_ok-inputs_rev.ensures.ok ∙ ap (λ l. l ++ inputs) pushed ∙ append_assoc (stacked c.args.self.now) (node ∷ []) inputs })

pub returns-in_err-inputs_rev-clause-more : goal.returns-in_err-inputs_rev-clause-more
returns-in_err-inputs_rev-clause-more c =
    let pushed = pushed_one c.args.self.now.scratch.items c.push.new.self.items c.args.node c.in_ok-push.ensures.ok in
    on_refusal c.from_residual-in_err-inputs_rev.result (record { added = c.args.node.0 ∷ []; longer = ap numbers c.in_err-inputs_rev.ensures.unchanged ∙ pushed })
