use Rattle.std.proofs.Common.{[], ◌∷◌, length, refl, ap, ◌∙◌}
use Rattle.std.proofs.lemmas.List.{length-append}
use Rattle.plan_types.specs.Schemas.{columns}
use Rattle.plan_lower.proofs.RecordedLemmas.{recorded_added}
use Rattle.plan_arena.proofs.OptionLemmas.{options_stay}
use Rattle.plan_lower.proofs.conversion.dsl_to_ir.lower_scan.Goals as goal

pub returns-clause-schema : goal.returns-clause-schema
returns-clause-schema c =
    recorded_added c.args.lp_arena.now c.add.new.self _ c.in_ok-node.node.0 (columns c.args.schema) c.in_ok-node.ensures.ok c.in_ok-node.ensures.node refl

pub returns-clause-options : goal.returns-clause-options
returns-clause-options c =
    options_stay c.args.lp_arena.now c.add.new.self _ c.in_ok-node.ensures.ok refl

pub returns-clause-alone : goal.returns-clause-alone
returns-clause-alone c = ap length c.in_ok-node.ensures.ok ∙ length-append c.args.lp_arena.now (_ ∷ [])
