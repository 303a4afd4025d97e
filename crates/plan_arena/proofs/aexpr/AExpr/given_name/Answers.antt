use Rattle.std.proofs.Common.{◌≡◌, Result, Ok, Err, IfOk, List, sym, ap, ◌∙◌}
use Rattle.std.specs.Option.{option_map_or}
use Rattle.plan_dsl.specs.Names.{Label, first_label, op_label}
use Rattle.plan_arena.specs.Layers.{inputs_of, op_of}
use Rattle.plan_arena.specs.Items.{expression_layer, output_label}
use Rattle.plan_arena.proofs.LabelLemmas.{named_as_literal}
use Rattle.plan_arena.proofs.aexpr.AExpr.given_name.Goals as goal

if_ok : {A E : Type 0} (r : Result A E) (P Q : A → Type 0) → ((x : A) → P x → Q x) → IfOk r P → IfOk r Q
if_ok (Ok x) P Q each h = each x h
if_ok (Err error) P Q each h = tt

pub returns-in-Some-clause-ok : goal.returns-in-Some-clause-ok
returns-in-Some-clause-ok c = λ labels over.
    c.in_ok-name.ensures.ok labels ∙ ap (λ name. option_map_or output_label name (first_label labels)) c.in-Some.is

pub returns-in-None-clause-ok : goal.returns-in-None-clause-ok
returns-in-None-clause-ok c =
    let item = expression_layer c.args.self.now in
    let by_first : (labels : List Label) → op_label (op_of item) labels ≡ first_label labels = λ labels. c.in_ok-name.ensures.ok labels ∙ ap (λ name. option_map_or output_label name (first_label labels)) c.in-None.is in
    if_ok c.literal_name.result _ _ (λ name is labels over. named_as_literal (op_label (op_of item)) (inputs_of item) c.requires.0 c.requires.1 by_first labels over ∙ sym is) c.literal_name.ensures.ok
