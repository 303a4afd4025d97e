use Rattle.std.proofs.Common.{sym, ap, ◌∙◌}
use Rattle.std.specs.Str.{chars}
use Rattle.plan_dsl.specs.Names.{literal_label, op_label}
use Rattle.plan_arena.specs.Layers.{op_of}
use Rattle.plan_arena.specs.Items.{expression_layer}
use Rattle.plan_arena.proofs.aexpr.AExpr.own_name.Goals as goal

pub returns-in_ok-new-in-Len-clause-ok : goal.returns-in_ok-new-in-Len-clause-ok
unfolding chars
returns-in_ok-new-in-Len-clause-ok c = λ labels.
    ap (λ item. op_label (op_of (expression_layer item)) labels) c.in-Len.is ∙ sym (ap literal_label c.in_ok-new-in-Len.ensures.ok)
