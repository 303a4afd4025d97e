use Rattle.std.proofs.Common.{ℕ, List, [], ◌∷◌, codes, refl}
use Rattle.plan_dsl.specs.Names.{column_label}
use Rattle.plan_dsl.specs.Ops.{ColumnOp, Expression}
use Rattle.plan_dsl.specs.Plans.{Named}
use Rattle.plan_dsl.specs.Trees.{node, no_more}
use Rattle.plan_arena.specs.Denotation.{Denotes}
use Rattle.plan_arena.specs.Items.{DenoteNamed, HoldsExpression}
use Rattle.plan_arena.specs.declared.aexpr.AExpr.TheVariants.{Column}
use Rattle.plan_report.proofs.examples.outputs_that_denote.Goals as goal

pub returns-clause-none : goal.returns-clause-none
returns-clause-none c expressions = record { outputs = []; denote = tt }

pub returns-clause-columns : goal.returns-clause-columns
returns-clause-columns c =
    let first : Named Expression = record { label = column_label (codes "a"); expression = node (ColumnOp (codes "a")) no_more } in
    let second : Named Expression = record { label = column_label (codes "x"); expression = node (ColumnOp (codes "b")) no_more } in
    record { outputs = first ∷ second ∷ []; denote = (refl, ([], refl, tt), (refl, ([], refl, tt), tt)) }

abbrev past : Named ℕ
past = record { label = column_label (codes "a"); expression = 1 }

no_expression : (t : Expression) → ¬ (Denotes (HoldsExpression (Column (codes "a") ∷ [])) 1 t)
no_expression (node op ts) (inputs, held, below) = cc

no_outputs : (outputs : List (Named Expression)) → ¬ (DenoteNamed (Column (codes "a") ∷ []) (past ∷ []) outputs)
no_outputs [] d = d
no_outputs (e ∷ es) d = no_expression e.expression d.1

pub returns-clause-past_the_arena : goal.returns-clause-past_the_arena
returns-clause-past_the_arena c d = no_outputs d.outputs d.denote
