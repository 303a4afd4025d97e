use Rattle.plan_coerce.proofs.OnceLemmas.{new_once}
use Rattle.plan_coerce.proofs.RightLemmas.{strict_added}
use Rattle.std.proofs.Common.{[], refl}
use Rattle.plan_arena.specs.declared.aexpr.AExpr.TheVariants.{Literal}
use Rattle.plan_coerce.proofs.ReachLemmas.{closed_added}
use Rattle.plan_coerce.proofs.RightLemmas.{right_literal}
use Rattle.plan_coerce.proofs.type_coercion.add_literal.Goals as goal

pub returns-clause-right : goal.returns-clause-right
returns-clause-right c = λ registry schema same literal right.
    let added = c.in_ok-literal in
    right_literal registry schema c.args.arena.now c.add.new.self c.args.types.now c.keep.new.self added.literal c.args.value _ added.ensures.ok added.ensures.node same refl refl c.none.ensures literal c.in_ok-keep.ensures.stays c.in_ok-keep.ensures.only right

pub returns-clause-extends : goal.returns-clause-extends
returns-clause-extends c = record { entries = c.in_ok-keep.ensures.stays }

pub returns-clause-closed : goal.returns-clause-closed
returns-clause-closed c = λ start roots closed.
    closed_added start roots c.args.arena.now c.add.new.self (Literal c.args.value) _ [] c.in_ok-literal.ensures.ok refl tt closed

pub returns-clause-added : goal.returns-clause-added
returns-clause-added c = λ registry schema start le right known before.
    strict_added registry schema start c.args.arena.now c.add.new.self _ c.args.types.now c.keep.new.self c.in_ok-literal.literal.0 _ right c.in_ok-literal.ensures.ok c.in_ok-literal.ensures.node c.none.ensures known (λ target options k is. cc) c.in_ok-keep.ensures.kept c.in_ok-keep.ensures.stays c.in_ok-keep.ensures.only before

pub returns-clause-once : goal.returns-clause-once
returns-clause-once c = new_once c.args.arena.now c.add.new.self (Literal c.args.value) _ c.in_ok-literal.literal.0 c.in_ok-literal.ensures.ok c.in_ok-literal.ensures.node refl
