use Rattle.plan_coerce.proofs.OnceLemmas.{put_once}
use Rattle.plan_coerce.proofs.RightLemmas.{cast_changes, strict_added}
use Rattle.std.proofs.Common.{[], ◌∷◌, refl, sym, ap, ◌∙◌}
use Rattle.plan_types.specs.Casts.{can_cast}
use Rattle.plan_types.specs.Types.{is_known, ty}
use Rattle.plan_types.specs.declared.dtype.DataType.{DataType}
use Rattle.plan_types.specs.declared.dtype.CastOptions.TheVariants.{NonStrict}
use Rattle.plan_arena.specs.declared.aexpr.AExpr.TheVariants.{Cast}
use Rattle.plan_infer.proofs.TableLemmas.{type_of, type_one}
use Rattle.plan_coerce.proofs.CoercionLemmas.{cast_denotes}
use Rattle.plan_coerce.proofs.ReachLemmas.{closed_added}
use Rattle.plan_coerce.proofs.RightLemmas.{right_cast}
use Rattle.plan_coerce.proofs.type_coercion.put_cast.Goals as goal

pub returns-clause-denotes : goal.returns-clause-denotes
returns-clause-denotes c = λ first t le d.
    cast_denotes first c.args.arena.now c.add.new.self c.args.input c.in_ok-cast.cast c.args.target t le c.in_ok-cast.ensures.ok c.in_ok-cast.ensures.node d

pub returns-clause-right : goal.returns-clause-right
returns-clause-right c = λ registry schema from keeps known casts right.
    let cast = c.in_ok-cast in
    let asked = c.requires in
    let is = type_one c.args.types.now c.args.input.0 from asked.0.dtype keeps (type_of c.args.types.now c.args.input.0 asked.0 asked.1) in
    right_cast registry schema c.args.arena.now c.add.new.self c.args.types.now c.keep.new.self c.args.input cast.cast asked.0 c.args.own c.args.target cast.ensures.ok cast.ensures.node asked.1 asked.2 asked.3 asked.4 asked.5 (ap (λ (d : DataType). is_known (ty d)) (sym is) ∙ known) (ap (λ (d : DataType). can_cast (ty d) (ty c.args.target)) (sym is) ∙ casts) c.in_ok-keep.ensures.stays c.in_ok-keep.ensures.only right

pub returns-clause-extends : goal.returns-clause-extends
returns-clause-extends c = record { entries = c.in_ok-keep.ensures.stays }

pub returns-clause-closed : goal.returns-clause-closed
returns-clause-closed c = λ start roots near closed.
    let item = Cast c.args.input c.args.target NonStrict in
    closed_added start roots c.args.arena.now c.add.new.self item _ (c.args.input.0 ∷ []) c.in_ok-cast.ensures.ok refl (near, tt) closed

pub returns-clause-added : goal.returns-clause-added
returns-clause-added c = λ registry schema start from le right known keeps apart before.
    strict_added registry schema start c.args.arena.now c.add.new.self _ c.args.types.now c.keep.new.self c.in_ok-cast.cast.0 _ right c.in_ok-cast.ensures.ok c.in_ok-cast.ensures.node c.requires.5 (ap is_known c.requires.2 ∙ known) (cast_changes c.args.types.now c.args.input.0 (ty c.args.target) NonStrict from keeps apart) c.in_ok-keep.ensures.kept c.in_ok-keep.ensures.stays c.in_ok-keep.ensures.only before

pub returns-clause-once : goal.returns-clause-once
returns-clause-once c = put_once c.args.arena.now c.add.new.self (Cast c.args.input c.args.target NonStrict) _ c.args.input.0 c.in_ok-cast.cast.0 c.in_ok-cast.ensures.ok c.in_ok-cast.ensures.node refl
