use Rattle.plan_coerce.proofs.OnceLemmas.{put_once}
use Rattle.std.proofs.Common.{ap, ◌∙◌}
use Rattle.plan_types.specs.Types.{is_known, ty}
use Rattle.plan_infer.specs.declared.type_table.Inferred.{Inferred}
use Rattle.plan_infer.proofs.TableLemmas.{keeps_one}
use Rattle.plan_coerce.proofs.RightLemmas.{strict_added}
use Rattle.std.proofs.Common.{[], ◌∷◌, refl}
use Rattle.plan_arena.specs.declared.aexpr.AExpr.TheVariants.{Alias}
use Rattle.plan_coerce.proofs.CoercionLemmas.{alias_denotes}
use Rattle.plan_coerce.proofs.ReachLemmas.{closed_added}
use Rattle.plan_coerce.proofs.RightLemmas.{right_alias}
use Rattle.plan_coerce.proofs.type_coercion.add_alias.Goals as goal

pub returns-clause-denotes : goal.returns-clause-denotes
returns-clause-denotes c = λ first t le d.
    alias_denotes first c.args.arena.now c.add.new.self c.args.input c.in_ok-alias.alias c.args.name t le c.in_ok-alias.ensures.ok c.in_ok-alias.ensures.node d

pub returns-clause-right : goal.returns-clause-right
returns-clause-right c = λ registry schema right.
    let alias = c.in_ok-alias in
    right_alias registry schema c.args.arena.now c.add.new.self c.args.types.now c.keep.new.self c.args.input alias.alias c.args.name c.get-from.result.now _ alias.ensures.ok alias.ensures.node c.get-from.ensures c.in_ok-dtype.ensures.ok refl refl c.none.ensures c.in_ok-keep.ensures.stays c.in_ok-keep.ensures.only right

pub returns-clause-extends : goal.returns-clause-extends
returns-clause-extends c = record { entries = c.in_ok-keep.ensures.stays }

pub returns-clause-closed : goal.returns-clause-closed
returns-clause-closed c = λ start roots near closed.
    let item = Alias c.args.input c.args.name in
    closed_added start roots c.args.arena.now c.add.new.self item _ (c.args.input.0 ∷ []) c.in_ok-alias.ensures.ok refl (near, tt) closed

pub returns-clause-added : goal.returns-clause-added
returns-clause-added c = λ registry schema start le right input before.
    let same = keeps_one c.args.types.now c.args.input.0 c.get-from.result.now input.own c.get-from.ensures input.keeps in
    let known = ap is_known c.in_ok-dtype.ensures.ok ∙ ap (λ (x : Inferred). is_known (ty x.dtype)) same ∙ input.known in
    strict_added registry schema start c.args.arena.now c.add.new.self _ c.args.types.now c.keep.new.self c.in_ok-alias.alias.0 _ right c.in_ok-alias.ensures.ok c.in_ok-alias.ensures.node c.none.ensures known (λ target options k is. cc) c.in_ok-keep.ensures.kept c.in_ok-keep.ensures.stays c.in_ok-keep.ensures.only before

pub returns-clause-once : goal.returns-clause-once
returns-clause-once c = put_once c.args.arena.now c.add.new.self (Alias c.args.input c.args.name) _ c.args.input.0 c.in_ok-alias.alias.0 c.in_ok-alias.ensures.ok c.in_ok-alias.ensures.node refl
