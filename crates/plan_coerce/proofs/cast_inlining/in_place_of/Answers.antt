use Rattle.std.proofs.Common.{[], ◌∷◌, set, refl, ap, ◌∙◌, sym, subst}
use Rattle.std.proofs.lemmas.Bool.{false≢true}
use Rattle.plan_types.specs.Schemas.{Columns}
use Rattle.plan_dsl.specs.Coercion.{coerced}
use Rattle.plan_dsl.specs.InlinedCasts.{is_told, stays, written_out}
use Rattle.plan_dsl.specs.Ops.{BinaryOp, Expression}
use Rattle.plan_dsl.specs.Registry.{Registry}
use Rattle.plan_dsl.specs.Trees.{node}
use Rattle.plan_dsl.specs.Typing.{typing}
use Rattle.plan_arena.specs.declared.aexpr.AExpr.TheVariants.{Literal}
use Rattle.plan_arena.specs.Denotation.{Denotes}
use Rattle.plan_arena.specs.Items.{HoldsExpression}
use Rattle.plan_arena.proofs.ItemLemmas.{expression_written, tree_within, within}
use Rattle.plan_infer.specs.KeptTypes.{IsRight, typed_of}
use Rattle.plan_infer.proofs.TableLemmas.{kept_typing, right_start}
use Rattle.plan_coerce.specs.CoercionRule.{ForgetsAt, IsCoercion}
use Rattle.plan_coerce.specs.Rules.{IsReplacement, is_strict_node, said, until_settled}
use Rattle.plan_coerce.specs.ToldCasts.{IsToldBy, LeadsToLogical}
use Rattle.plan_coerce.proofs.CoercionRuleLemmas.{kept_node}
use Rattle.plan_coerce.proofs.OnceLemmas.{bare_once}
use Rattle.plan_coerce.proofs.ReachLemmas.{closed_put, closed_start}
use Rattle.plan_coerce.proofs.ToldLemmas.{cast_there, literal_replaces, logical_closed, logical_once, logical_replaces, node_tree, not_cast_stays, untold_stays}
use Rattle.plan_coerce.proofs.ToldRightLemmas.{forgets_cast, forgets_logical, literal_right, logical_right, stays_or_gone, still_extends, still_right}
use Rattle.plan_coerce.proofs.cast_inlining.in_place_of.Goals as goal

pub get-requires : goal.get-requires
get-requires c =
    let items = c.args.arena.now in
    let n = c.args.node.0 in
    tree_within items n (node_tree items n (kept_node items c.args.types.now n c.requires.right c.requires.kept))

pub told_at-requires : goal.told_at-requires
told_at-requires c = node_tree c.args.arena.now c.args.node.0 (kept_node c.args.arena.now c.args.types.now c.args.node.0 c.requires.right c.requires.kept)

pub returns-then-not-is_cast-clause-answer : goal.returns-then-not-is_cast-clause-answer
returns-then-not-is_cast-clause-answer c = record {
  is = λ registry schema t right d. not_cast_stays registry schema c.args.arena.now c.args.node.0 c.get.result.now c.get.ensures (sym c.is_cast.ensures ∙ c.if-not-is_cast.true) t d;
  same = refl;
  keeps = refl;
}

pub returns-in-Neither-clause-answer : goal.returns-in-Neither-clause-answer
returns-in-Neither-clause-answer c = record {
  is = λ registry schema t right d.
      let items = c.args.arena.now in
      let n = c.args.node.0 in
      let k = c.requires.kept in
      let p = cast_there registry schema items n c.get.result.now c.get.ensures (sym c.is_cast.ensures ∙ c.if-not-is_cast.false) t d in
      let typed = kept_typing registry schema items c.args.types.now right n k.own k.keeps t d in
      ap (λ u. stays (coerced registry schema u)) p.2 ∙ untold_stays registry schema p.0 p.1 p.3 (ap (λ u. is_told (written_out registry schema u)) (sym p.2) ∙ subst (IsToldBy registry schema items n t) c.in-Neither.is (c.in_ok-told_at.ensures.ok registry schema t (typed_of k.own) d typed));
  same = refl;
  keeps = refl;
}

pub returns-in-Literal-clause-answer : goal.returns-in-Literal-clause-answer
returns-in-Literal-clause-answer c =
    let items = c.args.arena.now in
    let table = c.args.types.now in
    let table' = c.clear_unless.new.types in
    let n = c.args.node.0 in
    let k = c.requires.kept in
    let item = Literal c.in-Literal.value in
    let inside = tree_within items n (node_tree items n (kept_node items table n c.requires.right k)) in
    let cast = sym c.is_cast.ensures ∙ c.if-not-is_cast.false in
    let strict = c.keeps_strict.ensures in
    let stays = c.keeps_strict.result in
    let kept = c.clear_unless.ensures.stays in
    let gone = c.clear_unless.ensures.none in
    let answer : (registry : Registry) (schema : Columns) (t : Expression) → IsRight registry schema items table → Denotes (HoldsExpression items) n t → IsReplacement (IsCoercion registry schema) (until_settled registry schema) registry schema items (set items n item) n t = λ registry schema t right d.
    let h = kept_typing registry schema items table right n k.own k.keeps t d in
    let p = cast_there registry schema items n c.get.result.now c.get.ensures cast t d in
    subst (IsReplacement (IsCoercion registry schema) (until_settled registry schema) registry schema items (set items n item) n) (sym p.2)
    (literal_replaces registry schema items n p.0 p.1 (typed_of k.own) (sym (ap (typing registry schema) p.2) ∙ h) (sym (ap (said (is_strict_node registry schema) registry schema) p.2) ∙ c.requires.strict registry schema t right d) p.4 p.3 c.in-Literal.value (ap (written_out registry schema) (sym p.2) ∙ subst (IsToldBy registry schema items n t) c.in-Literal.is (c.in_ok-told_at.ensures.ok registry schema t (typed_of k.own) d h))) in
    record {
      answer = answer;
      reaches = closed_put items (n ∷ []) items n item inside tt (closed_start items (n ∷ []));
      once = bare_once items items n item _ (expression_written items n item inside);
      placed = λ registry schema right number. stays_or_gone table table' stays kept gone (IsRight registry schema (set items n item)) (λ e.
          let own = strict.0 e in
          literal_right registry schema items table right n own.own own.keeps own.none c.get.result.now c.get.ensures cast item (IsCoercion registry schema) (until_settled registry schema) (λ t d typed settled. answer registry schema t right d) c.in-Literal.value refl) (right_start registry schema (set items n item));
      right = λ registry schema. still_right table table' stays kept gone registry schema items;
      kept = still_extends table table' stays kept gone (ForgetsAt items table n) (λ loose. forgets_cast items table n c.get.result.now c.get.ensures cast k (λ own. false≢true (sym loose ∙ strict.1 own)));
    }

pub get-requires-in-Logical : goal.get-requires-in-Logical
get-requires-in-Logical c =
    let items = c.args.arena.now in
    let n = c.args.node.0 in
    let r = kept_node items c.args.types.now n c.requires.right c.requires.kept in
    let l : LeadsToLogical r.registry r.schema items n r.tree c.in-Logical.below.0 = subst (IsToldBy r.registry r.schema items n r.tree) c.in-Logical.is (c.in_ok-told_at.ensures.ok r.registry r.schema r.tree r.typed r.denotes r.is) in
    within items c.in-Logical.below.0 (node (BinaryOp l.operator) l.operands) l.denotes

pub returns-in_ok-item-in-Logical-clause-answer : goal.returns-in_ok-item-in-Logical-clause-answer
returns-in_ok-item-in-Logical-clause-answer c =
    let items = c.args.arena.now in
    let table = c.args.types.now in
    let table' = c.clear_unless-in-Logical.new.types in
    let n = c.args.node.0 in
    let m = c.in-Logical.below.0 in
    let k = c.requires.kept in
    let item = c.in_ok-item-in-Logical.item in
    let copied = c.in_ok-item-in-Logical.ensures.ok in
    let other = c.get-in-Logical.result.now in
    let there = c.get-in-Logical.ensures in
    let cast = sym c.is_cast.ensures ∙ c.if-not-is_cast.false in
    let both = c.both_strict.ensures in
    let stays = c.both_strict.result in
    let kept = c.clear_unless-in-Logical.ensures.stays in
    let gone = c.clear_unless-in-Logical.ensures.none in
    let leads : (registry : Registry) (schema : Columns) (t : Expression) → IsRight registry schema items table → Denotes (HoldsExpression items) n t → LeadsToLogical registry schema items n t m = λ registry schema t right d.
    subst (IsToldBy registry schema items n t) c.in-Logical.is (c.in_ok-told_at.ensures.ok registry schema t (typed_of k.own) d (kept_typing registry schema items table right n k.own k.keeps t d)) in
    let answer : (registry : Registry) (schema : Columns) (t : Expression) → IsRight registry schema items table → Denotes (HoldsExpression items) n t → IsReplacement (IsCoercion registry schema) (until_settled registry schema) registry schema items (set items n item) n t = λ registry schema t right d.
    let h = kept_typing registry schema items table right n k.own k.keeps t d in
    let p = cast_there registry schema items n c.get.result.now c.get.ensures cast t d in
    subst (IsReplacement (IsCoercion registry schema) (until_settled registry schema) registry schema items (set items n item) n) (sym p.2)
    (logical_replaces registry schema items n p.0 p.1 p.4 p.3 m (leads registry schema (node p.0 p.1) right p.4) other item there copied (typed_of k.own) (sym (ap (typing registry schema) p.2) ∙ h) (sym (ap (said (is_strict_node registry schema) registry schema) p.2) ∙ c.requires.strict registry schema t right d)) in
    let r = c.requires.right in
    let node_there = kept_node items table n r k in
    let p = cast_there r.registry r.schema items n c.get.result.now c.get.ensures cast node_there.tree node_there.denotes in
    let l = leads r.registry r.schema (node p.0 p.1) r.right p.4 in
    record {
      answer = answer;
      reaches = logical_closed r.registry r.schema items n p.0 p.1 p.4 p.3 m l other item there copied;
      once = logical_once r.registry r.schema items n p.0 p.1 p.4 p.3 m l other item there copied;
      placed = λ registry schema right number. stays_or_gone table table' stays kept gone (IsRight registry schema (set items n item)) (λ e.
          let own = both.0 e in
          logical_right registry schema items table right n own.0.own own.0.keeps own.0.none c.get.result.now c.get.ensures cast item (IsCoercion registry schema) (until_settled registry schema) (λ t d typed settled. answer registry schema t right d) node_there.tree m (leads registry schema node_there.tree right node_there.denotes) other there copied own.1.own own.1.keeps own.1.none) (right_start registry schema (set items n item));
      right = λ registry schema. still_right table table' stays kept gone registry schema items;
      kept = still_extends table table' stays kept gone (ForgetsAt items table n) (λ loose. forgets_logical items table n c.get.result.now c.get.ensures cast k r.registry r.schema r.right (node p.0 p.1) m l (λ own. false≢true (sym loose ∙ both.1 own)));
    }
