use Rattle.std.proofs.Common.{◌∷◌, [], map, sym, ap, ◌∙◌}
use Rattle.indexmap.specs.IndexSet.{insert_all}
use Rattle.plan_types.specs.Schemas.{same_name}
use Rattle.plan_dsl.specs.Expansion.{key_name, key_names}
use Rattle.plan_dsl.specs.Expressions.{tree_of}
use Rattle.plan_expand.proofs.ExpansionLemmas.{key_more, no_key}
use Rattle.plan_expand.proofs.NameLemmas.{put_once}
use Rattle.plan_expand.proofs.expr_expansion.key_names.Goals as goal
use Rattle.plan_expand.proofs.expr_expansion.key_names.Goals.{in-Column+in_ok-try_clone+in_ok-insert, in_default}

pub loop-key-init : goal.loop-key-init
loop-key-init c =
    let names = key_names (map tree_of c.args.keys.now) in
    ap (λ l. insert_all same_name l names) c.new-names.ensures.empty ∙ put_once names

pub loop-key-preserved : goal.loop-key-preserved
loop-key-preserved c =
    let names = c.loop-key.names.keys in
    let key = c.key-item.result in
    elim c.match-key.branch [
      | in-Column+in_ok-try_clone+in_ok-insert w ↦ rw w.names-is (key_more names _ c.args.keys.now c.loop-key.key-index key _ c.loop-key-test.true c.key-item.is (w.in_ok-insert.ensures.keys ∙ ap (λ name. insert_all same_name names (name ∷ [])) w.in_ok-try_clone.ensures.ok ∙ sym (ap (λ k. insert_all same_name names (key_name (tree_of k))) w.in-Column.is)) c.loop-key.invariant)
      | in_default w ↦ rw w.names-is (key_more names names c.args.keys.now c.loop-key.key-index key _ c.loop-key-test.true c.key-item.is (sym (ap (insert_all same_name names) (no_key key w.in_default.not-Column))) c.loop-key.invariant)
    ]
