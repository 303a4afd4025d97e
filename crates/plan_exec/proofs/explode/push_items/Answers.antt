use Rattle.std.proofs.Common.{map}
use Rattle.plan_types.specs.ValueViews.{val_of}
use Rattle.plan_exec.proofs.ItemLemmas.{list_pushed, other_pushed}
use Rattle.plan_exec.proofs.explode.push_items.Goals as goal
use Rattle.plan_exec.proofs.explode.push_items.Goals.{in-List+in_ok-push_list-in-List, in_default+in_ok-push-in_default}

pub returns-clause-ok : goal.returns-clause-ok
returns-clause-ok c =
    elim c.match-value.branch [
      | in-List+in_ok-push_list-in-List w ↦ rw w.items-is (list_pushed c.args.value w.in-List.parts (map val_of c.args.items.now.items) (map val_of w.push_list.new.items.items) w.in-List.is w.in_ok-push_list-in-List.ensures.ok)
      | in_default+in_ok-push-in_default w ↦ rw w.items-is (other_pushed c.args.value c.args.items.now.items w.push.new.self.items w.in_default.not-List w.in_ok-push-in_default.ensures.items)
    ]
