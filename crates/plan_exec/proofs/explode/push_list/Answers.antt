use Rattle.plan_types.specs.ValueViews.{val_of}
use Rattle.std.proofs.Common.{map}
use Rattle.plan_exec.proofs.ItemLemmas.{items_put, null_put}
use Rattle.plan_exec.proofs.explode.push_list.Goals as goal

pub returns-then-is_empty-clause-ok : goal.returns-then-is_empty-clause-ok
returns-then-is_empty-clause-ok c = null_put c.args.items.now.items c.push.new.self.items c.args.own c.if-is_empty.ensures c.in_ok-push.ensures.items

pub returns-clause-ok : goal.returns-clause-ok
returns-clause-ok c = items_put c.push_all.result (map val_of c.args.items.now.items) c.args.own (map val_of c.push_all.new.values.items) c.if-is_empty.ensures c.push_all.ensures.ok
