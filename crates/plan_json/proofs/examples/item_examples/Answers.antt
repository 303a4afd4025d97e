use Rattle.plan_json.proofs.Names.{refl, true, leaf}
use Rattle.serde_json.specs.Data.{boolean}
use Rattle.plan_json.specs.declared.forms.Leaf.TheVariants as leaves
use Rattle.plan_json.specs.declared.forms.SmallLeaf.TheVariants as smalls
use Rattle.plan_json.proofs.examples.item_examples.Goals as goal

pub returns-clause-other : goal.returns-clause-other
returns-clause-other c is = let read = is.read (leaf (leaves.Small smalls.Flag)) (boolean true) refl refl in cc
