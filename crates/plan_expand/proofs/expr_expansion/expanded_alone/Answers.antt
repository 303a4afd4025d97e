use Rattle.std.proofs.Common.{map}
use Rattle.plan_types.specs.Schemas.{columns}
use Rattle.plan_dsl.specs.Expansion.{markers_in}
use Rattle.plan_dsl.specs.Expressions.{plain_tree, tree_of}
use Rattle.plan_expand.proofs.ExpansionLemmas.{found_as, no_first, refused_of, unrepeated}
use Rattle.plan_expand.proofs.expr_expansion.expanded_alone.Goals as goal

pub returns-in_default-clause-ok : goal.returns-in_default-clause-ok
returns-in_default-clause-ok c =
    found_as (λ expanded. map plain_tree expanded.items) c.alone.result _ _ (unrepeated c.args.keys.now.keys (columns c.args.schema.now) (tree_of c.args.expr) c.in_default.ensures) c.alone.ensures.ok

pub returns-in_default-clause-err : goal.returns-in_default-clause-err
returns-in_default-clause-err c =
    refused_of c.alone.result _ _ (unrepeated c.args.keys.now.keys (columns c.args.schema.now) (tree_of c.args.expr) c.in_default.ensures) c.alone.ensures.err

pub alone-requires : goal.alone-requires
alone-requires c = no_first (markers_in (tree_of c.args.expr)) c.in_default.ensures
