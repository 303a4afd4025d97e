use Rattle.plan_dsl.specs.Expansion.{aliased, plain}
use Rattle.plan_dsl.specs.Expressions.{tree_of, plain_tree}
use Rattle.plan_expand.proofs.ExpansionLemmas.{found_as, refused_of, unrenamed}
use Rattle.plan_expand.proofs.expr_expansion.aliased.Goals as goal

pub returns-in_default : goal.returns-in_default
returns-in_default c =
    let same = unrenamed c.args.expr c.in_default.not-KeepName c.in_default.not-RenameAlias in
    record {
      ok = found_as plain_tree c.as_plain.result (aliased (tree_of c.args.expr)) (plain (tree_of c.args.expr)) same c.as_plain.ensures.ok;
      plain = c.as_plain.ensures.plain;
      err = refused_of c.as_plain.result (aliased (tree_of c.args.expr)) (plain (tree_of c.args.expr)) same c.as_plain.ensures.err;
    }
