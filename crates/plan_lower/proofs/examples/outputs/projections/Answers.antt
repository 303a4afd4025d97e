use Rattle.std.proofs.Common.{◌≡◌, List, [], ◌∷◌, map, refl, arith}
use Rattle.plan_lower.specs.Projection.{Output, output_column}
use Rattle.plan_infer.specs.Samples.{int8, int32, of_type, a, b}
use Rattle.plan_lower.specs.Samples.{output}
use Rattle.plan_lower.proofs.examples.outputs.projections.Goals as goal

pub returns-clause-columns : goal.returns-clause-columns
returns-clause-columns c = record {
  outputs = output b 1 (of_type int32) ∷ output a 0 (of_type int8) ∷ [];
  trees_are = refl;
  nodes_are = refl;
  columns_are = refl;
  types = refl;
  each = (record { denotes = ([], (omega arith, refl), tt); typed = refl; names = (tt, tt); wide = refl }, (record { denotes = ([], (omega arith, refl), tt); typed = refl; names = (tt, tt); wide = refl }, tt));
  distinct = (refl, (refl, tt));
}

no_outputs : (outputs : List Output) → map (λ o. o.tree) outputs ≡ a ∷ [] → map output_column outputs ≡ [] → ⊥
no_outputs [] trees columns = cc
no_outputs (first ∷ rest) trees columns = cc

pub returns-clause-one_too_few : goal.returns-clause-one_too_few
returns-clause-one_too_few c = λ p. no_outputs p.outputs p.trees_are p.columns_are

pub returns-clause-one_more : goal.returns-clause-one_more
returns-clause-one_more c = record {
  output = output b 1 (of_type int32);
  is = record { denotes = ([], (omega arith, refl), tt); typed = refl; names = (tt, tt); wide = refl };
  tree_is = refl;
  node_is = refl;
  unbroken = refl;
  column_is = refl;
}
