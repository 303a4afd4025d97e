use Rattle.std.proofs.Common.{refl}
use Rattle.std.specs.Char.{encode_utf8}
use Rattle.plan_dsl.proofs.examples.aggregates.least_texts.Goals as goal

pub returns : goal.returns
unfolding encode_utf8
returns c = refl
