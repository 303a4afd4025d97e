use Rattle.std.proofs.Common.{refl}
use Rattle.std.specs.Char.{encode_utf8}
use Rattle.plan_dsl.proofs.examples.texts_and_times.comparisons_of_texts.Goals as goal

pub returns-clause-by_bytes : goal.returns-clause-by_bytes
unfolding encode_utf8
returns-clause-by_bytes c = refl
