-- What the examples unfold.
use Rattle.std.specs.Prelude.{⊤}
use Rattle.std.specs.Fmt.{digits}
use Rattle.std.specs.Str.{chars, is_utf8}
use Rattle.serde_json.proofs.OnLiterals.{serde_json_on_literals}

-- what a proof unfolds to compute values, pointers and what bytes read to on literals
unfoldable pub values_on_literals : ⊤
unfolding digits chars is_utf8 serde_json_on_literals
values_on_literals = tt
