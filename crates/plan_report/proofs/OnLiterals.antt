use Rattle.std.specs.Prelude.{⊤}
use Rattle.std.specs.Fmt.{digits}
use Rattle.serde_json.proofs.OnLiterals.{serde_json_on_literals}

-- what a proof unfolds to compute a text on literals
unfoldable pub texts_on_literals : ⊤
unfolding digits serde_json_on_literals
texts_on_literals = tt
