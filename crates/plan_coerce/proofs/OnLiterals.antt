-- What the examples unfold.
use Rattle.std.specs.Prelude.{⊤}
use Rattle.std.specs.Fmt.{digits}

-- what a proof unfolds to compute a text on literals
unfoldable pub texts_on_literals : ⊤
unfolding digits
texts_on_literals = tt
