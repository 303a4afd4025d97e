-- Refusals that a caller passes on.
use Rattle.std.proofs.Common.{◌≡◌, Result, Ok, Err, IfErr, sym, subst}
use Rattle.std.specs.Result.{IsErrAnd}

-- a refusal that is handed on says what it said
pub passed_on : {T E : Type 0} (r : Result T E) (e : E) (Q : E → Type 0) → IsErrAnd r (λ y. y ≡ e) → Q e → IfErr r Q
passed_on (Ok x) e Q h q = tt
passed_on (Err y) e Q h q = subst Q (sym h) q
