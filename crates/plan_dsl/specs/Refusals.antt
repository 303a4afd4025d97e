-- What comes to something, or is refused by a kind of rule.
use Rattle.std.specs.Prelude.{List, [], ◌∷◌, ◌++◌, Bool, Result, Ok, Err, if◌then◌else◌}
use Rattle.plan_types.specs.declared.error.ErrorKind.{ErrorKind}

-- the kind where the test says so
abbrev pub kind_where : Bool → ErrorKind → List ErrorKind
kind_where test kind = if test then kind ∷ [] else []

-- goes on with what was found, unless it is refused
abbrev pub then_ok : {A B K : Type 0} → Result A K → (A → Result B K) → Result B K
then_ok (Ok found) next = next found
then_ok (Err kind) next = Err kind

-- what each of some comes to, unless one is refused: the first that is, is the answer
abbrev pub each_ok : {A B : Type 0} → (A → Result B ErrorKind) → List A → Result (List B) ErrorKind
each_ok definition [] = Ok []
each_ok definition (first ∷ rest) = then_ok (definition first) (λ found. then_ok (each_ok definition rest) (λ others. Ok (found ∷ others)))

-- an answer, with its kind as a list of kinds
abbrev pub with_kinds : {A : Type 0} → Result A ErrorKind → Result A (List ErrorKind)
with_kinds (Ok found) = Ok found
with_kinds (Err kind) = Err (kind ∷ [])

-- two lists, one behind the other; or the kinds by which one or both are refused
abbrev pub joined : {A : Type 0} → Result (List A) (List ErrorKind) → Result (List A) (List ErrorKind) → Result (List A) (List ErrorKind)
joined (Ok items) (Ok others) = Ok (items ++ others)
joined (Ok items) (Err kinds) = Err kinds
joined (Err kinds) (Ok others) = Err kinds
joined (Err kinds) (Err others) = Err (kinds ++ others)

-- the lists that some come to, one behind the other; or the kinds of all that are refused
abbrev pub lists_joined : {A B : Type 0} → (A → Result (List B) ErrorKind) → List A → Result (List B) (List ErrorKind)
lists_joined definition [] = Ok []
lists_joined definition (first ∷ rest) = joined (with_kinds (definition first)) (lists_joined definition rest)
