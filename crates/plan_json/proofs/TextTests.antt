-- Texts that write queries, and texts that are refused: what is computed of them.
use Prim.Native.String.{String as Literal}
use Rattle.plan_json.proofs.Names.{List, None, Some, String, [], codes, map, option_and_then, string_bytes, sym, true, ℕ, ◌∙◌, ◌∷◌, ◌≡◌, BadShape, FaultKind, IsBadAt, Path, a_query, fault_at, Data, QueryModel, query_of, pointer_text, Each, NoJson, Refused, Writes, error_of, IsRefusalOf, IsUtf8, is_utf8, Global}
use Rattle.std.proofs.lemmas.Str.{IsUtf8-from_is_utf8}
use Rattle.serde_json.specs.Read.{read}
use Rattle.plan_json.proofs.ItemLemmas.{chained}

-- ---- each text, by what its bytes are read to

pub each_written : (cases : List (Literal × QueryModel)) → map (λ c. is_utf8 (codes c.0)) cases ≡ map (λ _. true) cases → map (λ c. option_and_then query_of (read (codes c.0))) cases ≡ map (λ c. Some c.1) cases → Each Writes cases
each_written [] utf8 are = record { each = tt }
each_written (c ∷ cs) utf8 are =
    let first : is_utf8 (codes c.0) ≡ true = cc in
    let is : option_and_then query_of (read (codes c.0)) ≡ Some c.1 = cc in
    let found = chained query_of (read (codes c.0)) c.1 is in
    record { each = ((found.0, (IsUtf8-from_is_utf8 (codes c.0) first, found.1), found.2), (each_written cs (cc) (cc)).each) }

refusal : (bytes : List ℕ) (kind : FaultKind) (pointer : List ℕ) (path : Path) → IsUtf8 bytes → pointer ≡ pointer_text path
    → ((d : Data) × (read bytes ≡ Some d) × IsBadAt a_query d kind path) → (text : String Global) → string_bytes text ≡ pointer → IsRefusalOf bytes (error_of kind text)
refusal bytes BadShape pointer path utf8 same (d, is, bad) text of = (d, (utf8, is), (path, of ∙ same, bad))
refusal bytes _ pointer path utf8 same (d, is, bad) text of = (d, (utf8, is), (path, of ∙ same, bad))

abbrev pub Told : List (Literal × FaultKind × Literal) → List Path → Type 0
Told [] paths = Unit {0}
Told (c ∷ cs) [] = ⊥
Told (c ∷ cs) (path ∷ paths) =
    ((is_utf8 (codes c.0) ≡ true) × (codes c.2 ≡ pointer_text path) × (option_and_then (λ d. fault_at a_query d path) (read (codes c.0)) ≡ Some c.1)) × Told cs paths

pub each_refused : (cases : List (Literal × FaultKind × Literal)) (paths : List Path) → Told cases paths → Each Refused cases
each_refused [] paths told = record { each = tt }
each_refused (c ∷ cs) [] told = absurd told
each_refused (c ∷ cs) (path ∷ paths) ((utf8, same, is), told) =
    let first = refusal (codes c.0) c.1 (codes c.2) path (IsUtf8-from_is_utf8 (codes c.0) utf8) same (chained (λ d. fault_at a_query d path) (read (codes c.0)) c.1 is) in
    record { each = (first, (each_refused cs paths told).each) }

pub each_unread : (texts : List Literal) → map (λ text. read (codes text)) texts ≡ map (λ _. None) texts → Each NoJson texts
each_unread [] are = record { each = tt }
each_unread (text ∷ texts) are =
    let none : read (codes text) ≡ None = cc in record { each = (λ d is. let some : None ≡ Some d = sym none ∙ is.1 in cc, (each_unread texts (cc)).each) }
