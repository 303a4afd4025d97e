-- A text's bytes and its characters say the same.
use Rattle.std.proofs.Common.{◌≡◌, ℕ, List, sym, ap, ◌∙◌, encode_utf8_all}
use Rattle.std.specs.Str.{chars, IsUtf8, bytes_eq}
use Rattle.std.proofs.lemmas.Str.{encodes-chars}
use Rattle.std.proofs.lemmas.Slice.Eq.{bytes_eq-Decides}
use Rattle.std.proofs.lemmas.Bool.Decides.{same_from_decides}

-- two texts with the same characters have the same bytes
pub same_bytes : (a b : List ℕ) → IsUtf8 a → IsUtf8 b → chars a ≡ chars b → a ≡ b
same_bytes a b of_a of_b e = sym (encodes-chars a of_a) ∙ ap encode_utf8_all e ∙ encodes-chars b of_b

-- comparing bytes is comparing characters
pub eq_by_chars : (a b : List ℕ) → IsUtf8 a → IsUtf8 b → bytes_eq a b ≡ bytes_eq (chars a) (chars b)
eq_by_chars a b of_a of_b =
    let by_chars = bytes_eq-Decides (chars a) (chars b) in
    same_from_decides _ _ (bytes_eq-Decides a b) (λ t. same_bytes a b of_a of_b (by_chars.0 t), λ e. by_chars.1 (ap chars e))
