-- Names that are told apart.
use Rattle.plan_json.proofs.Names.{List, None, arith, bytes_eq, bytes_eq-Decides, codes, false, false_from_ne_true, ℕ, ◌≡◌}
use Rattle.plan_json.specs.Leaves.{integer_named, plain_named}

pub other_text : (name text : List ℕ) → (name ≡ text → ⊥) → bytes_eq name text ≡ false
other_text name text other = false_from_ne_true _ (λ same. other ((bytes_eq-Decides name text).0 same))

pub no_plain : (name : List ℕ) → bytes_eq name (codes "Null") ≡ false → bytes_eq name (codes "Boolean") ≡ false → bytes_eq name (codes "String") ≡ false → bytes_eq name (codes "Date") ≡ false → bytes_eq name (codes "Time") ≡ false → None ≡ plain_named name
no_plain name a b c d e = grind arith

pub no_integer : (name : List ℕ) → bytes_eq name (codes "Int8") ≡ false → bytes_eq name (codes "Int16") ≡ false → bytes_eq name (codes "Int32") ≡ false → bytes_eq name (codes "Int64") ≡ false → bytes_eq name (codes "UInt8") ≡ false → bytes_eq name (codes "UInt16") ≡ false → bytes_eq name (codes "UInt32") ≡ false → bytes_eq name (codes "UInt64") ≡ false → None ≡ integer_named name
no_integer name a b c d e f g h = grind arith
