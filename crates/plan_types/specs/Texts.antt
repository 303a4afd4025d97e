-- The bytes of a text, in the value itself or in memory of their own.
use Rattle.std.specs.Prelude.{ℕ, List, string_bytes}
use Rattle.plan_types.specs.declared.text.Kept.{Kept}
use Rattle.plan_types.specs.declared.text.Kept.TheVariants.{Short, Long}

abbrev pub kept_bytes : Kept → List ℕ
kept_bytes (Short text) = text.bytes
kept_bytes (Long text) = string_bytes text
