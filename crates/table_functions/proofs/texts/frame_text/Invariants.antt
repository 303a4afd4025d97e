use Rattle.std.proofs.Common.{◌≡◌, map, string_bytes}
use Rattle.plan_types.specs.FrameFaults.{shown}
use Rattle.table_functions.specs.Texts.{columns_text}
use Rattle.table_functions.proofs.texts.frame_text.Given as goal

abbrev pub invariant-loop-column : goal.invariant-loop-column
invariant-loop-column l = string_bytes l.text ≡ columns_text (map shown l.yielded)
