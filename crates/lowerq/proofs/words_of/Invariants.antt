use Rattle.std.proofs.Common.{◌≡◌, ◌++◌, map, drop, string_bytes}
use Rattle.std.specs.Str.{chars}
use Rattle.std.specs.Vec.Iter.{into_iter_items}
use Rattle.lowerq.proofs.words_of.Given as goal

abbrev pub invariant-loop-argument : goal.invariant-loop-argument
invariant-loop-argument l = record {
  can : (goal.iterator-loop-argument).can_next l.argument-iterator;
  finite : (goal.iterator-loop-argument).is_finite l.argument-iterator;
  so_far : l.words.items ++ map (λ argument. chars (string_bytes argument)) (into_iter_items l.argument-iterator) ≡ map (λ argument. chars (string_bytes argument)) (drop 1 (into_iter_items l.fn.arguments));
}
