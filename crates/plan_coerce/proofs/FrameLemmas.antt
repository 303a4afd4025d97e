-- Expressions that say the same on each frame of the schema.
use Rattle.std.proofs.Common.{◌<◌, ◌≤◌, ◌+◌, ℕ, zero, suc, List, length, ap, ◌∙◌, arith}
use Rattle.std.specs.List.{AllByRecursion, range_with_len}
use Rattle.plan_types.specs.Frames.{Frame, IsFrame, Row, row_numbers}
use Rattle.plan_types.specs.Schemas.{Columns}
use Rattle.plan_dsl.specs.Meaning.{meaning_all, node_meaning}
use Rattle.plan_dsl.specs.Names.{op_label}
use Rattle.plan_dsl.specs.Ops.{Op, Expression}
use Rattle.plan_dsl.specs.Registry.{Registry}
use Rattle.plan_dsl.specs.Strictness.{IsSame}
use Rattle.plan_dsl.specs.Trees.{Trees, node, no_more, more, AllRelated}
use Rattle.plan_dsl.specs.Typing.{then_typed, typing_all, typing_rule}
use Rattle.plan_coerce.specs.RuleLaws.{like_labels, like_typings}
use Rattle.plan_coerce.specs.Rules.{IsLike, IsSameOnFrames}
use Rattle.plan_coerce.proofs.AgreeLemmas.{AllAgree, node_agrees}

-- the numbers of all rows are below their count
numbers_below : (start count end : ℕ) → start + count ≤ end → AllByRecursion (λ n. n < end) (range_with_len start count)
numbers_below start zero end h = tt
numbers_below start (suc count) end h = (omega (arith, h), numbers_below (start + 1) count end (omega (arith, h)))

pub rows_within : (frame : Frame) → AllByRecursion (λ n. n < length frame.rows) (row_numbers frame)
rows_within frame = numbers_below 0 (length frame.rows) (length frame.rows) (omega arith)

module _ (registry : Registry) (schema : Columns) where
  -- what says the same on any rows does so on those of a frame
  pub on_frames : (t u : Expression) → IsSame registry schema t u → IsSameOnFrames registry schema t u
  on_frames t u same = record { typing = same.typing; name = same.name; meaning = λ rows is numbers within i. same.meaning rows i numbers }

  pub frames_then : (t u v : Expression) → IsSameOnFrames registry schema t u → IsSameOnFrames registry schema u v → IsSameOnFrames registry schema t v
  frames_then t u v a b = record {
    typing = b.typing ∙ a.typing;
    name = b.name ∙ a.name;
    meaning = λ rows is numbers within i. (b.meaning rows is numbers within ∙ a.meaning rows is numbers within) i;
  }

-- a node over children that do so says the same
module _ (related : Expression → Expression → Type 0) (registry : Registry) (schema : Columns) where
  meanings_like : (rows : List Row) → IsFrame (record { schema = schema; rows = rows }) → (ts us : Trees Op) → AllRelated (IsLike related registry schema) ts us → AllAgree (λ n. n < length rows) (meaning_all registry (record { schema = schema; rows = rows }) ts) (meaning_all registry (record { schema = schema; rows = rows }) us)
  meanings_like rows is no_more no_more a = tt
  meanings_like rows is (more t ts) (more u us) a = (a.0.same.meaning rows is, meanings_like rows is ts us a.1)
  meanings_like rows is no_more (more u us) a = absurd a
  meanings_like rows is (more t ts) no_more a = absurd a

  pub node_on_frames : (op : Op) (ts us : Trees Op) → AllRelated (IsLike related registry schema) ts us → IsSameOnFrames registry schema (node op ts) (node op us)
  node_on_frames op ts us a = record {
    typing = ap (λ r. then_typed r (typing_rule registry schema op)) (like_typings related registry schema ts us a);
    name = ap (op_label op) (like_labels related registry schema ts us a);
    meaning = λ rows is numbers within i. (let frame : Frame = record { schema = schema; rows = rows } in
        ap (λ r. node_meaning registry frame op r (meaning_all registry frame us) numbers) (like_typings related registry schema ts us a)
        ∙ node_agrees (λ n. n < length rows) registry frame op (typing_all registry schema ts) (meaning_all registry frame ts) (meaning_all registry frame us) (meanings_like rows is ts us a) numbers within) i;
  }
