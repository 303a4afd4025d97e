-- Rows that fit columns, and frames that are made of them.
use Rattle.std.proofs.Common.{◌≡◌, ℕ, zero, suc, List, [], ◌∷◌, replicate, IsTrue, refl}
use Rattle.std.specs.List.{AllByRecursion}
use Rattle.std.proofs.lemmas.Bool.{and_parts}
use Rattle.plan_types.specs.Types.{Ty}
use Rattle.plan_types.specs.Schemas.{Name, Columns}
use Rattle.plan_types.specs.Values.{Val, fits, all_fit}
use Rattle.plan_types.specs.Frames.{Row, RowFits, IsFrameOf, empty_frame}
use Rattle.plan_dsl.specs.Rows.{in_front}

-- a fitting value in front of each fitting row
pub rows_in_front : (columns : Columns) (name : Name) (type : Ty) (values : List Val) (rows : List Row) → IsTrue (all_fit values type) → AllByRecursion (RowFits columns) rows → AllByRecursion (RowFits ((name, type) ∷ columns)) (in_front values rows)
rows_in_front columns name type [] rows h k = tt
rows_in_front columns name type (value ∷ values) [] h k = tt
rows_in_front columns name type (value ∷ values) (row ∷ rows) h k =
    let parts = and_parts (fits value type) (all_fit values type) h in ((parts.0, k.0), rows_in_front columns name type values rows parts.1 k.1)

pub bare_rows : (count : ℕ) → AllByRecursion (RowFits []) (replicate count [])
bare_rows zero = tt
bare_rows (suc count) = (tt, bare_rows count)

-- the frame without columns
pub without_columns : (schema : Columns) → [] ≡ schema → IsFrameOf schema empty_frame
without_columns schema e = record { schema_is = e; frame_is = record { distinct = tt; fitting = tt; bare = refl } }
