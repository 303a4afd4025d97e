use Rattle.plan_json.proofs.Names.{refl, a_counted_type, a_number_of, a_typed_literal, typed_part, ty}
use Rattle.plan_json.proofs.Lemmas.{part_in, number_place}
use Rattle.plan_json.proofs.ReaderLemmas.{told}
use Rattle.plan_json.proofs.literal.read_typed.Goals as goal

pub returns-in-Err : goal.returns-in-Err
returns-in-Err c = told (c.below.ensures a_typed_literal a_counted_type _ _ (part_in (typed_part 0) _ _ _ c.in-Some.ensures refl) c.in-Err.ensures.err)

pub returns-in-Err-read_number_of : goal.returns-in-Err-read_number_of
returns-in-Err-read_number_of c =
    told (c.below-in-Err-read_number_of.ensures a_typed_literal (a_number_of (ty c.in-Ok.dtype)) _ _ (number_place _ _ _ c.in-Some.ensures c.in-Ok.ensures.ok) c.in-Err-read_number_of.ensures.err)
