use Rattle.std.proofs.Common.{refl}
use Rattle.plan_coerce.proofs.type_coercion.add_cast.Goals as goal

pub put_cast-requires : goal.put_cast-requires
put_cast-requires c = (c.get-from.result.now, c.get-from.ensures, c.in_ok-try_clone.ensures.ok, refl, refl, c.none.ensures)
