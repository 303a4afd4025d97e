use Rattle.plan_dsl.proofs.ExpansionLemmas.{what_is_plain, what_is_written, written_is_expanded}
use Rattle.plan_dsl.proofs.ResolvingLemmas.{places_stay, resolved_breaks_nothing, nothing_is_told, scans_are_kept, query_has_schema}
use Rattle.plan_dsl.proofs.plan_laws.query_laws.Goals as goal

pub returns : goal.returns
returns c = record { plain = what_is_plain; writing = what_is_written; written = written_is_expanded; places = places_stay; resolved = resolved_breaks_nothing; above = nothing_is_told; scans = scans_are_kept; schema = query_has_schema }
