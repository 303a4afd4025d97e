use Rattle.plan_dsl.specs.SourceLaws.{same_source_decides}
use Rattle.plan_dsl.proofs.DropLemmas.{drops_have_schemas}
use Rattle.plan_dsl.proofs.ExpansionLemmas.{expanded_apart}
use Rattle.plan_dsl.proofs.MarkerLemmas.{markers_name_once, selectors_name_once}
use Rattle.plan_dsl.proofs.ResolvingLemmas.{unresolved_is_told}
use Rattle.plan_dsl.proofs.SortFlagLemmas.{sorts_have_flags}
use Rattle.plan_dsl.proofs.plan_laws.expansion_laws.Goals as goal

pub returns : goal.returns
returns c = record { same = same_source_decides; apart = expanded_apart; once = markers_name_once; selectors = selectors_name_once; drops = drops_have_schemas; sorts = sorts_have_flags; told = unresolved_is_told }
