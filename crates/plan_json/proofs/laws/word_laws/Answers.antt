use Rattle.plan_json.proofs.WordLemmas.{functions_read, methods_read}
use Rattle.plan_json.proofs.laws.word_laws.Goals as goal

pub returns-clause-methods : goal.returns-clause-methods
returns-clause-methods c = methods_read

pub returns-clause-functions : goal.returns-clause-functions
returns-clause-functions c = functions_read
