use Rattle.plan_dsl.proofs.FunctionTypeLemmas.{NamesFrom}
use Rattle.plan_dsl.proofs.function_schema.new_names.Given as goal

abbrev pub invariant-loop-place : goal.invariant-loop-place
invariant-loop-place l = NamesFrom l.existing l.new l.place l.names.entries
