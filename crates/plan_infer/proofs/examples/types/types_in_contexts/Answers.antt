use Rattle.plan_infer.proofs.examples.types.types_in_contexts.Goals as goal

pub returns-clause-name : goal.returns-clause-name
returns-clause-name c = λ field is. is.name

pub returns-clause-no_column : goal.returns-clause-no_column
returns-clause-no_column c = λ field is. let typed = is.typed_is in cc
