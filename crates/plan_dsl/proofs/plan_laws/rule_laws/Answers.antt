use Rattle.plan_dsl.proofs.RuleLemmas.{typed_breaks_nothing, refusal_is_broken, broken_is_ill_formed, no_schema_is_broken}
use Rattle.plan_dsl.proofs.plan_laws.rule_laws.Goals as goal

pub returns-clause-typed : goal.returns-clause-typed
returns-clause-typed c = typed_breaks_nothing

pub returns-clause-refused : goal.returns-clause-refused
returns-clause-refused c = refusal_is_broken

pub returns-clause-broken : goal.returns-clause-broken
returns-clause-broken c = broken_is_ill_formed

pub returns-clause-without_schema : goal.returns-clause-without_schema
returns-clause-without_schema c = no_schema_is_broken
