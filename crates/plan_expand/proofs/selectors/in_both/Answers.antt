use Rattle.std.proofs.Common.{rules}
use Rattle.std.proofs.lemmas.Fn.{filter_same}
use Rattle.plan_types.specs.Schemas.{is_among}
use Rattle.plan_expand.proofs.NameLemmas.{set_distinct}
use Rattle.plan_expand.proofs.selectors.in_both.Goals as goal

pub returns-clause-names : goal.returns-clause-names
returns-clause-names c = filter_same _ (λ name. is_among name c.args.others.now.keys) _ (λ x b f' k. search rules) c.args.names.keys c.retain.new.self.keys c.retain.ensures.filtered

pub returns-clause-once : goal.returns-clause-once
returns-clause-once c = set_distinct c.retain.new.self.keys c.retain.ensures.unique
