use Rattle.std.proofs.Common.{refl, false, [], Ok, ap, ◌∙◌}
use Rattle.plan_dsl.proofs.ChainLemmas.{its_chain}
use Rattle.plan_dsl.proofs.CoreLemmas.{core_meaning, pruned_same, spelled_same}
use Rattle.plan_dsl.proofs.LiteralLemmas.{untyped_is_number}
use Rattle.plan_dsl.proofs.OperandLemmas.{operands_same, operands_strict}
use Rattle.plan_dsl.proofs.OpLemmas.{keeps_rule}
use Rattle.plan_dsl.proofs.FitLemmas.{meaning_has_type}
use Rattle.plan_dsl.proofs.RunLemmas.{strict_is_meaning}
use Rattle.plan_dsl.proofs.SwapLemmas.{says_swapped}
use Rattle.plan_dsl.proofs.laws.expression_laws.Goals as goal

pub returns-clause-taken_stay : goal.returns-clause-taken_stay
returns-clause-taken_stay c registry schema op typed ruling rules = (keeps_rule registry schema op typed ruling rules).stays

pub returns-clause-swapped : goal.returns-clause-swapped
returns-clause-swapped c = says_swapped

pub returns-clause-strict_run : goal.returns-clause-strict_run
returns-clause-strict_run c = strict_is_meaning

pub returns-clause-has_type : goal.returns-clause-has_type
returns-clause-has_type c registry frame tree typed of typing rows = meaning_has_type registry frame of tree typed typing rows

pub returns-clause-untyped : goal.returns-clause-untyped
returns-clause-untyped c registry schema number tree typed typing is =
    (untyped_is_number registry schema number tree typed.many (typing ∙ ap (λ type. Ok (record { type = type; many = typed.many })) is)).tree_is

pub returns-clause-taken_operands : goal.returns-clause-taken_operands
returns-clause-taken_operands c registry schema op trees typed ruling h rules known =
    (operands_same registry schema op trees typed h ruling rules, operands_strict registry schema op trees typed h ruling rules known)

pub returns-clause-cores : goal.returns-clause-cores
returns-clause-cores c registry schema tree typed typing =
    let same = pruned_same registry (record { schema = schema; rows = [] }) false false tree typed typing in
    record { none = same.none refl; typing = same.typing; meaning = λ rows. core_meaning registry (record { schema = schema; rows = rows }) tree typed typing }

pub returns-clause-spelled : goal.returns-clause-spelled
returns-clause-spelled c = spelled_same

pub returns-clause-horizontals : goal.returns-clause-horizontals
returns-clause-horizontals c = its_chain
