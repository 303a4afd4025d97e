-- What is the same of children that are changed is the same of the node.
use Rattle.std.specs.Prelude.{◌≡◌, ◌≤◌, ℕ, Bool, true, false, cond, Some}
use Rattle.std.proofs.Common.{refl, ap, ◌∙◌, arith}
use Rattle.plan_types.specs.Schemas.{Columns}
use Rattle.plan_dsl.specs.Registry.{Registry}
use Rattle.plan_dsl.specs.Ops.{Op, Expression}
use Rattle.plan_dsl.specs.Trees.{Trees, node, no_more, more, AllRelated}
use Rattle.plan_dsl.specs.Typing.{typing_all}
use Rattle.plan_coerce.specs.RuleLaws.{like_typings}
use Rattle.plan_coerce.specs.Rules.{IsCongruent, IsLike, IsTransitive, said}
use Rattle.own_rule.specs.OpChanges.{Change, Finds, HasSameChanged, all_changed, changed, until_stays_by}

module _ (change : Change) (registry : Registry) (schema : Columns) where
  like_changed : (ts us : Trees Op) → AllRelated (IsLike (HasSameChanged change registry schema) registry schema) ts us → all_changed change registry schema us ≡ all_changed change registry schema ts
  like_changed no_more no_more h = refl
  like_changed (more t ts) (more u us) h =
      ap (λ x. more x (all_changed change registry schema us)) h.0.relates ∙ ap (more (changed change registry schema t)) (like_changed ts us h.1)
  like_changed no_more (more u us) h = absurd h
  like_changed (more t ts) no_more h = absurd h

pub changed_congruent : (change : Change) (registry : Registry) (schema : Columns) → IsCongruent (HasSameChanged change registry schema) registry schema
changed_congruent change registry schema op ts us h =
    ap (λ r. node (change op r) (all_changed change registry schema us)) (like_typings (HasSameChanged change registry schema) registry schema ts us h)
    ∙ ap (node (change op (typing_all registry schema ts))) (like_changed change registry schema ts us h)

pub changed_transitive : (change : Change) (registry : Registry) (schema : Columns) → IsTransitive (HasSameChanged change registry schema)
changed_transitive change registry schema t u w a b = b ∙ a

-- a node is replaced once at most
one_or_none : (found : Bool) (n : ℕ) → Some 1 ≡ Some n → cond found 1 0 ≤ n
one_or_none found n is =
    let one : 1 ≡ n = cc in
    elim found as (λ b. cond b 1 0 ≤ n) [ true ↦ omega (arith, one) | false ↦ omega (arith, one) ]

pub changed_once : (finds : Finds) (registry : Registry) (schema : Columns) (t : Expression) (n : ℕ) → Some 1 ≡ Some n → said (until_stays_by finds registry schema) registry schema t ≤ n
changed_once finds registry schema (node op children) n is = one_or_none (finds op (typing_all registry schema children)) n is
