-- Roots that are typed one by one, before coercion goes over what they reach.
use Rattle.std.proofs.Common.{◌≡◌, ◌⊎◌, Bool, ℕ, zero, suc, List, [], ◌∷◌, slice_get, Option, Some, sym, inl, inr, ⊎_elim}
use Rattle.plan_types.specs.Errors.{IsRefusal}
use Rattle.plan_types.specs.Schemas.{Columns}
use Rattle.plan_types.specs.declared.error.PlanError.{PlanError}
use Rattle.plan_dsl.specs.Ops.{Expression}
use Rattle.plan_dsl.specs.Registry.{Registry}
use Rattle.plan_dsl.specs.Typing.{typing}
use Rattle.plan_arena.specs.declared.aexpr.AExpr.{AExpr}
use Rattle.plan_arena.specs.Denotation.{Denotes, DenotesTree}
use Rattle.plan_arena.specs.Items.{HoldsExpression}
use Rattle.plan_infer.specs.declared.type_table.TypeTable.{TypeTable}
use Rattle.plan_infer.specs.KeptTypes.{IsKept, IsRight}
use Rattle.plan_infer.proofs.TableLemmas.{kept_typing}
use Rattle.plan_coerce.specs.Optimizer.{AreTrees, HasTyping, IsCoercionRefusal, IsNumberRoot, IsTypedRoot}
use Rattle.plan_coerce.specs.Reaching.{Among}
use Rattle.plan_coerce.proofs.ReachLemmas.{among_all}
use Rattle.plan_coerce.proofs.TurnLemmas.{memory_alone}

pub among_at : (ns : List ℕ) (i n : ℕ) → slice_get ns i ≡ Some n → Among ns n
among_at [] i n at = cc
among_at (m ∷ ms) zero n at = let same : m ≡ n = cc in inl (sym same)
among_at (m ∷ ms) (suc i) n at = inr (among_at ms i n at)

-- of what a type is kept, it has a typing
pub kept_has_typing : (registry : Registry) (schema : Columns) (items : List AExpr) (table : TypeTable) (n : ℕ) → IsRight registry schema items table → IsKept table n → HasTyping registry schema items n
kept_has_typing registry schema items table n right kept t d = (_, kept_typing registry schema items table right n kept.own kept.keeps t d)

-- a root without a typing is refused by it
pub root_refused : (is_settled : Expression → Bool) (turns : Option ℕ) (registry : Registry) (schema : Columns) (items : List AExpr) (roots : List ℕ) (error : PlanError) → AreTrees items roots → ((n : ℕ) × Among roots n × ((t : Expression) → Denotes (HoldsExpression items) n t → IsRefusal (typing registry schema t) error)) → IsCoercionRefusal is_settled turns registry schema items items roots error
root_refused is_settled turns registry schema items roots error trees refused =
    let here = among_all (DenotesTree (HoldsExpression items)) roots refused.0 trees refused.1 in
    record {
      cause = inr (record {
        node = refused.0;
        tree = here.tree;
        denotes = here.denotes;
        is = refused.2 here.tree here.denotes;
        near = λ n e. inr (record { steps = zero; path = refused.1 });
      });
      typed = λ typed.
          let root = among_all (IsTypedRoot is_settled registry schema items) roots refused.0 typed refused.1 in
          memory_alone _ root.typed error root.is (refused.2 root.tree root.denotes);
      numbers = λ n e none are. ⊎_elim
          (λ root. memory_alone _ root.typed error root.is (refused.2 root.tree root.denotes))
          (λ root. memory_alone _ _ error root.is (refused.2 root.tree root.denotes))
          (among_all (λ m. IsTypedRoot is_settled registry schema items m ⊎ IsNumberRoot registry schema items m) roots refused.0 are.each refused.1);
    }
