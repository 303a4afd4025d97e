-- Inputs of horizontals that are expanded in place.
use Rattle.std.proofs.Common.{◌≡◌, List, [], ◌∷◌, ◌++◌, map, true, false, cond, Result, Ok, Err, refl, sym, ap, ◌∙◌, append_assoc}
use Rattle.std.specs.List.{list_all}
use Rattle.std.proofs.lemmas.Bool.{and_parts}
use Rattle.plan_types.specs.Errors.{IsRefusal, no_room, broken}
use Rattle.plan_types.specs.Schemas.{Name, Columns}
use Rattle.plan_types.specs.declared.error.ErrorKind.{ErrorKind}
use Rattle.plan_types.specs.declared.error.PlanError.{PlanError}
use Rattle.plan_dsl.specs.Expansion.{all_in_place, expanded_alone, in_place, is_marker, over_inputs, spread, spreads}
use Rattle.plan_dsl.specs.Expressions.{plain_tree, tree_of}
use Rattle.plan_dsl.specs.Ops.{Expression}
use Rattle.plan_dsl.specs.Refusals.{then_ok, each_ok, joined, with_kinds}
use Rattle.plan_dsl.specs.Sources.{Source, SourceOp, is_plain, written}
use Rattle.plan_dsl.specs.Trees.{Trees, node, no_more, more, children_from, top_op}
use Rattle.plan_dsl.specs.declared.expr.Expr.{Expr}
use Rattle.plan_dsl.proofs.ExprLemmas.{IsOfEach}
use Rattle.plan_dsl.proofs.ExpansionLemmas.{plain_is_written}
use Rattle.plan_expand.specs.Changes.{own_spread}
use Rattle.plan_expand.specs.Walks.{below, children_of}
use Rattle.plan_expand.proofs.ChangeLemmas.{children_again}
use Rattle.plan_expand.proofs.EachLemmas.{behind}

module _ (keys : List Name) (schema : Columns) where
  -- ---- operand by operand

  all_placed : (children : Trees SourceOp) → all_in_place keys schema children ≡ then_ok (each_ok (in_place keys schema) (children_of children)) (λ l. Ok (children_from l))
  all_placed no_more = refl
  all_placed (more child rest) =
      elim (in_place keys schema child) as (λ r. then_ok r (λ first. then_ok (all_in_place keys schema rest) (λ others. Ok (more first others))) ≡ then_ok (then_ok r (λ found. then_ok (each_ok (in_place keys schema) (children_of rest)) (λ others. Ok (found ∷ others)))) (λ l. Ok (children_from l))) [
        | Err kind ↦ refl
        | Ok first ↦
            ap (λ r. then_ok r (λ others. Ok (more first others))) (all_placed rest)
            ∙ elim (each_ok (in_place keys schema) (children_of rest)) as (λ r. then_ok (then_ok r (λ l. Ok (children_from l))) (λ others. Ok (more first others)) ≡ then_ok (then_ok r (λ others. Ok (first ∷ others))) (λ l. Ok (children_from l))) [ Ok others ↦ refl | Err kind ↦ refl ]
      ]

  placed_by_each : (op : SourceOp) (children : Trees SourceOp) → is_marker op ≡ false → in_place keys schema (node op children) ≡ then_ok (then_ok (each_ok (in_place keys schema) (children_of children)) (λ l. Ok (children_from l))) (over_inputs keys schema op)
  placed_by_each op children marks =
      ap (λ b. cond b (Ok (node op children)) (then_ok (all_in_place keys schema children) (over_inputs keys schema op))) marks ∙ ap (λ r. then_ok r (over_inputs keys schema op)) (all_placed children)

  pub operands_refused : (source : Source) (error : PlanError) → is_marker (top_op source) ≡ false → IsRefusal (each_ok (in_place keys schema) (below source)) error → IsRefusal (in_place keys schema source) error
  operands_refused (node op children) error marks (no_room e) = no_room e
  operands_refused (node op children) error marks (broken kind told by) =
      broken kind told (placed_by_each op children marks ∙ ap (λ r. then_ok (then_ok r (λ l. Ok (children_from l))) (over_inputs keys schema op)) by)

  pub own_then : (source now : Source) → is_marker (top_op source) ≡ false → (each_ok (in_place keys schema) (below source) ≡ Ok (below now)) × (top_op now ≡ top_op source) → in_place keys schema source ≡ own_spread keys schema now
  own_then (node op children) (node own others) marks (each, same) =
      placed_by_each op children marks ∙ ap (λ r. then_ok (then_ok r (λ l. Ok (children_from l))) (over_inputs keys schema op)) each
      ∙ (λ i. over_inputs keys schema (sym same i) (children_again others i))

  -- ---- a horizontal over its inputs

  pub not_spread : (source : Source) → false ≡ spreads (top_op source) → own_spread keys schema source ≡ Ok source
  not_spread (node op children) other = ap (λ b. cond b (then_ok (spread keys schema children) (λ inputs. Ok (node op (children_from (map written inputs))))) (Ok (node op children))) (sym other)

  spread_over : {tree : Source} {op : SourceOp} {each : List Source} → IsOfEach tree op each → spreads (top_op tree) ≡ true → own_spread keys schema tree ≡ then_ok (spread keys schema (children_from each)) (λ inputs. Ok (node op (children_from (map written inputs))))
  spread_over {tree} {op} {each} listed does =
      ap (own_spread keys schema) listed.is
      ∙ ap (λ b. cond b (then_ok (spread keys schema (children_from each)) (λ inputs. Ok (node op (children_from (map written inputs))))) (Ok (node op (children_from each)))) (sym (ap (λ t. spreads (top_op t)) listed.is) ∙ does)

  pub spread_made : {tree made : Source} {op : SourceOp} {each others : List Source} (inputs : List Expression) → IsOfEach tree op each → IsOfEach made op others → spreads (top_op tree) ≡ true → spread keys schema (children_from each) ≡ Ok inputs → map written inputs ≡ others → own_spread keys schema tree ≡ Ok made
  spread_made {op = op} inputs listed over does found again =
      spread_over listed does ∙ ap (λ r. then_ok r (λ inputs. Ok (node op (children_from (map written inputs))))) found ∙ ap (λ l. Ok (node op (children_from l))) again ∙ sym (ap Ok over.is)

  pub spread_refused : {tree : Source} {op : SourceOp} {each : List Source} (error : PlanError) → IsOfEach tree op each → spreads (top_op tree) ≡ true → IsRefusal (spread keys schema (children_from each)) error → IsRefusal (own_spread keys schema tree) error
  spread_refused error listed does (no_room e) = no_room e
  spread_refused {op = op} error listed does (broken kind told by) = broken kind told (spread_over listed does ∙ ap (λ r. then_ok r (λ inputs. Ok (node op (children_from (map written inputs))))) by)

  -- ---- input by input

  pub spread_step : (done grown : List Expression) (input : Source) (rest : Trees SourceOp) → joined (Ok done) (with_kinds (expanded_alone keys schema input)) ≡ Ok grown → behind done (spread keys schema (more input rest)) ≡ behind grown (spread keys schema rest)
  spread_step done grown input rest h = step (expanded_alone keys schema input) h
    where
      step : (r : Result (List Expression) ErrorKind) → joined (Ok done) (with_kinds r) ≡ Ok grown → behind done (then_ok r (λ first. then_ok (spread keys schema rest) (λ others. Ok (first ++ others)))) ≡ behind grown (spread keys schema rest)
      step (Ok found) e =
          let same : done ++ found ≡ grown = cc in
          elim (spread keys schema rest) as (λ r. behind done (then_ok r (λ others. Ok (found ++ others))) ≡ behind (done ++ found) r) [ Ok others ↦ ap Ok (sym (append_assoc done found others)) | Err kind ↦ refl ]
          ∙ ap (λ l. behind l (spread keys schema rest)) same
      step (Err kind) e = absurd cc

  pub input_refused : (done : List Expression) (input : Source) (rest : Trees SourceOp) (error : PlanError) (answer : Result (List Expression) ErrorKind) → answer ≡ behind done (spread keys schema (more input rest)) → IsRefusal (expanded_alone keys schema input) error → IsRefusal answer error
  input_refused done input rest error answer is (no_room e) = no_room e
  input_refused done input rest error answer is (broken kind told by) =
      broken kind told (is ∙ ap (λ r. behind done (then_ok r (λ first. then_ok (spread keys schema rest) (λ others. Ok (first ++ others))))) by)

-- what is plain is written as its expression is
pub plain_again : (exprs : List Expr) → list_all is_plain (map tree_of exprs) ≡ true → map written (map plain_tree exprs) ≡ map tree_of exprs
plain_again [] plain = refl
plain_again (expr ∷ exprs) plain =
    let parts = and_parts (is_plain (tree_of expr)) (list_all is_plain (map tree_of exprs)) plain in
    λ i. plain_is_written (tree_of expr) parts.0 i ∷ plain_again exprs parts.1 i
