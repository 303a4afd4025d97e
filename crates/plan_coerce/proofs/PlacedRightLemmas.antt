-- What is kept of types stays right where an item is put in place of one that says the same.
use Rattle.std.proofs.Common.{◌≡◌, ◌≢◌, ℕ, List, map, set, sym, subst, ⊎_elim}
use Rattle.plan_types.specs.Schemas.{Columns}
use Rattle.plan_dsl.specs.Names.{label_of}
use Rattle.plan_dsl.specs.Ops.{Op, Expression}
use Rattle.plan_dsl.specs.Registry.{Registry}
use Rattle.plan_arena.specs.declared.aexpr.AExpr.{AExpr}
use Rattle.plan_arena.specs.Denotation.{Denotes}
use Rattle.plan_arena.specs.Items.{HoldsExpression, expression_layer}
use Rattle.plan_arena.specs.Layers.{shape_of}
use Rattle.plan_arena.proofs.DenotationLemmas.{replaced, same_or_other}
use Rattle.plan_arena.proofs.ItemLemmas.{any_node, expression_elsewhere, expression_laws}
use Rattle.plan_infer.specs.declared.type_table.Inferred.{Inferred}
use Rattle.plan_infer.specs.declared.type_table.TypeTable.{TypeTable}
use Rattle.plan_infer.specs.KeptTypes.{GivesName, IsKept, IsRight, IsTypedNode, KeepsEntry}
use Rattle.plan_infer.proofs.TableLemmas.{extends_itself, known_typed, node_stays}
use Rattle.plan_coerce.specs.Rules.{IsLike, IsSameOnFrames}
use Rattle.plan_coerce.proofs.TurnLemmas.{node_like}

abbrev Any : Expression → Expression → Type 0
Any before after = Unit {0}

module _ (registry : Registry) (schema : Columns) (old : List AExpr) (table : TypeTable) (at : ℕ) (item : AExpr) (right : IsRight registry schema old table) (kept : IsKept table at) (becomes : (t : Expression) → Denotes (HoldsExpression old) at t → (u : Expression) × Denotes (HoldsExpression (set old at item)) at u × IsSameOnFrames registry schema t u) where
  elsewhere : (n : ℕ) (op : Op) (ns : List ℕ) → n ≢ at → HoldsExpression old n op ns → HoldsExpression (set old at item) n op ns
  elsewhere n op ns other h = expression_elsewhere old at item n op ns other h

  -- each expression is typed and named as it was
  placed_same : (n : ℕ) (t : Expression) → Denotes (HoldsExpression old) n t → (u : Expression) × Denotes (HoldsExpression (set old at item)) n u × IsSameOnFrames registry schema t u
  placed_same n t d =
      let known = known_typed registry schema old table right at kept in
      let here = any_node 0 old at known.tree known.denotes in
      let made = becomes known.tree here in
      let like : IsLike Any registry schema known.tree made.0 = record { same = made.2; relates = tt } in
      let r = replaced (shape_of (map expression_layer old)) (HoldsExpression old) (HoldsExpression (set old at item)) (expression_laws old) at elsewhere known.tree here (IsLike Any registry schema) (node_like Any registry schema (λ o ts us all. tt)) made.0 made.1 like n t d in
      (r.0, r.1, r.2.same)

  -- where what gives a name does so still, and what is kept of the node is right of the item
  module _ (named : (n : ℕ) (t u : Expression) → GivesName old n t → label_of u ≡ label_of t → GivesName (set old at item) n u) (here : (own : Inferred) → KeepsEntry table at own → IsTypedNode registry schema (set old at item) table at own) where
    right_elsewhere : (n : ℕ) (own : Inferred) → n ≢ at → IsTypedNode registry schema old table n own → IsTypedNode registry schema (set old at item) table n own
    right_elsewhere n own other e =
        let r = placed_same n e.tree e.denotes in
        node_stays registry schema old (set old at item) table table n own e r.0 r.1 r.2.typing (named own.name.0 e.tree r.0 e.name r.2.name) (λ op ns h. elsewhere n op ns other h) (extends_itself table)

    pub placed_right : IsRight registry schema (set old at item) table
    placed_right = record {
      each = λ n own k. ⊎_elim
          (λ e. subst (λ m. IsTypedNode registry schema (set old at item) table m own) (sym e) (here own (subst (λ m. KeepsEntry table m own) e k)))
          (λ other. right_elsewhere n own other (right.each n own k))
          (same_or_other n at);
    }
