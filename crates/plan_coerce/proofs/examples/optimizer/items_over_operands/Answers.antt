use Rattle.std.proofs.Common.{◌≡◌, ℕ, pos, List, [], ◌∷◌, map, Some, slice_get, refl, sym, ap, ◌∙◌, subst, arith}
use Rattle.std.specs.List.{AllByRecursion}
use Rattle.std.proofs.lemmas.Bool.{false≢true}
use Rattle.plan_types.specs.Types.{Ty, ty, is_known, same_type}
use Rattle.plan_types.specs.declared.dtype.DataType.{DataType}
use Rattle.plan_types.specs.declared.dtype.DataType.TheVariants as dtype
use Rattle.plan_dsl.specs.declared.operator.Operator.{Operator}
use Rattle.plan_dsl.specs.declared.operator.Operator.TheVariants.{Minus, Plus}
use Rattle.plan_dsl.specs.Ops.{Op, BinaryOp}
use Rattle.plan_arena.specs.declared.aexpr.AExpr.{AExpr}
use Rattle.plan_arena.specs.Items.{Grows, expression_layer}
use Rattle.plan_arena.specs.Layers.{layer, inputs_of, op_of}
use Rattle.plan_arena.proofs.DenotationLemmas.{some_same}
use Rattle.plan_arena.proofs.ItemLemmas.{layer_inputs, layer_op, tree_grown}
use Rattle.plan_infer.specs.declared.type_table.Inferred.{Inferred}
use Rattle.plan_infer.specs.declared.type_table.TypeTable.{TypeTable}
use Rattle.plan_infer.specs.KeptTypes.{IsKept, KeepsEntry, KeepsType}
use Rattle.plan_infer.specs.Samples.{int8, int32, pair, columns_and, sum_items}
use Rattle.plan_coerce.specs.Coercion.{AreChanged, IsChanged, IsOverOperands, Operand}
use Rattle.plan_coerce.specs.Samples.{cast_of}
use Rattle.plan_coerce.proofs.examples.optimizer.items_over_operands.Goals as goal

abbrev grown_items : List AExpr
grown_items = columns_and (pair 0 Plus 1 ∷ cast_of 0 dtype.Int32 ∷ [])

with_cast : Grows sum_items grown_items
with_cast = record { added = cast_of 0 dtype.Int32 ∷ []; longer = refl }

-- what a table of three entries keeps of the last, and of the first
last_kept : (table : TypeTable) (left right own found : Inferred) → table.first ≡ 0 → table.entries.items ≡ Some left ∷ Some right ∷ Some own ∷ [] → KeepsEntry table 2 found → own ≡ found
last_kept table left right own found first entries keeps =
    let item = keeps.1 in
    cc

first_kept : (table : TypeTable) (left right own found : Inferred) → table.first ≡ 0 → table.entries.items ≡ Some left ∷ Some right ∷ Some own ∷ [] → KeepsEntry table 0 found → left ≡ found
first_kept table left right own found first entries keeps =
    let item = keeps.1 in
    cc

module _ (table : TypeTable) where
  keeps_type : (n : ℕ) (own : Inferred) (d : DataType) → KeepsEntry table n own → own.dtype ≡ d → KeepsType table n (ty d)
  keeps_type n own d keeps is = record { dtype = d; keeps = record { own = own; keeps = keeps; is = is }; is = refl }

  first_cast : KeepsType table 0 int8 → IsChanged sum_items grown_items table (record { input = 0; changed = 3; from = int8; target = int32 })
  first_cast keeps = record {
    keeps = keeps;
    denotes = λ first t le d. (0 ∷ [], (le, refl), (tree_grown first first sum_items grown_items (omega arith) with_cast 0 t d, tt));
    stays = λ same. absurd (cc);
    fresh = λ other. omega arith;
  }

  second_stays : KeepsType table 1 int32 → IsChanged sum_items grown_items table (record { input = 1; changed = 1; from = int32; target = int32 })
  second_stays keeps = record {
    keeps = keeps;
    denotes = λ first t le d. tree_grown first first sum_items grown_items (omega arith) with_cast 1 t d;
    stays = λ same. refl;
    fresh = λ other. absurd (cc);
  }

  are_changed : KeepsType table 0 int8 → KeepsType table 1 int32 → AreChanged sum_items grown_items table (0 ∷ 1 ∷ []) (3 ∷ 1 ∷ []) (int32 ∷ int32 ∷ [])
  are_changed left right = record {
    operands = record { input = 0; changed = 3; from = int8; target = int32 } ∷ record { input = 1; changed = 1; from = int32; target = int32 } ∷ [];
    inputs_are = refl;
    changed_are = refl;
    targets_are = refl;
    each = (first_cast left, (second_stays right, tt));
  }

pub returns-clause-over : goal.returns-clause-over
returns-clause-over c = record { before = pair 0 Plus 1; got = refl; is = refl }

other_nodes : ◌≡◌ {A = List ℕ} (3 ∷ 1 ∷ []) (0 ∷ 1 ∷ []) → ⊥
other_nodes e = cc

pub returns-clause-over_others : goal.returns-clause-over_others
returns-clause-over_others c = λ r. other_nodes (layer_inputs (BinaryOp Plus) (op_of (expression_layer r.before)) (3 ∷ 1 ∷ []) (0 ∷ 1 ∷ []) r.is)

some_types : (types : List DataType) → types ≡ dtype.Int32 ∷ dtype.Int32 ∷ [] → types ≡ [] → ⊥
some_types types is none = cc

pub returns-clause-takes : goal.returns-clause-takes
returns-clause-takes c = λ own n d m o. record {
  some = some_types own.operands o;
  typed = λ number e. false≢true (sym (ap is_known (ap ty (sym d) ∙ e)));
}

pub returns-clause-takes_none : goal.returns-clause-takes_none
returns-clause-takes_none c = λ own n d m o takes. takes.some o

pub returns-clause-number : goal.returns-clause-number
returns-clause-number c = λ own n d m o takes. takes.typed (pos 5) (ap ty d)

pub returns-clause-cast : goal.returns-clause-cast
returns-clause-cast c = λ left ln ld lm lo right rn rd rm ro own n d m o cast cn cd cm co table first entries table' first' entries'.
    let keeps_left : KeepsEntry table 0 left = rw (first, entries) (omega arith, refl) in
    let keeps_right : KeepsEntry table 1 right = rw (first, entries) (omega arith, refl) in
    let keeps_cast : KeepsEntry table' 3 cast = rw (first', entries') (omega arith, refl) in
    let kept_right : KeepsEntry table' 1 right = rw (first', entries') (omega arith, refl) in
    let changed = are_changed table (keeps_type table 0 left dtype.Int8 keeps_left ld) (keeps_type table 1 right dtype.Int32 keeps_right rd) in
    record {
      before = pair 0 Plus 1;
      got = refl;
      nodes = 3 ∷ 1 ∷ [];
      is = refl;
      changed = λ found keeps. subst (λ ts. AreChanged sum_items grown_items table (0 ∷ 1 ∷ []) (3 ∷ 1 ∷ []) (map ty ts)) (sym o ∙ ap (λ (e : Inferred). e.operands) (last_kept table left right own found first entries keeps)) changed;
      kept = (record { own = cast; keeps = keeps_cast }, (record { own = right; keeps = kept_right }, tt));
    }

-- what such an item does, and over which nodes
before_is : (items : List AExpr) (item : AExpr) (table table' : TypeTable) (r : IsOverOperands sum_items items table table' 2 item) → r.before ≡ pair 0 Plus 1
before_is items item table table' r = some_same (slice_get sum_items 2) r.before (pair 0 Plus 1) r.got refl

nodes_are : (items : List AExpr) (item : AExpr) (op : Op) (ns : List ℕ) (table table' : TypeTable) (r : IsOverOperands sum_items items table table' 2 item) → expression_layer item ≡ layer op ns → ns ≡ r.nodes
nodes_are items item op ns table table' r is = layer_inputs op (op_of (expression_layer r.before)) ns r.nodes (sym is ∙ r.is)

same_sign : (p q : Operator) → BinaryOp p ≡ BinaryOp q → p ≡ q
same_sign p q e = cc

other_sign : Minus ≡ Plus → ⊥
other_sign e = cc

pub returns-clause-other_operator : goal.returns-clause-other_operator
returns-clause-other_operator c = λ table table' r.
    let op = layer_op (BinaryOp Minus) (op_of (expression_layer r.before)) (3 ∷ 1 ∷ []) r.nodes r.is in
    other_sign (same_sign Minus Plus (op ∙ ap (λ x. op_of (expression_layer x)) (before_is grown_items (pair 3 Minus 1) table table' r)))

none_kept : (table : TypeTable) (own : Inferred) → table.first ≡ 0 → table.entries.items ≡ [] → KeepsEntry table 3 own → ⊥
none_kept table own first entries keeps =
    let item = keeps.1 in
    cc

pub returns-clause-nothing_kept : goal.returns-clause-nothing_kept
returns-clause-nothing_kept c = λ table table' first entries r.
    let kept = subst (AllByRecursion (IsKept table')) (sym (nodes_are grown_items (pair 3 Plus 1) (BinaryOp Plus) (3 ∷ 1 ∷ []) table table' r refl)) r.kept in
    none_kept table' kept.0.own first entries kept.0.keeps

-- the first operand would be a new node
module _ (table : TypeTable) (keeps_first : (type : Ty) → KeepsType table 0 type → int8 ≡ type) where
  not_first : (operands : List Operand) → map (λ o. o.input) operands ≡ 0 ∷ 1 ∷ [] → map (λ o. o.changed) operands ≡ 0 ∷ 1 ∷ [] → map (λ o. o.target) operands ≡ int32 ∷ int32 ∷ [] → AllByRecursion (IsChanged sum_items sum_items table) operands → ⊥
  not_first [] inputs changed targets each = cc
  not_first (o ∷ os) inputs changed targets each =
      let input : o.input ≡ 0 = cc in
      let made : o.changed ≡ 0 = cc in
      let target : o.target ≡ int32 = cc in
      let from = keeps_first o.from (subst (λ n. KeepsType table n o.from) input each.0.keeps) in
      let differs = ap (λ t. same_type t o.target) (sym from) ∙ ap (same_type int8) target in
      omega (arith, made, each.0.fresh differs)

pub returns-clause-without_a_cast : goal.returns-clause-without_a_cast
returns-clause-without_a_cast c = λ left ln ld lm lo right rn rd rm ro own n d m o table first entries r.
    let keeps_own : KeepsEntry table 2 own = rw (first, entries) (omega arith, refl) in
    let changed = r.changed own keeps_own in
    let nodes = nodes_are sum_items (pair 0 Plus 1) (BinaryOp Plus) (0 ∷ 1 ∷ []) table table r refl in
    let inputs = ap (λ x. inputs_of (expression_layer x)) (before_is sum_items (pair 0 Plus 1) table table r) in
    not_first table
    (λ type keeps. sym (ap ty ld) ∙ ap (λ (e : Inferred). ty e.dtype) (first_kept table left right own keeps.keeps.own first entries keeps.keeps.keeps) ∙ ap ty keeps.keeps.is ∙ keeps.is)
    changed.operands (changed.inputs_are ∙ inputs) (changed.changed_are ∙ sym nodes) (changed.targets_are ∙ ap (map ty) o) changed.each
