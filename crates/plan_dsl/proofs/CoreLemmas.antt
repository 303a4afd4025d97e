-- An expression says the same without its aliases, whether its horizontals stay or are written out.
use Rattle.std.proofs.Common.{◌≡◌, ◌&&◌, ℕ, Bool, true, false, List, [], ◌∷◌, Result, Ok, Err, refl, sym, ap, ◌∙◌, subst}
use Rattle.std.proofs.lemmas.Bool.{and_parts, and_from}
use Rattle.plan_types.specs.Schemas.{Columns}
use Rattle.plan_types.specs.Frames.{Frame, IsFrame}
use Rattle.plan_types.specs.declared.error.ErrorKind.{ErrorKind}
use Rattle.plan_dsl.specs.declared.function_expr.FunctionExpr.{FunctionExpr}
use Rattle.plan_dsl.specs.declared.function_expr.FunctionExpr.TheVariants.{AllHorizontal, AnyHorizontal}
use Rattle.plan_dsl.specs.declared.operator.Operator.{Operator}
use Rattle.plan_dsl.specs.declared.operator.Operator.TheVariants.{LogicalAnd, LogicalOr}
use Rattle.plan_dsl.specs.Registry.{Registry}
use Rattle.plan_dsl.specs.Trees.{Trees, node, no_more, more, fold_all, tree_count}
use Rattle.plan_dsl.specs.Aliases.{IsCore, all_pruned, are_core, chain, chained, core, is_core, is_core_op, is_written_out, lets_aliases, prune_node, pruned, put_together, with_names}
use Rattle.plan_dsl.specs.Laws.{SpelledSaySame}
use Rattle.plan_dsl.specs.Names.{Label, op_label}
use Rattle.plan_dsl.specs.Ops.{Op, BinaryOp, AliasOp, FunctionOp, Expression}
use Rattle.plan_dsl.specs.Kernels.{Meaning}
use Rattle.plan_dsl.specs.Literals.{settled}
use Rattle.plan_dsl.specs.Meaning.{applied, meaning, meaning_all, node_meaning, ruled_meaning, taken_to}
use Rattle.plan_dsl.specs.Typing.{Typed, Ruling, own_typed, rule, then_typed, typed_before, types_of, typing, typing_all, typing_rule}
use Rattle.plan_dsl.proofs.AliasLemmas.{alias, alias_means, alias_typing, pruned_settled}
use Rattle.plan_dsl.proofs.ChainLemmas.{IsChained, all_chained, any_chained, chain_means, chain_typing, its_chain}
use Rattle.plan_dsl.proofs.TypingLemmas.{by_children, by_no_children, typed_parts}

-- ---- nodes

-- with the names of operands a node does the same
names_ruled : (registry : Registry) (schema : Columns) (op : Op) (labels : List Label) (typed : List Typed) → rule registry schema (with_names op labels) typed ≡ rule registry schema op typed
names_ruled registry schema (FunctionOp function []) labels typed = refl
names_ruled registry schema op labels typed = refl

names_applied : (registry : Registry) (frame : Frame) (op : Op) (labels : List Label) (ruling : Ruling) (ms : List Meaning) → applied registry frame (with_names op labels) ruling ms ≡ applied registry frame op ruling ms
names_applied registry frame (FunctionOp function []) labels ruling ms = refl
names_applied registry frame op labels ruling ms = refl

names_mean : (registry : Registry) (frame : Frame) (op : Op) (labels : List Label) (found : Result (List Typed) ErrorKind) (ms : List Meaning) → node_meaning registry frame (with_names op labels) found ms ≡ node_meaning registry frame op found ms
names_mean registry frame op labels (Err kind) ms = refl
names_mean registry frame op labels (Ok typed) ms =
    ap (λ r. ruled_meaning registry frame (with_names op labels) (types_of typed) r ms) (names_ruled registry frame.schema op labels typed)
    ∙ elim (rule registry frame.schema op typed) as (λ r. ruled_meaning registry frame (with_names op labels) (types_of typed) r ms ≡ ruled_meaning registry frame op (types_of typed) r ms) [
      | Err kind ↦ refl
      | Ok ruling ↦ names_applied registry frame op labels ruling (taken_to (types_of typed) ruling.operands ms)
    ]

names_core : (op : Op) (labels : List Label) → is_core_op (with_names op labels) ≡ is_core_op op
names_core (FunctionOp function []) labels = refl
names_core op labels = refl

-- an expression with the typing and the meaning of another, without aliases where none are kept
pub record SaysSame (keep : Bool) (registry : Registry) (frame : Frame) (before after : Expression) (typed : Typed) : Type 0 where
  pub none : keep ≡ false → is_core after ≡ true
  pub typing : typing registry frame.schema after ≡ Ok typed
  pub meaning : meaning registry frame after ≡ meaning registry frame before

-- an alias goes, and any other node stays
top_without : (registry : Registry) (frame : Frame) (op : Op) (children : Trees Op) (below : List Typed) (typed : Typed) → are_core children ≡ true → typing_all registry frame.schema children ≡ Ok below → typing_rule registry frame.schema op below ≡ Ok typed → SaysSame false registry frame (node op children) (prune_node false op children) typed
top_without registry frame (AliasOp name) (more tree no_more) below typed none there h =
    by_children (λ ts. typing_rule registry frame.schema (AliasOp name) ts ≡ Ok typed → SaysSame false registry frame (alias name tree) tree typed) _ _ below there (λ t ts first rest h.
    by_no_children (λ ts. typing_rule registry frame.schema (AliasOp name) (t ∷ ts) ≡ Ok typed → SaysSame false registry frame (alias name tree) tree typed) ts rest (λ h.
    record { none = λ gone. (and_parts (is_core tree) true none).0; typing = first ∙ h; meaning = sym (alias_means registry frame name tree t first) }) h) h
top_without registry frame (AliasOp name) (more tree (more second rest)) below typed none there h =
    by_children (λ ts. typing_rule registry frame.schema (AliasOp name) ts ≡ Ok typed → SaysSame false registry frame (node (AliasOp name) (more tree (more second rest))) (node (AliasOp name) (more tree (more second rest))) typed) _ _ below there (λ t ts first others h.
    by_children (λ ts. typing_rule registry frame.schema (AliasOp name) (t ∷ ts) ≡ Ok typed → SaysSame false registry frame (node (AliasOp name) (more tree (more second rest))) (node (AliasOp name) (more tree (more second rest))) typed) _ _ ts others (λ u us next last h. cc) h) h
top_without registry frame (AliasOp name) no_more below typed none there h =
    by_no_children (λ ts. typing_rule registry frame.schema (AliasOp name) ts ≡ Ok typed → SaysSame false registry frame (node (AliasOp name) no_more) (node (AliasOp name) no_more) typed) below there (λ h. cc) h
top_without registry frame op children below typed none there h =
    record { none = λ gone. and_from (is_core_op op) (are_core children) refl none; typing = ap (λ r. then_typed r (typing_rule registry frame.schema op)) there ∙ h; meaning = refl }

-- an expression with its aliases is itself at the top
kept_node : (op : Op) (children : Trees Op) → prune_node true op children ≡ node op children
kept_node (AliasOp name) (more tree no_more) = refl
kept_node op children = refl

top_pruned : (keep : Bool) (registry : Registry) (frame : Frame) (op : Op) (children : Trees Op) (below : List Typed) (typed : Typed) → (keep ≡ false → are_core children ≡ true) → typing_all registry frame.schema children ≡ Ok below → typing_rule registry frame.schema op below ≡ Ok typed → SaysSame keep registry frame (node op children) (prune_node keep op children) typed
top_pruned true registry frame op children below typed none there h =
    subst (λ t. SaysSame true registry frame (node op children) t typed) (sym (kept_node op children)) (record { none = λ gone. cc; typing = ap (λ r. then_typed r (typing_rule registry frame.schema op)) there ∙ h; meaning = refl })
top_pruned false registry frame op children below typed none there h = top_without registry frame op children below typed (none refl) there h

-- ---- horizontals that are written out

chain_is_core : (operator : Operator) (tree : Expression) (trees : Trees Op) → is_core tree ≡ true → are_core trees ≡ true → is_core (chain operator tree trees) ≡ true
chain_is_core operator tree no_more h below = h
chain_is_core operator tree (more next rest) h below =
    let both = and_parts (is_core next) (are_core rest) below in
    chain_is_core operator (node (BinaryOp operator) (more tree (more next no_more))) rest (and_from (is_core tree) (is_core next && true) h (and_from (is_core next) true both.0 refl)) both.1

chained_is_core : (operator : Operator) (nothing : Bool) (trees : Trees Op) → are_core trees ≡ true → is_core (chained operator nothing trees) ≡ true
chained_is_core operator nothing no_more below = refl
chained_is_core operator nothing (more tree no_more) below = below
chained_is_core operator nothing (more tree (more next rest)) below =
    let both = and_parts (is_core tree) (are_core (more next rest)) below in chain_is_core operator tree (more next rest) both.0 both.1

abbrev IsWritten : Op → Type 0
IsWritten (FunctionOp AllHorizontal []) = Unit {0}
IsWritten (FunctionOp AnyHorizontal []) = Unit {0}
IsWritten op = ⊥

written_op : (write : Bool) (op : Op) (count : ℕ) → is_written_out write op count ≡ true → IsWritten op
written_op write (FunctionOp AllHorizontal []) count h = tt
written_op write (FunctionOp AnyHorizontal []) count h = tt
written_op true (FunctionOp function []) count h = cc
written_op false (FunctionOp function []) count h = cc
written_op write (FunctionOp function (label ∷ recorded)) count h = cc
written_op write op count h = cc

-- none is where none are to be
written_where : (write : Bool) (op : Op) (count : ℕ) → is_written_out write op count ≡ true → write ≡ true
written_where true op count h = refl
written_where false (FunctionOp function []) count h = cc
written_where false op count h = cc

-- an expression without aliases where none are kept, with the typing of another, and its meaning, on a frame where horizontals
-- are written out
pub record PrunedSame (keep out : Bool) (registry : Registry) (frame : Frame) (before after : Expression) (typed : Typed) : Type 0 where
  pub none : keep ≡ false → is_core after ≡ true
  pub typing : typing registry frame.schema after ≡ Ok typed
  pub meaning : (out ≡ true → IsFrame frame) → meaning registry frame after ≡ meaning registry frame before

chain_same : (keep : Bool) (registry : Registry) (frame : Frame) (function : FunctionExpr) (operator : Operator) (nothing : Bool) → IsChained function operator nothing → (children : Trees Op) (below : List Typed) (typed : Typed) → (keep ≡ false → are_core children ≡ true) → typing_all registry frame.schema children ≡ Ok below → typing_rule registry frame.schema (FunctionOp function []) below ≡ Ok typed
    → PrunedSame keep true registry frame (node (FunctionOp function []) children) (chained operator nothing children) typed
chain_same keep registry frame function operator nothing is children below typed none there h =
    let own = ap (λ r. then_typed r (typing_rule registry frame.schema (FunctionOp function []))) there ∙ h in
    record {
      none = λ gone. chained_is_core operator nothing children (none gone);
      typing = chain_typing registry function operator nothing is frame.schema children below there ∙ own;
      meaning = λ of. λ i rows. chain_means registry function operator nothing is frame (of refl) children typed own rows i;
    }

put_same : (keep out : Bool) (registry : Registry) (frame : Frame) (op : Op) (labels : List Label) (children : Trees Op) (below : List Typed) (typed : Typed) → (out ≡ true → IsWritten op) → (keep ≡ false → are_core children ≡ true) → typing_all registry frame.schema children ≡ Ok below → typing_rule registry frame.schema op below ≡ Ok typed
    → PrunedSame keep out registry frame (node op children) (put_together keep out op labels children) typed
put_same keep true registry frame (FunctionOp AllHorizontal []) labels children below typed written none there h = chain_same keep registry frame AllHorizontal LogicalAnd true all_chained children below typed none there h
put_same keep true registry frame (FunctionOp AnyHorizontal []) labels children below typed written none there h = chain_same keep registry frame AnyHorizontal LogicalOr false any_chained children below typed none there h
put_same keep true registry frame _ labels children below typed written none there h = absurd (written refl)
put_same keep false registry frame op labels children below typed written none there h =
    let own = ap own_typed (names_ruled registry frame.schema op labels below) ∙ h in
    let top = top_pruned keep registry frame (with_names op labels) children below typed none there own in
    record {
      none = top.none;
      typing = top.typing;
      meaning = λ of. top.meaning ∙ names_mean registry frame op labels (typing_all registry frame.schema children) (meaning_all registry frame children);
    }

-- and the node over the children has the typing that they have so put together
names_typed : (registry : Registry) (schema : Columns) (op : Op) (labels : List Label) (children : Trees Op) → typing registry schema (node (with_names op labels) children) ≡ typing registry schema (node op children)
names_typed registry schema op labels children = λ i. then_typed (typing_all registry schema children) (λ typed. own_typed (names_ruled registry schema op labels typed i))

unpruned : (keep : Bool) (registry : Registry) (schema : Columns) (op : Op) (children : Trees Op) (typed : Typed) → typing registry schema (prune_node keep op children) ≡ Ok typed → typing registry schema (node op children) ≡ Ok typed
unpruned true registry schema op children typed h = ap (typing registry schema) (sym (kept_node op children)) ∙ h
unpruned false registry schema (AliasOp name) (more tree no_more) typed h = alias_typing registry schema name tree typed h
unpruned false registry schema op children typed h = h

put_alone : (keep out : Bool) (registry : Registry) (schema : Columns) (op : Op) (labels : List Label) (children : Trees Op) (typed : Typed) → (out ≡ true → IsWritten op) → typing registry schema (put_together keep out op labels children) ≡ Ok typed → typing registry schema (node op children) ≡ Ok typed
put_alone keep true registry schema (FunctionOp AllHorizontal []) labels children typed written h = (its_chain registry schema AllHorizontal children refl).typed_alone typed h
put_alone keep true registry schema (FunctionOp AnyHorizontal []) labels children typed written h = (its_chain registry schema AnyHorizontal children refl).typed_alone typed h
put_alone keep true registry schema _ labels children typed written h = absurd (written refl)
put_alone keep false registry schema op labels children typed written h =
    sym (names_typed registry schema op labels children) ∙ unpruned keep registry schema (with_names op labels) children typed h

-- ---- expressions

pub record AllPrunedSame (keep write : Bool) (registry : Registry) (frame : Frame) (before after : Trees Op) (typed : List Typed) : Type 0 where
  pub all_none : keep ≡ false → are_core after ≡ true
  pub typings : typing_all registry frame.schema after ≡ Ok typed
  pub meanings : (write ≡ true → IsFrame frame) → meaning_all registry frame after ≡ meaning_all registry frame before

module _ (registry : Registry) (frame : Frame) (write : Bool) where
  mutual
    pub pruned_same : (keep : Bool) (tree : Expression) (typed : Typed) → typing registry frame.schema tree ≡ Ok typed → PrunedSame keep write registry frame tree (pruned keep write tree) typed
    pruned_same keep (node op children) typed h =
        let p = typed_parts registry frame.schema op children typed h in
        let count = tree_count children in
        let lets = lets_aliases write op count in
        let below = all_pruned (keep && lets) write children in
        let all = all_pruned_same (keep && lets) children p.below p.children_typed in
        let put = put_same keep (is_written_out write op count) registry frame op (fold_all op_label children) below p.below typed (written_op write op count) (λ gone. all.all_none (ap (λ b. b && lets) gone)) all.typings (ap own_typed p.rules ∙ ap Ok p.is) in
        record {
          none = put.none;
          typing = put.typing;
          meaning = λ of.
              put.meaning (λ out. of (written_where write op count out))
              ∙ ap (λ r. node_meaning registry frame op r (meaning_all registry frame below)) (all.typings ∙ sym p.children_typed)
              ∙ ap (node_meaning registry frame op (typing_all registry frame.schema children)) (all.meanings of);
        }

    pub all_pruned_same : (keep : Bool) (trees : Trees Op) (typed : List Typed) → typing_all registry frame.schema trees ≡ Ok typed → AllPrunedSame keep write registry frame trees (all_pruned keep write trees) typed
    all_pruned_same keep no_more typed h = record { all_none = λ gone. refl; typings = h; meanings = λ of. refl }
    all_pruned_same keep (more tree trees) typed h =
        by_children (AllPrunedSame keep write registry frame (more tree trees) (more (pruned keep write tree) (all_pruned keep write trees))) _ _ typed h (λ t ts first rest.
        let one = pruned_same keep tree t first in
        let others = all_pruned_same keep trees ts rest in
        record {
          all_none = λ gone. and_from (is_core (pruned keep write tree)) (are_core (all_pruned keep write trees)) (one.none gone) (others.all_none gone);
          typings = ap (λ r. typed_before r (typing_all registry frame.schema (all_pruned keep write trees))) one.typing ∙ ap (typed_before (Ok t)) others.typings;
          meanings = λ of. ap (λ m. m ∷ meaning_all registry frame (all_pruned keep write trees)) (one.meaning of) ∙ ap (λ l. meaning registry frame tree ∷ l) (others.meanings of);
        })

-- an expression has the typing that it has so
module _ (registry : Registry) (schema : Columns) (write : Bool) where
  mutual
    pub pruned_alone : (keep : Bool) (tree : Expression) (typed : Typed) → typing registry schema (pruned keep write tree) ≡ Ok typed → typing registry schema tree ≡ Ok typed
    pruned_alone keep (node op children) typed h =
        let count = tree_count children in
        let lets = keep && lets_aliases write op count in
        let below = all_pruned lets write children in
        let p = typed_parts registry schema op below typed (put_alone keep (is_written_out write op count) registry schema op (fold_all op_label children) below typed (written_op write op count) h) in
        ap (λ r. then_typed r (typing_rule registry schema op)) (all_pruned_alone lets children p.below p.children_typed) ∙ ap own_typed p.rules ∙ ap Ok p.is

    all_pruned_alone : (keep : Bool) (trees : Trees Op) (typed : List Typed) → typing_all registry schema (all_pruned keep write trees) ≡ Ok typed → typing_all registry schema trees ≡ Ok typed
    all_pruned_alone keep no_more typed h = h
    all_pruned_alone keep (more tree trees) typed h =
        by_children (λ typed. typing_all registry schema (more tree trees) ≡ Ok typed) _ _ typed h (λ t ts first rest.
        ap (λ r. typed_before r (typing_all registry schema trees)) (pruned_alone keep tree t first) ∙ ap (typed_before (Ok t)) (all_pruned_alone keep trees ts rest))

-- so a typed one has no aliases
pub pruned_none : (write : Bool) (registry : Registry) (schema : Columns) (tree : Expression) (typed : Typed) → typing registry schema (pruned false write tree) ≡ Ok typed → IsCore (pruned false write tree)
pruned_none write registry schema tree typed h =
    (pruned_same registry (record { schema = schema; rows = [] }) write false tree typed (pruned_alone registry schema write false tree typed h)).none refl

pub settled_none : (write : Bool) (registry : Registry) (schema : Columns) (tree : Expression) (typed : Typed) → typing registry schema (settled (pruned false write tree)) ≡ Ok typed → IsCore (settled (pruned false write tree))
settled_none write registry schema tree typed h =
    let e = pruned_settled write tree in subst IsCore e (pruned_none write registry schema (settled tree) typed (ap (typing registry schema) e ∙ h))

false_true : false ≡ true → ⊥
false_true h = cc

pub core_meaning : (registry : Registry) (frame : Frame) (tree : Expression) (typed : Typed) → typing registry frame.schema tree ≡ Ok typed → meaning registry frame (core tree) ≡ meaning registry frame tree
core_meaning registry frame tree typed h = (pruned_same registry frame false false tree typed h).meaning (λ write. absurd (false_true write))

-- ---- horizontals that stay, and such as are written out

-- one is typed so where the other is
pub alike_typed : (registry : Registry) (schema : Columns) (keep write other : Bool) (tree : Expression) (typed : Typed) → typing registry schema (pruned keep write tree) ≡ Ok typed → typing registry schema (pruned keep other tree) ≡ Ok typed
alike_typed registry schema keep write other tree typed h =
    (pruned_same registry (record { schema = schema; rows = [] }) other keep tree typed (pruned_alone registry schema write keep tree typed h)).typing

pub spelled_same : SpelledSaySame
spelled_same registry schema tree = record {
  typed = alike_typed registry schema false false true tree;
  typed_alone = alike_typed registry schema false true false tree;
  none = λ typed h. pruned_none true registry schema tree typed (alike_typed registry schema false false true tree typed h);
  meaning = λ frame typed of same h.
      let own = pruned_alone registry frame.schema false false tree typed (ap (λ s. typing registry s (core tree)) same ∙ h) in
      (pruned_same registry frame true false tree typed own).meaning (λ write. of) ∙ sym (core_meaning registry frame tree typed own);
  settled_core = sym (pruned_settled false tree);
  settled_spelled = sym (pruned_settled true tree);
}
