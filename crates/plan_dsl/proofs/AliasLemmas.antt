-- Aliases: a node of one is typed as its operand is, and means the same. Expressions without them, and with horizontals that
-- stay or are written out: names, and numbers at the top.
use Rattle.std.proofs.Common.{◌≡◌, ◌⊎◌, inl, inr, ◌&&◌, ℕ, nat_lt, Bool, true, false, subst, List, [], ◌∷◌, Ok, refl, sym, ap, ◌∙◌}
use Rattle.std.proofs.lemmas.Bool.{and_parts}
use Rattle.plan_types.specs.Types.{Ty}
use Rattle.plan_types.specs.Schemas.{Name, Columns}
use Rattle.plan_types.specs.Values.{Val}
use Rattle.plan_types.specs.Frames.{Frame}
use Rattle.plan_types.specs.Outcomes.{Outcome, Done, Fault, Stuck, then_do}
use Rattle.plan_dsl.specs.Registry.{Registry}
use Rattle.plan_dsl.specs.Trees.{Trees, node, no_more, more, fold_all, tree_count}
use Rattle.plan_dsl.specs.declared.function_expr.FunctionExpr.{FunctionExpr}
use Rattle.plan_dsl.specs.declared.function_expr.FunctionExpr.TheVariants.{AllHorizontal, AnyHorizontal}
use Rattle.plan_dsl.specs.declared.operator.Operator.{Operator}
use Rattle.plan_dsl.specs.declared.operator.Operator.TheVariants.{LogicalAnd, LogicalOr}
use Rattle.plan_dsl.specs.Functions.{is_horizontal}
use Rattle.plan_dsl.specs.Signatures.{least_horizontal}
use Rattle.plan_dsl.specs.Aliases.{all_pruned, chain, chained, core, is_written_out, pruned, put_together, spelled}
use Rattle.plan_dsl.specs.Names.{FromAlias, Label, first_label, function_label, label_of, op_label}
use Rattle.plan_dsl.specs.Ops.{Op, ColumnOp, LiteralOp, BinaryOp, LenOp, AliasOp, FunctionOp, Expression}
use Rattle.plan_dsl.specs.Kernels.{kernel}
use Rattle.plan_dsl.specs.Literals.{settled}
use Rattle.plan_dsl.specs.Meaning.{applied, meaning, node_meaning}
use Rattle.plan_dsl.specs.Typing.{Typed, aliased, then_typed, typed_before, typing, typing_rule}
use Rattle.plan_dsl.proofs.CastMeaningLemmas.{cast_own}

-- a node of an alias
abbrev pub alias : Name → Expression → Expression
alias name tree = node (AliasOp name) (more tree no_more)

pub alias_typing : (registry : Registry) (schema : Columns) (name : Name) (tree : Expression) (typed : Typed) → typing registry schema tree ≡ Ok typed → typing registry schema (alias name tree) ≡ Ok typed
alias_typing registry schema name tree typed h = ap (λ r. then_typed (typed_before r (Ok [])) (typing_rule registry schema (AliasOp name))) h

-- what is given is passed on
passed_on : (registry : Registry) (frame : Frame) (rows : List ℕ) (name : Name) (types : List Ty) (type : Ty) (o : Outcome (List Val)) → then_do (then_do o (λ column. Done (column ∷ []))) (kernel registry frame rows (AliasOp name) types type) ≡ o
passed_on registry frame rows name types type (Done column) = refl
passed_on registry frame rows name types type Fault = refl
passed_on registry frame rows name types type Stuck = refl

pub alias_means : (registry : Registry) (frame : Frame) (name : Name) (tree : Expression) (typed : Typed) → typing registry frame.schema tree ≡ Ok typed → meaning registry frame (alias name tree) ≡ meaning registry frame tree
alias_means registry frame name tree typed h =
    let m = meaning registry frame tree in
    ap (λ r. node_meaning registry frame (AliasOp name) (typed_before r (Ok [])) (m ∷ [])) h
    ∙ ap (λ m. applied registry frame (AliasOp name) (aliased typed) (m ∷ [])) (cast_own typed.type m)
    ∙ (λ i rows. passed_on registry frame rows name (typed.type ∷ []) typed.type (m rows) i)

-- ---- horizontals that are written out

-- a chain has the name of its first operand, and is one without aliases
pub chain_label : (operator : Operator) (tree : Expression) (trees : Trees Op) → label_of (chain operator tree trees) ≡ label_of tree
chain_label operator tree no_more = refl
chain_label operator tree (more next rest) = chain_label operator (node (BinaryOp operator) (more tree (more next no_more))) rest

settled_chain : (operator other : Operator) (children trees : Trees Op) → settled (chain operator (node (BinaryOp other) children) trees) ≡ chain operator (node (BinaryOp other) children) trees
settled_chain operator other children no_more = refl
settled_chain operator other children (more next rest) = settled_chain operator operator (more (node (BinaryOp other) children) (more next no_more)) rest

settled_chained : (operator : Operator) (nothing : Bool) (trees : Trees Op) → settled (chained operator nothing trees) ≡ chained operator nothing trees
settled_chained operator nothing no_more = refl
settled_chained operator nothing (more tree no_more) = refl
settled_chained operator nothing (more tree (more next rest)) = settled_chain operator operator (more tree (more next no_more)) rest

-- ---- numbers at the top

not_both : false ≡ true → ⊥
not_both h = cc

settled_function : (function : FunctionExpr) (out : Bool) (labels : List Label) (children : Trees Op) → (out ≡ true → is_horizontal function ≡ true) → put_together false out (FunctionOp function []) labels children ≡ settled (put_together false out (FunctionOp function []) labels children)
settled_function AllHorizontal true labels children h = sym (settled_chained LogicalAnd true children)
settled_function AnyHorizontal true labels children h = sym (settled_chained LogicalOr false children)
settled_function _ true labels children h = absurd (not_both (h refl))
settled_function _ false labels children h = refl

pub horizontal_alone : (write : Bool) (function : FunctionExpr) (count : ℕ) → is_written_out write (FunctionOp function []) count ≡ true → is_horizontal function ≡ true
horizontal_alone write function count h = (and_parts (is_horizontal function) (nat_lt count least_horizontal) (and_parts write (is_horizontal function && nat_lt count least_horizontal) h).1).0

-- a number at the top gets its type under aliases as it does without them
pub pruned_settled : (write : Bool) (tree : Expression) → pruned false write (settled tree) ≡ settled (pruned false write tree)
pruned_settled write (node (AliasOp name) (more tree no_more)) = pruned_settled write tree
pruned_settled write (node (FunctionOp function []) children) =
    settled_function function (is_written_out write (FunctionOp function []) (tree_count children)) (fold_all op_label children) (all_pruned false write children) (horizontal_alone write function (tree_count children))
pruned_settled write (node (FunctionOp function (label ∷ recorded)) children) = refl
pruned_settled write (node op children) = refl

pub core_settled : (tree : Expression) → core (settled tree) ≡ settled (core tree)
core_settled tree = pruned_settled false tree

pub spelled_settled : (tree : Expression) → spelled (settled tree) ≡ settled (spelled tree)
spelled_settled tree = pruned_settled true tree

-- ---- names

-- a function under its own name, whether it is written out or not
function_kept : (write : Bool) (function : FunctionExpr) (out : Bool) (children : Trees Op) → (out ≡ true → is_horizontal function ≡ true) → fold_all op_label (all_pruned true write children) ≡ fold_all op_label children → label_of (put_together true out (FunctionOp function []) (fold_all op_label children) (all_pruned out write children)) ≡ function_label function (fold_all op_label children)
function_kept write AllHorizontal true no_more h names = refl
function_kept write AllHorizontal true (more tree no_more) h names = ap first_label names
function_kept write AllHorizontal true (more tree (more next rest)) h names = chain_label LogicalAnd (pruned true write tree) (all_pruned true write (more next rest)) ∙ ap first_label names
function_kept write AnyHorizontal true no_more h names = refl
function_kept write AnyHorizontal true (more tree no_more) h names = ap first_label names
function_kept write AnyHorizontal true (more tree (more next rest)) h names = chain_label LogicalOr (pruned true write tree) (all_pruned true write (more next rest)) ∙ ap first_label names
function_kept write _ true children h names = absurd (not_both (h refl))
function_kept write _ false no_more h names = refl
function_kept write _ false (more tree trees) h names = refl

-- with its aliases an expression has its name
mutual
  pub kept_label : (write : Bool) (tree : Expression) → label_of (pruned true write tree) ≡ label_of tree
  kept_label write (node (AliasOp name) (more tree no_more)) = refl
  kept_label write (node (FunctionOp function []) children) =
      function_kept write function (is_written_out write (FunctionOp function []) (tree_count children)) children (horizontal_alone write function (tree_count children)) (kept_labels write children)
  kept_label write (node (FunctionOp function (label ∷ recorded)) children) = refl
  kept_label write (node op children) = ap (op_label op) (kept_labels write children)

  kept_labels : (write : Bool) (trees : Trees Op) → fold_all op_label (all_pruned true write trees) ≡ fold_all op_label trees
  kept_labels write no_more = refl
  kept_labels write (more tree trees) = λ i. kept_label write tree i ∷ kept_labels write trees i

-- the name comes from an alias, or is that of the expression without aliases
abbrev pub NamedAlike : Label → Label → Type 0
NamedAlike own other = (own.origin ≡ FromAlias) ⊎ (own ≡ other)

function_named : (write : Bool) (function : FunctionExpr) (out : Bool) (tree : Expression) (trees : Trees Op) → (out ≡ true → is_horizontal function ≡ true) → NamedAlike (label_of tree) (label_of (pruned false write tree))
    → NamedAlike (function_label function (label_of tree ∷ fold_all op_label trees)) (label_of (put_together false out (FunctionOp function []) (label_of tree ∷ fold_all op_label trees) (more (pruned false write tree) (all_pruned false write trees))))
function_named write AllHorizontal true tree no_more h first = first
function_named write AllHorizontal true tree (more next rest) h first = subst (NamedAlike (label_of tree)) (sym (chain_label LogicalAnd (pruned false write tree) (all_pruned false write (more next rest)))) first
function_named write AnyHorizontal true tree no_more h first = first
function_named write AnyHorizontal true tree (more next rest) h first = subst (NamedAlike (label_of tree)) (sym (chain_label LogicalOr (pruned false write tree) (all_pruned false write (more next rest)))) first
function_named write _ true tree trees h first = absurd (not_both (h refl))
function_named write _ false tree trees h first = inr refl

nothing_named : (write : Bool) (function : FunctionExpr) → NamedAlike (label_of (node (FunctionOp function []) no_more)) (label_of (pruned false write (node (FunctionOp function []) no_more)))
nothing_named false function = inr refl
nothing_named true AllHorizontal = inr refl
nothing_named true AnyHorizontal = inr refl
nothing_named true _ = inr refl

pub pruned_label : (write : Bool) (tree : Expression) → NamedAlike (label_of tree) (label_of (pruned false write tree))
pruned_label write (node (ColumnOp name) children) = inr refl
pruned_label write (node (LiteralOp type value) children) = inr refl
pruned_label write (node LenOp children) = inr refl
pruned_label write (node (AliasOp name) children) = inl refl
pruned_label write (node (FunctionOp function []) no_more) = nothing_named write function
pruned_label write (node (FunctionOp function []) (more tree trees)) =
    function_named write function (is_written_out write (FunctionOp function []) (tree_count (more tree trees))) tree trees (horizontal_alone write function (tree_count (more tree trees))) (pruned_label write tree)
pruned_label write (node (FunctionOp function (label ∷ recorded)) children) = inr refl
pruned_label write (node op (more tree trees)) = pruned_label write tree
pruned_label write (node op no_more) = inr refl

pub spelled_label : (tree : Expression) → NamedAlike (label_of tree) (label_of (spelled tree))
spelled_label tree = pruned_label true tree
