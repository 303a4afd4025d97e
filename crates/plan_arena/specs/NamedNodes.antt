-- Expressions of a lowered plan: a node with the name of its column.
use Rattle.std.specs.Prelude.{Bool}
use Rattle.std.specs.Cmp.{IsEquivalence, and_equiv}
use Rattle.std.specs.Ordering.{on, eq_of_both}
use Rattle.std.proofs.lemmas.Cmp.{on_equiv}
use Rattle.plan_arena.specs.declared.arena.Node.{Node}
use Rattle.plan_arena.specs.declared.expr_ir.OutputName.{OutputName}
use Rattle.plan_arena.specs.contracts.arena.NodePartialEq.TheImpl as node_eq
use Rattle.plan_arena.specs.contracts.arena.NodeEq.TheImpl.Laws as node_laws
use Rattle.plan_arena.specs.contracts.expr_ir.OutputNamePartialEq.TheImpl as name_eq
use Rattle.plan_arena.specs.contracts.expr_ir.OutputNameEq.TheImpl.Laws as name_laws

pub record NamedNode : Type 0 where
  pub node : Node
  pub output_name : OutputName

-- whether two are one node with one name, from one source
abbrev pub same_named : NamedNode → NamedNode → Bool
same_named = eq_of_both (on (λ e. e.node) (node_eq.ghosts).eq) (on (λ e. e.output_name) (name_eq.ghosts).eq)

pub same_named_is_equivalence : IsEquivalence same_named
same_named_is_equivalence = and_equiv (on_equiv (λ e. e.node) node_laws.laws-law) (on_equiv (λ e. e.output_name) name_laws.laws-law)
