-- Outputs: expressions of one node, with what lowering makes of them.
use Rattle.std.specs.Prelude.{◌≡◌, ℕ, List, [], map, true, Ok, IsTrue}
use Rattle.std.specs.List.{AllByRecursion, flat_map, list_all}
use Rattle.plan_types.specs.Types.{Ty}
use Rattle.plan_types.specs.Schemas.{Name, Columns, HasDistinctNames}
use Rattle.plan_types.specs.declared.error.ErrorKind.{ErrorKind}
use Rattle.plan_dsl.specs.InlinedCasts.{written_out}
use Rattle.plan_dsl.specs.Registry.{Registry}
use Rattle.plan_dsl.specs.Ops.{Expression}
use Rattle.plan_dsl.specs.Sources.{Source, is_plain}
use Rattle.plan_dsl.specs.Expressions.{plain_trees, trees_of}
use Rattle.plan_dsl.specs.declared.expr.Exprs.{Exprs}
use Rattle.plan_dsl.specs.Expansion.{expansions}
use Rattle.plan_dsl.specs.Names.{label_of, name_of}
use Rattle.plan_dsl.specs.PlanRules.{type_kinds}
use Rattle.plan_dsl.specs.Plans.{Named}
use Rattle.plan_dsl.specs.Aliases.{core, spelled}
use Rattle.plan_dsl.specs.Literals.{settled}
use Rattle.plan_dsl.specs.Typing.{Typed, typing}
use Rattle.plan_dsl.specs.Strictness.{IsSame, IsStrict}
use Rattle.plan_arena.specs.declared.aexpr.AExpr.{AExpr}
use Rattle.plan_arena.specs.Items.{DenoteNamed}
use Rattle.plan_arena.specs.Runs.{NamesOperands}
use Rattle.plan_bounds.specs.LoweredPlans.{has_wide_horizontals}
use Rattle.plan_lower.specs.Asked.{asked_columns, asked_work}
use Rattle.plan_lower.specs.declared.conversion.asked.Asked.{Asked}
use Rattle.plan_lower.specs.declared.conversion.asked.Asked.TheVariants.{NewName}

-- The source expressions are expanded over the schema, of which the named columns are keys, to these, which have plans' ops
-- alone.
pub record AreExpandedTo (keys : List Name) (schema : Columns) (sources : List Source) (exprs : Exprs) : Type 0 where
  pub trees : expansions keys schema sources ≡ Ok (plain_trees exprs)
  pub plain : list_all is_plain (trees_of exprs) ≡ true

-- an expression of the query, its type, and what stands for it in the lowered plan
pub record Lowered : Type 0 where
  pub tree : Expression
  pub typed : Typed
  pub after : Expression

abbrev pub lowered_named : Lowered → Named Expression
lowered_named output = record { label = label_of output.tree; expression = output.after }

abbrev pub lowered_column : Lowered → Name × Ty
lowered_column output = (name_of output.tree, output.typed.type)

-- The expression, as a plan takes it, is typed. What stands for it says the same as that with its horizontals written out,
-- is strict and has names for the operands of its functions, and each horizontal in it is wide: it is that expression with
-- every implicit cast written out, without the casts that can be told beforehand.
pub record IsLowered (registry : Registry) (schema : Columns) (output : Lowered) : Type 0 where
  pub typed : typing registry schema (settled (core output.tree)) ≡ Ok output.typed
  pub same : IsSame registry schema (settled (spelled output.tree)) output.after
  pub strict : IsStrict registry schema output.after
  pub casts : output.after ≡ written_out registry schema (settled (spelled output.tree))
  pub names : NamesOperands output.after
  pub wide : IsTrue (has_wide_horizontals output.after)

-- nodes that stand for the expressions, of which what is asked holds, and the columns that are made of these
pub record HasOutputs (registry : Registry) (schema : Columns) (asked : Asked) (items : List AExpr) (trees : List Expression) (nodes : List (Named ℕ)) (columns : Columns) : Type 0 where
  pub outputs : List Lowered
  pub trees_are : map (λ o. o.tree) outputs ≡ trees
  pub each : AllByRecursion (IsLowered registry schema) outputs
  pub types : flat_map (λ o. type_kinds (asked_work asked) o.typed) outputs ≡ []
  pub distinct : HasDistinctNames (asked_columns asked (map lowered_column outputs))
  pub denotes : DenoteNamed items nodes (map lowered_named outputs)
  pub columns_are : columns ≡ asked_columns asked (map lowered_column outputs)

-- source expressions are expanded over the schema, and the nodes stand for what they are expanded to, under new names
pub record HasExpandedOutputs (registry : Registry) (schema : Columns) (twice : ErrorKind) (items : List AExpr) (sources : List Source) (nodes : List (Named ℕ)) (columns : Columns) : Type 0 where
  pub trees : List Expression
  pub expanded : expansions [] schema sources ≡ Ok trees
  pub lowered : HasOutputs registry schema (NewName twice) items trees nodes columns
