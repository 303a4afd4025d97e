-- Numbers without a type at the top of an expression that is added by itself.
use Rattle.std.specs.Prelude.{Bool, true, is_some}
use Rattle.plan_types.specs.CommonTypes.{type_alone}
use Rattle.plan_dsl.specs.Literals.{settled_op}
use Rattle.plan_dsl.specs.Ops.{AliasOp, Expression, LiteralOp}
use Rattle.plan_dsl.specs.Trees.{node, no_more, more}

-- whether such a number has a type alone
abbrev pub settles_own : Expression → Bool
settles_own (node (LiteralOp type value) children) = is_some (type_alone type)
settles_own tree = true

-- the expression in which it gets that type
abbrev pub settled_own : Expression → Expression
settled_own (node op children) = node (settled_op op) children

-- whether a number at the top, or directly under an alias there, has a type, and the expression in which it gets it
abbrev pub settles_at_top : Expression → Bool
settles_at_top (node (AliasOp name) (more tree no_more)) = settles_own tree
settles_at_top tree = settles_own tree

abbrev pub settled_at_top : Expression → Expression
settled_at_top (node (AliasOp name) (more tree no_more)) = node (AliasOp name) (more (settled_own tree) no_more)
settled_at_top tree = settled_own tree
