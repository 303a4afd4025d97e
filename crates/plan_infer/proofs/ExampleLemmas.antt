-- What the examples share.
use Rattle.std.proofs.Common.{◌≡◌, ℕ, Bool, List, Result, Ok, sym, ap}
use Rattle.plan_types.specs.Types.{Ty, ty}
use Rattle.plan_types.specs.declared.dtype.DataType.{DataType}
use Rattle.plan_types.specs.declared.error.ErrorKind.{ErrorKind}
use Rattle.plan_dsl.specs.Ops.{Expression}
use Rattle.plan_dsl.specs.Typing.{Typed}
use Rattle.plan_dsl.proofs.TypingLemmas.{ok_same}
use Rattle.plan_arena.specs.declared.aexpr.AExpr.{AExpr}
use Rattle.plan_arena.specs.Denotation.{Denotes}
use Rattle.plan_arena.specs.Items.{HoldsFrom, HoldsExpression}
use Rattle.plan_arena.proofs.DenotationLemmas.{denotes_one}
use Rattle.plan_arena.proofs.ItemLemmas.{from_laws, expression_laws}
use Rattle.plan_infer.specs.declared.type_table.Inferred.{Inferred}
use Rattle.plan_infer.specs.KeptTypes.{typed_of}
use Rattle.plan_infer.specs.Typed.{HasType}

-- a node denotes one tree
pub one_tree : (first : ℕ) (items : List AExpr) (n : ℕ) (t u : Expression) → Denotes (HoldsFrom first items) n t → Denotes (HoldsFrom first items) n u → t ≡ u
one_tree first items n t u d e = denotes_one _ (HoldsFrom first items) (from_laws first items) n t u d e

pub one_expression : (items : List AExpr) (n : ℕ) (t u : Expression) → Denotes (HoldsExpression items) n t → Denotes (HoldsExpression items) n u → t ≡ u
one_expression items n t u d e = denotes_one _ (HoldsExpression items) (expression_laws items) n t u d e

-- an expression has the type that its typing says
pub has_one : (answer : Result Typed ErrorKind) (typed : Typed) (type : Ty) → HasType answer type → answer ≡ Ok typed → typed.type ≡ type
has_one answer typed type has is = ap (λ t. t.type) (ok_same answer typed (record { type = type; many = has.many }) is has.is)

-- an entry of this type says this typing
pub says : (own : Inferred) (d : DataType) (many : Bool) → own.dtype ≡ d → own.many ≡ many → record { type = ty d; many = many } ≡ typed_of own
says own d many is same = λ i. record { type = ty (sym is i); many = sym same i }
