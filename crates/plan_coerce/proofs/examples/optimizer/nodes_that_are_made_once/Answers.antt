use Rattle.std.proofs.Common.{List, [], ◌∷◌, length, codes, pos, inl, inr, refl, subst, ap, ⊎_elim, arith}
use Rattle.plan_types.specs.declared.dtype.DataType.TheVariants as dtype
use Rattle.plan_types.specs.declared.dtype.CastOptions.TheVariants.{NonStrict}
use Rattle.plan_types.specs.Types.{Untyped}
use Rattle.plan_types.specs.Values.{IntValue}
use Rattle.plan_dsl.specs.declared.literal.LiteralValue.TheVariants.{Int}
use Rattle.plan_dsl.specs.declared.operator.Operator.TheVariants.{Plus}
use Rattle.plan_dsl.specs.Ops.{CastOp, LiteralOp}
use Rattle.plan_dsl.specs.Trees.{no_more, more}
use Rattle.plan_arena.specs.declared.aexpr.AExpr.{AExpr}
use Rattle.plan_arena.specs.declared.aexpr.AExpr.TheVariants.{Column, Literal}
use Rattle.plan_infer.specs.Samples.{int32, a, b, binary, cast_to, pair, columns_and, sum, sum_items, a_items}
use Rattle.plan_coerce.specs.Reaching.{Among, AreOnce, HasNodes, IsPutOnce}
use Rattle.plan_coerce.specs.Samples.{cast_of, strict_sum}
use Rattle.plan_coerce.proofs.ExampleLemmas.{one_list, one_list_of_all, strict_nodes, strict_once, sum_nodes, sum_once}
use Rattle.plan_coerce.proofs.OnceLemmas.{cast_once, itself_once, more_once, new_once, none_once, put_once}
use Rattle.plan_coerce.proofs.examples.optimizer.nodes_that_are_made_once.Goals as goal

abbrev cast_items : List AExpr
cast_items = Column (codes "a") ∷ cast_of 0 dtype.Int32 ∷ []

abbrev twice_items : List AExpr
twice_items = Column (codes "a") ∷ pair 0 Plus 0 ∷ []

twice_nodes : HasNodes twice_items 1 (binary Plus a a) (1 ∷ 0 ∷ 0 ∷ [])
twice_nodes = (0 ∷ 0 ∷ [], 0 ∷ 0 ∷ [], refl, refl, (0 ∷ [], 0 ∷ [], refl, ([], [], refl, refl, refl), (0 ∷ [], [], refl, ([], [], refl, refl, refl), refl)))

first_once : AreOnce (0 ∷ [])
first_once = ((λ a. a), tt)

put : IsPutOnce a_items cast_items 0 1
put = put_once a_items cast_items (cast_of 0 dtype.Int32) (CastOp int32 NonStrict) 0 1 refl refl refl

pub returns-clause-put : goal.returns-clause-put
returns-clause-put c = put

pub returns-clause-cast : goal.returns-clause-cast
returns-clause-cast c = cast_once a_items cast_items 0 1 put

pub returns-clause-itself : goal.returns-clause-itself
returns-clause-itself c = itself_once sum_items 2

pub returns-clause-other_operand : goal.returns-clause-other_operand
returns-clause-other_operand c = λ made.
    let r = made a (0 ∷ []) ([], [], refl, refl, refl) first_once in
    let second = one_list (columns_and []) 1 b r.0 (1 ∷ []) r.1 ([], [], refl, refl, refl) r.2 in
    ⊎_elim (λ among. ⊎_elim (λ e. absurd (omega (arith, e))) (λ none. absurd none) among) (λ le. absurd (omega (arith, le)))
    (r.4 1 (subst (λ ns. Among ns 1) second (inl refl)))

pub returns-clause-twice : goal.returns-clause-twice
returns-clause-twice c = λ made.
    let r = made a (0 ∷ []) ([], [], refl, refl, refl) first_once in
    let once = subst AreOnce (one_list twice_items 1 r.0 (binary Plus a a) r.1 (1 ∷ 0 ∷ 0 ∷ []) r.2 twice_nodes) r.3 in
    once.1.0 (inl refl)

pub returns-clause-operands : goal.returns-clause-operands
returns-clause-operands c =
    let cast = cast_once (columns_and []) (columns_and (cast_of 0 dtype.Int32 ∷ [])) 0 2 (put_once (columns_and []) (columns_and (cast_of 0 dtype.Int32 ∷ [])) (cast_of 0 dtype.Int32) (CastOp int32 NonStrict) 0 2 refl refl refl) in
    let one = more_once (columns_and []) (columns_and []) (columns_and (cast_of 0 dtype.Int32 ∷ [])) [] [] 0 2 (record { added = []; longer = refl }) (record { added = cast_of 0 dtype.Int32 ∷ []; longer = refl }) (none_once (columns_and [])) cast in
    more_once (columns_and []) (columns_and (cast_of 0 dtype.Int32 ∷ [])) (columns_and (cast_of 0 dtype.Int32 ∷ [])) (0 ∷ []) (2 ∷ []) 1 1 (record { added = cast_of 0 dtype.Int32 ∷ []; longer = refl }) (record { added = []; longer = refl }) one (itself_once (columns_and (cast_of 0 dtype.Int32 ∷ [])) 1)

pub returns-clause-one_for_both : goal.returns-clause-one_for_both
returns-clause-one_for_both c = λ made.
    let r = made (more a (more b no_more)) (0 ∷ 1 ∷ []) (0 ∷ [], 1 ∷ [], refl, ([], [], refl, refl, refl), (1 ∷ [], [], refl, ([], [], refl, refl, refl), refl)) sum_once.1 in
    let once = subst AreOnce (one_list_of_all (columns_and []) (0 ∷ 0 ∷ []) r.0 (more a (more a no_more)) r.1 (0 ∷ 0 ∷ []) r.2 (0 ∷ [], 0 ∷ [], refl, ([], [], refl, refl, refl), (0 ∷ [], [], refl, ([], [], refl, refl, refl), refl))) r.3 in
    once.0 (inl refl)

pub returns-clause-literal : goal.returns-clause-literal
returns-clause-literal c = new_once a_items (Column (codes "a") ∷ Literal (Int (pos 5)) ∷ []) (Literal (Int (pos 5))) (LiteralOp (Untyped (pos 5)) (IntValue (pos 5))) 1 refl refl refl

pub returns-clause-over_an_old_node : goal.returns-clause-over_an_old_node
returns-clause-over_an_old_node c = λ made.
    let both = one_list cast_items 1 (cast_to int32 a) made.0 (1 ∷ 0 ∷ []) made.1 (0 ∷ [], 0 ∷ [], refl, refl, (0 ∷ [], [], refl, ([], [], refl, refl, refl), refl)) made.2 in
    omega (arith, made.4 0 (subst (λ ns. Among ns 0) both (inr (inl refl))))

pub returns-clause-put_over_it_twice : goal.returns-clause-put_over_it_twice
returns-clause-put_over_it_twice c = λ made.
    let r = made.1 a (0 ∷ []) ([], [], refl, refl, refl) in
    omega (arith, ap length (one_list twice_items 1 r.0 (binary Plus a a) (1 ∷ 0 ∷ []) (1 ∷ 0 ∷ 0 ∷ []) r.1 twice_nodes))

pub returns-clause-no_new_node : goal.returns-clause-no_new_node
returns-clause-no_new_node c = λ made. omega (arith, made.0)

pub returns-clause-stays : goal.returns-clause-stays
returns-clause-stays c = λ t ns h once. (strict_sum, 2 ∷ 3 ∷ 0 ∷ 1 ∷ [], strict_nodes, strict_once)

pub returns-clause-no_longer : goal.returns-clause-no_longer
returns-clause-no_longer c = λ stays.
    let r = stays sum (2 ∷ 0 ∷ 1 ∷ []) sum_nodes sum_once in
    let once = subst AreOnce (one_list (columns_and (pair 0 Plus 0 ∷ [])) 2 r.0 (binary Plus a a) r.1 (2 ∷ 0 ∷ 0 ∷ []) r.2 (0 ∷ 0 ∷ [], 0 ∷ 0 ∷ [], refl, refl, (0 ∷ [], 0 ∷ [], refl, ([], [], refl, refl, refl), (0 ∷ [], [], refl, ([], [], refl, refl, refl), refl)))) r.3 in
    once.1.0 (inl refl)
