use Rattle.std.proofs.Common.{◌≡◌, true, Ok, sym, subst, rules}
use Rattle.plan_types.specs.Errors.{IsRefusal}
use Rattle.plan_types.specs.Schemas.{columns}
use Rattle.plan_types.specs.declared.error.ErrorKind.TheVariants.{NoMemory}
use Rattle.plan_dsl.specs.Aliases.{core}
use Rattle.plan_dsl.specs.Expressions.{plain_tree}
use Rattle.plan_dsl.specs.Registry.{registry}
use Rattle.plan_dsl.specs.Sources.{Source, is_plain, unwritten}
use Rattle.plan_dsl.specs.Typing.{Typed, typing}
use Rattle.plan_lower.proofs.SpelledLemmas.{memory_core, untyped_core}
use Rattle.plan_lower.proofs.conversion.projection.add_spelled.Goals as goal

pub refusal_of-requires : goal.refusal_of-requires
refusal_of-requires c =
    let r = registry c.args.udfs.now in
    let s = columns c.args.schema.now in
    let other : ¬ (c.in-Err.error.kind ≡ NoMemory) = search rules in
    record {
      plain = subst (λ (t : Source). is_plain t ≡ true) (sym c.requires.same) c.requires.plain;
      right = c.add_pruned.ensures.right;
      untyped = subst (λ (t : Source). (typed : Typed) → ¬ (typing r s (core (unwritten t)) ≡ Ok typed)) (sym c.requires.same) (untyped_core r s (plain_tree c.args.expr) c.in-Err.error c.in-Err.ensures.err other);
    }

pub returns-then-eq-clause-err : goal.returns-then-eq-clause-err
returns-then-eq-clause-err c =
    let memory : c.in-Err.error.kind ≡ NoMemory = search rules in
    memory_core (registry c.args.udfs.now) (columns c.args.schema.now) (plain_tree c.args.expr) c.in-Err.error c.in-Err.ensures.err memory

pub returns-else-eq-clause-err : goal.returns-else-eq-clause-err
returns-else-eq-clause-err c =
    subst (λ (t : Source). IsRefusal (typing (registry c.args.udfs.now) (columns c.args.schema.now) (core (unwritten t))) c.refusal_of.result) c.requires.same c.refusal_of.ensures.told
