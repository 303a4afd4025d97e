use Rattle.std.proofs.Common.{ap, ◌∙◌, arith}
use Rattle.plan_types.specs.Schemas.{columns, repeats}
use Rattle.plan_types.proofs.SchemaPairLemmas.{all_given, one_given, same_entry_names}
use Rattle.plan_types.proofs.schema.Schema.give_types.Goals as goal

pub invariant_of-self : goal.invariant_of-self
invariant_of-self c =
    record { distinct = ap repeats (same_entry_names c.loop-dtype.self.fields.entries c.len-number.result c.in-Some.dtype) ∙ c.loop-dtype.self.distinct }

pub loop-dtype-preserved-in-Some : goal.loop-dtype-preserved-in-Some
loop-dtype-preserved-in-Some c =
    one_given c.loop-dtype.self.fields.entries c.loop-dtype.types.items c.pop.new.self.items c.in-Some.dtype c.len-number.result _ c.in-Some.ensures.items (omega (arith, c.len-number.ensures, c.pop.new.self.ok)) c.loop-dtype.invariant

pub loop-dtype-preserved-in-Some-2 : goal.loop-dtype-preserved-in-Some-2
loop-dtype-preserved-in-Some-2 c =
    one_given c.loop-dtype.self.fields.entries c.loop-dtype.types.items c.pop.new.self.items c.in-Some.dtype c.len-number.result _ c.in-Some.ensures.items (omega (arith, c.len-number.ensures, c.pop.new.self.ok)) c.loop-dtype.invariant

pub loop-dtype-preserved : goal.loop-dtype-preserved
loop-dtype-preserved c =
    one_given c.loop-dtype.self.fields.entries c.loop-dtype.types.items c.pop.new.self.items c.in-Some.dtype c.len-number.result _ c.in-Some.ensures.items (omega (arith, c.len-number.ensures, c.pop.new.self.ok)) c.loop-dtype.invariant

pub returns : goal.returns
returns c =
    all_given (columns c.loop-dtype.self) _ c.loop-dtype.types.items (omega (arith, c.in_default.ensures.cases.0, c.loop-dtype.types.ok)) c.loop-dtype.invariant
