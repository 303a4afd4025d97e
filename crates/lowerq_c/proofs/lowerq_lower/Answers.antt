use Rattle.std.proofs.Common.{◌≡◌, ◌∷◌, [], ◌∙◌, sym, ap, subst, length, Contains, arith}
use Rattle.lowerq_c.specs.Calls.{IsComplaint, IsRefusal, IsReport, overwritten}
use Rattle.lowerq_c.proofs.CallLemmas.{handed, is_lowered, is_refused, is_bad_query, listed}
use Rattle.lowerq_c.proofs.lowerq_lower.Goals as goal

pub returns-clause-numbers : goal.returns-clause-numbers
returns-clause-numbers c =
    subst (Contains (0 ∷ 1 ∷ 3 ∷ 6 ∷ 7 ∷ [])) (sym c.number.ensures) (listed c.run_to_text-done.result.done.status c.run_to_text-done.ensures.no_fault c.run_to_text-done.ensures.no_usage)

pub returns-clause-lowered : goal.returns-clause-lowered
returns-clause-lowered c e =
    let found = is_lowered c.run_to_text-done.result.done.status (sym c.number.ensures ∙ e) in
    handed (IsReport c.args.query.now) c.run_to_text-done.result.text.items c.args.buffer.now c.put_front.new.buffer c.len.result (omega (arith, c.len.ensures, c.as_slice.ensures.len, ap length c.as_slice.ensures.value)) (subst (λ text. c.put_front.new.buffer ≡ overwritten text c.args.buffer.now) c.as_slice.ensures.value c.put_front.ensures) (c.run_to_text-done.result.done.plan, c.run_to_text-done.ensures.lowered found)

pub returns-clause-refused : goal.returns-clause-refused
returns-clause-refused c e =
    let found = is_refused c.run_to_text-done.result.done.status (sym c.number.ensures ∙ e) in
    handed (IsRefusal c.args.query.now) c.run_to_text-done.result.text.items c.args.buffer.now c.put_front.new.buffer c.len.result (omega (arith, c.len.ensures, c.as_slice.ensures.len, ap length c.as_slice.ensures.value)) (subst (λ text. c.put_front.new.buffer ≡ overwritten text c.args.buffer.now) c.as_slice.ensures.value c.put_front.ensures) (found.0, c.run_to_text-done.ensures.refused found.0 found.1)

pub returns-clause-bad_query : goal.returns-clause-bad_query
returns-clause-bad_query c e =
    let found = is_bad_query c.run_to_text-done.result.done.status (sym c.number.ensures ∙ e) in
    handed (IsComplaint c.args.query.now) c.run_to_text-done.result.text.items c.args.buffer.now c.put_front.new.buffer c.len.result (omega (arith, c.len.ensures, c.as_slice.ensures.len, ap length c.as_slice.ensures.value)) (subst (λ text. c.put_front.new.buffer ≡ overwritten text c.args.buffer.now) c.as_slice.ensures.value c.put_front.ensures) (found.0, c.run_to_text-done.ensures.bad_query found.0 found.1)
