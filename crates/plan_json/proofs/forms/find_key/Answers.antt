use Rattle.plan_json.proofs.Names.{List, ap, option_map, refl, sym, ℕ, ◌∙◌, key_named, plan_rows}
use Rattle.plan_json.specs.Forms.{selector_rows}
use Rattle.plan_json.specs.declared.forms.PlanKey.{PlanKey}
use Rattle.plan_json.specs.declared.forms.Key.TheVariants as keys
use Rattle.plan_json.proofs.FormLemmas.{named_plain}
use Rattle.plan_json.proofs.forms.find_key.Goals as goal

pub returns-in-Some-find-clause-plain : goal.returns-in-Some-find-clause-plain
returns-in-Some-find-clause-plain c = named_plain plan_rows c.args.word.now (c.in-Some-find.word.now, c.in-Some-find.key) refl c.in-Some-find.ensures.row

pub returns-in-Some-find-2-clause-plain : goal.returns-in-Some-find-2-clause-plain
returns-in-Some-find-2-clause-plain c = named_plain selector_rows c.args.word.now (c.in-Some-find-2.word.now, c.in-Some-find-2.key) refl c.in-Some-find-2.ensures.row

pub returns-in-Some-clause-row : goal.returns-in-Some-clause-row
returns-in-Some-clause-row c = c.in-Some.ensures.row ∙ ap (λ kind. key_named kind c.args.word.now) (sym c.in-Expression.is)

pub returns-in-Some-find-clause-row : goal.returns-in-Some-find-clause-row
returns-in-Some-find-clause-row c =
    ap (option_map (λ (row : List ℕ × PlanKey). (row.0, keys.Plan row.1))) c.in-Some-find.ensures.row ∙ ap (λ kind. key_named kind c.args.word.now) (sym c.in-Plan.is)

pub returns-in-None-find-clause-row : goal.returns-in-None-find-clause-row
returns-in-None-find-clause-row c =
    ap (option_map (λ (row : List ℕ × PlanKey). (row.0, keys.Plan row.1))) c.in-None-find.ensures.row ∙ ap (λ kind. key_named kind c.args.word.now) (sym c.in-Plan.is)
