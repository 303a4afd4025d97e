use Rattle.std.proofs.Common.{◌≡◌, length, replicate, ap, ◌∙◌, arith}
use Rattle.plan_lower.proofs.SortLemmas.{alone_counted, names_counted}
use Rattle.plan_lower.proofs.conversion.sorts.names_alone.Goals as goal

pub returns-in-Columns : goal.returns-in-Columns
returns-in-Columns c = λ schema.
    let many : length c.in-Columns.names.items ≡ c.len-in-Columns.result = omega (arith, c.len-in-Columns.ensures) in
    names_counted schema c.args.by.now.items.items c.index.result.now c.in-Columns.names (omega (arith, c.len.ensures, c.if-len-ne1.false)) c.index.ensures c.in-Columns.is ∙ ap (λ n. replicate n 1) many

pub returns-in_default : goal.returns-in_default
returns-in_default c = λ schema.
    alone_counted schema c.args.by.now.items.items c.index.result.now (omega (arith, c.len.ensures, c.if-len-ne1.false)) c.index.ensures c.in_default.not-Columns
