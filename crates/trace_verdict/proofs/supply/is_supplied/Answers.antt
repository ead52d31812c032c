use Rattle.std.proofs.Common.{arith, sym, ◌∙◌, ◌≤◌}
use Rattle.trace_verdict.proofs.SupplyLemmas.{supplied_to, supplied_back}
use Rattle.trace_verdict.proofs.supply.is_supplied.Goals as goal

pub returns : goal.returns
returns c =
    let b : c.args.periods.now.base ≤ c.args.periods.now.stop = omega (arith, c.if-periods.false) in
    let l = c.requires.lawful in (
      λ t. supplied_to c.args.periods.now c.args.rows.now l b (c.requires.apart b) (sym c.holds_from_base.ensures ∙ t),
      λ s. c.holds_from_base.ensures ∙ supplied_back c.args.periods.now c.args.rows.now l b (c.requires.apart b) s,
    )
