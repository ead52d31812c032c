use Rattle.std.proofs.Common.{◌+◌, ◌-◌, ◌*◌, true, false, eqb, refl, sym, ◌∙◌, arith}
use Rattle.std.proofs.lemmas.Bool.{or_left, eq-eqb}
use Rattle.trace_verdict.specs.Supply.{bound_at}
use Rattle.trace_verdict.proofs.SupplyLemmas.{crosses, row_by_ends}
use Rattle.trace_verdict.proofs.supply.row_holds.Goals as goal

pub is_due-requires-clause-ordered : goal.is_due-requires-clause-ordered
is_due-requires-clause-ordered c =
    let ends = crosses c.args.periods.now c.args.row.now c.requires.lawful c.requires.counted c.if-row.false in
    omega (arith, ends.first)

pub is_due-requires-clause-fits : goal.is_due-requires-clause-fits
is_due-requires-clause-fits c =
    let ends = crosses c.args.periods.now c.args.row.now c.requires.lawful c.requires.counted c.if-row.false in
    omega (arith, ends.first_ends, c.requires.counted.fits)

pub is_due-requires-then-is_due-clause-ordered : goal.is_due-requires-then-is_due-clause-ordered
is_due-requires-then-is_due-clause-ordered c =
    let ends = crosses c.args.periods.now c.args.row.now c.requires.lawful c.requires.counted c.if-row.false in
    omega (arith, ends.last)

pub is_due-requires-then-is_due-clause-fits : goal.is_due-requires-then-is_due-clause-fits
is_due-requires-then-is_due-clause-fits c =
    let ends = crosses c.args.periods.now c.args.row.now c.requires.lawful c.requires.counted c.if-row.false in
    omega (arith, ends.last_ends, c.requires.counted.fits)

pub returns-then-row : goal.returns-then-row
returns-then-row c =
    let counted = c.requires.counted in
    eq-eqb _ _ c.if-row.true ∙ sym (or_left _ _ (eq-eqb _ _ (sym counted.before ∙ (c.if-row.true ∙ counted.after))))

pub returns-then-is_due : goal.returns-then-is_due
returns-then-is_due c =
    row_by_ends c.args.periods.now c.args.row.now c.args.done true c.is_due-then-is_due.result c.requires.counted c.if-row.false (sym c.if-is_due.true
    ∙ c.is_due.ensures) c.is_due-then-is_due.ensures

pub returns-else-is_due : goal.returns-else-is_due
returns-else-is_due c =
    let p = c.args.periods.now in
    let row = c.args.row.now in
    c.if-is_due.false ∙ row_by_ends p row c.args.done false (eqb (c.args.done + (bound_at p row.after - row.from)) (row.after * p.due)) c.requires.counted
    c.if-row.false
    (sym c.if-is_due.false ∙ c.is_due.ensures) refl

pub is_due-requires-clause-small : goal.is_due-requires-clause-small
is_due-requires-clause-small c = c.requires.small

pub is_due-requires-then-is_due-clause-small : goal.is_due-requires-then-is_due-clause-small
is_due-requires-then-is_due-clause-small c = c.requires.small
