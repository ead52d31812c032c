use Rattle.std.proofs.Common.{◌+◌, ◌∙◌, get_or, drop, arith}
use Rattle.trace_verdict.specs.declared.entries.Entry.{Entry}
use Rattle.trace_verdict.proofs.SupplyLemmas.{Follows-le}
use Rattle.trace_verdict.proofs.SuppliedLemmas.{remains_all, remains_at, remains_fails, remains_next, remains_none}
use Rattle.trace_verdict.proofs.supply.holds_from_base.Goals as goal

-- stands where a list has no such entry, and is never looked at
abbrev no_entry : Entry
no_entry = record { key = 0; start = 0; place = 0; end = 0 }

pub loop-row-init : goal.loop-row-init
loop-row-init c = remains_all c.args.periods.now c.args.rows.now c.new-walk.result (c.new-walk.ensures.stands c.requires.begun) c.new-walk.ensures.tick
    c.new-walk.ensures.done c.requires.apart

pub pass-requires-clause-apart : goal.pass-requires-clause-apart
pass-requires-clause-apart c = (remains_at c.args.periods.now c.args.rows.now c.loop-row.row-index no_entry c.loop-row.walk (omega arith)
    c.loop-row.invariant).apart.0

pub pass-requires-clause-long : goal.pass-requires-clause-long
pass-requires-clause-long c = (remains_at c.args.periods.now c.args.rows.now c.loop-row.row-index no_entry c.loop-row.walk (omega arith)
    c.loop-row.invariant).apart.1

pub pass-requires-clause-ends : goal.pass-requires-clause-ends
pass-requires-clause-ends c =
    let here = remains_at c.args.periods.now c.args.rows.now c.loop-row.row-index no_entry c.loop-row.walk (omega arith) c.loop-row.invariant in
    Follows-le c.args.periods.now.stop _ (drop (c.loop-row.row-index + 1) c.args.rows.now) here.apart.2

pub returns-then-not-pass : goal.returns-then-not-pass
returns-then-not-pass c =
    let rows = c.args.rows.now in
    let i = c.loop-row.row-index in
    let here = remains_at c.args.periods.now rows i no_entry c.loop-row.walk (omega arith) c.loop-row.invariant in
    remains_fails c.args.periods.now rows (drop (i + 1) rows) (get_or rows i no_entry) c.loop-row.walk c.pass.result here c.if-not-pass.true c.pass.ensures.due

pub loop-row-preserved : goal.loop-row-preserved
loop-row-preserved c =
    let rows = c.args.rows.now in
    let i = c.loop-row.row-index in
    let here = remains_at c.args.periods.now rows i no_entry c.loop-row.walk (omega arith) c.loop-row.invariant in
    remains_next c.args.periods.now rows (drop (i + 1) rows) (get_or rows i no_entry) c.loop-row.walk c.pass.new.self c.pass.result here c.if-not-pass.false
    c.pass.ensures.due
    (c.pass.ensures.stands c.if-not-pass.false) (c.pass.ensures.tick c.if-not-pass.false) (c.pass.ensures.done c.if-not-pass.false)

pub returns : goal.returns
returns c = c.ends.ensures ∙ remains_none c.args.periods.now c.args.rows.now c.loop-row.row-index c.loop-row.walk (omega arith) c.loop-row.invariant

pub new-walk-requires : goal.new-walk-requires
new-walk-requires c = record { lawful = c.requires.lawful }

pub pass-requires-clause-lawful : goal.pass-requires-clause-lawful
pass-requires-clause-lawful c = c.requires.lawful

pub ends-requires-clause-lawful : goal.ends-requires-clause-lawful
ends-requires-clause-lawful c = c.requires.lawful
