use Rattle.trace_verdict.proofs.SuppliedLemmas.{none_told, went_supplied}
use Rattle.trace_verdict.proofs.walks.go_supplied.Goals as goal

pub returns-then-periods-clause-told : goal.returns-then-periods-clause-told
returns-then-periods-clause-told c = none_told c.args.periods.now c.args.rows.now c.args.places.now c.none_at.result c.none_at.ensures.none
    c.none_at.ensures.told

pub returns-clause-supplied : goal.returns-clause-supplied
returns-clause-supplied c =
    went_supplied c.args.periods.now c.args.rows.now c.args.task c.args.places.now c.walk_all.result
    c.requires.lawful c.if-periods.false c.walk_all.ensures

pub walk_all-requires-clause-lawful : goal.walk_all-requires-clause-lawful
walk_all-requires-clause-lawful c = c.requires.lawful

pub walk_all-requires-clause-begun : goal.walk_all-requires-clause-begun
walk_all-requires-clause-begun c = c.if-periods.false
