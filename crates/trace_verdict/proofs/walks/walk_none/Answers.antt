use Rattle.trace_verdict.proofs.SuppliedLemmas.{holds_end, went_none}
use Rattle.trace_verdict.proofs.walks.walk_none.Goals as goal

pub returns-then-ends : goal.returns-then-ends
returns-then-ends c = went_none c.args.periods.now _ _ (c.new.ensures.stands c.requires.begun) c.new.ensures.tick c.new.ensures.done
    (holds_end c.args.periods.now _ c.ends.result (c.new.ensures.stands c.requires.begun) c.ends.ensures c.if-ends.true) (c.none.ensures c.args.periods.now)

pub new-requires : goal.new-requires
new-requires c = record { lawful = c.requires.lawful }

pub ends-requires-clause-lawful : goal.ends-requires-clause-lawful
ends-requires-clause-lawful c = c.requires.lawful

pub ends-requires-clause-stands : goal.ends-requires-clause-stands
ends-requires-clause-stands c = (c.new.ensures.stands c.requires.begun)
