use Rattle.event_core.proofs.RoundsInOrder as order
use Rattle.event_core.proofs.laws.rounds_law.Goals as goal

pub returns-clause-no_rows : goal.returns-clause-no_rows
returns-clause-no_rows c = order.no_rows

pub returns-clause-no_rounds : goal.returns-clause-no_rounds
returns-clause-no_rounds c = order.no_rounds

pub returns-clause-rows : goal.returns-clause-rows
returns-clause-rows c = order.next_rows

pub returns-clause-rounds : goal.returns-clause-rounds
returns-clause-rounds c = order.next_rounds
