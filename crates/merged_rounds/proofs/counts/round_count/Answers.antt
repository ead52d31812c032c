use Rattle.merged_rounds.proofs.counts.round_count.Goals as goal

pub returns-then-comes_round-clause-count : goal.returns-then-comes_round-clause-count
returns-then-comes_round-clause-count c = c.count_by_turn.ensures.count

pub returns-then-comes_round-clause-fault : goal.returns-then-comes_round-clause-fault
returns-then-comes_round-clause-fault c = c.count_by_turn.ensures.fault
