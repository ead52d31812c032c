use Rattle.std.proofs.lemmas.Result.{IfOk-from_err}
use Rattle.merged_rounds.proofs.passes.merge_first.Goals as goal

pub returns-then-processors-le-FEW-clause-belongs : goal.returns-then-processors-le-FEW-clause-belongs
returns-then-processors-le-FEW-clause-belongs c = c.requires.belongs

pub merge_turn-requires-clause-belongs : goal.merge_turn-requires-clause-belongs
merge_turn-requires-clause-belongs c = c.requires.belongs

pub merge_turn-requires-clause-first : goal.merge_turn-requires-clause-first
merge_turn-requires-clause-first c = c.requires.first

pub returns-in_err-kept-clause-belongs : goal.returns-in_err-kept-clause-belongs
returns-in_err-kept-clause-belongs c = IfOk-from_err _ _ c.from_residual.ensures.0

pub returns-in_err-kept-clause-sum : goal.returns-in_err-kept-clause-sum
returns-in_err-kept-clause-sum c = IfOk-from_err _ _ c.from_residual.ensures.0

pub replay_turn-requires-clause-belongs : goal.replay_turn-requires-clause-belongs
replay_turn-requires-clause-belongs c = c.in_ok-kept.ensures.belongs

pub replay_turn-requires-clause-turn : goal.replay_turn-requires-clause-turn
replay_turn-requires-clause-turn c = c.requires.turn

pub replay_turn-requires-clause-kept : goal.replay_turn-requires-clause-kept
replay_turn-requires-clause-kept c = c.in_ok-kept.ensures.turn

pub replay_turn-requires-clause-end : goal.replay_turn-requires-clause-end
replay_turn-requires-clause-end c = c.in_ok-kept.ensures.end

pub returns-in_err-replay_turn-clause-belongs : goal.returns-in_err-replay_turn-clause-belongs
returns-in_err-replay_turn-clause-belongs c = IfOk-from_err _ _ c.from_residual-in_err-replay_turn.ensures.0

pub returns-in_err-replay_turn-clause-sum : goal.returns-in_err-replay_turn-clause-sum
returns-in_err-replay_turn-clause-sum c = IfOk-from_err _ _ c.from_residual-in_err-replay_turn.ensures.0

pub returns-clause-belongs : goal.returns-clause-belongs
returns-clause-belongs c = c.in_ok-replay_turn.ensures.belongs
