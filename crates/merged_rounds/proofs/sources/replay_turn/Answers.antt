use Rattle.std.proofs.lemmas.Result.{IfOk-from_err}
use Rattle.merged_rounds.proofs.sources.replay_turn.Goals as goal

pub replays-requires : goal.replays-requires
replays-requires c = c.requires.belongs

pub are_turns-requires : goal.are_turns-requires
are_turns-requires c = record { turn = c.requires.turn }

pub returns-then-replays-clause-belongs : goal.returns-then-replays-clause-belongs
returns-then-replays-clause-belongs c = c.requires.belongs

pub returns-in_err-source-clause-belongs : goal.returns-in_err-source-clause-belongs
returns-in_err-source-clause-belongs c = IfOk-from_err _ _ c.from_residual.ensures.0

pub returns-in_err-source-clause-tick : goal.returns-in_err-source-clause-tick
returns-in_err-source-clause-tick c = IfOk-from_err _ _ c.from_residual.ensures.0
