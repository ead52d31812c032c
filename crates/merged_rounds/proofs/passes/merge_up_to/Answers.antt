use Rattle.std.proofs.Common.{sym, ◌∙◌}
use Rattle.std.proofs.lemmas.Result.{IfOk-from_err}
use Rattle.merged_rounds.proofs.ChangeLemmas.{released_at_once}
use Rattle.merged_rounds.proofs.passes.merge_up_to.Goals as goal

pub replays-requires : goal.replays-requires
replays-requires c = c.requires.merging.belongs

pub merge_changes-requires-clause-released : goal.merge_changes-requires-clause-released
merge_changes-requires-clause-released c = λ _. released_at_once c.args.plan.now c.args.source.now.tick (c.replays.ensures.again c.if-replays.true)

pub merge_changes-requires-clause-merging : goal.merge_changes-requires-clause-merging
merge_changes-requires-clause-merging c = c.requires.merging

pub merge_changes-requires-clause-kept : goal.merge_changes-requires-clause-kept
merge_changes-requires-clause-kept c = c.requires.kept

pub merge_changes-requires-clause-told : goal.merge_changes-requires-clause-told
merge_changes-requires-clause-told c = c.requires.told

pub merge_changes-requires-clause-until : goal.merge_changes-requires-clause-until
merge_changes-requires-clause-until c = c.requires.until

pub returns-then-replays-clause-merging : goal.returns-then-replays-clause-merging
returns-then-replays-clause-merging c = c.merge_changes.ensures.merging

pub returns-then-replays-clause-reached : goal.returns-then-replays-clause-reached
returns-then-replays-clause-reached c = c.merge_changes.ensures.reached

pub returns-then-replays-clause-fault : goal.returns-then-replays-clause-fault
returns-then-replays-clause-fault c = c.merge_changes.ensures.fault

pub merge_computed-requires-clause-computed : goal.merge_computed-requires-clause-computed
merge_computed-requires-clause-computed c = c.replays.ensures.computed c.if-replays.false

pub merge_computed-requires-clause-off : goal.merge_computed-requires-clause-off
merge_computed-requires-clause-off c = sym c.replays.ensures.off ∙ c.if-replays.false

pub merge_computed-requires-clause-merging : goal.merge_computed-requires-clause-merging
merge_computed-requires-clause-merging c = c.requires.merging

pub merge_computed-requires-clause-kept : goal.merge_computed-requires-clause-kept
merge_computed-requires-clause-kept c = c.requires.kept

pub merge_computed-requires-clause-told : goal.merge_computed-requires-clause-told
merge_computed-requires-clause-told c = c.requires.told

pub returns-in_err-merge_computed-clause-merging : goal.returns-in_err-merge_computed-clause-merging
returns-in_err-merge_computed-clause-merging c = IfOk-from_err _ _ c.from_residual.ensures.0

pub returns-in_err-merge_computed-clause-reached : goal.returns-in_err-merge_computed-clause-reached
returns-in_err-merge_computed-clause-reached c = IfOk-from_err _ _ c.from_residual.ensures.0

pub merge_changes-requires-2-clause-merging : goal.merge_changes-requires-2-clause-merging
merge_changes-requires-2-clause-merging c = c.in_ok-merge_computed.ensures.merging

pub merge_changes-requires-2-clause-kept : goal.merge_changes-requires-2-clause-kept
merge_changes-requires-2-clause-kept c = c.merge_computed.auto.kept ∙ c.requires.kept

pub merge_changes-requires-2-clause-told : goal.merge_changes-requires-2-clause-told
merge_changes-requires-2-clause-told c = c.merge_computed.auto.told ∙ c.requires.told

pub merge_changes-requires-2-clause-until : goal.merge_changes-requires-2-clause-until
merge_changes-requires-2-clause-until c = c.requires.until
