use Rattle.std.proofs.Common.{arith}
use Rattle.merged_rounds.proofs.ChangeLemmas.{released_later}
use Rattle.std.proofs.lemmas.Result.{IfOk-from_err}
use Rattle.merged_rounds.proofs.passes.merge_again.Goals as goal

pub merge_by_lap-requires-clause-released : goal.merge_by_lap-requires-clause-released
merge_by_lap-requires-clause-released c =
    let late = c.if-from-last_release.false in
    let from = c.now-from.ensures in
    released_later c.args.plan.now c.last_release.result c.args.source.now.tick (omega (arith, late, from)) c.last_release.ensures

pub merge_by_lap-requires-clause-within : goal.merge_by_lap-requires-clause-within
merge_by_lap-requires-clause-within c =
    let within = c.is_lap.ensures.within c.if-not-is_lap.false in
    let from = c.now-from.ensures in
    omega (arith, within, from)

pub is_last_lap-requires-clause-belongs : goal.is_last_lap-requires-clause-belongs
is_last_lap-requires-clause-belongs c = c.requires.merging.belongs

pub is_last_lap-requires-clause-turn : goal.is_last_lap-requires-clause-turn
is_last_lap-requires-clause-turn c = c.requires.turn

pub merge_copies-requires-clause-belongs : goal.merge_copies-requires-clause-belongs
merge_copies-requires-clause-belongs c = c.requires.merging.belongs

pub merge_copies-requires-clause-sum : goal.merge_copies-requires-clause-sum
merge_copies-requires-clause-sum c = c.requires.merging.sum

pub merge_copies-requires-clause-last : goal.merge_copies-requires-clause-last
merge_copies-requires-clause-last c = c.is_last_lap.ensures c.if-is_last_lap.true

pub merge_copies-requires-clause-alike : goal.merge_copies-requires-clause-alike
merge_copies-requires-clause-alike c = c.requires.alike

pub returns-then-is_last_lap-clause-sum : goal.returns-then-is_last_lap-clause-sum
returns-then-is_last_lap-clause-sum c = c.merge_copies.ensures.sum

pub returns-then-is_last_lap-clause-fault : goal.returns-then-is_last_lap-clause-fault
returns-then-is_last_lap-clause-fault c = c.merge_copies.ensures.fault

pub is_lap-requires : goal.is_lap-requires
is_lap-requires c = record { turn = c.requires.turn }

pub merge_to_end-requires-clause-merging : goal.merge_to_end-requires-clause-merging
merge_to_end-requires-clause-merging c = c.requires.merging

pub merge_to_end-requires-clause-kept : goal.merge_to_end-requires-clause-kept
merge_to_end-requires-clause-kept c = c.requires.kept

pub merge_to_end-requires-clause-told : goal.merge_to_end-requires-clause-told
merge_to_end-requires-clause-told c = c.requires.told

pub returns-then-not-is_lap-clause-sum : goal.returns-then-not-is_lap-clause-sum
returns-then-not-is_lap-clause-sum c = c.merge_to_end.ensures.sum

pub returns-then-not-is_lap-clause-fault : goal.returns-then-not-is_lap-clause-fault
returns-then-not-is_lap-clause-fault c = c.merge_to_end.ensures.fault

pub standing_at-requires : goal.standing_at-requires
standing_at-requires c = c.requires.merging.belongs

pub returns-in_err-before-clause-sum : goal.returns-in_err-before-clause-sum
returns-in_err-before-clause-sum c = IfOk-from_err _ _ c.from_residual.ensures.0

pub merge_by_lap-requires-clause-apart : goal.merge_by_lap-requires-clause-apart
merge_by_lap-requires-clause-apart c = c.requires.apart

pub merge_by_lap-requires-clause-belongs : goal.merge_by_lap-requires-clause-belongs
merge_by_lap-requires-clause-belongs c = c.requires.merging.belongs

pub merge_by_lap-requires-clause-sum : goal.merge_by_lap-requires-clause-sum
merge_by_lap-requires-clause-sum c = c.requires.merging.sum

pub merge_by_lap-requires-clause-kept : goal.merge_by_lap-requires-clause-kept
merge_by_lap-requires-clause-kept c = c.requires.kept

pub merge_by_lap-requires-clause-told : goal.merge_by_lap-requires-clause-told
merge_by_lap-requires-clause-told c = c.requires.told

pub merge_by_lap-requires-clause-before : goal.merge_by_lap-requires-clause-before
merge_by_lap-requires-clause-before c = c.in_ok-before.ensures.is

pub merge_by_lap-requires-clause-here : goal.merge_by_lap-requires-clause-here
merge_by_lap-requires-clause-here c = c.in_ok-before.ensures.tick

pub merge_by_lap-requires-clause-ends : goal.merge_by_lap-requires-clause-ends
merge_by_lap-requires-clause-ends c = c.no_lap-lap.ensures.ends

pub merge_by_lap-requires-clause-none : goal.merge_by_lap-requires-clause-none
merge_by_lap-requires-clause-none c = c.no_lap-lap.ensures.told

pub merge_by_lap-requires-clause-turns : goal.merge_by_lap-requires-clause-turns
merge_by_lap-requires-clause-turns c = c.is_lap.ensures.turns c.if-not-is_lap.false

pub merge_by_lap-requires-clause-some : goal.merge_by_lap-requires-clause-some
merge_by_lap-requires-clause-some c = c.is_lap.ensures.some c.if-not-is_lap.false

pub returns-clause-sum : goal.returns-clause-sum
returns-clause-sum c = c.merge_by_lap.ensures.sum

pub returns-clause-fault : goal.returns-clause-fault
returns-clause-fault c = c.merge_by_lap.ensures.fault
