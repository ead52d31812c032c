use Rattle.std.proofs.Common.{arith, ◌∙◌}
use Rattle.event_core.proofs.PlanRounds.{stop_fits}
use Rattle.std.proofs.lemmas.Result.{IfOk-from_err}
use Rattle.merged_rounds.proofs.searches.merge_until_again.Goals as goal

pub overflow_add-at : goal.overflow_add-at
overflow_add-at c =
    let fits = stop_fits c.args.plan.now c.know_lawful.ensures.lawful in
    let within = c.requires.within in
    let begin = c.in-Some.ensures in
    omega (arith, fits, within, begin)

pub first_turn-requires : goal.first_turn-requires
first_turn-requires c = record { within = c.requires.within }

pub returns-in_default-clause-merging : goal.returns-in_default-clause-merging
returns-in_default-clause-merging c = c.requires.merging

pub merge_before-requires-clause-merging : goal.merge_before-requires-clause-merging
merge_before-requires-clause-merging c = c.requires.merging

pub merge_before-requires-clause-kept : goal.merge_before-requires-clause-kept
merge_before-requires-clause-kept c = c.requires.kept

pub merge_before-requires-clause-told : goal.merge_before-requires-clause-told
merge_before-requires-clause-told c = c.requires.told

pub returns-in_err-merge_before-clause-merging : goal.returns-in_err-merge_before-clause-merging
returns-in_err-merge_before-clause-merging c = IfOk-from_err _ _ c.from_residual.ensures.0

pub returns-in_err-merge_before-clause-again : goal.returns-in_err-merge_before-clause-again
returns-in_err-merge_before-clause-again c = IfOk-from_err _ _ c.from_residual.ensures.0

pub standing_at-requires : goal.standing_at-requires
standing_at-requires c = c.in_ok-merge_before.ensures.merging.belongs

pub returns-in_err-seen-clause-merging : goal.returns-in_err-seen-clause-merging
returns-in_err-seen-clause-merging c = IfOk-from_err _ _ c.from_residual-in_err-seen.ensures.0

pub returns-in_err-seen-clause-again : goal.returns-in_err-seen-clause-again
returns-in_err-seen-clause-again c = IfOk-from_err _ _ c.from_residual-in_err-seen.ensures.0

pub merge_until_seen-requires-clause-merging : goal.merge_until_seen-requires-clause-merging
merge_until_seen-requires-clause-merging c = c.in_ok-merge_before.ensures.merging

pub merge_until_seen-requires-clause-kept : goal.merge_until_seen-requires-clause-kept
merge_until_seen-requires-clause-kept c = c.merge_before.auto.kept ∙ c.requires.kept

pub merge_until_seen-requires-clause-told : goal.merge_until_seen-requires-clause-told
merge_until_seen-requires-clause-told c = c.merge_before.auto.told ∙ c.requires.told

pub merge_until_seen-requires-clause-seen : goal.merge_until_seen-requires-clause-seen
merge_until_seen-requires-clause-seen c = c.in_ok-seen.ensures.is

pub merge_until_seen-requires-clause-turn : goal.merge_until_seen-requires-clause-turn
merge_until_seen-requires-clause-turn c = c.requires.turn

pub merge_until_seen-requires-clause-within : goal.merge_until_seen-requires-clause-within
merge_until_seen-requires-clause-within c = c.requires.within

pub returns-clause-merging : goal.returns-clause-merging
returns-clause-merging c = c.merge_until_seen.ensures.merging

pub returns-clause-again : goal.returns-clause-again
returns-clause-again c = c.merge_until_seen.ensures.again

pub returns-clause-fault : goal.returns-clause-fault
returns-clause-fault c = c.merge_until_seen.ensures.fault
