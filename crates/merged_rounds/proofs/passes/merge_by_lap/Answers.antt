use Rattle.std.proofs.Common.{◌∙◌, ◌≡◌, ◌+◌, arith, get_or, None}
use Rattle.sched_base.specs.Tables.{lane_of}
use Rattle.event_core.proofs.PlanRounds.{stop_fits}
use Rattle.merged_rounds.proofs.LapLemmas.{lap_again}
use Rattle.merged_rounds.proofs.SumLemmas.{none_kept}
use Rattle.std.proofs.lemmas.Result.{IfOk-from_err}
use Rattle.merged_rounds.proofs.passes.merge_by_lap.Goals as goal

pub overflow_add-until : goal.overflow_add-until
overflow_add-until c =
    let fits = stop_fits c.args.plan.now c.know_lawful.ensures.lawful in
    let within = c.requires.within in
    let from = c.now-from.ensures in
    omega (arith, fits, within, from)

pub merge_lap-requires-clause-until : goal.merge_lap-requires-clause-until
merge_lap-requires-clause-until c =
    let within = c.requires.within in
    let from = c.now-from.ensures in
    omega (arith, within, from)

pub with_laps-requires-clause-again : goal.with_laps-requires-clause-again
with_laps-requires-clause-again c =
    let p = c.args.plan.now in
    let tick = c.args.source.now.tick in
    let from = c.now-from.ensures in
    let now = c.now.ensures in
    let until = c.if-now-until.true in
    let end : c.merge_lap.new.source.tick ≡ c.now-from.result + c.args.ticks = omega (arith, now, until) in
    let early = c.requires.within in
    lap_again p c.know_lawful.ensures.lawful c.requires.apart c.now-from.result c.args.ticks tick c.args.before.now.tick c.merge_lap.new.source.tick
    c.merge_lap.new.lap
    c.requires.turns (rw from c.requires.released) (omega (arith, from, early)) c.requires.some
    from c.requires.here end (c.in_ok-again.ensures c.if-again.true) c.in_ok-merge_lap.ensures.lap c.in_ok-merge_lap.ensures.end

pub merge_to_end-requires-clause-merging : goal.merge_to_end-requires-clause-merging
merge_to_end-requires-clause-merging c =
    let sum = c.merge_lap.new.sum in
    let tick = c.merge_lap.new.source.tick in
    record {
      belongs = c.in_ok-merge_lap.ensures.belongs;
      sum = c.in_ok-merge_lap.ensures.sum;
      kept = λ q l. none_kept c.args.plan.now tick q (lane_of sum.rows.lanes q) (get_or c.forget_nodes.new.kept q None) (c.forget_nodes.ensures q);
    }

pub merge_lap-requires-clause-belongs : goal.merge_lap-requires-clause-belongs
merge_lap-requires-clause-belongs c = c.requires.belongs

pub merge_lap-requires-clause-sum : goal.merge_lap-requires-clause-sum
merge_lap-requires-clause-sum c = c.requires.sum

pub merge_lap-requires-clause-told : goal.merge_lap-requires-clause-told
merge_lap-requires-clause-told c = c.requires.told

pub merge_lap-requires-clause-ends : goal.merge_lap-requires-clause-ends
merge_lap-requires-clause-ends c = c.requires.ends

pub merge_lap-requires-clause-none : goal.merge_lap-requires-clause-none
merge_lap-requires-clause-none c = c.requires.none

pub returns-in_err-merge_lap-clause-sum : goal.returns-in_err-merge_lap-clause-sum
returns-in_err-merge_lap-clause-sum c = IfOk-from_err _ _ c.from_residual.ensures.0

pub is_again-requires-clause-is : goal.is_again-requires-clause-is
is_again-requires-clause-is c = c.requires.before

pub is_again-requires-clause-belongs : goal.is_again-requires-clause-belongs
is_again-requires-clause-belongs c = c.in_ok-merge_lap.ensures.belongs

pub returns-in_err-again-clause-sum : goal.returns-in_err-again-clause-sum
returns-in_err-again-clause-sum c = IfOk-from_err _ _ c.from_residual-in_err-again.ensures.0

pub with_laps-requires-clause-some : goal.with_laps-requires-clause-some
with_laps-requires-clause-some c = c.requires.some

pub returns-then-now-until-clause-sum : goal.returns-then-now-until-clause-sum
returns-then-now-until-clause-sum c = c.with_laps.ensures.sum

pub returns-then-now-until-clause-fault : goal.returns-then-now-until-clause-fault
returns-then-now-until-clause-fault c = c.with_laps.ensures.fault

pub merge_to_end-requires-clause-told : goal.merge_to_end-requires-clause-told
merge_to_end-requires-clause-told c = c.merge_lap.auto.told ∙ c.requires.told

pub returns-clause-sum : goal.returns-clause-sum
returns-clause-sum c = c.merge_to_end.ensures.sum

pub returns-clause-fault : goal.returns-clause-fault
returns-clause-fault c = c.merge_to_end.ensures.fault
