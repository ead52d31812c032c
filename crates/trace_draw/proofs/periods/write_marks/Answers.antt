use Rattle.std.proofs.Common.{ℕ, ◌≡◌, ◌+◌, ◌*◌, ◌^◌, ◌<◌, ◌≤◌, ◌∙◌, ap, sym, subst, le_refl, le_trans}
use Rattle.sched_base.specs.Sets.{task_at}
use Rattle.sched_edges.proofs.Wrote.{number_written, wrote_number}
use Rattle.trace_draw.specs.Periods.{first_shown, count_shown, period_text}
use Rattle.trace_draw.proofs.PeriodLemmas.{shown_begun, number_within, some_period, below_count, begun_early, number_small, all_shown}
use Rattle.sched_edges.proofs.CauseLemmas.{cause_cut, took_none}
use Rattle.trace_draw.proofs.periods.write_marks.Goals as goal

pub write_period-requires-clause-begun : goal.write_period-requires-clause-begun
write_period-requires-clause-begun g c =
    let t = c.task_of-of_set.result.now in
    let w = c.args.scene.now.window.now in
    let lawful = c.task_of-of_set.ensures.lawful in
    let is : t ≡ task_at c.args.scene.now.trace.now.set.tasks c.args.task = c.task_of-of_set.ensures.value ∙ ap (λ s. task_at s.tasks c.args.task)
    c.set.ensures in
    let begun = shown_begun w t c.loop-i.i (some_period t.work t.period lawful.some_work lawful.work_fits) (below_count c.loop-i.i
    c.count_shown-i-end.result (count_shown w t) c.loop-i-test.true c.count_shown-i-end.ensures) in
    rw (← is, c.first_shown-first.ensures.value) (begun_early (t.offset + (first_shown w t + c.loop-i.i) * t.period) (w.from + w.units) begun
    c.requires.window.fits)

pub write_period-requires-clause-k : goal.write_period-requires-clause-k
write_period-requires-clause-k g c =
    let t = c.task_of-of_set.result.now in
    let w = c.args.scene.now.window.now in
    let lawful = c.task_of-of_set.ensures.lawful in
    let some : 1 ≤ t.period = some_period t.work t.period lawful.some_work lawful.work_fits in
    let begun = shown_begun w t c.loop-i.i some (below_count c.loop-i.i c.count_shown-i-end.result (count_shown w t) c.loop-i-test.true
    c.count_shown-i-end.ensures) in
    subst (λ n. n + c.loop-i.i ≤ 2 ^ 32) (sym c.first_shown-first.ensures.value) (number_small (first_shown w t + c.loop-i.i)
    (t.offset + (first_shown w t + c.loop-i.i) * t.period) (w.from + w.units) (number_within t (first_shown w t + c.loop-i.i) some) begun
    c.requires.window.fits)

pub loop-i-init : goal.loop-i-init
loop-i-init g c = (took_none _, le_refl _)

pub returns-in_err-write_period-clause-wrote : goal.returns-in_err-write_period-clause-wrote
returns-in_err-write_period-clause-wrote g c =
    let w = c.args.scene.now.window.now in
    let is = c.task_of-of_set.ensures.value ∙ ap (λ s. task_at s.tasks c.args.task) c.set.ensures in
    let t = task_at c.args.scene.now.trace.now.set.tasks c.args.task in
    let shown : c.loop-i.i < count_shown w t = below_count c.loop-i.i c.count_shown-i-end.result (count_shown w t) c.loop-i-test.true
    (rw is at c.count_shown-i-end.ensures) in
    let wrote = rw (c.first_shown-first.ensures.value, is) at c.in_err-write_period.ensures.wrote in
    wrote_number (λ (i : ℕ). period_text c.args.scene.now.trace.now w c.args.task (first_shown w t + i)) (count_shown w t) c.loop-i.i _ _ _ _ _ shown
    c.loop-i.invariant.0 wrote
    c.from_residual.ensures.0

pub loop-i-preserved : goal.loop-i-preserved
loop-i-preserved g c =
    let w = c.args.scene.now.window.now in
    let is = c.task_of-of_set.ensures.value ∙ ap (λ s. task_at s.tasks c.args.task) c.set.ensures in
    let t = task_at c.args.scene.now.trace.now.set.tasks c.args.task in
    let wrote = rw (c.first_shown-first.ensures.value, is) at c.in_ok-write_period.ensures.wrote in (
      number_written (λ (i : ℕ). period_text c.args.scene.now.trace.now w c.args.task (first_shown w t + i)) c.loop-i.i _ _ _ c.loop-i.invariant.0 wrote.ok,
      le_trans c.loop-i.invariant.1 c.write_period.ensures.cause.later,
    )

pub returns-clause-wrote : goal.returns-clause-wrote
returns-clause-wrote g c =
    let w = c.args.scene.now.window.now in
    let is = c.task_of-of_set.ensures.value ∙ ap (λ s. task_at s.tasks c.args.task) c.set.ensures in
    let t = task_at c.args.scene.now.trace.now.set.tasks c.args.task in
    let all : c.loop-i.i ≡ count_shown w t = all_shown c.loop-i.i c.count_shown-i-end.result (count_shown w t) c.loop-i.auto.i-end c.loop-i-test.false
    (rw is at c.count_shown-i-end.ensures) in
    record { ok = rw all at c.loop-i.invariant.0; err = tt }

pub returns-in_err-write_period-clause-cause : goal.returns-in_err-write_period-clause-cause
returns-in_err-write_period-clause-cause g c = cause_cut _ _ _ _ _ c.loop-i.invariant.1 c.in_err-write_period.ensures.cause

pub returns-clause-cause : goal.returns-clause-cause
returns-clause-cause g c = record { later = c.loop-i.invariant.1; failed = tt }

pub first_shown-first-requires-clause-window : goal.first_shown-first-requires-clause-window
first_shown-first-requires-clause-window g c = c.requires.window

pub count_shown-i-end-requires-clause-window : goal.count_shown-i-end-requires-clause-window
count_shown-i-end-requires-clause-window g c = c.requires.window

pub write_period-requires-clause-window : goal.write_period-requires-clause-window
write_period-requires-clause-window g c = c.requires.window

pub write_period-requires-clause-task : goal.write_period-requires-clause-task
write_period-requires-clause-task g c = c.requires.task
