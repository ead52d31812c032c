use Rattle.std.proofs.Common.{ℕ, List, Err, sym, subst, ◌∙◌, arith}
use Rattle.std.specs.Io.KnownBytes.{Appends}
use Rattle.std.specs.Int.{◌∣◌}
use Rattle.std.proofs.lemmas.List.{get_or_default}
use Rattle.sched_base.specs.declared.sets.Task.{Task}
use Rattle.sched_base.specs.Sets.{no_task, IsLawfulTask}
use Rattle.sched_base.proofs.RateLemmas.{period_divides}
use Rattle.sched_edges.specs.Streams.{Wrote}
use Rattle.sched_edges.proofs.CauseLemmas.{cause_cut}
use Rattle.sched_edges.proofs.Wrote.{item_written, wrote_item}
use Rattle.run_tree.proofs.SetBoundaryLemmas.{each_lawful}
use Rattle.std.specs.Prelude.{codes}
use Rattle.sched_base.specs.Scale.{rate_of}
use Rattle.sched_edges.specs.Lines.{named_line}
use Rattle.pure_commands.proofs.rate_text.write_rates.Goals as goal

-- the line of a task
abbrev rate_line : ℕ → Task → List ℕ
rate_line scale t = named_line (codes "rate") t.name (rate_of scale t)

pub rate-rate-requires-clause-divides : goal.rate-rate-requires-clause-divides
rate-rate-requires-clause-divides g c =
    let tasks = c.tasks-task-items.result.now in
    let divided = rw (← c.tasks-task-items.ensures.value) at c.requires.scale.divided in
    let is = c.task-item.is ∙ get_or_default tasks c.loop-task.task-index c.task-item.result no_task c.loop-task-test.true in
    subst (λ (t : Task). t.period ∣ c.args.scale) (sym is) (period_divides tasks c.args.scale c.loop-task.task-index divided c.loop-task-test.true)

pub returns-in_err-write_all-clause-wrote : goal.returns-in_err-write_all-clause-wrote
returns-in_err-write_all-clause-wrote g c =
    let line : Wrote {T = Unit {0}} (g.W.Sink.taken c.loop-task.out) (g.W.Sink.taken c.write_all.new.sink) (rate_line c.args.scale c.task-item.result)
    (Err c.in_err-write_all.field-0.0) =
    rw (
      ← c.as_slice.ensures.bytes,
      ← c.rate-rate.ensures.value,
      ← c.named_line.ensures,
      ← c.as_slice-in-loop-task.ensures.bytes,
    ) c.in_err-write_all.ensures.wrote in
    rw (← c.tasks-task-items.ensures.value)
    (wrote_item (rate_line c.args.scale) c.tasks-task-items.result.now c.loop-task.task-index c.task-item.result _ _ _ _
    c.from_residual.result c.loop-task-test.true c.task-item.is c.loop-task.invariant.0 line c.from_residual.ensures.0)

pub rate-rate-requires-clause-work_fits : goal.rate-rate-requires-clause-work_fits
rate-rate-requires-clause-work_fits g c =
    let tasks = c.tasks-task-items.result.now in
    let each = rw (← c.tasks-task-items.ensures.value) at c.tasks-task-items.ensures.lawful.each in
    let is = c.task-item.is ∙ get_or_default tasks c.loop-task.task-index c.task-item.result no_task c.loop-task-test.true in
    let lawful = subst IsLawfulTask (sym is) (each_lawful tasks c.loop-task.task-index each c.loop-task-test.true) in
    lawful.work_fits

pub rate-rate-requires-clause-some_period : goal.rate-rate-requires-clause-some_period
rate-rate-requires-clause-some_period g c =
    let tasks = c.tasks-task-items.result.now in
    let each = rw (← c.tasks-task-items.ensures.value) at c.tasks-task-items.ensures.lawful.each in
    let is = c.task-item.is ∙ get_or_default tasks c.loop-task.task-index c.task-item.result no_task c.loop-task-test.true in
    let lawful = subst IsLawfulTask (sym is) (each_lawful tasks c.loop-task.task-index each c.loop-task-test.true) in
    omega (arith, lawful.some_work, lawful.work_fits)

pub rate-rate-requires-clause-scale_fits : goal.rate-rate-requires-clause-scale_fits
rate-rate-requires-clause-scale_fits g c = c.requires.scale_fits

pub returns-in_err-write_all-clause-cause : goal.returns-in_err-write_all-clause-cause
returns-in_err-write_all-clause-cause g c = cause_cut _ _ _ _ _ c.loop-task.invariant.1 c.in_err-write_all.ensures.cause

pub loop-task-preserved : goal.loop-task-preserved
loop-task-preserved g c =
    let line : Appends (g.W.Sink.taken c.loop-task.out) (g.W.Sink.taken c.write_all.new.sink) (rate_line c.args.scale c.task-item.result) =
    rw (
      ← c.as_slice.ensures.bytes,
      ← c.rate-rate.ensures.value,
      ← c.named_line.ensures,
      ← c.as_slice-in-loop-task.ensures.bytes,
    ) c.in_ok-write_all.ensures.wrote.ok in (
      item_written (rate_line c.args.scale) c.tasks-task-items.result.now c.loop-task.task-index c.task-item.result _ _ _
          c.loop-task-test.true c.task-item.is c.loop-task.invariant.0 line,
      omega (arith, c.loop-task.invariant.1, c.write_all.ensures.cause.later),
    )
