use Rattle.std.proofs.Common.{Fits, w64, ℕ, List, ◌≡◌, ◌+◌, ◌^◌, ◌∷◌, ◌++◌, [], ◌≤◌, ◌<◌, length, sym, subst, arith}
use Rattle.sched_base.specs.declared.rows.Row.{Row}
use Rattle.trace_verdict.specs.declared.findings.Findings.{Findings}
use Rattle.trace_verdict.specs.declared.supply.Periods.{Periods}
use Rattle.trace_verdict.specs.Orders.{task_key, entries_from}
use Rattle.trace_verdict.specs.Timed.{EndsAs}
use Rattle.trace_verdict.proofs.TimedLemmas.{Gathered, gathered_none, gathered_more, gathered_few, gathered_all}
use Rattle.trace_verdict.proofs.timed.found_of.Goals as goal

sum_fits : (a n : ℕ) → a ≤ n → n < 2 ^ 32 → Fits w64 a
sum_fits a n h few = omega arith

ends_as : (p : Periods) (rows : List Row) (j n m : ℕ) (f : Findings) → m ≡ n → EndsAs p rows j n f → EndsAs p rows j m f
ends_as p rows j n m f e ends = subst (λ k. EndsAs p rows j k f) (sym e) ends

pub loop-task-init : goal.loop-task-init
loop-task-init c = subst (Gathered c.args.set.now c.args.scale c.args.rows.now 0 0) (sym c.new-found.ensures.items) (gathered_none c.args.set.now
    c.args.scale c.args.rows.now)

pub overflow_add-count : goal.overflow_add-count
overflow_add-count c =
    let s = c.args.set.now in
    let rows = c.args.rows.now in
    let j = c.loop-task.task in
    let m = c.from-count.result in
    let f = c.in-Some.told in
    let within : j < length c.args.walks.now = omega (arith, c.requires.count, c.loop-task-test.true, c.count-task-end.ensures.value) in
    let ends = c.in-Some.ensures rows j (c.requires.going.each j _ (omega arith) within) in
    let more : Gathered s c.args.scale rows (j + 1) (c.loop-task.count + m) (c.loop-task.found.items ++ f ∷ [])
    = gathered_more s c.args.scale rows j c.loop-task.count m c.loop-task.found.items f _ c.loop-task.invariant (c.requires.going.periods j _ within)
    (ends_as _ rows j _ m f c.from-count.ensures ends) in
    sum_fits (c.loop-task.count + m) (length rows) (gathered_few s c.args.scale rows (j + 1) (c.loop-task.count + m) (c.loop-task.found.items ++ f ∷ [])
    more) c.requires.trace.few

pub loop-task-preserved : goal.loop-task-preserved
loop-task-preserved c =
    let s = c.args.set.now in
    let rows = c.args.rows.now in
    let j = c.loop-task.task in
    let m = c.from-count.result in
    let f = c.in-Some.told in
    let within : j < length c.args.walks.now = omega (arith, c.requires.count, c.loop-task-test.true, c.count-task-end.ensures.value) in
    let ends = c.in-Some.ensures rows j (c.requires.going.each j _ (omega arith) within) in
    subst (Gathered s c.args.scale rows (j + 1) (c.loop-task.count + m)) (sym c.in_ok-push.ensures.items)
    (gathered_more s c.args.scale rows j c.loop-task.count m c.loop-task.found.items f _ c.loop-task.invariant (c.requires.going.periods j _ within)
    (ends_as _ rows j _ m f c.from-count.ensures ends))

pub returns : goal.returns
returns c =
    let all : c.loop-task.task ≡ length c.args.set.now.tasks = omega (
      arith,
      c.count-task-end.ensures.value,
      c.loop-task-test.false,
      c.loop-task.auto.task-end,
    ) in
    let many : length (entries_from task_key 0 c.args.rows.now) ≤ c.loop-task.count = omega (arith, c.if-count-total.false, c.requires.total) in
    gathered_all c.args.set.now c.args.scale c.args.rows.now c.loop-task.task c.loop-task.count c.loop-task.found.items c.loop-task.invariant all many
