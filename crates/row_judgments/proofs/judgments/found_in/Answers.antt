use Rattle.std.proofs.Common.{ℕ, ◌≡◌, ◌<◌, ◌^◌, ◌+◌, List, length, map, sym, ap, ◌∙◌, subst}
use Rattle.trace_verdict.specs.declared.supply.Periods.{Periods}
use Rattle.sched_base.specs.Sets.{task_at}
use Rattle.trace_verdict.specs.Faults.{row_at}
use Rattle.trace_verdict.specs.Findings.{AreInPeriods, IsTold, IsToldOfTask}
use Rattle.trace_verdict.specs.Orders.{part, places}
use Rattle.trace_verdict.specs.Searches.{periods_of}
use Rattle.trace_verdict.proofs.OverlapLemmas.{Rising-from_sorted}
use Rattle.trace_verdict.proofs.FoundLemmas.{FoundTo, in_periods, found_none, found_mine, found_next}
use Rattle.row_judgments.proofs.judgments.found_in.Goals as goal

pub loop-task-init : goal.loop-task-init
loop-task-init c =
    let s = c.args.set.now in
    let rows = c.args.rows.now in
    let es = c.args.by_task.now in
    subst (FoundTo s c.args.scale rows es 0 es) (sym c.new-found.ensures.items) (found_none s c.args.scale rows es (Rising-from_sorted es
    c.requires.by_task.sorted))

pub findings_at-requires-clause-rows : goal.findings_at-requires-clause-rows
findings_at-requires-clause-rows c =
    let s = c.args.set.now in
    let l = c.args.scale in
    let rows = c.args.rows.now in
    let es = c.args.by_task.now in
    let j = c.loop-task.task in
    let mine = found_mine s l rows es j c.front_len.result c.loop-task.left.now c.split_at.result.0.now c.loop-task.found.items c.loop-task.invariant
    c.front_len.ensures c.split_at.ensures.front in
    let is : c.deref.result.now ≡ places (part j es) = c.deref.ensures.value ∙ (c.in_ok-places.ensures ∙ ap places mine) in
    subst (λ (p : Periods). AreInPeriods p rows c.deref.result.now) (sym c.task_periods-periods.ensures.periods)
    (subst (AreInPeriods (periods_of s l (task_at s.tasks j)) rows) (sym is) (in_periods s l rows es j c.requires.trace c.requires.valid c.requires.by_task).0)

pub findings_at-requires-clause-few : goal.findings_at-requires-clause-few
findings_at-requires-clause-few c =
    let s = c.args.set.now in
    let l = c.args.scale in
    let rows = c.args.rows.now in
    let es = c.args.by_task.now in
    let j = c.loop-task.task in
    let mine = found_mine s l rows es j c.front_len.result c.loop-task.left.now c.split_at.result.0.now c.loop-task.found.items c.loop-task.invariant
    c.front_len.ensures c.split_at.ensures.front in
    let is : c.deref.result.now ≡ places (part j es) = c.deref.ensures.value ∙ (c.in_ok-places.ensures ∙ ap places mine) in
    subst (λ (ps : List ℕ). length ps < 2 ^ 32) (sym is) (in_periods s l rows es j c.requires.trace c.requires.valid c.requires.by_task).1

pub loop-task-preserved : goal.loop-task-preserved
loop-task-preserved c =
    let s = c.args.set.now in
    let l = c.args.scale in
    let rows = c.args.rows.now in
    let es = c.args.by_task.now in
    let j = c.loop-task.task in
    let f = c.findings_at.result in
    let mine = found_mine s l rows es j c.front_len.result c.loop-task.left.now c.split_at.result.0.now c.loop-task.found.items c.loop-task.invariant
    c.front_len.ensures c.split_at.ensures.front in
    let is : c.deref.result.now ≡ places (part j es) = c.deref.ensures.value ∙ (c.in_ok-places.ensures ∙ ap places mine) in
    let told : IsTold (periods_of s l (task_at s.tasks j)) (map (row_at rows) c.deref.result.now) f
    = subst (λ (p : Periods). IsTold p (map (row_at rows) c.deref.result.now) f) c.task_periods-periods.ensures.periods c.findings_at.ensures in
    let one : IsToldOfTask s l rows j f = (c.deref.result.now, (es, c.requires.by_task, is), told) in
    subst (FoundTo s l rows es (j + 1) c.split_at.result.1.now) (sym c.in_ok-push.ensures.items)
    (found_next s l rows es j c.front_len.result c.loop-task.left.now c.split_at.result.1.now c.loop-task.found.items f c.loop-task.invariant
    c.front_len.ensures c.split_at.ensures.back one)
