use Rattle.std.proofs.Common.{◌≡◌, ◌<◌, ◌+◌, ◌∷◌, [], max, length, subst, sym, ap, ◌∙◌, arith}
use Rattle.sched_base.specs.Sets.{task_at}
use Rattle.trace_format.specs.Lines.{met_line}
use Rattle.trace_format.specs.Finishes.{finish}
use Rattle.trace_verdict.proofs.PartLemmas.{task_is}
use Rattle.trace_check.specs.Reaches.{reach_to, IsReachOf}
use Rattle.trace_check.specs.Tails.{last_line}
use Rattle.trace_check.proofs.MetLemmas.{met_is, met_past, met_next}
use Rattle.trace_check.proofs.met_lines.met_at.Goals as goal

pub returns-then-met-ge-MOST_METS : goal.returns-then-met-ge-MOST_METS
returns-then-met-ge-MOST_METS c = (last_line c.args.tail.now ∷ [], met_past c.args.tail.now c.args.met.now c.requires.place c.if-met-ge-MOST_METS.true)

pub returns : goal.returns
returns c =
    let t = c.args.tail.now in
    let m = c.args.met.now in
    let s = t.set.now in
    let place = c.requires.place in
    let task = c.index-tasks-met.result in
    let is : task ≡ task_at s.tasks m.task = task_is s c.tasks.result.now m.task task c.tasks.ensures.value place.task c.index-tasks-met.is in
    let reaches = c.requires.tail.reaches place.version in
    let count = reaches.count in
    let within : m.task < length t.reaches.now = omega (arith, count, place.task) in
    let reach = c.index-tail-met.result in
    let periods : IsReachOf t.scale task reach = subst (λ w. IsReachOf t.scale w reach) (sym is) (subst (IsReachOf t.scale (task_at s.tasks m.task))
    (sym c.index-tail-met.is) (reaches.periods m.task reach within)) in
    let line : c.met_line-line.result ≡ met_line task.name m.period (finish t.scale s t.rows.now m.task m.period)
    = met_is t.scale s t.rows.now m.task task reach m.period c.max.result c.period_start-begin.result c.period_start-end.result c.reach-reached.result
    c.as_slice.result.now c.met_line-line.result
    periods (sym is) c.period_start-begin.ensures c.period_start-end.ensures (c.reach-reached.ensures ∙ ap (λ q. reach_to t.rows.now m.task q
    (m.period + 1)) (sym c.index-tail-met.is)) (c.max.ensures ∙ ap (max c.period_start-begin.result) c.min.ensures) c.as_slice.ensures.bytes
    c.met_line-line.ensures in (
      met_next t m c.met_line-line.result place c.if-met-ge-MOST_METS.false (line ∙ ap (λ w. met_line w.name m.period (finish t.scale s t.rows.now m.task
          m.period)) is)
          ∙ ap (λ ls. c.met_line-line.result ∷ ls) (sym c.behind_met.ensures.left),
      c.behind_met.ensures.place,
    )

pub period_start-begin-requires-clause-scale : goal.period_start-begin-requires-clause-scale
period_start-begin-requires-clause-scale c = c.requires.tail.scale

pub period_start-end-requires-clause-scale : goal.period_start-end-requires-clause-scale
period_start-end-requires-clause-scale c = c.requires.tail.scale

pub bounds-tasks-met : goal.bounds-tasks-met
bounds-tasks-met c = subst (λ ts. c.args.met.now.task < length ts) (sym c.tasks.ensures.value) c.requires.place.task

pub bounds-tail-met : goal.bounds-tail-met
bounds-tail-met c =
    let reaches = c.requires.tail.reaches c.requires.place.version in
    subst (λ n. c.args.met.now.task < n) (sym reaches.count) c.requires.place.task

pub reach-reached-requires-clause-ends : goal.reach-reached-requires-clause-ends
reach-reached-requires-clause-ends c =
    let reaches = c.requires.tail.reaches c.requires.place.version in
    reaches.ends c.args.met.now.task c.index-tail-met.result (subst (λ n. c.args.met.now.task < n) (sym reaches.count) c.requires.place.task)

pub reach-reached-requires-clause-before : goal.reach-reached-requires-clause-before
reach-reached-requires-clause-before c = c.requires.place.reached c.index-tail-met.result

pub behind_met-requires-clause-tail : goal.behind_met-requires-clause-tail
behind_met-requires-clause-tail c = c.requires.tail

pub behind_met-requires-clause-place : goal.behind_met-requires-clause-place
behind_met-requires-clause-place c = c.requires.place

pub behind_met-requires-clause-room : goal.behind_met-requires-clause-room
behind_met-requires-clause-room c = c.if-met-ge-MOST_METS.false
