use Rattle.std.proofs.Common.{ℕ, ◌≡◌, ◌+◌, ◌-◌, ◌*◌, ◌^◌, ◌<◌, ◌≤◌, ◌∙◌, List, min, ap, sym, subst}
use Rattle.sched_base.specs.declared.rows.Row.{Row}
use Rattle.sched_base.specs.declared.sets.Task.{Task}
use Rattle.sched_base.specs.Sets.{SetContents, task_at, IsLawfulTask}
use Rattle.sched_base.specs.Rows.{task_ticks}
use Rattle.sched_base.specs.Valid.{period_start, served}
use Rattle.trace_format.specs.Finishes.{finish, finish_between}
use Rattle.trace_draw.specs.Shapes.{task_top}
use Rattle.trace_draw.proofs.PeriodLemmas.{start_fits, end_fits, small_work, small_units, ticks_fit, ticks_small, ticks_are, start_is, lines_are}
use Rattle.trace_draw.proofs.periods.write_period.Goals as goal

given_is : (rows : List Row) (j a begin b end : ℕ) → a ≡ begin → b ≡ end → min (task_ticks rows j a b) (2 ^ 128 - 1) ≡ min (task_ticks rows j begin end)
    (2 ^ 128 - 1)
given_is rows j a begin b end e f = ap (λ n. min (task_ticks rows j n b) (2 ^ 128 - 1)) e ∙ ap (λ n. min (task_ticks rows j begin n) (2 ^ 128 - 1)) f

done_is : (rows : List Row) (j a begin b end : ℕ) → a ≡ begin → b ≡ end → finish_between rows j a b ≡ finish_between rows j begin end
done_is rows j a begin b end e f = ap (λ n. finish_between rows j n b) e ∙ ap (λ n. finish_between rows j begin n) f

pub period_start-requires-clause-scale : goal.period_start-requires-clause-scale
period_start-requires-clause-scale g c = rw c.scale-scale.ensures c.rows-rows.ensures.lawful.scale_fits

pub period_start-requires-2-clause-scale : goal.period_start-requires-2-clause-scale
period_start-requires-2-clause-scale g c = rw c.scale-scale.ensures c.rows-rows.ensures.lawful.scale_fits

pub period_start-requires-clause-fits : goal.period_start-requires-clause-fits
period_start-requires-clause-fits g c =
    let is = c.task_of-of_set.ensures.value ∙ ap (λ s. task_at s.tasks c.args.task) c.set-set.ensures in
    start_fits c.task_of-of_set.result.now c.args.k (subst (λ t. t.offset + c.args.k * t.period < 2 ^ 32) (sym is) c.requires.begun)

pub period_start-requires-2-clause-fits : goal.period_start-requires-2-clause-fits
period_start-requires-2-clause-fits g c =
    let is = c.task_of-of_set.ensures.value ∙ ap (λ s. task_at s.tasks c.args.task) c.set-set.ensures in
    end_fits c.task_of-of_set.result.now c.args.k c.task_of-of_set.ensures.lawful.period_fits (subst (λ t. t.offset + c.args.k * t.period < 2 ^ 32) (sym is)
    c.requires.begun)

pub overflow_mul-period : goal.overflow_mul-period
overflow_mul-period g c =
    let lawful = c.task_of-of_set.ensures.lawful in
    ticks_fit c.from.result c.scale-scale.result (subst (λ n. n ≤ 2 ^ 32 - 1) (sym c.from.ensures) (small_work c.task_of-of_set.result.now.work
    c.task_of-of_set.result.now.period lawful.work_fits lawful.period_fits))
    (subst (λ n. n ≤ 2 ^ 94) (sym c.scale-scale.ensures) c.rows-rows.ensures.lawful.scale_fits)

pub overflow_mul-period-2 : goal.overflow_mul-period-2
overflow_mul-period-2 g c =
    ticks_fit c.from-2.result c.scale-scale.result (subst (λ n. n ≤ 2 ^ 32 - 1) (sym (c.from-2.ensures ∙ c.horizon.ensures.value))
    (small_units c.set-set.result.now.horizon c.horizon.ensures.lawful.horizon_fits))
    (subst (λ n. n ≤ 2 ^ 94) (sym c.scale-scale.ensures) c.rows-rows.ensures.lawful.scale_fits)

pub returns-clause-cause : goal.returns-clause-cause
returns-clause-cause g c = c.write_lines.ensures.cause

pub returns-clause-wrote : goal.returns-clause-wrote
returns-clause-wrote g c =
    let tr = c.args.scene.now.trace.now in
    let s = tr.set in
    let t = task_at s.tasks c.args.task in
    let k = c.args.k in
    let set = c.set-set.ensures in
    let scale = c.scale-scale.ensures in
    let task : c.task_of-of_set.result.now ≡ t = c.task_of-of_set.ensures.value ∙ ap (λ (x : SetContents). task_at x.tasks c.args.task) set in
    let lawful : IsLawfulTask t = subst IsLawfulTask task c.task_of-of_set.ensures.lawful in
    let horizon = c.from-2.ensures ∙ c.horizon.ensures.value ∙ ap (λ (x : SetContents). x.horizon) set in
    let top = c.task_top-y.ensures.value ∙ ap (λ n. task_top n c.args.task) (c.processors.ensures.value ∙ ap (λ (x : SetContents). x.processors) set) in
    let begin : c.period_start.result ≡ period_start tr.scale t k = c.period_start.ensures ∙ start_is c.scale-scale.result tr.scale
    c.task_of-of_set.result.now t k scale task in
    let end : c.period_start-2.result ≡ period_start tr.scale t (k + 1) = c.period_start-2.ensures ∙ start_is c.scale-scale.result tr.scale
    c.task_of-of_set.result.now t (k + 1) scale task in
    let lines = c.period_lines.ensures ∙ lines_are c.args.scene.now.window.now (c.from-2.result * c.scale-scale.result) (s.horizon * tr.scale)
    (c.task_top-y.result + 300) (task_top s.processors c.args.task + 300)
    c.period_start.result (period_start tr.scale t k) c.period_start-2.result (period_start tr.scale t (k + 1)) (c.from.result * c.scale-scale.result)
    (t.work * tr.scale)
    c.served_between-served.result.given (served tr.scale s tr.rows c.args.task k) c.served_between-served.result.done (finish tr.scale s tr.rows c.args.task k)
    (ticks_are c.from-2.result s.horizon c.scale-scale.result tr.scale horizon scale) (ap (λ n. n + 300) top) begin end (ticks_are c.from.result t.work
    c.scale-scale.result tr.scale (c.from.ensures ∙ ap (λ (x : Task). x.work) task) scale)
    (c.served_between-served.ensures.given ∙ given_is tr.rows c.args.task c.period_start.result (period_start tr.scale t k) c.period_start-2.result
    (period_start tr.scale t (k + 1)) begin end) (c.served_between-served.ensures.done ∙ done_is tr.rows c.args.task c.period_start.result
    (period_start tr.scale t k) c.period_start-2.result (period_start tr.scale t (k + 1)) begin end)
    (ticks_small t.work tr.scale (small_work t.work t.period lawful.work_fits lawful.period_fits) c.rows-rows.ensures.lawful.scale_fits) in
    rw lines at c.write_lines.ensures.wrote

pub period_lines-requires-clause-window : goal.period_lines-requires-clause-window
period_lines-requires-clause-window g c = c.requires.window
