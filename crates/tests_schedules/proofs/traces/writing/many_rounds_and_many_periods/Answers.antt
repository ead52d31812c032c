use Rattle.std.proofs.Common.{◌≡◌, ◌∙◌, [], ◌∷◌, ◌++◌, ap, arith}
use Rattle.sched_base.specs.declared.sets.Task.{Task}
use Rattle.sched_base.specs.Sets.{SetContents}
use Rattle.tests_schedules.proofs.LongTableLemmas.{length-steady, names-steady, totals-steady}
use Rattle.tests_schedules.proofs.traces.writing.many_rounds_and_many_periods.Goals as goal

-- the one task
abbrev task : Task
task = record { name = 97 ∷ []; work = 1; period = 1; offset = 0 }

one_task : (old new : SetContents) → old.tasks ≡ [] → new ≡ record old { tasks = old.tasks ++ task ∷ [] } → new.tasks ≡ task ∷ []
one_task old new none is = ap (λ (s : SetContents). s.tasks) is ∙ ap (λ ts. ts ++ task ∷ []) none

pub write_met-requires-clause-names : goal.write_met-requires-clause-names
write_met-requires-clause-names g c =
    let tasks = one_task c.start-set.result c.add.new.self c.start-set.ensures.tasks c.in_ok-add.ensures.ok in
    rw (tasks, c.in_ok-table.ensures) (names-steady 200000, tt)

pub write_met-requires-clause-few : goal.write_met-requires-clause-few
write_met-requires-clause-few g c = rw (c.in_ok-table.ensures, length-steady 200000) (omega arith)

pub write_met-requires-clause-totals : goal.write_met-requires-clause-totals
write_met-requires-clause-totals g c =
    let tasks = one_task c.start-set.result c.add.new.self c.start-set.ensures.tasks c.in_ok-add.ensures.ok in
    rw (tasks, c.in_ok-table.ensures) (totals-steady 200000)
