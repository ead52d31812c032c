use Rattle.std.proofs.Common.{◌≡◌}
use Rattle.std.specs.Int.{◌∣◌}
use Rattle.repeat_laws.proofs.Repeating.{of_task}
use Rattle.repeat_laws.proofs.sets.is_closed.Goals as goal

pub returns-in-Some : goal.returns-in-Some
returns-in-Some c =
    let s = c.args.set.now in
    let late = rw c.tasks.ensures.value at c.in-Some.ensures.some in
    (λ no. cc, λ can. absurd (late.holds (of_task (λ t. t.offset ≡ 0) s.tasks c.in-Some._task can.no_offset late.within)))

pub returns-in-Some-first_open : goal.returns-in-Some-first_open
returns-in-Some-first_open c =
    let s = c.args.set.now in
    let ended = rw (c.tasks-2.ensures.value, c.horizon.ensures.value) at c.in-Some-first_open.ensures.some in
    (λ no. cc, λ can. absurd (ended.holds (of_task (λ t. t.period ∣ s.horizon) s.tasks c.in-Some-first_open._task can.whole_periods ended.within)))
