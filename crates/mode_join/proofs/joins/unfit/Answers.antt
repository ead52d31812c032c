use Rattle.std.proofs.Common.{◌≡◌, sym, ◌∙◌}
use Rattle.std.specs.List.{AllByRecursion}
use Rattle.std.specs.Int.{◌∣◌}
use Rattle.repeat_laws.specs.Repeats.{IsFirstTask}
use Rattle.mode_join.proofs.JoinLemmas.{period_first}
use Rattle.mode_join.proofs.joins.unfit.Goals as goal

pub returns-in-Some-first_open-clause-some : goal.returns-in-Some-first_open-clause-some
returns-in-Some-first_open-clause-some c = λ before.
    let zeros : AllByRecursion (λ t. t.offset ≡ 0) c.args.set.now.tasks = rw c.tasks.ensures.value at (c.in_default.ensures.none) in
    let first : IsFirstTask (λ t. t.period ∣ c.args.set.now.horizon → ⊥) c.args.set.now.tasks c.in-Some-first_open.task =
    rw (c.tasks-2.ensures.value, c.horizon.ensures.value) at c.in-Some-first_open.ensures.some in
    period_first c.args.processors before c.args.set.now (sym c.processors.ensures.value ∙ c.if-processors.false) zeros c.in-Some-first_open.task first
