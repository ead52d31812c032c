use Rattle.std.proofs.Common.{ap, arith, sym, ◌*◌, ◌∙◌}
use Rattle.sched_base.specs.Sets.{SetContents}
use Rattle.mode_join.proofs.JoinLemmas.{some_round}
use Rattle.mode_join.proofs.joins.rounds_after.Goals as goal

pub returns-in-Ok-clause-some : goal.returns-in-Ok-clause-some
returns-in-Ok-clause-some c =
    let some = some_round c.args.plan.now c.set.ensures.lawful in
    let is = c.in-Ok.ensures.count in
    omega (arith, some, is)

pub overflow_mul-count : goal.overflow_mul-count
overflow_mul-count c =
    let width = c.from-processors.ensures ∙ c.processors.ensures.value ∙ ap (λ (s : SetContents). s.processors) c.set.ensures.value
    ∙ sym c.set.ensures.lawful.tree.processors in
    let times = ap (λ w. c.in-Ok.count * w) width in
    let most = c.in-Ok.ensures.count.1 in
    omega (arith, times, most)

pub overflow_add-rows : goal.overflow_add-rows
overflow_add-rows c =
    let width = c.from-processors.ensures ∙ c.processors.ensures.value ∙ ap (λ (s : SetContents). s.processors) c.set.ensures.value
    ∙ sym c.set.ensures.lawful.tree.processors in
    let times = ap (λ w. c.in-Ok.count * w) width in
    let most = c.in-Ok.ensures.count.1 in
    omega (arith, times, most, c.requires)
