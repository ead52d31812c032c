use Rattle.std.proofs.Common.{refl, arith}
use Rattle.trace_check.proofs.EndsLemmas.{reaches_set, reaches_other, own_task, other_task, no_task_at}
use Rattle.trace_check.proofs.reaches.add_row.Goals as goal

pub returns-in_ok-add-clause-ends : goal.returns-in_ok-add-clause-ends
returns-in_ok-add-clause-ends c = λ done e.
    let j = c.in-Task.id.0 in
    let leaf = c.args.row.now.leaf in
    let within = c.if-place-reaches.true in
    reaches_set done c.args.row.now j c.args.reaches.now c.add.new.self within e
    (c.in_ok-add.ensures.ends done j (own_task j c.in-Task.id leaf c.in-Task.is refl) (e j c.index-reaches-place.result within))
    (λ i there. other_task i c.in-Task.id leaf c.in-Task.is there)

pub returns-else-place-reaches-clause-ends : goal.returns-else-place-reaches-clause-ends
returns-else-place-reaches-clause-ends c = λ done e.
    reaches_other done c.args.row.now c.args.reaches.now e (λ i h. other_task i c.in-Task.id c.args.row.now.leaf c.in-Task.is
    (λ here. absurd (omega (arith, h, here, c.if-place-reaches.false))))

pub returns-in_default : goal.returns-in_default
returns-in_default c = record {
  periods = λ scale tasks p. p;
  count = refl;
  ends = λ done e. reaches_other done c.args.row.now c.args.reaches.now e (λ i h. no_task_at i c.args.row.now.leaf c.in_default.not-Task);
}
