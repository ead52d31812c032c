use Rattle.std.proofs.Common.{◌<◌, ◌∙◌, length, get_or, ap, arith}
use Rattle.std.proofs.lemmas.List.{get_or_default}
use Rattle.trace_verdict.specs.declared.task_walks.TaskWalk.{TaskWalk}
use Rattle.trace_verdict.proofs.TimedLemmas.{going_on}
use Rattle.trace_verdict.proofs.timed.go_by.Goals as goal

pub returns : goal.returns
returns c = λ t s l g.
    let walks = c.args.walks.now in
    let j = c.in-Some.task in
    let new : TaskWalk = c.step.new.self in
    let within : j < length walks = omega arith in
    let periods = c.step.ensures.periods ∙ ap (λ (w : TaskWalk). w.periods) (get_or_default walks j _ new within) in
    going_on s l c.args.rows.now j walks (get_or walks j new) new within (get_or_default walks j new (get_or walks j new) within) g (c.step.ensures.gone t)
    periods
