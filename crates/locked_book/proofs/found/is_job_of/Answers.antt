use Rattle.exec_lanes.proofs.ErrorLemmas.{untrue}
use Rattle.std.proofs.Common.{◌≡◌, true, refl, ap, ◌∙◌, arith, eq-eqb}
use Rattle.std.proofs.lemmas.Bool.{eqb-true}
use Rattle.sched_base.specs.Rows.{is_of_task}
use Rattle.locked_book.proofs.FoundLemmas.{job_of_task}
use Rattle.locked_book.proofs.found.is_job_of.Goals as goal

pub returns-else-used-ticks : goal.returns-else-used-ticks
returns-else-used-ticks g c = λ same.
    let t = c.in-Task.task.0 in
    let named : is_of_task t c.args.row.now.leaf ≡ true = ap (is_of_task t) c.in-Task.is ∙ eq-eqb t t refl in
    let noted = c.handed.ensures c.args.row.now t c.requires.out named in
    let before = eqb-true _ _ same in
    job_of_task _ _ _ _ _ _ _ _ _ c.in-Task.is c.in-Some.is (omega (arith, c.id.ensures)) (omega (arith, noted, before, c.used-used.ensures)) c.requires.agrees

pub returns-then-id-task : goal.returns-then-id-task
returns-then-id-task g c = untrue

pub returns-in-None : goal.returns-in-None
returns-in-None g c = untrue

pub overflow_sub-result : goal.overflow_sub-result
overflow_sub-result g c = c.if-used-ticks.false

pub handed-requires : goal.handed-requires
handed-requires g c = let t = c.in-Task.task.0 in (c.args.row.now, t, c.requires.out, ap (is_of_task t) c.in-Task.is ∙ eq-eqb t t refl)
