use Rattle.std.proofs.Common.{◌-◌, ◌∙◌, ap, sym, not, length, Ok, arith}
use Rattle.std.specs.Str.{bytes_eq}
use Rattle.std.proofs.lemmas.Bool.{eqb-true, not-true}
use Rattle.text_words.specs.Words.{lines_of}
use Rattle.job_vm.proofs.ProgramsLemmas.{reading_empty, reading_other, reading_tasks, reading_stops, reading_ends, behind_more}
use Rattle.job_vm.proofs.job_text.read_jobs.Goals as goal

pub returns-then-is_empty-clause-fault : goal.returns-then-is_empty-clause-fault
returns-then-is_empty-clause-fault c = reading_empty c.args.bytes.now (eqb-true _ _ (sym c.if-is_empty.ensures))

pub returns-then-ne-clause-fault : goal.returns-then-ne-clause-fault
returns-then-ne-clause-fault c =
    reading_other c.args.bytes.now c.cut_line.result.0.now (lines_of c.cut_line.result.1.now) c.cut_line.ensures.line
    (not-true _ (ap (λ w. not (bytes_eq c.cut_line.result.0.now w)) (sym c.as_slice.ensures) ∙ sym c.if-ne.ensures))

pub returns-then-is_tasks-clause-text : goal.returns-then-is_tasks-clause-text
returns-then-is_tasks-clause-text c =
    reading_tasks c.args.bytes.now c.cut_line-in-loop-rest.result.1.now c.loop-rest.at
    (record { programs = c.loop-rest.programs; count = c.loop-rest.count }) (lines_of c.loop-rest.rest.now)
    (lines_of c.cut_line-in-loop-rest.result.1.now) c.cut_line-in-loop-rest.result.0.now c.loop-rest.invariant.0 c.cut_line-in-loop-rest.ensures.line
    (sym c.is_tasks.ensures ∙ c.if-is_tasks.true)
    (behind_more c.args.bytes.now c.loop-rest.rest.now c.cut_line-in-loop-rest.result.1.now c.loop-rest.at (omega (arith, c.loop-rest.invariant.2))
    c.loop-rest.invariant.1 c.cut_line-in-loop-rest.ensures.rest)
    ∙ ap (λ ps. Ok (record { programs = ps; set_start = length c.args.bytes.now - length c.cut_line-in-loop-rest.result.1.now })) (sym c.into_list.ensures.list)

pub returns-clause-fault : goal.returns-clause-fault
returns-clause-fault c =
    reading_ends c.args.bytes.now c.loop-rest.rest.now c.loop-rest.at (record { programs = c.loop-rest.programs; count = c.loop-rest.count })
    c.loop-rest.invariant.0
    (eqb-true _ _ (sym c.loop-rest-test.ensures))

pub returns-in-Err-clause-fault : goal.returns-in-Err-clause-fault
returns-in-Err-clause-fault c =
    reading_stops c.args.bytes.now c.loop-rest.at (record { programs = c.loop-rest.programs; count = c.loop-rest.count }) (lines_of c.loop-rest.rest.now)
    (lines_of c.cut_line-in-loop-rest.result.1.now) c.cut_line-in-loop-rest.result.0.now c.in-Err.fault c.loop-rest.invariant.0
    c.cut_line-in-loop-rest.ensures.line
    (sym c.is_tasks.ensures ∙ c.if-is_tasks.false) c.in-Err.ensures.fault
