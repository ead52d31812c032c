use Rattle.std.proofs.Common.{List, ℕ, Err, ap, subst}
use Rattle.std.specs.List.{AllZip}
use Rattle.std.proofs.lemmas.Result.{IfOk-from_err, err_from_is_err_and}
use Rattle.task_reader.specs.Pieces.{pieces_of}
use Rattle.batch_compile.specs.Answers.{IsAnswer}
use Rattle.pure_commands.specs.Ends.{streams_of}
use Rattle.pure_commands.proofs.BatchLemmas.{untaken_batch, batch_told, batch_unwritten}
use Rattle.pure_commands.proofs.EndLemmas.{keeps_same}
use Rattle.pure_commands.proofs.WrittenLemmas.{on_written, if_unwritten}
use Rattle.pure_commands.proofs.batch.batch.Goals as goal

pub returns-in_err-bytes-clause-done : goal.returns-in_err-bytes-clause-done
returns-in_err-bytes-clause-done g c = IfOk-from_err _ _ c.from_residual.ensures.0

pub returns-in_err-bytes-clause-stops : goal.returns-in_err-bytes-clause-stops
returns-in_err-bytes-clause-stops g c =
    let old = streams_of g.R.Source g.W.Sink c.args.source.now c.args.out.now in
    let new = streams_of g.R.Source g.W.Sink c.read_all.new.source c.args.out.now in
    let taken = c.in_err-bytes.ensures in
    let why = err_from_is_err_and c.from_residual.result c.from_residual.ensures.1 in
    rw (why.1, why.2)
    (untaken_batch old new c.in_err-bytes.field-0.0 (λ count is. taken.too_long count (ap Err is)) (λ is. taken.read (ap Err is))
    (λ is. taken.unfinished (ap Err is)) (keeps_same _))

pub returns-in_err-answers-clause-done : goal.returns-in_err-answers-clause-done
returns-in_err-answers-clause-done g c = IfOk-from_err _ _ c.from_residual-in_err-answers.ensures.0

pub returns-in_err-answers-clause-stops : goal.returns-in_err-answers-clause-stops
returns-in_err-answers-clause-stops g c =
    let why = err_from_is_err_and c.from_residual-in_err-answers.result c.from_residual-in_err-answers.ensures.1 in
    rw (why.1, why.2) (keeps_same _)

pub returns-clause-stops : goal.returns-clause-stops
returns-clause-stops g c =
    let old = streams_of g.R.Source g.W.Sink c.args.source.now c.args.out.now in
    let new = streams_of g.R.Source g.W.Sink c.read_all.new.source c.write_answers.new.out in
    if_unwritten c.write_answers.result c.written.result c.written.ensures _ _ _ c.write_answers.ensures.wrote.err c.write_answers.ensures.cause.failed
    (λ took rose.
    (batch_unwritten old new c.in_ok-bytes.bytes c.in_ok-answers.answers c.in_ok-bytes.ensures.all
    (subst (λ (b : List ℕ). AllZip IsAnswer (pieces_of b) c.in_ok-answers.answers) c.as_slice.ensures c.in_ok-answers.ensures)
    took rose))

pub returns-clause-done : goal.returns-clause-done
returns-clause-done g c =
    let old = streams_of g.R.Source g.W.Sink c.args.source.now c.args.out.now in
    let new = streams_of g.R.Source g.W.Sink c.read_all.new.source c.write_answers.new.out in
    on_written c.write_answers.result c.written.result c.written.ensures _ _ c.write_answers.ensures.wrote.ok
    (λ took. batch_told old new c.in_ok-bytes.bytes c.in_ok-answers.answers c.in_ok-bytes.ensures.all
    (subst (λ (b : List ℕ). AllZip IsAnswer (pieces_of b) c.in_ok-answers.answers) c.as_slice.ensures c.in_ok-answers.ensures)
    took)
