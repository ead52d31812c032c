use Rattle.std.proofs.Common.{le_refl}
use Rattle.std.proofs.lemmas.Result.{IfOk-from_err, err_from_is_err_and}
use Rattle.sched_edges.proofs.Pieces.{holds_what_it_gave, holds_more_than, handed_on, ok_is_no_fault, memory_is_not_long, memory_is_no_failure, gave_nothing}
use Rattle.sched_edges.proofs.read.read_all.Goals as goal

pub returns-in_err-read_rest-clause-all : goal.returns-in_err-read_rest-clause-all
returns-in_err-read_rest-clause-all g c = IfOk-from_err _ _ c.from_residual-in_err-read_rest.ensures.0

pub returns-in_err-read_rest-clause-fits : goal.returns-in_err-read_rest-clause-fits
returns-in_err-read_rest-clause-fits g c =
    let (fault, is, same) = err_from_is_err_and c.from_residual-in_err-read_rest.result c.from_residual-in_err-read_rest.ensures.1 in
    rw is tt

pub returns-in_err-read_rest-clause-too_long : goal.returns-in_err-read_rest-clause-too_long
returns-in_err-read_rest-clause-too_long g c =
    let (fault, is, same) = err_from_is_err_and c.from_residual-in_err-read_rest.result c.from_residual-in_err-read_rest.ensures.1 in
    λ count long. c.in_err-read_rest.ensures.too_long count (handed_on is same long)

pub returns-in_err-read_rest-clause-exceeds : goal.returns-in_err-read_rest-clause-exceeds
returns-in_err-read_rest-clause-exceeds g c =
    let (fault, is, same) = err_from_is_err_and c.from_residual-in_err-read_rest.result c.from_residual-in_err-read_rest.ensures.1 in
    λ count long. holds_more_than (g.R.Source.left c.args.source.now) (g.R.Source.left c.read_rest.new.source) c.args.limit count
    (c.in_err-read_rest.ensures.too_long count (handed_on is same long))

pub returns-in_err-read_rest-clause-bounded : goal.returns-in_err-read_rest-clause-bounded
returns-in_err-read_rest-clause-bounded g c =
    let (fault, is, same) = err_from_is_err_and c.from_residual-in_err-read_rest.result c.from_residual-in_err-read_rest.ensures.1 in
    rw is c.in_err-read_rest.ensures.bounded

pub returns-in_err-read_rest-clause-unfinished : goal.returns-in_err-read_rest-clause-unfinished
returns-in_err-read_rest-clause-unfinished g c =
    let (fault, is, same) = err_from_is_err_and c.from_residual-in_err-read_rest.result c.from_residual-in_err-read_rest.ensures.1 in
    λ failed. c.in_err-read_rest.ensures.unfinished (handed_on is same failed)

pub returns-in_err-read_rest-clause-later : goal.returns-in_err-read_rest-clause-later
returns-in_err-read_rest-clause-later g c = c.in_err-read_rest.ensures.later

pub returns-in_err-read_rest-clause-read : goal.returns-in_err-read_rest-clause-read
returns-in_err-read_rest-clause-read g c =
    let (fault, is, same) = err_from_is_err_and c.from_residual-in_err-read_rest.result c.from_residual-in_err-read_rest.ensures.1 in
    λ failed. c.in_err-read_rest.ensures.read (handed_on is same failed)

pub returns-clause-all : goal.returns-clause-all
returns-clause-all g c = c.in_ok-read_rest.ensures.all

pub returns-clause-fits : goal.returns-clause-fits
returns-clause-fits g c = holds_what_it_gave (g.R.Source.left c.args.source.now) (g.R.Source.left c.read_rest.new.source) c.args.limit _
    c.in_ok-read_rest.ensures.all

pub returns-clause-too_long : goal.returns-clause-too_long
returns-clause-too_long g c = λ count is. absurd (ok_is_no_fault is)

pub returns-clause-exceeds : goal.returns-clause-exceeds
returns-clause-exceeds g c = λ count is. absurd (ok_is_no_fault is)

pub returns-clause-bounded : goal.returns-clause-bounded
returns-clause-bounded g c = tt

pub returns-clause-unfinished : goal.returns-clause-unfinished
returns-clause-unfinished g c = λ is. absurd (ok_is_no_fault is)

pub returns-clause-later : goal.returns-clause-later
returns-clause-later g c = c.in_ok-read_rest.ensures.later

pub returns-clause-read : goal.returns-clause-read
returns-clause-read g c = λ is. absurd (ok_is_no_fault is)

pub returns-in_err-piece-clause-all : goal.returns-in_err-piece-clause-all
returns-in_err-piece-clause-all g c = IfOk-from_err _ _ c.from_residual.ensures.0

pub returns-in_err-piece-clause-fits : goal.returns-in_err-piece-clause-fits
returns-in_err-piece-clause-fits g c =
    let (fault, is, same) = err_from_is_err_and c.from_residual.result c.from_residual.ensures.1 in
    rw is tt

pub returns-in_err-piece-clause-too_long : goal.returns-in_err-piece-clause-too_long
returns-in_err-piece-clause-too_long g c =
    let (fault, is, same) = err_from_is_err_and c.from_residual.result c.from_residual.ensures.1 in
    λ count long. absurd (memory_is_not_long is same long)

pub returns-in_err-piece-clause-exceeds : goal.returns-in_err-piece-clause-exceeds
returns-in_err-piece-clause-exceeds g c =
    let (fault, is, same) = err_from_is_err_and c.from_residual.result c.from_residual.ensures.1 in
    λ count long. absurd (memory_is_not_long is same long)

pub returns-in_err-piece-clause-bounded : goal.returns-in_err-piece-clause-bounded
returns-in_err-piece-clause-bounded g c =
    let (fault, is, same) = err_from_is_err_and c.from_residual.result c.from_residual.ensures.1 in
    rw is (gave_nothing (g.R.Source.left c.args.source.now) _)

pub returns-in_err-piece-clause-unfinished : goal.returns-in_err-piece-clause-unfinished
returns-in_err-piece-clause-unfinished g c =
    let (fault, is, same) = err_from_is_err_and c.from_residual.result c.from_residual.ensures.1 in
    λ failed. absurd (memory_is_no_failure is same failed)

pub returns-in_err-piece-clause-later : goal.returns-in_err-piece-clause-later
returns-in_err-piece-clause-later g c = le_refl _

pub returns-in_err-piece-clause-read : goal.returns-in_err-piece-clause-read
returns-in_err-piece-clause-read g c =
    let (fault, is, same) = err_from_is_err_and c.from_residual.result c.from_residual.ensures.1 in
    λ failed. absurd (memory_is_no_failure is same failed)
