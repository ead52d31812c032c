use Rattle.std.proofs.Common.{None, ap, ◌∙◌, arith}
use Rattle.std.specs.Prelude.{slice_get}
use Rattle.tests_executions.proofs.WorkedJobs.{get-set_other, seat_at}
use Rattle.tests_executions.proofs.books.worker_calls.play.Goals as goal

pub lift-first-requires : goal.lift-first-requires
lift-first-requires g c =
    let seats = rw c.expect-side.ensures at c.«open».ensures.seats in
    (record { lane = 0; posted = 0 }, ap (λ xs. slice_get xs 0) seats ∙ seat_at 2 0 (omega arith))

pub lift-second-requires : goal.lift-second-requires
lift-second-requires g c =
    let seats = rw c.expect-side.ensures at c.«open».ensures.seats in (
      record { lane = 1; posted = 0 },
      ap (λ xs. slice_get xs 1) c.lift-first.ensures.rest ∙ get-set_other c.expect-side.result.1 0 1 None (λ same. omega (arith, same))
          ∙ ap (λ xs. slice_get xs 1) seats ∙ seat_at 2 1 (omega arith),
    )
