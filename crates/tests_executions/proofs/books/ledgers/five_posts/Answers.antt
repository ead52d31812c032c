use Rattle.std.proofs.Common.{refl}
use Rattle.tests_executions.proofs.books.ledgers.five_posts.Goals as goal

pub lift-first-requires : goal.lift-first-requires
lift-first-requires g c =
    let seats = rw c.expect-book.ensures at c.«open».ensures.seats in
    (record { lane = 0; posted = 0 }, rw seats refl)

pub lift-second-requires : goal.lift-second-requires
lift-second-requires g c =
    let seats = rw c.expect-book.ensures at c.«open».ensures.seats in
    (record { lane = 1; posted = 0 }, rw (c.lift-first.ensures.rest, seats) refl)
