use Rattle.std.proofs.Common.{arith}
use Rattle.tests_executions.proofs.books.worker_calls.side_of.Goals as goal

pub assert_closing-requires : goal.assert_closing-requires
assert_closing-requires g c = λ t below. let job = c.close_book-closing.ensures.jobs t (let n = c.requires.three in omega (arith, below, n)) in (job.0, job.1)
