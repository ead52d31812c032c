use Rattle.std.proofs.Common.{◌≡◌, ◌+◌, ◌<◌, ℕ, length}
use Rattle.sched_edges.specs.Jobs.{JobAt}
use Rattle.tests_executions.proofs.books.jobs_of.Given as goal

abbrev pub invariant-loop-t : goal.invariant-loop-t
invariant-loop-t g l = record {
  room : l.jobs.room + l.t ≡ l.count;
  long : length l.jobs.places ≡ l.t;
  filled : (t : ℕ) → t < l.t → JobAt l.jobs.places t (record { id = t; used = 0 });
}
