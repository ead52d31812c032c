use Rattle.std.proofs.Common.{◌≡◌, ◌<◌, ◌+◌, ℕ, length}
use Rattle.std.specs.Prelude.{slice_index}
use Rattle.sched_edges.specs.Jobs.{JobAt}
use Rattle.exec_lanes.proofs.stage.push_totals.Given as goal

abbrev pub invariant-loop-t : goal.invariant-loop-t
invariant-loop-t g l = record {
  count : length l.totals.ticks ≡ l.t;
  left : l.totals.room + l.t ≡ l.initial.totals.room;
  ticks : (t : ℕ) (job : g.row.J.Denot) → t < l.t → JobAt l.jobs.places t job → slice_index l.totals.ticks t ≡ g.J.Job.used job;
}
