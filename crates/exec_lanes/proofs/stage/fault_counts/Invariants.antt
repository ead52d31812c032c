use Rattle.std.proofs.Common.{◌≡◌, ◌<◌, ℕ}
use Rattle.std.specs.Prelude.{slice_index}
use Rattle.std.specs.Vec.{vec_len}
use Rattle.sched_edges.specs.Jobs.{JobAt}
use Rattle.exec_lanes.proofs.stage.fault_counts.Given as goal

abbrev pub invariant-loop-t : goal.invariant-loop-t
invariant-loop-t g l = (vec_len l.counts ≡ l.t) × ((t : ℕ) (job : g.row.J.Denot) → t < l.t → JobAt l.jobs.places t job → slice_index l.counts.items
    t ≡ g.J.Job.faults job)
