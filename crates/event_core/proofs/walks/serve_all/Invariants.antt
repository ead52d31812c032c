use Rattle.std.proofs.Common.{◌≡◌, ◌≤◌, ◌<◌, ℕ, length}
use Rattle.run_tree.specs.Schedule.{packs_at}
use Rattle.tree_select.specs.Marked.{AreFreshFrom}
use Rattle.event_core.specs.Serving.{first_served, lists, AreSettledFrom, IsServing}
use Rattle.event_core.proofs.walks.serve_all.Given as goal

abbrev pub invariant-loop-level : goal.invariant-loop-level
invariant-loop-level l =
    (l.level ≤ l.tree.levels) × (l.dues.tick ≡ l.fn.dues.tick) × (l.dues.remains ≡ l.fn.dues.remains) × (length l.dues.runs ≡ length l.fn.dues.runs)
    × IsServing l.tree l.dues l.ends (lists l.ready l.serves l.dry l.stale l.runs) × AreFreshFrom l.tree l.stale l.level × (1 ≤ l.level)
    × AreSettledFrom l.tree l.places.onto l.stale l.runs 0 × ((k : ℕ) → k < length (packs_at l.tree 0) → first_served l.tree l.serves k ≡ first_served
    l.tree l.fn.serves k)
    × (length l.stale ≡ length l.fn.stale)

abbrev pub decreases-loop-level : goal.decreases-loop-level
decreases-loop-level l = l.level
