use Rattle.std.proofs.Common.{◌≡◌, ◌≤◌, ◌<◌, ◌-◌, ℕ, List, Option, length}
use Rattle.run_tree.specs.Schedule.{packs_at}
use Rattle.tree_select.specs.Marked.{AreFresh}
use Rattle.tree_select.specs.Masks.{AreUnmarked}
use Rattle.event_core.specs.Serving.{first_served, lists, AreSettledFrom, IsServing}
use Rattle.event_core.proofs.walks.serve_level.Given as goal

abbrev pub invariant-marked : goal.invariant-marked
invariant-marked l = record {
  tick : l.dues.tick ≡ l.fn.dues.tick;
  remains : l.dues.remains ≡ l.fn.dues.remains;
  nodes : length l.dues.runs ≡ length l.fn.dues.runs;
  long : length l.stale ≡ length l.fn.stale;
  serving : IsServing l.tree l.dues l.ends (lists l.ready l.serves l.dry l.stale l.runs);
  fresh : AreFresh l.tree l.stale l.level l.from;
  settled : (onto : List (Option ℕ)) → AreSettledFrom l.tree onto l.fn.stale l.fn.runs 0 → AreSettledFrom l.tree onto l.stale l.runs 0;
  within : l.from ≤ length (packs_at l.tree l.level);
  first : (k : ℕ) → k < length (packs_at l.tree 0) → first_served l.tree l.serves k ≡ first_served l.tree l.fn.serves k;
  group : l.span.from ≤ l.group;
  before : AreUnmarked l.masks.groups l.stale l.span.from l.group;
}

abbrev pub decreases-marked : goal.decreases-marked
decreases-marked l = length (packs_at l.tree l.level) - l.from
