use Rattle.std.proofs.Common.{◌≡◌, ◌≤◌, ◌-◌, length}
use Rattle.run_tree.specs.Schedule.{packs_at}
use Rattle.tree_select.specs.Marked.{AreFresh}
use Rattle.tree_select.specs.Masks.{AreUnmarked}
use Rattle.event_core.specs.Serving.{lists, AreSeen, AreSettledFrom, IsServing, stops_below, begins_below}
use Rattle.event_core.proofs.walks.serve_first_level.Given as goal

abbrev pub invariant-marked : goal.invariant-marked
invariant-marked l = record {
  tick : l.dues.tick ≡ l.fn.dues.tick;
  remains : l.dues.remains ≡ l.fn.dues.remains;
  nodes : length l.dues.runs ≡ length l.fn.dues.runs;
  long : length l.stale ≡ length l.fn.stale;
  serving : IsServing l.tree l.dues l.ends (lists l.ready l.serves l.dry l.stale l.runs);
  fresh : AreFresh l.tree l.stale 0 l.from;
  settled : AreSettledFrom l.tree l.places.onto l.stale l.runs l.from;
  room : l.changes.room ≡ l.fn.changes.room;
  stopped : l.changes.stopped ≡ stops_below l.tree l.places.onto l.runs l.from;
  begun : l.changes.begun ≡ begins_below l.tree l.places.onto l.runs l.from;
  within : l.from ≤ length (packs_at l.tree 0);
  seen : AreSeen l.tree l.fn.serves l.serves l.changes;
  few : length l.changes.seen ≤ l.from;
  group : l.span.from ≤ l.group;
  before : AreUnmarked l.masks.groups l.stale l.span.from l.group;
}

abbrev pub decreases-marked : goal.decreases-marked
decreases-marked l = length (packs_at l.tree 0) - l.from
