use Rattle.std.proofs.Common.{◌≡◌, length}
use Rattle.std.specs.List.{range_with_len}
use Rattle.event_core.specs.Serving.{AreBegun}
use Rattle.event_core.proofs.firsts.begin_first.Given as goal

abbrev pub invariant-loop-x : goal.invariant-loop-x
invariant-loop-x l =
    (l.dues.tick ≡ 0) × (l.dues.runs ≡ l.fn.dues.runs)
    × AreBegun l.plan.tree l.calendar.begins l.calendar.ends (range_with_len 0 (length l.plan.tree.nodes)) l.fn.dues.remains l.fn.ready l.fn.stale
    l.dues.remains l.ready l.stale l.x
