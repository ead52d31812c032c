use Rattle.std.proofs.Common.{refl}
use Rattle.exec_lanes.proofs.ServeLemmas.{served_none, served_on}
use Rattle.lane_worker.proofs.serving.serve_lane.Goals as goal

pub follow-requires-clause-agreed : goal.follow-requires-clause-agreed
follow-requires-clause-agreed g c = c.requires.agreed

pub follow-requires-clause-counts : goal.follow-requires-clause-counts
follow-requires-clause-counts g c = c.requires.counts

pub follow-requires-clause-fresh : goal.follow-requires-clause-fresh
follow-requires-clause-fresh g c = c.loop.invariant.0

pub follow-requires-clause-gives : goal.follow-requires-clause-gives
follow-requires-clause-gives g c = c.loop.invariant.2

pub returns-then-not-follow : goal.returns-then-not-follow
returns-then-not-follow g c = served_on _ _ _ _ _ c.loop.invariant.0 c.loop.invariant.1 c.follow.ensures.served

pub loop-preserved : goal.loop-preserved
loop-preserved g c = (
  c.follow.ensures.more c.if-not-follow.false,
  served_on _ _ _ _ _ c.loop.invariant.0 c.loop.invariant.1 c.follow.ensures.served,
  c.follow.ensures.gives c.if-not-follow.false,
)

pub take_next-next-requires : goal.take_next-next-requires
take_next-next-requires g c = record { agreed = c.requires.agreed }

pub loop-init : goal.loop-init
loop-init g c = (c.requires.fresh, served_none _ _ _ c.requires.fresh, rw (← c.lane.view_is) c.take_next-next.ensures)

pub same-lane : goal.same-lane
same-lane g c = refl

pub unreachable : goal.unreachable
unreachable g c = c.wait_for_good.result
