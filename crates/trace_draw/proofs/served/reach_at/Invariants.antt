use Rattle.std.proofs.Common.{◌≡◌, max, drop}
use Rattle.trace_draw.specs.Served.{reach_at}
use Rattle.trace_draw.proofs.served.reach_at.Given as goal

abbrev pub invariant-loop-place : goal.invariant-loop-place
invariant-loop-place l = max l.reach (reach_at l.rows (drop l.place-index l.places) l.to) ≡ reach_at l.rows l.places l.to
