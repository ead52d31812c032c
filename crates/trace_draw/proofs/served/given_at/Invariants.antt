use Rattle.std.proofs.Common.{◌≡◌, ◌+◌, ◌-◌, ◌≤◌, ◌^◌, min, drop}
use Rattle.trace_draw.specs.Served.{given_at}
use Rattle.trace_draw.proofs.served.given_at.Given as goal

abbrev pub invariant-loop-place : goal.invariant-loop-place
invariant-loop-place l =
    (l.given ≤ 2 ^ 128 - 1) ×
    (min (l.given + given_at l.rows (drop l.place-index l.places) l.from l.to) (2 ^ 128 - 1) ≡ min (given_at l.rows l.places l.from l.to) (2 ^ 128 - 1))
