use Rattle.std.proofs.Common.{◌≡◌, take}
use Rattle.server_pack.specs.Servers.{rate_sum}
use Rattle.idle_fill.proofs.total.Given as goal

abbrev pub invariant-loop-s : goal.invariant-loop-s
invariant-loop-s l = l.sum ≡ rate_sum (take l.s l.packing.servers)
