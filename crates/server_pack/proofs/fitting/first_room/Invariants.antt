use Rattle.std.proofs.Common.{◌≡◌, ◌+◌, drop}
use Rattle.sched_base.specs.FirstFit.{first_with_room}
use Rattle.server_pack.specs.Servers.{rates_of}
use Rattle.server_pack.proofs.fitting.first_room.Given as goal

abbrev pub invariant-loop-i : goal.invariant-loop-i
invariant-loop-i l = l.i + first_with_room l.scale l.rate (rates_of (drop l.i l.servers)) ≡ first_with_room l.scale l.rate (rates_of l.servers)
