use Rattle.std.proofs.Common.{◌≡◌, ◌+◌, ◌++◌, replicate}
use Rattle.server_pack.specs.Servers.{idle_alone}
use Rattle.idle_fill.proofs.add_servers.Given as goal

abbrev pub invariant-loop : goal.invariant-loop
invariant-loop l = record {
  so_far : l.packing.servers ≡ l.fn.packing.servers ++ replicate l.counter (idle_alone l.scale);
  scale : l.packing.scale ≡ l.fn.packing.scale;
  room : l.packing.room + l.counter ≡ l.fn.packing.room;
}
