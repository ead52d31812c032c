use Rattle.std.proofs.Common.{◌≡◌, length}
use Rattle.exec_lanes.specs.Kits.{AreFilled}
use Rattle.own_crew.proofs.kits_of.Given as goal

abbrev pub invariant-loop : goal.invariant-loop
invariant-loop l = record {
  long : length l.kits.items ≡ l.counter;
  filled : AreFilled l.counter l.kits.items;
}
