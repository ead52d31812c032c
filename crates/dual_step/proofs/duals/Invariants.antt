use Rattle.std.proofs.Common.{◌≡◌, ◌-◌, ◌≤◌, map, take, length, vec_capacity}
use Rattle.dual_step.proofs.duals.Given as goal

abbrev pub invariant-loop-rate : goal.invariant-loop-rate
invariant-loop-rate l = record {
  so_far : l.rates.items ≡ map (λ rate. l.scale - rate) (take l.rate-index l.servers);
  room : length l.servers ≤ vec_capacity l.rates;
}
