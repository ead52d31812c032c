use Rattle.std.proofs.Common.{◌≡◌, ◌≤◌, length, map, take, vec_capacity, vec_len}
use Rattle.std.specs.Prelude.{All}
use Rattle.sched_base.specs.Scale.{rate_of}
use Rattle.rate_scale.proofs.rates.rates_of.Given as goal

abbrev pub invariant-loop-task : goal.invariant-loop-task
invariant-loop-task l = record {
  so_far : l.rates.items ≡ map (rate_of l.scale) (take l.task-index l.tasks);
  within : All (λ n. n ≤ l.scale) l.rates.items;
  count : vec_len l.rates ≡ l.task-index;
  room : length l.tasks ≤ vec_capacity l.rates;
}
