use Rattle.std.proofs.Common.{ℕ, ◌<◌, ◌≡◌, get_or}
use Rattle.sched_base.specs.Valid.{period_start}
use Rattle.trace_writer.proofs.finishes.begin_each.Given as goal

abbrev pub invariant-loop-k : goal.invariant-loop-k
invariant-loop-k l = (i : ℕ) → i < l.k → get_or l.ends i 0 ≡ period_start l.scale l.task i
