use Rattle.std.proofs.Common.{◌≡◌, ℕ, ◌<◌, None, Some, get_or}
use Rattle.sched_base.specs.declared.rows.Row.{Row}
use Rattle.round_looks.specs.Looks.{leaf_at}
use Rattle.merged_rounds.proofs.looks.look_all.Given as goal

abbrev pub invariant-loop-q : goal.invariant-loop-q
invariant-loop-q l = (k : ℕ) (none : Row) → k < l.q → get_or l.told k None ≡ Some (leaf_at l.plan l.start l.source.tick k none)
