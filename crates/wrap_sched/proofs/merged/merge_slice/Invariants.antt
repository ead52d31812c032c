use Rattle.std.proofs.Common.{◌*◌, ◌++◌, List, ℕ}
use Rattle.sched_base.specs.declared.rows.Row.{Row}
use Rattle.wrap_sched.specs.Merged.{AreMergedUpTo}
use Rattle.wrap_sched.proofs.MergedLemmas.{IsPart}
use Rattle.wrap_sched.proofs.TableLemmas.{rows_up_to}
use Rattle.wrap_sched.proofs.merged.merge_slice.Given as goal

abbrev pub invariant-loop-round : goal.invariant-loop-round
invariant-loop-round l = (done : List Row) (count : ℕ) → AreMergedUpTo l.slices.set.now.processors (l.x * l.slices.scale) count done l.initial.merged
    → IsPart l.slices.set.now l.slices.scale l.x l.y l.round-index count (done ++ rows_up_to l.slices.set.now l.slices.scale l.x l.y l.round-index) l.merged
