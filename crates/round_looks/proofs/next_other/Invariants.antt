use Rattle.std.proofs.Common.{ℕ, ◌<◌, ◌≤◌, None, get_or}
use Rattle.round_looks.specs.Looks.{IsLooked}
use Rattle.round_looks.proofs.next_other.Given as goal

abbrev pub invariant-loop-q : goal.invariant-loop-q
invariant-loop-q l = (k : ℕ) → l.from ≤ k → k < l.q → IsLooked l.plan l.start l.core.tick k (get_or l.kept k None) (get_or l.kept k None) None
