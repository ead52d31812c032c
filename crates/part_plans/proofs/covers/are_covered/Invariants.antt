use Rattle.std.proofs.Common.{ℕ, ◌<◌, get_or}
use Rattle.part_plans.specs.Covers.{IsCovered}
use Rattle.part_plans.proofs.covers.are_covered.Given as goal

abbrev pub invariant-loop-n : goal.invariant-loop-n
invariant-loop-n l = (n : ℕ) → n < l.n → IsCovered l.parts (get_or l.part n 0) (get_or l.like n 0) n
