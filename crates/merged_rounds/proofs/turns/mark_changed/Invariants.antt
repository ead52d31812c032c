use Rattle.std.proofs.Common.{◌≡◌, ℕ, ◌<◌, true, false, length, None, Some, get_or}
use Rattle.merged_rounds.specs.Changes.{IsNone}
use Rattle.merged_rounds.proofs.turns.mark_changed.Given as goal

abbrev pub invariant-loop-j : goal.invariant-loop-j
invariant-loop-j l = record {
  each : (j : ℕ) → j < l.j → get_or l.holds (get_or l.changed j 0) None ≡ get_or l.places.onto (get_or l.changed j 0) None;
  rest : (q : ℕ) → IsNone l.changed l.j q → get_or l.holds q None ≡ get_or l.fn.holds q None;
  held : (q k : ℕ) → get_or l.fn.holds q None ≡ Some k → get_or l.marks k false ≡ false → get_or l.holds q None ≡ Some k;
  marked : (j k : ℕ) → j < l.j → get_or l.places.onto (get_or l.changed j 0) None ≡ Some k → get_or l.marks k false ≡ true;
  long : length l.marks ≡ length l.fn.marks;
  within : (q k : ℕ) → get_or l.holds q None ≡ Some k → k < length l.fn.marks;
}
