use Rattle.std.proofs.Common.{◌≡◌, ◌<◌, ◌≤◌, ℕ, None, false, get_or, length, take}
use Rattle.sched_base.specs.Places.{filled, is_held}
use Rattle.cpu_assign.specs.Noted.{AreHeld, IsNoted}
use Rattle.cpu_assign.specs.Changed.{still_waiting}
use Rattle.cpu_assign.proofs.changes.fill_and_note.Given as goal

abbrev pub invariant-loop-k : goal.invariant-loop-k
invariant-loop-k l = (l.onto ≡ filled l.fn.onto (still_waiting l.fn.onto (take l.k l.begun))) × AreHeld l.onto l.from × (l.from ≤ length l.onto)
    × IsNoted l.onto l.last × ((j : ℕ) → ((m : ℕ) → m < l.k → get_or l.begun m 0 ≡ j → ⊥) → is_held l.onto j ≡ is_held l.fn.onto j)
    × ((j : ℕ) → is_held l.onto j ≡ false → get_or l.last j None ≡ get_or l.fn.last j None)
