use Rattle.std.proofs.Common.{◌≡◌, ◌<◌, ℕ, false}
use Rattle.std.specs.Prelude.{slice_index}
use Rattle.book_machine.specs.Machine.{lane_at}
use Rattle.locked_book.proofs.found.is_whole_at.Given as goal

abbrev pub invariant-loop-p : goal.invariant-loop-p
invariant-loop-p g l = (q : ℕ) → q < l.p → ((lane_at l.book.state.lanes q).out ≡ false) × ((lane_at l.book.state.lanes q).posted ≡ slice_index l.posted q)
