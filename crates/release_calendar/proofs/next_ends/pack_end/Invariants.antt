use Rattle.run_tree.proofs.NextBoundaries.{IsLeastOf}
use Rattle.release_calendar.proofs.next_ends.pack_end.Given as goal

abbrev pub invariant-loop-member : goal.invariant-loop-member
invariant-loop-member l = IsLeastOf l.plan l.fn.p.0 l.at l.member-index l.first
