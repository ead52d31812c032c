use Rattle.std.proofs.Common.{◌≡◌, ℕ, ◌-◌, ◌^◌, List, Option, length, map, min, take}
use Rattle.std.specs.Prelude.{sum}
use Rattle.tree_check.specs.Faults.{named}
use Rattle.tree_check.specs.Scans.{rate_in, AreMarks}
use Rattle.tree_check.proofs.MarkLemmas.{Placing}
use Rattle.tree_check.proofs.marks.place.Given as goal

abbrev pub invariant-loop-member : goal.invariant-loop-member
invariant-loop-member l =
    (length l.marks ≡ length l.rates)
    × ((names : List (Option ℕ)) → AreMarks l.rates names l.initial.marks → Placing l.rates names (map (named l.tree l.l) (take l.member-index l.members))
    l.good l.marks)
    × (l.sum ≡ min (sum (map (rate_in l.rates) (map (named l.tree l.l) (take l.member-index l.members)))) (2 ^ 128 - 1))
