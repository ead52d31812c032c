use Rattle.merged_rounds.specs.Shown.{packs_in, shown_in}
use Rattle.merged_rounds.proofs.EntryLemmas.{AreTakenTo}
use Rattle.merged_rounds.proofs.replays.take_entries.Given as goal

abbrev pub invariant-loop-j : goal.invariant-loop-j
invariant-loop-j l = AreTakenTo (packs_in l.entries) (shown_in l.entries) l.low l.high l.fn.shows l.shows l.j l.changes
