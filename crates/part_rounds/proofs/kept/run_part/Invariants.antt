use Rattle.std.proofs.Common.{◌≡◌, ◌<◌, ℕ, None, get_or, length}
use Rattle.merged_rounds.specs.Replays.{packs_of}
use Rattle.part_rounds.specs.PartRounds.{IsShownAt}
use Rattle.part_rounds.proofs.kept.run_part.Given as goal

abbrev pub invariant-loop-k : goal.invariant-loop-k
invariant-loop-k l = record {
  long : length l.shows ≡ packs_of l.part.plan;
  each : (j : ℕ) → j < l.k → IsShownAt l.part l.start j (get_or l.shows j None);
}
