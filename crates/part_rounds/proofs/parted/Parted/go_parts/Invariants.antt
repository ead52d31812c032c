use Rattle.std.proofs.Common.{◌≡◌}
use Rattle.part_rounds.proofs.PartedLemmas.{AreMoved}
use Rattle.part_rounds.proofs.parted.Parted.go_parts.Given as goal

abbrev pub invariant-loop-c : goal.invariant-loop-c
invariant-loop-c l = record {
  tick : l.now ≡ l.fn.self.tick;
  part : l.self.part ≡ l.fn.self.part;
  like : l.self.like ≡ l.fn.self.like;
  placed : l.self.placed ≡ l.fn.self.placed;
  moved : AreMoved l.plan l.fn.self.tick l.c l.fn.self.parts.items l.self.parts.items l.fn.self.shows.items l.self.shows.items l.end;
}
