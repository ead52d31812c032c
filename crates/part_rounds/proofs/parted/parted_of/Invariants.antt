use Rattle.std.proofs.Common.{◌≡◌, length}
use Rattle.part_rounds.proofs.PartedLemmas.{AreFirst}
use Rattle.part_rounds.proofs.parted.parted_of.Given as goal

abbrev pub invariant-loop-own : goal.invariant-loop-own
invariant-loop-own l = record {
  can : (goal.iterator-loop-own).can_next l.own-iterator;
  finite : (goal.iterator-loop-own).is_finite l.own-iterator;
  long : length l.sources.items ≡ length l.yielded;
  first : AreFirst l.plan l.yielded l.sources.items;
}
