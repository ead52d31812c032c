use Rattle.std.proofs.Common.{◌≡◌, ◌++◌}
use Rattle.mode_join.specs.Joining.{processors_of}
use Rattle.mode_join.specs.Modes.{AreModes, sets_of}
use Rattle.mode_join.proofs.modes.Modes.join.Given as goal

abbrev pub invariant-loop-set : goal.invariant-loop-set
invariant-loop-set l = record {
  whole : l.fn.sets.items ≡ sets_of l.modes.modes ++ l.set-iterator.rest.items;
  wide : l.modes.processors ≡ processors_of l.fn.sets.items;
  are : AreModes l.modes;
}
