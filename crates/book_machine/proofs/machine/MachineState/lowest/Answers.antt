use Rattle.std.proofs.Common.{◌∙◌, ap, sym}
use Rattle.book_machine.specs.Machine.{least_of}
use Rattle.book_machine.proofs.machine.MachineState.lowest.Goals as goal

pub lowest-requires-clause-least : goal.lowest-requires-clause-least
lowest-requires-clause-least c = c.self.invariant.least_is ∙ ap least_of (sym c.as_slice.ensures.value)
