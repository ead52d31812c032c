use Rattle.std.proofs.Common.{◌∙◌}
use Rattle.cpu_assign.proofs.BackLemmas.{there_is}
use Rattle.cpu_assign.proofs.steps.holds.Goals as goal

pub returns : goal.returns
returns c = c.is_there.ensures ∙ there_is c.args.onto.now c.args.last.now c.args.i c.requires.noted
