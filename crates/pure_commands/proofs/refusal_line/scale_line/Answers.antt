use Rattle.std.proofs.Common.{refl}
use Rattle.pure_commands.specs.Refusals.{refusal_line}
use Rattle.pure_commands.proofs.refusal_line.scale_line.Goals as goal

pub returns : goal.returns
unfolding refusal_line
returns c = rw (c.counted_line.ensures, c.from.ensures) refl
