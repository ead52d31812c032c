use Rattle.std.proofs.Common.{refl}
use Rattle.trace_verdict.proofs.walks.Walk.new.Goals as goal

pub new-requires : goal.new-requires
new-requires c = c.requires.lawful.some_period

pub returns-clause-tick : goal.returns-clause-tick
returns-clause-tick c = refl

pub returns-clause-done : goal.returns-clause-done
returns-clause-done c = refl
