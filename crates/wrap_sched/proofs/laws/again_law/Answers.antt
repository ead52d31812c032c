use Rattle.wrap_sched.proofs.Again.{wrapped_again, wrapped_repeats}
use Rattle.wrap_sched.proofs.laws.again_law.Goals as goal

pub returns-clause-stands : goal.returns-clause-stands
returns-clause-stands c = wrapped_again

pub returns-clause-valid : goal.returns-clause-valid
returns-clause-valid c = wrapped_repeats
