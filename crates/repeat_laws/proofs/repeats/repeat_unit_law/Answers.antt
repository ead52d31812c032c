use Rattle.repeat_laws.proofs.Deciding.{decided, comes_again, from_start}
use Rattle.repeat_laws.proofs.repeats.repeat_unit_law.Goals as goal

pub returns-clause-decides : goal.returns-clause-decides
returns-clause-decides c = decided

pub returns-clause-again : goal.returns-clause-again
returns-clause-again c = comes_again

pub returns-clause-start : goal.returns-clause-start
returns-clause-start c = from_start
