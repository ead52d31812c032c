use Rattle.server_pack.proofs.FirstFitLaw.{homes_are_first_fit, same_first_fit, loads, opened}
use Rattle.server_pack.proofs.laws.first_fit_law.Goals as goal

pub returns-clause-is : goal.returns-clause-is
returns-clause-is c = homes_are_first_fit

pub returns-clause-same : goal.returns-clause-same
returns-clause-same c = same_first_fit

pub returns-clause-loads : goal.returns-clause-loads
returns-clause-loads c = loads

pub returns-clause-opened : goal.returns-clause-opened
returns-clause-opened c = opened
