use Rattle.wrap_sched.proofs.RowNames.{lanes_name, wrapped_names}
use Rattle.wrap_sched.proofs.laws.names_law.Goals as goal

pub returns-clause-rows : goal.returns-clause-rows
returns-clause-rows c = wrapped_names

pub returns-clause-lanes : goal.returns-clause-lanes
returns-clause-lanes c = lanes_name
