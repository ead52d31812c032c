use Rattle.std.proofs.Common.{sym}
use Rattle.sched_base.specs.Tables.{all_rows}
use Rattle.table_text.proofs.StepLemmas.{step_is}
use Rattle.table_text.proofs.steps.step_of.Goals as goal

pub returns-clause-value : goal.returns-clause-value
returns-clause-value c = sym (step_is c.args.ticks (all_rows c.args.rows.now.lanes) c.common_step.result c.requires c.common_step.ensures).0

pub returns-clause-some : goal.returns-clause-some
returns-clause-some c = (step_is c.args.ticks (all_rows c.args.rows.now.lanes) c.common_step.result c.requires c.common_step.ensures).1
