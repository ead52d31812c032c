use Rattle.repeat_plans.proofs.PlanTables.{plan_merged_valid, plan_table}
use Rattle.repeat_plans.proofs.merged_plan_law.Goals as goal

pub returns-clause-table : goal.returns-clause-table
returns-clause-table c = plan_table

pub returns-clause-valid : goal.returns-clause-valid
returns-clause-valid c = plan_merged_valid
