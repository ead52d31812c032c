use Rattle.std.proofs.Common.{Err, ap, sym, ◌∙◌, subst}
use Rattle.sched_base.specs.Sets.{SetContents}
use Rattle.sched_base.specs.Lanes.{NamesOneOf}
use Rattle.exec_lanes.proofs.ErrorLemmas.{untrue}
use Rattle.run_tool.specs.Executions.{name_at}
use Rattle.run_tool.proofs.CrewEndLemmas.{kits_filled, kit_empty, jobs_fresh, few_rows, back_by, all_by, rows_by, totals_by, left_by, gate_by}
use Rattle.run_tool.proofs.CrewEndLemmas.{gate_named, job_by, job_named}
use Rattle.run_tool.proofs.exec.run_plan.Goals as goal

pub execute-requires-clause-kits : goal.execute-requires-clause-kits
execute-requires-clause-kits g c κs within =
    kits_filled _ _ _ _ _ _ _ _ c.requires.ready c.args.plan.now.tree.processors c.know_lawful.ensures.lawful.sized.few_processors

pub execute-requires-clause-empty : goal.execute-requires-clause-empty
execute-requires-clause-empty g c κs within =
    kit_empty _ _ _ _ _ _ _ _ c.requires.ready c.args.plan.now.tree.processors c.know_lawful.ensures.lawful.sized.few_processors

pub execute-requires-clause-jobs : goal.execute-requires-clause-jobs
execute-requires-clause-jobs g c κs within = jobs_fresh _ _ _ _ _ _ _ _ c.requires.ready _ c.know_lawful.ensures.lawful.lawful.few_tasks

pub name_at-requires : goal.name_at-requires
name_at-requires g c = subst (λ (s : SetContents). NamesOneOf s.tasks c.in-Err-Gate.row.leaf) (sym c.set.ensures.value)
    (gate_named _ _ _ _ _ _ c.args.plan.now c.args.window _ _ _ _ c.know_lawful.ensures.lawful c.requires.ready
    (c.table_law.ensures.lanes c.args.plan.now c.know_lawful.ensures.lawful) c.execute.result c.execute.ensures.outcome _ c.in-Err-Gate.row _
    (c.in-Err-Gate.is ∙ ap Err c.in-Err-Gate.field-0-is))

pub name_at-requires-in-Err-Job : goal.name_at-requires-in-Err-Job
name_at-requires-in-Err-Job g c = subst (λ (s : SetContents). NamesOneOf s.tasks c.in-Err-Job.row.leaf) (sym c.set-in-Err-Job.ensures.value)
    (job_named _ _ _ _ _ _ c.args.plan.now c.args.window _ _ _ _ c.know_lawful.ensures.lawful c.requires.ready
    (c.table_law.ensures.lanes c.args.plan.now c.know_lawful.ensures.lawful) c.execute.result c.execute.ensures.outcome _ _ c.in-Err-Job.row _
    (c.in-Err-Job.is ∙ ap Err c.in-Err-Job.field-0-is))

pub returns-in-Ok-clause-ran : goal.returns-in-Ok-clause-ran
returns-in-Ok-clause-ran g c =
    all_by _ _ _ _ _ _ c.args.plan.now c.args.window _ _ _ _ c.know_lawful.ensures.lawful c.requires.ready
    (c.table_law.ensures.lanes c.args.plan.now c.know_lawful.ensures.lawful) c.execute.result c.execute.ensures.outcome c.in-Ok.executed c.in-Ok.is

pub returns-in-Ok-clause-few : goal.returns-in-Ok-clause-few
returns-in-Ok-clause-few g c = few_rows c.args.plan.now c.know_lawful.ensures.lawful c.in-Ok.executed.table.lanes
    (rows_by _ _ _ _ _ _ c.args.plan.now c.args.window _ _ _ _ c.know_lawful.ensures.lawful c.requires.ready
    (c.table_law.ensures.lanes c.args.plan.now c.know_lawful.ensures.lawful) c.execute.result c.execute.ensures.outcome c.in-Ok.executed c.in-Ok.is)
    c.args.rounds c.requires.executable.rounds c.requires.executable.few

pub returns-in-Ok-clause-back : goal.returns-in-Ok-clause-back
returns-in-Ok-clause-back g c = back_by _ _ _ _ _ _ c.args.plan.now c.args.window _ _ _ _ c.execute.result c.execute.ensures.outcome

pub returns-in-Err-Gate-clause-stops : goal.returns-in-Err-Gate-clause-stops
returns-in-Err-Gate-clause-stops g c = (
  gate_by _ _ _ _ _ _ c.args.plan.now c.args.window _ _ _ _ c.know_lawful.ensures.lawful c.requires.ready
      (c.table_law.ensures.lanes c.args.plan.now c.know_lawful.ensures.lawful) c.execute.result c.execute.ensures.outcome _ c.in-Err-Gate.row _
      (c.in-Err-Gate.is ∙ ap Err c.in-Err-Gate.field-0-is),
  c.name_at.ensures ∙ ap (λ (s : SetContents). name_at s.tasks c.in-Err-Gate.row.leaf) c.set.ensures.value,
)

pub returns-in-Err-Gate-clause-back : goal.returns-in-Err-Gate-clause-back
returns-in-Err-Gate-clause-back g c = back_by _ _ _ _ _ _ c.args.plan.now c.args.window _ _ _ _ c.execute.result c.execute.ensures.outcome

pub returns-in-Err-Job-clause-stops : goal.returns-in-Err-Job-clause-stops
returns-in-Err-Job-clause-stops g c = (
  job_by _ _ _ _ _ _ c.args.plan.now c.args.window _ _ _ _ c.know_lawful.ensures.lawful c.requires.ready
      (c.table_law.ensures.lanes c.args.plan.now c.know_lawful.ensures.lawful) c.execute.result c.execute.ensures.outcome _ _ c.in-Err-Job.row _
      (c.in-Err-Job.is ∙ ap Err c.in-Err-Job.field-0-is),
  c.name_at-in-Err-Job.ensures ∙ ap (λ (s : SetContents). name_at s.tasks c.in-Err-Job.row.leaf) c.set-in-Err-Job.ensures.value,
)

pub returns-in-Err-Job-clause-back : goal.returns-in-Err-Job-clause-back
returns-in-Err-Job-clause-back g c = back_by _ _ _ _ _ _ c.args.plan.now c.args.window _ _ _ _ c.execute.result c.execute.ensures.outcome

pub returns-in-Err-NoMemory-clause-back : goal.returns-in-Err-NoMemory-clause-back
returns-in-Err-NoMemory-clause-back g c = back_by _ _ _ _ _ _ c.args.plan.now c.args.window _ _ _ _ c.execute.result c.execute.ensures.outcome

pub execute-requires-clause-executable : goal.execute-requires-clause-executable
execute-requires-clause-executable g c κs within = c.requires.executable

pub returns-in-Ok-clause-lanes : goal.returns-in-Ok-clause-lanes
returns-in-Ok-clause-lanes g c =
    rows_by _ _ _ _ _ _ c.args.plan.now c.args.window _ _ _ _ c.know_lawful.ensures.lawful c.requires.ready
    (c.table_law.ensures.lanes c.args.plan.now c.know_lawful.ensures.lawful) c.execute.result c.execute.ensures.outcome c.in-Ok.executed c.in-Ok.is

pub returns-in-Ok-clause-totals : goal.returns-in-Ok-clause-totals
returns-in-Ok-clause-totals g c =
    totals_by _ _ _ _ _ _ c.args.plan.now c.args.window _ _ _ _ c.know_lawful.ensures.lawful c.requires.ready
    (c.table_law.ensures.lanes c.args.plan.now c.know_lawful.ensures.lawful) c.execute.result c.execute.ensures.outcome c.in-Ok.executed c.in-Ok.is

pub returns-in-Err-Gate-clause-uncalled : goal.returns-in-Err-Gate-clause-uncalled
returns-in-Err-Gate-clause-uncalled g c = λ quiet. untrue (sym quiet)

pub returns-in-Err-Job-clause-uncalled : goal.returns-in-Err-Job-clause-uncalled
returns-in-Err-Job-clause-uncalled g c = λ quiet. untrue (sym quiet)

pub returns-in-Err-NoMemory-clause-uncalled : goal.returns-in-Err-NoMemory-clause-uncalled
returns-in-Err-NoMemory-clause-uncalled g c = λ quiet.
    left_by _ _ _ _ _ _ c.args.plan.now c.args.window _ _ _ _ c.know_lawful.ensures.lawful c.requires.ready
    (c.table_law.ensures.lanes c.args.plan.now c.know_lawful.ensures.lawful) c.execute.result c.execute.ensures.outcome (c.in-Err-NoMemory.is
    ∙ ap Err c.in-Err-NoMemory.field-0-is)
