use Rattle.std.proofs.Common.{Err, ap, ◌∙◌, arith}
use Rattle.std.proofs.lemmas.Option.{slice_get_within}
use Rattle.run_tool.proofs.ModeRunLemmas.{ready_staffed, filled_by, own_jobs, ran_by, gate_by, job_by, memory_by, back_at, plans_lawful, names_one, name_of}
use Rattle.run_tool.proofs.modes.run_all.Goals as goal

pub run_modes-requires-clause-kits : goal.run_modes-requires-clause-kits
run_modes-requires-clause-kits g c κs within =
    filled_by g.G.Gate _ c.table_law.ensures.lanes (record { kits = c.args.kits.now.items; places = c.args.jobs.now.places })
    c.args.modes.now.processors c.count-are_modes.ensures.lawful.few_processors (ready_staffed _ c.requires.ready)

pub run_modes-requires-clause-jobs : goal.run_modes-requires-clause-jobs
run_modes-requires-clause-jobs g c κs within =
    own_jobs g.G.Gate _ c.table_law.ensures.lanes (record { kits = c.args.kits.now.items; places = c.args.jobs.now.places })
    c.args.modes.now.modes (plans_lawful _ _ c.count-are_modes.ensures.lawful.each) (ready_staffed _ c.requires.ready)

pub plan-requires : goal.plan-requires
plan-requires g c =
    let failed =
    gate_by g.G.Gate _ c.table_law.ensures.lanes c.args.modes.now.modes (plans_lawful _ _ c.count-are_modes.ensures.lawful.each)
    (record { kits = c.args.kits.now.items; places = c.args.jobs.now.places }) _ c.requires.ready c.run_modes.result
    c.run_modes.ensures.outcome c.in-Err-Gate.mode _ c.in-Err-Gate.row (c.in-Err-Gate.is ∙ ap Err c.in-Err-Gate.field-0-is) in
    slice_get_within c.args.modes.now.modes c.in-Err-Gate.mode failed.mode failed.at

pub name_at-requires : goal.name_at-requires
name_at-requires g c =
    let failed =
    gate_by g.G.Gate _ c.table_law.ensures.lanes c.args.modes.now.modes (plans_lawful _ _ c.count-are_modes.ensures.lawful.each)
    (record { kits = c.args.kits.now.items; places = c.args.jobs.now.places }) _ c.requires.ready c.run_modes.result
    c.run_modes.ensures.outcome c.in-Err-Gate.mode _ c.in-Err-Gate.row (c.in-Err-Gate.is ∙ ap Err c.in-Err-Gate.field-0-is) in
    names_one c.args.modes.now.modes c.in-Err-Gate.mode failed.mode c.plan.result.now c.set.result.now c.in-Err-Gate.row.leaf
    failed.at c.plan.ensures.value c.set.ensures.value failed.named

pub plan-requires-in-Err-Job : goal.plan-requires-in-Err-Job
plan-requires-in-Err-Job g c =
    let failed =
    job_by g.G.Gate _ c.table_law.ensures.lanes c.args.modes.now.modes (plans_lawful _ _ c.count-are_modes.ensures.lawful.each)
    (record { kits = c.args.kits.now.items; places = c.args.jobs.now.places }) _ c.requires.ready c.run_modes.result
    c.run_modes.ensures.outcome c.in-Err-Job.mode _ _ c.in-Err-Job.row (c.in-Err-Job.is ∙ ap Err c.in-Err-Job.field-0-is) in
    slice_get_within c.args.modes.now.modes c.in-Err-Job.mode failed.mode failed.at

pub name_at-requires-in-Err-Job : goal.name_at-requires-in-Err-Job
name_at-requires-in-Err-Job g c =
    let failed =
    job_by g.G.Gate _ c.table_law.ensures.lanes c.args.modes.now.modes (plans_lawful _ _ c.count-are_modes.ensures.lawful.each)
    (record { kits = c.args.kits.now.items; places = c.args.jobs.now.places }) _ c.requires.ready c.run_modes.result
    c.run_modes.ensures.outcome c.in-Err-Job.mode _ _ c.in-Err-Job.row (c.in-Err-Job.is ∙ ap Err c.in-Err-Job.field-0-is) in
    names_one c.args.modes.now.modes c.in-Err-Job.mode failed.mode c.plan-in-Err-Job.result.now c.set-in-Err-Job.result.now c.in-Err-Job.row.leaf
    failed.at c.plan-in-Err-Job.ensures.value c.set-in-Err-Job.ensures.value failed.named

pub returns-in-Ok-clause-ran : goal.returns-in-Ok-clause-ran
returns-in-Ok-clause-ran g c =
    ran_by g.G.Gate _ c.table_law.ensures.lanes c.args.modes.now.modes (plans_lawful _ _ c.count-are_modes.ensures.lawful.each)
    (record { kits = c.args.kits.now.items; places = c.args.jobs.now.places }) _ c.requires.ready c.run_modes.result
    c.run_modes.ensures.outcome c.in-Ok.run' c.in-Ok.is

pub returns-in-Ok-clause-back : goal.returns-in-Ok-clause-back
returns-in-Ok-clause-back g c = back_at g.G.Gate _ c.table_law.ensures.lanes _ _ c.run_modes.ensures.back

pub returns-in-Err-Gate-clause-stops : goal.returns-in-Err-Gate-clause-stops
returns-in-Err-Gate-clause-stops g c =
    let failed =
    gate_by g.G.Gate _ c.table_law.ensures.lanes c.args.modes.now.modes (plans_lawful _ _ c.count-are_modes.ensures.lawful.each)
    (record { kits = c.args.kits.now.items; places = c.args.jobs.now.places }) _ c.requires.ready c.run_modes.result
    c.run_modes.ensures.outcome c.in-Err-Gate.mode _ c.in-Err-Gate.row (c.in-Err-Gate.is ∙ ap Err c.in-Err-Gate.field-0-is) in
    failed.stops c.name_at.result
    (name_of c.args.modes.now.modes c.in-Err-Gate.mode failed.mode c.plan.result.now c.set.result.now c.in-Err-Gate.row.leaf
    failed.at c.plan.ensures.value c.set.ensures.value c.name_at.result c.name_at.ensures)

pub returns-in-Err-Gate-clause-back : goal.returns-in-Err-Gate-clause-back
returns-in-Err-Gate-clause-back g c = back_at g.G.Gate _ c.table_law.ensures.lanes _ _ c.run_modes.ensures.back

pub returns-in-Err-Job-clause-stops : goal.returns-in-Err-Job-clause-stops
returns-in-Err-Job-clause-stops g c =
    let failed =
    job_by g.G.Gate _ c.table_law.ensures.lanes c.args.modes.now.modes (plans_lawful _ _ c.count-are_modes.ensures.lawful.each)
    (record { kits = c.args.kits.now.items; places = c.args.jobs.now.places }) _ c.requires.ready c.run_modes.result
    c.run_modes.ensures.outcome c.in-Err-Job.mode _ _ c.in-Err-Job.row (c.in-Err-Job.is ∙ ap Err c.in-Err-Job.field-0-is) in
    failed.stops c.name_at-in-Err-Job.result
    (name_of c.args.modes.now.modes c.in-Err-Job.mode failed.mode c.plan-in-Err-Job.result.now c.set-in-Err-Job.result.now c.in-Err-Job.row.leaf
    failed.at c.plan-in-Err-Job.ensures.value c.set-in-Err-Job.ensures.value c.name_at-in-Err-Job.result c.name_at-in-Err-Job.ensures)

pub returns-in-Err-Job-clause-back : goal.returns-in-Err-Job-clause-back
returns-in-Err-Job-clause-back g c = back_at g.G.Gate _ c.table_law.ensures.lanes _ _ c.run_modes.ensures.back

pub returns-in-Err-NoMemory-clause-stops : goal.returns-in-Err-NoMemory-clause-stops
returns-in-Err-NoMemory-clause-stops g c =
    memory_by g.G.Gate _ c.table_law.ensures.lanes c.args.modes.now.modes (plans_lawful _ _ c.count-are_modes.ensures.lawful.each)
    (record { kits = c.args.kits.now.items; places = c.args.jobs.now.places }) _ c.requires.ready c.run_modes.result
    c.run_modes.ensures.outcome (c.in-Err-NoMemory.is ∙ ap Err c.in-Err-NoMemory.field-0-is)

pub returns-in-Err-NoMemory-clause-back : goal.returns-in-Err-NoMemory-clause-back
returns-in-Err-NoMemory-clause-back g c = back_at g.G.Gate _ c.table_law.ensures.lanes _ _ c.run_modes.ensures.back

pub run_modes-requires-clause-some_window : goal.run_modes-requires-clause-some_window
run_modes-requires-clause-some_window g c κs within = omega arith

pub run_modes-requires-clause-small_window : goal.run_modes-requires-clause-small_window
run_modes-requires-clause-small_window g c κs within = omega arith

pub returns-in-Ok-clause-runs : goal.returns-in-Ok-clause-runs
returns-in-Ok-clause-runs g c = c.in-Ok.ensures.whole
