use Rattle.std.proofs.Common.{refl, sym, ◌<◌, ap, subst, take, length, arith}
use Rattle.sched_base.specs.Sets.{SetContents}
use Rattle.pure_commands.specs.declared.refusal.Refusal.{Refusal}
use Rattle.pure_commands.specs.Refusals.{status_of}
use Rattle.exec_lanes.proofs.ErrorLemmas.{untrue}
use Rattle.run_tool.specs.Executed.{may_have_called}
use Rattle.run_tool.proofs.CrewEndLemmas.{jobs_fresh}
use Rattle.run_tool.proofs.LoadedLemmas.{ready_at, back_at, back_by_run, crew_left, jobs_there}
use Rattle.run_tool.proofs.JobRunLemmas.{count_stops, loading_stops, running_stops, loaded_is, loaded_part, jobs_called, jobs_ran, jobs_unwritten}
use Rattle.run_tool.proofs.PartLemmas.{stops_first, stops_with, ends_written}
use Rattle.run_tool.proofs.jobs.load_and_run.Goals as goal

pub returns-in_err-rounds : goal.returns-in_err-rounds
returns-in_err-rounds g c =
    stops_first _ _ c.from_residual.ensures.1
    (count_stops c.args.text.now c.args.plan.now.set c.args.plan.now refl c.requires.tree _ _ _ _ c.requires.run c.in_err-rounds.ensures.fault)

pub load_programs-requires-clause-jobs : goal.load_programs-requires-clause-jobs
load_programs-requires-clause-jobs g c = λ i within.
    let inside = subst (λ (s : SetContents). i < length s.tasks) c.set.ensures.value within in
    let fresh = jobs_fresh _ _ _ _ _ _ _ _ c.requires.ready _ c.scale.ensures.lawful.lawful.few_tasks i inside in
    (fresh.0, fresh.1)

pub returns-in_err-load_programs : goal.returns-in_err-load_programs
returns-in_err-load_programs g c =
    let begun = c.in_err-load_programs.ensures.begun in
    let held =
    loaded_part c.args.text.now c.args.plan.now.set c.args.plan.now refl c.requires.tree _ _ _ _ begun.0 c.set.result.now
    c.scale.ensures.value c.set.ensures.value begun.2 in
    stops_with _ _ c.from_residual-in_err-load_programs.ensures.1
    (loading_stops c.args.text.now (g.W.Sink.taken c.args.out.now) (g.W.Sink.faults c.args.out.now) c.args.plan.now.tree.scale begun.0 _ _
    c.args.plan.now.set c.requires.run held)
    (λ quiet. untrue (sym quiet))
    (back_at c.args.text.now c.args.plan.now.tree.scale (take begun.0 c.args.plan.now.set.tasks) _ _ held)

pub run_plan-requires-clause-executable : goal.run_plan-requires-clause-executable
run_plan-requires-clause-executable g c κs within = record {
  compiled = c.requires.tree;
  rounds = c.in_ok-rounds.ensures.count.0;
  few = c.in_ok-rounds.ensures.count.1;
  some_window = omega arith;
  small_window = omega arith;
}

pub run_plan-requires-clause-ready : goal.run_plan-requires-clause-ready
run_plan-requires-clause-ready g c κs within =
    ready_at c.args.text.now c.args.plan.now.tree.scale c.args.plan.now.set.tasks _ _
    (loaded_is c.args.text.now c.args.plan.now.set c.args.plan.now refl c.requires.tree _ _ _ _ c.set.result.now
    c.scale.ensures.value c.set.ensures.value c.in_ok-load_programs.ensures.loaded) c.requires.ready

pub returns-in_err-run_plan : goal.returns-in_err-run_plan
returns-in_err-run_plan g c =
    let held =
    loaded_is c.args.text.now c.args.plan.now.set c.args.plan.now refl c.requires.tree _ _ _ _ c.set.result.now
    c.scale.ensures.value c.set.ensures.value c.in_ok-load_programs.ensures.loaded in
    stops_with _ _ c.from_residual-in_err-run_plan.ensures.1
    (running_stops c.args.text.now c.args.plan.now.set c.args.plan.now refl c.requires.tree _ _ c.in_ok-rounds.rounds _ _ _ _
    c.requires.run c.in_ok-rounds.ensures.count.0 c.in_ok-rounds.ensures.count.1 held c.in_err-run_plan.ensures.stops
    (λ e. crew_left _ _ _ _ _ _ _ _ _ _ (c.in_err-run_plan.ensures.uncalled (ap (λ (x : Refusal). may_have_called (status_of x)) e))))
    (jobs_called c.args.plan.now _ _ _ c.in_err-run_plan.ensures.stops)
    (back_by_run c.args.text.now c.args.plan.now.tree.scale c.args.plan.now.set.tasks _ _ _ held c.in_err-run_plan.ensures.back)

pub write_jobs-requires-clause-jobs : goal.write_jobs-requires-clause-jobs
write_jobs-requires-clause-jobs g c = λ i within.
    jobs_there _ _ _ _ _ _ _
    (ready_at c.args.text.now c.args.plan.now.tree.scale c.args.plan.now.set.tasks _ _
    (loaded_is c.args.text.now c.args.plan.now.set c.args.plan.now refl c.requires.tree _ _ _ _ c.set.result.now
    c.scale.ensures.value c.set.ensures.value c.in_ok-load_programs.ensures.loaded) c.requires.ready)
    c.in_ok-run_plan.ensures.back _ c.scale-2.ensures.lawful.lawful.few_tasks i
    (subst (λ (s : SetContents). i < length s.tasks) c.set-2.ensures.value within)

pub returns : goal.returns
returns g c =
    let held =
    loaded_is c.args.text.now c.args.plan.now.set c.args.plan.now refl c.requires.tree _ _ _ _ c.set.result.now
    c.scale.ensures.value c.set.ensures.value c.in_ok-load_programs.ensures.loaded in
    rw c.write_jobs.ensures.same
    (ends_written c.write_jobs.result c.written.result _ _ _ c.written.ensures c.write_jobs.ensures.wrote.ok c.write_jobs.ensures.wrote.err
    c.write_jobs.ensures.cause.failed refl
    (jobs_ran c.args.text.now c.args.plan.now.set c.args.plan.now refl c.requires.tree _ _ c.in_ok-rounds.rounds _ _ _
    c.scale-2.result c.set-2.result.now c.requires.run c.in_ok-rounds.ensures.count.0 c.in_ok-rounds.ensures.count.1
    c.scale-2.ensures.value c.set-2.ensures.value c.scale.ensures.lawful.lawful.few_tasks c.requires.ready held c.in_ok-run_plan.ensures.ran)
    (jobs_unwritten c.args.text.now c.args.plan.now.set c.args.plan.now refl c.requires.tree _ _ _ _ c.in_ok-rounds.rounds _ _ _
    c.scale-2.result c.set-2.result.now c.requires.run c.in_ok-rounds.ensures.count.0 c.in_ok-rounds.ensures.count.1
    c.scale-2.ensures.value c.set-2.ensures.value c.scale.ensures.lawful.lawful.few_tasks c.requires.ready held c.in_ok-run_plan.ensures.ran)
    (back_by_run c.args.text.now c.args.plan.now.tree.scale c.args.plan.now.set.tasks _ _ _ held c.in_ok-run_plan.ensures.back))
