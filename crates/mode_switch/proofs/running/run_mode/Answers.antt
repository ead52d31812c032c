use Rattle.std.proofs.Common.{refl, subst, length, ◌<◌}
use Rattle.sched_base.specs.Sets.{SetContents}
use Rattle.mode_switch.proofs.CrewHeldLemmas.{fresh_at}
use Rattle.mode_switch.proofs.running.run_mode.Goals as goal

pub begin_anew-requires : goal.begin_anew-requires
begin_anew-requires g c = λ t within.
    let job = c.requires.jobs t (subst (λ (s : SetContents). t < length s.tasks) c.set.ensures.value within) in
    (job.0, job.1)

pub execute_on-requires-clause-jobs : goal.execute_on-requires-clause-jobs
execute_on-requires-clause-jobs g c κs within =
    fresh_at _ _ _ _ c.args.plan.now.set.tasks c.args.jobs.now.places c.begin_anew.new.jobs.places (rw c.set.ensures.value at c.begin_anew.ensures)
    c.requires.jobs

pub returns : goal.returns
returns g c = record {
  begun = record { kits = c.args.kits.now.items; places = c.begin_anew.new.jobs.places };
  begins = record { gates = refl; jobs = rw c.set.ensures.value at c.begin_anew.ensures };
  outcome = c.execute_on.ensures.outcome;
}
