use Rattle.std.proofs.Common.{◌≡◌, ◌%◌, arith, ◌∙◌, subst, ap, below_more}
use Rattle.std.specs.Int.{◌∣◌}
use Rattle.std.proofs.lemmas.List.{get_or_default}
use Rattle.std.proofs.lemmas.Nat.Gcd.{dvd_of_mod-eq-zero, mod-eq-zero_of_dvd}
use Rattle.sched_base.specs.declared.sets.Task.{Task}
use Rattle.sched_base.specs.Sets.{no_task, task_at}
use Rattle.repeat_laws.proofs.Repeating.{all_by_number}
use Rattle.repeat_laws.proofs.sets.first_open.Goals as goal

pub returns-then-horizon-task-ne0-clause-some : goal.returns-then-horizon-task-ne0-clause-some
returns-then-horizon-task-ne0-clause-some c =
    let is : c.index-tasks-i.result ≡ task_at c.args.tasks.now c.loop-i.i =
    c.index-tasks-i.is ∙ get_or_default c.args.tasks.now c.loop-i.i c.index-tasks-i.result no_task c.loop-i-test.true in
    record {
      within = c.loop-i-test.true;
      holds = λ divides. c.if-horizon-task-ne0.true
          (ap (λ (t : Task). c.args.horizon % t.period) is ∙ mod-eq-zero_of_dvd (task_at c.args.tasks.now c.loop-i.i).period divides);
      first = λ k below no. no (c.loop-i.invariant k below);
    }

pub loop-i-preserved : goal.loop-i-preserved
loop-i-preserved c =
    let is : c.index-tasks-i.result ≡ task_at c.args.tasks.now c.loop-i.i =
    c.index-tasks-i.is ∙ get_or_default c.args.tasks.now c.loop-i.i c.index-tasks-i.result no_task c.loop-i-test.true in
    below_more (λ k. (task_at c.args.tasks.now k).period ∣ c.args.horizon) c.loop-i.i c.loop-i.invariant
    (subst (λ (t : Task). t.period ∣ c.args.horizon) is (dvd_of_mod-eq-zero c.index-tasks-i.result.period c.if-horizon-task-ne0.false))

pub returns-clause-none : goal.returns-clause-none
returns-clause-none c = all_by_number (λ t. t.period ∣ c.args.horizon) c.args.tasks.now
    (λ k below. let past = c.loop-i-test.false in c.loop-i.invariant k (omega (arith, below, past)))
