use Rattle.std.proofs.Common.{◌<◌, length, sym, subst}
use Rattle.sched_base.specs.Limits.{task_limit}
use Rattle.sched_base.specs.Sets.{SetContents, IsFree}
use Rattle.sched_base.proofs.SetLemmas.{IsLawful-push}
use Rattle.sched_base.proofs.sets.TaskSet.add_late.Goals as goal

pub invariant_of-self-2 : goal.invariant_of-self-2
invariant_of-self-2 c =
    let seen : SetContents = record { processors = c.self.inside.processors; horizon = c.self.inside.horizon; tasks = c.self.inside.tasks.items } in
    let room : length seen.tasks < task_limit = subst (λ (s : SetContents). length s.tasks < task_limit) (sym c.self.view_is) c.requires.room in
    let free : IsFree c.args.name.now seen.tasks = subst (λ (s : SetContents). IsFree c.args.name.now s.tasks) (sym c.self.view_is) c.requires.free in
    rw c.in_ok-push.ensures.items (IsLawful-push seen
    (record { name = c.new.result; work = c.args.work; period = c.args.period; offset = c.args.offset })
    c.self.invariant room
    (record {
      name = rw c.new.ensures c.requires.lawful;
      some_work = c.requires.some_work;
      work_fits = c.requires.work_fits;
      period_fits =
          c.requires.period_fits;
      offset_fits = c.requires.offset_fits;
    })
    (rw c.new.ensures free))
