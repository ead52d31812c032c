use Rattle.std.proofs.Common.{subst}
use Rattle.std.specs.Prelude.{OnOk, IfErr}
use Rattle.sched_base.specs.Sets.{SetContents}
use Rattle.pure_commands.specs.Commands.{schedule_rows}
use Rattle.pure_commands.specs.Input.{WroteSet, StopsAtSet}
use Rattle.pure_commands.proofs.trace.write_set.Goals as goal

pub returns-clause-done : goal.returns-clause-done
returns-clause-done g c =
    let out = c.args.out.now in
    subst (λ (s : SetContents). OnOk c.write_plan.result (WroteSet (schedule_rows c.args.met) (g.W.Sink.taken out) (g.W.Sink.taken c.write_plan.new.out) s))
    c.in_ok-plan.ensures.set c.write_plan.ensures.done

pub returns-clause-stops : goal.returns-clause-stops
returns-clause-stops g c =
    let out = c.args.out.now in
    let new = c.write_plan.new.out in
    subst (λ (s : SetContents). IfErr c.write_plan.result
    (StopsAtSet (schedule_rows c.args.met) (g.W.Sink.taken out) (g.W.Sink.taken new) (g.W.Sink.faults out) (g.W.Sink.faults new) s))
    c.in_ok-plan.ensures.set c.write_plan.ensures.stops
