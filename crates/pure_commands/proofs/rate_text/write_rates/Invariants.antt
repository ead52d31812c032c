use Rattle.std.proofs.Common.{◌≤◌, take}
use Rattle.std.specs.List.{flat_map}
use Rattle.std.specs.Io.KnownBytes.{Appends}
use Rattle.std.specs.Prelude.{codes}
use Rattle.sched_base.specs.Scale.{rate_of}
use Rattle.sched_edges.specs.Lines.{named_line}
use Rattle.pure_commands.proofs.rate_text.write_rates.Given as goal

abbrev pub invariant-loop-task : goal.invariant-loop-task
invariant-loop-task g l =
    Appends (g.W.Sink.taken l.fn.out) (g.W.Sink.taken l.out)
    (flat_map (λ t. named_line (codes "rate") t.name (rate_of l.scale t)) (take l.task-index l.task-items))
    × (g.W.Sink.faults l.fn.out ≤ g.W.Sink.faults l.out)
