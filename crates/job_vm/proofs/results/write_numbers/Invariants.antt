use Rattle.std.proofs.Common.{◌≤◌, ◌∷◌, take}
use Rattle.std.specs.Prelude.{decimal}
use Rattle.std.specs.List.{flat_map}
use Rattle.std.specs.Io.KnownBytes.{Appends}
use Rattle.job_vm.proofs.results.write_numbers.Given as goal

abbrev pub invariant-loop-number : goal.invariant-loop-number
invariant-loop-number g l =
    Appends (g.W.Sink.taken l.fn.out) (g.W.Sink.taken l.out) (flat_map (λ n. 32 ∷ decimal n) (take l.number-index l.numbers))
    × (g.W.Sink.faults l.fn.out ≤ g.W.Sink.faults l.out)
