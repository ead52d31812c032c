use Rattle.std.proofs.Common.{◌≡◌, drop}
use Rattle.std.specs.List.{find}
use Rattle.job_vm.proofs.SearchLemmas.{is_stray}
use Rattle.job_vm.proofs.strays.first_stray.Given as goal

abbrev pub invariant-loop-program : goal.invariant-loop-program
invariant-loop-program l =
    find (is_stray l.set.tasks) l.text.programs ≡ find (is_stray l.set.tasks) (drop l.program-index l.text.programs)
