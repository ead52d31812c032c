use Rattle.std.proofs.Common.{◌≡◌, drop}
use Rattle.std.specs.List.{find}
use Rattle.std.specs.Str.{bytes_eq}
use Rattle.job_vm.specs.Programs.{Program}
use Rattle.job_vm.proofs.loading.code_of.Given as goal

abbrev pub invariant-loop-program : goal.invariant-loop-program
invariant-loop-program l =
    find (λ (p : Program). bytes_eq p.name l.name) l.text.programs
    ≡ find (λ (p : Program). bytes_eq p.name l.name) (drop l.program-index l.text.programs)
