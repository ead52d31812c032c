use Rattle.std.proofs.Common.{◌≡◌, ◌+◌, ◌-◌, ◌≤◌, length}
use Rattle.text_words.specs.Words.{lines_of}
use Rattle.job_vm.specs.Programs.{programs_from, programs_of, behind_lines}
use Rattle.job_vm.proofs.job_text.read_jobs.Given as goal

abbrev pub invariant-loop-rest : goal.invariant-loop-rest
invariant-loop-rest l =
    (programs_of (lines_of l.bytes) ≡ programs_from l.at (record { programs = l.programs; count = l.count }) (lines_of l.rest))
    × (l.rest ≡ behind_lines (l.at - 1) l.bytes)
    × (2 ≤ l.at)
    × (l.at + length l.rest ≤ length l.bytes + 1)

abbrev pub decreases-loop-rest : goal.decreases-loop-rest
decreases-loop-rest l = length l.rest
