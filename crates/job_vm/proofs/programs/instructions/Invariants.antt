use Rattle.std.proofs.Common.{◌≡◌, ◌+◌, ◌≤◌, length}
use Rattle.text_words.specs.Words.{lines_of}
use Rattle.job_vm.specs.Programs.{instructions}
use Rattle.job_vm.proofs.programs.instructions.Given as goal

abbrev pub invariant-loop-rest : goal.invariant-loop-rest
invariant-loop-rest l = (instructions (lines_of l.text) ≡ l.count + instructions (lines_of l.rest)) × (l.count + length l.rest ≤ length l.text)

abbrev pub decreases-loop-rest : goal.decreases-loop-rest
decreases-loop-rest l = length l.rest
