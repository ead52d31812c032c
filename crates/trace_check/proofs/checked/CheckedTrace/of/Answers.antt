use Rattle.trace_check.proofs.checked.CheckedTrace.of.Goals as goal

pub invariant_of-result : goal.invariant_of-result
invariant_of-result c = record { trace = c.requires.trace; told = c.requires.told; all = c.requires.all; judged = c.requires.verdict }
