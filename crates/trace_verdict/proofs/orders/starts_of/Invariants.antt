use Rattle.trace_verdict.proofs.StartLemmas.{Started}
use Rattle.trace_verdict.proofs.orders.starts_of.Given as goal

abbrev pub invariant-loop-key : goal.invariant-loop-key
invariant-loop-key l = Started l.key l.at l.starts.items l.entries
