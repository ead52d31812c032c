use Rattle.trace_check.proofs.RunLemmas.{name_lacks}
use Rattle.trace_check.proofs.row_runs.guessed_leaf.Goals as goal

pub returns-in-Some-clause-line : goal.returns-in-Some-clause-line
returns-in-Some-clause-line c = name_lacks c.args.name.now c.in-Some.ensures.lawful
