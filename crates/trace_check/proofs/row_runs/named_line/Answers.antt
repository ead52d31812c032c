use Rattle.trace_check.proofs.RunLemmas.{line_up_to}
use Rattle.trace_check.proofs.row_runs.named_line.Goals as goal

pub returns-clause-line : goal.returns-clause-line
returns-clause-line c = line_up_to c.args.text.now c.place_guessed-count.result c.if-count-text.true c.if-text-count-eq10.true c.in-Some.ensures.line
