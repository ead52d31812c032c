use Rattle.trace_check.proofs.MergedLemmas.{merged_valid}
use Rattle.trace_check.proofs.laws.merged_law.Goals as goal

pub returns : goal.returns
returns c = merged_valid
