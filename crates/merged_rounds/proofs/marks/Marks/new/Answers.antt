use Rattle.merged_rounds.proofs.WordLemmas.{length-marks}
use Rattle.merged_rounds.proofs.marks.Marks.new.Goals as goal

pub returns : goal.returns
returns c = length-marks _ _
