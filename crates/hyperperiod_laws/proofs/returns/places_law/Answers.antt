use Rattle.hyperperiod_laws.proofs.RoundTrees.{round_goes_on}
use Rattle.hyperperiod_laws.proofs.returns.places_law.Goals as goal

pub returns : goal.returns
returns c = round_goes_on
