use Rattle.server_budget.proofs.LeftLemmas.{left_after}
use Rattle.server_budget.proofs.laws.spend_law.Goals as goal

pub returns : goal.returns
returns c = λ p h n ticks running before after left says spent x i none. left_after p h n ticks running before after left says spent x i none
