use Rattle.plan_rounds.proofs.FrontLemmas.{follows_plan}
use Rattle.plan_rounds.proofs.laws.follows_law.Goals as goal

pub returns : goal.returns
returns c = follows_plan
