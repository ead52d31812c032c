use Rattle.rate_scale.proofs.ScaleLemmas.{some_scale, same_scale}
use Rattle.rate_scale.proofs.scales.scale_law.Goals as goal

pub returns-clause-some : goal.returns-clause-some
returns-clause-some c = some_scale

pub returns-clause-same : goal.returns-clause-same
returns-clause-same c = same_scale
