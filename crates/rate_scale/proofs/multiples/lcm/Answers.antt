use Rattle.rate_scale.proofs.MultipleLemmas.{IsLcm-from_gcd, some_gcd_is, some_lcm_is}
use Rattle.rate_scale.proofs.multiples.lcm.Goals as goal

pub nonzero_div-result : goal.nonzero_div-result
nonzero_div-result c = some_gcd_is c.args.scale c.args.period c.gcd.result c.requires.some_scale c.gcd.ensures

pub returns-clause-value : goal.returns-clause-value
returns-clause-value c = IsLcm-from_gcd c.args.scale c.args.period c.gcd.result c.requires.some_scale c.requires.some_period c.gcd.ensures

pub returns-clause-some : goal.returns-clause-some
returns-clause-some c = some_lcm_is c.args.scale c.args.period c.gcd.result c.requires.some_scale c.requires.some_period c.gcd.ensures
