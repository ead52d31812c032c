use Rattle.std.proofs.Common.{◌≡◌, ◌-◌, map, take}
use Rattle.tree_check.specs.Written.{Pack}
use Rattle.tree_check.proofs.rates.lacks.Given as goal

abbrev pub invariant-loop-pack : goal.invariant-loop-pack
invariant-loop-pack l = l.rates.items ≡ map (λ (p : Pack). l.scale - p.rate) (take l.pack-index l.packs)
