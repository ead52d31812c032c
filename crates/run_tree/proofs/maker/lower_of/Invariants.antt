use Rattle.std.proofs.Common.{◌≡◌, filter, nat_lt, take}
use Rattle.run_tree.specs.Growth.{node_in}
use Rattle.run_tree.proofs.maker.lower_of.Given as goal

abbrev pub invariant-loop-pack : goal.invariant-loop-pack
invariant-loop-pack l = l.found.items ≡ filter (λ p. nat_lt (node_in l.nodes p).rate l.scale) (take l.pack-index l.packs)
