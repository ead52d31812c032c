use Rattle.std.proofs.Common.{◌≡◌, get_or, map, take}
use Rattle.run_tree.proofs.maker.named_of.Given as goal

abbrev pub invariant-loop-place : goal.invariant-loop-place
invariant-loop-place l = l.named.items ≡ map (λ i. get_or l.packs i 0) (take l.place-index l.order)
