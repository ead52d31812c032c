use Rattle.tree_select.proofs.MaskLemmas.{AreBitsBelow}
use Rattle.tree_select.proofs.masks.mask_of.Given as goal

abbrev pub invariant-loop-k : goal.invariant-loop-k
invariant-loop-k l = AreBitsBelow l.tree l.level l.word l.k l.mask
