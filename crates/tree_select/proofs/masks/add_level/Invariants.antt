use Rattle.tree_select.proofs.MaskLemmas.{AreGrown}
use Rattle.tree_select.proofs.masks.add_level.Given as goal

abbrev pub invariant-loop-word : goal.invariant-loop-word
invariant-loop-word l = AreGrown l.tree l.fn.groups.items l.groups.items l.level l.word
