use Rattle.tree_select.specs.Masks.{ArePlacesOf}
use Rattle.tree_select.proofs.masks.places_of.Given as goal

abbrev pub invariant-loop-level : goal.invariant-loop-level
invariant-loop-level l = ArePlacesOf l.tree l.places.items l.level
