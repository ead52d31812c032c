use Rattle.std.proofs.Common.{arith}
use Rattle.tree_select.proofs.refreshed.set_member.Goals as goal

pub bounds-runs-m : goal.bounds-runs-m
bounds-runs-m c = let b = c.requires.member.0 in let long = c.requires.runs in omega (arith, b, long)

pub turn-requires-clause-tree : goal.turn-requires-clause-tree
turn-requires-clause-tree c = c.requires.tree

pub turn-requires-clause-member : goal.turn-requires-clause-member
turn-requires-clause-member c = c.requires.member

pub turn-requires-clause-stale : goal.turn-requires-clause-stale
turn-requires-clause-stale c = c.requires.stale

pub turn-requires-clause-runs : goal.turn-requires-clause-runs
turn-requires-clause-runs c = c.requires.runs

pub returns-then-runs-m : goal.returns-then-runs-m
returns-then-runs-m c = c.turn.ensures
