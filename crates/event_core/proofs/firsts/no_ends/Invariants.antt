use Rattle.std.proofs.Common.{◌≡◌, ◌<◌, ◌≤◌, ℕ, [], get_or, length, replicate}
use Rattle.std.specs.Vec.{vec_capacity}
use Rattle.run_tree.specs.Tree.{IsPack, members}
use Rattle.knockout.specs.Knockouts.{never}
use Rattle.event_core.proofs.firsts.no_ends.Given as goal

abbrev pub invariant-loop-x : goal.invariant-loop-x
invariant-loop-x l = (length l.ready.items ≡ l.x) × (length l.plan.tree.nodes ≤ vec_capacity l.ready) × ((p : ℕ) → p < l.x → IsPack l.plan.tree p →
    get_or l.ready.items p [] ≡ replicate (length (members l.plan.tree p)) never)
