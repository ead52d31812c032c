use Rattle.std.proofs.Common.{◌≡◌, ◌<◌, ℕ, false, get_or}
use Rattle.run_tree.specs.Tree.{kind_at, is_pack}
use Rattle.event_core.proofs.firsts.rest_members.Given as goal

abbrev pub invariant-loop-x : goal.invariant-loop-x
invariant-loop-x l = (y : ℕ) → y < l.x → get_or l.runs y false ≡ is_pack (kind_at l.plan.tree y)
