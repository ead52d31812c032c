use Rattle.std.proofs.Common.{◌≡◌, ℕ, ◌<◌, ◌≤◌, ◌-◌, None, get_or}
use Rattle.round_looks.specs.Looks.{IsLooked, IsNodeOn}
use Rattle.round_looks.proofs.look_each.Given as goal

abbrev pub invariant-others : goal.invariant-others
invariant-others l = record {
  done : (k : ℕ) → k < l.other.0 → IsLooked l.plan l.start l.core.tick k (get_or l.fn.kept k None) (get_or l.kept k None) (get_or l.told k None);
  left : (k : ℕ) → l.other.0 ≤ k → get_or l.kept k None ≡ get_or l.fn.kept k None;
  untold : (k : ℕ) → l.other.0 ≤ k → get_or l.told k None ≡ None;
  within : l.other.0 ≤ l.plan.tree.processors;
  node : l.other.0 < l.plan.tree.processors → IsNodeOn l.plan l.start l.core.tick l.other.0 l.other.1;
}

abbrev pub decreases-others : goal.decreases-others
decreases-others l = l.count - l.other.0
