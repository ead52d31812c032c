use Rattle.std.proofs.Common.{◌≡◌, ◌≤◌}
use Rattle.tree_text.proofs.SearchLemmas.{idles_before}
use Rattle.tree_text.proofs.idles.count_idles.Given as goal

abbrev pub invariant-loop-n : goal.invariant-loop-n
invariant-loop-n l = (l.count ≡ idles_before l.tree l.n) × (l.count ≤ l.n)
