-- The packs of level 0.
use Rattle.std.proofs.Common.{◌*◌, ◌<◌, ◌≤◌, length, ap, arith, inl, inr, mul-le-mul_right}
use Rattle.sched_base.specs.Counting.{bit}
use Rattle.sched_base.proofs.CountingLemmas.{bit_off, find_below}
use Rattle.sched_base.proofs.SumLemmas.{sum_to-zero}
use Rattle.run_tree.specs.Tree.{IsTree, Tree, is_leaf, kind_at, rate}
use Rattle.run_tree.proofs.KindLemmas.{not_pack_leaf}

-- there is such a level
pub some_level : (t : Tree) → IsTree t → 1 ≤ t.processors → 0 < t.levels
some_level t h some =
    elim (find_below (length t.nodes) (λ x. is_leaf (kind_at t x))) [
      | inl found ↦ (let (x, l, on) = found in let up = h.leveled _ (h.homes_are x (l, not_pack_leaf (kind_at t x) on)).0 in omega (arith, up))
      | inr none ↦ absurd (
          let z = sum_to-zero (length t.nodes) (λ x. bit (is_leaf (kind_at t x)) * rate t x)
          (λ x l. (let b = bit_off (is_leaf (kind_at t x)) (none x l) in let e = ap (λ n. n * rate t x) b in omega (arith, e))) in
          let all = h.total in
          let pos = h.scaled in
          let m = mul-le-mul_right t.scale some in
          omega (arith, z, all, pos, m))
    ]
