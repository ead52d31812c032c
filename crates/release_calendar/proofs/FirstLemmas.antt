-- The first windows of a plan's nodes, and the first end of a leaf's.
use Rattle.std.proofs.Common.{◌≡◌, ℕ, zero, suc, ◌+◌, ◌*◌, ◌<◌, ◌≤◌, min, true, false, List, length, replicate, get_or, inl, inr, ap, sym, ◌∙◌, arith}
use Rattle.std.proofs.Math.Nat.{le-mul_of_pos_right, le_trans}
use Rattle.std.proofs.lemmas.Bool.{cases_lt, cases_eq, both_ways}
use Rattle.std.proofs.lemmas.List.{get_or-replicate, get_or_past, length-replicate}
use Rattle.sched_base.specs.Counting.{sum_to}
use Rattle.run_tree.specs.Tree.{Tree, is_leaf, kind_at}
use Rattle.run_tree.specs.Plans.{PlanContents, IsPlan}
use Rattle.release_calendar.specs.Calendars.{EndsFit, IsFirstEnd}

some_summed : (n : ℕ) (value : ℕ → ℕ) (k s : ℕ) → 1 ≤ k → 0 < s → sum_to n value ≡ k * s → 1 ≤ n
some_summed zero value k s some scaled total = absurd (let most = le_trans some (le-mul_of_pos_right k scaled) in omega (arith, most, total))
some_summed (suc n) value k s some scaled total = omega arith

-- a plan has nodes
pub some_nodes : (p : PlanContents) → IsPlan p → 1 ≤ length p.tree.nodes
some_nodes p h = some_summed (length p.tree.nodes) _ p.tree.processors p.tree.scale h.sized.some_processors h.tree.tree.scaled h.tree.tree.total

-- ends at unit 0 fit
pub zeros_fit : (n : ℕ) (ends : List ℕ) → ends ≡ replicate n 0 → EndsFit ends
zeros_fit n ends zeros x =
    let at : get_or ends x 0 ≡ get_or (replicate n 0) x 0 = ap (λ (xs : List ℕ). get_or xs x 0) zeros in
    let none : get_or (replicate n 0) x 0 ≡ zero = elim (cases_lt x n) [
      | inl within ↦ get_or-replicate n x 0 0 within
      | inr past ↦ get_or_past (replicate n 0) x 0 (rw length-replicate past)
    ] in
    omega (arith, at, none)

-- one leaf more
pub first_next : (t : Tree) (ends : List ℕ) (x d : ℕ) → x < length t.nodes → is_leaf (kind_at t x) ≡ true → IsFirstEnd t ends x d →
    IsFirstEnd t ends (x + 1) (min d (get_or ends x 0))
first_next t ends x d within leaf first = record {
  below = (let most = first.below in omega (arith, most));
  all = λ y b i. elim (cases_eq y x) [
    | inl same ↦ (let at = ap (λ (z : ℕ). get_or ends z 0) same in omega (arith, at))
    | inr other ↦ (let least = first.all y (omega (arith, b, other)) i in omega (arith, least))
  ];
  one = elim (cases_lt d (get_or ends x 0)) [
    | inl less ↦ (let same : min d (get_or ends x 0) ≡ d = omega (arith, less) in rw same first.one)
    | inr most ↦ inr (x, (within, leaf), omega (arith, most))
  ];
}

-- a node that is no leaf leaves the first end
pub first_kept : (t : Tree) (ends : List ℕ) (x d : ℕ) → is_leaf (kind_at t x) ≡ false → IsFirstEnd t ends x d → IsFirstEnd t ends (x + 1) d
first_kept t ends x d off first = record {
  below = first.below;
  all = λ y b i. elim (cases_eq y x) [
    | inl same ↦ absurd (both_ways (is_leaf (kind_at t x)) off (ap (λ (z : ℕ). is_leaf (kind_at t z)) (sym same) ∙ i.1))
    | inr other ↦ first.all y (omega (arith, b, other)) i
  ];
  one = first.one;
}
