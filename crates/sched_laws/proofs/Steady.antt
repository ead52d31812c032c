-- In a tick without an event the same nodes run as in the tick before.
use Rattle.std.proofs.Common.{Bool, ap, ap₂, arith, false, inl, inr, ltb, subst, suc, sym, true, ℕ, ◌%◌, ◌&&◌, ◌*◌, ◌-◌, ◌/◌, ◌<◌, ◌∙◌, ◌≡◌}
use Rattle.std.proofs.lemmas.Bool.{cases_Bool, lt-ltb}
use Rattle.sched_base.specs.declared.rows.Leaf.{Leaf}
use Rattle.sched_base.specs.Counting.{bit, ticks}
use Rattle.sched_base.specs.Candidates.{is_at}
use Rattle.sched_base.proofs.CountingLemmas.{bit_off, ticks-le}
use Rattle.sched_base.proofs.UnitLemmas.{next_unit}
use Rattle.sched_base.proofs.EarliestLemmas.{same_earliest}
use Rattle.run_tree.specs.Windows.{window_begin, window_end}
use Rattle.run_tree.specs.Tree.{IsLeaf, IsMember, IsPack, IsTree, Tree, home, leaf, level, member, members, place, rate}
use Rattle.run_tree.specs.Boundaries.{HaveBoundaries, is_boundary}
use Rattle.run_tree.specs.Runs.{is_picked, runs}
use Rattle.run_tree.proofs.WindowLemmas.{begin_off, same_window_end}
use Rattle.run_tree.proofs.BoundaryLemmas.{member_has, no_boundary}
use Rattle.run_tree.proofs.RunLemmas.{ends_at, ends_is, left_at, left_is, now_pack, on_time, run_member, runs_is, same_pack_runs}

-- where no leaf has a boundary at tick n + 1, and each member that ran at tick n has due left then
module _ (of_leaf : Leaf → ℕ → Bool) (t : Tree) (h : IsTree t) (leaves : HaveBoundaries of_leaf t) (n : ℕ)
    (quiet : (x : ℕ) → IsLeaf t x → suc n % t.scale ≡ 0 → of_leaf (leaf t x) (suc n / t.scale) ≡ false)
    (unspent : (x : ℕ) → IsMember t x → runs of_leaf t x n ≡ true → 0 < left_at of_leaf t (suc n) x) where
  -- the begin of the window of node x at tick m
  abbrev pub begin_of : ℕ → ℕ → ℕ
  begin_of x m = window_begin (is_boundary of_leaf t x) (m / t.scale)

  -- and its end
  abbrev pub end_at : ℕ → ℕ → ℕ
  end_at x m = window_end (is_boundary of_leaf t x) (m / t.scale)

  -- windows stay
  pub still : (x : ℕ) → IsMember t x → (begin_of x (suc n) ≡ begin_of x n) × (end_at x (suc n) ≡ end_at x n)
  still x i =
      elim (next_unit n t.scale h.scaled) [
        | inl e ↦ (ap (window_begin (is_boundary of_leaf t x)) e, ap (window_end (is_boundary of_leaf t x)) e)
        | inr e ↦
            (let off : is_boundary of_leaf t x (suc n / t.scale) ≡ false = no_boundary of_leaf t h (suc n / t.scale) (λ y j. quiet y j e.1) x i in
            let P : ℕ → Type 0 = λ u. is_boundary of_leaf t x u ≡ false in
            let there = subst P e.0 off in (
              ap (window_begin (is_boundary of_leaf t x)) e.0 ∙ begin_off (is_boundary of_leaf t x) (n / t.scale) there,
              ap (window_end (is_boundary of_leaf t x)) e.0 ∙ same_window_end (is_boundary of_leaf t x) (member_has of_leaf t h leaves x i) (n / t.scale) there,
            ))
      ]

  -- what is left falls by the tick that was run
  pub left_next : (x : ℕ) → IsMember t x → left_at of_leaf t (suc n) x ≡ left_at of_leaf t n x - bit (runs of_leaf t x n)
  left_next x i =
      let s = still x i in
      let before = left_is of_leaf t x n (on_time of_leaf t h leaves x n i) in
      let after = left_is of_leaf t x (suc n) (on_time of_leaf t h leaves x (suc n) i) in
      let order = ticks-le (runs of_leaf t x) (begin_of x n * t.scale) n (on_time of_leaf t h leaves x n i) in
      let same = ap₂ (λ b e. rate t x * (e - b) - (ticks (runs of_leaf t x) (suc n) - ticks (runs of_leaf t x) (b * t.scale))) s.0 s.1 in
      omega (arith, before, after, order, same)

  -- so who had due left has some still
  pub some_still : (x : ℕ) → IsMember t x → ltb 0 (left_at of_leaf t (suc n) x) ≡ ltb 0 (left_at of_leaf t n x)
  some_still x i =
      let e = left_next x i in
      elim (cases_Bool (runs of_leaf t x n)) [
        | inl run ↦
            (let w = unspent x i run in
            lt-ltb 0 (left_at of_leaf t (suc n) x) w ∙ sym (lt-ltb 0 (left_at of_leaf t n x) (omega (arith, e, w))))
        | inr stay ↦
            (let z = bit_off (runs of_leaf t x n) stay in
            let same : left_at of_leaf t (suc n) x ≡ left_at of_leaf t n x = omega (arith, e, z) in
            ap (ltb 0) same)
      ]

  -- and the same are picked
  pub picked_still : (x : ℕ) → IsMember t x → is_picked t (left_at of_leaf t (suc n)) (ends_at of_leaf t (suc n)) x ≡ is_picked t (left_at of_leaf t n)
      (ends_at of_leaf t n) x
  picked_still x i =
      let p = (h.homes_are x i).0 in
      ap (λ o. is_at o (place t x))
      (same_earliest (ends_at of_leaf t (suc n)) (left_at of_leaf t (suc n)) (ends_at of_leaf t n) (left_at of_leaf t n) (members t (home t x))
      (λ k l. (let m = (h.members_are (home t x) k p l).0 in
      ends_is of_leaf t (member t (home t x) k) (suc n) ∙ (still (member t (home t x) k) m).1 ∙ sym (ends_is of_leaf t (member t (home t x) k) n)))
      (λ k l. some_still (member t (home t x) k) (h.members_are (home t x) k p l).0))

  -- the same packs run
  pub pack_still : (p : ℕ) → IsPack t p → runs of_leaf t p (suc n) ≡ runs of_leaf t p n
  pack_still p i =
      runs_is of_leaf t p (suc n) i.0 ∙ now_pack t h (left_at of_leaf t (suc n)) (ends_at of_leaf t (suc n)) p i
      ∙ same_pack_runs t h (is_picked t (left_at of_leaf t (suc n)) (ends_at of_leaf t (suc n))) (is_picked t (left_at of_leaf t n) (ends_at of_leaf t n))
      picked_still (t.levels - 1 - level t p) p i
      ∙ sym (now_pack t h (left_at of_leaf t n) (ends_at of_leaf t n) p i) ∙ sym (runs_is of_leaf t p n i.0)

  -- the same members run
  pub member_still : (x : ℕ) → IsMember t x → runs of_leaf t x (suc n) ≡ runs of_leaf t x n
  member_still x i =
      run_member of_leaf t h x (suc n) i
      ∙ ap₂ (λ (a b : Bool). a && b) (pack_still (home t x) (h.homes_are x i).0) (picked_still x i)
      ∙ sym (run_member of_leaf t h x n i)
