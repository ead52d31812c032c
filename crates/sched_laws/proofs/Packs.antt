-- A pack of a tree serves its members by earliest deadline first.
use Rattle.std.proofs.Common.{Bool, List, None, Option, Some, ap, ap₂, arith, eq-eqb, length, refl, subst, sym, true, ℕ, ◌&&◌, ◌/◌, ◌<◌, ◌∙◌, ◌≡◌, ◌≤◌}
use Rattle.std.proofs.lemmas.Bool.{and_from, and_parts}
use Rattle.std.proofs.lemmas.List.{length-map}
use Rattle.sched_base.specs.declared.candidates.Candidate.{Candidate}
use Rattle.sched_base.specs.declared.rows.Leaf.{Leaf}
use Rattle.sched_base.specs.Candidates.{IsEarliest, candidate_at, earliest, is_at}
use Rattle.sched_base.proofs.EarliestLemmas.{IsBestOf, IsEarliest-le, earliest_best, is_at_some, listed, listed_at}
use Rattle.run_tree.specs.Tree.{IsPack, IsTree, Tree, level, member, members}
use Rattle.run_tree.specs.Boundaries.{HaveBoundaries, is_boundary}
use Rattle.run_tree.specs.Runs.{runs}
use Rattle.run_tree.proofs.WindowLemmas.{begin_last, end_first, windows_of}
use Rattle.run_tree.proofs.BoundaryLemmas.{bound_member, member_has, pack_has}
use Rattle.run_tree.proofs.RunLemmas.{ends_at, ends_is, left_at, left_is, on_time, run_member}
use Rattle.sched_laws.specs.Servers.{Serves, left, server}

module _ (of_leaf : Leaf → ℕ → Bool) (t : Tree) (h : IsTree t) (leaves : HaveBoundaries of_leaf t) where
  -- the members of p with what is left of their dues and the ends of their windows at tick n
  abbrev pub candidates : ℕ → ℕ → List Candidate
  candidates n p = listed (ends_at of_leaf t n) (left_at of_leaf t n) (members t p)

  -- a member runs where the pack runs and its place is picked
  pub run_at : (p k n : ℕ) → IsPack t p → k < length (members t p) → runs of_leaf t (member t p k) n ≡ (runs of_leaf t p n && is_at
      (earliest (candidates n p)) k)
  run_at p k n i l =
      let m = h.members_are p k i l in
      run_member of_leaf t h (member t p k) n m.0
      ∙ ap₂ (λ q j. runs of_leaf t q n && is_at (earliest (candidates n q)) j) m.1 m.2

  -- what is left of its due is what the server has left
  pub left_at_is : (p k n : ℕ) → IsPack t p → k < length (members t p) → (candidate_at (candidates n p) k).remain ≡ left (server of_leaf t p) k n
  left_at_is p k n i l =
      ap (λ (c : Candidate). c.remain) (listed_at (ends_at of_leaf t n) (left_at of_leaf t n) (members t p) k l)
      ∙ left_is of_leaf t (member t p k) n (on_time of_leaf t h leaves (member t p k) n (h.members_are p k i l).0)

  -- its window ends as the server's
  pub ends_at_is : (p k n : ℕ) → k < length (members t p) → (candidate_at (candidates n p) k).end ≡ (server of_leaf t p).ends k (n / t.scale)
  ends_at_is p k n l =
      ap (λ (c : Candidate). c.end) (listed_at (ends_at of_leaf t n) (left_at of_leaf t n) (members t p) k l)
      ∙ ends_is of_leaf t (member t p k) n

  -- who runs was picked
  pub picked_by : (p k n : ℕ) → IsPack t p → k < length (members t p) → runs of_leaf t (member t p k) n ≡ true → (runs of_leaf t p n ≡ true)
      × (earliest (candidates n p) ≡ Some k)
  picked_by p k n i l e =
      let both = and_parts (runs of_leaf t p n) (is_at (earliest (candidates n p)) k) (sym (run_at p k n i l) ∙ e) in
      (both.0, is_at_some (earliest (candidates n p)) k both.1)

  -- the pack serves
  pub server_serves : (p : ℕ) → IsPack t p → Serves (server of_leaf t p)
  server_serves p i = record {
    scaled = h.scaled;
    windows = λ k l. windows_of (is_boundary of_leaf t (member t p k)) (member_has of_leaf t h leaves (member t p k) (h.members_are p k i l).0);
    pack_windows = windows_of (is_boundary of_leaf t p) (pack_has of_leaf t h leaves (level t p) p i refl);
    ends_first = λ k u l. end_first (is_boundary of_leaf t (member t p k)) (is_boundary of_leaf t p)
        (member_has of_leaf t h leaves (member t p k) (h.members_are p k i l).0) (pack_has of_leaf t h leaves (level t p) p i refl) (bound_member of_leaf t
        h p k i l) u;
    begins_last = λ k u l. begin_last (is_boundary of_leaf t (member t p k)) (is_boundary of_leaf t p)
        (member_has of_leaf t h leaves (member t p k) (h.members_are p k i l).0) (pack_has of_leaf t h leaves (level t p) p i refl) (bound_member of_leaf t
        h p k i l) u;
    within = λ k n l e. (picked_by p k n i l e).0;
    has_left = λ k n l e. (
        let P : Option ℕ → Type 0 = λ o. IsBestOf (candidates n p) (length (candidates n p)) o in
        let best : IsEarliest (candidates n p) (length (candidates n p)) k = subst P (picked_by p k n i l e).1 (earliest_best (candidates n p)) in
        let some = best.some in
        let same = left_at_is p k n i l in
        omega (arith, some, same));
    alone = λ j k n lj lk ej ek. (
        let a = (picked_by p j n i lj ej).1 in
        let b = (picked_by p k n i lk ek).1 in
        let both : Some j ≡ Some k = sym a ∙ b in
        cc);
    earliest = λ k n l on some. pick k n l on some (earliest (candidates n p)) refl;
  }
    where
      pick : (k n : ℕ) → k < length (members t p) → runs of_leaf t p n ≡ true → 0 < left (server of_leaf t p) k n →
          (o : Option ℕ) → earliest (candidates n p) ≡ o →
          (j : ℕ) × (j < length (members t p)) × (runs of_leaf t (member t p j) n ≡ true) × ((server of_leaf t p).ends j (n / t.scale) ≤ (server of_leaf t
          p).ends k (n / t.scale))
      pick k n l on some None e =
          (let P : Option ℕ → Type 0 = λ o. IsBestOf (candidates n p) (length (candidates n p)) o in
          let none : IsBestOf (candidates n p) (length (candidates n p)) None = subst P e (earliest_best (candidates n p)) in
          let long = length-map (members t p) (λ (m : ℕ). let c : Candidate = record { end = ends_at of_leaf t n m; remain = left_at of_leaf t n m } in c) in
          let z = none k (omega (arith, long)) in
          let same = left_at_is p k n i l in
          absurd (omega (arith, z, same, some)))
      pick k n l on some (Some j) e =
          (let P : Option ℕ → Type 0 = λ o. IsBestOf (candidates n p) (length (candidates n p)) o in
          let best : IsEarliest (candidates n p) (length (candidates n p)) j = subst P e (earliest_best (candidates n p)) in
          let long = length-map (members t p) (λ (m : ℕ). let c : Candidate = record { end = ends_at of_leaf t n m; remain = left_at of_leaf t n m } in c) in
          let there = best.below in
          let lj : j < length (members t p) = omega (arith, there, long) in
          let same = left_at_is p k n i l in
          let first = IsEarliest-le (candidates n p) (length (candidates n p)) j k best (omega (arith, long)) (omega (arith, same, some)) in
          let ej = ends_at_is p j n lj in
          let ek = ends_at_is p k n l in
          let at : is_at (earliest (candidates n p)) j ≡ true = ap (λ o. is_at o j) e ∙ eq-eqb j j refl in
          (j, lj, run_at p j n i lj ∙ and_from (runs of_leaf t p n) (is_at (earliest (candidates n p)) j) on at, omega (arith, first, ej, ek)))
