-- Trees whose packs of level 0 are all roots: they have no other level, so each member is a leaf of a pack that always runs.
use Rattle.std.proofs.Common.{Bool, List, None, Some, ap, arith, filter, get_or, inl, inr, length, refl, subst, suc, sym, true, zero, ℕ, ◌&&◌, ◌+◌}
use Rattle.std.proofs.Common.{◌<◌, ◌∙◌, ◌≡◌, ◌≤◌}
use Rattle.std.specs.List.{range_with_len}
use Rattle.std.proofs.lemmas.Bool.{both_ways, cases_Bool, cases_eq}
use Rattle.sched_base.specs.declared.rows.Leaf.{Leaf}
use Rattle.sched_base.specs.Candidates.{earliest, is_at}
use Rattle.sched_base.proofs.ListLemmas.{passing_off, passing_on}
use Rattle.run_tree.specs.Boundaries.{HaveBoundaries}
use Rattle.run_tree.specs.Runs.{runs}
use Rattle.run_tree.specs.Schedule.{packs_at}
use Rattle.run_tree.specs.Tree.{IsLeaf, IsMember, IsPack, IsTree, Tree, at_level, dual, home, is_pack, kind_at, level, member, members, place, primal}
use Rattle.run_tree.proofs.KindLemmas.{KindOf, kind_of}
use Rattle.run_tree.proofs.TreeLemmas.{at_from, first_is_pack, leaf_at_level}
use Rattle.sched_laws.proofs.LevelRates.{run_root}
use Rattle.sched_laws.proofs.Packs.{candidates, run_at}
use Rattle.partition_laws.specs.Partitions.{IsPartitioned, first_pack, member_count, member_of}

-- a number of the range that passes stands somewhere among those that do
pub found_in : (p : ℕ → Bool) (n a x : ℕ) → a ≤ x → x < a + n → p x ≡ true → (i : ℕ) × (i < length (filter p (range_with_len a n)))
    × (get_or (filter p (range_with_len a n)) i 0 ≡ x)
found_in p zero a x l m on = absurd (omega (arith, l, m))
found_in p (suc n) a x l m on =
    let P : List ℕ → Type 0 = λ xs. (i : ℕ) × (i < length xs) × (get_or xs i 0 ≡ x) in
    elim (cases_eq a x) [
      | inl same ↦
          (let Q : ℕ → Type 0 = λ y. p y ≡ true in
          subst P (sym (passing_on p a n (subst Q (sym same) on))) ((0, omega arith, same)))
      | inr other ↦
          (let rest = found_in p n (a + 1) x (omega (arith, l, other)) (omega (arith, m)) on in
          elim (cases_Bool (p a)) [
            | inl here ↦ subst P (sym (passing_on p a n here)) (let b = rest.1 in (suc rest.0, omega (arith, b), rest.2))
            | inr none ↦ subst P (sym (passing_off p a n none)) rest
          ])
    ]

module _ (t : Tree) (h : IsTree t) (roots : IsPartitioned t) where
  -- a pack above level 0 has a dual as its first member, whose primal stands one level below
  pub below_it : (l p : ℕ) → IsPack t p → level t p ≡ suc l → (q : ℕ) × (d : ℕ) × IsPack t q × (level t q ≡ l) × (dual t q ≡ Some d)
  below_it l p i at = go (kind_of (kind_at t (member t p 0)))
    where
      m : IsMember t (member t p 0) × (home t (member t p 0) ≡ p) × (place t (member t p 0) ≡ 0)
      m = h.members_are p 0 i (h.filled p i)

      go : KindOf (kind_at t (member t p 0)) → (q : ℕ) × (d : ℕ) × IsPack t q × (level t q ≡ l) × (dual t q ≡ Some d)
      go (inl a_leaf) =
          (let low = (h.leaves_are (member t p 0) (m.0.0, a_leaf)).0 in
          let same = ap (level t) m.1 in
          absurd (omega (arith, low, same, at)))
      go (inr (inl a_dual)) =
          (let d = h.duals_are (member t p 0) (m.0.0, a_dual) in
          let up = d.2 in
          let same = ap (level t) m.1 in
          (primal t (member t p 0), member t p 0, d.0, omega (arith, up, same, at), d.1))
      go (inr (inr a_pack)) = absurd (both_ways (is_pack (kind_at t (member t p 0))) m.0.1 a_pack)

  -- so no pack stands above level 0
  pub none_above : (l p : ℕ) → IsPack t p → level t p ≡ suc l → ⊥
  none_above zero p i at =
      let b = below_it 0 p i at in
      let none : None ≡ Some b.1 = sym (roots b.0 b.2 b.3) ∙ b.4 in
      cc
  none_above (suc l) p i at = let b = below_it (suc l) p i at in none_above l b.0 b.2 b.3

  -- each pack is of level 0
  pub low_pack : (p : ℕ) → IsPack t p → level t p ≡ 0
  low_pack p i = go (level t p) refl
    where
      go : (l : ℕ) → level t p ≡ l → level t p ≡ 0
      go zero at = at
      go (suc l) at = absurd (none_above l p i at)

  -- and a root
  pub root_pack : (p : ℕ) → IsPack t p → dual t p ≡ None
  root_pack p i = roots p i (low_pack p i)

  -- each member is a leaf
  pub leaf_member : (x : ℕ) → IsMember t x → IsLeaf t x
  leaf_member x i = (i.0, leaf_at_level t h x i (low_pack (home t x) (h.homes_are x i).0))

  -- pack i of level 0 is a pack
  pub is_first : (i : ℕ) → i < length (packs_at t 0) → IsPack t (first_pack t i)
  is_first i l = first_is_pack t h i l

  -- its members are leaves
  pub leaf_of_first : (i k : ℕ) → i < length (packs_at t 0) → k < member_count t i → IsLeaf t (member_of t i k)
  leaf_of_first i k l lk = leaf_member (member_of t i k) (h.members_are (first_pack t i) k (is_first i l) lk).0

  -- each pack is one of level 0
  pub first_of : (p : ℕ) → IsPack t p → (i : ℕ) × (i < length (packs_at t 0)) × (first_pack t i ≡ p)
  first_of p i = found_in (at_level t 0) (length t.nodes) 0 p (omega arith) (let b = i.0 in omega (arith, b)) (at_from t 0 p i (low_pack p i))

  -- each member is one of a pack of level 0
  pub member_from : (x : ℕ) → IsMember t x → (i : ℕ) × (k : ℕ) × (i < length (packs_at t 0)) × (k < member_count t i) × (member_of t i k ≡ x)
  member_from x i =
      let at = h.homes_are x i in
      let f = first_of (home t x) at.0 in
      let P : ℕ → Type 0 = λ p. (place t x < length (members t p)) × (member t p (place t x) ≡ x) in
      let there = subst P (sym f.2) ((at.1, at.2)) in
      (f.0, place t x, f.1, there.0, there.1)

  -- each pack runs at each tick, so a member of it runs where it is the earliest
  pub run_earliest : (of_leaf : Leaf → ℕ → Bool) (leaves : HaveBoundaries of_leaf t) (p k n : ℕ) → IsPack t p → k < length (members t p) →
      runs of_leaf t (member t p k) n ≡ is_at (earliest (candidates of_leaf t h leaves n p)) k
  run_earliest of_leaf leaves p k n i l =
      run_at of_leaf t h leaves p k n i l
      ∙ ap (λ (b : Bool). b && is_at (earliest (candidates of_leaf t h leaves n p)) k) (run_root of_leaf t h leaves p n i (root_pack p i))
