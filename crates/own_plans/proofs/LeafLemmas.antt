-- Leaves that are written for the members of a pack.
use Rattle.std.proofs.Common.{◌≡◌, ◌≢◌, ◌∙◌, ℕ, ◌+◌, ◌<◌, List, length, get_or, set, ap, arith, inl, inr, sym, get_or-set_other, get_or-set_same}
use Rattle.std.proofs.lemmas.Bool.{cases_lt}
use Rattle.sched_base.specs.declared.rows.Leaf.{Leaf}
use Rattle.sched_base.specs.declared.rows.Leaf.TheVariants.{Empty}
use Rattle.run_tree.specs.Tree.{IsPack, IsTree, Tree, leaf, member, members, place}

module _ (whole own : Tree) (h : IsTree own) (p q : ℕ) (is : IsPack own q) (k x : ℕ) (l : k < length (members own q)) (at : x ≡ member own q k) where
  -- no other member stands there
  other_node : (j : ℕ) → j < k → member own q j ≢ x
  other_node j low same =
      let here = (h.members_are q k is l).2 in
      let there = (h.members_are q j is (omega (arith, low, l))).2 in
      let e : place own (member own q j) ≡ place own (member own q k) = ap (place own) (same ∙ at) in
      omega (arith, here, there, e, low)

  -- one leaf more
  pub one_more : (leaves : List Leaf) (shown : Leaf) → length leaves ≡ length own.nodes → ((j : ℕ) → j < k → get_or leaves (member own q j) Empty ≡ leaf
      whole (member whole p j)) → shown ≡ leaf whole (member whole p k) →
      (j : ℕ) → j < k + 1 → get_or (set leaves x shown) (member own q j) Empty ≡ leaf whole (member whole p j)
  one_more leaves shown long before now j b = elim (cases_lt j k) [
    | inl low ↦ get_or-set_other leaves x (member own q j) shown Empty (other_node j low) ∙ before j low
    | inr high ↦
        (let most : j ≡ k = omega (arith, b, high) in
        let within = (h.members_are q k is l).0.0 in
        let inside : x < length leaves = omega (arith, within, long, at) in
        ap (λ i. get_or (set leaves x shown) (member own q i) Empty) most
        ∙ ap (λ n. get_or (set leaves x shown) n Empty) (sym at)
        ∙ get_or-set_same leaves x shown Empty inside
        ∙ now
        ∙ ap (λ i. leaf whole (member whole p i)) (sym most))
  ]
