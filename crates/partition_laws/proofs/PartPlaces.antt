-- A pack of a part has the level of its like, and shows the member whose like runs.
use Rattle.std.proofs.Common.{Some, ap, arith, inl, inr, length, true, suc, zero, ℕ, ◌/◌, ◌<◌, ◌∙◌, ◌≡◌}
use Rattle.std.proofs.lemmas.Bool.{both_ways}
use Rattle.run_tree.specs.Boundaries.{set_boundary}
use Rattle.run_tree.specs.Plans.{IsPlan, PlanContents}
use Rattle.run_tree.specs.Runs.{runs}
use Rattle.run_tree.specs.Schedule.{leaf_among, leaf_on}
use Rattle.run_tree.specs.Tree.{IsMember, IsPack, home, is_pack, kind_at, leaf, level, member, members, place, primal}
use Rattle.run_tree.proofs.KindLemmas.{KindOf, kind_of}
use Rattle.run_tree.proofs.ScheduleLemmas.{leaf_among_first}
use Rattle.sched_laws.proofs.Packs.{server_serves}
use Rattle.partition_laws.specs.Partitions.{first_pack}
use Rattle.partition_laws.specs.Parts.{IsPartPlan}
use Rattle.partition_laws.proofs.PartNodes.{dual_there, leaf_there, member_there, plan_leaves}
use Rattle.partition_laws.proofs.PartTicks.{runs_there}

module _ (whole own : PlanContents) (onto : ℕ → ℕ) (f : ℕ) (w : IsPlan whole) (o : IsPlan own) (is : IsPartPlan whole own onto f) where
  -- a pack has the level of its like, where those of the level below do: its first member tells it
  pub level_over : (p : ℕ) → IsPack own.tree p →
      ((q : ℕ) → IsPack own.tree q → suc (level own.tree q) ≡ level own.tree p → level whole.tree (onto q) ≡ level own.tree q) →
      level whole.tree (onto p) ≡ level own.tree p
  level_over p i under = go (kind_of (kind_at own.tree (member own.tree p 0)))
    where
      x : ℕ
      x = member own.tree p 0

      m : IsMember own.tree x × (home own.tree x ≡ p) × (place own.tree x ≡ 0)
      m = o.tree.tree.members_are p 0 i (o.tree.tree.filled p i)

      its_home : level whole.tree (home whole.tree (onto x)) ≡ level whole.tree (onto p)
      its_home = ap (level whole.tree) ((member_there whole own onto f w o is x m.0).1 ∙ ap onto m.1)

      go : KindOf (kind_at own.tree x) → level whole.tree (onto p) ≡ level own.tree p
      go (inl a_leaf) =
          (let low = (w.tree.tree.leaves_are (onto x) (leaf_there whole own onto f w o is x (m.0.0, a_leaf))).0 in
          let low' = (o.tree.tree.leaves_are x (m.0.0, a_leaf)).0 in
          let at = ap (level own.tree) m.1 in
          omega (arith, its_home, low, low', at))
      go (inr (inl a_dual)) =
          (let (q, e, up) = o.tree.tree.duals_are x (m.0.0, a_dual) in
          let there = w.tree.tree.has_dual (onto (primal own.tree x)) (onto x) (is.packs (primal own.tree x) q) (dual_there whole own onto f w o is
          (primal own.tree x) x q e) in
          let above = (w.tree.tree.duals_are (onto x) there.0).2 in
          let below = ap (level whole.tree) there.1 in
          let at = ap (level own.tree) m.1 in
          let same = under (primal own.tree x) q (omega (arith, up, at)) in
          omega (arith, its_home, above, below, same, up, at))
      go (inr (inr a_pack)) = absurd (both_ways (is_pack (kind_at own.tree x)) m.0.1 a_pack)

  -- level by level
  pub level_there : (l p : ℕ) → IsPack own.tree p → level own.tree p ≡ l → level whole.tree (onto p) ≡ level own.tree p
  level_there zero p i at = level_over p i (λ q j up. absurd (omega (arith, up, at)))
  level_there (suc l) p i at = level_over p i (λ q j up. level_there l q j (omega (arith, up, at)))

-- what runs on the processor of a pack of level 0 is the leaf of the member whose like runs
pub shown_there : (whole own : PlanContents) (onto : ℕ → ℕ) (f : ℕ) (w : IsPlan whole) (o : IsPlan own) (is : IsPartPlan whole own onto f) →
    (n i p k : ℕ) → IsPack own.tree p → first_pack whole.tree i ≡ onto p → k < length (members own.tree p) →
    runs (set_boundary own.set.tasks) own.tree (member own.tree p k) (n / f) ≡ true →
    leaf_on (set_boundary whole.set.tasks) whole.tree n (Some i) ≡ leaf whole.tree (onto (member own.tree p k))
shown_there whole own onto f w o is n i p k pack at l on =
    let b = set_boundary whole.set.tasks in
    let law = server_serves b whole.tree w.tree.tree (plan_leaves whole w) (onto p) (is.packs p pack) in
    let long = is.same p pack in
    let place : k < length (members whole.tree (onto p)) = omega (arith, l, long) in
    let same = is.members_are p k pack l in
    let run = ap (λ x. runs b whole.tree x n) same ∙ runs_there whole own onto f w o is n (member own.tree p k) (o.tree.tree.members_are p k pack l).0 ∙ on in
    ap (λ q. leaf_among b whole.tree n (members whole.tree q)) at
    ∙ leaf_among_first b whole.tree n (members whole.tree (onto p)) k place run (λ j lj other. law.alone j k n lj place other run)
    ∙ ap (leaf whole.tree) same
