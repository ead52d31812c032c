-- Where windows end, by the ends of the windows below.
use Rattle.std.proofs.Common.{◌≡◌, ℕ, ◌<◌, ◌≤◌, not, Bool, length, true, false, refl, ap, arith, inl, inr, subst}
use Rattle.std.proofs.lemmas.Bool.{cases_lt, both_ways}
use Rattle.sched_base.specs.declared.rows.NodeId.{NodeId}
use Rattle.run_tree.specs.declared.kinds.Kind.{Kind}
use Rattle.run_tree.specs.declared.kinds.Kind.TheVariants as kind
use Rattle.run_tree.specs.Windows.{window_end}
use Rattle.knockout.specs.Knockouts.{never}
use Rattle.run_tree.specs.Tree.{IsPack, IsMember, is_pack, is_dual, kind_at, level_of, members, primal_of}
use Rattle.run_tree.specs.Plans.{PlanContents, IsPlan, boundary_of}
use Rattle.run_tree.proofs.WindowLemmas.{end_is}
use Rattle.run_tree.proofs.NextBoundaries.{IsLeastOf, pack_end_is}
use Rattle.release_calendar.proofs.NextLemmas.{have}

pack_kind : (k : Kind) → is_pack k ≡ true → k ≡ kind.Pack (level_of k)
pack_kind (kind.Leaf leaf) e = cc
pack_kind (kind.Pack level) e = refl
pack_kind (kind.Dual primal) e = cc

-- what isn't so is false
pub off_is : (b : Bool) → not b ≡ true → b ≡ false
off_is true e = cc
off_is false e = refl

module _ (p : PlanContents) (h : IsPlan p) where
  -- the window of a unit up to the horizon ends some time
  pub end_near : (x u : ℕ) → IsMember p.tree x → u ≤ p.set.horizon → window_end (boundary_of p x) u < never
  end_near x u i early =
      let b = boundary_of p x in
      let has = have p h x i in
      let (d, above, near, on) = has.later u in
      let e = end_is b has u in
      let fits = h.lawful.horizon_fits in
      elim (cases_lt d (window_end b u)) [
        | inl l ↦ absurd (both_ways (b d) (e.first d above l) on)
        | inr l ↦ omega (arith, l, near, early, fits)
      ]

  -- a dual stands for a pack
  pub primal_pack : (n : ℕ) (q : NodeId) → n < length p.tree.nodes → kind_at p.tree n ≡ kind.Dual q → IsPack p.tree q.0
  primal_pack n q b e =
      let i = (h.tree.tree.duals_are n (b, ap is_dual e)).0 in
      let P : ℕ → Type 0 = λ k. IsPack p.tree k in
      subst P (ap primal_of e) i

  -- the first end of a pack's members' windows is that of its own
  pub first_is : (n u least : ℕ) → IsPack p.tree n → IsLeastOf p n u (length (members p.tree n)) least → least ≡ window_end (boundary_of p n) u
  first_is n u least i is = pack_end_is p h n (level_of (kind_at p.tree n)) u least i.0 (pack_kind (kind_at p.tree n) i.1) is
