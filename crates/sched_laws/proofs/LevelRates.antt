-- The packs of all levels run exactly their rates, and their members their dues.
use Rattle.std.proofs.Common.{Bool, None, Option, Some, ap, arith, length, not, refl, subst, subst₂, suc, sym, true, zero, ℕ, ◌*◌, ◌+◌, ◌-◌, ◌<◌, ◌∙◌, ◌≡◌}
use mathlib.Core.Path.{fun_ext}
use Rattle.sched_base.specs.declared.rows.Leaf.{Leaf}
use Rattle.sched_base.specs.Counting.{ticks}
use Rattle.sched_base.specs.Valid.{served}
use Rattle.sched_base.proofs.CountingLemmas.{ticks_all, ticks_not}
use Rattle.sched_base.proofs.UnitLemmas.{mul_span}
use Rattle.run_tree.specs.Windows.{window_begin, window_end}
use Rattle.run_tree.specs.Tree.{IsMember, IsPack, IsTree, Tree, dual, home, kind_at, level, member, members, place, rate}
use Rattle.run_tree.specs.Boundaries.{HaveBoundaries, is_boundary}
use Rattle.run_tree.specs.Runs.{runs}
use Rattle.run_tree.proofs.KindLemmas.{not_pack}
use Rattle.run_tree.proofs.WindowLemmas.{begins_again, next_at, windows_of}
use Rattle.run_tree.proofs.BoundaryLemmas.{bound_dual, pack_has}
use Rattle.run_tree.proofs.RunLemmas.{ends_at, left_at, now_rests, now_root, runs_is}
use Rattle.sched_laws.specs.Servers.{IsSupplied, server}
use Rattle.sched_laws.specs.Rates.{RunsRate}
use Rattle.sched_laws.proofs.Edf.{due_served, served_exactly, some_runs, supplied_from_windows}
use Rattle.sched_laws.proofs.Packs.{server_serves}

-- a dual has the boundaries of its primal
pub dual_bounds : (of_leaf : Leaf → ℕ → Bool) (t : Tree) (h : IsTree t) (p d : ℕ) → IsPack t p → dual t p ≡ Some d → (u : ℕ) → is_boundary of_leaf t d
    u ≡ is_boundary of_leaf t p u
dual_bounds of_leaf t h p d i e u =
    let x = h.has_dual p d i e in
    bound_dual of_leaf t h d x.0 u ∙ ap (λ q. is_boundary of_leaf t q u) x.1

module _ (of_leaf : Leaf → ℕ → Bool) (t : Tree) (h : IsTree t) (leaves : HaveBoundaries of_leaf t) where
  -- a root runs at each tick
  pub run_root : (p n : ℕ) → IsPack t p → dual t p ≡ None → runs of_leaf t p n ≡ true
  run_root p n i e = runs_is of_leaf t p n i.0 ∙ now_root t h (left_at of_leaf t n) (ends_at of_leaf t n) p i e

  -- a pack with a dual runs where the dual does not
  pub run_rests : (p d n : ℕ) → IsPack t p → dual t p ≡ Some d → runs of_leaf t p n ≡ not (runs of_leaf t d n)
  run_rests p d n i e =
      runs_is of_leaf t p n i.0 ∙ now_rests t h (left_at of_leaf t n) (ends_at of_leaf t n) p d i e
      ∙ ap not (sym (runs_is of_leaf t d n (h.has_dual p d i e).0.0))

  -- they are one test
  pub same_bounds : (p d : ℕ) → IsPack t p → dual t p ≡ Some d → is_boundary of_leaf t d ≡ is_boundary of_leaf t p
  same_bounds p d i e = fun_ext (λ u. dual_bounds of_leaf t h p d i e u)

  -- a dual that runs its rate lets its primal run its own
  pub supplied_by_dual : (p d : ℕ) → (i : IsPack t p) → dual t p ≡ Some d →
      ((u : ℕ) → ticks (runs of_leaf t d) (window_begin (is_boundary of_leaf t d) u * t.scale) ≡ rate t d * window_begin (is_boundary of_leaf t d) u) →
      IsSupplied (server of_leaf t p)
  supplied_by_dual p d i e served u at =
      let x = h.has_dual p d i e in
      let same : window_begin (is_boundary of_leaf t d) u ≡ u = ap (λ b. window_begin b u) (same_bounds p d i e) ∙ at in
      let P : ℕ → Type 0 = λ w. ticks (runs of_leaf t d) (w * t.scale) ≡ rate t d * w in
      let s : P u = subst P same (served u) in
      let both = ticks_not (runs of_leaf t p) (runs of_leaf t d) (λ n. run_rests p d n i e) (u * t.scale) in
      let whole = ap (λ r. r * u) x.2 in
      let mine = ap (λ r. r * u) (h.summed p i) in
      omega (arith, s, both, whole, mine)

  -- a root runs its rate
  pub supplied_root : (p : ℕ) → (i : IsPack t p) → dual t p ≡ None → IsSupplied (server of_leaf t p)
  supplied_root p i e u at =
      let all = ticks_all (runs of_leaf t p) (λ n. run_root p n i e) (u * t.scale) in
      let mine = ap (λ r. r * u) (h.summed p i ∙ h.roots_are p i e) in
      omega (arith, all, mine)

  -- from the last level downwards
  pub supplied : (above p : ℕ) → IsPack t p → level t p + above ≡ t.levels → IsSupplied (server of_leaf t p)
  supplied zero p i at = absurd (let l = h.leveled p i in omega (arith, l, at))
  supplied (suc above) p i at = go (supplied above) (dual t p) refl
    where
      go : ((q : ℕ) → IsPack t q → level t q + above ≡ t.levels → IsSupplied (server of_leaf t q)) → (o : Option ℕ) → dual t p ≡ o →
          IsSupplied (server of_leaf t p)
      go ih None e = supplied_root p i e
      go ih (Some d) e =
          (let x = h.has_dual p d i e in
          let m : IsMember t d = (x.0.0, not_pack (kind_at t d) x.0.1) in
          let at_home = h.homes_are d m in
          let up = (h.duals_are d x.0).2 in
          let same = ap (level t) x.1 in
          let over : IsSupplied (server of_leaf t (home t d)) = ih (home t d) at_home.0 (omega (arith, up, same, at)) in
          let law = server_serves of_leaf t h leaves (home t d) at_home.0 in
          let P : ℕ → Type 0 = λ y. (u : ℕ) → ticks (runs of_leaf t y) (window_begin (is_boundary of_leaf t y) u * t.scale) ≡ rate t y * window_begin
          (is_boundary of_leaf t y) u in
          supplied_by_dual p d i e (subst P at_home.2 (λ u. served_exactly (server of_leaf t (home t d)) law over (place t d) u at_home.1)))

  -- each pack runs its rate
  pub supplied_all : (p : ℕ) → IsPack t p → IsSupplied (server of_leaf t p)
  supplied_all p i = supplied (t.levels - level t p) p i (let l = h.leveled p i in omega (arith, l))

  -- each pack runs exactly its rate in each of its windows
  pub pack_served : (p u : ℕ) → IsPack t p →
      ticks (runs of_leaf t p) (window_end (is_boundary of_leaf t p) u * t.scale)
      ≡ ticks (runs of_leaf t p) (window_begin (is_boundary of_leaf t p) u * t.scale) + rate t p * (window_end (is_boundary of_leaf t p) u - window_begin
      (is_boundary of_leaf t p) u)
  pack_served p u i =
      let w = windows_of (is_boundary of_leaf t p) (pack_has of_leaf t h leaves (level t p) p i refl) in
      let s = supplied_all p i in
      let first = s (window_begin (is_boundary of_leaf t p) u) (begins_again (window_begin (is_boundary of_leaf t p)) (window_end (is_boundary of_leaf t p))
      w u) in
      let last = s (window_end (is_boundary of_leaf t p) u) (next_at (window_begin (is_boundary of_leaf t p)) (window_end (is_boundary of_leaf t p)) w u) in
      let b = w.begun u in
      let o = w.open_still u in
      let span = mul_span (rate t p) (window_begin (is_boundary of_leaf t p) u) (window_end (is_boundary of_leaf t p) u) (omega (arith, b, o)) in
      let f = ap (λ r. r * window_begin (is_boundary of_leaf t p) u) (h.summed p i) in
      let g = ap (λ r. r * window_end (is_boundary of_leaf t p) u) (h.summed p i) in
      omega (arith, first, last, span, f, g)

  -- each leaf and each dual runs exactly its due in each of its windows
  pub member_served : (x u : ℕ) → IsMember t x →
      ticks (runs of_leaf t x) (window_end (is_boundary of_leaf t x) u * t.scale)
      ≡ ticks (runs of_leaf t x) (window_begin (is_boundary of_leaf t x) u * t.scale) + rate t x * (window_end (is_boundary of_leaf t x) u - window_begin
      (is_boundary of_leaf t x) u)
  member_served x u i =
      let at_home = h.homes_are x i in
      let P : ℕ → Type 0 = λ y. ticks (runs of_leaf t y) (window_end (is_boundary of_leaf t y) u * t.scale)
      ≡ ticks (runs of_leaf t y) (window_begin (is_boundary of_leaf t y) u * t.scale) + rate t y * (window_end (is_boundary of_leaf t y) u - window_begin
      (is_boundary of_leaf t y) u) in
      subst P at_home.2 (due_served (server of_leaf t (home t x)) (server_serves of_leaf t h leaves (home t x) at_home.0) (supplied_all (home t x)
      at_home.0) (place t x) u at_home.1)

  -- a pack that runs runs a member
  pub member_runs : (p n : ℕ) → IsPack t p → runs of_leaf t p n ≡ true → (k : ℕ) × (k < length (members t p)) × (runs of_leaf t (member t p k) n ≡ true)
  member_runs p n i on = some_runs (server of_leaf t p) (server_serves of_leaf t h leaves p i) (supplied_all p i) n on

  -- up to each of its boundaries a leaf or a dual runs exactly its rate
  pub member_total : (x u : ℕ) → IsMember t x → window_begin (is_boundary of_leaf t x) u ≡ u → ticks (runs of_leaf t x) (u * t.scale) ≡ rate t x * u
  member_total x u i at =
      let at_home = h.homes_are x i in
      let P : ℕ → Type 0 = λ y. ticks (runs of_leaf t y) (window_begin (is_boundary of_leaf t y) u * t.scale) ≡ rate t y * window_begin
      (is_boundary of_leaf t y) u in
      let all = subst P at_home.2 (served_exactly (server of_leaf t (home t x)) (server_serves of_leaf t h leaves (home t x) at_home.0)
      (supplied_all (home t x) at_home.0) (place t x) u at_home.1) in
      let Q : ℕ → Type 0 = λ w. ticks (runs of_leaf t x) (w * t.scale) ≡ rate t x * w in
      subst Q at all

-- one pack by itself
module _ (of_leaf : Leaf → ℕ → Bool) (t : Tree) (h : IsTree t) (leaves : HaveBoundaries of_leaf t) where
  -- a pack that runs its rate in each window is supplied
  pub supplied_by_windows : (p : ℕ) → IsPack t p → RunsRate of_leaf t p → IsSupplied (server of_leaf t p)
  supplied_by_windows p i each =
      supplied_from_windows (server of_leaf t p) (server_serves of_leaf t h leaves p i)
      (λ u. (let e = each u in let r = ap (λ r. r * (window_end (is_boundary of_leaf t p) u - window_begin (is_boundary of_leaf t p) u)) (h.summed p i) in
      omega (arith, e, r)))

  -- then each member runs its due in each window
  pub one_pack_served : (p k : ℕ) → IsPack t p → RunsRate of_leaf t p → k < length (members t p) → RunsRate of_leaf t (member t p k)
  one_pack_served p k i each l u = due_served (server of_leaf t p) (server_serves of_leaf t h leaves p i) (supplied_by_windows p i each) k u l

  -- and where the pack runs a member runs
  pub one_pack_runs : (p n : ℕ) → IsPack t p → RunsRate of_leaf t p → runs of_leaf t p n ≡ true → (k : ℕ) × (k < length (members t p))
      × (runs of_leaf t (member t p k) n ≡ true)
  one_pack_runs p n i each on = some_runs (server of_leaf t p) (server_serves of_leaf t h leaves p i) (supplied_by_windows p i each) n on

  -- a dual that runs its rate lets its primal run its own
  pub primal_served : (p d : ℕ) → IsPack t p → dual t p ≡ Some d → RunsRate of_leaf t d → RunsRate of_leaf t p
  primal_served p d i e each u =
      let x = h.has_dual p d i e in
      let b = ap (λ b. window_begin b u) (same_bounds of_leaf t h leaves p d i e) in
      let f = ap (λ b. window_end b u) (same_bounds of_leaf t h leaves p d i e) in
      let s = each u in
      let P : ℕ → ℕ → Type 0 = λ lo hi. ticks (runs of_leaf t d) (hi * t.scale) ≡ ticks (runs of_leaf t d) (lo * t.scale) + rate t d * (hi - lo) in
      let s' : P (window_begin (is_boundary of_leaf t p) u) (window_end (is_boundary of_leaf t p) u) = subst₂ P b f s in
      let first = ticks_not (runs of_leaf t p) (runs of_leaf t d) (λ n. run_rests of_leaf t h leaves p d n i e) (window_begin (is_boundary of_leaf t p)
      u * t.scale) in
      let last = ticks_not (runs of_leaf t p) (runs of_leaf t d) (λ n. run_rests of_leaf t h leaves p d n i e) (window_end (is_boundary of_leaf t p)
      u * t.scale) in
      let w = windows_of (is_boundary of_leaf t p) (pack_has of_leaf t h leaves (level t p) p i refl) in
      let begun = w.begun u in
      let open_now = w.open_still u in
      let span = mul_span t.scale (window_begin (is_boundary of_leaf t p) u) (window_end (is_boundary of_leaf t p) u) (omega (arith, begun, open_now)) in
      let both = ap (λ r. r * (window_end (is_boundary of_leaf t p) u - window_begin (is_boundary of_leaf t p) u)) x.2 in
      omega (arith, s', first, last, span, both)
