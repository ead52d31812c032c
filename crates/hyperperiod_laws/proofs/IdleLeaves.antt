-- An idle leaf has always something left, and its window ends behind all others.
use Rattle.std.proofs.Common.{Bool, List, None, Option, Some, ap, arith, false, inl, inr, length, mul-le-mul_left, refl, subst, suc, sym, true, zero}
use Rattle.std.proofs.Common.{ℕ, ◌*◌, ◌+◌, ◌-◌, ◌/◌, ◌<◌, ◌^◌, ◌∙◌, ◌≡◌, ◌≤◌, ◌⊎◌}
use Rattle.std.proofs.Math.Nat.{div-mul-le_self}
use Rattle.std.proofs.lemmas.Bool.{both_ways, cases_Bool, cases_eq, cases_lt}
use Rattle.std.specs.List.{AllByRecursion}
use Rattle.sched_base.specs.declared.rows.Leaf.{Leaf}
use Rattle.sched_base.specs.declared.rows.Leaf.TheVariants.{Empty, Idle, Task, Wait}
use Rattle.sched_base.specs.declared.sets.Task as declared
use Rattle.sched_base.specs.Counting.{sum_to, ticks}
use Rattle.sched_base.specs.Scale.{PeriodsDivide}
use Rattle.sched_base.specs.Sets.{IsLawfulTask}
use Rattle.sched_base.proofs.CountingLemmas.{bit_off, ticks-le, ticks_at_none}
use Rattle.sched_base.proofs.SumLemmas.{sum_to-lt, sum_to-mul}
use Rattle.sched_base.proofs.UnitLemmas.{mul_span, tick_below, tick_from, unit_below, unit_from}
use Rattle.run_tree.specs.declared.kinds.Kind.{Kind}
use Rattle.run_tree.specs.declared.kinds.Kind.TheVariants as kind
use Rattle.run_tree.specs.Boundaries.{HaveBoundaries, is_boundary, set_boundary}
use Rattle.run_tree.specs.Runs.{runs}
use Rattle.run_tree.specs.Tree.{IsLeaf, IsMember, IsPack, IsTree, Tree, dual, home, is_leaf, kind_at, leaf, leaf_of, level, member, members, place, rate}
use Rattle.run_tree.specs.TreeOfSet.{HoldsTasks, is_idle}
use Rattle.run_tree.specs.Windows.{window_begin, window_end}
use Rattle.run_tree.proofs.BoundaryLemmas.{bound_leaf, member_has, pack_has}
use Rattle.run_tree.proofs.KindLemmas.{not_pack_leaf}
use Rattle.run_tree.proofs.RunLemmas.{left_at, left_is, on_time}
use Rattle.run_tree.proofs.SetBoundaryLemmas.{idle_late, set_leaves}
use Rattle.run_tree.proofs.WindowLemmas.{begin_is, end_is, same_IsBegin}
use Rattle.sched_laws.specs.Servers.{IsSupplied, Server, Serves, left, server}
use Rattle.sched_laws.proofs.Edf.{members-le-pack, served_exactly}
use Rattle.sched_laws.proofs.LevelRates.{supplied_all}
use Rattle.sched_laws.proofs.Packs.{server_serves}
use Rattle.hyperperiod_laws.specs.Hyperperiods.{IdlesApart}
use Rattle.hyperperiod_laws.proofs.LaterLeaves.{IsBusy, member_is, pack_busy}
use Rattle.hyperperiod_laws.proofs.LaterWindows.{begins_here, ends_within, ticks-le-all}

-- a tree of tasks of which none is late at tick `start`, whose periods all divide `units`, with idle leaves apart; and so many units later
-- as much is left of each due as there, but for idle leaves'
pub record Recurs (tasks : List declared.Task) (t : Tree) (units start : ℕ) : Type 0 where
  pub each : AllByRecursion IsLawfulTask tasks
  pub tree : IsTree t
  pub holds : HoldsTasks tasks t
  pub some : 1 ≤ units
  pub released : AllByRecursion (λ k. k.offset ≤ start / t.scale) tasks
  pub whole : PeriodsDivide tasks units
  pub apart : IdlesApart t
  pub left : (x : ℕ) → IsMember t x → is_idle (leaf t x) ≡ false → left_at (set_boundary tasks) t (start + units * t.scale) x ≡ left_at (set_boundary tasks)
      t start x

-- an idle leaf is a leaf
idle_leaf : (m : Kind) → is_idle (leaf_of m) ≡ true → is_leaf m ≡ true
idle_leaf (kind.Leaf leaf) e = refl
idle_leaf (kind.Pack level) e = absurd (both_ways false refl e)
idle_leaf (kind.Dual primal) e = absurd (both_ways false refl e)

-- the units of later ticks are later
pub unit_order : (m n l : ℕ) → 0 < l → m ≤ n → m / l ≤ n / l
unit_order m n l p order = unit_from n (m / l) l p (let most = div-mul-le_self m l in omega (arith, most, order))

-- Where one member runs and no other has anything left, it ran no more than its rate up to a unit by which no window of the others ends, and
-- the pack ran no more than all rates.
pub alone_within : (v : Server) → Serves v → IsSupplied v → (e n end : ℕ) → e < v.count → ((k : ℕ) → k < v.count → (k ≡ e → ⊥) → left v k n ≡ 0) →
    ((k : ℕ) → k < v.count → end ≤ v.ends k (n / v.scale)) → ticks v.pack (suc n) ≤ sum_to v.count v.rate * end → ticks (v.member e) (suc n) ≤ v.rate e * end
alone_within v h s e n end l none after most =
    let due : ℕ → ℕ = λ k. v.rate k * end in
    let ran : ℕ → ℕ = λ k. ticks (v.member k) (suc n) in
    elim (cases_lt (due e) (ran e)) [
      | inr within ↦ within
      | inl more ↦
          (let each : (k : ℕ) → k < v.count → due k ≤ ran k =
          (λ k b. elim (cases_eq k e) [
            | inl same ↦ (let P : ℕ → Type 0 = λ j. due j ≤ ran j in subst P (sym same) (omega (arith, more)))
            | inr other ↦
                (let w = h.windows k b in
                let begun = w.begun (n / v.scale) in
                let above = w.open_still (n / v.scale) in
                let zero_left = none k b other in
                let first = served_exactly v h s k (n / v.scale) b in
                let span = mul_span (v.rate k) (v.begins k (n / v.scale)) (v.ends k (n / v.scale)) (omega (arith, begun, above)) in
                let far = mul-le-mul_left (v.rate k) (after k b) in
                let early = ticks-le (v.member k) (v.begins k (n / v.scale) * v.scale) n (tick_from n (v.begins k (n / v.scale)) v.scale h.scaled begun) in
                let order = ticks-le (v.member k) n (suc n) (omega arith) in
                omega (arith, zero_left, first, span, far, early, order))
          ]) in
          let less = sum_to-lt v.count due ran e l more each in
          let all = members-le-pack v h (suc n) in
          let sum = sum_to-mul v.count v.rate end in
          absurd (omega (arith, less, all, most, sum)))
    ]

module _ (tasks : List declared.Task) (t : Tree) (units start : ℕ) (r : Recurs tasks t units start) where
  -- each leaf has boundaries
  pub leaves_of : HaveBoundaries (set_boundary tasks) t
  leaves_of = set_leaves tasks r.each t r.holds

  -- the boundaries of a node
  abbrev pub bound : ℕ → ℕ → Bool
  bound = is_boundary (set_boundary tasks) t

  -- whether a node runs
  abbrev pub run : ℕ → ℕ → Bool
  run = runs (set_boundary tasks) t

  -- an idle leaf has no boundary before unit 2 ^ 33 but 0
  pub no_idle_bound : (x : ℕ) → IsLeaf t x → is_idle (leaf t x) ≡ true → (u : ℕ) → 0 < u → u < 2 ^ 33 → bound x u ≡ false
  no_idle_bound x i idle u p q = bound_leaf (set_boundary tasks) t r.tree x i u ∙ go (leaf t x) idle
    where
      go : (l : Leaf) → is_idle l ≡ true → set_boundary tasks l u ≡ false
      go (Task id) e = absurd (both_ways false refl e)
      go (Wait id) e = absurd (both_ways false refl e)
      go (Idle number) e = idle_late tasks number u p q
      go Empty e = absurd (both_ways false refl e)

  abbrev a_member : (x : ℕ) → IsLeaf t x → IsMember t x
  a_member x i = (i.0, not_pack_leaf (kind_at t x) i.1)

  pub idle_begin : (x : ℕ) → IsLeaf t x → is_idle (leaf t x) ≡ true → (u : ℕ) → u < 2 ^ 33 → window_begin (bound x) u ≡ 0
  idle_begin x i idle u l =
      let has = member_has (set_boundary tasks) t r.tree leaves_of x (a_member x i) in
      same_IsBegin (bound x) u (window_begin (bound x) u) 0 (begin_is (bound x) has.first u)
      (record { below = omega arith; here = has.first; last = λ v p q. no_idle_bound x i idle v p (omega (arith, q, l)) })

  pub idle_end : (x : ℕ) → IsLeaf t x → is_idle (leaf t x) ≡ true → (u : ℕ) → 2 ^ 33 ≤ window_end (bound x) u
  idle_end x i idle u =
      let has = member_has (set_boundary tasks) t r.tree leaves_of x (a_member x i) in
      let e = end_is (bound x) has u in
      let above = e.above in
      elim (cases_lt (window_end (bound x) u) (2 ^ 33)) [
        | inl low ↦ absurd (both_ways (bound x (window_end (bound x) u)) (no_idle_bound x i idle (window_end (bound x) u) (omega (arith, above)) low) e.here)
        | inr high ↦ high
      ]

  -- a member is an idle leaf, or another node, which is busy
  pub idle_or_busy : (x : ℕ) → IsMember t x → (IsLeaf t x × (is_idle (leaf t x) ≡ true)) ⊎ ((is_idle (leaf t x) ≡ false) × IsBusy tasks t units
      (start / t.scale) x)
  idle_or_busy x i = elim (cases_Bool (is_idle (leaf t x))) [
    | inl idle ↦ inl ((i.0, idle_leaf (kind_at t x) idle), idle)
    | inr other ↦ elim (member_is tasks r.each t r.tree r.holds units (start / t.scale) r.some r.released r.whole r.apart x i) [
      | inl idle ↦ absurd (both_ways (is_idle (leaf t x)) other idle.1)
      | inr busy ↦ inr (other, busy)
    ]
  ]

  -- the windows of busy members end soon
  pub busy_ends : (x : ℕ) → IsMember t x → IsBusy tasks t units (start / t.scale) x → (m u : ℕ) → start / t.scale ≤ m → u ≤ m →
      window_end (bound x) u ≤ m + units
  busy_ends x i busy = ends_within (bound x) (member_has (set_boundary tasks) t r.tree leaves_of x i) units (start / t.scale) busy.within

  -- a unit by which a pack ran no more than its members' rates, and no window of its members ends before
  supply : (p : ℕ) → (i : IsPack t p) → (m n : ℕ) → start / t.scale ≤ m → n / t.scale ≤ m →
      (end : ℕ) × (end ≤ m + units) × ((k : ℕ) → k < length (members t p) → end ≤ window_end (bound (member t p k)) (n / t.scale))
      × (ticks (run p) (suc n) ≤ sum_to (length (members t p)) (λ k. rate t (member t p k)) * end)
  supply p i m n low up = go (dual t p) refl
    where
      h : Serves (server (set_boundary tasks) t p)
      h = server_serves (set_boundary tasks) t r.tree leaves_of p i

      go : (o : Option ℕ) → dual t p ≡ o → (end : ℕ) × (end ≤ m + units) × ((k : ℕ) → k < length (members t p) → end ≤ window_end (bound (member t p k))
          (n / t.scale))
          × (ticks (run p) (suc n) ≤ sum_to (length (members t p)) (λ k. rate t (member t p k)) * end)
      go None e =
          (let all = ticks-le-all (run p) (suc n) in
          let some = r.some in
          let past = tick_below n (n / t.scale + 1) t.scale r.tree.scaled (omega arith) in
          let whole = ap (λ w. w * (n / t.scale + 1)) (r.tree.summed p i ∙ r.tree.roots_are p i e) in (
            n / t.scale + 1,
            omega (arith, up, some),
            (λ k l. (let above = (h.windows k l).open_still (n / t.scale) in omega (arith, above))),
            omega (arith, all, whole, past),
          ))
      go (Some d) e =
          (let busy = pack_busy tasks r.each t r.tree r.holds units (start / t.scale) r.some r.released r.whole r.apart (level t p) p d i refl e in
          let has = pack_has (set_boundary tasks) t r.tree leaves_of (level t p) p i refl in
          let end = window_end (bound p) (n / t.scale) in
          let near = ends_within (bound p) has units (start / t.scale) busy.within m (n / t.scale) low up in
          let fits = tick_below n end t.scale r.tree.scaled (end_is (bound p) has (n / t.scale)).above in
          let order = ticks-le (run p) (suc n) (end * t.scale) fits in
          let all = supplied_all (set_boundary tasks) t r.tree leaves_of p i end (begins_here (bound p) has end (end_is (bound p) has (n / t.scale)).here) in
          (end, near, (λ k l. h.ends_first k (n / t.scale) l), omega (arith, order, all)))

  -- where an idle leaf runs, no other member of its pack has anything left
  others_done : (p e : ℕ) → (i : IsPack t p) → (l : e < length (members t p)) → is_idle (leaf t (member t p e)) ≡ true → (m n : ℕ) → start / t.scale ≤ m →
      n / t.scale ≤ m →
      m + units < 2 ^ 33 → run (member t p e) n ≡ true → (k : ℕ) → k < length (members t p) → (k ≡ e → ⊥) → left (server (set_boundary tasks) t p) k n ≡ 0
  others_done p e i l idle m n low up early runs k b other =
      let v = server (set_boundary tasks) t p in
      let h = server_serves (set_boundary tasks) t r.tree leaves_of p i in
      elim (cases_eq (left v k n) 0) [
        | inl none ↦ none
        | inr more ↦
            (let (j, lj, on, soon) = h.earliest k n b (h.within e n l runs) (omega (arith, more)) in
            let same = h.alone j e n lj l on runs in
            let far = idle_end (member t p e) ((member_leaf p e i l idle)) idle (n / t.scale) in
            let P : ℕ → Type 0 = λ q. window_end (bound (member t p q)) (n / t.scale) ≤ window_end (bound (member t p k)) (n / t.scale) in
            let first = subst P same soon in
            elim (idle_or_busy (member t p k) (r.tree.members_are p k i b).0) [
              | inl too ↦ absurd (other (r.apart.one p k e i b l too.1 idle))
              | inr busy ↦ (let near = busy_ends (member t p k) (r.tree.members_are p k i b).0 busy.1 m (n / t.scale) low up in
                  absurd (omega (arith, far, first, near, early)))
            ])
      ]
    where
      member_leaf : (p e : ℕ) → (i : IsPack t p) → (l : e < length (members t p)) → is_idle (leaf t (member t p e)) ≡ true → IsLeaf t (member t p e)
      member_leaf p e i l idle = ((r.tree.members_are p e i l).0.0, idle_leaf (kind_at t (member t p e)) idle)

  -- so an idle leaf runs no more than its rate
  idle_within : (p e : ℕ) → (i : IsPack t p) → (l : e < length (members t p)) → is_idle (leaf t (member t p e)) ≡ true → (m : ℕ) → start / t.scale ≤ m →
      m + units < 2 ^ 33 →
      (n : ℕ) → n ≤ suc m * t.scale → ticks (run (member t p e)) n ≤ rate t (member t p e) * (m + units)
  idle_within p e i l idle m low early zero up = omega arith
  idle_within p e i l idle m low early (suc n) up =
      let ih = idle_within p e i l idle m low early n (omega (arith, up)) in
      let unit : n / t.scale ≤ m = (let w = unit_below n (suc m) t.scale r.tree.scaled (omega (arith, up)) in omega (arith, w)) in
      elim (cases_Bool (run (member t p e) n)) [
        | inr off ↦ (let z = bit_off (run (member t p e) n) off in omega (arith, ih, z))
        | inl on ↦
            (let (end, near, after, most) = supply p i m n low unit in
            let within = alone_within (server (set_boundary tasks) t p) (server_serves (set_boundary tasks) t r.tree leaves_of p i)
            (supplied_all (set_boundary tasks) t r.tree leaves_of p i)
            e n end l (others_done p e i l idle m n low unit early on) after most in
            let far = mul-le-mul_left (rate t (member t p e)) near in
            omega (arith, within, far))
      ]

  -- and has always something left
  pub idle_left : (x : ℕ) → (i : IsLeaf t x) → is_idle (leaf t x) ≡ true → (n : ℕ) → start ≤ n → n / t.scale + units < 2 ^ 33 →
      0 < left_at (set_boundary tasks) t n x
  idle_left x i idle n after low =
      let u = n / t.scale in
      let some = r.some in
      let m = a_member x i in
      let at = r.tree.homes_are x m in
      let idle' : is_idle (leaf t (member t (home t x) (place t x))) ≡ true = ap (λ y. is_idle (leaf t y)) at.2 ∙ idle in
      let before : n < suc u * t.scale = tick_below n (suc u) t.scale r.tree.scaled (omega arith) in
      let P : ℕ → Type 0 = λ y. ticks (run y) n ≤ rate t y * (u + units) in
      let within : ticks (run x) n ≤ rate t x * (u + units) =
      subst P at.2 (idle_within (home t x) (place t x) at.0 at.1 idle' u (unit_order start n t.scale r.tree.scaled after) low n (omega (arith, before))) in
      let left = left_is (set_boundary tasks) t x n (on_time (set_boundary tasks) t r.tree leaves_of x n m) in
      let begin = idle_begin x i idle u (omega (arith, low)) in
      let end = idle_end x i idle u in
      let none = ticks_at_none (run x) (window_begin (bound x) u) t.scale begin in
      let positive = (r.tree.leaves_are x i).1 in
      let whole : rate t x * (2 ^ 33 - 0) ≤ rate t x * (window_end (bound x) u - window_begin (bound x) u) = mul-le-mul_left (rate t x)
      (omega (arith, begin, end)) in
      let less : rate t x * (u + units) < rate t x * (2 ^ 33 - 0) = go (rate t x) (u + units) positive low in
      omega (arith, left, within, none, whole, less)
    where
      go : (a b : ℕ) → 0 < a → b < 2 ^ 33 → a * b < a * (2 ^ 33 - 0)
      go a b p l = (let s : a * (b + 1) ≤ a * (2 ^ 33 - 0) = mul-le-mul_left a (omega (arith, l)) in omega (arith, s, p))
