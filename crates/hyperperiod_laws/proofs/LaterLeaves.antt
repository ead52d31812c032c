-- The boundaries of a set's tree from a unit on at which no task is late, where each period divides `units`.
use Rattle.std.proofs.Common.{Bool, List, [], None, Some, ap, arith, div-add-mod', eq-eqb, eqb, false, inl, inr, le-leb, leb, length, mod-lt, refl}
use Rattle.std.proofs.Common.{suc, sym, true, zero, ℕ, ◌%◌, ◌&&◌, ◌*◌, ◌+◌, ◌-◌, ◌/◌, ◌<◌, ◌≤◌, ◌^◌, ◌||◌, ◌∙◌, ◌≡◌, ◌⊎◌, ◌∷◌}
use Rattle.std.proofs.lemmas.Bool.{both_ways, cases_eq, ne_eqb, or_left}
use Rattle.std.proofs.lemmas.Nat.Gcd.{le_of_dvd, mod-eq-zero_of_dvd}
use Rattle.std.specs.Int.{◌∣◌}
use Rattle.std.specs.List.{AllByRecursion}
use native.Mathlib.Nat.{add-mul-mod_self_right, zero-mod}
use Rattle.sched_base.specs.declared.rows.Leaf.{Leaf}
use Rattle.sched_base.specs.declared.rows.Leaf.TheVariants.{Empty, Idle, Task, Wait}
use Rattle.sched_base.specs.declared.sets.Task as declared
use Rattle.sched_base.specs.Boundaries.{task_boundary}
use Rattle.sched_base.specs.Scale.{PeriodsDivide}
use Rattle.sched_base.specs.Sets.{IsLawfulTask, task_at}
use Rattle.run_tree.specs.Boundaries.{HaveBoundaries, is_boundary, set_boundary}
use Rattle.run_tree.specs.Tree.{IsDual, IsLeaf, IsMember, IsPack, IsTree, Tree, dual, is_pack, kind_at, leaf, level, member, members, primal}
use Rattle.run_tree.specs.TreeOfSet.{HoldsTasks, is_idle, is_real}
use Rattle.run_tree.proofs.BoundaryLemmas.{bound_dual, bound_leaf, bound_member, member_has}
use Rattle.run_tree.proofs.KindLemmas.{KindOf, kind_of}
use Rattle.run_tree.proofs.SetBoundaryLemmas.{each_lawful, idle_late, offset_at}
use Rattle.repeat_laws.proofs.Repeating.{of_task}
use Rattle.hyperperiod_laws.specs.Hyperperiods.{IdlesApart}
use Rattle.hyperperiod_laws.proofs.LaterBoundaries.{same_bound_member}
use Rattle.hyperperiod_laws.proofs.LaterWindows.{AreWithin}

-- what holds of each task holds of it by what it says
pub each_by : (P Q : declared.Task → Type 0) → ((k : declared.Task) → P k → Q k) → (tasks : List declared.Task) → AllByRecursion P tasks →
    AllByRecursion Q tasks
each_by P Q f [] all = tt
each_by P Q f (k ∷ tasks) all = (f k all.0, each_by P Q f tasks all.1)

-- from its offset on a task has its boundaries at the multiples of its period
pub released_boundary : (k : declared.Task) (u : ℕ) → k.offset ≤ u → task_boundary k u ≡ eqb ((u - k.offset) % k.period) 0
released_boundary k u l = elim (cases_eq u 0) [
  | inl z ↦
      (let e : u - k.offset ≡ 0 = omega (arith, z) in
      or_left (eqb u 0) (leb k.offset u && eqb ((u - k.offset) % k.period) 0) (eq-eqb u 0 z)
      ∙ sym (eq-eqb ((u - k.offset) % k.period) 0 (ap (λ w. w % k.period) e ∙ zero-mod k.period)))
  | inr ne ↦
      ap (λ (b : Bool). b || (leb k.offset u && eqb ((u - k.offset) % k.period) 0)) (ne_eqb u 0 ne)
      ∙ ap (λ (b : Bool). b && eqb ((u - k.offset) % k.period) 0) (le-leb k.offset u l)
]

-- so they come again
pub task_later : (k : declared.Task) (u units : ℕ) → k.offset ≤ u → units % k.period ≡ 0 → task_boundary k (u + units) ≡ task_boundary k u
task_later k u units l whole =
    let d = div-add-mod' units k.period in
    let e : u + units - k.offset ≡ u - k.offset + units / k.period * k.period = omega (arith, l, d, whole) in
    released_boundary k (u + units) (omega (arith, l)) ∙ ap (λ w. eqb (w % k.period) 0) e
    ∙ ap (λ w. eqb w 0) (add-mul-mod_self_right (u - k.offset) (units / k.period) k.period) ∙ sym (released_boundary k u l)

-- and one of them is within `units` above each unit
pub task_within : (k : declared.Task) (units from : ℕ) → 0 < k.period → k.offset ≤ from → 1 ≤ units → k.period ∣ units → AreWithin (task_boundary k) units from
task_within k units from p l some whole = λ u low.
    let q = (u - k.offset) / k.period in
    let d = div-add-mod' (u - k.offset) k.period in
    let m = mod-lt (u - k.offset) p in
    let most = le_of_dvd (omega (arith, some)) whole in
    (k.offset + (q + 1) * k.period, omega (arith, l, low, d, m), omega (arith, l, low, d, m, most), offset_at k (q + 1))

-- From a unit on a node has boundaries that come again: one within `units` above each, and one at `units`, where that unit is 0.
pub record IsBusy (tasks : List declared.Task) (t : Tree) (units from x : ℕ) : Type 0 where
  pub within : AreWithin (is_boundary (set_boundary tasks) t x) units from
  pub first : from ≡ 0 → is_boundary (set_boundary tasks) t x units ≡ true

-- an idle leaf, or a node with such boundaries
abbrev pub IdleOrBusy : List declared.Task → Tree → ℕ → ℕ → ℕ → Type 0
IdleOrBusy tasks t units from x = (IsLeaf t x × (is_idle (leaf t x) ≡ true)) ⊎ IsBusy tasks t units from x

-- a node that has all boundaries of another
busier : (tasks : List declared.Task) (t : Tree) (units from x y : ℕ) → ((u : ℕ) → is_boundary (set_boundary tasks) t x u ≡ true →
    is_boundary (set_boundary tasks) t y u ≡ true) →
    IsBusy tasks t units from x → IsBusy tasks t units from y
busier tasks t units from x y more busy = record {
  within = λ u low. (let (v, above, near, at) = busy.within u low in (v, above, near, more v at));
  first = λ z. more units (busy.first z);
}

module _ (tasks : List declared.Task) (t : Tree) (h : IsTree t) (holds : HoldsTasks tasks t) (units from : ℕ)
    (released : AllByRecursion (λ k. k.offset ≤ from) tasks) (whole : PeriodsDivide tasks units) where
  -- the boundaries of a task's leaf come again
  pub task_leaf_later : (x : ℕ) → IsLeaf t x → is_idle (leaf t x) ≡ false → (u : ℕ) → from ≤ u → set_boundary tasks (leaf t x) (u + units) ≡ set_boundary
      tasks (leaf t x) u
  task_leaf_later x i busy u low = go (leaf t x) refl busy
    where
      go : (l : Leaf) → leaf t x ≡ l → is_idle l ≡ false → set_boundary tasks l (u + units) ≡ set_boundary tasks l u
      go (Task id) e b =
          (let l = holds.known x id i e in
          let late = of_task (λ k. k.offset ≤ from) tasks id.0 released l in
          task_later (task_at tasks id.0) u units (omega (arith, late, low))
          (mod-eq-zero_of_dvd (task_at tasks id.0).period (of_task (λ k. k.period ∣ units) tasks id.0 whole l)))
      go (Wait id) e b = refl
      go (Idle number) e b = absurd (both_ways true b refl)
      go Empty e b = refl

  -- those of each leaf do, but for idle leaves at unit 0 and from unit 2 ^ 33 on
  pub leaf_later : (u : ℕ) → 0 < u → from ≤ u → u + units < 2 ^ 33 → (x : ℕ) → IsLeaf t x → set_boundary tasks (leaf t x) (u + units) ≡ set_boundary tasks
      (leaf t x) u
  leaf_later u p low l x i = go (leaf t x) refl
    where
      go : (m : Leaf) → leaf t x ≡ m → set_boundary tasks (leaf t x) (u + units) ≡ set_boundary tasks (leaf t x) u
      go (Task id) e = task_leaf_later x i (ap is_idle e) u low
      go (Wait id) e = task_leaf_later x i (ap is_idle e) u low
      go (Idle number) e =
          ap (λ m. set_boundary tasks m (u + units)) e ∙ idle_late tasks number (u + units) (omega (arith, p)) l
          ∙ sym (ap (λ m. set_boundary tasks m u) e ∙ idle_late tasks number u p (omega (arith, l)))
      go Empty e = task_leaf_later x i (ap is_idle e) u low

  -- and so do those of each node
  pub member_later : (x : ℕ) → IsMember t x → (u : ℕ) → 0 < u → from ≤ u → u + units < 2 ^ 33 → is_boundary (set_boundary tasks) t x
      (u + units) ≡ is_boundary (set_boundary tasks) t x u
  member_later x i u p low l = same_bound_member (set_boundary tasks) t h (u + units) u (leaf_later u p low l) x i

  -- at unit 0 too, where the node is busy
  pub busy_later : HaveBoundaries (set_boundary tasks) t → (x : ℕ) → IsMember t x → IsBusy tasks t units from x → (u : ℕ) → from ≤ u → u + units < 2 ^ 33 →
      is_boundary (set_boundary tasks) t x (u + units) ≡ is_boundary (set_boundary tasks) t x u
  busy_later leaves x i busy u low l = elim (cases_eq u 0) [
    | inr ne ↦ member_later x i u (omega (arith, ne)) low l
    | inl z ↦
        (let e : u + units ≡ units = omega (arith, z) in
        ap (is_boundary (set_boundary tasks) t x) e ∙ busy.first (omega (arith, z, low))
        ∙ sym (ap (is_boundary (set_boundary tasks) t x) z ∙ (member_has (set_boundary tasks) t h leaves x i).first))
  ]

module _ (tasks : List declared.Task) (each : AllByRecursion IsLawfulTask tasks) (t : Tree) (h : IsTree t) (holds : HoldsTasks tasks t) (units from : ℕ)
    (some : 1 ≤ units)
    (released : AllByRecursion (λ k. k.offset ≤ from) tasks) (whole : PeriodsDivide tasks units) where
  pub leaf_is : (x : ℕ) → IsLeaf t x → IdleOrBusy tasks t units from x
  leaf_is x i = go (leaf t x) refl
    where
      go : (l : Leaf) → leaf t x ≡ l → IdleOrBusy tasks t units from x
      go (Task id) e =
          (let l = holds.known x id i e in
          let k = task_at tasks id.0 in
          let late = of_task (λ k. k.offset ≤ from) tasks id.0 released l in
          let divides = of_task (λ k. k.period ∣ units) tasks id.0 whole l in
          let k_lawful = each_lawful tasks id.0 each l in
          let positive : 0 < k.period = (let a = k_lawful.some_work in let b = k_lawful.work_fits in omega (arith, a, b)) in
          let bound : (u : ℕ) → is_boundary (set_boundary tasks) t x u ≡ task_boundary k u = (λ u. bound_leaf (set_boundary tasks) t h x i u
          ∙ ap (λ m. set_boundary tasks m u) e) in
          inr (record {
            within = λ u low. (let (v, above, near, at) = task_within k units from positive late some divides u low in (v, above, near, bound v ∙ at));
            first = λ z. (
                let on_time : k.offset ≡ 0 = omega (arith, z, late) in
                let start : units - k.offset ≡ units = omega (arith, on_time) in
                bound units ∙ released_boundary k units (omega (arith, on_time))
                ∙ ap (λ w. eqb (w % k.period) 0) start ∙ eq-eqb (units % k.period) 0 (mod-eq-zero_of_dvd k.period divides));
          }))
      go (Wait id) e = absurd (both_ways (is_real (leaf t x)) (ap is_real e) (holds.real x i))
      go (Idle number) e = inl (i, ap is_idle e)
      go Empty e = absurd (both_ways (is_real (leaf t x)) (ap is_real e) (holds.real x i))

module _ (tasks : List declared.Task) (each : AllByRecursion IsLawfulTask tasks) (t : Tree) (h : IsTree t) (holds : HoldsTasks tasks t) (units from : ℕ)
    (some : 1 ≤ units)
    (released : AllByRecursion (λ k. k.offset ≤ from) tasks) (whole : PeriodsDivide tasks units) (apart : IdlesApart t) where
  -- a member makes its pack busy
  busy_by : (p k : ℕ) → (i : IsPack t p) → (l : k < length (members t p)) → IsBusy tasks t units from (member t p k) → IsBusy tasks t units from p
  busy_by p k i l busy = busier tasks t units from (member t p k) p (λ u e. bound_member (set_boundary tasks) t h p k i l u e) busy

  -- a pack that is no root is busy
  pub pack_busy : (n p d : ℕ) → IsPack t p → level t p ≡ n → dual t p ≡ Some d → IsBusy tasks t units from p
  pack_busy zero p d i at e = first (h.filled p i) (cases_eq (length (members t p)) 1)
    where
      a_leaf : (k : ℕ) → k < length (members t p) → IsLeaf t (member t p k)
      a_leaf k l = go (kind_of (kind_at t (member t p k)))
        where
          go : KindOf (kind_at t (member t p k)) → IsLeaf t (member t p k)
          go (inl is) = ((h.members_are p k i l).0.0, is)
          go (inr (inl is)) = (let up = (h.duals_are (member t p k) ((h.members_are p k i l).0.0, is)).2 in let same = ap (level t)
              (h.members_are p k i l).1 in absurd (omega (arith, up, same, at)))
          go (inr (inr is)) = absurd (both_ways (is_pack (kind_at t (member t p k))) (h.members_are p k i l).0.1 is)

      first : 0 < length (members t p) → (length (members t p) ≡ 1) ⊎ (length (members t p) ≡ 1 → ⊥) → IsBusy tasks t units from p
      first one' (inl one) = elim (leaf_is tasks each t h holds units from some released whole (member t p 0) (a_leaf 0 one')) [
        | inl idle ↦ (let e' : None ≡ Some d = sym (apart.root p i one idle.1) ∙ e in absurd cc)
        | inr busy ↦ busy_by p 0 i one' busy
      ]
      first one' (inr more) =
          let two : 1 < length (members t p) = omega (arith, one', more) in
          elim (leaf_is tasks each t h holds units from some released whole (member t p 0) (a_leaf 0 one')) [
            | inr busy ↦ busy_by p 0 i one' busy
            | inl idle ↦ elim (leaf_is tasks each t h holds units from some released whole (member t p 1) (a_leaf 1 two)) [
              | inr busy ↦ busy_by p 1 i two busy
              | inl idle' ↦ (let z : 0 ≡ 1 = apart.one p 0 1 i one' two idle.1 idle'.1 in absurd (omega (arith, z)))
            ]
          ]
  pack_busy (suc n) p d i at e = busy_by p 0 i (h.filled p i) (go (pack_busy n) (kind_of (kind_at t (member t p 0))))
    where
      go : ((q c : ℕ) → IsPack t q → level t q ≡ n → dual t q ≡ Some c → IsBusy tasks t units from q) → KindOf (kind_at t (member t p 0)) →
          IsBusy tasks t units from (member t p 0)
      go ih (inl is) = (let down = (h.leaves_are (member t p 0) ((h.members_are p 0 i (h.filled p i)).0.0, is)).0 in let same = ap (level t)
          (h.members_are p 0 i (h.filled p i)).1 in absurd (omega (arith, down, same, at)))
      go ih (inr (inl is)) =
          (let a : IsDual t (member t p 0) = ((h.members_are p 0 i (h.filled p i)).0.0, is) in
          let o = h.duals_are (member t p 0) a in
          let up = o.2 in
          let same = ap (level t) (h.members_are p 0 i (h.filled p i)).1 in
          busier tasks t units from (primal t (member t p 0)) (member t p 0) (λ u b. bound_dual (set_boundary tasks) t h (member t p 0) a u ∙ b)
          (ih (primal t (member t p 0)) (member t p 0) o.0 (omega (arith, up, same, at)) o.1))
      go ih (inr (inr is)) = absurd (both_ways (is_pack (kind_at t (member t p 0))) (h.members_are p 0 i (h.filled p i)).0.1 is)

  -- each member is an idle leaf or busy
  pub member_is : (x : ℕ) → IsMember t x → IdleOrBusy tasks t units from x
  member_is x i = go (kind_of (kind_at t x))
    where
      go : KindOf (kind_at t x) → IdleOrBusy tasks t units from x
      go (inl is) = leaf_is tasks each t h holds units from some released whole x (i.0, is)
      go (inr (inl is)) =
          (let a : IsDual t x = (i.0, is) in
          let o = h.duals_are x a in
          inr (busier tasks t units from (primal t x) x (λ u b. bound_dual (set_boundary tasks) t h x a u ∙ b) (pack_busy (level t (primal t x))
          (primal t x) x o.0 refl o.1)))
      go (inr (inr is)) = absurd (both_ways (is_pack (kind_at t x)) i.1 is)
