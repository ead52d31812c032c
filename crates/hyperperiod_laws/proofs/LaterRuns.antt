-- What runs comes again.
use Rattle.std.proofs.Common.{Bool, List, ap, ap₂, arith, false, inl, inr, le_refl, length, subst, suc, sym, true, zero, ℕ, ◌&&◌, ◌*◌, ◌+◌, ◌-◌, ◌/◌}
use Rattle.std.proofs.Common.{◌<◌, ◌^◌, ◌∙◌, ◌≡◌, ◌≤◌, ◌⊎◌}
use Rattle.std.proofs.lemmas.Bool.{cases_Bool, cases_eq, cases_lt}
use Rattle.sched_base.specs.declared.sets.Task as declared
use Rattle.sched_base.specs.Candidates.{is_at}
use Rattle.sched_base.specs.Counting.{ticks}
use Rattle.sched_base.proofs.CountingLemmas.{ticks-le}
use Rattle.sched_base.proofs.UnitLemmas.{tick_below, unit_below}
use Rattle.run_tree.specs.Boundaries.{is_boundary, set_boundary}
use Rattle.run_tree.specs.Runs.{is_picked, runs}
use Rattle.run_tree.specs.Tree.{IsLeaf, IsMember, IsPack, Tree, home, is_pack, kind_at, leaf, level, member, members, place, rate}
use Rattle.run_tree.specs.TreeOfSet.{is_idle}
use Rattle.run_tree.specs.Windows.{window_begin, window_end}
use Rattle.run_tree.proofs.BoundaryLemmas.{member_has}
use Rattle.run_tree.proofs.RunLemmas.{ends_at, ends_is, left_at, left_is, now_pack, on_time, run_member, runs_is, same_pack_runs}
use Rattle.run_tree.proofs.WindowLemmas.{windows_of}
use Rattle.hyperperiod_laws.proofs.IdleLeaves.{Recurs, busy_ends, idle_begin, idle_end, idle_left, idle_or_busy, leaves_of, unit_order}
use Rattle.hyperperiod_laws.proofs.LaterLeaves.{IsBusy, busy_later}
use Rattle.hyperperiod_laws.proofs.LaterPicks.{alike_members}
use Rattle.hyperperiod_laws.proofs.LaterWindows.{begins_later, ends_later, still_later, ticks_between, unit_later}

-- a tick from `start` on, up to which all comes again, in a unit that is early enough
module _ (tasks : List declared.Task) (t : Tree) (units start : ℕ) (r : Recurs tasks t units start) (n : ℕ) (after : start ≤ n)
    (low : n / t.scale + 2 * units < 2 ^ 33)
    (same : (m x : ℕ) → start ≤ m → m < n → x < length t.nodes → runs (set_boundary tasks) t x (m + units * t.scale) ≡ runs (set_boundary tasks) t x m) where
  -- the tick so many units later
  abbrev then : ℕ
  then = n + units * t.scale

  -- the boundaries of a node
  abbrev test : ℕ → ℕ → Bool
  test = is_boundary (set_boundary tasks) t

  -- the unit of the first of these ticks
  abbrev from : ℕ
  from = start / t.scale

  -- this tick's unit isn't before it
  from_unit : from ≤ n / t.scale
  from_unit = unit_order start n t.scale r.tree.scaled after

  then_unit : then / t.scale ≡ n / t.scale + units
  then_unit = unit_later n units t.scale r.tree.scaled

  start_unit : (start + units * t.scale) / t.scale ≡ from + units
  start_unit = unit_later start units t.scale r.tree.scaled

  -- the boundaries of a busy node come again
  busy_bounds : (x : ℕ) → IsMember t x → IsBusy tasks t units from x → (u : ℕ) → from ≤ u → u + units < 2 ^ 33 → test x (u + units) ≡ test x u
  busy_bounds x i busy = busy_later tasks t r.tree r.holds units from r.released r.whole (leaves_of tasks t units start r) x i busy

  -- windows of busy nodes
  busy_end-le : (x : ℕ) → IsMember t x → IsBusy tasks t units from x → window_end (test x) (n / t.scale) ≤ n / t.scale + units
  busy_end-le x i busy = busy_ends tasks t units start r x i busy (n / t.scale) (n / t.scale) from_unit (le_refl (n / t.scale))

  busy_end : (x : ℕ) → IsMember t x → IsBusy tasks t units from x → window_end (test x) (then / t.scale) ≡ window_end (test x) (n / t.scale) + units
  busy_end x i busy =
      let within = busy_end-le x i busy in
      ap (window_end (test x)) then_unit
      ∙ ends_later (test x) (member_has (set_boundary tasks) t r.tree (leaves_of tasks t units start r) x i) units (2 ^ 33) from
      (busy_bounds x i busy) (n / t.scale) from_unit (omega (arith, within, low))

  -- one that began after the first of these ticks has as much left so many units later
  later_left : (x : ℕ) → IsMember t x → IsBusy tasks t units from x → from < window_begin (test x) (n / t.scale) →
      left_at (set_boundary tasks) t then x ≡ left_at (set_boundary tasks) t n x
  later_left x i busy late =
      let b = window_begin (test x) (n / t.scale) in
      let e = window_end (test x) (n / t.scale) in
      let d = units * t.scale in
      let leaves = leaves_of tasks t units start r in
      let begin : window_begin (test x) (then / t.scale) ≡ b + units =
      ap (window_begin (test x)) then_unit
      ∙ begins_later (test x) (member_has (set_boundary tasks) t r.tree leaves x i) units (2 ^ 33) from (busy_bounds x i busy) (n / t.scale)
      (omega (arith, late)) (omega (arith, low)) in
      let early = on_time (set_boundary tasks) t r.tree leaves x n i in
      let before = left_is (set_boundary tasks) t x n early in
      let after' = left_is (set_boundary tasks) t x then (on_time (set_boundary tasks) t r.tree leaves x then i) in
      let due : rate t x * (window_end (test x) (then / t.scale) - window_begin (test x) (then / t.scale)) ≡ rate t x * (e - b) =
      ap (λ w. rate t x * w) (let q = busy_end x i busy in omega (arith, begin, q)) in
      let past : start < b * t.scale = tick_below start b t.scale r.tree.scaled late in
      let ran = ticks_between (runs (set_boundary tasks) t x) d start (n - start) (λ m l h. same m x l (omega (arith, h, after)) i.0) in
      let first = ticks_between (runs (set_boundary tasks) t x) d start (b * t.scale - start) (λ m l h. same m x l (omega (arith, h, past, early)) i.0) in
      let at_n : start + (n - start) ≡ n = omega (arith, after) in
      let at_b : start + (b * t.scale - start) ≡ b * t.scale = omega (arith, past) in
      let f = ticks (runs (set_boundary tasks) t x) in
      let n' = ap f at_n in
      let n'' = ap (λ w. f (w + d)) at_n in
      let b' = ap f at_b in
      let b'' = ap (λ w. f (w + d)) at_b in
      let whole : window_begin (test x) (then / t.scale) * t.scale ≡ b * t.scale + d = (let p = ap (λ w. w * t.scale) begin in omega (arith, p)) in
      let at = ap f whole in
      omega (arith, before, after', due, ran, first, at, n', n'', b', b'')

  -- and so has one that was open there
  still_left : (x : ℕ) → IsMember t x → is_idle (leaf t x) ≡ false → IsBusy tasks t units from x → window_begin (test x) (n / t.scale) ≤ from →
      left_at (set_boundary tasks) t then x ≡ left_at (set_boundary tasks) t n x
  still_left x i other busy begun =
      let d = units * t.scale in
      let leaves = leaves_of tasks t units start r in
      let has = member_has (set_boundary tasks) t r.tree leaves x i in
      let w = windows_of (test x) has in
      let above = w.open_still (n / t.scale) in
      let above' = w.open_still (then / t.scale) in
      let low' = from_unit in
      let unit = then_unit in
      let begun' : window_begin (test x) (then / t.scale) ≤ from + units =
      (let P : ℕ → Type 0 = λ u. window_begin (test x) u ≤ from + units in
      subst P (sym then_unit) (still_later (test x) has units (2 ^ 33) from (busy_bounds x i busy) from (n / t.scale) (le_refl from) from_unit begun
      (omega (arith, low)))) in
      let b = w.same_begin (n / t.scale) from begun (omega (arith, above, low')) in
      let e = w.same_end (n / t.scale) from begun (omega (arith, above, low')) in
      let b' = ap (window_begin (test x)) start_unit ∙ w.same_begin (then / t.scale) (from + units) begun' (omega (arith, above', low', unit)) in
      let e' = ap (window_end (test x)) start_unit ∙ w.same_end (then / t.scale) (from + units) begun' (omega (arith, above', low', unit)) in
      let now = left_is (set_boundary tasks) t x n (on_time (set_boundary tasks) t r.tree leaves x n i) in
      let now' = left_is (set_boundary tasks) t x then (on_time (set_boundary tasks) t r.tree leaves x then i) in
      let early = on_time (set_boundary tasks) t r.tree leaves x start i in
      let early' = on_time (set_boundary tasks) t r.tree leaves x (start + d) i in
      let there = left_is (set_boundary tasks) t x start early in
      let there' = left_is (set_boundary tasks) t x (start + d) early' in
      let due = ap₂ (λ p q. rate t x * (p - q)) e b in
      let due' = ap₂ (λ p q. rate t x * (p - q)) e' b' in
      let f = ticks (runs (set_boundary tasks) t x) in
      let whole = ap (λ q. f (q * t.scale)) b in
      let whole' = ap (λ q. f (q * t.scale)) b' in
      let given = r.left x i other in
      let ran = ticks_between (runs (set_boundary tasks) t x) d start (n - start) (λ m l h. same m x l (omega (arith, h, after)) i.0) in
      let at_n : start + (n - start) ≡ n = omega (arith, after) in
      let n' = ap f at_n in
      let n'' = ap (λ q. f (q + d)) at_n in
      let order = ticks-le (runs (set_boundary tasks) t x) (window_begin (test x) (start / t.scale) * t.scale) start early in
      let order' = ticks-le (runs (set_boundary tasks) t x) (window_begin (test x) ((start + d) / t.scale) * t.scale) (start + d) early' in
      let up = ticks-le (runs (set_boundary tasks) t x) start n after in
      omega (arith, now, now', there, there', due, due', whole, whole', given, ran, n', n'', order, order', up)

  -- busy nodes have as much left
  pub busy_left : (x : ℕ) → IsMember t x → is_idle (leaf t x) ≡ false → IsBusy tasks t units from x → left_at (set_boundary tasks) t then x ≡ left_at
      (set_boundary tasks) t n x
  busy_left x i other busy = elim (cases_lt from (window_begin (test x) (n / t.scale))) [
    | inl late ↦ later_left x i busy late
    | inr begun ↦ still_left x i other busy begun
  ]

  -- an idle leaf's window stays
  still_end : (x : ℕ) → IsLeaf t x → IsMember t x → is_idle (leaf t x) ≡ true → window_end (test x) (then / t.scale) ≡ window_end (test x) (n / t.scale)
  still_end x i m idle =
      let w = windows_of (test x) (member_has (set_boundary tasks) t r.tree (leaves_of tasks t units start r) x m) in
      let begin = idle_begin tasks t units start r x i idle (n / t.scale) (omega (arith, low)) in
      let end = idle_end tasks t units start r x i idle (n / t.scale) in
      let unit = then_unit in
      w.same_end (n / t.scale) (then / t.scale) (omega (arith, begin)) (omega (arith, end, unit, low))

  -- ends stand in the same order
  later_end : (x : ℕ) → IsMember t x → ((ends_at (set_boundary tasks) t then x ≡ ends_at (set_boundary tasks) t n x)
      × (2 ^ 33 ≤ ends_at (set_boundary tasks) t n x))
      ⊎ ((ends_at (set_boundary tasks) t then x ≡ ends_at (set_boundary tasks) t n x + units) × (ends_at (set_boundary tasks) t n x + units < 2 ^ 33))
  later_end x i =
      let here = ends_is (set_boundary tasks) t x n in
      let there = ends_is (set_boundary tasks) t x then in
      elim (idle_or_busy tasks t units start r x i) [
        | inl idle ↦ (let s = still_end x idle.0 i idle.1 in let far = idle_end tasks t units start r x idle.0 idle.1 (n / t.scale) in
            inl (omega (arith, here, there, s), omega (arith, here, far)))
        | inr busy ↦ (let s = busy_end x i busy.1 in let near = busy_end-le x i busy.1 in inr (omega (arith, here, there, s), omega (arith, here, near, low)))
      ]

  -- the same ones have something left
  some_later : (x : ℕ) → IsMember t x → 0 < left_at (set_boundary tasks) t n x → 0 < left_at (set_boundary tasks) t then x
  some_later x i some =
      elim (idle_or_busy tasks t units start r x i) [
        | inl idle ↦ idle_left tasks t units start r x idle.0 idle.1 then (omega (arith, after)) (let unit = then_unit in omega (arith, unit, low))
        | inr busy ↦ (let s = busy_left x i busy.0 busy.1 in omega (arith, s, some))
      ]

  some_before : (x : ℕ) → IsMember t x → 0 < left_at (set_boundary tasks) t then x → 0 < left_at (set_boundary tasks) t n x
  some_before x i some =
      elim (idle_or_busy tasks t units start r x i) [
        | inl idle ↦ idle_left tasks t units start r x idle.0 idle.1 n after (omega (arith, low))
        | inr busy ↦ (let s = busy_left x i busy.0 busy.1 in omega (arith, s, some))
      ]

  -- so each pack picks the same member
  picked_later : (x : ℕ) → IsMember t x → is_picked t (left_at (set_boundary tasks) t then) (ends_at (set_boundary tasks) t then) x
      ≡ is_picked t (left_at (set_boundary tasks) t n) (ends_at (set_boundary tasks) t n) x
  picked_later x i =
      let p = (r.tree.homes_are x i).0 in
      let at : (k : ℕ) → k < length (members t (home t x)) → IsMember t (member t (home t x) k) = (λ k l. (r.tree.members_are (home t x) k p l).0) in
      ap (λ o. is_at o (place t x))
      (sym (alike_members (ends_at (set_boundary tasks) t n) (left_at (set_boundary tasks) t n) (ends_at (set_boundary tasks) t then)
      (left_at (set_boundary tasks) t then) (members t (home t x))
      (λ j k lj lk less. before (later_end (member t (home t x) j) (at j lj)) (later_end (member t (home t x) k) (at k lk)) less)
      (λ j k lj lk e. equal (later_end (member t (home t x) j) (at j lj)) (later_end (member t (home t x) k) (at k lk)) e)
      (λ k l. some_later (member t (home t x) k) (at k l))
      (λ k l. some_before (member t (home t x) k) (at k l))))
    where
      before : {a b c d : ℕ} → ((a ≡ b) × (2 ^ 33 ≤ b)) ⊎ ((a ≡ b + units) × (b + units < 2 ^ 33)) → ((c ≡ d) × (2 ^ 33 ≤ d))
          ⊎ ((c ≡ d + units) × (d + units < 2 ^ 33)) → b < d → a < c
      before (inl x) (inl y) l = (let p = x.0 in let q = y.0 in omega (arith, p, q, l))
      before (inl x) (inr y) l = (let p = x.1 in let q = y.1 in absurd (omega (arith, p, q, l)))
      before (inr x) (inl y) l = (let p = x.0 in let q = y.0 in let v = x.1 in let w = y.1 in omega (arith, p, q, v, w, l))
      before (inr x) (inr y) l = (let p = x.0 in let q = y.0 in omega (arith, p, q, l))

      equal : {a b c d : ℕ} → ((a ≡ b) × (2 ^ 33 ≤ b)) ⊎ ((a ≡ b + units) × (b + units < 2 ^ 33)) → ((c ≡ d) × (2 ^ 33 ≤ d))
          ⊎ ((c ≡ d + units) × (d + units < 2 ^ 33)) → b ≡ d → a ≡ c
      equal (inl x) (inl y) l = (let p = x.0 in let q = y.0 in omega (arith, p, q, l))
      equal (inl x) (inr y) l = (let p = x.1 in let q = y.1 in absurd (omega (arith, p, q, l)))
      equal (inr x) (inl y) l = (let v = x.1 in let w = y.1 in absurd (omega (arith, v, w, l)))
      equal (inr x) (inr y) l = (let p = x.0 in let q = y.0 in omega (arith, p, q, l))

  -- the same packs run
  run_pack_later : (p : ℕ) → IsPack t p → runs (set_boundary tasks) t p then ≡ runs (set_boundary tasks) t p n
  run_pack_later p i =
      runs_is (set_boundary tasks) t p then i.0 ∙ now_pack t r.tree (left_at (set_boundary tasks) t then) (ends_at (set_boundary tasks) t then) p i
      ∙ same_pack_runs t r.tree (is_picked t (left_at (set_boundary tasks) t then) (ends_at (set_boundary tasks) t then))
      (is_picked t (left_at (set_boundary tasks) t n) (ends_at (set_boundary tasks) t n)) picked_later (t.levels - 1 - level t p) p i
      ∙ sym (now_pack t r.tree (left_at (set_boundary tasks) t n) (ends_at (set_boundary tasks) t n) p i) ∙ sym (runs_is (set_boundary tasks) t p n i.0)

  -- the same members run
  run_member_later : (x : ℕ) → IsMember t x → runs (set_boundary tasks) t x then ≡ runs (set_boundary tasks) t x n
  run_member_later x i =
      run_member (set_boundary tasks) t r.tree x then i
      ∙ ap₂ (λ (a b : Bool). a && b) (run_pack_later (home t x) (r.tree.homes_are x i).0) (picked_later x i)
      ∙ sym (run_member (set_boundary tasks) t r.tree x n i)

  pub run_later : (x : ℕ) → x < length t.nodes → runs (set_boundary tasks) t x then ≡ runs (set_boundary tasks) t x n
  run_later x l = elim (cases_Bool (is_pack (kind_at t x))) [
    | inl on ↦ run_pack_later x (l, on)
    | inr off ↦ run_member_later x (l, off)
  ]

-- what runs comes again, tick by tick
module _ (tasks : List declared.Task) (t : Tree) (units start : ℕ) (r : Recurs tasks t units start) where
  -- a tick whose unit is early enough
  pub early_unit : (n : ℕ) → n + 2 * (units * t.scale) < 2 ^ 33 * t.scale → n / t.scale + 2 * units < 2 ^ 33
  early_unit n l =
      let u = unit_later n (2 * units) t.scale r.tree.scaled in
      let w = unit_below (n + 2 * units * t.scale) (2 ^ 33) t.scale r.tree.scaled (omega (arith, l)) in
      omega (arith, u, w)

  runs_below : (n : ℕ) → n + 2 * (units * t.scale) ≤ 2 ^ 33 * t.scale → (m x : ℕ) → start ≤ m → m < n → x < length t.nodes →
      runs (set_boundary tasks) t x (m + units * t.scale) ≡ runs (set_boundary tasks) t x m
  runs_below zero l m x a b in_tree = absurd (omega (arith, b))
  runs_below (suc n) l m x a b in_tree =
      let ih = runs_below n (omega (arith, l)) in
      elim (cases_eq m n) [
        | inl e ↦ (let P : ℕ → Type 0 = λ k. runs (set_boundary tasks) t x (k + units * t.scale) ≡ runs (set_boundary tasks) t x k in
            subst P (sym e) (run_later tasks t units start r n (omega (arith, a, e)) (early_unit n (omega (arith, l))) ih x in_tree))
        | inr ne ↦ ih m x a (omega (arith, b, ne)) in_tree
      ]

  pub runs_again : (n x : ℕ) → start ≤ n → n + 2 * (units * t.scale) < 2 ^ 33 * t.scale → x < length t.nodes → runs (set_boundary tasks) t x
      (n + units * t.scale) ≡ runs (set_boundary tasks) t x n
  runs_again n x a l in_tree = runs_below (suc n) (omega (arith, l)) n x a (omega arith) in_tree
