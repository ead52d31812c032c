-- One server that serves its members by earliest deadline first gives each of them its due.
use Rattle.std.proofs.Common.{ap, ap₂, arith, inl, inr, le_refl, leb, ltb, mul-le-mul_left, mul-le-mul_right, refl, subst, suc, sym, true, zero, ℕ}
use Rattle.std.proofs.Common.{◌&&◌, ◌*◌, ◌+◌, ◌-◌, ◌/◌, ◌<◌, ◌≡◌, ◌≤◌}
use Rattle.std.proofs.lemmas.Bool.{and_cases, and_parts, both_ways, cases_Bool, cases_lt, leb-false, leb-true, ltb-false, ltb-true}
use Rattle.sched_base.specs.Counting.{bit, sum_to, ticks}
use Rattle.sched_base.specs.Valid.{served}
use Rattle.sched_base.proofs.CountingLemmas.{bit_at, bit_off, find_below, ticks-le, ticks_at_none, ticks_capped}
use Rattle.sched_base.proofs.SumLemmas.{sum_to-add, sum_to-alone, sum_to-le, sum_to-lt, sum_to-mul, sum_to-zero, term-le-sum_to}
use Rattle.sched_base.proofs.UnitLemmas.{mul_span, tick_below, tick_from, unit_below, unit_from}
use Rattle.run_tree.proofs.WindowLemmas.{begins_again, next-le, next_at}
use Rattle.sched_laws.specs.Servers.{IsSupplied, Server, Serves, due, left}

-- what is left, seen from any unit of the window
pub left_in : (v : Server) (h : Serves v) (k u t : ℕ) → k < v.count → v.begins k u * v.scale ≤ t → t < v.ends k u * v.scale →
    left v k t ≡ due v k u - (ticks (v.member k) t - ticks (v.member k) (v.begins k u * v.scale))
left_in v h k u t l p q =
    let w = h.windows k l in
    let from = unit_from t (v.begins k u) v.scale h.scaled p in
    let below = unit_below t (v.ends k u) v.scale h.scaled q in
    ap₂ (λ b e. v.rate k * (e - b) - (ticks (v.member k) t - ticks (v.member k) (b * v.scale)))
    (w.same_begin u (t / v.scale) from below) (w.same_end u (t / v.scale) from below)

-- in a window a member runs at most its due
pub served-le-due : (v : Server) (h : Serves v) (k u : ℕ) → k < v.count →
    ticks (v.member k) (v.ends k u * v.scale) ≤ ticks (v.member k) (v.begins k u * v.scale) + due v k u
served-le-due v h k u l =
    let w = h.windows k l in
    let order : v.begins k u ≤ v.ends k u = (let a = w.begun u in let b = w.open_still u in omega (arith, a, b)) in
    ticks_capped (v.member k) (due v k u) (v.begins k u * v.scale) (v.ends k u * v.scale) (mul-le-mul_right v.scale order)
    (λ t p q run.
    let some = h.has_left k t l run in
    let e = left_in v h k u t l p q in
    omega (arith, some, e))

-- at each boundary a member has run at most its rate
pub served_at_most : (v : Server) (h : Serves v) (k u : ℕ) → k < v.count →
    ticks (v.member k) (v.begins k u * v.scale) ≤ v.rate k * v.begins k u
served_at_most v h k zero l =
    let w = h.windows k l in
    let none : v.begins k 0 ≡ 0 = (let b = w.begun 0 in omega (arith, b)) in
    let t = ticks_at_none (v.member k) (v.begins k 0) v.scale none in
    omega (arith, t)
served_at_most v h k (suc u) l =
    let w = h.windows k l in
    let ih = served_at_most v h k u l in
    let b = w.begun u in
    let b' = w.begun (suc u) in
    let o = w.open_still u in
    elim (cases_lt (suc u) (v.ends k u)) [
      | inl m ↦ (let e = w.same_begin u (suc u) (omega (arith, b)) m in
          let P : ℕ → Type 0 = λ x. ticks (v.member k) (x * v.scale) ≤ v.rate k * x in
          subst P (sym e) ih)
      | inr m ↦ (let n = w.next_begins u (suc u) m in
          let e : v.ends k u ≡ v.begins k (suc u) = omega (arith, n, b', o) in
          let s = served-le-due v h k u l in
          let p = mul_span (v.rate k) (v.begins k u) (v.ends k u) (omega (arith, b, o)) in
          let P : ℕ → Type 0 = λ x. ticks (v.member k) (x * v.scale) ≤ v.rate k * x in
          let q : P (v.ends k u) = omega (arith, s, p, ih) in
          subst P e q)
    ]

-- a member with due left has run less than its rate up to the end of its window
pub behind : (v : Server) (h : Serves v) (k t : ℕ) → k < v.count → 0 < left v k t →
    ticks (v.member k) t < v.rate k * v.ends k (t / v.scale)
behind v h k t l some =
    let w = h.windows k l in
    let b = w.begun (t / v.scale) in
    let o = w.open_still (t / v.scale) in
    let most = served_at_most v h k (t / v.scale) l in
    let p = mul_span (v.rate k) (v.begins k (t / v.scale)) (v.ends k (t / v.scale)) (omega (arith, b, o)) in
    omega (arith, some, most, p)

-- what the members are owed by unit d at tick t
abbrev pub owed : Server → ℕ → ℕ → ℕ
owed v d t = sum_to v.count (λ k. v.rate k * v.begins k d - ticks (v.member k) t)

-- each member has run its rate up to the last of its boundaries at most u
abbrev pub IsServed : Server → ℕ → Type 0
IsServed v u = (k : ℕ) → k < v.count → v.rate k * v.begins k u ≤ ticks (v.member k) (v.begins k u * v.scale)

-- a tick more takes nothing away
pub owed_falls : (v : Server) (d t : ℕ) → owed v d (suc t) ≤ owed v d t
owed_falls v d t = sum_to-le v.count _ _ (λ k l. omega arith)

-- a tick in which a member runs whose window ends by d
pub owed_less : (v : Server) (h : Serves v) (d t j : ℕ) → j < v.count → v.member j t ≡ true → v.ends j (t / v.scale) ≤ d →
    owed v d (suc t) < owed v d t
owed_less v h d t j l run by =
    let some = h.has_left j t l run in
    let lag = behind v h j t l some in
    let next = (h.windows j l).next_begins (t / v.scale) d by in
    let m = mul-le-mul_left (v.rate j) next in
    let one = bit_at (v.member j t) run in
    sum_to-lt v.count (λ k. v.rate k * v.begins k d - ticks (v.member k) (suc t)) (λ k. v.rate k * v.begins k d - ticks (v.member k) t) j l
    (omega (arith, lag, m, one))
    (λ k p. omega arith)

-- where none with a window that ends by d has due left, what is owed by d falls due after the pack's next boundary
pub owed_rest : (v : Server) (h : Serves v) (d t : ℕ) → t / v.scale < d → IsServed v (t / v.scale) →
    v.pack_ends (t / v.scale) ≤ d →
    ((k : ℕ) → k < v.count → v.ends k (t / v.scale) ≤ d → left v k t ≡ 0) →
    owed v d (suc t) ≤ sum_to v.count v.rate * (d - v.pack_ends (t / v.scale))
owed_rest v h d t below served by none =
    let u = t / v.scale in
    let b = v.pack_ends (t / v.scale) in
    let each : (k : ℕ) → k < v.count → v.rate k * v.begins k d - ticks (v.member k) (suc t) ≤ v.rate k * (d - b) =
    (λ k l.
    let w = h.windows k l in
    let begun = w.begun (t / v.scale) in
    let o = w.open_still (t / v.scale) in
    let had = served k l in
    let order = ticks-le (v.member k) (v.begins k (t / v.scale) * v.scale) t (tick_from t (v.begins k (t / v.scale)) v.scale h.scaled begun) in
    elim (cases_lt d (v.ends k (t / v.scale))) [
      | inl m ↦
          (let s = w.same_begin (t / v.scale) d (omega (arith, begun, below)) m in
          let e = ap (λ x. v.rate k * x) s in
          omega (arith, e, had, order))
      | inr m ↦
          (let z = none k l m in
          let span = mul_span (v.rate k) (v.begins k (t / v.scale)) (v.ends k (t / v.scale)) (omega (arith, begun, o)) in
          let far = mul_span (v.rate k) b d by in
          let cap = mul-le-mul_left (v.rate k) (w.begun d) in
          let early = mul-le-mul_left (v.rate k) (h.ends_first k (t / v.scale) l) in
          omega (arith, z, span, far, cap, early, had, order))
    ]) in
    let all = sum_to-le v.count (λ k. v.rate k * v.begins k d - ticks (v.member k) (suc t)) (λ k. v.rate k * (d - b)) each in
    let whole = sum_to-mul v.count v.rate (d - b) in
    omega (arith, all, whole)

-- what is owed by a boundary d of the pack is no more than what the pack still runs before d
pub owed-le-supply : (v : Server) (h : Serves v) (s : IsSupplied v) (d : ℕ) → v.pack_begins d ≡ d →
    ((u : ℕ) → u < d → IsServed v u) →
    (t : ℕ) → t ≤ d * v.scale → owed v d t + ticks v.pack t ≤ sum_to v.count v.rate * d
owed-le-supply v h s d at before zero l =
    let each : (k : ℕ) → k < v.count → v.rate k * v.begins k d - 0 ≤ v.rate k * d =
    (λ k l'. let m = mul-le-mul_left (v.rate k) ((h.windows k l').begun d) in omega (arith, m)) in
    let all = sum_to-le v.count (λ k. v.rate k * v.begins k d - 0) (λ k. v.rate k * d) each in
    let whole = sum_to-mul v.count v.rate d in
    omega (arith, all, whole)
owed-le-supply v h s d at before (suc t) l =
    let ih = owed-le-supply v h s d at before t (omega arith) in
    let below = unit_below t d v.scale h.scaled l in
    elim (cases_Bool (v.pack t)) [
      | inr off ↦ (let f = owed_falls v d t in let z = bit_off (v.pack t) off in omega (arith, ih, f, z))
      | inl on ↦
          (let one = bit_at (v.pack t) on in
          elim (find_below v.count (λ k. leb (v.ends k (t / v.scale)) d && ltb 0 (left v k t))) [
            | inl found ↦
                (let (k, lk, passes) = found in
                let both = and_parts (leb (v.ends k (t / v.scale)) d) (ltb 0 (left v k t)) passes in
                let by = leb-true (v.ends k (t / v.scale)) d both.0 in
                let some = ltb-true 0 (left v k t) both.1 in
                let (j, lj, run, first) = h.earliest k t lk on some in
                let less = owed_less v h d t j lj run (omega (arith, first, by)) in
                omega (arith, ih, less, one))
            | inr none ↦
                (let zero_left : (k : ℕ) → k < v.count → v.ends k (t / v.scale) ≤ d → left v k t ≡ 0 =
                (λ k lk by. elim (and_cases (leb (v.ends k (t / v.scale)) d) (ltb 0 (left v k t)) (none k lk)) [
                  | inl miss ↦ (let x = leb-false (v.ends k (t / v.scale)) d miss in absurd (omega (arith, x, by)))
                  | inr miss ↦ (let x = ltb-false 0 (left v k t) miss in omega (arith, x))
                ]) in
                let by = next-le v.pack_begins v.pack_ends h.pack_windows (t / v.scale) d at below in
                let rest = owed_rest v h d t below (before (t / v.scale) below) by zero_left in
                let fits = tick_below t (v.pack_ends (t / v.scale)) v.scale h.scaled (h.pack_windows.open_still (t / v.scale)) in
                let order = ticks-le v.pack (suc t) (v.pack_ends (t / v.scale) * v.scale) fits in
                let supply = s (v.pack_ends (t / v.scale)) (next_at v.pack_begins v.pack_ends h.pack_windows (t / v.scale)) in
                let span = mul_span (sum_to v.count v.rate) (v.pack_ends (t / v.scale)) d by in
                omega (arith, rest, order, supply, span))
          ])
    ]

-- all are served up to d where they are served up to each unit before
pub served_at : (v : Server) (h : Serves v) (s : IsSupplied v) (d : ℕ) → ((u : ℕ) → u < d → IsServed v u) → IsServed v d
served_at v h s d before k l =
    let w = h.windows k l in
    let begun = w.begun d in
    elim (cases_lt (v.begins k d) d) [
      | inl m ↦ (let P : ℕ → Type 0 = λ x. v.rate k * x ≤ ticks (v.member k) (x * v.scale) in
          subst P (begins_again (v.begins k) (v.ends k) w d) (before (v.begins k d) m k l))
      | inr m ↦
          (let here : v.begins k d ≡ d = omega (arith, m, begun) in
          let at : v.pack_begins d ≡ d =
          (let x = h.begins_last k d l in let y = h.pack_windows.begun d in omega (arith, x, y, here)) in
          let paid = owed-le-supply v h s d at before (d * v.scale) (le_refl (d * v.scale)) in
          let supply = s d at in
          let term = term-le-sum_to v.count (λ i. v.rate i * v.begins i d - ticks (v.member i) (d * v.scale)) k l in
          let all : v.rate k * v.begins k d ≤ ticks (v.member k) (d * v.scale) = omega (arith, paid, supply, term) in
          let P : ℕ → Type 0 = λ x. v.rate k * v.begins k d ≤ ticks (v.member k) (x * v.scale) in
          subst P (sym here) all)
    ]

-- so all are served up to each unit
pub served_below : (v : Server) (h : Serves v) (s : IsSupplied v) (n u : ℕ) → u < n → IsServed v u
served_below v h s zero u l = absurd (omega arith)
served_below v h s (suc n) u l = served_at' n (served_below v h s n) u l
  where
    served_at' : (n : ℕ) → ((w : ℕ) → w < n → IsServed v w) → (w : ℕ) → w < suc n → IsServed v w
    served_at' n ih w m =
        elim (cases_lt w n) [
          | inl b ↦ ih w b
          | inr b ↦ (let e : w ≡ n = omega arith in
              let P : ℕ → Type 0 = λ x. IsServed v x in
              subst P (sym e) (served_at v h s n ih))
        ]

-- up to each of its boundaries a member runs exactly its rate
pub served_exactly : (v : Server) (h : Serves v) (s : IsSupplied v) (k u : ℕ) → k < v.count →
    ticks (v.member k) (v.begins k u * v.scale) ≡ v.rate k * v.begins k u
served_exactly v h s k u l =
    let least = served_below v h s (suc u) u (le_refl (suc u)) k l in
    let most = served_at_most v h k u l in
    omega (arith, least, most)

-- in each of its windows a member runs exactly its due
pub due_served : (v : Server) (h : Serves v) (s : IsSupplied v) (k u : ℕ) → k < v.count →
    ticks (v.member k) (v.ends k u * v.scale) ≡ ticks (v.member k) (v.begins k u * v.scale) + due v k u
due_served v h s k u l =
    let w = h.windows k l in
    let first = served_exactly v h s k u l in
    let P : ℕ → Type 0 = λ x. ticks (v.member k) (x * v.scale) ≡ v.rate k * x in
    let last = subst P (next_at (v.begins k) (v.ends k) w u) (served_exactly v h s k (v.ends k u) l) in
    let b = w.begun u in
    let o = w.open_still u in
    let span = mul_span (v.rate k) (v.begins k u) (v.ends k u) (omega (arith, b, o)) in
    omega (arith, first, last, span)

-- in each tick as many members run as packs, or fewer
pub members-le-pack : (v : Server) (h : Serves v) (t : ℕ) → sum_to v.count (λ k. ticks (v.member k) t) ≤ ticks v.pack t
members-le-pack v h zero = let z = sum_to-zero v.count (λ k. 0) (λ k l. refl) in omega (arith, z)
members-le-pack v h (suc t) =
    let ih = members-le-pack v h t in
    let parts = sum_to-add v.count (λ k. ticks (v.member k) t) (λ k. bit (v.member k t)) in
    let now : sum_to v.count (λ k. bit (v.member k t)) ≤ bit (v.pack t) =
    elim (cases_Bool (v.pack t)) [
      | inl on ↦ (let a = sum_to-alone v.count (λ k. v.member k t) (λ j k lj lk. h.alone j k t lj lk) in omega (arith, a, bit_at (v.pack t) on))
      | inr off ↦
          (let each : (k : ℕ) → k < v.count → bit (v.member k t) ≡ 0 =
          (λ k l. elim (cases_Bool (v.member k t)) [
            | inl run ↦ absurd (both_ways (v.pack t) off (h.within k t l run))
            | inr stay ↦ bit_off (v.member k t) stay
          ]) in
          let z = sum_to-zero v.count (λ k. bit (v.member k t)) each in
          omega (arith, z))
    ] in
    omega (arith, ih, parts, now)

-- at each tick at which the pack runs a member runs
pub some_runs : (v : Server) (h : Serves v) (s : IsSupplied v) (t : ℕ) → v.pack t ≡ true → (k : ℕ) × (k < v.count) × (v.member k t ≡ true)
some_runs v h s t on =
    elim (find_below v.count (λ k. v.member k t)) [
      | inl found ↦ found
      | inr none ↦
          (let b = v.pack_ends (t / v.scale) in
          let each : (k : ℕ) → k < v.count → v.rate k * b ≤ ticks (v.member k) t =
          (λ k l.
          let w = h.windows k l in
          let begun = w.begun (t / v.scale) in
          let o = w.open_still (t / v.scale) in
          let nothing : left v k t ≡ 0 =
          elim (cases_lt 0 (left v k t)) [
            | inl some ↦ (let (j, lj, run, first) = h.earliest k t l on some in absurd (both_ways (v.member j t) (none j lj) run))
            | inr z ↦ omega (arith, z)
          ] in
          let had = served_exactly v h s k (t / v.scale) l in
          let order = ticks-le (v.member k) (v.begins k (t / v.scale) * v.scale) t (tick_from t (v.begins k (t / v.scale)) v.scale h.scaled begun) in
          let span = mul_span (v.rate k) (v.begins k (t / v.scale)) (v.ends k (t / v.scale)) (omega (arith, begun, o)) in
          let early = mul-le-mul_left (v.rate k) (h.ends_first k (t / v.scale) l) in
          omega (arith, nothing, had, order, span, early)) in
          let all = sum_to-le v.count (λ k. v.rate k * b) (λ k. ticks (v.member k) t) each in
          let whole = sum_to-mul v.count v.rate b in
          let shared = members-le-pack v h t in
          let one = bit_at (v.pack t) on in
          let fits = tick_below t b v.scale h.scaled (h.pack_windows.open_still (t / v.scale)) in
          let order = ticks-le v.pack (suc t) (b * v.scale) fits in
          let supply = s b (next_at v.pack_begins v.pack_ends h.pack_windows (t / v.scale)) in
          absurd (omega (arith, all, whole, shared, one, order, supply)))
    ]

-- exactly its rate in each window is exactly its rate up to each boundary
pub supplied_to : (v : Server) (h : Serves v) →
    ((u : ℕ) → ticks v.pack (v.pack_ends u * v.scale) ≡ ticks v.pack (v.pack_begins u * v.scale) + sum_to v.count v.rate * (v.pack_ends u - v.pack_begins u)) →
    (u : ℕ) → ticks v.pack (v.pack_begins u * v.scale) ≡ sum_to v.count v.rate * v.pack_begins u
supplied_to v h each zero =
    let none : v.pack_begins 0 ≡ 0 = (let b = h.pack_windows.begun 0 in omega (arith, b)) in
    let t = ticks_at_none v.pack (v.pack_begins 0) v.scale none in
    let z = ap (λ x. sum_to v.count v.rate * x) none in
    omega (arith, t, z)
supplied_to v h each (suc u) =
    let w = h.pack_windows in
    let ih = supplied_to v h each u in
    let b = w.begun u in
    let b' = w.begun (suc u) in
    let o = w.open_still u in
    let P : ℕ → Type 0 = λ x. ticks v.pack (x * v.scale) ≡ sum_to v.count v.rate * x in
    elim (cases_lt (suc u) (v.pack_ends u)) [
      | inl m ↦ subst P (sym (w.same_begin u (suc u) (omega (arith, b)) m)) ih
      | inr m ↦
          (let n = w.next_begins u (suc u) m in
          let e : v.pack_ends u ≡ v.pack_begins (suc u) = omega (arith, n, b', o) in
          let s = each u in
          let p = mul_span (sum_to v.count v.rate) (v.pack_begins u) (v.pack_ends u) (omega (arith, b, o)) in
          let q : P (v.pack_ends u) = omega (arith, s, p, ih) in
          subst P e q)
    ]

-- so a pack that runs its rate in each window runs it up to each boundary
pub supplied_from_windows : (v : Server) (h : Serves v) →
    ((u : ℕ) → ticks v.pack (v.pack_ends u * v.scale) ≡ ticks v.pack (v.pack_begins u * v.scale) + sum_to v.count v.rate * (v.pack_ends u - v.pack_begins u)) →
    IsSupplied v
supplied_from_windows v h each u at =
    let P : ℕ → Type 0 = λ x. ticks v.pack (x * v.scale) ≡ sum_to v.count v.rate * x in
    subst P at (supplied_to v h each u)
