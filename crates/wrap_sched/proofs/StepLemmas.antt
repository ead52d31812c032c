-- The walk over points and cuts.
use Rattle.std.proofs.Common.{Bool, List, [], ap, arith, div-add-mod', eqb, false, filter, get_or, inl, inr, le_refl, leb, length, min, mod-lt, refl}
use Rattle.std.proofs.Common.{subst, suc, sym, take, true, zero, ℕ, ◌%◌, ◌&&◌, ◌*◌, ◌+◌, ◌++◌, ◌-◌, ◌/◌, ◌<◌, ◌∙◌, ◌∷◌, ◌≡◌, ◌≤◌, ◌||◌}
use Rattle.std.specs.Prelude.{◌==◌}
use Rattle.std.proofs.Math.Bool.{or-false}
use Rattle.std.proofs.Math.Nat.{mul-add-mod_self_right, zero-mod}
use Rattle.std.proofs.lemmas.Bool.{and_left, and_right, cases_lt, lt-leb, ne_eqb, or_from, or_left, or_right}
use Rattle.std.proofs.lemmas.List.{take_more}
use Rattle.std.proofs.lemmas.List.Folds.{list_any-append, list_any_more}
use Rattle.std.proofs.lemmas.List.Sums.{sum_by-cons, sum_by_more}
use Rattle.std.proofs.lemmas.Nat.{mod-mul-add}
use Rattle.std.specs.List.{list_any, range_with_len, sum}
use Rattle.sched_base.specs.Boundaries.{task_boundary}
use Rattle.sched_base.proofs.ListLemmas.{passing_off, passing_on}
use Rattle.sched_base.specs.declared.sets.Task as declared
use Rattle.wrap_sched.specs.Steps.{IsNext}
use Rattle.wrap_sched.specs.Wrapped.{first_places, is_cut, is_point}
use Rattle.wrap_sched.proofs.ValidRows.{boundary_at}

-- ---- boundaries

module _ (task : declared.Task) (x : ℕ) (some : 1 ≤ task.period) (from : task.offset ≤ x) where
  -- the begin of the next period
  pub next_start : x - (x - task.offset) % task.period + task.period ≡ task.offset + ((x - task.offset) / task.period + 1) * task.period
  next_start = let parts = div-add-mod' (x - task.offset) task.period in omega (arith, parts, from)

  pub next_is_boundary : task_boundary task (x - (x - task.offset) % task.period + task.period) ≡ true
  next_is_boundary =
      let P : ℕ → Type 0 = λ y. task_boundary task y ≡ true in
      subst P (sym next_start) (boundary_at task ((x - task.offset) / task.period + 1))

  -- no boundary comes before it
  pub none_before : (k : ℕ) → x < k → k < x - (x - task.offset) % task.period + task.period → task_boundary task k ≡ false
  none_before k above below =
      let q = (x - task.offset) / task.period in
      let parts = div-add-mod' (x - task.offset) task.period in
      let start = next_start in
      let r = k - task.offset - q * task.period in
      let whole : k - task.offset ≡ q * task.period + r = omega (arith, parts, above, from) in
      let small : r < task.period = omega (arith, parts, start, below, from) in
      let rest : (k - task.offset) % task.period ≡ r = ap (λ y. y % task.period) whole ∙ mod-mul-add q task.period r small in
      let more : 0 < r = (let m = mod-lt (x - task.offset) some in omega (arith, parts, above, from)) in
      or_from (eqb k 0) (leb task.offset k && eqb ((k - task.offset) % task.period) 0) (ne_eqb k 0 (λ e. omega (arith, e, above)))
      (and_right (leb task.offset k) (eqb ((k - task.offset) % task.period) 0) (ne_eqb ((k - task.offset) % task.period) 0 (λ e. omega (arith, e, rest, more))))

-- where the offset is yet to come, no boundary comes before it
pub none_before_offset : (task : declared.Task) (x k : ℕ) → x < k → k < task.offset → task_boundary task k ≡ false
none_before_offset task x k above below =
    or_from (eqb k 0) (leb task.offset k && eqb ((k - task.offset) % task.period) 0) (ne_eqb k 0 (λ e. omega (arith, e, above)))
    (and_left (leb task.offset k) (eqb ((k - task.offset) % task.period) 0) (lt-leb task.offset k below))

-- ---- the nearest of several

-- one more test
pub next_nearer : (p q r : ℕ → Bool) (stop a n b : ℕ) → ((k : ℕ) → r k ≡ (p k || q k)) → IsNext p stop a n → a < b → q b ≡ true → ((k : ℕ) → a < k → k < b →
    q k ≡ false) → IsNext r stop a (min n b)
next_nearer p q r stop a n b same h above at none = record {
  above = (let l = h.above in omega (arith, l, above));
  within = (let l = h.within in omega (arith, l));
  at = λ l. elim (cases_lt n b) [
    | inl m ↦
        (let e : min n b ≡ n = omega arith in
        let P : ℕ → Type 0 = λ y. r y ≡ true in
        subst P (sym e) (same n ∙ or_left (p n) (q n) (h.at (omega (arith, e, l)))))
    | inr m ↦
        (let e : min n b ≡ b = omega arith in
        let P : ℕ → Type 0 = λ y. r y ≡ true in
        subst P (sym e) (same b ∙ or_right (p b) (q b) at))
  ];
  none = λ k l m. same k ∙ or_from (p k) (q k) (h.none k l (omega arith)) (none k l (omega arith));
}

-- one task more
pub next_task : (tasks : List declared.Task) (i : ℕ) (t : declared.Task) (stop x n b : ℕ) → i < length tasks → t ≡ get_or tasks i t
    → IsNext (λ k. list_any (λ task. task_boundary task k) (take i tasks)) stop x n → x < b → task_boundary t b ≡ true → ((k : ℕ) → x < k → k < b →
    task_boundary t k ≡ false)
    → IsNext (λ k. list_any (λ task. task_boundary task k) (take (i + 1) tasks)) stop x (min n b)
next_task tasks i t stop x n b l is h above at none =
    next_nearer (λ k. list_any (λ task. task_boundary task k) (take i tasks)) (λ k. task_boundary t k) (λ k. list_any (λ task. task_boundary task k)
    (take (i + 1) tasks)) stop x n b
    (λ k. list_any_more (λ task. task_boundary task k) tasks i t l ∙ ap (λ s. list_any (λ task. task_boundary task k) (take i tasks) || task_boundary s k)
    (sym is))
    h above at none

-- where nothing holds, `stop` is next
pub next_none : (p : ℕ → Bool) (stop a : ℕ) → a < stop → ((k : ℕ) → a < k → p k ≡ false) → IsNext p stop a stop
next_none p stop a l none = record { above = l; within = le_refl stop; at = λ m. absurd (omega arith); none = λ k b m. none k b }

-- above a unit, points are the boundaries of tasks
pub next_is_point : (tasks : List declared.Task) (stop x n : ℕ) → IsNext (λ k. list_any (λ task. task_boundary task k) tasks) stop x n →
    IsNext (is_point tasks) stop x n
next_is_point tasks stop x n h = record {
  above = h.above;
  within = h.within;
  at = λ l. or_right (eqb n 0) (list_any (λ task. task_boundary task n) tasks) (h.at l);
  none = λ k l m. or_from (eqb k 0) (list_any (λ task. task_boundary task k) tasks) (ne_eqb k 0 (λ e. omega (arith, e, l))) (h.none k l m);
}

-- ---- cuts

-- a share more at the end
first_places-push : (q : ℕ) (ns : List ℕ) (n : ℕ) → first_places q (ns ++ n ∷ []) ≡ first_places q ns ++ (q + sum ns + n) ∷ []
first_places-push q [] n = let e : q + n ≡ q + 0 + n = omega arith in ap (λ y. q ∷ y ∷ []) e
first_places-push q (m ∷ ns) n =
    let ih = first_places-push (q + m) ns n in
    let parts = sum_by-cons (λ x. x) m ns in
    let e : q + m + sum ns + n ≡ q + sum (m ∷ ns) + n = omega (arith, parts) in
    ap (λ xs. q ∷ xs) ih ∙ ap (λ y. q ∷ (first_places (q + m) ns ++ y ∷ [])) e

is_cut-push : (size : ℕ) (ns : List ℕ) (n k : ℕ) → is_cut size (ns ++ n ∷ []) k ≡ (is_cut size ns k || ((sum ns + n) % size == k))
is_cut-push size ns n k =
    let e : 0 + sum ns + n ≡ sum ns + n = omega arith in
    ap (λ xs. list_any (λ first. first % size == k) xs) (first_places-push 0 ns n)
    ∙ list_any-append (λ first. first % size == k) (first_places 0 ns) ((0 + sum ns + n) ∷ [])
    ∙ ap (λ b. is_cut size ns k || b) (or-false ((0 + sum ns + n) % size == k))
    ∙ ap (λ y. is_cut size ns k || (y % size == k)) e

-- the places so far, as far as their processor goes
pub first_more : (ns : List ℕ) (i size first : ℕ) → i < length ns → first ≡ sum (take i ns) % size → (first + get_or ns i 0) % size ≡ sum (take (i + 1) ns)
    % size
first_more ns i size first l at =
    let s = sum (take i ns) in
    let n = get_or ns i 0 in
    let parts = div-add-mod' s size in
    let whole : s + n ≡ s / size * size + (s % size + n) = omega (arith, parts) in
    ap (λ y. (y + n) % size) at ∙ sym (ap (λ y. y % size) whole ∙ mul-add-mod_self_right (s / size) size (s % size + n))
    ∙ ap (λ y. y % size) (sym (sum_by_more (λ x. x) ns i 0 l))

-- the same test in other words
IsNext-same : (p r : ℕ → Bool) (stop a n : ℕ) → ((k : ℕ) → r k ≡ p k) → IsNext p stop a n → IsNext r stop a n
IsNext-same p r stop a n same h = record { above = h.above; within = h.within; at = λ l. same n ∙ h.at l; none = λ k l m. same k ∙ h.none k l m }

-- one share more of a list
pub next_share : (ns : List ℕ) (i size q next first : ℕ) → i < length ns → first ≡ sum (take i ns) % size
    → IsNext (λ k. is_cut size (take i ns) k || ((first + get_or ns i 0) % size == k)) size q next → IsNext (is_cut size (take (i + 1) ns)) size q next
next_share ns i size q next first l at h =
    let n = get_or ns i 0 in
    let there : (first + n) % size ≡ (sum (take i ns) + n) % size =
    first_more ns i size first l at ∙ ap (λ y. y % size) (sum_by_more (λ x. x) ns i 0 l) in
    IsNext-same (λ k. is_cut size (take i ns) k || ((first + n) % size == k)) (is_cut size (take (i + 1) ns)) size q next
    (λ k. ap (λ xs. is_cut size xs k) (take_more ns i 0 l) ∙ is_cut-push size (take i ns) n k ∙ ap (λ y. is_cut size (take i ns) k || (y == k)) (sym there)) h

-- with no share the only cut is at 0
pub next_of_none : (size q : ℕ) → q < size → IsNext (is_cut size []) size q size
next_of_none size q l = next_none (is_cut size []) size q l (λ k m.
    or_from (0 % size == k) false (ne_eqb (0 % size) k (λ e. let z = zero-mod size in omega (arith, e, z, m))) refl)

-- ---- lists of points and of cuts

-- numbers that don't pass are left out
pub skip : (p : ℕ → Bool) (d a n : ℕ) → ((k : ℕ) → a ≤ k → k < a + d → p k ≡ false) → filter p (range_with_len a (d + n)) ≡ filter p (range_with_len (a + d) n)
skip p zero a n off = let e : 0 + n ≡ n = omega arith in let f : a ≡ a + 0 = omega arith in ap (λ y. filter p (range_with_len a y)) e
    ∙ ap (λ y. filter p (range_with_len y n)) f
skip p (suc d) a n off =
    let e : suc d + n ≡ suc (d + n) = omega arith in
    let f : a + 1 + d ≡ a + suc d = omega arith in
    ap (λ y. filter p (range_with_len a y)) e ∙ passing_off p a (d + n) (off a (le_refl a) (omega arith))
    ∙ skip p d (a + 1) n (λ k l m. off k (omega arith) (omega arith)) ∙ ap (λ y. filter p (range_with_len y n)) f

-- from one number that passes to the next
pub filter_next : (p : ℕ → Bool) (stop a n : ℕ) → p a ≡ true → IsNext p stop a n → filter p (range_with_len a (stop - a)) ≡ a ∷ filter p
    (range_with_len n (stop - n))
filter_next p stop a n on h =
    let above = h.above in
    let within = h.within in
    let d = n - (a + 1) in
    let many : stop - a ≡ suc (d + (stop - n)) = omega (arith, above, within) in
    let there : a + 1 + d ≡ n = omega (arith, above) in
    ap (λ y. filter p (range_with_len a y)) many ∙ passing_on p a (d + (stop - n)) on
    ∙ ap (λ xs. a ∷ xs) (skip p d (a + 1) (stop - n) (λ k l m. h.none k (omega arith) (omega (arith, m, there)))
    ∙ ap (λ y. filter p (range_with_len y (stop - n))) there)
