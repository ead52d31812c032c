-- Sums of what rows give of the periods that are open at a unit.
use Rattle.std.proofs.Common.{Bool, List, [], ◌∷◌, ◌++◌, length, ap, ap₂, append_assoc, append-nil, arith, drop, get_or, inl, inr, take, refl}
use Rattle.std.proofs.Common.{replicate, subst, sym, true, false, zero, suc}
use Rattle.std.proofs.Common.{ℕ, ◌+◌, ◌*◌, ◌^◌, ◌<◌, ◌∙◌, ◌≡◌, ◌≤◌, ◌&&◌, eqb, add-zero}
use Rattle.std.specs.Prelude.{nat_le, slice_get, Some}
use Rattle.std.specs.List.{AllByRecursion, list_all, range_with_len}
use Rattle.std.proofs.Math.Nat.{mul-le-mul_right}
use Rattle.std.proofs.lemmas.Bool.{cases_Bool}
use Rattle.std.proofs.lemmas.List.{get_or-replicate, length-replicate, take-append-drop, take_more}
use Rattle.std.proofs.lemmas.Option.{get_or_from_slice_get}
use Rattle.sched_base.specs.declared.rows.Row.{Row}
use Rattle.sched_base.specs.declared.sets.Task.{Task}
use Rattle.sched_base.specs.Rows.{is_of_task, overlap, task_ticks}
use Rattle.sched_base.specs.Sets.{SetContents, IsLawfulTask, task_at}
use Rattle.sched_base.specs.Tables.{all_rows, lane_of, row_limit}
use Rattle.sched_base.proofs.CountingLemmas.{bit_le}
use Rattle.sched_base.proofs.RowLemmas.{task_ticks-append}
use Rattle.repeat_laws.specs.Repeats.{given, given_again, open_since, stands_again}
use Rattle.repeat_laws.proofs.Deciding.{all_range, each_range}
use Rattle.table_text.specs.declared.given.Look.{Look}
use Rattle.table_text.specs.Given.{AddsGiven, HaveRoomFor, IsSmall, given_at, is_given_again}

-- ---- lanes

all_rows-append : (xs ys : List (List Row)) → all_rows (xs ++ ys) ≡ all_rows xs ++ all_rows ys
all_rows-append [] ys = refl
all_rows-append (x ∷ xs) ys = ap (λ rows. x ++ rows) (all_rows-append xs ys) ∙ sym (append_assoc x (all_rows xs) (all_rows ys))

-- one lane more
pub lanes_more : (lanes : List (List Row)) (p : ℕ) → p < length lanes → all_rows (take (p + 1) lanes) ≡ all_rows (take p lanes) ++ lane_of lanes p
lanes_more lanes p within =
    ap all_rows (take_more lanes p [] within) ∙ all_rows-append (take p lanes) (lane_of lanes p ∷ [])
    ∙ ap (λ rows. all_rows (take p lanes) ++ rows) (append-nil (lane_of lanes p))

-- all lanes are the first ones and the others
pub lanes_parted : (lanes : List (List Row)) (p : ℕ) → all_rows lanes ≡ all_rows (take p lanes) ++ all_rows (drop p lanes)
lanes_parted lanes p = ap all_rows (sym (take-append-drop p lanes)) ∙ all_rows-append (take p lanes) (drop p lanes)

-- one row more
pub rows_more : (lane : List Row) (i : ℕ) (r : Row) → i < length lane → slice_get lane i ≡ Some r → take (i + 1) lane ≡ take i lane ++ r ∷ []
rows_more lane i r within at = take_more lane i r within ∙ ap (λ q. take i lane ++ q ∷ []) (get_or_from_slice_get lane i r r at)

-- all rows are the first ones and the others
pub rows_parted : (lane : List Row) (i : ℕ) (r : Row) → i < length lane → slice_get lane i ≡ Some r → lane ≡ (take i lane ++ r ∷ []) ++ drop (i + 1) lane
rows_parted lane i r within at = sym (take-append-drop (i + 1) lane) ∙ ap (λ rows. rows ++ drop (i + 1) lane) (rows_more lane i r within at)

-- what holds of each lane holds of this one
pub lane_holds : (P : List Row → Type 0) (lanes : List (List Row)) (p : ℕ) → p < length lanes → AllByRecursion P lanes → P (lane_of lanes p)
lane_holds P [] p within all = absurd (omega (arith, within))
lane_holds P (lane ∷ lanes) zero within all = all.0
lane_holds P (lane ∷ lanes) (suc p) within all = lane_holds P lanes p (omega (arith, within)) all.1

-- ---- sums

module _ (look : Look) (tasks : List Task) where
  given-append : (xs ys : List Row) (j : ℕ) → given_at look tasks (xs ++ ys) j ≡ given_at look tasks xs j + given_at look tasks ys j
  given-append xs ys j = task_ticks-append xs ys j ((open_since look.from (task_at tasks j) + look.shift) * look.scale) ((look.from + look.shift) * look.scale)

  pub none_given : (sums : List ℕ) → AddsGiven look tasks [] sums sums
  none_given sums j within = omega arith

  -- rows that are added after others
  pub given_then : (first next both : List Row) (a b c : List ℕ) → both ≡ first ++ next → length b ≡ length a → AddsGiven look tasks first a b
      → AddsGiven look tasks next b c → AddsGiven look tasks both a c
  given_then first next both a b c is same one two j within =
      let e = one j within in
      let f = two j (omega (arith, same, within)) in
      let g = given-append first next j in
      let h = ap (λ rows. given_at look tasks rows j) is in
      omega (arith, e, f, g, h)

  -- there is room for the next rows, where there was for them, those before and those behind
  pub room_next : (first next rest all : List Row) (a b : List ℕ) → all ≡ (first ++ next) ++ rest → length b ≡ length a → HaveRoomFor look tasks all a
      → AddsGiven look tasks first a b → HaveRoomFor look tasks next b
  room_next first next rest all a b is same room one j within =
      let inside : j < length a = omega (arith, same, within) in
      let e = one j inside in
      let r = room j inside in
      let g = given-append (first ++ next) rest j in
      let g' = given-append first next j in
      let h = ap (λ rows. given_at look tasks rows j) is in
      omega (arith, e, r, g, g', h)

  -- ---- no sum overflows

  ticks_few : (rows : List Row) (j a b : ℕ) → task_ticks rows j a b ≤ length rows * b
  ticks_few [] j a b = omega arith
  ticks_few (r ∷ rows) j a b =
      let rest = ticks_few rows j a b in
      let most : overlap r.start r.end a b ≤ b = omega arith in
      let one = mul-le-mul_right (overlap r.start r.end a b) (bit_le (is_of_task j r.leaf)) in
      omega (arith, rest, most, one)

  end_fits : IsSmall look → (look.from + look.shift) * look.scale < 2 ^ 96
  end_fits small =
      let s = small.scale in
      let u = small.units in
      let n : look.from + look.shift ≤ 4294967295 = omega (arith, u) in
      let m = mul-le-mul_right look.scale n in
      omega (arith, m, s)

  pub room_of_zeros : IsSmall look → (n : ℕ) (rows : List Row) → length rows ≤ row_limit → HaveRoomFor look tasks rows (replicate n 0)
  room_of_zeros small n rows few j within =
      let inside : j < n = (let l : length {A = ℕ} (replicate n 0) ≡ n = length-replicate n 0 in omega (arith, l, within)) in
      let z : get_or {A = ℕ} (replicate n 0) j 0 ≡ 0 = get_or-replicate n j 0 0 inside in
      let end = (look.from + look.shift) * look.scale in
      let most = ticks_few rows j ((open_since look.from (task_at tasks j) + look.shift) * look.scale) end in
      let rows_most = mul-le-mul_right end few in
      let fits = end_fits small in
      omega (arith, z, most, rows_most, fits)

  -- what was added to zeros
  pub sums_of_zeros : (n : ℕ) (rows : List Row) (sums : List ℕ) → AddsGiven look tasks rows (replicate n 0) sums → (j : ℕ) → j < n
      → get_or sums j 0 ≡ given_at look tasks rows j
  sums_of_zeros n rows sums adds j inside =
      let l : length {A = ℕ} (replicate n 0) ≡ n = length-replicate n 0 in
      let z : get_or {A = ℕ} (replicate n 0) j 0 ≡ 0 = get_or-replicate n j 0 0 inside in
      let e = adds j (omega (arith, l, inside)) in
      omega (arith, e, z)

-- ---- sets

-- what a lawful set says of its tasks
pub periods_fit : (tasks : List Task) → AllByRecursion IsLawfulTask tasks → AllByRecursion (λ t. (1 ≤ t.period) × (t.offset < 2 ^ 32)) tasks
periods_fit [] each = tt
periods_fit (t ∷ tasks) each =
    let a = each.0.some_work in
    let b = each.0.work_fits in
    ((omega (arith, a, b), each.0.offset_fits), periods_fit tasks each.1)

-- what holds of the periods of all tasks holds of this one
pub period_at : (tasks : List Task) (j : ℕ) (t : Task) → j < length tasks → t ≡ get_or tasks j t → AllByRecursion (λ t. (1 ≤ t.period)
    × (t.offset < 2 ^ 32)) tasks
    → (1 ≤ t.period) × (t.offset < 2 ^ 32)
period_at [] j t within at each = absurd (omega (arith, within))
period_at (u ∷ tasks) zero t within at each = subst (λ (v : Task). (1 ≤ v.period) × (v.offset < 2 ^ 32)) (sym at) each.0
period_at (u ∷ tasks) (suc j) t within at each = period_at tasks j t (omega (arith, within)) at each.1

-- ---- what is decided

same_test : (f g : ℕ → Bool) (a n : ℕ) → ((i : ℕ) → i < n → f (a + i) ≡ g (a + i)) → list_all f (range_with_len a n) ≡ list_all g (range_with_len a n)
same_test f g a zero same = refl
same_test f g a (suc n) same =
    let here : f a ≡ g a = let e : a + 0 ≡ a = omega arith in sym (ap f e) ∙ same 0 (omega arith) ∙ ap g e in
    ap₂ ◌&&◌ here (same_test f g (a + 1) n (λ i low. let e : a + suc i ≡ a + 1 + i = omega arith in sym (ap f e) ∙ same (suc i) (omega (arith, low)) ∙ ap g e))

-- the sums at a unit and so many units later decide whether the rows stand again
pub decided_by_sums : (s : SetContents) (scale from units : ℕ) (rows : List Row) (before after : List ℕ)
    → ((j : ℕ) → j < length s.tasks → get_or before j 0 ≡ given_at (record { scale = scale; from = from; shift = 0 }) s.tasks rows j)
    → ((j : ℕ) → j < length s.tasks → get_or after j 0 ≡ given_at (record { scale = scale; from = from; shift = units }) s.tasks rows j)
    → list_all (is_given_again s.tasks from before after) (range_with_len 0 (length s.tasks)) ≡ stands_again s scale from units rows
decided_by_sums s scale from units rows before after first second =
    same_test (is_given_again s.tasks from before after) (given_again s scale from units rows) 0 (length s.tasks)
    (λ i low.
    let e : 0 + i ≡ i = omega arith in
    let t = task_at s.tasks i in
    let at_first : get_or before i 0 ≡ given scale rows i (open_since from t) from =
    first i low ∙ ap₂ (given scale rows i) (add-zero (open_since from t)) (add-zero from) in
    ap (is_given_again s.tasks from before after) e
    ∙ ap₂ (λ x y. nat_le t.offset from && eqb x y) (second i low) at_first
    ∙ sym (ap (given_again s scale from units rows) e))

-- each task before this one was given as much again
pub all_again : (test : ℕ → Bool) (n i : ℕ) → n ≤ i → ((k : ℕ) → k < i → test k ≡ true) → true ≡ list_all test (range_with_len 0 n)
all_again test n i past each =
    sym (all_range test 0 n (λ k low. let e : 0 + k ≡ k = omega arith in ap test e ∙ each k (omega (arith, low, past))))

-- this one wasn't
pub one_fails : (test : ℕ → Bool) (n i : ℕ) → i < n → test i ≡ false → false ≡ list_all test (range_with_len 0 n)
one_fails test n i low fails = elim (cases_Bool (list_all test (range_with_len 0 n))) [
  | inr fails_all ↦ sym fails_all
  | inl told ↦ absurd (
      let e : 0 + i ≡ i = omega arith in
      let passes = sym (ap test e) ∙ each_range test 0 n told i low in
      let bad : true ≡ false = sym passes ∙ fails in cc)
]
