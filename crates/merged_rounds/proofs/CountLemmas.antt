-- How many rounds begin before a tick, and how that number comes again.
use Rattle.std.proofs.Common.{◌≡◌, ℕ, zero, suc, ◌+◌, ◌++◌, ◌-◌, ◌*◌, ◌/◌, ◌%◌, ◌<◌, ◌≤◌, Bool, true, inl, inr, min, filter, length, length-append}
use Rattle.std.proofs.Common.{ap, arith, refl, ◌∙◌, zero-add, mul-le-mul_left, mul-le-mul_right, mod-lt, div-add-mod'}
use Rattle.std.specs.List.{range_with_len}
use Rattle.std.proofs.lemmas.Bool.{cases_Bool, cases_lt}
use Rattle.std.proofs.lemmas.List.Elements.{filter-append}
use Rattle.sched_base.specs.Tables.{row_limit}
use Rattle.sched_base.proofs.ListLemmas.{passing_off, passing_on}
use Rattle.run_tree.specs.Plans.{IsPlan, PlanContents, stop_of, rounds_of}
use Rattle.run_tree.specs.Rounds.{is_event}
use Rattle.event_core.specs.Rounds.{IsRoundUpTo, event_at, rounds_before}
use Rattle.event_core.proofs.RoundsInOrder.{next_rounds, no_rounds, range_parts, rounds_is}
use Rattle.merged_rounds.specs.Laps.{AreTurns, CanComeRound}
use Rattle.merged_rounds.proofs.LapLemmas.{event_later}

-- as many numbers pass that stand so much later, where each passes that does before
count_later : (f : ℕ → Bool) (d a n : ℕ) → ((i : ℕ) → a ≤ i → i < a + n → f (i + d) ≡ f i) → length (filter f (range_with_len (a + d) n)) ≡ length
    (filter f (range_with_len a n))
count_later f d a zero same = refl
count_later f d a (suc n) same =
    let next : a + d + 1 ≡ a + 1 + d = omega arith in
    let ih = ap (λ z. length (filter f (range_with_len z n))) next ∙ count_later f d (a + 1) n (λ i low high. same i (omega (arith, low))
    (omega (arith, high))) in
    let here = same a (omega arith) (omega arith) in
    elim (cases_Bool (f a)) [
      | inl on ↦
          (let there = ap length (passing_on f (a + d) n (here ∙ on)) in
          let first = ap length (passing_on f a n on) in
          omega (arith, there, first, ih))
      | inr off ↦
          (let there = ap length (passing_off f (a + d) n (here ∙ off)) in
          let first = ap length (passing_off f a n off) in
          omega (arith, there, first, ih))
    ]

module _ (p : PlanContents) where
  -- how many events there are from tick a on, in so many ticks
  abbrev pub events_from : ℕ → ℕ → ℕ
  events_from a n = length (filter (event_at p) (range_with_len a n))

  -- the rounds before a tick, and those that begin from there on
  pub rounds_on : (a n : ℕ) → rounds_before p (a + n) ≡ rounds_before p a + events_from a n
  rounds_on a n =
      let parts = ap (filter (event_at p)) (range_parts 0 a n ∙ ap (λ z. range_with_len 0 a ++ range_with_len z n) (zero-add a)) in
      let split = parts ∙ filter-append (event_at p) (range_with_len 0 a) (range_with_len a n) in
      let long = ap length split in
      let both = length-append (filter (event_at p) (range_with_len 0 a)) (filter (event_at p) (range_with_len a n)) in
      let here = rounds_is p.set.tasks p.tree a in
      let there = rounds_is p.set.tasks p.tree (a + n) in
      omega (arith, long, both, here, there)

  pub rounds_rise : (a b : ℕ) → a ≤ b → rounds_before p a ≤ rounds_before p b
  rounds_rise a b l =
      let e : a + (b - a) ≡ b = omega (arith, l) in
      let on = rounds_on a (b - a) in
      let at = ap (rounds_before p) e in
      omega (arith, on, at)

  -- between ticks before which as many rounds begin there begins none
  pub rounds_stay : (a b c : ℕ) → a ≤ b → b ≤ c → rounds_before p a ≡ rounds_before p c → rounds_before p b ≡ rounds_before p a
  rounds_stay a b c low high same =
      let l = rounds_rise a b low in
      let g = rounds_rise b c high in
      omega (arith, l, g, same)

  -- one round more begins before a tick in a round than before its start
  pub rounds_within : (start end n : ℕ) → IsRoundUpTo p start end → start < n → n ≤ end → rounds_before p n ≡ rounds_before p start + 1
  rounds_within start end n r low high =
      let next = next_rounds p start end r in
      let on = rounds_on start (suc zero) in
      let first = ap length (passing_on (event_at p) start zero r.event) in
      let past : start + suc zero ≡ start + 1 = omega arith in
      let at = ap (rounds_before p) past in
      let l = rounds_rise (start + 1) n (omega (arith, low)) in
      let g = rounds_rise n end high in
      omega (arith, next, on, first, at, l, g)

  -- tick 0 is an event
  pub first_event : event_at p 0 ≡ true
  unfolding is_event
  first_event = refl

  -- and begins a round
  pub some_rounds : (n : ℕ) → 1 ≤ rounds_before p (n + 1)
  some_rounds n =
      let zero_add : 0 + 1 ≡ 1 = omega arith in
      let on = rounds_on 0 1 in
      let one = ap length (passing_on (event_at p) 0 zero first_event) in
      let at = ap (rounds_before p) zero_add in
      let rise = rounds_rise 1 (n + 1) (omega arith) in
      omega (arith, on, one, at, rise)

module _ (p : PlanContents) (h : IsPlan p) (can : CanComeRound p) (ticks : ℕ) (turns : AreTurns p ticks) where
  -- as many rounds begin behind the first ticks of each hyperperiod
  pub events_again : (n : ℕ) → n + ticks < stop_of p → events_from p (1 + ticks) n ≡ events_from p 1 n
  events_again n l = count_later (event_at p) ticks 1 n (λ i low high. event_later p h can ticks turns i (omega (arith, low)) (omega (arith, high, l)))

  -- so many hyperperiods have so many times their rounds
  pub rounds_again : (times n : ℕ) → n + times * ticks < stop_of p → rounds_before p (1 + n + times * ticks) + times ≡ times * rounds_before p
      (1 + ticks) + rounds_before p (1 + n)
  rounds_again zero n l = let e : 1 + n + 0 * ticks ≡ 1 + n = omega arith in let at = ap (rounds_before p) e in omega (arith, at)
  rounds_again (suc times) n l =
      let m = n + times * ticks in
      let more : suc times * ticks ≡ times * ticks + ticks = omega arith in
      let ih = rounds_again times n (omega (arith, l, more)) in
      let e : 1 + n + suc times * ticks ≡ 1 + ticks + m = omega (arith, more) in
      let e' : 1 + n + times * ticks ≡ 1 + m = omega arith in
      let at = ap (rounds_before p) e in
      let at' = ap (rounds_before p) e' in
      let there = rounds_on p (1 + ticks) m in
      let here = rounds_on p 1 m in
      let same = events_again m (omega (arith, l, more)) in
      let zero_add : 0 + 1 ≡ 1 = omega arith in
      let first = rounds_on p 0 1 in
      let none = no_rounds p in
      let one = ap length (passing_on (event_at p) 0 zero (first_event p)) in
      let first_at = ap (rounds_before p) zero_add in
      let all : suc times * rounds_before p (1 + ticks) ≡ times * rounds_before p (1 + ticks) + rounds_before p (1 + ticks) = omega arith in
      omega (arith, ih, at, at', there, here, same, first, none, one, first_at, all)

-- the rounds of a plan, by those of one hyperperiod
pub all_rounds_by : (p : PlanContents) → IsPlan p → CanComeRound p → (ticks : ℕ) → AreTurns p ticks → 0 < ticks → 0 < stop_of p →
    rounds_of p ≡ (stop_of p - 1) / ticks * (rounds_before p (ticks + 1) - 1) + rounds_before p ((stop_of p - 1) % ticks + 1)
all_rounds_by p h can ticks turns some more =
    let last = stop_of p - 1 in
    let d = div-add-mod' last ticks in
    let times = last / ticks in
    let n = last % ticks in
    let all = rounds_again p h can ticks turns times n (omega (arith, d, more)) in
    let e : 1 + n + times * ticks ≡ stop_of p = omega (arith, d, more) in
    let at = ap (rounds_before p) e in
    let e' : 1 + n ≡ n + 1 = omega arith in
    let at' = ap (rounds_before p) e' in
    let e'' : 1 + ticks ≡ ticks + 1 = omega arith in
    let at'' = ap (rounds_before p) e'' in
    let whole : times * rounds_before p (1 + ticks) ≡ times * rounds_before p (ticks + 1) = ap (λ z. times * z) at'' in
    let first = some_rounds p ticks in
    let less : times * (rounds_before p (ticks + 1) - 1) + times ≡ times * rounds_before p (ticks + 1) = (
    let r = rounds_before p (ticks + 1) - 1 in
    let f : r + 1 ≡ rounds_before p (ticks + 1) = omega (arith, first) in
    let g : times * r + times ≡ times * (r + 1) = omega arith in
    g ∙ ap (λ z. times * z) f) in
    omega (arith, all, at, at', whole, less)

-- ---- counts past the limit

-- no more than one turn too many is looked at
pub counted : (times each rest most : ℕ) → (min times (most + 1) * each + rest ≤ most → min times (most + 1) * each + rest ≡ times * each + rest)
    × (most < min times (most + 1) * each + rest → most < times * each + rest)
counted times each rest most =
    let low : min times (most + 1) * each ≤ times * each = mul-le-mul_right each (omega arith) in (
      λ few. elim (cases_lt most times) [
        | inr within ↦ (let e : min times (most + 1) ≡ times = omega (arith, within) in ap (λ z. z * each + rest) e)
        | inl past ↦ (let e : min times (most + 1) ≡ most + 1 = omega (arith, past) in
            elim (cases_lt 0 each) [
              | inl some ↦ absurd (
                  let one : (most + 1) * 1 ≤ (most + 1) * each = mul-le-mul_left (most + 1) some in
                  let at = ap (λ z. z * each) e in
                  omega (arith, one, at, few))
              | inr none ↦ (let z : each ≡ 0 = omega (arith, none) in
                  let a = ap (λ n. min times (most + 1) * n) z in
                  let b = ap (λ n. times * n) z in
                  omega (arith, a, b))
            ])
      ],
      λ past. omega (arith, low, past),
    )

-- as many rounds as have few rows are no more than this
pub few_rows : (count m : ℕ) → 1 ≤ m → count ≤ row_limit / m → count * m ≤ row_limit
few_rows count m some few =
    let d = div-add-mod' row_limit m in
    let l = mul-le-mul_right m few in
    omega (arith, d, l)

pub many_rows : (count m : ℕ) → 1 ≤ m → row_limit / m < count → row_limit < count * m
many_rows count m some past =
    let d = div-add-mod' row_limit m in
    let r : row_limit % m < m = mod-lt row_limit some in
    let l : (row_limit / m + 1) * m ≤ count * m = mul-le-mul_right m (omega (arith, past)) in
    let e : (row_limit / m + 1) * m ≡ row_limit / m * m + m = omega arith in
    omega (arith, d, r, l, e)

pub few_count : (count m : ℕ) → 1 ≤ m → count * m ≤ row_limit → count ≤ row_limit
few_count count m some few = let each : count * 1 ≤ count * m = mul-le-mul_left count some in omega (arith, each, few)
