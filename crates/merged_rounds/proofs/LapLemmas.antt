-- Rounds that come again show the same.
use Rattle.std.proofs.Common.{◌≡◌, ℕ, suc, ◌+◌, ◌-◌, ◌*◌, ◌%◌, ◌/◌, ◌<◌, ◌≤◌, ◌^◌, inl, inr, min, List, [], ◌∷◌, ◌++◌, length, length-append, get_or}
use Rattle.std.proofs.Common.{slice_get, Option, None, Some, true, false, sym, ap, subst, ◌∙◌, arith, mul-le-mul_right, le_of_lt, le_refl}
use Rattle.std.proofs.Common.{div-add-mod'}
use Rattle.std.proofs.Math.ListN.{get_or-append}
use Rattle.std.proofs.Math.Nat.{dvd-add}
use Rattle.std.proofs.Math.Seq.{get_or-append_seam}
use Rattle.std.proofs.lemmas.Bool.{cases_eq, cases_lt}
use Rattle.std.proofs.lemmas.List.{get_or-append-add, get_or-map}
use Rattle.std.proofs.lemmas.Option.{slice_get-get_or, slice_get_within}
use native.Mathlib.Nat.{add-mul-mod_self_right, zero-mod}
use Rattle.sched_base.specs.declared.rows.Leaf.{Leaf}
use Rattle.sched_base.specs.declared.rows.Row.{Row}
use Rattle.sched_base.specs.declared.sets.Task as declared
use Rattle.sched_base.specs.Scale.{PeriodsDivide}
use Rattle.run_tree.specs.Boundaries.{set_boundary}
use Rattle.run_tree.specs.Plans.{IsPlan, PlanContents, stop_of}
use Rattle.run_tree.specs.Schedule.{leaf_on, onto_at, shown}
use Rattle.sched_laws.proofs.WholeRounds.{length-round, round_get}
use Rattle.repeat_laws.specs.Repeats.{later}
use Rattle.repeat_laws.proofs.Multiples.{multiple_whole}
use Rattle.hyperperiod_laws.proofs.IdleLeaves.{Recurs}
use Rattle.hyperperiod_laws.proofs.LaterEvents.{event_again}
use Rattle.hyperperiod_laws.proofs.LaterPlaces.{places_again}
use Rattle.hyperperiod_laws.proofs.LaterSchedules.{round_later}
use Rattle.hyperperiod_laws.proofs.RoundTrees.{few_units, left_again, recurs_by, recurs_on_time}
use Rattle.hyperperiod_laws.specs.Hyperperiods.{IdlesApart}
use Rattle.event_core.specs.Cores.{left_of, places_of}
use Rattle.event_core.specs.Told.{AllReleased}
use Rattle.merged_rounds.specs.Standings.{StandsAlike}
use Rattle.event_core.specs.Rounds.{IsRoundStart, IsRoundUpTo, event_at, rows_of_round}
use Rattle.merged_rows.specs.Columns.{AreChangesTold}
use Rattle.merged_rounds.specs.Laps.{AreTurns, CanComeRound, ComesAgain, IsAllTold, IsLap, IsLapAgain, IsLapFrom, StandsLaterAgain, lap_end, round_start}
use Rattle.merged_rounds.specs.declared.laps.Lap.{Lap}
use Rattle.round_looks.specs.Looks.{leaf_at}

-- ---- what is told of all processors

-- a row of a round shows what its processor does
pub row_shows : (p : PlanContents) (start end q : ℕ) (r : Row) → slice_get (rows_of_round p start end) q ≡ Some r → (q < p.tree.processors)
    × (r.leaf ≡ leaf_at p start end q r)
row_shows p start end q r at =
    let rows = rows_of_round p start end in
    let l = slice_get_within rows q r at in
    let long = length-round p.set.tasks p.tree start end in
    let e : Some r ≡ Some (get_or rows q r) = sym at ∙ slice_get-get_or rows q r l in
    let e' : r ≡ get_or rows q r = cc in
    (omega (arith, l, long), ap (λ (x : Row). x.leaf) e')

pub told_all : (p : PlanContents) (start end : ℕ) (told : List (Option Leaf)) (lanes : List (List Row)) → IsAllTold p start end told →
    AreChangesTold lanes told (rows_of_round p start end)
told_all p start end told lanes all = record {
  long = length-round p.set.tasks p.tree start end ∙ sym all.long;
  some = λ q r leaf at is.
      let s = row_shows p start end q r at in
      let e : Some leaf ≡ Some (leaf_at p start end q r) = sym is ∙ all.each q r s.0 in
      let e' : leaf ≡ leaf_at p start end q r = cc in
      e' ∙ sym s.1;
  none = λ q r at is.
      let s = row_shows p start end q r at in
      absurd (let e : None ≡ Some (leaf_at p start end q r) = sym is ∙ all.each q r s.0 in cc);
}

-- ---- what a round shows doesn't hang on its end

pub leaf_is : (p : PlanContents) (start end q : ℕ) (none : Row) → q < p.tree.processors →
    leaf_at p start end q none ≡ shown p.set.tasks p.tree.scale start (leaf_on (set_boundary p.set.tasks) p.tree start
    (get_or (onto_at (set_boundary p.set.tasks) p.tree start) q None))
leaf_is p start end q none l =
    let rows = rows_of_round p start end in
    let long = length-round p.set.tasks p.tree start end in
    let at = slice_get-get_or rows q none (omega (arith, l, long)) in
    ap (λ (x : Row). x.leaf) (round_get p.set.tasks p.tree start end q (get_or rows q none) at)

-- ---- rounds that come again

both_whole : (tasks : List declared.Task) (m n : ℕ) → PeriodsDivide tasks m → PeriodsDivide tasks n → PeriodsDivide tasks (m + n)
both_whole [] m n h k = tt
both_whole (t ∷ tasks) m n h k = (dvd-add t.period h.0 k.0, both_whole tasks m n h.1 k.1)

-- what ends before all rounds do is early enough for the laws
pub before_limit : (p : PlanContents) (h : IsPlan p) (ticks : ℕ) (turns : AreTurns p ticks) (n : ℕ) → n + ticks < stop_of p →
    n + 2 * (turns.units * p.tree.scale) < 2 ^ 33 * p.tree.scale
before_limit p h ticks turns n l =
    let most : p.set.horizon * p.tree.scale ≤ 2 ^ 32 * p.tree.scale = mul-le-mul_right p.tree.scale (le_of_lt h.lawful.horizon_fits) in
    let e = turns.are in
    omega (arith, l, most, e)

-- where what is left comes again from tick `start` on
module _ (p : PlanContents) (h : IsPlan p) (ticks : ℕ) (turns : AreTurns p ticks) (start : ℕ) (r : Recurs p.set.tasks p.tree turns.units start) where
  -- later ticks are events again
  pub event_by : (n : ℕ) → start < n → n + ticks < stop_of p → event_at p (n + ticks) ≡ event_at p n
  event_by n some l = subst (λ (d : ℕ). event_at p (n + d) ≡ event_at p n) (sym turns.are) (event_again p.set.tasks p.tree turns.units start r n some
      (before_limit p h ticks turns n l))

  -- rounds begin and end at the same ticks, up to the end of all
  pub round_by : (from end : ℕ) → start ≤ from → event_at p (from + ticks) ≡ true → from + ticks < stop_of p → IsRoundUpTo p from end →
      IsRoundUpTo p (from + ticks) (min (end + ticks) (stop_of p))
  round_by from end after begins l round =
      let up = round.above in
      record {
        event = begins;
        above = omega (arith, up, l);
        below = omega arith;
        quiet = λ n low high.
            let e : n - ticks + ticks ≡ n = omega (arith, low) in
            subst (λ (m : ℕ). event_at p m ≡ false) e
            (event_by (n - ticks) (omega (arith, low, after)) (omega (arith, e, low, high)) ∙ round.quiet (n - ticks) (omega (arith, low))
            (omega (arith, low, high)));
        last = elim (cases_lt (end + ticks) (stop_of p)) [
          | inl low ↦
              (let e : end + ticks ≡ min (end + ticks) (stop_of p) = omega (arith, low) in
              subst (λ (m : ℕ). IsRoundStart p m) e (inr (event_by end (omega (arith, up, after)) low ∙ (elim round.last [
                | inl all ↦ absurd (omega (arith, all, low))
                | inr on ↦ on
              ]))))
          | inr high ↦ inl (omega (arith, high))
        ];
      }

  -- where the places are the same again, a processor shows the same
  pub leaf_by : (from : ℕ) → start ≤ from → places_of p (from + ticks) ≡ places_of p from → (begin end to q : ℕ) (none : Row) → from ≤ begin →
      begin + ticks < stop_of p → q < p.tree.processors →
      leaf_at p (begin + ticks) to q none ≡ leaf_at p begin end q none
  leaf_by from after places begin end to q none low l in_tree =
      let d = turns.units * p.tree.scale in
      let e = turns.are in
      let s = before_limit p h ticks turns begin l in
      let same = subst (λ (d : ℕ). places_of p (from + d) ≡ places_of p from) e places in
      let rows = round_later p.set.tasks p.tree turns.units start r from (begin + 1) after (omega (arith, s)) same begin end low (omega arith) in
      let long = length-round p.set.tasks p.tree begin end in
      let there : leaf_at p (begin + d) (end + d) q none ≡ leaf_at p begin end q none =
      ap (λ (rs : List Row). (get_or rs q none).leaf) rows ∙ ap (λ (x : Row). x.leaf) (get_or-map (later d) (rows_of_round p begin end) q none none
      (omega (arith, in_tree, long))) in
      leaf_is p (begin + ticks) to q none in_tree
      ∙ ap (λ d. shown p.set.tasks p.tree.scale (begin + d) (leaf_on (set_boundary p.set.tasks) p.tree (begin + d)
      (get_or (onto_at (set_boundary p.set.tasks) p.tree (begin + d)) q None))) e
      ∙ sym (leaf_is p (begin + d) (end + d) q none in_tree) ∙ there

-- without offsets what is left comes again from tick 0 on
module _ (p : PlanContents) (h : IsPlan p) (can : CanComeRound p) (ticks : ℕ) (turns : AreTurns p ticks) where
  pub early : (n : ℕ) → n + ticks < stop_of p → n + 2 * (turns.units * p.tree.scale) < 2 ^ 33 * p.tree.scale
  early = before_limit p h ticks turns

  pub recurs : (n : ℕ) → n + ticks < stop_of p → Recurs p.set.tasks p.tree turns.units 0
  recurs n l = recurs_on_time p.set p.tree turns.units (record {
    lawful = h.lawful;
    tree = h.tree;
    idles = can.apart;
    some = turns.some;
    closed = record { no_offset = can.on_time; whole_periods = turns.whole };
  }) (few_units n turns.units p.tree.scale (early n l))

  -- ticks after 0 are events again
  pub event_later : (n : ℕ) → 0 < n → n + ticks < stop_of p → event_at p (n + ticks) ≡ event_at p n
  event_later n some l = event_by p h ticks turns 0 (recurs n l) n some l

  -- rounds begin and end at the same ticks, up to the end of all
  pub next_round_at : (start end : ℕ) → event_at p (start + ticks) ≡ true → start + ticks < stop_of p → IsRoundUpTo p start end →
      IsRoundUpTo p (start + ticks) (min (end + ticks) (stop_of p))
  next_round_at start end begins l r = round_by p h ticks turns 0 (recurs start l) start end (omega arith) begins l r

module _ (p : PlanContents) (h : IsPlan p) (can : CanComeRound p) (from ticks : ℕ) (again : ComesAgain p from ticks) where
  -- a processor shows the same
  pub leaf_later : (start end to q : ℕ) (none : Row) → from ≤ start → start + ticks < stop_of p → q < p.tree.processors → leaf_at p (start + ticks) to q
      none ≡ leaf_at p start end q none
  leaf_later start end to q none low l in_tree = leaf_by p h ticks again.turns 0 (recurs p h can ticks again.turns start l) from (omega arith) again.places
      start end to q none low l in_tree

  -- and rounds begin and end at the same ticks, up to the end of all
  pub next_round : (start end : ℕ) → 0 < start → start + ticks < stop_of p → IsRoundUpTo p start end → IsRoundUpTo p (start + ticks)
      (min (end + ticks) (stop_of p))
  next_round start end some l r = next_round_at p h can ticks again.turns start end (event_later p h can ticks again.turns start some l ∙ r.event) l r

-- some of them, and some more
pub turns_more : (p : PlanContents) (a b : ℕ) → AreTurns p a → AreTurns p b → AreTurns p (a + b)
turns_more p a b x y =
    let e = x.are in
    let f = y.are in
    let some = x.some in
    record {
      units = x.units + y.units;
      are = omega (arith, e, f);
      some = omega (arith, some);
      whole = both_whole p.set.tasks x.units y.units x.whole y.whole;
    }

-- multiples of a hyperperiod
pub turns_of : (p : PlanContents) → IsPlan p → (turn ticks : ℕ) → turn ≡ p.tree.scale * p.tree.scale → 0 < ticks → ticks % turn ≡ 0 → AreTurns p ticks
turns_of p h turn ticks is some none =
    let scale = p.tree.scale in
    let d = div-add-mod' ticks turn in
    let parts : ticks / turn * turn ≡ ticks / turn * (scale * scale) = ap (λ n. ticks / turn * n) is in
    let are : ticks ≡ ticks / turn * scale * scale = omega (arith, d, parts, none) in
    let zero_add : 0 + ticks / turn * scale ≡ ticks / turn * scale = omega arith in
    record {
      units = ticks / turn * scale;
      are = are;
      some = elim (cases_lt 0 (ticks / turn * scale)) [
        | inl positive ↦ omega (arith, positive)
        | inr no_unit ↦ absurd (
            let z : ticks / turn * scale ≡ 0 = omega (arith, no_unit) in
            let e = ap (λ n. n * scale) z in
            omega (arith, e, are, some))
      ];
      whole = multiple_whole p.set.tasks scale (ticks / turn * scale) h.tree.scale
          (ap (λ n. n % scale) (sym zero_add) ∙ add-mul-mod_self_right 0 (ticks / turn) scale ∙ zero-mod scale);
    }

-- what is left comes again from where the schedule stands again
pub recurs_from : (p : PlanContents) (from ticks : ℕ) (again : StandsLaterAgain p from ticks) → Recurs p.set.tasks p.tree again.turns.units from
recurs_from p from ticks again = recurs_by p.set p.tree again.turns.units from again.left

-- where it stands again after a lap it does so after one more
pub next_lap : (p : PlanContents) → IsPlan p → (from ticks shift : ℕ) → StandsLaterAgain p from ticks → StandsLaterAgain p from shift →
    from + (shift + ticks) < stop_of p → StandsLaterAgain p from (shift + ticks)
next_lap p h from ticks shift lap again l =
    let d = again.turns.units * p.tree.scale in
    let c = lap.turns.units * p.tree.scale in
    let e = again.turns.are in
    let f = lap.turns.are in
    let r = recurs_from p from shift again in
    let most = before_limit p h shift again.turns (from + ticks) (omega (arith, l)) in
    let same = subst (λ (d : ℕ). places_of p (from + d) ≡ places_of p from) e again.places in
    let there = places_again p.set.tasks p.tree again.turns.units from r from ticks (omega arith) (omega (arith, most)) same in
    let at : from + (shift + ticks) ≡ from + ticks + d = omega (arith, e) in
    let turns = turns_more p shift ticks again.turns lap.turns in
    let later' : from + turns.units * p.tree.scale ≡ from + c + d = omega arith in
    let at' : from + (shift + ticks) ≡ from + ticks + shift = omega arith in
    let some = lap.turns.some in
    let scaled = h.tree.tree.scaled in
    let past : from < from + ticks = (let m : 1 * p.tree.scale ≤ lap.turns.units * p.tree.scale = mul-le-mul_right p.tree.scale some in
    omega (arith, m, f, scaled)) in
    record {
      turns = turns;
      left = record {
        lawful = h.lawful;
        tree = h.tree;
        idles = lap.left.idles;
        some = turns.some;
        whole = turns.whole;
        released = lap.left.released;
        left = λ x i other. ap (λ n. left_of p x n) later'
            ∙ left_again p.set p.tree again.turns.units from r (from + c) x (omega arith) (omega (arith, most, f)) i other
            ∙ lap.left.left x i other;
      };
      places = ap (places_of p) at ∙ there ∙ lap.places;
      event = ap (event_at p) at' ∙ event_by p h shift again.turns from r (from + ticks) past (omega (arith, l)) ∙ lap.event;
    }

-- ---- one round more of a lap

pub start_kept : (from end i : ℕ) (ends : List ℕ) → i ≤ length ends → round_start from (ends ++ end ∷ []) i ≡ round_start from ends i
start_kept from end i ends l = get_or-append (from ∷ ends) (end ∷ []) 0 i (omega (arith, l))

pub start_next : (from end : ℕ) (ends : List ℕ) → round_start from (ends ++ end ∷ []) (length ends + 1) ≡ end
start_next from end ends =
    let e : suc (length ends) ≡ length ends + 1 = omega arith in
    ap (λ i. round_start from (ends ++ end ∷ []) i) (sym e) ∙ get_or-append_seam (from ∷ ends) end [] 0

module _ (p : PlanContents) (from start end : ℕ) (ends : List ℕ) (all told : List (Option Leaf)) (lap : IsLap p from ends all)
    (here : round_start from ends (length ends) ≡ start) (round : IsRoundUpTo p start end) (is : IsAllTold p start end told) where
  long_on : length (ends ++ end ∷ []) ≡ length ends + 1
  long_on = length-append ends (end ∷ [])

  end_here : get_or (ends ++ end ∷ []) (length ends) 0 ≡ end
  end_here = get_or-append_seam ends end [] 0

  start_here : round_start from (ends ++ end ∷ []) (length ends) ≡ start
  start_here = start_kept from end (length ends) ends (omega arith) ∙ here

  told_on : (i q : ℕ) (none : Row) → i < length ends + 1 → q < p.tree.processors →
      get_or (all ++ told) (i * p.tree.processors + q) None ≡ Some (leaf_at p (round_start from (ends ++ end ∷ []) i) (get_or (ends ++ end ∷ []) i 0) q none)
  told_on i q none l in_tree = elim (cases_lt i (length ends)) [
    | inl low ↦
        (let m = p.tree.processors in
        let past : (i + 1) * m ≤ length ends * m = mul-le-mul_right m (omega (arith, low)) in
        let long = lap.long in
        get_or-append all told None (i * m + q) (omega (arith, past, long, in_tree))
        ∙ lap.told i q none low in_tree
        ∙ ap (λ s. Some (leaf_at p s (get_or ends i 0) q none)) (sym (start_kept from end i ends (omega (arith, low))))
        ∙ ap (λ e. Some (leaf_at p (round_start from (ends ++ end ∷ []) i) e q none)) (sym (get_or-append ends (end ∷ []) 0 i low)))
    | inr high ↦
        (let m = p.tree.processors in
        let e : length ends ≡ i = omega (arith, l, high) in
        let at : length all + q ≡ length ends * m + q = ap (λ n. n + q) lap.long in
        subst (λ (k : ℕ). get_or (all ++ told) (k * m + q) None ≡ Some (leaf_at p (round_start from (ends ++ end ∷ []) k) (get_or (ends ++ end ∷ []) k 0) q
        none)) e
        (ap (λ n. get_or (all ++ told) n None) (sym at) ∙ get_or-append-add all told q None ∙ is.each q none in_tree
        ∙ ap (λ s. Some (leaf_at p s end q none)) (sym start_here)
        ∙ ap (λ e. Some (leaf_at p (round_start from (ends ++ end ∷ []) (length ends)) e q none)) (sym end_here)))
  ]

  round_on : (i : ℕ) → i < length ends + 1 → IsRoundUpTo p (round_start from (ends ++ end ∷ []) i) (get_or (ends ++ end ∷ []) i 0)
  round_on i l = elim (cases_lt i (length ends)) [
    | inl low ↦ subst (λ (s : ℕ). IsRoundUpTo p s (get_or (ends ++ end ∷ []) i 0)) (sym (start_kept from end i ends (omega (arith, low))))
        (subst (λ (e : ℕ). IsRoundUpTo p (round_start from ends i) e) (sym (get_or-append ends (end ∷ []) 0 i low)) (lap.round i low))
    | inr high ↦
        (let e : length ends ≡ i = omega (arith, l, high) in
        subst (λ (k : ℕ). IsRoundUpTo p (round_start from (ends ++ end ∷ []) k) (get_or (ends ++ end ∷ []) k 0)) e
        (subst (λ (s : ℕ). IsRoundUpTo p s (get_or (ends ++ end ∷ []) (length ends) 0)) (sym start_here)
        (subst (λ (e : ℕ). IsRoundUpTo p start e) (sym end_here) round)))
  ]

  later_on : (i : ℕ) → i ≤ length ends + 1 → from ≤ round_start from (ends ++ end ∷ []) i
  later_on i l = elim (cases_lt i (length ends + 1)) [
    | inl low ↦
        (let s = start_kept from end i ends (omega (arith, low)) in
        let before = lap.later i (omega (arith, low)) in
        omega (arith, s, before))
    | inr high ↦
        (let e : length ends + 1 ≡ i = omega (arith, l, high) in
        let up = round.above in
        let before = lap.later (length ends) (omega arith) in
        let at = start_next from end ends in
        subst (λ (k : ℕ). from ≤ round_start from (ends ++ end ∷ []) k) e (omega (arith, at, up, before, here)))
  ]

  pub lap_on : IsLap p from (ends ++ end ∷ []) (all ++ told)
  lap_on = record {
    round = λ i l. round_on i (omega (arith, l, long_on));
    later = λ i l. later_on i (omega (arith, l, long_on));
    told = λ i q none l in_tree. told_on i q none (omega (arith, l, long_on)) in_tree;
    long =
        let parts = length-append all told in
        let one = is.long in
        let before = lap.long in
        let m = p.tree.processors in
        let all_of : length (ends ++ end ∷ []) * m ≡ (length ends + 1) * m = ap (λ n. n * m) long_on in
        omega (arith, parts, one, before, all_of);
  }

pub no_lap : (p : PlanContents) (from : ℕ) → IsLap p from [] []
no_lap p from = record {
  round = λ i l. absurd (omega (arith, l));
  later = λ i l. (let e : 0 ≡ i = omega (arith, l) in subst (λ (k : ℕ). from ≤ round_start from [] k) e (omega arith));
  told = λ i q none l in_tree. absurd (omega (arith, l));
  long = omega arith;
}

-- with it the lap ends where it does
pub last_start : (from end : ℕ) (ends : List ℕ) → round_start from (ends ++ end ∷ []) (length (ends ++ end ∷ [])) ≡ end
last_start from end ends = ap (λ i. round_start from (ends ++ end ∷ []) i) (length-append ends (end ∷ [])) ∙ start_next from end ends

-- ---- a round of a lap, later

module _ (p : PlanContents) (h : IsPlan p) (from ticks : ℕ) (again : StandsLaterAgain p from ticks)
    (ends : List ℕ) (all : List (Option Leaf)) (lap : IsLap p from ends all) (i : ℕ) (in_lap : i < length ends) (soon : round_start from ends
    i + ticks < stop_of p) where
  pub lap_round : IsRoundUpTo p (round_start from ends i + ticks) (min (get_or ends i 0 + ticks) (stop_of p))
  lap_round =
      let low = lap.later i (omega (arith, in_lap)) in
      let r = recurs_from p from ticks again in
      let at = round_start from ends i in
      let begins : event_at p (at + ticks) ≡ true = elim (cases_eq at from) [
        | inl e ↦ ap (λ n. event_at p (n + ticks)) e ∙ again.event
        | inr ne ↦ event_by p h ticks again.turns from r at (omega (arith, low, ne)) soon ∙ (lap.round i in_lap).event
      ] in
      round_by p h ticks again.turns from r at (get_or ends i 0) low begins soon (lap.round i in_lap)

  pub lap_told : (to : ℕ) (told : List (Option Leaf)) → length told ≡ p.tree.processors →
      ((q : ℕ) → q < p.tree.processors → get_or told q None ≡ get_or all (i * p.tree.processors + q) None) → IsAllTold p (round_start from ends i + ticks)
      to told
  lap_told to told long is = record {
    long = long;
    each = λ q none l. is q l ∙ lap.told i q none in_lap l
        ∙ ap Some (sym (leaf_by p h ticks again.turns from (recurs_from p from ticks again) from (le_refl from) again.places (round_start from ends i)
        (get_or ends i 0) to q none (lap.later i (omega (arith, in_lap))) soon l));
  }

-- behind the end of all rounds there are no more
pub lap_over : (p : PlanContents) (from : ℕ) (ends : List ℕ) (all : List (Option Leaf)) → IsLap p from ends all → (i ticks : ℕ) → i < length ends →
    stop_of p ≤ round_start from ends i + ticks →
    min (round_start from ends i + ticks) (stop_of p) ≡ min (round_start from ends (i + 1) + ticks) (stop_of p)
lap_over p from ends all lap i ticks l past =
    let up = (lap.round i l).above in
    let next : round_start from ends (i + 1) ≡ get_or ends i 0 = (let e : i + 1 ≡ suc i = omega arith in ap (round_start from ends) e) in
    omega (arith, up, past, next)

-- ---- where the schedule stands alike

-- a lap that ends before all rounds ends where a round begins
pub lap_event : (p : PlanContents) (from : ℕ) (ends : List ℕ) (all : List (Option Leaf)) → IsLap p from ends all → (end : ℕ) →
    round_start from ends (length ends) ≡ end →
    from < end → end < stop_of p → event_at p end ≡ true
lap_event p from [] all lap end at some early = absurd (omega (arith, at, some))
lap_event p from (e ∷ es) all lap end at some early = elim ((lap.round (length es) (omega arith)).last) [
  | inl over ↦ absurd (omega (arith, over, at, early))
  | inr on ↦ ap (event_at p) (sym at) ∙ on
]

-- where it stands alike so many hyperperiods later, it stands again
pub stands_again : (p : PlanContents) → IsPlan p → IdlesApart p.tree → (from ticks : ℕ) → AreTurns p ticks → AllReleased p from →
    StandsAlike p from (from + ticks) →
    event_at p (from + ticks) ≡ true → from + ticks < stop_of p → StandsLaterAgain p from ticks
stands_again p h apart from ticks turns released alike on l = record {
  turns = turns;
  left = record {
    lawful = h.lawful;
    tree = h.tree;
    idles = apart;
    some = turns.some;
    whole = turns.whole;
    released = released;
    left = elim alike.left [
      | inl none ↦ λ x i other.
          let can : CanComeRound p = record { on_time = none; apart = apart } in
          left_again p.set p.tree turns.units 0 (recurs p h can ticks turns from l) from x (omega arith) (before_limit p h ticks turns from l) i other
      | inr same ↦ λ x i other. ap (λ d. left_of p x (from + d)) (sym turns.are) ∙ same x i other
    ];
  };
  places = alike.places;
  event = on;
}

-- so a lap comes again behind which it stands alike
pub lap_again : (p : PlanContents) → IsPlan p → IdlesApart p.tree → (from ticks tick before after : ℕ) (rounds : Lap) → AreTurns p ticks → AllReleased p from →
    from + ticks < stop_of p → 0 < ticks → from ≡ tick → before ≡ tick → after ≡ from + ticks → StandsAlike p before after → IsLapFrom p tick rounds →
    lap_end tick rounds ≡ after →
    IsLapAgain p (record { from = from; ticks = ticks }) rounds
lap_again p h apart from ticks tick before after rounds turns released early some at was end alike lap ends =
    let here : IsLapFrom p from rounds = subst (λ (n : ℕ). IsLapFrom p n rounds) (sym at) lap in
    let last : lap_end from rounds ≡ from + ticks = ap (λ n. lap_end n rounds) at ∙ ends ∙ end in
    let alike' : StandsAlike p from (from + ticks) =
    subst (λ (n : ℕ). StandsAlike p from n) end (subst (λ (n : ℕ). StandsAlike p n after) (was ∙ sym at) alike) in
    record {
      again = stands_again p h apart from ticks turns released alike'
          (lap_event p from rounds.ends.items rounds.told.items here (from + ticks) last (omega (arith, some)) early) early;
      lap = here;
    }
