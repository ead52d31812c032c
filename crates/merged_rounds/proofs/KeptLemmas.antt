-- The number of all rounds, by those of a hyperperiod that are kept.
use Rattle.std.proofs.Common.{◌≡◌, ℕ, zero, suc, ◌+◌, ◌-◌, ◌*◌, ◌/◌, ◌%◌, ◌<◌, ◌≤◌, inl, inr, List, [], ◌∷◌, length, get_or, true, ap, sym, ◌∙◌}
use Rattle.std.proofs.Common.{arith, mul-le-mul_right}
use Rattle.sched_base.proofs.ListLemmas.{passing_on}
use Rattle.run_tree.specs.Plans.{IsPlan, PlanContents, rounds_of, stop_of}
use Rattle.event_core.specs.Rounds.{IsRoundUpTo, event_at, rounds_before}
use Rattle.event_core.proofs.RoundsInOrder.{next_rounds, no_rounds}
use Rattle.merged_rounds.specs.declared.turns.Turn.{Turn}
use Rattle.merged_rounds.specs.Laps.{AreTurns, CanComeRound, round_start}
use Rattle.merged_rounds.specs.Replays.{IsTurnOf, turn_end}
use Rattle.merged_rounds.proofs.CountLemmas.{all_rounds_by, rounds_on, rounds_within}

-- one round more begins at an event
rounds_past : (p : PlanContents) (n : ℕ) → event_at p n ≡ true → rounds_before p (n + 1) ≡ rounds_before p n + 1
rounds_past p n on =
    let more = rounds_on p n (suc zero) in
    let first = ap length (passing_on (event_at p) n zero on) in
    let past : n + suc zero ≡ n + 1 = omega arith in
    let at = ap (rounds_before p) past in
    omega (arith, more, first, at)

-- hyperperiods have ticks
pub some_ticks : (p : PlanContents) → IsPlan p → (ticks : ℕ) → AreTurns p ticks → 0 < ticks
some_ticks p h ticks turns =
    let some = turns.some in
    let are = turns.are in
    let scaled = h.tree.tree.scaled in
    let m : 1 * p.tree.scale ≤ turns.units * p.tree.scale = mul-le-mul_right p.tree.scale some in
    omega (arith, m, are, scaled)

module _ (p : PlanContents) (ends : List ℕ) (round : (i : ℕ) → i < length ends → IsRoundUpTo p (round_start 0 ends i) (get_or ends i 0)) where
  -- as many rounds begin before one of these as stand before it
  pub starts_count : (i : ℕ) → i ≤ length ends → rounds_before p (round_start 0 ends i) ≡ i
  starts_count zero l = no_rounds p
  starts_count (suc i) l =
      let next = next_rounds p (round_start 0 ends i) (get_or ends i 0) (round i (omega (arith, l))) in
      let before = starts_count i (omega (arith, l)) in
      omega (arith, next, before)

  -- so many begin before a tick
  pub count_before : (i tick : ℕ) → 0 < i → i ≤ length ends → round_start 0 ends (i - 1) < tick → tick ≤ round_start 0 ends i → rounds_before p tick ≡ i
  count_before zero tick some within low high = absurd (omega (arith, some))
  count_before (suc j) tick some within low high =
      let e : suc j - 1 ≡ j = omega arith in
      let at = ap (round_start 0 ends) e in
      let one = rounds_within p (round_start 0 ends j) (get_or ends j 0) tick (round j (omega (arith, within))) (omega (arith, low, at)) high in
      let before = starts_count j (omega (arith, within)) in
      omega (arith, one, before)

module _ (p : PlanContents) (h : IsPlan p) (can : CanComeRound p) (kept : Turn) (is : IsTurnOf p kept) (turns : AreTurns p (turn_end kept))
    (early : turn_end kept < stop_of p) where
  pub some_kept : 0 < length kept.ends
  some_kept = some kept.ends (some_ticks p h (turn_end kept) turns)
    where
      some : (ends : List ℕ) → 0 < round_start 0 ends (length ends) → 0 < length ends
      some [] positive = absurd (omega (arith, positive))
      some (e ∷ ends) positive = omega arith

  -- behind the last of them a round begins
  last_event : event_at p (turn_end kept) ≡ true
  last_event = last kept.ends some_kept early is.turn.round
    where
      last : (ends : List ℕ) → 0 < length ends → round_start 0 ends (length ends) < stop_of p → ((i : ℕ) → i < length ends →
          IsRoundUpTo p (round_start 0 ends i) (get_or ends i 0)) →
          event_at p (round_start 0 ends (length ends)) ≡ true
      last [] some soon round = absurd (omega (arith, some))
      last (e ∷ ends) some soon round = elim ((round (length ends) (omega arith)).last) [
        | inl over ↦ absurd (omega (arith, over, soon))
        | inr on ↦ on
      ]

  pub all_by_kept : (turn last rest : ℕ) → turn ≡ turn_end kept → last ≡ stop_of p - 1 → 0 < rest → rest ≤ length kept.ends → round_start 0 kept.ends
      (rest - 1) < last % turn + 1 →
      last % turn + 1 ≤ round_start 0 kept.ends rest → rounds_of p ≡ last / turn * length kept.ends + rest
  all_by_kept turn last rest e f some within low high =
      let count = starts_count p kept.ends is.turn.round (length kept.ends) (omega arith) in
      let past = rounds_past p (turn_end kept) last_event in
      let each : rounds_before p (turn_end kept + 1) - 1 ≡ length kept.ends = omega (arith, count, past) in
      let all = all_rounds_by p h can (turn_end kept) turns (some_ticks p h (turn_end kept) turns) (omega (arith, early)) in
      let begun = count_before p kept.ends is.turn.round rest (last % turn + 1) some within low high in
      let times : (stop_of p - 1) / turn_end kept * (rounds_before p (turn_end kept + 1) - 1) ≡ last / turn * length kept.ends =
      ap (λ n. (stop_of p - 1) / turn_end kept * n) each ∙ ap (λ n. n / turn_end kept * length kept.ends) (sym f) ∙ ap (λ n. last / n * length kept.ends)
      (sym e) in
      let rests : rounds_before p ((stop_of p - 1) % turn_end kept + 1) ≡ rounds_before p (last % turn + 1) =
      ap (λ n. rounds_before p (n % turn_end kept + 1)) (sym f) ∙ ap (λ n. rounds_before p (last % n + 1)) (sym e) in
      omega (arith, all, begun, times, rests)
