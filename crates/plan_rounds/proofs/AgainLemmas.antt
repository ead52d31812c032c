-- Rounds that come again, in the table of the rounds so far.
use Rattle.std.proofs.Common.{◌≡◌, ◌≢◌, inl, inr, ℕ, zero, suc, ◌+◌, ◌-◌, ◌*◌, ◌<◌, ◌≤◌, min, true, false, List, [], ◌∷◌, ◌++◌, Some, None, length}
use Rattle.std.proofs.Common.{get_or, set, refl, sym, ap, ◌∙◌, subst, arith, mul-le-mul_right}
use Rattle.std.specs.Prelude.{◌==◌, slice_get}
use Rattle.std.proofs.lemmas.Bool.{cases_eq}
use Rattle.std.proofs.lemmas.List.{ext_get_or, get_or_default}
use Rattle.std.proofs.lemmas.List.Elements.{filter-append}
use Rattle.std.proofs.lemmas.Option.{slice_get-get_or}
use Rattle.sched_base.specs.declared.rows.Leaf.{Leaf}
use Rattle.sched_base.specs.declared.rows.Row.{Row}
use Rattle.sched_base.specs.Lanes.{rows_on}
use Rattle.sched_base.specs.Tables.{RowAt, Table, lane_of, rounds_in, with_round}
use Rattle.sched_base.proofs.ScheduleLanes.{lane_of-lanes_of, length-lanes_of}
use Rattle.sched_base.proofs.TableLemmas.{no_row}
use Rattle.sched_laws.proofs.WholeRounds.{length-round, round_get}
use Rattle.run_tree.specs.Boundaries.{set_boundary}
use Rattle.run_tree.specs.Plans.{IsPlan, PlanContents, rounds_of, schedule_of, stop_of}
use Rattle.run_tree.specs.Schedule.{onto_at}
use Rattle.event_core.specs.Rounds.{IsRoundStart, IsRoundUpTo, event_at, rounds_before, rows_before, rows_of_round}
use Rattle.event_core.proofs.PlanRounds.{next_lanes}
use Rattle.merged_rounds.specs.declared.recurrences.Recurrence.{Recurrence}
use Rattle.round_looks.specs.Looks.{leaf_at}
use Rattle.merged_rounds.specs.Recurrences.{IsRecurrence}
use Rattle.merged_rounds.proofs.CountLemmas.{rounds_again, rounds_rise, rounds_within}
use Rattle.merged_rounds.proofs.LapLemmas.{event_later, leaf_later, next_round, row_shows}
use Rattle.plan_rounds.specs.PlanRows.{AreRoundsOf, RoundsContents, plan_rows}
use Rattle.plan_rounds.proofs.RoundLemmas.{ends_at, lanes_at, rows_ahead, table_at}

slice_get-append : {X : Type 0} (xs ys : List X) (k : ℕ) (x : X) → slice_get xs k ≡ Some x → slice_get (xs ++ ys) k ≡ Some x
slice_get-append [] ys k x at = absurd (let e : None ≡ Some x = at in cc)
slice_get-append (z ∷ xs) ys zero x at = at
slice_get-append (z ∷ xs) ys (suc k) x at = slice_get-append xs ys k x at

slice_get-new : {X : Type 0} (xs : List X) (x : X) → slice_get (xs ++ x ∷ []) (length xs) ≡ Some x
slice_get-new [] x = refl
slice_get-new (y ∷ xs) x = slice_get-new xs x

pub slice_get-set_same : {X : Type 0} (xs : List X) (i : ℕ) (x : X) → i < length xs → slice_get (set xs i x) i ≡ Some x
slice_get-set_same [] i x within = absurd (omega (arith, within))
slice_get-set_same (y ∷ xs) zero x within = refl
slice_get-set_same (y ∷ xs) (suc i) x within = slice_get-set_same xs i x (omega (arith, within))

pub slice_get-set_other : {X : Type 0} (xs : List X) (i j : ℕ) (x : X) → j ≢ i → slice_get (set xs i x) j ≡ slice_get xs j
slice_get-set_other [] i j x other = refl
slice_get-set_other (y ∷ xs) zero zero x other = absurd (other refl)
slice_get-set_other (y ∷ xs) zero (suc j) x other = refl
slice_get-set_other (y ∷ xs) (suc i) zero x other = refl
slice_get-set_other (y ∷ xs) (suc i) (suc j) x other = slice_get-set_other xs i j x (λ same. other (ap suc same))

-- the row of a round that a table has more
pub new_row : (lanes : List (List Row)) (rows : List Row) (q : ℕ) (r : Row) → q < length lanes → slice_get rows q ≡ Some r → RowAt (with_round lanes rows) q
    (length (lane_of lanes q)) r
new_row [] rows q r within at = absurd (omega (arith, within))
new_row (lane ∷ lanes) [] q r within at = absurd (let e : None ≡ Some r = at in cc)
new_row (lane ∷ lanes) (s ∷ rows) zero r within at = let e : Some s ≡ Some r = at in let same : s ≡ r = cc in subst (λ (x : Row). slice_get (lane ++ s ∷ [])
    (length lane) ≡ Some x) same (slice_get-new lane s)
new_row (lane ∷ lanes) (s ∷ rows) (suc q) r within at = new_row lanes rows q r (omega (arith, within)) at

module _ (p : PlanContents) (h : IsPlan p) where
  -- a row of the first rounds is one of all
  pub row_of_plan : (n : ℕ) → IsRoundStart p n → n ≤ stop_of p → (q k : ℕ) (r : Row) → q < p.tree.processors → RowAt (lanes_at p n) q k r →
      RowAt (plan_rows p) q k r
  row_of_plan n begins below q k r within at =
      let (rest, ahead) = rows_ahead p h n begins below in
      let here : lane_of (lanes_at p n) q ≡ rows_on q (rows_before p n) = lane_of-lanes_of p.tree.processors (rows_before p n) q within in
      let lane : lane_of (plan_rows p) q ≡ lane_of (lanes_at p n) q ++ rows_on q rest =
      lane_of-lanes_of p.tree.processors (schedule_of p) q within ∙ ap (rows_on q) ahead ∙ filter-append (λ x. x.processor == q) (rows_before p n) rest
      ∙ ap (λ rows. rows ++ rows_on q rest) (sym here) in
      subst (λ (rows : List Row). slice_get rows k ≡ Some r) (sym lane) (slice_get-append (lane_of (lanes_at p n) q) (rows_on q rest) k r at)

  -- in a round's place stand its rows
  row_in : (start end n : ℕ) → IsRoundUpTo p start end → IsRoundStart p n → n ≤ stop_of p → (q : ℕ) (r : Row) → q < p.tree.processors →
      RowAt (lanes_at p n) q (rounds_before p start) r
      → slice_get (rows_of_round p start end) q ≡ Some r
  row_in start end n round begins within q r inside at =
      let m = p.tree.processors in
      let rows = rows_of_round p start end in
      let wide = length-round p.set.tasks p.tree start end in
      let up = round.above in
      let low = round.below in
      let t = table_at p h start (inr round.event) (omega (arith, up, low)) in
      let many = length-lanes_of m (rows_before p start) in
      let long : length (lane_of (lanes_at p start) q) ≡ rounds_before p start = t.table.whole q (omega (arith, inside, many)) ∙ t.count in
      let here : Row = get_or rows q no_row in
      let is : slice_get rows q ≡ Some here = slice_get-get_or rows q no_row (omega (arith, wide, inside)) in
      let there = new_row (lanes_at p start) rows q here (omega (arith, inside, many)) is in
      let of_end : RowAt (lanes_at p end) q (rounds_before p start) here =
      subst (λ (ls : List (List Row)). RowAt ls q (rounds_before p start) here) (sym (next_lanes p h start end round))
      (subst (λ n. RowAt (with_round (lanes_at p start) rows) q n here) long there) in
      let all = row_of_plan end round.last low q (rounds_before p start) here inside of_end in
      let all' = row_of_plan n begins within q (rounds_before p start) r inside at in
      let e : Some here ≡ Some r = sym all ∙ all' in
      is ∙ e

  -- rows that tell what a round's do are its rows
  pub rows_are : (start end : ℕ) (rows : List Row) → length rows ≡ p.tree.processors
      → ((q : ℕ) → q < p.tree.processors → slice_get rows q ≡ Some
      (record { processor = q; leaf = leaf_at p start end q no_row; start = start; end = end })) → rows ≡ rows_of_round p start end
  rows_are start end rows long each =
      let all = rows_of_round p start end in
      let wide = length-round p.set.tasks p.tree start end in
      ext_get_or no_row rows all (long ∙ sym wide) (λ q l.
      let inside : q < p.tree.processors = omega (arith, l, long) in
      let r : Row = get_or all q no_row in
      let at : slice_get all q ≡ Some r = slice_get-get_or all q no_row (omega (arith, inside, wide)) in
      let is = round_get p.set.tasks p.tree start end q r at in
      let same : record { processor = q; leaf = r.leaf; start = start; end = end } ≡ r =
      ap (λ (l : Leaf). record { processor = q; leaf = l; start = start; end = end }) (ap (λ (x : Row). x.leaf) is) ∙ sym is in
      let here : Some (get_or rows q no_row) ≡ Some (record { processor = q; leaf = leaf_at p start end q no_row; start = start; end = end }) =
      sym (slice_get-get_or rows q no_row l) ∙ each q inside in
      let here' : get_or rows q no_row ≡ record { processor = q; leaf = leaf_at p start end q no_row; start = start; end = end } = cc in
      here' ∙ same)

  module _ (r : RoundsContents) (are : AreRoundsOf p r) (again : Recurrence) (is : IsRecurrence p again) (past : again.from + again.ticks ≤ r.tick)
      (left : rounds_in r.table.lanes < rounds_of p) where
    -- the tick at which the round began that comes again
    abbrev pub begun : ℕ
    begun = r.tick - again.ticks

    early : r.tick < stop_of p
    early = elim (cases_eq r.tick (stop_of p)) [
      | inl last ↦ absurd (let all = ap (rounds_before p) last in let count = are.count in omega (arith, all, count, left))
      | inr other ↦ (let below = are.early in omega (arith, below, other))
    ]

    on : event_at p r.tick ≡ true
    on = let below = early in elim are.begins [ inl last ↦ absurd (omega (arith, last, below)) | inr event ↦ event ]

    then : begun + again.ticks ≡ r.tick
    then = omega (arith, past)

    some : 0 < begun
    some = let later = is.later in omega (arith, past, later)

    began : event_at p begun ≡ true
    began = sym (event_later p h is.can again.ticks is.again.turns begun some (let below = early in let e = then in omega (arith, below, e)))
        ∙ ap (event_at p) then ∙ on

    pub ended : (end : ℕ) × IsRoundUpTo p begun end
    ended = let below = early in let e = then in ends_at p begun (stop_of p - (begun + 1)) (begun + 1) began (omega arith) (omega (arith, below, e))
        (λ x low high. absurd (omega (arith, low, high)))

    -- it comes again as the next one
    pub again_round : IsRoundUpTo p r.tick (min (ended.0 + again.ticks) (stop_of p))
    again_round = subst (λ (n : ℕ). IsRoundUpTo p n (min (ended.0 + again.ticks) (stop_of p))) then
        (next_round p h is.can again.from again.ticks is.again begun ended.0 some (let below = early in let e = then in omega (arith, below, e)) ended.1)

    shift : (x : ℕ) → 0 < x → x + again.ticks ≤ stop_of p → rounds_before p (x + again.ticks) + 1 ≡ rounds_before p (1 + again.ticks) + rounds_before p x
    shift x positive within =
        let n = x - 1 in
        let one = rounds_again p h is.can again.ticks is.again.turns 1 n (omega (arith, positive, within)) in
        let e : 1 + n + 1 * again.ticks ≡ x + again.ticks = omega (arith, positive) in
        let e' : 1 + n ≡ x = omega (arith, positive) in
        let at = ap (rounds_before p) e in
        let at' = ap (rounds_before p) e' in
        omega (arith, one, at, at')

    -- so many rounds later
    pub again_count : rounds_before p begun + again.rounds ≡ rounds_in r.table.lanes
    again_count =
        let below = early in
        let e = then in
        let count = are.count in
        let at = ap (rounds_before p) then in
        let here = shift begun some (omega (arith, below, e)) in
        let first = shift again.from is.later (omega (arith, below, past)) in
        let rounds = is.rounds in
        omega (arith, count, at, here, first, rounds)

    -- its place in the table
    pub again_within : rounds_before p begun < rounds_in r.table.lanes
    again_within =
        let scaled = h.tree.tree.scaled in
        let are_ticks = is.again.turns.are in
        let units : 1 * p.tree.scale ≤ is.again.turns.units * p.tree.scale = mul-le-mul_right p.tree.scale is.again.turns.some in
        let up = ended.1.above in
        let below : begun < min ended.0 r.tick = omega (arith, scaled, are_ticks, units, up, past) in
        let one = rounds_within p begun ended.0 (min ended.0 r.tick) ended.1 below (omega arith) in
        let rise = rounds_rise p (min ended.0 r.tick) r.tick (omega arith) in
        let count = are.count in
        omega (arith, one, rise, count)

    row_is : (q : ℕ) (row : Row) → q < p.tree.processors → RowAt r.table.lanes q (rounds_before p begun) row → slice_get (rows_of_round p begun ended.0)
        q ≡ Some row
    row_is q row inside at = row_in begun ended.0 r.tick ended.1 are.begins are.early q row inside (subst (λ (ls : List (List Row)). RowAt ls q
        (rounds_before p begun) row) are.lanes at)

    pub again_ends : (q : ℕ) (row : Row) → q < p.tree.processors → RowAt r.table.lanes q (rounds_before p begun) row → row.end ≡ ended.0
    again_ends q row inside at = ap (λ (x : Row). x.end) (round_get p.set.tasks p.tree begun ended.0 q row (row_is q row inside at))

    pub again_shows : (q end : ℕ) (row : Row) → q < p.tree.processors → RowAt r.table.lanes q (rounds_before p begun) row → row.leaf ≡ leaf_at p r.tick end
        q no_row
    again_shows q end row inside at =
        let below = early in
        let e = then in
        (row_shows p begun ended.0 q row (row_is q row inside at)).1
        ∙ sym (leaf_later p h is.can again.from again.ticks is.again begun ended.0 end q row (omega (arith, past)) (omega (arith, below, e)) inside)
        ∙ ap (λ n. leaf_at p n end q row) then
        ∙ ap (λ (x : Row). x.leaf) (get_or_default (rows_of_round p r.tick end) q row no_row (let wide = length-round p.set.tasks p.tree r.tick end in
        omega (arith, inside, wide)))

    -- where a copy of the table has it
    module _ (old : Table) (n : ℕ) (same : old ≡ r.table) (all : n ≡ rounds_in old.lanes) where
      rounds_are : n ≡ rounds_in r.table.lanes
      rounds_are = all ∙ ap (λ (t : Table). rounds_in t.lanes) same

      pub again_few : again.rounds ≤ n
      again_few = let a = again_count in let b = rounds_are in omega (arith, a, b)

      place_is : n - again.rounds ≡ rounds_before p begun
      place_is = let a = again_count in let b = rounds_are in omega (arith, a, b)

      pub again_place : n - again.rounds < rounds_in old.lanes
      again_place = let a = place_is in let b = again_within in let c = rounds_are in omega (arith, a, b, c, all)

      pub again_wide : length old.lanes ≡ p.tree.processors
      again_wide = ap (λ (t : Table). length t.lanes) same ∙ ap length are.lanes ∙ length-lanes_of p.tree.processors (rows_before p r.tick)

      row_at_place : (q : ℕ) (row : Row) → RowAt old.lanes q (n - again.rounds) row → RowAt r.table.lanes q (rounds_before p begun) row
      row_at_place q row at = subst (λ (k : ℕ). RowAt r.table.lanes q k row) place_is (subst (λ (t : Table). RowAt t.lanes q (n - again.rounds) row) same at)

      pub again_ends_at : (q : ℕ) (row : Row) → q < p.tree.processors → RowAt old.lanes q (n - again.rounds) row → row.end ≡ ended.0
      again_ends_at q row inside at = again_ends q row inside (row_at_place q row at)

      pub again_shows_at : (q end : ℕ) (row : Row) → q < p.tree.processors → RowAt old.lanes q (n - again.rounds) row → row.leaf ≡ leaf_at p r.tick end q no_row
      again_shows_at q end row inside at = again_shows q end row inside (row_at_place q row at)
