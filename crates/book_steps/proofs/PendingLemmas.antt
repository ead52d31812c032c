-- What an event and a computed round keep of the pending rows.
use Rattle.std.proofs.Common.{◌≡◌, ◌≢◌, inl, inr, ℕ, zero, suc, ◌+◌, ◌-◌, ◌*◌, ◌<◌, ◌≤◌, ◌^◌, ◌⊎◌, Bool, true, false, List, [], ◌∷◌, ◌++◌, None, Some}
use Rattle.std.proofs.Common.{drop, length, map, set, get_or, take, replicate, refl, sym, ap, ◌∙◌, subst, arith, add-one}
use Rattle.std.specs.Prelude.{slice_get, slice_index}
use Rattle.std.proofs.lemmas.Bool.{cases_eq, eq-eqb}
use Rattle.std.proofs.lemmas.List.{get_or-set_other, get_or-set_same, length-set, length-replicate}
use Rattle.std.proofs.lemmas.Option.{slice_get-get_or, slice_get_within}
use Rattle.sched_base.specs.declared.rows.Leaf.{Leaf}
use Rattle.sched_base.specs.declared.rows.Leaf.TheVariants.{Task, Wait, Idle, Empty}
use Rattle.sched_base.specs.declared.rows.Row.{Row}
use Rattle.sched_base.specs.declared.rows.TaskId.{TaskId}
use Rattle.sched_base.specs.Rows.{is_of_task}
use Rattle.sched_base.specs.Tables.{Table, lane_of, RowAt, IsTable, end_after, rounds_in, ticks_in, ticks_before, with_round}
use Rattle.sched_base.proofs.ScheduleLanes.{length-lanes_of}
use Rattle.sched_base.proofs.TableLemmas.{lane_within, no_row, row_within}
use Rattle.sched_base.proofs.TickLemmas.{ticks_before-le}
use Rattle.sched_laws.proofs.WholeRounds.{length-round}
use Rattle.run_tree.specs.Plans.{PlanContents, IsPlan, rounds_of, stop_of}
use Rattle.event_core.specs.Rounds.{IsRoundUpTo, rows_before, rounds_before, rows_of_round}
use Rattle.event_core.proofs.PlanRounds.{is_round, next_lanes}
use Rattle.event_core.proofs.RoundsInOrder.{next_rounds, no_rounds}
use Rattle.book_machine.specs.declared.machine.LaneState.{LaneState}
use Rattle.book_machine.specs.Machine.{PostedBefore, State, lane_at, least_of, least_posted, posted_at, start}
use Rattle.book_machine.proofs.Lanes.{each_lane-set, least_at, least_le, least-same, least-set}
use Rattle.circular_buffer.specs.Buffer.{Buffer, buffer}
use Rattle.circular_buffer.proofs.Places.{slice_get-some}
use Rattle.plan_rounds.specs.PlanRows.{AreRoundsOf, RoundsContents, plan_rows}
use Rattle.plan_rounds.proofs.RoundLemmas.{AreRoundsOf-first, AreRoundsOf-next, below_or, lanes_at, names_task, no_lanes, plan_lanes, plan_table, rounds_left}
use Rattle.plan_rounds.proofs.AgainLemmas.{new_row, row_of_plan}
use Rattle.plan_rounds.specs.Parts.{RowsKept}
use Rattle.plan_rounds.proofs.RowLemmas.{RowsKept-set, RowsKept-start}
use Rattle.book_steps.specs.declared.ring.PendingRow.{PendingRow}
use Rattle.book_steps.specs.Pending.{AreCounted, AreNoted, ArePending, CanCount, CanNote, IsPending, PendingContents, PendingKept, all_computed}
use Rattle.book_steps.specs.Pending.{given_to, last_of, pending, rounds_up_to, with_last}
use Rattle.book_steps.specs.Sources.{GoesOnWithPlan}
use Rattle.book_steps.specs.Books.{no_rows}
use Rattle.book_steps.specs.Turns.{with_ticks}
use Rattle.book_steps.proofs.HeldRounds.{ArePending-less, ArePending-more, is_held, place_within, room_left}
use Rattle.book_steps.proofs.BookLemmas.{is_task, length-with_ticks, with_ticks-at}
use Rattle.book_steps.proofs.SourceLemmas.{at_first, goes_on}
use Rattle.book_steps.proofs.TickCounts.{place_ticks, row_ticks-some, ticks_in-next}

-- ---- lists

least_below : (lanes : List LaneState) (n : ℕ) → ((q : ℕ) → (lane_at lanes q).posted ≤ n) → least_of lanes ≤ n
least_below [] n most = omega arith
least_below (lane ∷ lanes) n most = let low = least_le (lane ∷ lanes) 0 (omega arith) in let here = most 0 in omega (arith, low, here)

zero_in : (n t : ℕ) → slice_index (replicate n 0) t ≡ 0
zero_in zero t = refl
zero_in (suc n) zero = refl
zero_in (suc n) (suc t) = zero_in n t

ticks_of_none : (t : ℕ) (lanes : List (List Row)) → ticks_before t 0 lanes ≡ 0
ticks_of_none t [] = refl
ticks_of_none t (lane ∷ lanes) = let rest = ticks_of_none t lanes in omega (arith, rest)

-- one round more of ticks
ticks_of_next : (t k : ℕ) (lanes : List (List Row)) (rows : List Row) → length rows ≡ length lanes → ((q : ℕ) (r : Row) → slice_get rows q ≡ Some r →
    RowAt lanes q k r)
    → ticks_before t (suc k) lanes ≡ ticks_before t k lanes + ticks_in t rows
ticks_of_next t k [] [] many at = refl
ticks_of_next t k [] (r ∷ rows) many at = absurd (omega (arith, many))
ticks_of_next t k (lane ∷ lanes) [] many at = absurd (omega (arith, many))
ticks_of_next t k (lane ∷ lanes) (r ∷ rows) many at =
    let rest = ticks_of_next t k lanes rows (omega (arith, many)) (λ q s there. at (suc q) s there) in
    let here = ticks_in-next t lane k in
    let one = ap (place_ticks t) (at 0 r refl) in
    omega (arith, rest, here, one)

end_after_row : (rows : List Row) (before k : ℕ) (r : Row) → slice_get rows k ≡ Some r → end_after before (take (suc k) rows) ≡ r.end
end_after_row [] before k r at = absurd (let e : None ≡ Some r = at in cc)
end_after_row (s ∷ rows) before zero r at = let e : Some s ≡ Some r = at in let same : s ≡ r = cc in ap (λ (x : Row). x.end) same
end_after_row (s ∷ rows) before (suc k) r at = end_after_row rows s.end k r at

-- ---- the ticks of a round's rows, one by one

ticks_in_part : (t : ℕ) (rows : List Row) (k : ℕ) → ticks_in t (take k rows) ≤ ticks_in t rows
ticks_in_part t [] zero = omega arith
ticks_in_part t [] (suc k) = omega arith
ticks_in_part t (r ∷ rows) zero = omega arith
ticks_in_part t (r ∷ rows) (suc k) = let rest = ticks_in_part t rows k in omega (arith, rest)

take_whole : (rows : List Row) (k : ℕ) → length rows ≤ k → take k rows ≡ rows
take_whole [] zero past = refl
take_whole [] (suc k) past = refl
take_whole (r ∷ rows) zero past = absurd (omega (arith, past))
take_whole (r ∷ rows) (suc k) past = ap (λ rest. r ∷ rest) (take_whole rows k (omega (arith, past)))

pub AreCounted-none : (given : List ℕ) → AreCounted given [] given
AreCounted-none given = record { many = refl; each = λ t low. omega arith }

pub AreCounted-all : (old : List ℕ) (rows : List Row) (k : ℕ) (new : List ℕ) → length rows ≤ k → AreCounted old (take k rows) new → AreCounted old rows new
AreCounted-all old rows k new past are = subst (λ (rs : List Row). AreCounted old rs new) (take_whole rows k past) are

module _ (old : List ℕ) (rows : List Row) (can : CanCount old rows) (k : ℕ) (new : List ℕ) (are : AreCounted old (take k rows) new) (r : Row)
    (at : slice_get rows k ≡ Some r) where
  -- the ticks of the next row can be added
  pub can_add : (task : TaskId) → r.leaf ≡ Task task → (task.0 < length new) × (slice_index new task.0 + (r.end - r.start) < 2 ^ 127)
  can_add task is =
      let low = can.tasks k r task at is in
      let many = are.many in
      let so_far = are.each task.0 low in
      let more = ticks_in-next task.0 rows k in
      let one = ap (place_ticks task.0) at ∙ row_ticks-some task.0 r (is_task r.leaf task is) in
      let part = ticks_in_part task.0 rows (suc k) in
      let fits = can.fits task.0 low in
      (omega (arith, low, many), omega (arith, so_far, more, one, part, fits))

  pub AreCounted-next : AreCounted old (take (k + 1) rows) (with_ticks new r.leaf (r.end - r.start))
  AreCounted-next = record {
    many = length-with_ticks new r.leaf (r.end - r.start) ∙ are.many;
    each = λ t low.
        let so_far = are.each t low in
        let added = with_ticks-at new r.leaf (r.end - r.start) t (let many = are.many in omega (arith, low, many)) in
        let more : ticks_in t (take (k + 1) rows) ≡ ticks_in t (take k rows) + place_ticks t (slice_get rows k) = rw add-one (ticks_in-next t rows k) in
        let one = ap (place_ticks t) at in
        omega (arith, so_far, added, more, one);
  }

-- ---- the last rounds of a round's rows

pub AreNoted-none : (tasks round : ℕ) (old : List ℕ) → AreNoted tasks round old [] old
AreNoted-none tasks round old = record { many = refl; least = λ i n low before. before; each = λ q r task at is. absurd (let e : None ≡ Some r = at in cc) }

pub AreNoted-all : (tasks round : ℕ) (old : List ℕ) (rows : List Row) (k : ℕ) (new : List ℕ) → length rows ≤ k → AreNoted tasks round old (take k rows) new
    → AreNoted tasks round old rows new
AreNoted-all tasks round old rows k new past are = subst (λ (rs : List Row). AreNoted tasks round old rs new) (take_whole rows k past) are

-- the first rows are all but the last of them
take_more : (rows : List Row) (k q : ℕ) (r : Row) → slice_get (take (suc k) rows) q ≡ Some r → (slice_get (take k rows) q ≡ Some r)
    ⊎ ((q ≡ k) × (slice_get rows k ≡ Some r))
take_more [] k q r at = absurd (let e : None ≡ Some r = at in cc)
take_more (s ∷ rows) zero zero r at = inr (refl, at)
take_more (s ∷ rows) zero (suc q) r at = absurd (let e : None ≡ Some r = at in cc)
take_more (s ∷ rows) (suc k) zero r at = inl at
take_more (s ∷ rows) (suc k) (suc q) r at = elim (take_more rows k q r at) [ inl before ↦ inl before | inr (same, last) ↦ inr (ap suc same, last) ]

module _ (tasks round : ℕ) (old : List ℕ) (rows : List Row) (k : ℕ) (new : List ℕ) (are : AreNoted tasks round old (take k rows) new) (r : Row)
    (at : slice_get rows k ≡ Some r) where
  -- a row of no task is noted nowhere
  pub AreNoted-skip : ((task : TaskId) → r.leaf ≢ Task task) → AreNoted tasks round old (take (k + 1) rows) new
  AreNoted-skip none = record {
    many = are.many;
    least = are.least;
    each = λ q s task there is. elim (take_more rows k q s (rw add-one at there)) [
      | inl before ↦ are.each q s task before is
      | inr last ↦ absurd (let e : Some s ≡ Some r = sym last.1 ∙ at in let same : s ≡ r = cc in none task (sym (ap (λ (x : Row). x.leaf) same) ∙ is))
    ];
  }

  module _ (task : TaskId) (is : r.leaf ≡ Task task) (within : k * tasks + task.0 < length new) where
    abbrev place : ℕ
    place = k * tasks + task.0

    -- what was below stays below
    stays : (i n : ℕ) → n < round → n < slice_index new i → n < slice_index (set new place round) i
    stays i n low before = elim (cases_eq i place) [
      | inl same ↦ (let here = get_or-set_same new place round 0 within in let e = ap (slice_index (set new place round)) same in omega (arith, here, e, low))
      | inr other ↦ (let there = get_or-set_other new place i round 0 other in omega (arith, there, before))
    ]

    pub AreNoted-next : AreNoted tasks round old (take (k + 1) rows) (set new place round)
    AreNoted-next = record {
      many = length-set new place round ∙ are.many;
      least = λ i n low before. stays i n low (are.least i n low before);
      each = λ q s other there of. elim (take_more rows k q s (rw add-one at there)) [
        | inl before ↦ (
            let up = are.each q s other before of in
            elim (cases_eq (q * tasks + other.0) place) [
              | inl same ↦ (let here = get_or-set_same new place round 0 within in let e = ap (slice_index (set new place round)) same in
                  omega (arith, here, e))
              | inr apart ↦ (let kept = get_or-set_other new place (q * tasks + other.0) round 0 apart in omega (arith, kept, up))
            ]
            )
        | inr last ↦ (
            let e : Some s ≡ Some r = sym last.1 ∙ at in
            let same : s ≡ r = cc in
            let leaf : Task other ≡ Task task = sym of ∙ ap (λ (x : Row). x.leaf) same ∙ is in
            let named : other ≡ task = cc in
            let places : q * tasks + other.0 ≡ place = ap (λ n. n * tasks + other.0) last.0 ∙ ap (λ (t : TaskId). k * tasks + t.0) named in
            let here = get_or-set_same new place round 0 within in
            let e = ap (slice_index (set new place round)) places in
            omega (arith, here, e)
            )
      ];
    }

  pub AreNoted-leaf : (leaf : Leaf) → r.leaf ≡ leaf → ((task : TaskId) → leaf ≡ Task task → k * tasks + task.0 < length new) → AreNoted tasks round old
      (take (k + 1) rows) (with_last new tasks round k leaf)
  AreNoted-leaf (Task task) is within = AreNoted-next task is (within task refl)
  AreNoted-leaf (Wait other) is within = AreNoted-skip (λ task named. absurd (let e : Wait other ≡ Task task = sym is ∙ named in cc))
  AreNoted-leaf (Idle number) is within = AreNoted-skip (λ task named. absurd (let e : Idle number ≡ Task task = sym is ∙ named in cc))
  AreNoted-leaf Empty is within = AreNoted-skip (λ task named. absurd (let e : Empty ≡ Task task = sym is ∙ named in cc))

-- there is a place for the processor and the task of each row of a round whose ticks can be counted
pub can_note : (given : List ℕ) (rows : List Row) (places width : ℕ) → CanCount given rows → length rows ≡ width → places ≡ width * length given →
    CanNote (length given) rows places
can_note given rows places width can wide all q r task at is =
    let inside = slice_get_within rows q r at in
    let there = place_within q width (length given) task.0 (omega (arith, inside, wide)) (can.tasks q r task at is) in
    omega (arith, there, all)

module _ (p : PlanContents) (h : IsPlan p) where
  abbrev all : List (List Row)
  all = plan_rows p

  abbrev processors : ℕ
  processors = p.tree.processors

  -- ---- before the first event

  abbrev made : List (List Row) → ℕ → Table
  made lanes room = record { lanes = lanes; room = room }

  -- no round is seen before the first one
  pub no_rows_yet : (n : ℕ) → n ≡ 0 → rounds_up_to p n ≡ no_rows p
  no_rows_yet n first =
      let lanes : lanes_at p n ≡ replicate processors [] = ap (lanes_at p) first ∙ no_lanes p h in
      let before : rounds_before p n ≡ 0 = ap (rounds_before p) first ∙ no_rounds p in
      let room : rounds_of p - rounds_before p n ≡ rounds_of p = omega (arith, before) in
      ap (λ ls. made ls (rounds_of p - rounds_before p n)) lanes ∙ ap (made (replicate processors [])) room

  module _ (window : ℕ) (s : State) (begins : s ≡ start processors) (r : PendingContents) where
    pub PendingKept-start : GoesOnWithPlan p r.source → r.source.tick ≡ 0 → r.width ≡ processors → r.held ≡ buffer [] (window * processors) → r.computed ≡ 0
        → r.given ≡ replicate (length p.set.tasks) 0 → r.last ≡ replicate (processors * length p.set.tasks) 0 → PendingKept p window s r
    PendingKept-start belongs first wide held none given last =
        let lanes : lanes_at p r.source.tick ≡ replicate processors [] = ap (lanes_at p) first ∙ no_lanes p h in
        let before : rounds_before p r.source.tick ≡ 0 = ap (rounds_before p) first ∙ no_rounds p in
        record {
          kept = RowsKept-start p window s (all_computed p r) (AreRoundsOf-first p h (all_computed p r) belongs.core (at_first p r.source belongs first)
              first (goes_on p r.source belongs).0 wide lanes (omega (arith, before))) lanes begins;
          source = belongs;
          computed = none ∙ sym before;
          counted = omega (arith, none);
          rows = subst (λ (b : Buffer PendingRow). ArePending all processors (least_posted s) r.computed b.items) (sym held) (record {
            many = sym (ap (λ d. d * processors) (let n : r.computed - least_posted s ≡ 0 = omega (arith, none) in n) ∙ omega arith);
            each = λ i q next inside at. absurd (let e : None ≡ Some next = at in cc);
          });
          places = ap (λ (b : Buffer PendingRow). b.capacity) held;
          tasks = ap length given ∙ length-replicate (length p.set.tasks) 0;
          given = λ t below. ap (λ (xs : List ℕ). slice_index xs t) given ∙ zero_in (length p.set.tasks) t ∙ sym (ap (λ n. ticks_before t n all) none
              ∙ ticks_of_none t all);
          last_places = ap length last ∙ length-replicate (processors * length p.set.tasks) 0;
          last = λ q j row low at. absurd (omega (arith, none, low));
        }

  -- the rounds that a contract sees are those that are counted
  pub computed_is : (window : ℕ) (s : State) (r : PendingContents) → PendingKept p window s r → rounds_in (all_computed p r).table.lanes ≡ r.computed
  computed_is window s r k = k.kept.rounds.count ∙ sym k.computed

  -- no round that is held lies past the computed ones
  least_computed : (window : ℕ) (s : State) (r : PendingContents) → PendingKept p window s r → least_posted s ≤ r.computed
  least_computed window s r k = least_below s.lanes r.computed (λ q. let held = k.kept.posted q in let is = computed_is window s r k in omega (arith, held, is))

  -- ---- an event

  module _ (window : ℕ) (s : State) (q : ℕ) (lane : LaneState) (halted : Bool) (r : PendingContents) (k : PendingKept p window s r) where
    abbrev next : State
    next = record { lanes = set s.lanes q lane; halted = halted }

    -- a lane whose count stays leaves the pending rows
    pub PendingKept-same : q < length s.lanes → lane.posted ≡ posted_at s q → (lane.out ≡ true → lane.posted < r.computed) → PendingKept p window next r
    PendingKept-same within same out = record {
      kept = RowsKept-set p window s q lane halted (all_computed p r) k.kept within (omega (arith, same)) (let held = k.kept.posted q in
          omega (arith, same, held)) (λ o. let below = out o in let is = computed_is window s r k in omega (arith, below, is));
      source = k.source;
      computed = k.computed;
      counted = k.counted;
      rows = subst (λ n. ArePending all processors n r.computed r.held.items) (least-same s.lanes q lane within same) k.rows;
      places = k.places;
      tasks = k.tasks;
      given = k.given;
      last_places = k.last_places;
      last = k.last;
    }

    module _ (within : q < length s.lanes) (below : posted_at s q < r.computed) (one : lane.posted ≡ posted_at s q + 1) (free : lane.out ≡ false) where
      kept_next : RowsKept p window next (all_computed p r)
      kept_next = RowsKept-set p window s q lane halted (all_computed p r) k.kept within (omega (arith, one)) (let is = computed_is window s r k in
          omega (arith, one, below, is)) (λ o. let both : true ≡ false = sym o ∙ free in absurd (cc))

      -- a post lets the least posted count stay, or go up by one
      least_stays : least_posted s ≤ least_posted next
      least_stays = least-set s.lanes q lane within (omega (arith, one))

      least_most : least_posted next ≤ least_posted s + 1
      least_most =
          let (v, inside, is) = least_at s.lanes (omega (arith, within)) in
          let many : length next.lanes ≡ length s.lanes = length-set s.lanes q lane in
          let low = least_le next.lanes v (omega (arith, inside, many)) in
          let most = each_lane-set (λ u l. l.posted ≤ posted_at s u + 1) s.lanes q lane within (omega (arith, one)) (λ u _. omega arith) v in
          omega (arith, is, low, most)

      -- where it stays all that is held stays
      pub PendingKept-stay : least_posted next ≤ least_posted s → PendingKept p window next r
      PendingKept-stay stays = record {
        kept = kept_next;
        source = k.source;
        computed = k.computed;
        counted = k.counted;
        rows = subst (λ n. ArePending all processors n r.computed r.held.items) (let up = least_stays in omega (arith, up, stays)) k.rows;
        places = k.places;
        tasks = k.tasks;
        given = k.given;
        last_places = k.last_places;
        last = k.last;
      }

      abbrev fewer : PendingContents
      fewer = record r { held = buffer (drop r.width r.held.items) r.held.capacity }

      -- else the first round that is held goes
      pub PendingKept-go : least_posted s < least_posted next → PendingKept p window next fewer
      PendingKept-go moved = record {
        kept = kept_next;
        source = k.source;
        computed = k.computed;
        counted = k.counted;
        rows =
            let wide : r.width ≡ processors = k.kept.rounds.width in
            let low = least_le s.lanes q within in
            subst (λ w. ArePending all processors (least_posted next) r.computed (drop w r.held.items)) (sym wide)
            (ArePending-less all processors (least_posted s) r.computed r.held.items k.rows (omega (arith, low, below)) (least_posted next) (let most =
            least_most in omega (arith, moved, most)));
        places = k.places;
        tasks = k.tasks;
        given = k.given;
        last_places = k.last_places;
        last = k.last;
      }

  -- ---- a round more

  module _ (start end : ℕ) (round : IsRoundUpTo p start end) where
    abbrev rows : List Row
    rows = rows_of_round p start end

    wide : length rows ≡ processors
    wide = length-round p.set.tasks p.tree start end

    module _ (c : RoundsContents) (are : AreRoundsOf p c) (at_tick : c.tick ≡ start) where
      -- the rows of the round are rows of the plan
      pub row_of_round : (q : ℕ) (r : Row) → slice_get rows q ≡ Some r → RowAt all q (rounds_before p start) r
      row_of_round q r at =
          let inside : q < processors = let low = slice_get_within rows q r at in let many = wide in omega (arith, low, many) in
          let lanes : c.table.lanes ≡ lanes_at p start = are.lanes ∙ ap (lanes_at p) at_tick in
          let many : length (lanes_at p start) ≡ processors = length-lanes_of processors (rows_before p start) in
          let table : IsTable (lanes_at p start) = subst (λ (ls : List (List Row)). IsTable ls) lanes are.table in
          let count : rounds_in (lanes_at p start) ≡ rounds_before p start = sym (ap rounds_in lanes) ∙ are.count ∙ ap (rounds_before p) at_tick in
          let long : length (lane_of (lanes_at p start) q) ≡ rounds_before p start = table.whole q (omega (arith, inside, many)) ∙ count in
          let there = new_row (lanes_at p start) rows q r (omega (arith, inside, many)) at in
          row_of_plan p h end round.last round.below q (rounds_before p start) r inside
          (subst (λ (ls : List (List Row)). RowAt ls q (rounds_before p start) r) (sym (next_lanes p h start end round))
          (subst (λ n. RowAt (with_round (lanes_at p start) rows) q n r) long there))

      -- a task's ticks up to the round's end
      pub ticks_to_end : (t : ℕ) → ticks_before t (rounds_before p start + 1) all ≡ ticks_before t (rounds_before p start) all + ticks_in t rows
      ticks_to_end t = rw add-one (ticks_of_next t (rounds_before p start) all rows (wide ∙ sym (plan_lanes p h)) (λ q r at. row_of_round q r at))

      -- these fit
      pub ticks_fit : (t : ℕ) → ticks_before t (rounds_before p start + 1) all < 2 ^ 127
      ticks_fit t =
          let some = h.sized.some_processors in
          let r : Row = get_or rows 0 no_row in
          let at = row_of_round 0 r (slice_get-get_or rows 0 no_row (let many = wide in omega (arith, some, many))) in
          let table = plan_table p h in
          let inside = row_within all table 0 (rounds_before p start) r at in
          let most = ticks_before-le all table t (rounds_before p start + 1) (let low = inside.1 in omega (arith, low)) in
          let ends : end_after 0 (take (rounds_before p start + 1) (lane_of all 0)) ≡ r.end = rw add-one (end_after_row (lane_of all 0) 0
          (rounds_before p start) r at) in
          let fits = (table.forward 0 (rounds_before p start) r at).1 in
          omega (arith, most, ends, fits)

  module _ (window : ℕ) (s : State) (r : PendingContents) (k : PendingKept p window s r) where
    -- the ticks of the next round can be counted
    pub CanCount-next : (end : ℕ) → IsRoundUpTo p r.source.tick end → CanCount r.given (rows_of_round p r.source.tick end)
    CanCount-next end round = record {
      forward = λ q row at. let up = ((is_round p h r.source.tick end round).forward q row at).0 in omega (arith, up);
      tasks = λ q row task at is.
          let there = row_of_round r.source.tick end round (all_computed p r) k.kept.rounds refl q row at in
          let low = names_task p h q (rounds_before p r.source.tick) task.0 row there (ap (is_of_task task.0) is ∙ eq-eqb task.0 task.0 refl) in
          let many = k.tasks in
          omega (arith, low, many);
      fits = λ t low.
          let so_far = k.given t (let many = k.tasks in omega (arith, low, many)) in
          let count = ap (λ n. ticks_before t n all) k.computed in
          let more = ticks_to_end r.source.tick end round (all_computed p r) k.kept.rounds refl t in
          let fits = ticks_fit r.source.tick end round (all_computed p r) k.kept.rounds refl t in
          omega (arith, so_far, count, more, fits);
    }

    module _ (m : PendingContents) (belongs : GoesOnWithPlan p m.source) (round : IsRoundUpTo p r.source.tick m.source.tick) (same_width : m.width ≡ r.width)
        (pushed : m.held ≡ buffer (r.held.items ++ map (pending r.given) (rows_of_round p r.source.tick m.source.tick)) r.held.capacity)
        (one : m.computed ≡ r.computed + 1)
        (counted : AreCounted r.given (rows_of_round p r.source.tick m.source.tick) m.given)
        (noted : AreNoted (length r.given) (r.computed + 1) r.last (rows_of_round p r.source.tick m.source.tick) m.last) (below : r.computed < least_posted
        s + window) (fits : r.computed + 1 < 2 ^ 64) where
      abbrev begin : ℕ
      begin = r.source.tick

      abbrev more_rows : List Row
      more_rows = rows_of_round p begin m.source.tick

      early : rounds_before p begin < rounds_of p
      early = rounds_left p h begin k.kept.rounds.begins (let up = round.above in let stop = round.below in omega (arith, up, stop))

      next_round : rounds_before p m.source.tick ≡ rounds_before p begin + 1
      next_round = next_rounds p begin m.source.tick round

      are : AreRoundsOf p (all_computed p m)
      are = AreRoundsOf-next p h (all_computed p r) (all_computed p m) k.kept.rounds belongs.core (goes_on p m.source belongs) round same_width
          (next_lanes p h begin m.source.tick round)
          (let low = early in let next = next_round in omega (arith, low, next))

      -- the new row of a lane
      new_pending : (q : ℕ) (row : Row) → slice_get more_rows q ≡ Some row → IsPending all q r.computed (pending r.given row)
      new_pending q row at =
          let there = row_of_round begin m.source.tick round (all_computed p r) k.kept.rounds refl q row at in
          record {
            row = subst (λ n. RowAt all q n row) (sym k.computed) there;
            before = λ task is.
                let low = names_task p h q (rounds_before p begin) task.0 row there (ap (is_of_task task.0) is ∙ eq-eqb task.0 task.0 refl) in
                ap (given_to r.given) is ∙ k.given task.0 low;
          }

      -- a row of an earlier round stays before the last one
      last_more : (q j : ℕ) (leaf : Leaf) → j < r.computed → j < last_of r.last (length r.given) r.computed q leaf → j < last_of m.last (length m.given)
          m.computed q leaf
      last_more q j (Task task) low before = subst (λ n. j < slice_index m.last (q * n + task.0)) (sym counted.many)
          (noted.least (q * length r.given + task.0) j (omega (arith, low)) before)
      last_more q j (Wait task) low before = omega (arith, low, one)
      last_more q j (Idle number) low before = omega (arith, low, one)
      last_more q j Empty low before = omega (arith, low, one)

      -- a row of the new round is the last one
      last_new : (q : ℕ) (row : Row) (leaf : Leaf) → slice_get more_rows q ≡ Some row → row.leaf ≡ leaf → r.computed < last_of m.last (length m.given)
          m.computed q leaf
      last_new q row (Task task) at is = subst (λ n. r.computed < slice_index m.last (q * n + task.0)) (sym counted.many) (let up = noted.each q row task at
          is in omega (arith, up))
      last_new q row (Wait task) at is = omega (arith, one)
      last_new q row (Idle number) at is = omega (arith, one)
      last_new q row Empty at is = omega (arith, one)

      last_kept : (q j : ℕ) (row : Row) → j < m.computed → RowAt all q j row → j < last_of m.last (length m.given) m.computed q row.leaf
      last_kept q j row low at = elim (below_or j r.computed) [
        | inl before ↦ last_more q j row.leaf before (k.last q j row before at)
        | inr past ↦ (
            let here : j ≡ r.computed = omega (arith, low, past, one) in
            let inside = lane_within all q j row at in
            let (new, got) = slice_get-some more_rows q (let many = wide begin m.source.tick round in let lanes = plan_lanes p h in
            omega (arith, inside, many, lanes)) in
            let there : RowAt all q j new = subst (λ n. RowAt all q n new) (sym (here ∙ k.computed)) (row_of_round begin m.source.tick round
            (all_computed p r) k.kept.rounds refl q new got) in
            let e : Some new ≡ Some row = sym there ∙ at in
            let same : new ≡ row = cc in
            subst (λ n. n < last_of m.last (length m.given) m.computed q row.leaf) (sym here) (last_new q row row.leaf
            (subst (λ x. slice_get more_rows q ≡ Some x) same got) refl)
            )
      ]

      pub PendingKept-more : PendingKept p window s m
      PendingKept-more = record {
        kept = record {
          rounds = are;
          posted = λ q. let old = k.kept.posted q in let count = are.count in let before = k.kept.rounds.count in let next = next_round in
              omega (arith, old, count, before, next);
          out = λ q out. let old = k.kept.out q out in let count = are.count in let before = k.kept.rounds.count in let next = next_round in
              omega (arith, old, count, before, next);
          in_window = let count = are.count in let next = next_round in let is = k.computed in omega (arith, count, next, is, below);
        };
        source = belongs;
        computed = let next = next_round in let is = k.computed in omega (arith, one, next, is);
        counted = omega (arith, one, fits);
        rows =
            let up = least_computed window s r k in
            subst (λ (b : Buffer PendingRow). ArePending all processors (least_posted s) m.computed b.items) (sym pushed)
            (ArePending-more all processors (least_posted s) r.computed r.held.items k.rows r.given more_rows (wide begin m.source.tick round) up
            new_pending m.computed one);
        places = ap (λ (b : Buffer PendingRow). b.capacity) pushed ∙ k.places;
        tasks = counted.many ∙ k.tasks;
        given = λ t low.
            let so_far = k.given t low in
            let added = counted.each t (let many = k.tasks in omega (arith, low, many)) in
            let count = ap (λ n. ticks_before t n all) k.computed in
            let more = ticks_to_end begin m.source.tick round (all_computed p r) k.kept.rounds refl t in
            let is : m.computed ≡ rounds_before p begin + 1 = let c = k.computed in omega (arith, one, c) in
            let all_of = ap (λ n. ticks_before t n all) is in
            omega (arith, so_far, added, count, more, all_of);
        last_places = noted.many ∙ k.last_places;
        last = last_kept;
      }

    -- each processor has a place for each task
    pub last_places_are : length r.last ≡ r.width * length r.given
    last_places_are = k.last_places ∙ ap (λ n. n * length p.set.tasks) (sym k.kept.rounds.width) ∙ ap (λ n. r.width * n) (sym k.tasks)

    pub last_within : (q t : ℕ) → q < processors → t < length p.set.tasks → q * length r.given + t < length r.last
    last_within q t inside low =
        subst (λ n. q * n + t < length r.last) (sym k.tasks)
        (let there = place_within q processors (length p.set.tasks) t inside low in let places = k.last_places in omega (arith, there, places))

    -- there is a place for each row of the next round
    pub places_left : r.computed < least_posted s + window → length r.held.items + r.width ≤ r.held.capacity
    places_left below =
        let many = k.rows.many in
        let places = k.places in
        let wide = k.kept.rounds.width in
        let rounds : (r.computed - least_posted s) * processors + processors ≤ window * processors = room_left (r.computed - least_posted s) window
        processors (let up = least_computed window s r k in omega (arith, up, below)) in
        omega (arith, many, places, wide, rounds)

  module _ (window : ℕ) (s : State) (r : PendingContents) (k : PendingKept p window s r) (q : ℕ) (inside : q < processors)
      (below : posted_at s q < r.computed) where
    -- its next row is held
    pub next_held : q < length s.lanes → (posted_at s q - least_posted s) * r.width + q < length r.held.items
    next_held within =
        let low = least_le s.lanes q within in
        let wide : r.width ≡ processors = k.kept.rounds.width in
        subst (λ w. (posted_at s q - least_posted s) * w + q < length r.held.items) (sym wide)
        (is_held all processors (least_posted s) r.computed r.held.items k.rows (posted_at s q - least_posted s) q (omega (arith, low, below)) inside)

    pub next_is : q < length s.lanes → (next : PendingRow) → slice_get r.held.items ((posted_at s q - least_posted s) * r.width + q) ≡ Some next →
        IsPending all q (posted_at s q) next
    next_is within next at =
        let low = least_le s.lanes q within in
        let wide : r.width ≡ processors = k.kept.rounds.width in
        let here : slice_get r.held.items ((posted_at s q - least_posted s) * processors + q) ≡ Some next = subst (λ w. slice_get r.held.items
        ((posted_at s q - least_posted s) * w + q) ≡ Some next) wide at in
        subst (λ n. IsPending all q n next) (omega (arith, low)) (k.rows.each (posted_at s q - least_posted s) q next inside here)

  module _ (window : ℕ) (s : State) (r : PendingContents) (k : PendingKept p window s r) where
    -- where the next round begins at the end all rounds are computed, and before it some are left
    pub all_rounds : r.source.tick ≡ stop_of p → r.computed ≡ rounds_of p
    all_rounds e = k.computed ∙ ap (rounds_before p) e

    pub some_rounds : r.source.tick ≢ stop_of p → r.computed < rounds_of p
    some_rounds other =
        let early = k.kept.rounds.early in
        let left = rounds_left p h r.source.tick k.kept.rounds.begins (omega (arith, early, other)) in
        let is = k.computed in
        omega (arith, left, is)

    pub rounds_most : r.computed ≤ rounds_of p
    rounds_most = let room = k.kept.rounds.room in let seen = k.kept.rounds.count in let is = k.computed in omega (arith, room, seen, is)

    pub posted_most : (q : ℕ) → posted_at s q ≤ r.computed
    posted_most q = let held = k.kept.posted q in let seen = k.kept.rounds.count in let is = k.computed in omega (arith, held, seen, is)

    module _ (q n : ℕ) (leaf : Leaf) (inside : q < processors) (within : q < length s.lanes) (most : n ≤ r.computed) where
      abbrev least : ℕ
      least = least_posted s

      wide_held : r.width ≡ processors
      wide_held = k.kept.rounds.width

      -- the rows before round n are held
      pub rows_held : (i : ℕ) → i < n - least → i * r.width + q < length r.held.items
      rows_held i low = subst (λ w. i * w + q < length r.held.items) (sym wide_held) (is_held all processors least r.computed r.held.items k.rows i q
          (omega (arith, low, most)) inside)

      pending_at : (i : ℕ) (next : PendingRow) → slice_get r.held.items (i * r.width + q) ≡ Some next → IsPending all q (least + i) next
      pending_at i next at = k.rows.each i q next inside (subst (λ w. slice_get r.held.items (i * w + q) ≡ Some next) wide_held at)

      -- a pending row of the leaf before round n is unposted
      pub row_of_pending : (i : ℕ) (next : PendingRow) → posted_at s q - least ≤ i → i < n - least → slice_get r.held.items (i * r.width + q) ≡ Some next →
          next.row.leaf ≡ leaf
          → (j : ℕ) × (row : Row) × (posted_at s q ≤ j) × (j < n) × RowAt all q j row × (row.leaf ≡ leaf)
      row_of_pending i next past low at is = (least + i, next.row, omega (arith, past), omega (arith, low), (pending_at i next at).row, is)

      -- and it stands before the last one
      pub row_is_early : (i : ℕ) (next : PendingRow) → i < n - least → slice_get r.held.items (i * r.width + q) ≡ Some next → next.row.leaf ≡ leaf
          → least + i < last_of r.last (length r.given) r.computed q leaf
      row_is_early i next low at is =
          subst (λ l. least + i < last_of r.last (length r.given) r.computed q l) is (k.last q (least + i) next.row (omega (arith, low, most))
          (pending_at i next at).row)

      -- and where none is of the leaf, all its rows before round n are posted
      pub none_unposted : ((i : ℕ) (next : PendingRow) → posted_at s q - least ≤ i → i < n - least → slice_get r.held.items (i * r.width + q) ≡ Some next →
          next.row.leaf ≢ leaf)
          → PostedBefore all s.lanes q n leaf
      none_unposted none j row early at is = elim (below_or j (posted_at s q)) [
        | inl posted ↦ posted
        | inr past ↦ absurd (
            let low = least_le s.lanes q within in
            let i : ℕ = j - least in
            let (next, there) = slice_get-some r.held.items (i * r.width + q) (rows_held i (omega (arith, early, low, past))) in
            let pends = (pending_at i next there).row in
            let round : least + i ≡ j = omega (arith, low, past) in
            let e : Some next.row ≡ Some row = sym (subst (λ n. RowAt all q n next.row) round pends) ∙ at in
            let same : next.row ≡ row = cc in
            none i next (omega (arith, low, past)) (omega (arith, early, low, past)) there (ap (λ (x : Row). x.leaf) same ∙ is)
            )
      ]
