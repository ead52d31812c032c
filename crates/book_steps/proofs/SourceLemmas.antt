-- What gives the next round, from one round to the next.
use Rattle.std.proofs.Common.{◌≡◌, ◌≢◌, ◌⊎◌, inl, inr, ℕ, ◌+◌, ◌*◌, ◌<◌, ◌≤◌, ◌^◌, min, List, [], ◌∷◌, ◌++◌, Option, Some, None, length, get_or, refl}
use Rattle.std.proofs.Common.{sym, true, ap, ◌∙◌, subst, add-one, arith, mul-le-mul_right}
use Rattle.std.specs.Prelude.{IfSome, slice_get, slice_index, slice_index_or}
use Rattle.std.specs.List.{AllByRecursion}
use Rattle.std.proofs.lemmas.Option.{slice_get-get_or}
use Rattle.sched_base.specs.declared.rows.Leaf.{Leaf}
use Rattle.sched_base.specs.declared.rows.Row.{Row}
use Rattle.sched_base.specs.declared.sets.Task.{Task}
use Rattle.sched_base.specs.Places.{Placing}
use Rattle.sched_base.proofs.TableLemmas.{no_row}
use Rattle.sched_laws.proofs.WholeRounds.{length-round}
use Rattle.run_tree.specs.Boundaries.{set_boundary}
use Rattle.run_tree.specs.Plans.{IsPlan, PlanContents, stop_of}
use Rattle.run_tree.proofs.ScheduleLemmas.{length-places}
use Rattle.event_core.specs.Cores.{places_of}
use Rattle.event_core.specs.Rounds.{IsRoundUpTo, event_at, rows_of_round}
use Rattle.event_core.specs.Told.{AllReleased}
use Rattle.event_core.proofs.OneRound.{length-last}
use Rattle.event_core.proofs.PlanRounds.{stop_fits}
use Rattle.merged_rounds.specs.Laps.{ComesAgain, StandsLaterAgain, round_start}
use Rattle.round_looks.specs.Looks.{leaf_at}
use Rattle.merged_rounds.specs.Recurrences.{IsRecurrence}
use Rattle.merged_rounds.proofs.CountLemmas.{rounds_rise}
use Rattle.merged_rounds.proofs.LapLemmas.{event_later, lap_event, lap_on, last_start, leaf_later, next_lap, next_round, stands_again}
use Rattle.plan_rounds.specs.PlanRows.{HasComeRound}
use Rattle.plan_rounds.proofs.AgainLemmas.{rows_are}
use Rattle.book_steps.specs.declared.source.Keeping.{Keeping}
use Rattle.book_steps.specs.declared.source.Repeating.{Repeating}
use Rattle.book_steps.specs.declared.source.Stage.{Stage}
use Rattle.book_steps.specs.declared.source.Stage.TheVariants.{Computes, Begins, Keeps, Repeats}
use Rattle.book_steps.specs.Sources.{IsKeeping, IsRepeating, GoesOnWithPlan, IsStage, ComesRoundAfter, SourceContents, recurrence}

-- ---- what a stage says

module _ (p : PlanContents) (core tick : ℕ) (ends : List ℕ) (shown : List (Option Leaf)) where
  stage_on : (stage : Stage) → IsStage p core tick ends shown stage → IfSome (recurrence p stage) (λ again. IsRecurrence p again)
      × (HasComeRound (recurrence p stage) tick ⊎ (core ≡ tick))
  stage_on Computes is = (tt, inr is)
  stage_on (Begins ticks) is = (tt, inr is.0)
  stage_on (Keeps k) is = (tt, inr is.0)
  stage_on (Repeats r) is = (
    record {
      can = is.turn.can;
      later = is.later;
      again = is.again;
      rounds = (let up = rounds_rise p r.from (r.from + r.ticks) (omega arith) in omega (arith, up));
    },
    inl is.past,
  )

  stage_first : (stage : Stage) → IsStage p core tick ends shown stage → tick ≡ 0 → core ≡ tick
  stage_first Computes is first = is
  stage_first (Begins ticks) is first = is.0
  stage_first (Keeps k) is first = is.0
  stage_first (Repeats r) is first = absurd (let later = is.later in let past = is.past in omega (arith, later, past, first))

  -- while no rounds come again the core stands at the next one
  pub stage_stands : (stage : Stage) → ((r : Repeating) → stage ≢ Repeats r) → IsStage p core tick ends shown stage → core ≡ tick
  stage_stands Computes none is = is
  stage_stands (Begins ticks) none is = is.0
  stage_stands (Keeps k) none is = is.0
  stage_stands (Repeats r) none is = absurd (none r refl)

pub goes_on : (p : PlanContents) (s : SourceContents) → GoesOnWithPlan p s → IfSome (recurrence p s.stage) (λ again. IsRecurrence p again)
    × (HasComeRound (recurrence p s.stage) s.tick ⊎ (s.core.tick ≡ s.tick))
goes_on p s is = stage_on p s.core.tick s.tick s.ends s.shown s.stage is.stage

pub at_first : (p : PlanContents) (s : SourceContents) → GoesOnWithPlan p s → s.tick ≡ 0 → s.core.tick ≡ s.tick
at_first p s is first = stage_first p s.core.tick s.tick s.ends s.shown s.stage is.stage first

-- ---- the place

one_of : {X : Type 0} (xs ys : List X) (none : X) → length xs ≡ 1 → length ys ≡ 1 → get_or xs 0 none ≡ get_or ys 0 none → xs ≡ ys
one_of [] ys none long wide same = absurd (omega (arith, long))
one_of (x ∷ xs) [] none long wide same = absurd (omega (arith, wide))
one_of (x ∷ []) (y ∷ []) none long wide same = ap (λ z. z ∷ []) same
one_of (x ∷ []) (y ∷ z ∷ ys) none long wide same = absurd (omega (arith, wide))
one_of (x ∷ z ∷ xs) (y ∷ ys) none long wide same = absurd (omega (arith, long))

abbrev placing : List (Option ℕ) → List (Option ℕ) → Placing
placing onto last = record { onto = onto; last = last }

-- with one processor and one pack the places are two numbers
pub same_places : (p : PlanContents) (ticks : ℕ) → ComesRoundAfter p ticks → (m n : ℕ) → slice_index_or (places_of p m).onto 0 None ≡ slice_index_or
    (places_of p n).onto 0 None
    → slice_index_or (places_of p m).last 0 None ≡ slice_index_or (places_of p n).last 0 None → places_of p m ≡ places_of p n
same_places p ticks turn m n on was =
    let wide : (k : ℕ) → length (places_of p k).onto ≡ 1 = λ k. length-places (set_boundary p.set.tasks) p.tree k ∙ turn.alone in
    let long : (k : ℕ) → length (places_of p k).last ≡ 1 = λ k. length-last p k ∙ turn.pack in
    let onto = one_of (places_of p m).onto (places_of p n).onto None (wide m) (wide n) on in
    let last = one_of (places_of p m).last (places_of p n).last None (long m) (long n) was in
    ap (λ o. placing o (places_of p m).last) onto ∙ ap (placing (places_of p n).onto) last

-- ---- one round more that is kept

module _ (p : PlanContents) (start end : ℕ) (ends : List ℕ) (shown : List (Option Leaf)) (k : Keeping) (is : IsKeeping p start ends shown k)
    (round : IsRoundUpTo p start end) where
  pub keeps_more : (leaf : Leaf) → leaf ≡ leaf_at p start end 0 no_row → IsKeeping p end (ends ++ end ∷ []) (shown ++ Some leaf ∷ []) k
  keeps_more leaf shows = record {
    turn = is.turn;
    later = is.later;
    lap = lap_on p k.from start end ends shown (Some leaf ∷ []) is.lap is.end round (record {
      long = sym is.turn.alone;
      each = λ q none inside.
          let alone = is.turn.alone in
          let first : 0 ≡ q = omega (arith, inside, alone) in
          subst (λ (i : ℕ). get_or (Some leaf ∷ []) i None ≡ Some (leaf_at p start end i none)) first (ap Some (shows ∙ leaf_default p start end 0 no_row
          none (omega (arith, alone))));
    });
    end = last_start k.from end ends;
    placed = is.placed;
  }
    where
      leaf_default : (p : PlanContents) (start end q : ℕ) (a b : Row) → q < p.tree.processors → leaf_at p start end q a ≡ leaf_at p start end q b
      leaf_default p start end q a b inside =
          let rows = rows_of_round p start end in
          let long = length-round p.set.tasks p.tree start end in
          let x = slice_get-get_or rows q a (omega (arith, long, inside)) in
          let y = slice_get-get_or rows q b (omega (arith, long, inside)) in
          let e : Some (get_or rows q a) ≡ Some (get_or rows q b) = sym x ∙ y in
          let e' : get_or rows q a ≡ get_or rows q b = cc in
          ap (λ (r : Row). r.leaf) e'

-- ---- a round that comes again

-- some units are some ticks
some_ticks : (units scale ticks from : ℕ) → ticks ≡ units * scale → 1 ≤ units → 0 < scale → from ≡ from + ticks → ⊥
some_ticks units scale ticks from are some scaled same =
    let m : 1 * scale ≤ units * scale = mul-le-mul_right scale some in
    omega (arith, m, are, scaled, same)

-- a tick of the schedule, as many ticks later as are passed at an early one, fits
sum_fits : (n passed start tick stop : ℕ) → tick ≡ start + passed → tick < stop → n ≤ stop → stop < 2 ^ 127 → n + passed < 2 ^ 128
sum_fits n passed start tick stop at early below fits = omega arith

below_as_many : (n most many : ℕ) → n < most → many ≡ most * 1 → n < many
below_as_many n most many low same = omega arith

up_to : (past tick end : ℕ) → past ≤ tick → tick < end → past ≤ end
up_to past tick end before above = omega arith

-- where all are released at tick 0, none waits
released_at_once : (p : PlanContents) (n : ℕ) → AllByRecursion (λ t. t.offset ≡ 0) p.set.tasks → AllReleased p n
released_at_once p n all = go p.set.tasks all
  where
    go : (tasks : List Task) → AllByRecursion (λ t. t.offset ≡ 0) tasks → AllByRecursion (λ t. t.offset * p.tree.scale ≤ n) tasks
    go [] all = tt
    go (t ∷ ts) all = (let z = ap (λ o. o * p.tree.scale) all.0 in omega (arith, z), go ts all.1)

module _ (p : PlanContents) (h : IsPlan p) (tick : ℕ) (ends : List ℕ) (shown : List (Option Leaf)) (r : Repeating) (is : IsRepeating p tick ends shown r)
    (early : tick < stop_of p) where
  here : tick ≡ round_start r.from ends r.next + r.passed
  here = let e = is.here in omega (arith, e, early)

  -- a round begins where the kept ones begin
  begins : event_at p r.from ≡ true
  begins =
      let are = is.again.turns.are in
      let more = is.again.turns.some in
      let scaled = h.tree.tree.scaled in
      let past = is.past in
      let m : 1 * p.tree.scale ≤ is.again.turns.units * p.tree.scale = mul-le-mul_right p.tree.scale more in
      let low : r.from + r.ticks < stop_of p = omega (arith, past, early) in
      sym (event_later p h is.turn.can r.ticks is.again.turns r.from is.later low)
      ∙ lap_event p r.from ends shown is.lap (r.from + r.ticks) is.end (omega (arith, m, are, scaled)) low

  -- so many ticks later the schedule stands again
  stands : (ticks : ℕ) → ComesAgain p r.from ticks → r.from + ticks < stop_of p → StandsLaterAgain p r.from ticks
  stands ticks again low = stands_again p h is.turn.can.apart r.from ticks again.turns (released_at_once p r.from is.turn.can.on_time)
      (record { places = again.places; left = inl is.turn.can.on_time })
      (event_later p h is.turn.can ticks again.turns r.from is.later low ∙ begins) low

  -- at the end of those that are kept the first one comes again
  pub IsRepeating-wrapped : (length ends ≤ r.next) → IsRepeating p tick ends shown
      (record { from = r.from; ticks = r.ticks; passed = r.passed + r.ticks; next = 0 })
  IsRepeating-wrapped over =
      let last : r.next ≡ length ends = let most = is.next in omega (arith, over, most) in
      let at : tick ≡ r.from + r.ticks + r.passed = here ∙ ap (λ i. round_start r.from ends i + r.passed) last ∙ ap (λ n. n + r.passed) is.end in
      let next : StandsLaterAgain p r.from (r.passed + r.ticks) =
      next_lap p h r.from r.ticks r.passed (stands r.ticks is.again (omega (arith, at, early))) (stands r.passed is.shift (omega (arith, at, early)))
      (omega (arith, at, early)) in
      record {
        turn = is.turn;
        later = is.later;
        again = is.again;
        shift = record { turns = next.turns; places = next.places };
        lap = is.lap;
        end = is.end;
        next = omega arith;
        here = omega (arith, at, early);
        past = is.past;
      }

  -- some rounds are kept
  pub some_ends : 0 < length ends
  some_ends = some ends is.end
    where
      some : (es : List ℕ) → round_start r.from es (length es) ≡ r.from + r.ticks → 0 < length es
      some [] end = absurd (some_ticks is.turn.turns.units p.tree.scale r.ticks r.from is.turn.turns.are is.turn.turns.some h.tree.tree.scaled end)
      some (e ∷ es) end = omega arith

  module _ (low : r.next < length ends) where
    abbrev start : ℕ
    start = round_start r.from ends r.next

    behind : r.from ≤ start
    behind = is.lap.later r.next (omega (arith, low))

    soon : start + r.passed < stop_of p
    soon = let at = here in omega (arith, at, early)

    pub repeats_round : IsRoundUpTo p tick (min (slice_index ends r.next + r.passed) (stop_of p))
    repeats_round = subst (λ (n : ℕ). IsRoundUpTo p n (min (slice_index ends r.next + r.passed) (stop_of p))) (sym here)
        (next_round p h is.turn.can r.from r.passed is.shift start (slice_index ends r.next) (let some = is.later in omega (arith, some, behind)) soon
        (is.lap.round r.next low))

    -- its end fits
    pub end_fits : slice_index ends r.next + r.passed < 2 ^ 128
    end_fits = sum_fits (slice_index ends r.next) r.passed start tick (stop_of p) here early (is.lap.round r.next low).below (stop_fits p h)

    -- and something is shown in it
    pub shown_low : r.next < length shown
    shown_low = below_as_many r.next (length ends) (length shown) low (is.lap.long ∙ ap (λ m. length ends * m) is.turn.alone)

    -- behind it comes the next one
    pub IsRepeating-next : (end : ℕ) → end ≡ min (slice_index ends r.next + r.passed) (stop_of p) → IsRepeating p end ends shown
        (record r { next = r.next + 1 })
    IsRepeating-next end at = record {
      turn = is.turn;
      later = is.later;
      again = is.again;
      shift = is.shift;
      lap = is.lap;
      end = is.end;
      next = omega (arith, low);
      here = rw add-one at;
      past = up_to (r.from + r.ticks) tick end is.past (subst (λ (n : ℕ). tick < n) (sym at) repeats_round.above);
    }

    -- what is kept of it
    pub shown_at : (end : ℕ) → slice_index_or shown r.next None ≡ Some (leaf_at p tick end 0 no_row)
    shown_at end =
        let alone = is.turn.alone in
        let place : r.next * p.tree.processors + 0 ≡ r.next = (ap (λ m. r.next * m + 0) alone ∙ omega arith) in
        let inside : 0 < p.tree.processors = omega (arith, alone) in
        ap (λ i. get_or shown i None) (sym place) ∙ is.lap.told r.next 0 no_row low inside
        ∙ ap Some (sym (leaf_later p h is.turn.can r.from r.passed is.shift start (slice_index ends r.next) end 0 no_row behind soon inside))
        ∙ ap (λ n. Some (leaf_at p n end 0 no_row)) (sym here)

    pub repeats_rows : (rows : List Row) (leaf : Leaf) (end : ℕ) → length rows ≡ p.tree.processors → slice_get rows 0 ≡ Some
        (record { processor = 0; leaf = leaf; start = tick; end = end })
        → ((l : Leaf) → slice_index_or shown r.next None ≡ Some l → leaf ≡ l) → rows ≡ rows_of_round p tick end
    repeats_rows rows leaf end long at is_leaf =
        let alone = is.turn.alone in
        let row = at ∙ ap (λ l. Some (row_of l end)) (is_leaf (leaf_at p tick end 0 no_row) (shown_at end)) in
        rows_are p h tick end rows long (λ q inside.
        let first : 0 ≡ q = omega (arith, inside, alone) in
        subst (λ (i : ℕ). slice_get rows i ≡ Some (record { processor = i; leaf = leaf_at p tick end i no_row; start = tick; end = end })) first row)
      where
        row_of : Leaf → ℕ → Row
        row_of l n = record { processor = 0; leaf = l; start = tick; end = n }
