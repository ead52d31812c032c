-- One round of a replay.
use Rattle.std.proofs.Common.{◌≡◌, ◌≢◌, ℕ, zero, suc, ◌+◌, ◌-◌, ◌<◌, ◌≤◌, ◌^◌, ◌⊎◌, ◌&&◌, ◌||◌, not, inl, inr, min, Bool, true, false, List, [], ◌∷◌}
use Rattle.std.proofs.Common.{length, get_or, Option, None, Some, refl, sym, ap, subst, ◌∙◌, arith}
use Rattle.std.proofs.lemmas.Bool.{cases_Bool, both_ways}
use Rattle.sched_base.specs.declared.rows.Leaf.{Leaf}
use Rattle.sched_base.specs.declared.rows.Leaf.TheVariants.{Empty}
use Rattle.sched_base.specs.declared.rows.Row.{Row}
use Rattle.sched_base.specs.Candidates.{is_at}
use Rattle.sched_base.specs.Places.{Placing, is_held, is_running, place, waiting}
use Rattle.sched_base.proofs.EarliestLemmas.{is_at_some}
use Rattle.sched_base.proofs.HeldLemmas.{held-zero, held_at}
use Rattle.sched_base.proofs.ListLemmas.{first_from}
use Rattle.run_tree.specs.Boundaries.{set_boundary}
use Rattle.run_tree.specs.Plans.{IsPlan, PlanContents, stop_of}
use Rattle.run_tree.specs.Schedule.{leaf_on, onto_at, packs_running, shown}
use Rattle.run_tree.proofs.ScheduleLemmas.{length-running}
use Rattle.hyperperiod_laws.proofs.LaterPlaces.{shown_on_time}
use Rattle.cpu_assign.specs.Changed.{AreChanged, ChangeLists, stopping}
use Rattle.cpu_assign.specs.Noted.{IsNoted}
use Rattle.cpu_assign.proofs.MovedLemmas.{moved}
use Rattle.event_core.specs.Cores.{places_of}
use Rattle.event_core.specs.Rounds.{IsRoundUpTo, event_at}
use Rattle.event_core.specs.Serving.{IsAmong}
use Rattle.event_core.specs.Told.{AreTold, IsTold}
use Rattle.event_core.proofs.OneRound.{length-last}
use Rattle.event_core.proofs.PlanRounds.{stop_fits}
use Rattle.event_core.proofs.RowsGone.{as_many, pack_within}
use Rattle.event_core.proofs.SettledPacks.{same_start}
use Rattle.merged_rounds.specs.declared.replays.Replay.{Replay}
use Rattle.merged_rounds.specs.declared.turns.Turn.{Turn}
use Rattle.merged_rounds.specs.Laps.{AreTurns, CanComeRound, IsAllTold, round_start}
use Rattle.round_looks.specs.Looks.{leaf_at}
use Rattle.merged_rounds.specs.Replays.{AreEntries, AreNotedTo, AreOrdered, HasPlaced, IsPackOn, IsReplayOf, IsTaken, IsTurnOf, packs_kept, packs_of}
use Rattle.merged_rounds.specs.Replays.{part_start, shown_kept, turn_end}
use Rattle.merged_rounds.specs.Shown.{is_some}
use Rattle.merged_rounds.proofs.LapLemmas.{leaf_is, next_round_at, turns_more}
use Rattle.merged_rounds.proofs.ReplayLemmas.{changed_by, held_runs, leaf_of, onto_end, pack_later, places_end}

-- the same of other names
pub ordered_as : (packs packs' : List ℕ) (low low' high high' many many' : ℕ) → packs' ≡ packs → low' ≡ low → high' ≡ high → many' ≡ many →
    AreOrdered packs low high many → AreOrdered packs' low' high' many'
ordered_as packs packs' low low' high high' many many' a b c d o =
    subst (λ (ns : List ℕ). AreOrdered ns low' high' many') (sym a) (subst (λ (n : ℕ). AreOrdered packs n high' many') (sym b)
    (subst (λ (n : ℕ). AreOrdered packs low n many') (sym c) (subst (λ (n : ℕ). AreOrdered packs low high n) (sym d) o)))

pub taken_as : (packs packs' : List ℕ) (shown shown' : List (Option Leaf)) (low low' high high' : ℕ) (before before' now : List (Option Leaf)) (k : ℕ) →
    packs' ≡ packs → shown' ≡ shown → low' ≡ low → high' ≡ high → before' ≡ before →
    IsTaken packs' shown' low' high' before' now k → IsTaken packs shown low high before now k
taken_as packs packs' shown shown' low low' high high' before before' now k a b c d e t =
    subst (λ (ns : List ℕ). IsTaken ns shown low high before now k) a
    (subst (λ (os : List (Option Leaf)). IsTaken packs' os low high before now k) b
    (subst (λ (n : ℕ). IsTaken packs' shown' n high before now k) c (subst (λ (n : ℕ). IsTaken packs' shown' low' n before now k) d
    (subst (λ (os : List (Option Leaf)). IsTaken packs' shown' low' high' os now k) e t))))

-- a pack is on a processor just where something is told of it
pub held_some : (p : PlanContents) (n k : ℕ) (o : Option Leaf) → IsPackOn p n k o → is_held (onto_at (set_boundary p.set.tasks) p.tree n) k ≡ is_some o
held_some p n k None on = on.none refl
held_some p n k (Some l) on = on.held l refl

-- a pack that a processor holds is held
pub held_there : (os : List (Option ℕ)) (q k : ℕ) → q < length os → get_or os q None ≡ Some k → is_held os k ≡ true
held_there os q k l at = elim (cases_Bool (is_held os k)) [
  | inl on ↦ on
  | inr off ↦ absurd (let z = held-zero os k off in let s = held_at os q k l at in omega (arith, z, s))
]

module _ (p : PlanContents) (h : IsPlan p) (start : ℕ) (r : Replay) (b : IsReplayOf p start r) (l : start < stop_of p) where
  abbrev ends : List ℕ
  ends = r.lap.ends

  pub start_is : start ≡ round_start 0 ends r.next + r.shift
  start_is = let at = b.at in omega (arith, at, l)

  pub event_now : event_at p start ≡ true
  event_now = elim b.event [ inl e ↦ absurd (omega (arith, e, l)) | inr e ↦ e ]

  -- where it ends
  pub round_now : IsRoundUpTo p start (min (get_or ends r.next 0 + r.shift) (stop_of p))
  round_now =
      let e = start_is in
      subst (λ (n : ℕ). IsRoundUpTo p n (min (get_or ends r.next 0 + r.shift) (stop_of p))) (sym e)
      (next_round_at p h b.can r.shift b.shift (round_start 0 ends r.next) (get_or ends r.next 0) (subst (λ (n : ℕ). event_at p n ≡ true) e event_now)
      (omega (arith, e, l)) (b.lap.turn.round r.next b.next))

  pub last_long : length r.places.last ≡ length (packs_running (set_boundary p.set.tasks) p.tree start)
  last_long = ap (λ (w : Placing). length w.last) b.places ∙ length-last p start ∙ sym (length-running (set_boundary p.set.tasks) p.tree start)

  -- all fits
  pub shift_fits : r.shift + turn_end r.lap < 2 ^ 128
  shift_fits =
      let e = start_is in
      let fits = stop_fits p h in
      let next = b.next in
      let last = (b.lap.turn.round (length ends - 1) (omega (arith, next))).below in
      let at : length ends ≡ suc (length ends - 1) = omega (arith, next) in
      let same = ap (λ i. round_start 0 ends i) at in
      omega (arith, e, l, fits, last, same)

  pub end_fits : get_or ends r.next 0 + r.shift < 2 ^ 128
  end_fits =
      let e = start_is in
      let fits = stop_fits p h in
      let end = (b.lap.turn.round r.next b.next).below in
      omega (arith, e, l, fits, end)

  -- the entries of the next round
  pub low_fits : r.next ≤ length r.lap.parts.items
  low_fits = let n = b.next in let long = b.lap.turn.long in omega (arith, n, long)

  pub high_fits : r.next + 1 ≤ length r.lap.parts.items
  high_fits = let n = b.next in let long = b.lap.turn.long in omega (arith, n, long)

  pub high_is : part_start r.lap.parts.items (r.next + 1) ≡ get_or r.lap.parts.items r.next 0
  high_is = let e : r.next + 1 ≡ suc r.next = omega arith in ap (part_start r.lap.parts.items) e

  pub next_entries : AreEntries p (packs_kept r.lap) (shown_kept r.lap) (part_start r.lap.parts.items r.next) (get_or r.lap.parts.items r.next 0)
      (round_start 0 ends r.next)
  next_entries = b.lap.turn.entries r.next b.next

  -- they are taken
  module _ (now : List (Option Leaf)) (taken : (k : ℕ) → IsTaken (packs_kept r.lap) (shown_kept r.lap) (part_start r.lap.parts.items r.next)
      (get_or r.lap.parts.items r.next 0) r.shows.items now k) where
    lap_by : (k : ℕ) → k < packs_of p → IsTaken (packs_kept r.lap) (shown_kept r.lap) (part_start r.lap.parts.items r.next) (get_or r.lap.parts.items r.next
        0) r.shows.items now k →
        IsPackOn p (round_start 0 ends r.next) k (get_or now k None)
    lap_by k m (inl (j, above, under, at, e)) =
        subst (λ (o : Option Leaf). IsPackOn p (round_start 0 ends r.next) k o) (sym e)
        (subst (λ (i : ℕ). IsPackOn p (round_start 0 ends r.next) i (get_or (shown_kept r.lap) j None)) at (next_entries.shows j above under))
    lap_by k m (inr (none, e)) =
        let on = b.lap.turn.rest r.next k (get_or r.shows.items k None) b.next m none in
        subst (λ (o : Option Leaf). IsPackOn p (round_start 0 ends r.next) k o) (sym e) (on.1 (b.gone k on.0 m))

    pub lap_on : (k : ℕ) → k < packs_of p → IsPackOn p (round_start 0 ends r.next) k (get_or now k None)
    lap_on k m = lap_by k m (taken k)

    -- what packs show in this round
    pub now_on : (k : ℕ) → k < packs_of p → IsPackOn p start k (get_or now k None)
    now_on k m =
        let e = start_is in
        subst (λ (n : ℕ). IsPackOn p n k (get_or now k None)) (sym e)
        (pack_later p h b.can r.shift b.shift (round_start 0 ends r.next) (omega (arith, e, l)) k (get_or now k None) m (lap_on k m))

    running_now : (k : ℕ) → k < packs_of p → is_running (packs_running (set_boundary p.set.tasks) p.tree start) k ≡ is_some (get_or now k None)
    running_now k m = sym (held_runs p h start k) ∙ held_some p start k (get_or now k None) (now_on k m)

    pub changed_now : (changes : ChangeLists) → AreNotedTo r.shows.items now (length r.shows.items) changes →
        AreChanged (packs_running (set_boundary p.set.tasks) p.tree start) r.places.onto changes
    changed_now changes noted =
        changed_by r.shows.items now (packs_running (set_boundary p.set.tasks) p.tree start) r.places.onto (length r.shows.items) changes
        (length-running (set_boundary p.set.tasks) p.tree start ∙ sym b.long)
        (λ k m. running_now k (let e = b.long in omega (arith, m, e)))
        (λ k m. b.held k (let e = b.long in omega (arith, m, e))) noted

    -- a round later
    module _ (r' : Replay) (lap : r'.lap ≡ r.lap) (shows : r'.shows.items ≡ now) (many : length now ≡ packs_of p) (placed : r'.places ≡ place
        (packs_running (set_boundary p.set.tasks) p.tree start) r.places)
        (room : r'.changes.room ≡ packs_of p)
        (next : r'.next < length ends) (at : round_start 0 ends r'.next + r'.shift ≡ get_or ends r.next 0 + r.shift) (shift : (r'.shift ≡ r.shift)
        ⊎ (r'.shift ≡ r.shift + turn_end r.lap))
        (behind : (r'.next ≡ 0) ⊎ (r'.next ≡ r.next + 1))
        (end : ℕ) (end_is : end ≡ min (get_or ends r.next 0 + r.shift) (stop_of p)) where
      round : IsRoundUpTo p start end
      round = subst (λ (n : ℕ). IsRoundUpTo p start n) (sym end_is) round_now

      placed_end : r'.places ≡ places_of p end
      placed_end = placed ∙ ap (place (packs_running (set_boundary p.set.tasks) p.tree start)) b.places ∙ sym (places_end p h start end round)

      gone_by : (k : ℕ) → (r'.next ≡ 0) ⊎ (r'.next ≡ r.next + 1) → 0 < r'.next → k < packs_of p → IsPackOn p (round_start 0 ends (r'.next - 1)) k
          (get_or now k None)
      gone_by k (inl none) some m = absurd (omega (arith, none, some))
      gone_by k (inr one) some m = let e : r.next ≡ r'.next - 1 = omega (arith, one) in subst (λ (i : ℕ). IsPackOn p (round_start 0 ends i) k
          (get_or now k None)) e (lap_on k m)

      pub replay_on : IsReplayOf p end r'
      replay_on = record {
        can = b.can;
        lap = subst (λ (z : Turn). IsTurnOf p z) (sym lap) b.lap;
        turn = subst (λ (z : Turn). AreTurns p (turn_end z)) (sym lap) b.turn;
        shift = elim shift [
          | inl same ↦ subst (λ (n : ℕ). AreTurns p n) (sym same) b.shift
          | inr more ↦ subst (λ (n : ℕ). AreTurns p n) (sym more) (turns_more p r.shift (turn_end r.lap) b.shift b.turn)
        ];
        next = (let e = ap (λ (z : Turn). length z.ends) lap in omega (arith, e, next));
        at = end_is ∙ ap (λ n. min n (stop_of p)) (sym at) ∙ ap (λ (z : Turn). min (round_start 0 z.ends r'.next + r'.shift) (stop_of p)) (sym lap);
        event = round.last;
        places = placed_end;
        shown = λ s k up in_level.
            let e = same_start p s start end up round in
            subst (λ (n : ℕ). IsPackOn p n k (get_or r'.shows.items k None)) (sym e) (subst (λ (xs : List (Option Leaf)). IsPackOn p start k
            (get_or xs k None)) (sym shows) (now_on k in_level));
        gone = λ k some in_level.
            subst (λ (z : Turn). IsPackOn p (round_start 0 z.ends (r'.next - 1)) k (get_or r'.shows.items k None)) (sym lap)
            (subst (λ (xs : List (Option Leaf)). IsPackOn p (round_start 0 ends (r'.next - 1)) k (get_or xs k None)) (sym shows) (gone_by k behind some
            in_level));
        held = λ k in_level.
            ap (λ (w : Placing). is_held w.onto k) placed_end ∙ ap (λ os. is_held os k) (onto_end p h start end round)
            ∙ held_some p start k (get_or now k None) (now_on k in_level) ∙ ap (λ (xs : List (Option Leaf)). is_some (get_or xs k None)) (sym shows);
        room = room;
        long = ap (λ (xs : List (Option Leaf)). length xs) shows ∙ many;
      }

      pub round_on : IsRoundUpTo p start end
      round_on = round

-- ---- what is told

-- what a processor shows is what is told of the pack on it
pub pack_shows : (p : PlanContents) → IsPlan p → CanComeRound p → (start end q k : ℕ) (o : Option Leaf) (leaf : Leaf) (none : Row) → q < p.tree.processors →
    get_or (onto_at (set_boundary p.set.tasks) p.tree start) q None ≡ Some k → IsPackOn p start k o →
    ((l : Leaf) → o ≡ Some l → leaf ≡ l) → leaf_at p start end q none ≡ leaf
pack_shows p h can start end q k None leaf none l at on is = absurd (
    let long = as_many p h start in
    both_ways (is_held (onto_at (set_boundary p.set.tasks) p.tree start) k) (on.none refl) (held_there (onto_at (set_boundary p.set.tasks) p.tree start) q k
    (omega (arith, l, long)) at))
pack_shows p h can start end q k (Some x) leaf none l at on is = leaf_of p h can start end q k none l at ∙ on.leaf x refl ∙ sym (is x refl)

-- a processor without a pack shows nothing
pub nothing_shown : (p : PlanContents) → CanComeRound p → (start end q : ℕ) (none : Row) → q < p.tree.processors →
    get_or (onto_at (set_boundary p.set.tasks) p.tree start) q None ≡ None → leaf_at p start end q none ≡ Empty
nothing_shown p can start end q none l at = leaf_is p start end q none l ∙ shown_on_time p.set.tasks p.tree.scale can.on_time start _
    ∙ ap (leaf_on (set_boundary p.set.tasks) p.tree start) at

module _ (p : PlanContents) (h : IsPlan p) (old_tick new_tick : ℕ) (r r' : Replay) (b : IsReplayOf p old_tick r) (b' : IsReplayOf p new_tick r')
    (round : IsRoundUpTo p old_tick new_tick) (has : HasPlaced p old_tick r r')
    (noted : IsNoted r.places.onto r.places.last) (noted' : IsNoted r'.places.onto r'.places.last) (told : List ℕ) (count : ℕ) (tells : AreTold r'.places
    r'.changes.seen told (length r'.changes.seen) count)
    (q : ℕ) (l : q < p.tree.processors) (away : IsTold told count q → ⊥) where
  abbrev rs : List Bool
  rs = packs_running (set_boundary p.set.tasks) p.tree old_tick

  early : old_tick < stop_of p
  early = let up = round.above in let below = round.below in omega (arith, up, below)

  not_seen : (i : ℕ) → get_or r'.places.last i None ≡ Some q → IsAmong r'.changes.seen i → ⊥
  not_seen i at (k, m, e) = away (tells.each k q m (ap (λ j. get_or r'.places.last j None) e ∙ at))

  -- a pack of this processor shows what it did
  still : (i : ℕ) → i < packs_of p → get_or r'.places.last i None ≡ Some q → is_running rs i ≡ is_held r.places.onto i
  still i m at =
      sym (held_runs p h old_tick i) ∙ ap (λ os. is_held os i) (sym (onto_end p h old_tick new_tick round) ∙ ap (λ (w : Placing). w.onto) (sym b'.places))
      ∙ b'.held i m ∙ ap is_some (has.same i m (not_seen i at)) ∙ sym (b.held i m)

  last_at : (i : ℕ) → get_or (place rs r.places).last i None ≡ Some q → get_or r'.places.last i None ≡ Some q
  last_at i at = ap (λ (w : Placing). get_or w.last i None) has.placed ∙ at

  in_level : (i : ℕ) → get_or r'.places.last i None ≡ Some q → i < packs_of p
  in_level i at =
      let long = ap (λ (w : Placing). length w.last) b'.places ∙ length-last p new_tick in
      let w = within r'.places.last i at in omega (arith, w, long)
    where
      within : (xs : List (Option ℕ)) (i : ℕ) → get_or xs i None ≡ Some q → i < length xs
      within [] i e = cc
      within (x ∷ xs) zero e = omega arith
      within (x ∷ xs) (suc i) e = let l = within xs i e in omega (arith, l)

  not_stopping : (i : ℕ) → (not (is_running rs i) && is_held r.places.onto i) ≡ true → get_or r'.places.last i None ≢ Some q
  not_stopping i on at = both_ways (not (is_running rs i) && is_held r.places.onto i) (off (is_running rs i) (is_held r.places.onto i)
      (still i (in_level i at) at)) on
    where
      off : (a b : Bool) → a ≡ b → (not a && b) ≡ false
      off true b e = refl
      off false b e = sym e

  not_beginning : (i : ℕ) → (is_running rs i && not (is_held r.places.onto i)) ≡ true → get_or r'.places.last i None ≢ Some q
  not_beginning i on at = both_ways (is_running rs i && not (is_held r.places.onto i)) (off (is_running rs i) (is_held r.places.onto i)
      (still i (in_level i at) at)) on
    where
      off : (a b : Bool) → a ≡ b → (a && not b) ≡ false
      off false b e = refl
      off true b e = ap not (sym e)

  pub stays : get_or r'.places.onto q None ≡ get_or r.places.onto q None
  stays =
      ap (λ (w : Placing). get_or w.onto q None) has.placed
      ∙ moved rs r.places noted (last_long p h old_tick r b early) q
      (λ k m at. not_stopping (get_or (stopping rs r.places.onto) k 0) (first_from (λ i. not (is_running rs i) && is_held r.places.onto i) (length rs) 0 k
      m).1 (last_at (get_or (stopping rs r.places.onto) k 0) at))
      (λ k m at. not_beginning (get_or (waiting rs r.places.onto) k 0) (first_from (λ i. is_running rs i && not (is_held r.places.onto i)) (length rs) 0 k
      m).1 (last_at (get_or (waiting rs r.places.onto) k 0) at))

  onto_new : r'.places.onto ≡ onto_at (set_boundary p.set.tasks) p.tree old_tick
  onto_new = ap (λ (w : Placing). w.onto) b'.places ∙ onto_end p h old_tick new_tick round

  module _ (start : ℕ) (before : IsRoundUpTo p start old_tick) where
    onto_old : r.places.onto ≡ onto_at (set_boundary p.set.tasks) p.tree start
    onto_old = ap (λ (w : Placing). w.onto) b.places ∙ onto_end p h start old_tick before

    shows_same : (o : Option ℕ) (none : Row) → get_or r'.places.onto q None ≡ o → leaf_at p old_tick new_tick q none ≡ leaf_at p start old_tick q none
    shows_same None none at =
        nothing_shown p b.can old_tick new_tick q none l (ap (λ (os : List (Option ℕ)). get_or os q None) (sym onto_new) ∙ at)
        ∙ sym (nothing_shown p b.can start old_tick q none l (ap (λ (os : List (Option ℕ)). get_or os q None) (sym onto_old) ∙ sym stays ∙ at))
    shows_same (Some k) none at =
        let m = pack_within p h old_tick q k l (ap (λ (os : List (Option ℕ)). get_or os q None) (sym onto_new) ∙ at) in
        let same = has.same k m (not_seen k (noted'.noted q k at).1) in
        let is = b'.shown old_tick k round m in
        let was = b.shown start k before m in
        leaf_of p h b.can old_tick new_tick q k none l (ap (λ (os : List (Option ℕ)). get_or os q None) (sym onto_new) ∙ at)
        ∙ leaf_same k (get_or r'.shows.items k None) (get_or r.shows.items k None) same is was (held_there r'.places.onto q k within at)
        ∙ sym (leaf_of p h b.can start old_tick q k none l (ap (λ (os : List (Option ℕ)). get_or os q None) (sym onto_old) ∙ sym stays ∙ at))
      where
        within : q < length r'.places.onto
        within = (let e = ap (λ (os : List (Option ℕ)). length os) onto_new in let long = as_many p h old_tick in omega (arith, e, long, l))

        leaf_same : (k : ℕ) (o o' : Option Leaf) → o ≡ o' → IsPackOn p old_tick k o → IsPackOn p start k o' → is_held r'.places.onto k ≡ true →
            leaf_on (set_boundary p.set.tasks) p.tree old_tick (Some k) ≡ leaf_on (set_boundary p.set.tasks) p.tree start (Some k)
        leaf_same k None o' e is was on = absurd (both_ways (is_held r'.places.onto k) (ap (λ os. is_held os k) onto_new ∙ is.none refl) on)
        leaf_same k (Some x) o' e is was on = is.leaf x refl ∙ sym (was.leaf x (sym e))

    pub others_same : (none : Row) → leaf_at p old_tick new_tick q none ≡ leaf_at p start old_tick q none
    others_same none = shows_same (get_or r'.places.onto q None) none refl

-- ---- what packs show by what processors show

pub held_by : (os : List (Option ℕ)) (k : ℕ) → is_held os k ≡ true → (q : ℕ) × (q < length os) × (get_or os q None ≡ Some k)
held_by [] k on = cc
held_by (o ∷ os) k on = elim (cases_Bool (is_at o k)) [
  | inl here ↦ (0, omega arith, is_at_some o k here)
  | inr off ↦ (let (q, l, e) = held_by os k (sym (ap (λ (x : Bool). x || is_held os k) off) ∙ on) in (suc q, omega (arith, l), e))
]

module _ (p : PlanContents) (h : IsPlan p) (can : CanComeRound p) (start end : ℕ) (onto : List (Option ℕ)) (is : onto ≡ onto_at (set_boundary p.set.tasks)
    p.tree start) (leaves : List (Option Leaf)) (all : IsAllTold p start end leaves)
    (k : ℕ) (o : Option Leaf) (none : is_held onto k ≡ false → o ≡ None) (some : (q : ℕ) → get_or onto q None ≡ Some k → o ≡ get_or leaves q None) where
  nobody : Row
  nobody = record { processor = 0; start = 0; end = 0; leaf = Empty }

  on_some : is_held onto k ≡ true → (l : Leaf) → o ≡ Some l → leaf_on (set_boundary p.set.tasks) p.tree start (Some k) ≡ l
  on_some on l e =
      let (q, m, at) = held_by onto k on in
      let long = as_many p h start in
      let same = ap (λ (os : List (Option ℕ)). length os) is in
      let inside : q < p.tree.processors = omega (arith, m, long, same) in
      let shows : o ≡ Some (leaf_at p start end q nobody) = some q at ∙ all.each q nobody inside in
      let f : Some (leaf_at p start end q nobody) ≡ Some l = sym shows ∙ e in
      let g : leaf_at p start end q nobody ≡ l = cc in
      sym (leaf_of p h can start end q k nobody inside (ap (λ (os : List (Option ℕ)). get_or os q None) (sym is) ∙ at)) ∙ g

  some_on : is_held onto k ≡ true → o ≡ None → ⊥
  some_on on e =
      let (q, m, at) = held_by onto k on in
      let long = as_many p h start in
      let same = ap (λ (os : List (Option ℕ)). length os) is in
      let inside : q < p.tree.processors = omega (arith, m, long, same) in
      let shows : None ≡ Some (leaf_at p start end q nobody) = sym e ∙ some q at ∙ all.each q nobody inside in
      cc

  pub pack_by : IsPackOn p start k o
  pack_by = elim (cases_Bool (is_held onto k)) [
    | inl on ↦ record {
      none = λ e. absurd (some_on on e);
      held = λ l e. ap (λ os. is_held os k) (sym is) ∙ on;
      leaf = λ l e. on_some on l e;
    }
    | inr off ↦ record {
      none = λ e. ap (λ os. is_held os k) (sym is) ∙ off;
      held = λ l e. absurd (let f : None ≡ Some l = sym (none off) ∙ e in cc);
      leaf = λ l e. absurd (let f : None ≡ Some l = sym (none off) ∙ e in cc);
    }
  ]

-- ---- what a processor shows in a round that came again

module _ (p : PlanContents) (h : IsPlan p) (start end : ℕ) (r : Replay) (b : IsReplayOf p end r) (round : IsRoundUpTo p start end) (q : ℕ)
    (l : q < p.tree.processors) (none : Row) where
  onto_is_now : r.places.onto ≡ onto_at (set_boundary p.set.tasks) p.tree start
  onto_is_now = ap (λ (w : Placing). w.onto) b.places ∙ onto_end p h start end round

  pub shown_by : (pack : Option ℕ) → get_or r.places.onto q None ≡ pack → (leaf : Leaf) → (pack ≡ None → leaf ≡ Empty) →
      ((k : ℕ) (x : Leaf) → pack ≡ Some k → get_or r.shows.items k None ≡ Some x → leaf ≡ x) →
      leaf_at p start end q none ≡ leaf
  shown_by None at leaf empty is = nothing_shown p b.can start end q none l (ap (λ (os : List (Option ℕ)). get_or os q None) (sym onto_is_now) ∙ at)
      ∙ sym (empty refl)
  shown_by (Some k) at leaf empty is =
      let there = ap (λ (os : List (Option ℕ)). get_or os q None) (sym onto_is_now) ∙ at in
      let m = pack_within p h start q k l there in
      pack_shows p h b.can start end q k (get_or r.shows.items k None) leaf none l there (b.shown start k round m) (λ x e. is k x refl e)
