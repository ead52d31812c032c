-- The rows of all tasks, as they go by in the order of time.
use Rattle.std.proofs.Common.{ℕ, max, ◌+◌, ◌<◌, ◌≤◌, ◌≡◌, ◌≢◌, inl, inr, true, Bool, List, [], ◌∷◌, ◌++◌, length, map, get_or, refl, sym, ap, ◌∙◌}
use Rattle.std.proofs.Common.{subst, arith, append_assoc, length-append}
use Rattle.std.specs.List.{AllByRecursion}
use Rattle.std.proofs.lemmas.Bool.{cases_lt, cases_eq}
use Rattle.std.proofs.lemmas.List.{map-append, append-nil, get_or_append_left, get_or-set_same, get_or-set_other, length-set}
use Rattle.std.proofs.Math.ListN.{set}
use Rattle.std.proofs.Math.Seq.{get_or-append_seam}
use Rattle.sched_base.specs.declared.rows.Row.{Row}
use Rattle.sched_base.specs.Sets.{SetContents, task_at}
use Rattle.trace_verdict.specs.declared.entries.Entry.{Entry}
use Rattle.trace_verdict.specs.declared.findings.Findings.{Findings}
use Rattle.trace_verdict.specs.declared.supply.Periods.{Periods}
use Rattle.trace_verdict.specs.declared.tally.Tally.{Tally}
use Rattle.trace_verdict.specs.declared.task_walks.TaskWalk.{TaskWalk}
use Rattle.trace_verdict.specs.declared.walks.Walk.{Walk}
use Rattle.trace_verdict.specs.Faults.{row_at}
use Rattle.trace_verdict.specs.Findings.{pairs, pairs_from, is_preemption, is_migration, goes_on, row_response, greatest_of, IsTold}
use Rattle.trace_verdict.specs.Orders.{task_key, entries_from}
use Rattle.trace_verdict.specs.Searches.{periods_of}
use Rattle.trace_verdict.specs.Supplied.{IsPlaceOf, entry_for, entries_at, StandsAt, GoesPast, Holds}
use Rattle.trace_verdict.specs.Supply.{Follows, holds_from}
use Rattle.trace_verdict.specs.Tally.{KeepsPace, Goes}
use Rattle.trace_verdict.specs.Timed.{walk_of, tally_of, Walked, Tallied, IsReady, IsPaced, HasGone, EndsAs, AreGoing, AreTimed}
use Rattle.trace_verdict.proofs.EntryLemmas.{AllByRecursion-append}
use Rattle.trace_verdict.proofs.PartLemmas.{length-entries_from}
use Rattle.trace_verdict.proofs.StackLemmas.{Stacked, stacked_none, stacked_more, stacked_few, stacked_all}
use Rattle.trace_verdict.proofs.SuppliedLemmas.{holds_end}
use Rattle.trace_verdict.proofs.SupplyLemmas.{supplied_to, supplied_none}
use Rattle.trace_verdict.proofs.TallyLemmas.{no_places}
use Rattle.trace_verdict.proofs.ToldLemmas.{ToldTo, told_none, told_more, told_all}

-- ---- one task's walk

pub walked_none : (p : Periods) (rows : List Row) (j : ℕ) (w : Walk) → w.tick ≡ p.base → w.done ≡ 0 → Walked p rows j [] w
walked_none p rows j w tick done = record {
  own = tt;
  apart = λ rest h. subst (λ x. Follows p.stop x rest) tick h.apart;
  due = λ rest h. subst (λ x. holds_from p 0 x rest ≡ true) tick (subst (λ d. holds_from p d w.tick rest ≡ true) done h.due);
}

pub walked_more : (p : Periods) (rows : List Row) (j : ℕ) (places : List ℕ) (place : ℕ) (a b : Walk) → Walked p rows j places a → IsPlaceOf rows j place
    → GoesPast p (entry_for j (row_at rows place) place ∷ []) a b → Walked p rows j (places ++ place ∷ []) b
walked_more p rows j places place a b w own past =
    let entry : Entry = entry_for j (row_at rows place) place in
    let split : (rest : List Entry) → entries_at rows j (places ++ place ∷ []) ++ rest ≡ entries_at rows j places ++ (entry ∷ rest)
    = λ rest. ap (λ es. es ++ rest) (map-append (λ x. entry_for j (row_at rows x) x) places (place ∷ [])) ∙ append_assoc (entries_at rows j places)
    (entry ∷ []) rest in
    record {
      own = AllByRecursion-append (IsPlaceOf rows j) places (place ∷ []) w.own (own, tt);
      apart = λ rest h. subst (Follows p.stop p.base) (sym (split rest)) (w.apart (entry ∷ rest) (past.holds rest h));
      due = λ rest h. subst (λ es. holds_from p 0 p.base es ≡ true) (sym (split rest)) (w.due (entry ∷ rest) (past.holds rest h));
    }

-- ---- one task's tally

pub tallied_first : (p : Periods) (r : Row) (t : Tally) → KeepsPace p t → t.before ≡ r → t.found.preemptions ≡ 0 → t.found.migrations ≡ 0 →
    t.found.response ≡ row_response p r → Tallied p (r ∷ []) t
tallied_first p r t k before a b d = record {
  pace = k;
  preempted = λ rest. (let e = ap (λ w. pairs_from (goes_on is_preemption p) w rest) before in omega (arith, a, e));
  moved = λ rest. (let e = ap (λ w. pairs_from (goes_on is_migration p) w rest) before in omega (arith, b, e));
  slowest = λ rest. omega (arith, d);
  few_preempted = omega (arith, a);
  few_moved = omega (arith, b);
}

pub tallied_more : (p : Periods) (rows : List Row) (r : Row) (a b : Tally) → Tallied p rows a → Goes p (r ∷ []) a b → Tallied p (rows ++ r ∷ []) b
tallied_more p rows r a b t g =
    let size = length-append rows (r ∷ []) in
    let back : (rest : List Row) → rows ++ (r ∷ rest) ≡ (rows ++ r ∷ []) ++ rest = λ rest. sym (append_assoc rows (r ∷ []) rest) in
    record {
      pace = g.pace;
      preempted = λ rest. g.preempted rest ∙ (t.preempted (r ∷ rest) ∙ ap (pairs (goes_on is_preemption p)) (back rest));
      moved = λ rest. g.moved rest ∙ (t.moved (r ∷ rest) ∙ ap (pairs (goes_on is_migration p)) (back rest));
      slowest = λ rest. g.slowest rest ∙ (t.slowest (r ∷ rest) ∙ ap (greatest_of (row_response p)) (back rest));
      few_preempted = (let x = t.few_preempted in let y = g.few_preempted in omega (arith, size, x, y));
      few_moved = (let x = t.few_moved in let y = g.few_moved in omega (arith, size, x, y));
    }

pub tallied_all : (p : Periods) (rows : List Row) (t : Tally) → Tallied p rows t → IsTold p rows t.found
tallied_all p rows t e =
    let none : rows ++ [] ≡ rows = append-nil rows in
    let a = e.preempted [] ∙ ap (pairs (goes_on is_preemption p)) none in
    let b = e.moved [] ∙ ap (pairs (goes_on is_migration p)) none in
    let d = e.slowest [] ∙ ap (greatest_of (row_response p)) none in
    record { preemptions = omega (arith, a); migrations = omega (arith, b); response = omega (arith, d) }

-- ---- both

pub gone_none : (rows : List Row) (j : ℕ) (t : TaskWalk) → IsReady t → t.count ≡ 0 → t.tick ≡ t.periods.base → t.done ≡ 0 →
    ((p : Periods) → IsTold p [] t.found) → HasGone rows j t
gone_none rows j t ready count tick done told = record {
  ready = ready;
  places = [];
  count = count;
  room = omega (arith, count);
  walked = λ begun. walked_none t.periods rows j (walk_of t) tick done;
  none = λ e. told t.periods;
  tallied = λ h. absurd (omega arith);
  paced = λ h. absurd (omega arith);
}

-- a walk's end is that of its tick and of what is done by then
walk_alike : (p : Periods) (es : List Entry) (a w v : Walk) → GoesPast p es a w → v.tick ≡ w.tick → v.done ≡ w.done → StandsAt p v → GoesPast p es a v
walk_alike p es a w v g tick done s = record {
  stands = s;
  holds = λ rest h. g.holds rest (record {
    apart = subst (λ x. Follows p.stop x rest) tick h.apart;
    due = subst (λ x. holds_from p w.done x rest ≡ true) tick (subst (λ d. holds_from p d v.tick rest ≡ true) done h.due);
  });
}

-- the task's walk once a row more is gone past
abbrev pub walk_after : TaskWalk → Walk → Tally → ℕ → ℕ → ℕ → TaskWalk
walk_after a w t begin next owed = record {
  periods = a.periods;
  tick = w.tick;
  done = w.done;
  begin = begin;
  next = next;
  owed = owed;
  before = t.before;
  found = t.found;
  count = a.count + 1;
  limit = a.limit;
}

-- the tally of what was found, at its pace
tally_alike : (p : Periods) (rows : List Row) (t u : Tally) → Tallied p rows t → u.before ≡ t.before → u.found ≡ t.found → KeepsPace p u → Tallied p rows u
tally_alike p rows t u e before found k =
    record {
      pace = k;
      preempted = λ rest. ap (λ (f : Findings). f.preemptions + pairs_from (goes_on is_preemption p) u.before rest) found
          ∙ (ap (λ b. t.found.preemptions + pairs_from (goes_on is_preemption p) b rest) before ∙ e.preempted rest);
      moved = λ rest. ap (λ (f : Findings). f.migrations + pairs_from (goes_on is_migration p) u.before rest) found
          ∙ (ap (λ b. t.found.migrations + pairs_from (goes_on is_migration p) b rest) before ∙ e.moved rest);
      slowest = λ rest. ap (λ (f : Findings). max f.response (greatest_of (row_response p) rest)) found ∙ e.slowest rest;
      few_preempted = subst (λ (f : Findings). f.preemptions ≤ length rows) (sym found) e.few_preempted;
      few_moved = subst (λ (f : Findings). f.migrations ≤ length rows) (sym found) e.few_moved;
    }

-- a row more goes by
pub gone_more : (rows : List Row) (j place begin next owed : ℕ) (a : TaskWalk) (w : Walk) (t : Tally) → HasGone rows j a → a.count < a.limit →
    IsPlaceOf rows j place
    → GoesPast a.periods (entry_for j (row_at rows place) place ∷ []) (walk_of a) w → (a.count ≡ 0 → Tallied a.periods (row_at rows place ∷ []) t)
    → (a.count ≢ 0 → Goes a.periods (row_at rows place ∷ []) (tally_of a) t) → IsPaced (walk_after a w t begin next owed)
    → HasGone rows j (walk_after a w t begin next owed)
gone_more rows j place begin next owed a w t g room own past first later paced =
    let p : Periods = a.periods in
    let b : TaskWalk = walk_after a w t begin next owed in
    let more = length-append g.places (place ∷ []) in
    let had = g.count in
    let s = past.stands in
    let stands : StandsAt p (walk_of b) = record { base = refl; span = refl; number = refl; begun = s.begun; ends = s.ends; small = s.small } in
    let gone = walk_alike p (entry_for j (row_at rows place) place ∷ []) (walk_of a) w (walk_of b) past refl refl stands in
    let pace : KeepsPace p (tally_of b) = record { some = g.ready.lawful.some_period; base = refl; span = refl; last = refl; ended = refl } in
    let tallied : Tallied p (map (row_at rows) (g.places ++ place ∷ [])) t = (elim (cases_eq a.count 0) [
      | inl zero ↦ (
          let none : g.places ≡ [] = no_places g.places (omega (arith, had, zero)) in
          subst (λ ps. Tallied p (map (row_at rows) (ps ++ place ∷ [])) t) (sym none) (first zero))
      | inr some ↦ (
          let pos : 0 < length g.places = omega (arith, had, some) in
          subst (λ rs. Tallied p rs t) (sym (map-append (row_at rows) g.places (place ∷ [])))
          (tallied_more p (map (row_at rows) g.places) (row_at rows place) (tally_of a) t (g.tallied pos) (later some)))
    ]) in
    record {
      ready = record { lawful = g.ready.lawful; stands = λ begun. stands; late = g.ready.late };
      places = g.places ++ place ∷ [];
      count = omega (arith, more, had);
      room = omega (arith, room);
      walked = λ begun. walked_more p rows j g.places place (walk_of a) (walk_of b) (g.walked begun) own gone;
      none = λ e. (let none = ap length e in absurd (omega (arith, none, more)));
      tallied = λ h. tally_alike p (map (row_at rows) (g.places ++ place ∷ [])) t (tally_of b) tallied refl refl pace;
      paced = λ h. paced;
    }

-- no row of the task went by, since it begins after the end of the schedule
pub ends_late : (rows : List Row) (j : ℕ) (t : TaskWalk) → t.periods.stop < t.periods.base → HasGone rows j t → EndsAs t.periods rows j t.count t.found
ends_late rows j t late g =
    let p : Periods = t.periods in
    let limit = g.ready.late late in
    let had = g.count in
    let room = g.room in
    let none : g.places ≡ [] = no_places g.places (omega (arith, had, room, limit)) in
    record {
      places = g.places;
      many = g.count;
      supplied = record {
        own = subst (AllByRecursion (IsPlaceOf rows j)) (sym none) tt;
        apart = λ h. absurd (omega (arith, h, late));
        none = λ h. none;
        supplied = supplied_none p (entries_at rows j g.places) late (ap (entries_at rows j) none);
      };
      told = subst (λ ps. IsTold p (map (row_at rows) ps) t.found) (sym none) (g.none none);
    }

-- the rows that went by give each period its due
pub ends_in_time : (rows : List Row) (j : ℕ) (t : TaskWalk) (r : Bool) → t.periods.base ≤ t.periods.stop → r ≡ holds_from t.periods t.done t.tick [] →
    r ≡ true → HasGone rows j t
    → EndsAs t.periods rows j t.count t.found
ends_in_time rows j t r begun is on g =
    let p : Periods = t.periods in
    let w : Walked p rows j g.places (walk_of t) = g.walked begun in
    let h : Holds p (walk_of t) [] = holds_end p (walk_of t) r (g.ready.stands begun) is on in
    let es : List Entry = entries_at rows j g.places in
    let apart : Follows p.stop p.base es = subst (Follows p.stop p.base) (append-nil es) (w.apart [] h) in
    let due : holds_from p 0 p.base es ≡ true = subst (λ xs. holds_from p 0 p.base xs ≡ true) (append-nil es) (w.due [] h) in
    record {
      places = g.places;
      many = g.count;
      supplied = record {
        own = w.own;
        apart = λ b. apart;
        none = λ late. absurd (omega (arith, late, begun));
        supplied = supplied_to p es g.ready.lawful begun apart due;
      };
      told = (elim (cases_lt 0 (length g.places)) [
        | inl some ↦ tallied_all p (map (row_at rows) g.places) (tally_of t) (g.tallied some)
        | inr few ↦ (
            let none : g.places ≡ [] = no_places g.places (omega (arith, few)) in
            subst (λ ps. IsTold p (map (row_at rows) ps) t.found) (sym none) (g.none none))
      ]);
    }

-- ---- the walks of all tasks

pub going_none : (s : SetContents) (l : ℕ) (rows : List Row) → AreGoing s l rows 0 []
going_none s l rows = record { each = λ i none low h. absurd (omega (arith, h)); periods = λ i none h. absurd (omega (arith, h)) }

-- a task more
pub going_more : (s : SetContents) (l : ℕ) (rows : List Row) (j : ℕ) (walks : List TaskWalk) (t : TaskWalk) → length walks ≡ j → AreGoing s l rows 0 walks →
    HasGone rows j t
    → t.periods ≡ periods_of s l (task_at s.tasks j) → AreGoing s l rows 0 (walks ++ t ∷ [])
going_more s l rows j walks t size g gone e =
    let all = length-append walks (t ∷ []) in
    let last : (none : TaskWalk) → get_or (walks ++ t ∷ []) j none ≡ t = λ none. subst (λ k. get_or (walks ++ t ∷ []) k none ≡ t) size
    (get_or-append_seam walks t [] none) in
    record {
      each = λ i none low h. (elim (cases_lt i (length walks)) [
        | inl below ↦ subst (HasGone rows i) (sym (get_or_append_left walks (t ∷ []) none i below)) (g.each i none low below)
        | inr there ↦ (
            let here : j ≡ i = omega (arith, h, there, size, all) in
            subst (λ k. HasGone rows k (get_or (walks ++ t ∷ []) k none)) here (subst (HasGone rows j) (sym (last none)) gone))
      ]);
      periods = λ i none h. (elim (cases_lt i (length walks)) [
        | inl below ↦ ap (λ (w : TaskWalk). w.periods) (get_or_append_left walks (t ∷ []) none i below) ∙ g.periods i none below
        | inr there ↦ (
            let here : j ≡ i = omega (arith, h, there, size, all) in
            subst (λ k. (get_or (walks ++ t ∷ []) k none).periods ≡ periods_of s l (task_at s.tasks k)) here (ap (λ (w : TaskWalk). w.periods) (last none) ∙ e))
      ]);
    }

-- the walk of task j went on
pub going_on : (s : SetContents) (l : ℕ) (rows : List Row) (j : ℕ) (walks : List TaskWalk) (old t : TaskWalk) → j < length walks → old ≡ get_or walks j old
    → AreGoing s l rows 0 walks → HasGone rows j t
    → t.periods ≡ old.periods → AreGoing s l rows 0 (set walks j t)
going_on s l rows j walks old t within is g gone e =
    let size : length (set walks j t) ≡ length walks = length-set walks j t in
    record {
      each = λ i none low h. (elim (cases_eq i j) [
        | inl here ↦ subst (λ k. HasGone rows k (get_or (set walks j t) k none)) (sym here) (subst (HasGone rows j)
            (sym (get_or-set_same walks j t none within)) gone)
        | inr other ↦ subst (HasGone rows i) (sym (get_or-set_other walks j i t none other)) (g.each i none low (omega (arith, h, size)))
      ]);
      periods = λ i none h. (elim (cases_eq i j) [
        | inl here ↦ subst (λ k. (get_or (set walks j t) k none).periods ≡ periods_of s l (task_at s.tasks k)) (sym here)
            (ap (λ (w : TaskWalk). w.periods) (get_or-set_same walks j t none within) ∙ (e ∙ (ap (λ (w : TaskWalk). w.periods) is ∙ g.periods j old within)))
        | inr other ↦ ap (λ (w : TaskWalk). w.periods) (get_or-set_other walks j i t none other) ∙ g.periods i none (omega (arith, h, size))
      ]);
    }

-- ---- what is found, task by task

-- so many rows of the first j tasks give each period its due, and this is what they tell
pub record Gathered (s : SetContents) (l : ℕ) (rows : List Row) (j n : ℕ) (found : List Findings) : Type 0 where
  pub ordered : List ℕ
  pub starts : List ℕ
  pub entries : List Entry
  pub stacked : Stacked s l rows j ordered starts entries
  pub told : ToldTo s l rows j entries found
  pub many : n ≡ length ordered

pub gathered_none : (s : SetContents) (l : ℕ) (rows : List Row) → Gathered s l rows 0 0 []
gathered_none s l rows = record { ordered = []; starts = 0 ∷ []; entries = []; stacked = stacked_none s l rows; told = told_none s l rows; many = refl }

pub gathered_more : (s : SetContents) (l : ℕ) (rows : List Row) (j n m : ℕ) (found : List Findings) (f : Findings) (p : Periods) →
    Gathered s l rows j n found → p ≡ periods_of s l (task_at s.tasks j) → EndsAs p rows j m f
    → Gathered s l rows (j + 1) (n + m) (found ++ f ∷ [])
gathered_more s l rows j n m found f p g e t =
    let more : List ℕ = g.ordered ++ t.places in
    let size = length-append g.ordered t.places in
    let a = g.many in
    let b = t.many in
    record {
      ordered = more;
      starts = g.starts ++ length more ∷ [];
      entries = g.entries ++ entries_at rows j t.places;
      stacked = stacked_more s l rows j (length more) g.ordered t.places g.starts g.entries p g.stacked e t.supplied refl;
      told = told_more s l rows j g.ordered t.places g.starts g.entries found f p g.stacked g.told e t.told;
      many = omega (arith, size, a, b);
    }

pub gathered_few : (s : SetContents) (l : ℕ) (rows : List Row) (j n : ℕ) (found : List Findings) → Gathered s l rows j n found → n ≤ length rows
gathered_few s l rows j n found g =
    let most = stacked_few s l rows j g.ordered g.starts g.entries g.stacked in
    let entries = length-entries_from task_key 0 rows in
    let a = g.many in
    omega (arith, most, entries, a)

pub gathered_all : (s : SetContents) (l : ℕ) (rows : List Row) (j n : ℕ) (found : List Findings) → Gathered s l rows j n found → j ≡ length s.tasks →
    length (entries_from task_key 0 rows) ≤ n → AreTimed s l rows found
gathered_all s l rows j n found g e many =
    let st = subst (λ k. Stacked s l rows k g.ordered g.starts g.entries) e g.stacked in
    let told = subst (λ k. ToldTo s l rows k g.entries found) e g.told in
    let a = g.many in
    let all : length (entries_from task_key 0 rows) ≤ length g.ordered = omega (arith, many, a) in
    let order = stacked_all s l rows g.ordered g.starts g.entries st all in
    record {
      apart = order.apart;
      supplied = order.supplied;
      told = told_all s l rows g.ordered g.starts g.entries found st all told;
      all = told.count;
    }
