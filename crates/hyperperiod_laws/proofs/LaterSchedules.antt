-- The schedule comes again from a tick at which the places are those of so many units later.
use Rattle.std.proofs.Common.{Bool, List, [], ap, ap₂, arith, filter, inl, inr, map, refl, subst, suc, sym, true, zero, zero-add, ℕ, ◌*◌, ◌+◌, ◌++◌}
use Rattle.std.proofs.Common.{◌-◌, ◌<◌, ◌^◌, ◌∙◌, ◌∷◌, ◌≡◌, ◌≤◌}
use Rattle.std.specs.List.{AllByRecursion, range_with_len}
use Rattle.std.proofs.lemmas.Bool.{cases_Bool}
use Rattle.std.proofs.lemmas.List.{append_assoc, map-append}
use Rattle.std.proofs.lemmas.List.Elements.{filter-append}
use Rattle.sched_base.specs.declared.rows.Row.{Row}
use Rattle.sched_base.specs.declared.sets.Task as declared
use Rattle.sched_base.proofs.ListLemmas.{passing_off, passing_on}
use Rattle.run_tree.specs.Boundaries.{set_boundary}
use Rattle.run_tree.specs.Rounds.{is_event}
use Rattle.run_tree.specs.Schedule.{onto_at, places_below, round_rows, rows_of, rows_of_events, schedule}
use Rattle.run_tree.specs.Tree.{Tree}
use Rattle.repeat_laws.specs.Repeats.{later}
use Rattle.hyperperiod_laws.proofs.IdleLeaves.{Recurs}
use Rattle.hyperperiod_laws.proofs.LaterEvents.{event_again}
use Rattle.hyperperiod_laws.proofs.LaterPlaces.{onto_again, round_again}

-- numbers in two parts
range_parts : (a m n : ℕ) → range_with_len a (m + n) ≡ range_with_len a m ++ range_with_len (a + m) n
range_parts a zero n = let f : 0 + n ≡ n = omega arith in let e : a ≡ a + 0 = omega arith in ap (range_with_len a) f ∙ ap (λ z. range_with_len z n) e
range_parts a (suc m) n =
    let f : suc m + n ≡ suc (m + n) = omega arith in
    let e : a + 1 + m ≡ a + suc m = omega arith in
    ap (range_with_len a) f ∙ ap (λ xs. a ∷ xs) (range_parts (a + 1) m n ∙ ap (λ z. range_with_len (a + 1) m ++ range_with_len z n) e)

-- what passes of numbers so many later
passing_later : (f : ℕ → Bool) (d a n : ℕ) → ((i : ℕ) → a ≤ i → i < a + n → f (i + d) ≡ f i) → filter f (range_with_len (a + d) n) ≡ map (λ i. i + d)
    (filter f (range_with_len a n))
passing_later f d a zero same = refl
passing_later f d a (suc n) same =
    let next : a + d + 1 ≡ a + 1 + d = omega arith in
    let ih = ap (λ z. filter f (range_with_len z n)) next ∙ passing_later f d (a + 1) n (λ i low high. same i (omega (arith, low)) (omega (arith, high))) in
    let here = same a (omega arith) (omega arith) in
    elim (cases_Bool (f a)) [
      | inl on ↦ passing_on f (a + d) n (here ∙ on) ∙ ap (λ xs. (a + d) ∷ xs) ih ∙ sym (ap (map (λ i. i + d)) (passing_on f a n on))
      | inr off ↦ passing_off f (a + d) n (here ∙ off) ∙ ih ∙ sym (ap (map (λ i. i + d)) (passing_off f a n off))
    ]

-- the rows up to an event and from there on
rows_split : (tasks : List declared.Task) (t : Tree) (stop first event : ℕ) (before after : List ℕ) →
    rows_of tasks t stop first (before ++ event ∷ after) ≡ rows_of tasks t event first before ++ rows_of tasks t stop event after
rows_split tasks t stop first event [] after = refl
rows_split tasks t stop first event (next ∷ before) after =
    ap (λ rows. round_rows tasks t first next ++ rows) (rows_split tasks t stop next event before after)
    ∙ sym (append_assoc (round_rows tasks t first next) (rows_of tasks t event next before) (rows_of tasks t stop event after))

events_split : (tasks : List declared.Task) (t : Tree) (stop event : ℕ) (before after : List ℕ) →
    rows_of_events tasks t stop (before ++ event ∷ after) ≡ rows_of_events tasks t event before ++ rows_of tasks t stop event after
events_split tasks t stop event [] after = refl
events_split tasks t stop event (first ∷ before) after = rows_split tasks t stop first event before after

-- the schedule up to an event and from there on
abbrev pub events_past : List declared.Task → Tree → ℕ → ℕ → List ℕ
events_past tasks t event ticks = filter (is_event (set_boundary tasks) t) (range_with_len (event + 1) ticks)

pub schedule_split : (tasks : List declared.Task) (t : Tree) (event ticks : ℕ) → is_event (set_boundary tasks) t event ≡ true →
    schedule tasks t (event + suc ticks) ≡ schedule tasks t event ++ rows_of tasks t (event + suc ticks) event (events_past tasks t event ticks)
unfolding schedule
schedule_split tasks t event ticks on =
    let f = is_event (set_boundary tasks) t in
    ap (rows_of_events tasks t (event + suc ticks))
    (ap (filter f) (range_parts 0 event (suc ticks) ∙ ap (λ z. range_with_len 0 event ++ range_with_len z (suc ticks)) (zero-add event))
    ∙ filter-append f (range_with_len 0 event) (range_with_len event (suc ticks))
    ∙ ap (λ xs. filter f (range_with_len 0 event) ++ xs) (passing_on f event ticks on))
    ∙ events_split tasks t (event + suc ticks) event (filter f (range_with_len 0 event)) (events_past tasks t event ticks)

-- the events that follow one another from a tick on, all before another tick
abbrev AreEvents : ℕ → ℕ → List ℕ → Type 0
AreEvents low high events = AllByRecursion (λ e. (low ≤ e) × (e < high)) events

range_within : (f : ℕ → Bool) (low high a n : ℕ) → low ≤ a → a + n ≤ high → AreEvents low high (filter f (range_with_len a n))
range_within f low high a zero l h = tt
range_within f low high a (suc n) l h =
    let ih = range_within f low high (a + 1) n (omega (arith, l)) (omega (arith, h)) in
    let P : List ℕ → Type 0 = AreEvents low high in
    elim (cases_Bool (f a)) [
      | inl on ↦ subst P (sym (passing_on f a n on)) ((l, omega (arith, h)), ih)
      | inr off ↦ subst P (sym (passing_off f a n off)) ih
    ]

module _ (tasks : List declared.Task) (t : Tree) (units from : ℕ) (r : Recurs tasks t units from) (n stop : ℕ) (after : from ≤ n)
    (early : stop + 2 * (units * t.scale) ≤ 2 ^ 33 * t.scale)
    (same : places_below (set_boundary tasks) t (n + units * t.scale) ≡ places_below (set_boundary tasks) t n) where
  -- a round from tick n on comes again
  pub round_later : (start end : ℕ) → n ≤ start → start < stop → round_rows tasks t (start + units * t.scale) (end + units * t.scale) ≡ map
      (later (units * t.scale)) (round_rows tasks t start end)
  round_later start end low high =
      let e : n + (start - n) ≡ start = omega (arith, low) in
      let P : ℕ → Type 0 = λ m. onto_at (set_boundary tasks) t (m + units * t.scale) ≡ onto_at (set_boundary tasks) t m in
      round_again tasks t units from r start (omega (arith, after, low)) (omega (arith, early, high)) end (subst P e (onto_again tasks t units from r n
      (start - n) after (omega (arith, low, high, early)) same))

  rows_later : (end event : ℕ) (events : List ℕ) → n ≤ event → event < stop → AreEvents n stop events →
      rows_of tasks t (end + units * t.scale) (event + units * t.scale) (map (λ i. i + units * t.scale) events) ≡ map (later (units * t.scale))
      (rows_of tasks t end event events)
  rows_later end event [] low high all = round_later event end low high
  rows_later end event (next ∷ events) low high all =
      ap₂ (λ (a b : List Row). a ++ b) (round_later event next low high) (rows_later end next events all.0.0 all.0.1 all.1)
      ∙ sym (map-append (later (units * t.scale)) (round_rows tasks t event next) (rows_of tasks t end next events))

-- the rows from tick n up to a later one come again behind those up to `n` and so many units more
pub schedule_later : (tasks : List declared.Task) (t : Tree) (units from : ℕ) → Recurs tasks t units from → (n ticks : ℕ) → from ≤ n →
    is_event (set_boundary tasks) t (n + units * t.scale) ≡ true → n + suc ticks + 2 * (units * t.scale) ≤ 2 ^ 33 * t.scale →
    is_event (set_boundary tasks) t n ≡ true → places_below (set_boundary tasks) t (n + units * t.scale) ≡ places_below (set_boundary tasks) t n →
    schedule tasks t (n + units * t.scale + suc ticks) ≡ schedule tasks t (n + units * t.scale) ++ map (later (units * t.scale))
    (rows_of tasks t (n + suc ticks) n (events_past tasks t n ticks))
schedule_later tasks t units from r n ticks after there early on same =
    let d = units * t.scale in
    let f = is_event (set_boundary tasks) t in
    let next : n + d + 1 ≡ n + 1 + d = omega arith in
    let end : n + d + suc ticks ≡ n + suc ticks + d = omega arith in
    let events : events_past tasks t (n + d) ticks ≡ map (λ i. i + d) (events_past tasks t n ticks) =
    ap (λ z. filter f (range_with_len z ticks)) next
    ∙ passing_later f d (n + 1) ticks (λ i low high. event_again tasks t units from r i (omega (arith, after, low)) (omega (arith, high, early))) in
    schedule_split tasks t (n + d) ticks there
    ∙ ap (λ rows. schedule tasks t (n + d) ++ rows)
    (ap₂ (λ (e : ℕ) (events : List ℕ). rows_of tasks t e (n + d) events) end events
    ∙ rows_later tasks t units from r n (n + suc ticks) after early same (n + suc ticks) n (events_past tasks t n ticks) (omega arith) (omega arith)
    (range_within f n (n + suc ticks) (n + 1) ticks (omega arith) (omega arith)))
