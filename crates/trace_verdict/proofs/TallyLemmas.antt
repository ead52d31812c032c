-- A tally of a task's rows, part by part.
use Rattle.std.proofs.Common.{ℕ, suc, ◌+◌, ◌<◌, ◌≤◌, ◌≡◌, List, [], ◌∷◌, ◌++◌, length, map, get_or, take, refl, sym, ap, ◌∙◌, subst, arith}
use Rattle.std.proofs.Common.{append_assoc, length-append}
use Rattle.std.specs.List.{AllByRecursion}
use Rattle.std.proofs.lemmas.List.{get_or_append_left, map-append, length-map, length-take-le, take_all, take_more}
use Rattle.sched_base.specs.declared.rows.Row.{Row}
use Rattle.trace_verdict.specs.Faults.{row_at}
use Rattle.trace_verdict.specs.declared.supply.Periods.{Periods}
use Rattle.trace_verdict.specs.declared.tally.Tally.{Tally}
use Rattle.trace_verdict.specs.Findings.{pairs, pairs_from, is_preemption, is_migration, goes_on, row_response, greatest_of, IsTold, IsRowIn, AreInPeriods}
use Rattle.trace_verdict.specs.Tally.{KeepsPace, preempted, moved, slowest, Goes}

pub goes_nowhere : (p : Periods) (t : Tally) → KeepsPace p t → Goes p [] t t
goes_nowhere p t k = record {
  pace = k;
  preempted = λ rest. refl;
  moved = λ rest. refl;
  slowest = λ rest. refl;
  few_preempted = omega arith;
  few_moved = omega arith;
}

pub goes_then : (p : Periods) (xs ys : List Row) (a b c : Tally) → Goes p xs a b → Goes p ys b c → Goes p (xs ++ ys) a c
goes_then p xs ys a b c g h = record {
  pace = h.pace;
  preempted = λ rest. h.preempted rest ∙ (g.preempted (ys ++ rest) ∙ ap (preempted p a) (sym (append_assoc xs ys rest)));
  moved = λ rest. h.moved rest ∙ (g.moved (ys ++ rest) ∙ ap (moved p a) (sym (append_assoc xs ys rest)));
  slowest = λ rest. h.slowest rest ∙ (g.slowest (ys ++ rest) ∙ ap (slowest p a) (sym (append_assoc xs ys rest)));
  few_preempted = (let x = g.few_preempted in let y = h.few_preempted in let l = length-append xs ys in omega (arith, x, y, l));
  few_moved = (let x = g.few_moved in let y = h.few_moved in let l = length-append xs ys in omega (arith, x, y, l));
}

-- one row of a list more
pub goes_next : (p : Periods) (rows : List Row) (i : ℕ) (d : Row) (a b c : Tally) → i < length rows → Goes p (take i rows) a b →
    Goes p (get_or rows i d ∷ []) b c → Goes p (take (i + 1) rows) a c
goes_next p rows i d a b c h g one = subst (λ xs. Goes p xs a c) (sym (take_more rows i d h)) (goes_then p (take i rows) (get_or rows i d ∷ []) a b c g one)

pub goes_all : (p : Periods) (rows : List Row) (i : ℕ) (a b : Tally) → length rows ≤ i → Goes p (take i rows) a b → Goes p rows a b
goes_all p rows i a b h g = subst (λ xs. Goes p xs a b) (take_all i rows h) g

-- the counts while not all rows are gone through
pub goes_few : (p : Periods) (rows : List Row) (i : ℕ) (a b : Tally) → i < length rows → Goes p (take i rows) a b
    → (b.found.preemptions < a.found.preemptions + length rows) × (b.found.migrations < a.found.migrations + length rows)
goes_few p rows i a b h g =
    let size : length (take i rows) ≡ i = length-take-le i rows (omega (arith, h)) in
    let x = g.few_preempted in
    let y = g.few_moved in
    (omega (arith, h, size, x), omega (arith, h, size, y))

-- the rows at these places are in the periods
pub rows_in : (p : Periods) (rows : List Row) (places : List ℕ) → AreInPeriods p rows places → AllByRecursion (IsRowIn p) (map (row_at rows) places)
rows_in p rows [] a = tt
rows_in p rows (x ∷ places) a = (
  record { begun = a.begun 0 (omega arith); long = a.long 0 (omega arith) },
  rows_in p rows places (record {
    within = λ i h. a.within (suc i) (omega (arith, h));
    begun = λ i h. a.begun (suc i) (omega (arith, h));
    long = λ i h. a.long (suc i) (omega (arith, h));
  }),
)

pub in_front : (p : Periods) (rows : List Row) (xs ys : List ℕ) → AreInPeriods p rows (xs ++ ys) → AreInPeriods p rows xs
in_front p rows xs ys a = record {
  within = λ i h. subst (λ x. x < length rows) (get_or_append_left xs ys 0 i h) (a.within i (omega (arith, h, length-append xs ys)));
  begun = λ i h. subst (λ x. p.base ≤ (row_at rows x).start) (get_or_append_left xs ys 0 i h) (a.begun i (omega (arith, h, length-append xs ys)));
  long = λ i h. subst (λ x. (row_at rows x).start < (row_at rows x).end) (get_or_append_left xs ys 0 i h) (a.long i (omega (arith, h, length-append xs ys)));
}

pub in_back : (p : Periods) (rows : List Row) (xs ys : List ℕ) → AreInPeriods p rows (xs ++ ys) → AreInPeriods p rows ys
in_back p rows [] ys a = a
in_back p rows (x ∷ xs) ys a = in_back p rows xs ys (record {
  within = λ i h. a.within (suc i) (omega (arith, h));
  begun = λ i h. a.begun (suc i) (omega (arith, h));
  long = λ i h. a.long (suc i) (omega (arith, h));
})

-- once what is left is gone through, the tally tells of all rows; and what it counted is no more than the rows that it went through
pub record Tells (p : Periods) (rows left : List Row) (t : Tally) : Type 0 where
  pub pace : KeepsPace p t
  pub preempted : preempted p t left ≡ pairs (goes_on is_preemption p) rows
  pub moved : moved p t left ≡ pairs (goes_on is_migration p) rows
  pub slowest : slowest p t left ≡ greatest_of (row_response p) rows
  pub few_preempted : t.found.preemptions + length left ≤ length rows
  pub few_moved : t.found.migrations + length left ≤ length rows

pub tells_less : (p : Periods) (rows left now later : List Row) (a b : Tally) → left ≡ now ++ later → Tells p rows left a → Goes p now a b →
    Tells p rows later b
tells_less p rows left now later a b e t g =
    let many : length left ≡ length now + length later = ap length e ∙ length-append now later in
    let x = t.few_preempted in
    let y = t.few_moved in
    let u = g.few_preempted in
    let v = g.few_moved in
    record {
      pace = g.pace;
      preempted = g.preempted later ∙ (ap (preempted p a) (sym e) ∙ t.preempted);
      moved = g.moved later ∙ (ap (moved p a) (sym e) ∙ t.moved);
      slowest = g.slowest later ∙ (ap (slowest p a) (sym e) ∙ t.slowest);
      few_preempted = omega (arith, many, x, u);
      few_moved = omega (arith, many, y, v);
    }

pub tells_all : (p : Periods) (rows : List Row) (t : Tally) → Tells p rows [] t → IsTold p rows t.found
tells_all p rows t e =
    let a = e.preempted in
    let b = e.moved in
    let d = e.slowest in
    record { preemptions = omega (arith, a); migrations = omega (arith, b); response = omega (arith, d) }

pub tells_first : (p : Periods) (r : Row) (rows : List Row) (t : Tally) → KeepsPace p t → t.before ≡ r → t.found.preemptions ≡ 0 → t.found.migrations ≡ 0 →
    t.found.response ≡ row_response p r
    → Tells p (r ∷ rows) rows t
tells_first p r rows t k before a b d = record {
  pace = k;
  preempted = (let e = ap (λ w. pairs_from (goes_on is_preemption p) w rows) before in omega (arith, a, e));
  moved = (let e = ap (λ w. pairs_from (goes_on is_migration p) w rows) before in omega (arith, b, e));
  slowest = omega (arith, d);
  few_preempted = omega (arith, a);
  few_moved = omega (arith, b);
}

-- a part of what is left was fetched, and the tally went through it
pub tells_later : (p : Periods) (rows taken : List Row) (all : List Row) (left now later : List ℕ) (a b : Tally) → left ≡ now ++ later →
    taken ≡ map (row_at rows) now
    → Tells p all (map (row_at rows) left) a → Goes p taken a b → Tells p all (map (row_at rows) later) b
tells_later p rows taken all left now later a b e f t g =
    let split : map (row_at rows) left ≡ taken ++ map (row_at rows) later
    = ap (map (row_at rows)) e ∙ (map-append (row_at rows) now later ∙ ap (λ w. w ++ map (row_at rows) later) (sym f)) in
    tells_less p all (map (row_at rows) left) taken (map (row_at rows) later) a b split t g

-- a part of what is left adds no more to the counts than its rows
pub tells_few : (p : Periods) (rows taken : List Row) (first : Row) (places left now later : List ℕ) (t : Tally) → left ≡ now ++ later →
    taken ≡ map (row_at rows) now
    → Tells p (first ∷ map (row_at rows) places) (map (row_at rows) left) t
    → (t.found.preemptions + length taken ≤ length places + 1) × (t.found.migrations + length taken ≤ length places + 1)
tells_few p rows taken first places left now later t e f told =
    let many : length left ≡ length now + length later = ap length e ∙ length-append now later in
    let size : length taken ≡ length now = ap length f ∙ length-map now (row_at rows) in
    let rest : length (map (row_at rows) left) ≡ length left = length-map left (row_at rows) in
    let all : length (map (row_at rows) places) ≡ length places = length-map places (row_at rows) in
    let x : t.found.preemptions + length (map (row_at rows) left) ≤ length (map (row_at rows) places) + 1 = omega (arith, told.few_preempted) in
    let y : t.found.migrations + length (map (row_at rows) left) ≤ length (map (row_at rows) places) + 1 = omega (arith, told.few_moved) in
    (omega (arith, many, size, rest, all, x), omega (arith, many, size, rest, all, y))

pub no_places : (xs : List ℕ) → length xs ≡ 0 → xs ≡ []
no_places [] e = refl
no_places (x ∷ xs) e = absurd (omega (arith, e))
