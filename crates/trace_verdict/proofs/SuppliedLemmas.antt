-- A walk through a task's rows, part by part.
use Rattle.std.proofs.Common.{zero, suc, ℕ, ◌+◌, ◌-◌, ◌<◌, ◌≤◌, ◌≡◌, Bool, true, false, ◌&&◌, List, [], ◌∷◌, ◌++◌, length, map, take, drop, get_or}
use Rattle.std.proofs.Common.{eqb, refl, sym, ap, ◌∙◌, subst, arith, append_assoc}
use Rattle.std.specs.List.{AllByRecursion}
use Rattle.std.specs.Prelude.{Option, None, Some, IfSome}
use Rattle.std.proofs.lemmas.Bool.{and_from, and_parts, eqb-true}
use Rattle.std.proofs.lemmas.List.{drop_all, drop_more, take-append-drop, take_more, map-append}
use Rattle.sched_base.specs.declared.rows.Row.{Row}
use Rattle.trace_verdict.specs.declared.entries.Entry.{Entry}
use Rattle.trace_verdict.specs.declared.supply.Periods.{Periods}
use Rattle.trace_verdict.specs.declared.walks.Walk.{Walk}
use Rattle.trace_verdict.specs.Faults.{row_at}
use Rattle.trace_verdict.specs.Supply.{AreLawful, gap_holds, row_holds, holds_from, Follows}
use Rattle.trace_verdict.specs.declared.findings.Findings.{Findings}
use Rattle.trace_verdict.specs.Findings.{IsRowIn, IsTold}
use Rattle.trace_verdict.specs.Supplied.{IsPlaceOf, entry_for, entries_at, GoSupplied, StandsAt, Holds, GoesPast, WentThrough}
use Rattle.trace_verdict.proofs.EntryLemmas.{AllByRecursion-append}
use Rattle.trace_verdict.proofs.SupplyLemmas.{supplied_to}

pub past_none : (p : Periods) (w : Walk) → StandsAt p w → GoesPast p [] w w
past_none p w s = record { stands = s; holds = λ rest h. h }

pub past_then : (p : Periods) (xs ys : List Entry) (a b c : Walk) → GoesPast p xs a b → GoesPast p ys b c → GoesPast p (xs ++ ys) a c
past_then p xs ys a b c g h = record {
  stands = h.stands;
  holds = λ rest r. subst (Holds p a) (sym (append_assoc xs ys rest)) (g.holds (ys ++ rest) (h.holds rest r));
}

-- one row: its gap and its ticks keep to what is due, so the rest decides
pub past_one : (p : Periods) (e : Entry) (a b : Walk) → StandsAt p b → b.tick ≡ e.end → b.done ≡ a.done + (e.end - e.start) → a.tick ≤ e.start → e.start < e.end
    → gap_holds p a.done a.tick e.start ≡ true → row_holds p a.done e.start e.end ≡ true → GoesPast p (e ∷ []) a b
past_one p e a b s tick done low long gap row = record {
  stands = s;
  holds = λ rest h. record {
    apart = (low, long, subst (λ x. Follows p.stop x rest) tick h.apart);
    due = and_from _ _ (and_from _ _ gap row) (subst (λ x. holds_from p (a.done + (e.end - e.start)) x rest ≡ true) tick
        (subst (λ d. holds_from p d b.tick rest ≡ true) done h.due));
  };
}

-- one row, by what a walk says that goes past its ticks
pub past_row : (p : Periods) (e : Entry) (a b : Walk) (r : Bool) → r ≡ true → r ≡ (gap_holds p a.done a.tick e.start && row_holds p a.done e.start e.end) →
    StandsAt p b → b.tick ≡ e.end
    → b.done ≡ a.done + (e.end - e.start) → a.tick ≤ e.start → e.start < e.end → GoesPast p (e ∷ []) a b
past_row p e a b r t due s tick done low long =
    let both = and_parts (gap_holds p a.done a.tick e.start) (row_holds p a.done e.start e.end) (sym due ∙ t) in
    past_one p e a b s tick done low long both.0 both.1

-- the walk has come to these entries of all, and whether all hold is whether these do
pub record Remains (p : Periods) (all left : List Entry) (w : Walk) : Type 0 where
  pub stands : StandsAt p w
  pub apart : Follows p.stop w.tick left
  pub same : holds_from p 0 p.base all ≡ holds_from p w.done w.tick left

pub remains_all : (p : Periods) (es : List Entry) (w : Walk) → StandsAt p w → w.tick ≡ p.base → w.done ≡ 0 → Follows p.stop p.base es → Remains p es es w
remains_all p es w s tick done f = record {
  stands = s;
  apart = subst (λ x. Follows p.stop x es) (sym tick) f;
  same = sym (ap (λ x. holds_from p w.done x es) tick ∙ ap (λ d. holds_from p d p.base es) done);
}

pub remains_at : (p : Periods) (all : List Entry) (i : ℕ) (d : Entry) (w : Walk) → i < length all → Remains p all (drop i all) w →
    Remains p all (get_or all i d ∷ drop (i + 1) all) w
remains_at p all i d w h r = subst (λ left. Remains p all left w) (drop_more all i d h) r

pub remains_fails : (p : Periods) (all rest : List Entry) (e : Entry) (w : Walk) (r : Bool) → Remains p all (e ∷ rest) w → r ≡ false
    → r ≡ (gap_holds p w.done w.tick e.start && row_holds p w.done e.start e.end) → false ≡ holds_from p 0 p.base all
remains_fails p all rest e w r m f due =
    sym (m.same ∙ ap (λ b. b && holds_from p (w.done + (e.end - e.start)) e.end rest) (sym due ∙ f))

pub remains_next : (p : Periods) (all rest : List Entry) (e : Entry) (a b : Walk) (r : Bool) → Remains p all (e ∷ rest) a → r ≡ true
    → r ≡ (gap_holds p a.done a.tick e.start && row_holds p a.done e.start e.end) → StandsAt p b → b.tick ≡ e.end → b.done ≡ a.done + (e.end - e.start) →
    Remains p all rest b
remains_next p all rest e a b r m t due s tick done = record {
  stands = s;
  apart = subst (λ x. Follows p.stop x rest) (sym tick) m.apart.2;
  same = m.same ∙ (ap (λ h. h && holds_from p (a.done + (e.end - e.start)) e.end rest) (sym due ∙ t)
      ∙ sym (ap (λ x. holds_from p b.done x rest) tick ∙ ap (λ d. holds_from p d e.end rest) done));
}

pub remains_none : (p : Periods) (all : List Entry) (i : ℕ) (w : Walk) → length all ≤ i → Remains p all (drop i all) w → holds_from p w.done w.tick
    [] ≡ holds_from p 0 p.base all
remains_none p all i w h m = sym (m.same ∙ ap (holds_from p w.done w.tick) (drop_all i all h))

-- one place more
pub own_more : (rows : List Row) (j : ℕ) (places : List ℕ) (i d : ℕ) → i < length places → AllByRecursion (IsPlaceOf rows j) (take i places) →
    IsPlaceOf rows j (get_or places i d)
    → AllByRecursion (IsPlaceOf rows j) (take (i + 1) places)
own_more rows j places i d h all one = subst (AllByRecursion (IsPlaceOf rows j)) (sym (take_more places i d h)) (AllByRecursion-append (IsPlaceOf rows j)
    (take i places) (get_or places i d ∷ []) all (one, tt))

pub past_more : (p : Periods) (rows : List Row) (j : ℕ) (places : List ℕ) (i d : ℕ) (a b c : Walk) → i < length places →
    GoesPast p (entries_at rows j (take i places)) a b
    → GoesPast p (entry_for j (row_at rows (get_or places i d)) (get_or places i d) ∷ []) b c → GoesPast p (entries_at rows j (take (i + 1) places)) a c
past_more p rows j places i d a b c h g one =
    let e : entries_at rows j (take (i + 1) places) ≡ entries_at rows j (take i places) ++ entry_for j (row_at rows (get_or places i d)) (get_or places i d)
    ∷ []
    = ap (entries_at rows j) (take_more places i d h) ∙ map-append (λ place. entry_for j (row_at rows place) place) (take i places) (get_or places i d ∷ []) in
    subst (λ es. GoesPast p es a c) (sym e) (past_then p _ _ a b c g one)

pub rows_more : (p : Periods) (rows : List Row) (places : List ℕ) (i d : ℕ) → i < length places → AllByRecursion (IsRowIn p) (map (row_at rows) (take i places))
    → IsRowIn p (row_at rows (get_or places i d)) → AllByRecursion (IsRowIn p) (map (row_at rows) (take (i + 1) places))
rows_more p rows places i d h all one =
    let e : map (row_at rows) (take (i + 1) places) ≡ map (row_at rows) (take i places) ++ row_at rows (get_or places i d) ∷ []
    = ap (map (row_at rows)) (take_more places i d h) ∙ map-append (row_at rows) (take i places) (get_or places i d ∷ []) in
    subst (AllByRecursion (IsRowIn p)) (sym e) (AllByRecursion-append (IsRowIn p) (map (row_at rows) (take i places)) (row_at rows (get_or places i d) ∷ [])
    all (one, tt))

-- what is left, by the part that is taken and what comes later
pub left_is : (n : ℕ) (left now later : List ℕ) → now ≡ take n left → later ≡ drop n left → left ≡ now ++ later
left_is n left now later e f = sym (ap (λ w. w ++ later) e ∙ (ap (λ w. take n left ++ w) f ∙ take-append-drop n left))

-- where what is left holds, all of it does
pub record Leaves (p : Periods) (rows : List Row) (j : ℕ) (places left : List ℕ) (w : Walk) : Type 0 where
  pub stands : StandsAt p w
  pub own : AllByRecursion (IsPlaceOf rows j) left → AllByRecursion (IsPlaceOf rows j) places
  pub apart : Holds p w (entries_at rows j left) → Follows p.stop p.base (entries_at rows j places)
  pub due : Holds p w (entries_at rows j left) → holds_from p 0 p.base (entries_at rows j places) ≡ true

pub leaves_all : (p : Periods) (rows : List Row) (j : ℕ) (places : List ℕ) (w : Walk) → StandsAt p w → w.tick ≡ p.base → w.done ≡ 0 → Leaves p rows j places
    places w
leaves_all p rows j places w s tick done = record {
  stands = s;
  own = λ h. h;
  apart = λ h. subst (λ x. Follows p.stop x (entries_at rows j places)) tick h.apart;
  due = λ h. subst (λ x. holds_from p 0 x (entries_at rows j places) ≡ true) tick (subst (λ d. holds_from p d w.tick (entries_at rows j places) ≡ true) done
      h.due);
}

pub leaves_less : (p : Periods) (rows : List Row) (j : ℕ) (places left now later : List ℕ) (a b : Walk) → left ≡ now ++ later → Leaves p rows j places left a
    → AllByRecursion (IsPlaceOf rows j) now → GoesPast p (entries_at rows j now) a b → Leaves p rows j places later b
leaves_less p rows j places left now later a b e l own past =
    let split : entries_at rows j left ≡ entries_at rows j now ++ entries_at rows j later
    = ap (entries_at rows j) e ∙ map-append (λ place. entry_for j (row_at rows place) place) now later in
    let back : Holds p b (entries_at rows j later) → Holds p a (entries_at rows j left) = λ h. subst (Holds p a) (sym split)
    (past.holds (entries_at rows j later) h) in
    record {
      stands = past.stands;
      own = λ h. l.own (subst (AllByRecursion (IsPlaceOf rows j)) (sym e) (AllByRecursion-append (IsPlaceOf rows j) now later own h));
      apart = λ h. l.apart (back h);
      due = λ h. l.due (back h);
    }

-- what is due by the end of the schedule is done
pub holds_end : (p : Periods) (w : Walk) (r : Bool) → StandsAt p w → r ≡ holds_from p w.done w.tick [] → r ≡ true → Holds p w []
holds_end p w r s e t = record { apart = s.ends; due = sym e ∙ t }

-- the walk has come to the end of the rows
pub went_all : (p : Periods) (rows : List Row) (j : ℕ) (places : List ℕ) (w : Walk) (f : Findings) → Leaves p rows j places [] w → Holds p w [] →
    IsTold p (map (row_at rows) places) f
    → WentThrough p rows j places f
went_all p rows j places w f l h told = record { own = l.own tt; apart = l.apart h; due = l.due h; told = told }

pub went_none : (p : Periods) (w : Walk) (f : Findings) → StandsAt p w → w.tick ≡ p.base → w.done ≡ 0 → Holds p w [] → IsTold p [] f →
    (rows : List Row) (j : ℕ) → WentThrough p rows j [] f
went_none p w f s tick done h told rows j = went_all p rows j [] w f (leaves_all p rows j [] w s tick done) h told

pub empty_is : (xs : List ℕ) → eqb (length xs) 0 ≡ true → xs ≡ []
empty_is [] h = refl
empty_is (x ∷ xs) h = (let none = eqb-true (length (x ∷ xs)) 0 h in absurd (omega (arith, none)))

pub none_told : (p : Periods) (rows : List Row) (places : List ℕ) (r : Option Findings) → IfSome r (λ f. places ≡ []) → IfSome r (λ f. (q : Periods) →
    IsTold q [] f)
    → IfSome r (IsTold p (map (row_at rows) places))
none_told p rows places None none told = tt
none_told p rows places (Some f) none told = subst (λ ps. IsTold p (map (row_at rows) ps) f) (sym none) (told p)

-- where a period begins by the end of the schedule, the walk shows that each has its due
pub went_supplied : (p : Periods) (rows : List Row) (j : ℕ) (places : List ℕ) (r : Option Findings) → AreLawful p → p.base ≤ p.stop →
    IfSome r (WentThrough p rows j places)
    → IfSome r (λ f. GoSupplied p rows j places)
went_supplied p rows j places None l begun went = tt
went_supplied p rows j places (Some f) l begun went = record {
  own = went.own;
  apart = λ h. went.apart;
  none = λ h. absurd (omega (arith, h, begun));
  supplied = supplied_to p (entries_at rows j places) l begun went.apart went.due;
}

-- the row that was fetched from a place
pub fetched : (rows part : List Row) (places : List ℕ) (i : ℕ) (d : Row) → take (length places) part ≡ map (row_at rows) places → i < length places →
    get_or part i d ≡ row_at rows (get_or places i 0)
fetched rows part [] i d e h = absurd (omega arith)
fetched rows [] (x ∷ places) i d e h = cc
fetched rows (r ∷ part) (x ∷ places) zero d e h = cc
fetched rows (r ∷ part) (x ∷ places) (suc i) d e h =
    let rest : take (length places) part ≡ map (row_at rows) places = cc in
    fetched rows part places i d rest (omega arith)
