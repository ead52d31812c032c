-- What is known of the entries of rows, and of a task's part of them.
use Rattle.std.proofs.Common.{length-append, zero, suc, ℕ, ◌+◌, ◌<◌, ◌≤◌, ◌≡◌, ◌≢◌, inl, inr, List, [], ◌∷◌, length, take, drop, get_or, Option, Some}
use Rattle.std.proofs.Common.{None, unwrap_or, MatchOption, sym, refl, ap, ◌∙◌, subst, arith}
use Rattle.std.specs.List.{AllByRecursion, IsDistinct}
use Rattle.std.proofs.lemmas.Bool.{eq-eqb, ne_eqb, cond-true, cond-false}
use Rattle.std.proofs.lemmas.List.{get_or_default}
use Rattle.std.proofs.lemmas.List.Sorted.{All-permutation}
use Rattle.std.proofs.lemmas.List.Elements.{All-from_recursion, recursion_from_All}
use Rattle.sched_base.specs.declared.rows.Row.{Row}
use Rattle.sched_base.specs.declared.sets.Task.{Task}
use Rattle.sched_base.specs.Sets.{SetContents, IsLawful, IsLawfulTask, task_at, no_task}
use Rattle.trace_verdict.specs.Orders.{entry_of, entries_from, part, IsOrder}
use Rattle.trace_verdict.specs.Overlaps.{clash, IsLong}
use Rattle.trace_verdict.specs.Faults.{row_at, IsTraceRow}
use Rattle.trace_verdict.specs.Searches.{AreFirstWithKey, IsFirstHit}
use Rattle.trace_verdict.specs.declared.entries.Entry.{Entry}
use Rattle.trace_verdict.proofs.OverlapLemmas.{Before, Rising}
use Rattle.trace_verdict.proofs.EntryLemmas.{AllByRecursion-append}
use Rattle.trace_verdict.proofs.IndexLemmas.{NoHits-from_distinct, found_hit}

pub all_get : {X : Type 0} (P : X → Type 0) (xs : List X) (i : ℕ) (d : X) → AllByRecursion P xs → i < length xs → P (get_or xs i d)
all_get P [] i d a h = absurd (omega arith)
all_get P (x ∷ xs) zero d a h = a.0
all_get P (x ∷ xs) (suc i) d a h = all_get P xs i d a.1 (omega arith)

pub lawful_task : (s : SetContents) (j : ℕ) → IsLawful s → j < length s.tasks → IsLawfulTask (task_at s.tasks j)
lawful_task s j l h = all_get IsLawfulTask s.tasks j no_task l.each h

-- the task that was read is that of the set
pub task_is : (s : SetContents) (tasks : List Task) (j : ℕ) (t : Task) → tasks ≡ s.tasks → j < length s.tasks → t ≡ get_or tasks j t → t ≡ task_at s.tasks j
task_is s tasks j t value known is = is ∙ (ap (λ ts. get_or ts j t) value ∙ get_or_default s.tasks j t no_task known)

-- ---- what holds of each entry

pub entry_has : (key : Row → Option ℕ) (Q : Entry → Type 0) (r : Row) (at : ℕ) (k : Option ℕ) → ((c : ℕ) → k ≡ Some c →
    Q (record { key = c; start = r.start; place = at; end = r.end })) → AllByRecursion Q (entry_of k r at)
entry_has key Q r at None f = tt
entry_has key Q r at (Some c) f = (f c refl, tt)

pub entries_have : (key : Row → Option ℕ) (Q : Entry → Type 0) (at : ℕ) (rs : List Row)
    → ((i c : ℕ) → i < length rs → key (row_at rs i) ≡ Some c → Q (record { key = c; start = (row_at rs i).start; place = at + i; end = (row_at rs i).end }))
    → AllByRecursion Q (entries_from key at rs)
entries_have key Q at [] f = tt
entries_have key Q at (r ∷ rs) f =
    AllByRecursion-append Q (entry_of (key r) r at) _
    (entry_has key Q r at (key r) (λ c e.
    let zero_more : at + 0 ≡ at = omega arith in
    subst (λ w. Q (record { key = c; start = r.start; place = w; end = r.end })) zero_more (f 0 c (omega arith) e)))
    (entries_have key Q (at + 1) rs (λ i c h e.
    let more : at + suc i ≡ at + 1 + i = omega arith in
    subst (λ w. Q (record { key = c; start = (row_at rs i).start; place = w; end = (row_at rs i).end })) more (f (suc i) c (omega arith) e)))

pub order_has : (key : Row → Option ℕ) (Q : Entry → Type 0) (rs : List Row) (es : List Entry) → IsOrder key rs es
    → ((i c : ℕ) → i < length rs → key (row_at rs i) ≡ Some c → Q (record { key = c; start = (row_at rs i).start; place = 0 + i; end = (row_at rs i).end }))
    → AllByRecursion Q es
order_has key Q rs es o f =
    recursion_from_All Q es (All-permutation Q _ es o.same (All-from_recursion Q _ (entries_have key Q 0 rs f)))

pub order_long : (s : SetContents) (key : Row → Option ℕ) (rs : List Row) (es : List Entry) → IsOrder key rs es → AllByRecursion (IsTraceRow s) rs →
    AllByRecursion IsLong es
order_long s key rs es o t = order_has key IsLong rs es o (λ i c h e. (all_get (IsTraceRow s) rs i _ t h).long)

-- ---- the first hit

pub hit_from : (key : Row → Option ℕ) (rs : List Row) (es : List Entry) (n : ℕ) (o : Option ℕ) → n ≡ length rs → IsOrder key rs es
    → MatchOption o (IsDistinct (clash n) es) (λ i. (i < n) × IsDistinct (clash i) es × (IsDistinct (clash (i + 1)) es → ⊥))
    → IsFirstHit key rs (unwrap_or o n)
hit_from key rs es n None e o m = record {
  within = omega (arith, e);
  before = λ k j h l. NoHits-from_distinct key n rs es o.same m k j h l (omega (arith, e, l));
  at = λ h. absurd (omega (arith, e, h));
}
hit_from key rs es n (Some i) e o m = record {
  within = omega (arith, e, m.0);
  before = λ k j h l. NoHits-from_distinct key i rs es o.same m.1 k j h l (omega (arith, e, l, m.0));
  at = λ h. found_hit key i rs es o.same m.1 m.2;
}

-- ---- the front of one key

abbrev pub From : ℕ → List Entry → Type 0
From j es = AllByRecursion (λ e. j ≤ e.key) es

pub part_none : (j i : ℕ) (es : List Entry) → i < j → From j es → part i es ≡ []
part_none j i [] h f = refl
part_none j i (e ∷ es) h f = cond-false _ _ _ (ne_eqb e.key i (λ same. omega (arith, same, h, f.0))) ∙ part_none j i es h f.1

pub from_later : (j : ℕ) (e : Entry) (es : List Entry) → j ≤ e.key → AllByRecursion (Before e) es → From j es
from_later j e [] h up = tt
from_later j e (f ∷ es) h up = (elim up.0 [ inl less ↦ omega (arith, h, less) | inr same ↦ omega (arith, h, same.0) ], from_later j e es h up.1)

pub record Split (j : ℕ) (es : List Entry) (n : ℕ) : Type 0 where
  pub front : take n es ≡ part j es
  pub rest : From (j + 1) (drop n es)
  pub others : (i : ℕ) → j < i → part i (drop n es) ≡ part i es
  pub rising : Rising (drop n es)

pub split_front : (j : ℕ) (es : List Entry) (n : ℕ) → AreFirstWithKey j es n → Rising es → From j es → Split j es n
split_front j [] zero f r from = record { front = refl; rest = tt; others = λ i h. refl; rising = tt }
split_front j [] (suc n) f r from = absurd (omega (arith, f.within))
split_front j (e ∷ es) zero f r from =
    let ne : e.key ≢ j = f.ends (omega arith) in
    let more : j + 1 ≤ e.key = omega (arith, ne, from.0) in
    record {
      front = sym (part_none (j + 1) j (e ∷ es) (omega arith) (more, from_later (j + 1) e es more r.0));
      rest = (more, from_later (j + 1) e es more r.0);
      others = λ i h. refl;
      rising = r;
    }
split_front j (e ∷ es) (suc n) f r from =
    let same : e.key ≡ j = f.has 0 (omega arith) in
    let s = split_front j es n
    (record { within = omega (arith, f.within); has = λ k h. f.has (suc k) (omega (arith, h)); ends = λ h. f.ends (omega (arith, h)) }) r.1 from.1 in
    record {
      front = ap (λ t. e ∷ t) s.front ∙ sym (cond-true _ _ _ (eq-eqb _ _ same));
      rest = s.rest;
      others = λ i h. s.others i h ∙ sym (cond-false _ _ _ (ne_eqb e.key i (λ t. omega (arith, t, same, h))));
      rising = s.rising;
    }

pub from_all : (es : List Entry) → From 0 es
from_all [] = tt
from_all (e ∷ es) = (omega arith, from_all es)

-- ---- there are no more entries than rows

pub length-entry_of : (k : Option ℕ) (r : Row) (at : ℕ) → length (entry_of k r at) ≤ 1
length-entry_of None r at = omega arith
length-entry_of (Some c) r at = omega arith

pub length-entries_from : (key : Row → Option ℕ) (at : ℕ) (rs : List Row) → length (entries_from key at rs) ≤ length rs
length-entries_from key at [] = omega arith
length-entries_from key at (r ∷ rs) =
    let one = length-entry_of (key r) r at in
    let rest = length-entries_from key (at + 1) rs in
    let both = length-append (entry_of (key r) r at) (entries_from key (at + 1) rs) in
    omega (arith, one, rest, both)
