-- A task's walk in numbers of 64 bits goes by the rows as that in numbers of any size does.
use Rattle.std.proofs.Common.{ℕ, ◌+◌, ◌-◌, ◌<◌, ◌≤◌, ◌≡◌, false, List, max, ◌&&◌, map, length, get_or, sym, ap, ◌∙◌, subst}
use Rattle.std.proofs.lemmas.List.{get_or-map, map-set, length-map}
use Rattle.std.proofs.Math.ListN.{set}
use Rattle.sched_base.specs.Counting.{bit}
use Rattle.sched_base.specs.declared.rows.Row.{Row}
use Rattle.sched_base.specs.Sets.{SetContents}
use Rattle.trace_verdict.specs.declared.findings.Findings.{Findings}
use Rattle.trace_verdict.specs.declared.row_list.ShortRow.{ShortRow}
use Rattle.trace_verdict.specs.declared.short_walks.ShortNear.{ShortNear}
use Rattle.trace_verdict.specs.declared.short_walks.ShortWalk.{ShortWalk}
use Rattle.trace_verdict.specs.declared.task_walks.TaskWalk.{TaskWalk}
use Rattle.trace_verdict.specs.Faults.{row_at}
use Rattle.trace_verdict.specs.Findings.{is_preemption, is_migration}
use Rattle.trace_verdict.specs.RowLists.{row_for}
use Rattle.trace_verdict.specs.ShortWalks.{wide_of, near_of}
use Rattle.trace_verdict.specs.Supply.{AreLawful}
use Rattle.trace_verdict.specs.Supplied.{IsPlaceOf, StandsAt}
use Rattle.trace_verdict.specs.Timed.{walk_of, finished, IsPaced, BeginsIn, IsNear, HasGone, AreGoing}
use Rattle.trace_verdict.proofs.CrossLemmas.{cross_gone}
use Rattle.trace_verdict.proofs.NearLemmas.{begins_next, near_gone}
use Rattle.trace_verdict.proofs.TimedLemmas.{going_on}

-- numbers in 64 bits are those of the walk that they were made of
pub wide_is : (w : ShortWalk) (t : TaskWalk) → w.base ≡ t.periods.base → w.period ≡ t.periods.period → w.due ≡ t.periods.due → w.stop ≡ t.periods.stop →
    w.tick ≡ t.tick → w.done ≡ t.done
    → w.begin ≡ t.begin → w.next ≡ t.next → w.owed ≡ t.owed → row_for w.before ≡ t.before → w.preemptions ≡ t.found.preemptions →
    w.migrations ≡ t.found.migrations
    → w.response ≡ t.found.response → w.count ≡ t.count → w.limit ≡ t.limit → wide_of w ≡ t
wide_is w t e1 e2 e3 e4 e5 e6 e7 e8 e9 e10 e11 e12 e13 e14 e15 =
    let mk : ℕ → ℕ → ℕ → ℕ → ℕ → ℕ → ℕ → ℕ → ℕ → Row → ℕ → ℕ → ℕ → ℕ → ℕ → TaskWalk = λ a b c d e f g h i r j k l m n. record {
      periods = record { base = a; period = b; due = c; stop = d };
      tick = e;
      done = f;
      begin = g;
      next = h;
      owed = i;
      before = r;
      found = record { preemptions = j; migrations = k; response = l };
      count = m;
      limit = n;
    } in
    ap (λ x. mk x w.period w.due w.stop w.tick w.done w.begin w.next w.owed (row_for w.before) w.preemptions w.migrations w.response w.count w.limit) e1
    ∙ (ap (λ x. mk t.periods.base x w.due w.stop w.tick w.done w.begin w.next w.owed (row_for w.before) w.preemptions w.migrations w.response w.count
    w.limit) e2
    ∙ (ap (λ x. mk t.periods.base t.periods.period x w.stop w.tick w.done w.begin w.next w.owed (row_for w.before) w.preemptions w.migrations w.response
    w.count w.limit) e3
    ∙ (ap (λ x. mk t.periods.base t.periods.period t.periods.due x w.tick w.done w.begin w.next w.owed (row_for w.before) w.preemptions w.migrations
    w.response w.count w.limit) e4
    ∙ (ap (λ x. mk t.periods.base t.periods.period t.periods.due t.periods.stop x w.done w.begin w.next w.owed (row_for w.before) w.preemptions w.migrations
    w.response w.count w.limit) e5
    ∙ (ap (λ x. mk t.periods.base t.periods.period t.periods.due t.periods.stop t.tick x w.begin w.next w.owed (row_for w.before) w.preemptions w.migrations
    w.response w.count w.limit) e6
    ∙ (ap (λ x. mk t.periods.base t.periods.period t.periods.due t.periods.stop t.tick t.done x w.next w.owed (row_for w.before) w.preemptions w.migrations
    w.response w.count w.limit) e7
    ∙ (ap (λ x. mk t.periods.base t.periods.period t.periods.due t.periods.stop t.tick t.done t.begin x w.owed (row_for w.before) w.preemptions w.migrations
    w.response w.count w.limit) e8
    ∙ (ap (λ x. mk t.periods.base t.periods.period t.periods.due t.periods.stop t.tick t.done t.begin t.next x (row_for w.before) w.preemptions w.migrations
    w.response w.count w.limit) e9
    ∙ (ap (λ x. mk t.periods.base t.periods.period t.periods.due t.periods.stop t.tick t.done t.begin t.next t.owed x w.preemptions w.migrations w.response
    w.count w.limit) e10
    ∙ (ap (λ x. mk t.periods.base t.periods.period t.periods.due t.periods.stop t.tick t.done t.begin t.next t.owed t.before x w.migrations w.response
    w.count w.limit) e11
    ∙ (ap (λ x. mk t.periods.base t.periods.period t.periods.due t.periods.stop t.tick t.done t.begin t.next t.owed t.before t.found.preemptions x
    w.response w.count w.limit) e12
    ∙ (ap (λ x. mk t.periods.base t.periods.period t.periods.due t.periods.stop t.tick t.done t.begin t.next t.owed t.before t.found.preemptions
    t.found.migrations x w.count w.limit) e13
    ∙ (ap (λ x. mk t.periods.base t.periods.period t.periods.due t.periods.stop t.tick t.done t.begin t.next t.owed t.before t.found.preemptions
    t.found.migrations t.found.response x w.limit) e14
    ∙ ap (λ x. mk t.periods.base t.periods.period t.periods.due t.periods.stop t.tick t.done t.begin t.next t.owed t.before t.found.preemptions
    t.found.migrations t.found.response t.count x) e15)))))))))))))

-- the period after that of the last row
pub short_begins_next : (w : ShortWalk) (x next owed : ℕ) → AreLawful (wide_of w).periods → StandsAt (wide_of w).periods (walk_of (wide_of w)) →
    IsPaced (wide_of w) → w.tick ≤ x → w.next ≤ x → x - w.next < w.period
    → w.done ≡ w.owed → next ≡ w.next + w.period → owed ≡ w.owed + w.due → BeginsIn (wide_of w) x
    (near_of (record { begin = w.next; next = next; owed = owed; same = false }))
short_begins_next w x next owed l s c low past near done later more =
    subst (λ a. BeginsIn (wide_of w) x (record { begin = w.next; next = a; owed = owed; same = false })) (sym later)
    (subst (λ b. BeginsIn (wide_of w) x (record { begin = w.next; next = w.next + w.period; owed = b; same = false })) (sym more) (begins_next (wide_of w) x
    l s c low past near done))

-- the walk once a row more has gone by
abbrev pub with_row : ShortWalk → ShortRow → ℕ → ℕ → ℕ → ℕ → Findings → TaskWalk
with_row w r end begin next owed f = record {
  periods = (wide_of w).periods;
  tick = end;
  done = w.done + (end - r.start);
  begin = begin;
  next = next;
  owed = owed;
  before = row_for r;
  found = f;
  count = w.count + 1;
  limit = w.limit;
}

-- a row goes by that lies in this period
pub short_near_gone : (rows : List Row) (j place : ℕ) (w : ShortWalk) (r : ShortRow) (n : ShortNear) (end : ℕ) (f : Findings) → HasGone rows j (wide_of w) →
    0 < w.count → w.count < w.limit → IsPlaceOf rows j place
    → row_for r ≡ row_at rows place → end ≡ (row_for r).end → w.tick ≤ r.start → r.start < end → end ≤ w.stop → IsNear (wide_of w) (row_for r) (near_of n)
    → f.preemptions ≡ w.preemptions + bit (n.same && is_preemption (row_for w.before) (row_for r)) → f.migrations ≡ w.migrations + bit
    (n.same && is_migration (row_for w.before) (row_for r))
    → f.response ≡ max w.response (finished (near_of n) w.stop end) → HasGone rows j (with_row w r end n.begin n.next n.owed f)
short_near_gone rows j place w r n end f g some room own is same apart long ends i pre mig resp =
    subst (λ x. HasGone rows j (with_row w r x n.begin n.next n.owed f)) (sym same)
    (near_gone rows j place (wide_of w) (row_for r) (near_of n) f g some room own is apart (subst (λ x. r.start < x) same long) (subst (λ x. x ≤ w.stop)
    same ends) i pre mig
    (resp ∙ ap (λ x. max w.response (finished (near_of n) w.stop x)) same))

-- a row goes by that begins in this period and ends in the one after it
pub short_cross_gone : (rows : List Row) (j place : ℕ) (w : ShortWalk) (r : ShortRow) (n : ShortNear) (end next owed : ℕ) (f : Findings) →
    HasGone rows j (wide_of w) → 0 < w.count → w.count < w.limit
    → IsPlaceOf rows j place → row_for r ≡ row_at rows place → end ≡ (row_for r).end → w.tick ≤ r.start → r.start < end → end ≤ w.stop →
    BeginsIn (wide_of w) r.start (near_of n)
    → n.next < end → end < n.next + w.period → w.done + (n.next - r.start) ≡ n.owed → next ≡ n.next + w.period → owed ≡ n.owed + w.due
    → f.preemptions ≡ w.preemptions + bit (n.same && is_preemption (row_for w.before) (row_for r)) → f.migrations ≡ w.migrations + bit
    (n.same && is_migration (row_for w.before) (row_for r))
    → f.response ≡ max w.response w.period → HasGone rows j (with_row w r end n.next next owed f)
short_cross_gone rows j place w r n end next owed f g some room own is same apart long ends b past below due later more pre mig resp =
    subst (λ x. HasGone rows j (with_row w r x n.next next owed f)) (sym same)
    (subst (λ x. HasGone rows j (with_row w r (row_for r).end n.next x owed f)) (sym later)
    (subst (λ x. HasGone rows j (with_row w r (row_for r).end n.next (n.next + w.period) x f)) (sym more)
    (cross_gone rows j place (wide_of w) (row_for r) (near_of n) f g some room own is apart (subst (λ x. r.start < x) same long) (subst (λ x. x ≤ w.stop)
    same ends)
    (record { period = b; past = subst (λ x. n.next < x) same past; ends = subst (λ x. x < n.next + w.period) same below; due = due }) pre mig resp)))

-- the walk of a task, among those of all
pub short_gone_at : (rows : List Row) (walks : List ShortWalk) (j : ℕ) (d : ShortWalk) → j < length walks → ((i : ℕ) (none : TaskWalk) → i < length walks →
    HasGone rows i (get_or (map wide_of walks) i none))
    → HasGone rows j (wide_of (get_or walks j d))
short_gone_at rows walks j d within each = subst (HasGone rows j) (get_or-map wide_of walks j d (wide_of d) within) (each j (wide_of d) within)

-- the walk of task j went on
pub short_going_on : (s : SetContents) (l : ℕ) (rows : List Row) (j : ℕ) (walks : List ShortWalk) (old new : ShortWalk) → j < length walks →
    wide_of old ≡ get_or (map wide_of walks) j (wide_of old)
    → AreGoing s l rows 0 (map wide_of walks) → HasGone rows j (wide_of new) → (wide_of new).periods ≡ (wide_of old).periods →
    AreGoing s l rows 0 (map wide_of (set walks j new))
short_going_on s l rows j walks old new within is g gone periods =
    subst (AreGoing s l rows 0) (sym (map-set wide_of walks j new))
    (going_on s l rows j (map wide_of walks) (wide_of old) (wide_of new) (subst (λ n. j < n) (sym (length-map walks wide_of)) within) is g gone periods)
