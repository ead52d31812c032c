-- Rows that are gone through by a key: where they are as many as all that have one, no two of one key overlap.
use Rattle.std.proofs.Common.{ℕ, ◌+◌, ◌≤◌, ◌≡◌, true, List, [], ◌∷◌, ◌++◌, length, Option, Some, None, refl, sym, subst, arith, append_assoc}
use Rattle.std.proofs.Common.{append-nil, length-append}
use Rattle.std.specs.List.{AllByRecursion}
use Rattle.sched_base.specs.declared.rows.Row.{Row}
use Rattle.trace_verdict.specs.declared.apart_rows.DealtCount.{DealtCount}
use Rattle.trace_verdict.specs.declared.entries.Entry.{Entry}
use Rattle.trace_verdict.specs.Orders.{entries_from, IsOrder}
use Rattle.trace_verdict.specs.Searches.{IsFirstHit}
use Rattle.trace_verdict.specs.Dealt.{IsEntryOf, Up, Climbs, comes_up, ClimbsAfter, AreDealt}
use Rattle.trace_verdict.proofs.AllEntries.{has_all, fills, no_more}
use Rattle.trace_verdict.proofs.DealtLemmas.{after_more, none_after}
use Rattle.trace_verdict.proofs.EntryLemmas.{AllByRecursion-append}
use Rattle.trace_verdict.proofs.PartLemmas.{length-entries_from, hit_from}
use Rattle.trace_verdict.proofs.StackLemmas.{climbs_differ, climbs_sorted, climbs_distinct}

pub are_none : (key : Row → Option ℕ) (rows : List Row) (d : DealtCount) → d.count ≡ 0 → d.last ≡ None → AreDealt key rows d
are_none key rows d count last = record { entries = []; many = count; own = tt; climbs = λ rest a. subst (λ l. ClimbsAfter l rest) last a }

pub are_more : (key : Row → Option ℕ) (rows : List Row) (old new : DealtCount) (e : Entry) → AreDealt key rows old → IsEntryOf key rows e →
    comes_up old.last e ≡ true → new.count ≡ old.count + 1 → new.last ≡ Some e → AreDealt key rows new
are_more key rows old new e d own up count last =
    let size = length-append d.entries (e ∷ []) in
    let had = d.many in
    record {
      entries = d.entries ++ e ∷ [];
      many = omega (arith, size, had, count);
      own = AllByRecursion-append (IsEntryOf key rows) d.entries (e ∷ []) d.own (own, tt);
      climbs = λ rest a. (
          let after : AllByRecursion (Up e) rest × Climbs rest = subst (λ w. ClimbsAfter w rest) last a in
          subst Climbs (sym (append_assoc d.entries (e ∷ []) rest)) (d.climbs (e ∷ rest) (after_more old.last e rest up after.0 after.1)));
    }

all_climb : (key : Row → Option ℕ) (rows : List Row) (d : DealtCount) → (a : AreDealt key rows d) → Climbs a.entries
all_climb key rows d a = subst Climbs (append-nil a.entries) (a.climbs [] (none_after d.last))

-- there are no more of them than rows
pub are_few : (key : Row → Option ℕ) (rows : List Row) (d : DealtCount) → AreDealt key rows d → d.count ≤ length rows
are_few key rows d a =
    let few = no_more a.entries (entries_from key 0 rows) (climbs_differ a.entries (all_climb key rows d a)) (has_all key rows a.entries a.own) in
    let most = length-entries_from key 0 rows in
    let many = a.many in
    omega (arith, few, most, many)

-- where they are all rows that have a key, no two of one overlap
pub are_apart : (key : Row → Option ℕ) (rows : List Row) (d : DealtCount) → AreDealt key rows d → length (entries_from key 0 rows) ≤ d.count →
    IsFirstHit key rows (length rows)
are_apart key rows d a all =
    let es : List Entry = a.entries in
    let climbs : Climbs es = all_climb key rows d a in
    let many = a.many in
    let order : IsOrder key rows es =
    record {
      sorted = climbs_sorted es climbs;
      same = fills es (entries_from key 0 rows) (climbs_differ es climbs) (has_all key rows es a.own)
          (omega (arith, many, all));
    } in
    hit_from key rows es (length rows) None refl order (climbs_distinct (length rows) es climbs)
