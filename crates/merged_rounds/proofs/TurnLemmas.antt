-- One round more of a hyperperiod that is kept, and the replay that begins behind it.
use Rattle.std.proofs.Common.{◌≡◌, ◌≢◌, ℕ, zero, suc, ◌+◌, ◌-◌, ◌*◌, ◌<◌, ◌≤◌, ◌++◌, inl, inr, List, [], ◌∷◌, length, length-append, set, get_or}
use Rattle.std.proofs.Common.{Option, None, refl, sym, ap, subst, ◌∙◌, arith, mul-le-mul_right, length-set}
use Rattle.std.proofs.Math.ListN.{get_or-append}
use Rattle.std.proofs.Math.Seq.{get_or-append_seam}
use Rattle.std.proofs.lemmas.Bool.{cases_lt}
use Rattle.std.proofs.lemmas.List.{length-map, map-append}
use Rattle.sched_base.specs.declared.rows.Leaf.{Leaf}
use Rattle.sched_base.specs.Places.{Placing, is_held}
use Rattle.run_tree.specs.Plans.{IsPlan, PlanContents}
use Rattle.event_core.specs.Cores.{CoreContents, IsCoreOf}
use Rattle.event_core.specs.Rounds.{IsRoundUpTo}
use Rattle.event_core.proofs.SettledPacks.{same_start}
use Rattle.merged_rounds.specs.declared.replays.Replay.{Replay}
use Rattle.merged_rounds.specs.declared.turns.Turn.{Turn}
use Rattle.merged_rounds.specs.Laps.{AreTurns, CanComeRound, round_start}
use Rattle.merged_rounds.specs.Replays.{AreEntries, AreKept, AreOrdered, IsNotAmong, IsPackOn, IsReplayOf, IsTurn, IsTurnOf, packs_kept, packs_of}
use Rattle.merged_rounds.specs.Replays.{part_start, shown_kept, turn_end}
use Rattle.merged_rounds.specs.Shown.{PackShows, packs_in, shown_in}
use Rattle.merged_rounds.proofs.ChangeLemmas.{set_other, set_same}
use Rattle.merged_rounds.proofs.LapLemmas.{last_start, start_kept}
use Rattle.merged_rounds.proofs.ReplayLemmas.{onto_end, pack_once}
use Rattle.merged_rounds.proofs.ReplaySteps.{held_some}

-- no round yet
pub turn_none : (p : PlanContents) (t : Turn) → t.ends ≡ [] → t.parts.items ≡ [] → t.entries.items ≡ [] → length t.last.items ≡ packs_of p → IsTurnOf p t
turn_none p t ends parts entries long =
    let none = ap (λ (xs : List ℕ). length xs) ends in
    let no_part = ap (λ (xs : List ℕ). length xs) parts in
    let no_pack = ap (λ (es : List PackShows). length (packs_in es)) entries in
    let no_leaf = ap (λ (es : List PackShows). length (shown_in es)) entries in
    record {
      turn = record {
        round = λ i l. absurd (omega (arith, l, none));
        long = omega (arith, none, no_part);
        both = omega (arith, no_pack, no_leaf);
        entries = λ i l. absurd (omega (arith, l, none));
        rest = λ i k o l. absurd (omega (arith, l, none));
      };
      whole = ap (λ (xs : List ℕ). part_start xs (length xs)) parts ∙ sym no_pack;
      last = λ k l. absurd (omega (arith, l, none));
      long = long;
    }

-- ---- one entry more

pub packs_push : (es : List PackShows) (e : PackShows) (k : ℕ) → e.pack ≡ k → packs_in (es ++ e ∷ []) ≡ packs_in es ++ k ∷ []
packs_push es e k is = map-append (λ (x : PackShows). x.pack) es (e ∷ []) ∙ ap (λ n. packs_in es ++ n ∷ []) is

pub shown_push : (es : List PackShows) (e : PackShows) (o : Option Leaf) → e.shown ≡ o → shown_in (es ++ e ∷ []) ≡ shown_in es ++ o ∷ []
shown_push es e o is = map-append (λ (x : PackShows). x.shown) es (e ∷ []) ∙ ap (λ (x : Option Leaf). shown_in es ++ x ∷ []) is

not_among_kept : (packs : List ℕ) (x low high k : ℕ) → high ≤ length packs → IsNotAmong (packs ++ x ∷ []) low high k → IsNotAmong packs low high k
not_among_kept packs x low high k l none j above under at = none j above under (get_or-append packs (x ∷ []) 0 j (omega (arith, l, under)) ∙ at)

module _ (packs : List ℕ) (x low high many : ℕ) (a : AreOrdered packs low high many) where
  ordered_kept : AreOrdered (packs ++ x ∷ []) low high many
  ordered_kept = record {
    up = a.up;
    within = (let w = a.within in let n = length-append packs (x ∷ []) in omega (arith, w, n));
    level = λ j above under. (let w = a.within in let e = get_or-append packs (x ∷ []) 0 j (omega (arith, w, under)) in let f = a.level j above under in
        omega (arith, e, f));
    order = λ j above under.
        let w = a.within in
        let e = get_or-append packs (x ∷ []) 0 j (omega (arith, w, under)) in
        let g = get_or-append packs (x ∷ []) 0 (j + 1) (omega (arith, w, under)) in
        let f = a.order j above under in
        omega (arith, e, f, g);
  }

module _ (p : PlanContents) (packs : List ℕ) (shown : List (Option Leaf)) (both : length shown ≡ length packs) (x : ℕ) (y : Option Leaf) where
  entries_kept : (low high tick : ℕ) → AreEntries p packs shown low high tick → AreEntries p (packs ++ x ∷ []) (shown ++ y ∷ []) low high tick
  entries_kept low high tick a = record {
    ordered = ordered_kept packs x low high (packs_of p) a.ordered;
    shows = λ j above under.
        let w = a.ordered.within in
        subst (λ (k : ℕ). IsPackOn p tick k (get_or (shown ++ y ∷ []) j None)) (sym (get_or-append packs (x ∷ []) 0 j (omega (arith, w, under))))
        (subst (λ (o : Option Leaf). IsPackOn p tick (get_or packs j 0) o) (sym (get_or-append shown (y ∷ []) None j (omega (arith, w, under, both))))
        (a.shows j above under));
  }

  turn_kept : (ends parts : List ℕ) → IsTurn p ends parts packs shown → IsTurn p ends parts (packs ++ x ∷ []) (shown ++ y ∷ [])
  turn_kept ends parts t = record {
    round = t.round;
    long = t.long;
    both = (let m = length-append shown (y ∷ []) in let n = length-append packs (x ∷ []) in omega (arith, m, n, both));
    entries = λ i l. entries_kept (part_start parts i) (get_or parts i 0) (round_start 0 ends i) (t.entries i l);
    rest = λ i k o l m none. t.rest i k o l m (not_among_kept packs x (part_start parts i) (get_or parts i 0) k (t.entries i l).ordered.within none);
  }

-- ---- the packs of a round

pub kept_none : (p : PlanContents) (start : ℕ) (t : Turn) → IsTurnOf p t → AreKept p start t t 0
kept_none p start t a = record {
  ends = refl;
  parts = refl;
  turn = a.turn;
  long = refl;
  entries = record {
    ordered = record {
      up = omega arith;
      within = omega arith;
      level = λ j above under. absurd (omega (arith, above, under));
      order = λ j above under.
          absurd (omega (arith, above, under));
    };
    shows = λ j above under. absurd (omega (arith, above, under));
  };
  below = λ j above under. absurd (omega (arith, above, under));
  few = omega arith;
  later = λ k l. refl;
  on = λ k l. absurd (omega (arith, l));
  rest = λ k l. absurd (omega (arith, l));
}

module _ (p : PlanContents) (start : ℕ) (before t : Turn) (n : ℕ) (a : AreKept p start before t n) (leaf : Option Leaf) (shows : IsPackOn p start n leaf) where
  -- a pack that shows what it did
  pub kept_skip : 0 < length before.ends → leaf ≡ get_or t.last.items n None → AreKept p start before t (n + 1)
  kept_skip some same = record {
    ends = a.ends;
    parts = a.parts;
    turn = a.turn;
    long = a.long;
    entries = a.entries;
    below = λ j above under. (let b = a.below j above under in omega (arith, b));
    few = (let f = a.few in omega (arith, f));
    later = λ k l. a.later k (omega (arith, l));
    on = λ k l. elim (cases_lt k n) [
      | inl low ↦ a.on k low
      | inr high ↦ (let e : n ≡ k = omega (arith, l, high) in subst (λ (i : ℕ). IsPackOn p start i (get_or t.last.items i None)) e
          (subst (λ (o : Option Leaf). IsPackOn p start n o) same shows))
    ];
    rest = λ k l none. elim (cases_lt k n) [
      | inl low ↦ a.rest k low none
      | inr high ↦ (some, a.later k high)
    ];
  }

  -- one with an entry
  module _ (t' : Turn) (level : n < packs_of p) (room : n < length t.last.items) (ends : t'.ends ≡ t.ends) (parts : t'.parts ≡ t.parts)
      (packs : packs_kept t' ≡ packs_kept t ++ n ∷ [])
      (shown : shown_kept t' ≡ shown_kept t ++ leaf ∷ []) (last : t'.last.items ≡ set t.last.items n leaf) where
    abbrev low : ℕ
    low = length (packs_kept before)

    abbrev old : ℕ
    old = length (packs_kept t)

    more : length ((packs_kept t) ++ n ∷ []) ≡ old + 1
    more = length-append (packs_kept t) (n ∷ [])

    pack_old : (j : ℕ) → j < old → get_or ((packs_kept t) ++ n ∷ []) j 0 ≡ get_or (packs_kept t) j 0
    pack_old j l = get_or-append (packs_kept t) (n ∷ []) 0 j l

    pack_new : (j : ℕ) → old ≤ j → j < old + 1 → get_or ((packs_kept t) ++ n ∷ []) j 0 ≡ n
    pack_new j above under = let e : j ≡ old = omega (arith, above, under) in ap (λ i. get_or ((packs_kept t) ++ n ∷ []) i 0) e ∙ get_or-append_seam
        (packs_kept t) n [] 0

    leaf_new : get_or ((shown_kept t) ++ leaf ∷ []) old None ≡ leaf
    leaf_new = ap (λ i. get_or ((shown_kept t) ++ leaf ∷ []) i None) (sym a.turn.both) ∙ get_or-append_seam (shown_kept t) leaf [] None

    entries_on : AreEntries p ((packs_kept t) ++ n ∷ []) ((shown_kept t) ++ leaf ∷ []) low (length ((packs_kept t) ++ n ∷ [])) start
    entries_on = record {
      ordered = record {
        up = (let u = a.entries.ordered.up in omega (arith, u, more));
        within = omega arith;
        level = λ j above under. elim (cases_lt j old) [
          | inl b ↦ (let e = pack_old j b in let f = a.entries.ordered.level j above b in omega (arith, e, f))
          | inr b ↦ (let e = pack_new j b (omega (arith, under, more)) in omega (arith, e, level))
        ];
        order = λ j above under. elim (cases_lt (j + 1) old) [
          | inl b ↦ (let e = pack_old j (omega (arith, b)) in let g = pack_old (j + 1) b in let f = a.entries.ordered.order j above b in omega (arith, e, f, g))
          | inr b ↦ (let m : j < old = omega (arith, under, more) in let e = pack_old j m in let g = pack_new (j + 1) b (omega (arith, under, more)) in
              let f = a.below j above m in omega (arith, e, f, g))
        ];
      };
      shows = λ j above under. elim (cases_lt j old) [
        | inl b ↦ (entries_kept p (packs_kept t) (shown_kept t) a.turn.both n leaf low old start a.entries).shows j above b
        | inr b ↦
            (let at : old ≡ j = omega (arith, under, more, b) in
            subst (λ (i : ℕ). IsPackOn p start (get_or ((packs_kept t) ++ n ∷ []) i 0) (get_or ((shown_kept t) ++ leaf ∷ []) i None)) at
            (subst (λ (k : ℕ). IsPackOn p start k (get_or ((shown_kept t) ++ leaf ∷ []) old None)) (sym (pack_new old (omega arith) (omega arith)))
            (subst (λ (o : Option Leaf). IsPackOn p start n o) (sym leaf_new) shows)))
      ];
    }

    below_on : (j : ℕ) → low ≤ j → j < length ((packs_kept t) ++ n ∷ []) → get_or ((packs_kept t) ++ n ∷ []) j 0 < n + 1
    below_on j above under = elim (cases_lt j old) [
      | inl b ↦ (let e = pack_old j b in let f = a.below j above b in omega (arith, e, f))
      | inr b ↦ (let e = pack_new j b (omega (arith, under, more)) in omega (arith, e))
    ]

    last_other : (k : ℕ) → k ≢ n → get_or t'.last.items k None ≡ get_or t.last.items k None
    last_other k ne = ap (λ (xs : List (Option Leaf)). get_or xs k None) last ∙ set_other t.last.items n k leaf None ne

    last_here : get_or t'.last.items n None ≡ leaf
    last_here = ap (λ (xs : List (Option Leaf)). get_or xs n None) last ∙ set_same t.last.items n leaf None room

    rest_on : (k : ℕ) → k < n + 1 → IsNotAmong ((packs_kept t) ++ n ∷ []) low (length ((packs_kept t) ++ n ∷ [])) k → (0 < length before.ends)
        × (get_or t'.last.items k None ≡ get_or before.last.items k None)
    rest_on k l none = elim (cases_lt k n) [
      | inl b ↦
          (let r = a.rest k b (not_among_kept (packs_kept t) n low old k (omega arith) (λ j above under. none j above (omega (arith, under, more)))) in
          (r.0, last_other k (λ e. omega (arith, e, b)) ∙ r.1))
      | inr b ↦ absurd (
          let u = a.entries.ordered.up in
          let e : n ≡ k = omega (arith, l, b) in
          none old (omega (arith, u)) (omega (arith, more)) (pack_new old (omega arith) (omega arith) ∙ e))
    ]

    pub kept_step : AreKept p start before t' (n + 1)
    kept_step = record {
      ends = ends ∙ a.ends;
      parts = parts ∙ a.parts;
      turn =
          let parts_are = ap (λ (v : _). v.items) parts in
          subst (λ (es : List ℕ). IsTurn p es t'.parts.items (packs_kept t') (shown_kept t')) (sym ends)
          (subst (λ (ns : List ℕ). IsTurn p t.ends ns (packs_kept t') (shown_kept t')) (sym parts_are)
          (subst (λ (ks : List ℕ). IsTurn p t.ends t.parts.items ks (shown_kept t')) (sym packs)
          (subst (λ (os : List (Option Leaf)). IsTurn p t.ends t.parts.items ((packs_kept t) ++ n ∷ []) os) (sym shown)
          (turn_kept p (packs_kept t) (shown_kept t) a.turn.both n leaf t.ends t.parts.items a.turn))));
      long = ap (λ (xs : List (Option Leaf)). length xs) last ∙ length-set t.last.items n leaf ∙ a.long;
      entries = subst (λ (ks : List ℕ). AreEntries p ks (shown_kept t') low (length ks) start) (sym packs)
          (subst (λ (os : List (Option Leaf)). AreEntries p ((packs_kept t) ++ n ∷ []) os low (length ((packs_kept t) ++ n ∷ [])) start) (sym shown)
          entries_on);
      few = (let f = a.few in let e = ap (λ (ks : List ℕ). length ks) packs in omega (arith, f, e, more));
      below = subst (λ (ks : List ℕ). (j : ℕ) → low ≤ j → j < length ks → get_or ks j 0 < n + 1) (sym packs) below_on;
      later = λ k l. last_other k (λ e. omega (arith, e, l)) ∙ a.later k (omega (arith, l));
      on = λ k l. elim (cases_lt k n) [
        | inl b ↦ subst (λ (o : Option Leaf). IsPackOn p start k o) (sym (last_other k (λ e. omega (arith, e, b)))) (a.on k b)
        | inr b ↦ (let e : n ≡ k = omega (arith, l, b) in subst (λ (i : ℕ). IsPackOn p start i (get_or t'.last.items i None)) e
            (subst (λ (o : Option Leaf). IsPackOn p start n o) (sym last_here) shows))
      ];
      rest = subst (λ (ks : List ℕ). (k : ℕ) → k < n + 1 → IsNotAmong ks low (length ks) k → (0 < length before.ends)
          × (get_or t'.last.items k None ≡ get_or before.last.items k None)) (sym packs) rest_on;
    }

-- so many packs that show what they did
pub kept_skips : (p : PlanContents) (start : ℕ) (before t : Turn) (n j : ℕ) → AreKept p start before t n → 0 < length before.ends →
    ((k : ℕ) → n ≤ k → k < n + j → IsPackOn p start k (get_or t.last.items k None)) → AreKept p start before t (n + j)
kept_skips p start before t n zero a some on = let e : n ≡ n + 0 = omega arith in subst (λ (m : ℕ). AreKept p start before t m) e a
kept_skips p start before t n (suc j) a some on =
    let e : n + j + 1 ≡ n + suc j = omega arith in
    subst (λ (m : ℕ). AreKept p start before t m) e
    (kept_skip p start before t (n + j) (kept_skips p start before t n j a some (λ k low high. on k low (omega (arith, high)))) (get_or t.last.items (n + j)
    None) (on (n + j) (omega arith) (omega arith)) some refl)

-- up to this one
pub kept_to : (p : PlanContents) (start : ℕ) (before t : Turn) (n m : ℕ) → n ≤ m → AreKept p start before t n → (n < m → 0 < length before.ends) →
    ((k : ℕ) → n ≤ k → k < m → IsPackOn p start k (get_or t.last.items k None)) → AreKept p start before t m
kept_to p start before t n m up a some on = elim (cases_lt n m) [
  | inl more ↦ (let e : n + (m - n) ≡ m = omega (arith, up) in subst (λ (i : ℕ). AreKept p start before t i) e (kept_skips p start before t n (m - n) a
      (some more) (λ k low high. on k low (omega (arith, high, e)))))
  | inr same ↦ (let e : n ≡ m = omega (arith, up, same) in subst (λ (i : ℕ). AreKept p start before t i) e a)
]

-- ---- one round more

module _ (p : PlanContents) (start end : ℕ) (before t t' : Turn) (was : IsTurnOf p before) (here : turn_end before ≡ start) (round : IsRoundUpTo p start
    end) (a : AreKept p start before t (packs_of p))
    (ends_are : t'.ends ≡ t.ends ++ end ∷ []) (parts_are : t'.parts.items ≡ t.parts.items ++ length t.entries.items ∷ []) (entries_are : t'.entries ≡ t.entries)
    (last_is : t'.last ≡ t.last) where
  abbrev ends : List ℕ
  ends = before.ends

  abbrev parts : List ℕ
  parts = before.parts.items

  abbrev packs : List ℕ
  packs = (packs_kept t)

  abbrev ends' : List ℕ
  ends' = ends ++ end ∷ []

  abbrev parts' : List ℕ
  parts' = parts ++ length packs ∷ []

  -- what was kept, with the new entries behind
  kept : IsTurn p ends parts packs (shown_kept t)
  kept =
      subst (λ (es : List ℕ). IsTurn p es parts packs (shown_kept t)) a.ends
      (subst (λ (ns : List ℕ). IsTurn p t.ends ns packs (shown_kept t)) (ap (λ (v : _). v.items) a.parts) a.turn)

  long : length parts ≡ length ends
  long = was.turn.long

  long_on : length ends' ≡ length ends + 1
  long_on = length-append ends (end ∷ [])

  parts_on : length parts' ≡ length parts + 1
  parts_on = length-append parts (length packs ∷ [])

  start_old : (i : ℕ) → i ≤ length ends → round_start 0 ends' i ≡ round_start 0 ends i
  start_old i l = start_kept 0 end i ends l

  start_here : round_start 0 ends' (length ends) ≡ start
  start_here = start_old (length ends) (omega arith) ∙ here

  end_here : get_or ends' (length ends) 0 ≡ end
  end_here = get_or-append_seam ends end [] 0

  low_old : (i : ℕ) → i ≤ length ends → part_start parts' i ≡ part_start parts i
  low_old i l = start_kept 0 (length packs) i parts (omega (arith, l, long))

  high_old : (i : ℕ) → i < length ends → get_or parts' i 0 ≡ get_or parts i 0
  high_old i l = get_or-append parts (length packs ∷ []) 0 i (omega (arith, l, long))

  low_here : part_start parts' (length ends) ≡ length (packs_kept before)
  low_here = low_old (length ends) (omega arith) ∙ ap (part_start parts) (sym long) ∙ was.whole

  high_here : get_or parts' (length ends) 0 ≡ length packs
  high_here = ap (λ i. get_or parts' i 0) (sym long) ∙ get_or-append_seam parts (length packs) [] 0

  round_on : (i : ℕ) → i < length ends + 1 → IsRoundUpTo p (round_start 0 ends' i) (get_or ends' i 0)
  round_on i l = elim (cases_lt i (length ends)) [
    | inl low ↦ subst (λ (s : ℕ). IsRoundUpTo p s (get_or ends' i 0)) (sym (start_old i (omega (arith, low))))
        (subst (λ (e : ℕ). IsRoundUpTo p (round_start 0 ends i) e) (sym (get_or-append ends (end ∷ []) 0 i low)) (kept.round i low))
    | inr high ↦
        (let e : length ends ≡ i = omega (arith, l, high) in
        subst (λ (k : ℕ). IsRoundUpTo p (round_start 0 ends' k) (get_or ends' k 0)) e
        (subst (λ (s : ℕ). IsRoundUpTo p s (get_or ends' (length ends) 0)) (sym start_here) (subst (λ (e : ℕ). IsRoundUpTo p start e) (sym end_here) round)))
  ]

  entries_all : (i : ℕ) → i < length ends + 1 → AreEntries p packs (shown_kept t) (part_start parts' i) (get_or parts' i 0) (round_start 0 ends' i)
  entries_all i l = elim (cases_lt i (length ends)) [
    | inl low ↦
        subst (λ (s : ℕ). AreEntries p packs (shown_kept t) (part_start parts' i) (get_or parts' i 0) s) (sym (start_old i (omega (arith, low))))
        (subst (λ (n : ℕ). AreEntries p packs (shown_kept t) n (get_or parts' i 0) (round_start 0 ends i)) (sym (low_old i (omega (arith, low))))
        (subst (λ (n : ℕ). AreEntries p packs (shown_kept t) (part_start parts i) n (round_start 0 ends i)) (sym (high_old i low)) (kept.entries i low)))
    | inr high ↦
        (let e : length ends ≡ i = omega (arith, l, high) in
        subst (λ (k : ℕ). AreEntries p packs (shown_kept t) (part_start parts' k) (get_or parts' k 0) (round_start 0 ends' k)) e
        (subst (λ (s : ℕ). AreEntries p packs (shown_kept t) (part_start parts' (length ends)) (get_or parts' (length ends) 0) s) (sym start_here)
        (subst (λ (n : ℕ). AreEntries p packs (shown_kept t) n (get_or parts' (length ends) 0) start) (sym low_here)
        (subst (λ (n : ℕ). AreEntries p packs (shown_kept t) (length (packs_kept before)) n start) (sym high_here) a.entries))))
  ]

  -- a pack without an entry in the new round
  rest_here : (k : ℕ) (o : Option Leaf) → k < packs_of p → IsNotAmong packs (length (packs_kept before)) (length packs) k → (0 < length ends)
      × (IsPackOn p (round_start 0 ends' (length ends - 1)) k o → IsPackOn p start k o)
  rest_here k o m none =
      let r = a.rest k m none in
      let some = r.0 in (
        some,
        λ on.
            let on' = subst (λ (s : ℕ). IsPackOn p s k o) (start_old (length ends - 1) (omega arith)) on in
            let e = pack_once p (round_start 0 ends (length ends - 1)) k o (get_or before.last.items k None) on' (was.last k some m) in
            subst (λ (x : Option Leaf). IsPackOn p start k x) (r.1 ∙ sym e) (a.on k m),
      )

  rest_all : (i k : ℕ) (o : Option Leaf) → i < length ends + 1 → k < packs_of p → IsNotAmong packs (part_start parts' i) (get_or parts' i 0) k → (0 < i)
      × (IsPackOn p (round_start 0 ends' (i - 1)) k o → IsPackOn p (round_start 0 ends' i) k o)
  rest_all i k o l m none = elim (cases_lt i (length ends)) [
    | inl low ↦
        (let r = kept.rest i k o low m (λ j above under. none j (let e = low_old i (omega (arith, low)) in omega (arith, e, above)) (let e = high_old i low
        in omega (arith, e, under))) in (
          r.0,
          λ on. subst (λ (s : ℕ). IsPackOn p s k o) (sym (start_old i (omega (arith, low))))
              (r.1 (subst (λ (s : ℕ). IsPackOn p s k o) (start_old (i - 1) (omega (arith, low))) on)),
        ))
    | inr high ↦
        (let e : i ≡ length ends = omega (arith, l, high) in
        let gone = subst (λ (n : ℕ). IsNotAmong packs (part_start parts' n) (get_or parts' n 0) k) e none in
        let r = rest_here k o m (λ j above under. gone j (let f = low_here in omega (arith, f, above)) (let f = high_here in omega (arith, f, under))) in
        subst (λ (n : ℕ). (0 < n) × (IsPackOn p (round_start 0 ends' (n - 1)) k o → IsPackOn p (round_start 0 ends' n) k o)) (sym e)
        (r.0, λ on. subst (λ (s : ℕ). IsPackOn p s k o) (sym start_here) (r.1 on)))
  ]

  turn_of : IsTurn p ends' parts' packs (shown_kept t)
  turn_of = record {
    round = λ i l. round_on i (omega (arith, l, long_on));
    long = omega (arith, long, long_on, parts_on);
    both = kept.both;
    entries = λ i l. entries_all i (omega (arith, l, long_on));
    rest = λ i k o l m none. rest_all i k o (omega (arith, l, long_on)) m none;
  }

  ends_now : t'.ends ≡ ends'
  ends_now = ends_are ∙ ap (λ (es : List ℕ). es ++ end ∷ []) a.ends

  parts_now : t'.parts.items ≡ parts'
  parts_now = parts_are ∙ ap (λ n. t.parts.items ++ n ∷ []) (sym (length-map t.entries.items (λ (e : PackShows). e.pack)))
      ∙ ap (λ (v : _). v.items ++ length packs ∷ []) a.parts

  pub turn_on : IsTurnOf p t'
  turn_on = record {
    turn =
        subst (λ (es : List ℕ). IsTurn p es t'.parts.items (packs_kept t') (shown_kept t')) (sym ends_now)
        (subst (λ (ns : List ℕ). IsTurn p ends' ns (packs_kept t') (shown_kept t')) (sym parts_now)
        (subst (λ (v : _). IsTurn p ends' parts' (packs_in v.items) (shown_in v.items)) (sym entries_are) turn_of));
    whole = ap (λ (ns : List ℕ). part_start ns (length ns)) parts_now ∙ last_start 0 (length packs) parts ∙ ap (λ (v : _). length (packs_in v.items))
        (sym entries_are);
    last = λ k l m.
        let e : length t'.ends - 1 ≡ length ends = (let f = ap (λ (es : List ℕ). length es) ends_now in omega (arith, f, long_on)) in
        let at : round_start 0 t'.ends (length t'.ends - 1) ≡ start = ap (round_start 0 t'.ends) e ∙ ap (λ (es : List ℕ). round_start 0 es (length ends))
        ends_now ∙ start_here in
        subst (λ (s : ℕ). IsPackOn p s k (get_or t'.last.items k None)) (sym at) (subst (λ (v : _). IsPackOn p start k (get_or v.items k None))
        (sym last_is) (a.on k m));
    long = ap (λ (v : _). length v.items) last_is ∙ a.long ∙ was.long;
  }

  pub end_on : turn_end t' ≡ end
  end_on = ap (λ (es : List ℕ). round_start 0 es (length es)) ends_now ∙ last_start 0 end ends

-- ---- where a replay begins

module _ (p : PlanContents) (h : IsPlan p) (can : CanComeRound p) (c : CoreContents) (b : IsCoreOf p c) (r : Replay) (lap : IsTurnOf p r.lap)
    (end : turn_end r.lap ≡ c.tick) (turns : AreTurns p c.tick) where
  abbrev kept_ends : List ℕ
  kept_ends = r.lap.ends

  positive : 0 < c.tick
  positive =
      let some = turns.some in
      let scaled = h.tree.tree.scaled in
      let least : 1 * p.tree.scale ≤ turns.units * p.tree.scale = mul-le-mul_right p.tree.scale some in
      let are = turns.are in
      omega (arith, scaled, least, are)

  pub some_rounds : 0 < length kept_ends
  some_rounds = elim (cases_lt 0 (length kept_ends)) [
    | inl l ↦ l
    | inr none ↦ absurd (let e : length kept_ends ≡ 0 = omega (arith, none) in let f = ap (round_start 0 kept_ends) e in let s = positive in
        omega (arith, f, end, s))
  ]

  last_round : IsRoundUpTo p (round_start 0 kept_ends (length kept_ends - 1)) c.tick
  last_round =
      let s = some_rounds in
      let e : length kept_ends ≡ suc (length kept_ends - 1) = omega (arith, s) in
      subst (λ (n : ℕ). IsRoundUpTo p (round_start 0 kept_ends (length kept_ends - 1)) n) (sym (ap (round_start 0 kept_ends) e) ∙ end)
      (lap.turn.round (length kept_ends - 1) (omega (arith, s)))

  pub begins : r.next ≡ 0 → r.shift ≡ c.tick → r.places ≡ c.places → r.changes.room ≡ packs_of p → r.shows.items ≡ r.lap.last.items → IsReplayOf p c.tick r
  begins next shift places room shows =
      let s = some_rounds in
      let last_on : (k : ℕ) → k < packs_of p → IsPackOn p (round_start 0 kept_ends (length kept_ends - 1)) k (get_or r.shows.items k None) =
      (λ k m. subst (λ (xs : List (Option Leaf)). IsPackOn p (round_start 0 kept_ends (length kept_ends - 1)) k (get_or xs k None)) (sym shows)
      (lap.last k s m)) in
      record {
        can = can;
        lap = lap;
        turn = subst (λ (n : ℕ). AreTurns p n) (sym end) turns;
        shift = subst (λ (n : ℕ). AreTurns p n) (sym shift) turns;
        next = omega (arith, next, s);
        at = (let f = ap (round_start 0 kept_ends) next in let below = b.at.early in omega (arith, f, shift, below));
        event = b.at.event;
        places = places ∙ b.at.placed;
        shown = λ n k up in_level.
            let e = same_start p n (round_start 0 kept_ends (length kept_ends - 1)) c.tick up last_round in
            subst (λ (m : ℕ). IsPackOn p m k (get_or r.shows.items k None)) (sym e) (last_on k in_level);
        gone = λ k some. absurd (omega (arith, next, some));
        held = λ k in_level.
            ap (λ (w : Placing). is_held w.onto k) (places ∙ b.at.placed) ∙ ap (λ os. is_held os k)
            (onto_end p h (round_start 0 kept_ends (length kept_ends - 1)) c.tick last_round)
            ∙ held_some p (round_start 0 kept_ends (length kept_ends - 1)) k (get_or r.shows.items k None) (last_on k in_level);
        room = room;
        long = ap (λ (xs : List (Option Leaf)). length xs) shows ∙ lap.long;
      }
