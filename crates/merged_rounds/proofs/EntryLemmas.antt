-- Packs show what entries tell, one after another.
use Rattle.std.proofs.Common.{◌≡◌, ◌≢◌, ℕ, ◌+◌, ◌<◌, ◌≤◌, ◌&&◌, not, inl, inr, Bool, List, [], ◌∷◌, length, length-append, set, get_or, Option, None}
use Rattle.std.proofs.Common.{refl, sym, ap, ap₂, subst, ◌∙◌, arith, length-set}
use Rattle.std.proofs.lemmas.Bool.{cases_eq, cases_lt}
use Rattle.std.proofs.lemmas.List.{get_or-map, length-map}
use Rattle.sched_base.specs.declared.rows.Leaf.{Leaf}
use Rattle.cpu_assign.specs.Changed.{ChangeLists, with_pack}
use Rattle.merged_rounds.specs.Replays.{AreNotedTo, AreOrdered, IsEntryTaken, IsNotAmong, IsTaken}
use Rattle.merged_rounds.specs.Shown.{PackShows, is_some, packs_in, shown_in}
use Rattle.merged_rounds.proofs.ChangeLemmas.{set_other, set_same}
use Rattle.merged_rounds.proofs.ReplayLemmas.{few_begun, few_stopped, noted_by, noted_none, noted_skip, noted_step}

-- the pack of an entry between these places, and what it shows
module _ (es : List PackShows) (low high many j : ℕ) (ordered : AreOrdered (packs_in es) low high many) (l : j < high) (e : PackShows)
    (is : e ≡ get_or es j e) where
  there : j < length es
  there = let w = ordered.within in let same = length-map es (λ (x : PackShows). x.pack) in omega (arith, w, same, l)

  pub pack_there : e.pack ≡ get_or (packs_in es) j 0
  pack_there = ap (λ (x : PackShows). x.pack) is ∙ sym (get_or-map (λ (x : PackShows). x.pack) es j e 0 there)

  pub shown_there : e.shown ≡ get_or (shown_in es) j None
  shown_there = ap (λ (x : PackShows). x.shown) is ∙ sym (get_or-map (λ (x : PackShows). x.shown) es j e None there)

-- the entries from place `low` up to j are taken: packs below a number are noted, and the others show what they did
pub record AreTakenTo (packs : List ℕ) (shown : List (Option Leaf)) (low high : ℕ) (before now : List (Option Leaf)) (j : ℕ) (changes : ChangeLists) : Type
    0 where
  pub upto : ℕ
  pub noted : AreNotedTo before now upto changes
  pub later : (k : ℕ) → upto ≤ k → get_or now k None ≡ get_or before k None
  pub next : j < high → upto ≤ get_or packs j 0
  pub many : upto ≤ length before
  pub seen : length changes.seen ≤ upto
  pub each : (k : ℕ) → IsTaken packs shown low j before now k
  pub room : changes.room ≡ length before
  pub long : length now ≡ length before

module _ (packs : List ℕ) (shown : List (Option Leaf)) (low high : ℕ) (before : List (Option Leaf)) where
  pub taken_none : (c : ChangeLists) → c.seen ≡ [] → c.stopped ≡ [] → c.begun ≡ [] → c.room ≡ length before → AreTakenTo packs shown low high before before
      low c
  taken_none c seen stopped begun room =
      let none = ap (λ (xs : List ℕ). length xs) seen in
      record {
        upto = 0;
        noted = noted_none before before c seen stopped begun;
        later = λ k l. refl;
        next = λ l. omega arith;
        many = omega arith;
        seen = omega (arith, none);
        each = λ k. inr (λ j up down. absurd (omega (arith, up, down)), refl);
        room = room;
        long = refl;
      }

  module _ (now : List (Option Leaf)) (j : ℕ) (c : ChangeLists) (a : AreTakenTo packs shown low high before now j c) (ordered : AreOrdered packs low high
      (length before)) (up : low ≤ j) (l : j < high) where
    abbrev k : ℕ
    k = get_or packs j 0

    pub in_level : k < length before
    in_level = ordered.level j up l

    pub room_seen : length c.seen < c.room
    room_seen = let s = a.seen in let n = a.next l in let i = in_level in let r = a.room in omega (arith, s, n, i, r)

    pub room_stopped : length c.stopped < c.room
    room_stopped = let s = few_stopped before now a.upto c a.noted in let n = a.next l in let i = in_level in let r = a.room in omega (arith, s, n, i, r)

    pub room_begun : length c.begun < c.room
    room_begun = let s = few_begun before now a.upto c a.noted in let n = a.next l in let i = in_level in let r = a.room in omega (arith, s, n, i, r)

    module _ (leaf : Option Leaf) (is : leaf ≡ get_or shown j None) (now' : List (Option Leaf)) (set_is : now' ≡ set now k leaf) where
      here : get_or now' k None ≡ leaf
      here = ap (λ (xs : List (Option Leaf)). get_or xs k None) set_is ∙ set_same now k leaf None (let i = in_level in let e = a.long in omega (arith, i, e))

      other : (q : ℕ) → q ≢ k → get_or now' q None ≡ get_or now q None
      other q ne = ap (λ (xs : List (Option Leaf)). get_or xs q None) set_is ∙ set_other now k q leaf None ne

      below : (q : ℕ) → q < a.upto → get_or now' q None ≡ get_or now q None
      below q m = other q (λ e. let n = a.next l in omega (arith, n, e, m))

      more : (q : ℕ) → q ≢ k → IsTaken packs shown low j before now q → IsTaken packs shown low (j + 1) before now' q
      more q ne (inl (i, above, under, at, e)) = inl (i, above, omega (arith, under), at, other q ne ∙ e)
      more q ne (inr (none, e)) = inr (none_more, other q ne ∙ e)
        where
          none_more : IsNotAmong packs low (j + 1) q
          none_more i above under at = elim (cases_lt i j) [
            | inl m ↦ none i above m at
            | inr m ↦ (let f : i ≡ j = omega (arith, under, m) in ne (sym at ∙ ap (λ n. get_or packs n 0) f))
          ]

      each_on : (q : ℕ) → IsTaken packs shown low (j + 1) before now' q
      each_on q = elim (cases_eq q k) [
        | inl e ↦ inl (j, up, omega arith, sym e, ap (λ n. get_or now' n None) e ∙ here ∙ is)
        | inr ne ↦ more q ne (a.each q)
      ]

      long_on : length now' ≡ length before
      long_on = ap (λ (xs : List (Option Leaf)). length xs) set_is ∙ length-set now k leaf ∙ a.long

      pub taken_step : (c' : ChangeLists) → IsEntryTaken now k leaf c c' → c'.room ≡ c.room → AreTakenTo packs shown low high before now' (j + 1) c'
      taken_step c' (inl (same, still)) room = record {
        upto = a.upto;
        noted = subst (λ (d : ChangeLists). AreNotedTo before now' a.upto d) (sym still) (noted_by before now now' a.upto c below a.noted);
        later = λ q m. elim (cases_eq q k) [
          | inl e ↦ ap (λ n. get_or now' n None) e ∙ here ∙ same ∙ ap (λ n. get_or now n None) (sym e) ∙ a.later q m
          | inr ne ↦ other q ne ∙ a.later q m
        ];
        next = λ m. (let n = a.next l in let o = ordered.order j up m in omega (arith, n, o));
        many = a.many;
        seen = (let s = a.seen in let e = ap (λ (d : ChangeLists). length d.seen) still in omega (arith, s, e));
        each = each_on;
        room = room ∙ a.room;
        long = long_on;
      }
      taken_step c' (inr listed) room = record {
        upto = k + 1;
        noted = noted_step before now' k c c' listed.seen
            (listed.stopped ∙ ap₂ (λ (x y : Bool). with_pack c.stopped k (not x && y)) (ap is_some (sym here)) (ap is_some was))
            (listed.begun ∙ ap₂ (λ (x y : Bool). with_pack c.begun k (x && not y)) (ap is_some (sym here)) (ap is_some was))
            (noted_skip before now' a.upto k c (a.next l) (λ i above under. other i (λ e. omega (arith, e, under)) ∙ a.later i above)
            (noted_by before now now' a.upto c below a.noted));
        later = λ q m. (let n = a.next l in other q (λ e. omega (arith, e, m)) ∙ a.later q (omega (arith, n, m)));
        next = λ m. (let o = ordered.order j up m in omega (arith, o));
        many = (let i = in_level in omega (arith, i));
        seen =
            let s = a.seen in
            let n = a.next l in
            let e = ap (λ (xs : List ℕ). length xs) listed.seen in
            let f = length-append c.seen (k ∷ []) in
            omega (arith, s, n, e, f);
        each = each_on;
        room = room ∙ a.room;
        long = long_on;
      }
        where
          was : get_or now k None ≡ get_or before k None
          was = a.later k (a.next l)

  pub taken_all : (now : List (Option Leaf)) (j : ℕ) (c : ChangeLists) → AreTakenTo packs shown low high before now j c →
      AreNotedTo before now (length before) c
  taken_all now j c a = noted_skip before now a.upto (length before) c a.many (λ k above under. a.later k above) a.noted
