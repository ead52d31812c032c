-- The rounds of a plan, cut at the ends of the rounds of its parts.
use Rattle.std.proofs.Common.{◌≡◌, ℕ, zero, suc, ◌+◌, ◌*◌, ◌<◌, ◌≤◌, ◌⊎◌, ◌∙◌, ◌∷◌, ◌++◌, [], inl, inr, true, List, length, length-set, map, get_or}
use Rattle.std.proofs.Common.{get_or-set_other, get_or-set_same, min, set, slice_get, take, drop, Option, None, Some, refl, sym, ap, subst, arith}
use Rattle.std.specs.List.{AllByRecursion}
use Rattle.std.proofs.lemmas.Bool.{cases_eq, cases_lt}
use Rattle.std.proofs.Math.Seq.{take-append_seam}
use Rattle.std.proofs.lemmas.Option.{get_or_from_slice_get, slice_get_read, slice_get_within}
use Rattle.sched_base.specs.declared.rows.Leaf.{Leaf}
use Rattle.sched_base.specs.declared.rows.Row.{Row}
use Rattle.sched_base.proofs.TableLemmas.{slice_get-push}
use Rattle.run_tree.specs.Plans.{IsPlan, PlanContents, stop_of}
use Rattle.event_core.specs.Rounds.{IsRoundStart, IsRoundUpTo, event_at}
use Rattle.event_core.specs.Told.{IsTold}
use Rattle.event_core.proofs.NextCores.{event_first}
use Rattle.merged_rounds.specs.Laps.{IsAllTold}
use Rattle.merged_rounds.specs.Replays.{IsPackOn, packs_of}
use Rattle.round_looks.specs.Looks.{leaf_at}
use Rattle.part_plans.specs.declared.parts.PartPlan.{PartPlan}
use Rattle.part_plans.specs.declared.parts.PartPlans.{PartPlans}
use Rattle.part_plans.specs.PartPlans.{ArePartPlansOf, onto_of}
use Rattle.part_rounds.specs.declared.parted.Parted.{Parted}
use Rattle.part_rounds.specs.declared.sources.PartRounds.{PartRounds}
use Rattle.part_rounds.specs.Parted.{IsCovered, IsPartedOf}
use Rattle.part_rounds.specs.PartedSteps.{AreLooked, ArePartsAt, IsTelling}
use Rattle.part_rounds.specs.PartRounds.{IsGoing, IsPartRound, IsPartRoundsOf}
use Rattle.part_rounds.specs.Placed.{AreShown, IsPlacedUpTo}
use Rattle.part_rounds.proofs.CoverLemmas.{goes_on, own_begins, pack_covered, pack_once, pack_shows, quiet_all, quiet_own, round_before, some_at}

-- ---- lists

-- what is written at a place stands there
slice_get-set_same : {X : Type 0} (xs : List X) (n : ℕ) (x : X) → n < length xs → slice_get (set xs n x) n ≡ Some x
slice_get-set_same [] n x l = absurd (omega (arith, l))
slice_get-set_same (y ∷ xs) zero x l = refl
slice_get-set_same (y ∷ xs) (suc n) x l = slice_get-set_same xs n x (omega (arith, l))

-- and the others stay
slice_get-set_other : {X : Type 0} (xs : List X) (n k : ℕ) (x : X) → (k ≡ n → ⊥) → slice_get (set xs n x) k ≡ slice_get xs k
slice_get-set_other [] n k x ne = refl
slice_get-set_other (y ∷ xs) zero zero x ne = absurd (ne refl)
slice_get-set_other (y ∷ xs) zero (suc k) x ne = refl
slice_get-set_other (y ∷ xs) (suc n) zero x ne = refl
slice_get-set_other (y ∷ xs) (suc n) (suc k) x ne = slice_get-set_other xs n k x (λ e. ne (ap suc e))

-- what a slice of a whole list was written to stands in the list
pub back : {X : Type 0} (new old : List X) (n : ℕ) → length new ≡ length old → n ≡ length old → take n (new ++ drop (length new) old) ≡ new
back new old n same all = ap (λ m. take m (new ++ drop (length new) old)) (all ∙ sym same) ∙ take-append_seam new (drop (length new) old)

-- what is read at a place stands there
pub read_at : {X : Type 0} (xs : List X) (k : ℕ) (x d : X) → k < length xs → x ≡ get_or xs k x → get_or xs k d ≡ x
read_at xs k x d l e = get_or_from_slice_get xs k x d (slice_get_read xs (length xs) k x refl l e)

-- ---- what is told of the packs of a part

-- nothing is told yet
pub telling_none : (whole : PlanContents) (tick : ℕ) (packs : List ℕ) (shows : List (Option Leaf)) → IsTelling whole tick packs 0 shows shows
telling_none whole tick packs shows = record { long = refl; told = λ k l. absurd (omega (arith, l)); rest = λ i. inl refl }

-- one pack more
pub telling_more : (whole : PlanContents) (tick : ℕ) (packs : List ℕ) (n : ℕ) (before after : List (Option Leaf)) (shows : Option Leaf) →
    IsTelling whole tick packs n before after → get_or packs n 0 < length after → IsPackOn whole tick (get_or packs n 0) shows →
    IsTelling whole tick packs (n + 1) before (set after (get_or packs n 0) shows)
telling_more whole tick packs n before after shows t l on =
    let i = get_or packs n 0 in
    let here : get_or (set after i shows) i None ≡ shows = get_or-set_same after i shows None l in
    let on_here : IsPackOn whole tick i (get_or (set after i shows) i None) = subst (λ (v : Option Leaf). IsPackOn whole tick i v) (sym here) on in
    let other : (j : ℕ) → (j ≡ i → ⊥) → get_or (set after i shows) j None ≡ get_or after j None = (λ j ne. get_or-set_other after i j shows None ne) in
    let at : (j : ℕ) → j ≡ i → IsPackOn whole tick j (get_or (set after i shows) j None) =
    (λ j same. subst (λ (m : ℕ). IsPackOn whole tick m (get_or (set after i shows) m None)) (sym same) on_here) in
    record {
      long = length-set after i shows ∙ t.long;
      told = λ k low. elim (cases_eq (get_or packs k 0) i) [
        | inl same ↦ at (get_or packs k 0) same
        | inr ne ↦
            subst (λ (v : Option Leaf). IsPackOn whole tick (get_or packs k 0) v) (sym (other (get_or packs k 0) ne))
            (t.told k (elim (cases_eq k n) [ inl last ↦ absurd (ne (ap (λ j. get_or packs j 0) last)) | inr ne' ↦ omega (arith, low, ne') ]))
      ];
      rest = λ j. elim (cases_eq j i) [
        | inl same ↦ inr (at j same)
        | inr ne ↦ elim (t.rest j) [
          | inl e ↦ inl (other j ne ∙ e)
          | inr is ↦ inr (subst (λ (v : Option Leaf). IsPackOn whole tick j v) (sym (other j ne)) is)
        ]
      ];
    }

-- ---- each part in turn

-- a part whose round goes on over this tick, and of whose packs it is told what they show there
pub record IsPartNow (whole : PlanContents) (tick : ℕ) (shows : List (Option Leaf)) (s : PartRounds) : Type 0 where
  pub belongs : IsPartRoundsOf whole s
  pub plan : IsPlan s.part.plan
  pub start : ℕ
  pub low : start ≤ tick
  pub high : tick < s.end
  pub round : IsPartRound s.part start s.end s.shows.items
  pub told : (k : ℕ) → k < packs_of s.part.plan → IsPackOn whole tick (get_or s.part.packs.items k 0) (get_or shows (get_or s.part.packs.items k 0) None)

-- where the first round of the first n parts ends, or all rounds
pub record IsLeastEnd (whole : PlanContents) (parts : List PartRounds) (n end : ℕ) : Type 0 where
  pub within : end ≤ stop_of whole
  pub least : (k : ℕ) (r : PartRounds) → k < n → slice_get parts k ≡ Some r → end ≤ r.end
  pub is : (end ≡ stop_of whole) ⊎ ((k : ℕ) × (r : PartRounds) × (k < n) × (slice_get parts k ≡ Some r) × (end ≡ r.end))

-- the first n parts moved on from this tick
pub record AreMoved (whole : PlanContents) (tick n : ℕ) (old new : List PartRounds) (before shows : List (Option Leaf)) (end : ℕ) : Type 0 where
  pub long : length new ≡ length old
  pub rest : (k : ℕ) → n ≤ k → slice_get new k ≡ slice_get old k
  pub part : (k : ℕ) (was s : PartRounds) → slice_get old k ≡ Some was → slice_get new k ≡ Some s → s.part ≡ was.part
  pub each : (k : ℕ) (s : PartRounds) → k < n → slice_get new k ≡ Some s → IsPartNow whole tick shows s
  pub long_shows : length shows ≡ length before
  pub shown : (i : ℕ) → (get_or shows i None ≡ get_or before i None) ⊎ IsPackOn whole tick i (get_or shows i None)
  pub first : IsLeastEnd whole new n end

-- none has moved yet
pub none_moved : (whole : PlanContents) (tick : ℕ) (old : List PartRounds) (before : List (Option Leaf)) (end : ℕ) → end ≡ stop_of whole →
    AreMoved whole tick 0 old old before before end
none_moved whole tick old before end all = record {
  long = refl;
  rest = λ k l. refl;
  part = λ k was s a b. (let e : Some s ≡ Some was = sym b ∙ a in let e' : s ≡ was = cc in ap (λ (r : PartRounds). r.part) e');
  each = λ k s l. absurd (omega (arith, l));
  long_shows = refl;
  shown = λ i. inl refl;
  first = record { within = omega (arith, all); least = λ k r l. absurd (omega (arith, l)); is = inl all };
}

-- one part more
module _ (whole : PlanContents) (tick n : ℕ) (old new : List PartRounds) (before shows : List (Option Leaf)) (end : ℕ) (moved : AreMoved whole tick n old
    new before shows end)
    (s s' : PartRounds) (in_parts : n < length new) (at : slice_get new n ≡ Some s) (same_part : s'.part ≡ s.part) where
  -- a part that isn't the one that moves
  other_part : (k : ℕ) → (k ≡ n → ⊥) → slice_get (set new n s') k ≡ slice_get new k
  other_part k ne = slice_get-set_other new n k s' ne

  -- and that one
  this_part : slice_get (set new n s') n ≡ Some s'
  this_part = slice_get-set_same new n s' in_parts

  now_part : (k : ℕ) (r : PartRounds) → k ≡ n → slice_get (set new n s') k ≡ Some r → s' ≡ r
  now_part k r same is = let e : Some s' ≡ Some r = sym this_part ∙ ap (λ j. slice_get (set new n s') j) (sym same) ∙ is in cc

  -- the least end, with one more part
  end_on : IsLeastEnd whole (set new n s') (n + 1) (min end s'.end)
  end_on =
      let within = moved.first.within in
      record {
        within = omega (arith, within);
        least = λ k r l is. elim (cases_eq k n) [
          | inl same ↦ (let f = ap (λ (x : PartRounds). x.end) (now_part k r same is) in omega (arith, f))
          | inr ne ↦ (let b = moved.first.least k r (omega (arith, l, ne)) (sym (other_part k ne) ∙ is) in omega (arith, b))
        ];
        is = elim (cases_lt s'.end end) [
          | inl sooner ↦ inr (n, s', omega arith, this_part, omega (arith, sooner))
          | inr not_sooner ↦ (let m : min end s'.end ≡ end = omega (arith, not_sooner) in elim moved.first.is [
            | inl all ↦ inl (m ∙ all)
            | inr some ↦ inr (
              some.0,
              some.1,
              (let l = some.2 in omega (arith, l)),
              (other_part some.0 (let l = some.2 in λ e. omega (arith, e, l))
                  ∙ some.3),
              m ∙ some.4,
            )
          ])
        ];
      }

  -- what is told of a part that moved before still is
  told_on : (shows' : List (Option Leaf)) → ((i : ℕ) → (get_or shows' i None ≡ get_or shows i None) ⊎ IsPackOn whole tick i (get_or shows' i None)) →
      (r : PartRounds) → IsPartNow whole tick shows r → IsPartNow whole tick shows' r
  told_on shows' rest' r p = record {
    belongs = p.belongs;
    plan = p.plan;
    start = p.start;
    low = p.low;
    high = p.high;
    round = p.round;
    told = λ k l. (let i = get_or r.part.packs.items k 0 in elim (rest' i) [
      | inl same ↦ subst (λ (v : Option Leaf). IsPackOn whole tick i v) (sym same) (p.told k l)
      | inr is ↦ is
    ]);
  }

  pub one_moved : (shows' : List (Option Leaf)) → length shows' ≡ length shows → ((i : ℕ) → (get_or shows' i None ≡ get_or shows i None) ⊎ IsPackOn whole
      tick i (get_or shows' i None)) →
      IsPartNow whole tick shows' s' → AreMoved whole tick (n + 1) old (set new n s') before shows' (min end s'.end)
  one_moved shows' long' rest' now = record {
    long = length-set new n s' ∙ moved.long;
    rest = λ k l. other_part k (λ e. omega (arith, e, l)) ∙ moved.rest k (omega (arith, l));
    part = λ k was r a b. elim (cases_eq k n) [
      | inl same ↦
          (let e = now_part k r same b in
          sym (ap (λ (x : PartRounds). x.part) e) ∙ same_part ∙ moved.part k was s a (ap (λ j. slice_get new j) same ∙ at))
      | inr ne ↦ moved.part k was r a (sym (other_part k ne) ∙ b)
    ];
    each = λ k r l is. elim (cases_eq k n) [
      | inl same ↦ subst (λ (x : PartRounds). IsPartNow whole tick shows' x) (now_part k r same is) now
      | inr ne ↦ told_on shows' rest' r (moved.each k r (omega (arith, l, ne)) (sym (other_part k ne) ∙ is))
    ];
    long_shows = long' ∙ moved.long_shows;
    shown = λ i. elim (rest' i) [
      | inr is ↦ inr is
      | inl same ↦ elim (moved.shown i) [
        | inl e ↦ inl (same ∙ e)
        | inr is ↦ inr (subst (λ (v : Option Leaf). IsPackOn whole tick i v) (sym same) is)
      ]
    ];
    first = end_on;
  }

-- ---- the parts of a plan move on

module _ (whole : PlanContents) (w : IsPlan whole) (parted : Parted) (b : IsPartedOf whole parted) (early : parted.tick < stop_of whole)
    (n : ℕ) (new : List PartRounds) (shows : List (Option Leaf)) (end : ℕ) (moved : AreMoved whole parted.tick n parted.parts.items new parted.shows.items
    shows end) where
  -- a part that hasn't moved is as it was
  pub still : (s : PartRounds) → slice_get new n ≡ Some s → slice_get parted.parts.items n ≡ Some s
  still s at = sym (moved.rest n (omega arith)) ∙ at

  -- a part that is due begins its next round
  pub due_now : (s' : PartRounds) (shows' : List (Option Leaf)) → IsPartRoundsOf whole s' → IsPlan s'.part.plan → IsPartRound s'.part parted.tick s'.end
      s'.shows.items →
      IsTelling whole parted.tick s'.part.packs.items (packs_of s'.part.plan) shows shows' → IsPartNow whole parted.tick shows' s'
  due_now s' shows' belongs o round t = record {
    belongs = belongs;
    plan = o;
    start = parted.tick;
    low = omega arith;
    high = goes_on whole w s'.part o belongs.part parted.tick s'.end s'.shows.items round;
    round = round;
    told = λ k l. t.told k l;
  }

  -- one that isn't goes on in its round
  pub goes_now : (s : PartRounds) → slice_get new n ≡ Some s → (s.end ≡ parted.tick → ⊥) → IsPartNow whole parted.tick shows s
  goes_now s at later = go (b.going n s (still s at))
    where
      go : ((parted.tick ≡ 0) × (s.end ≡ 0)) ⊎ IsGoing s.part parted.tick s.end s.shows.items → IsPartNow whole parted.tick shows s
      go (inl first) = absurd (later (first.1 ∙ sym first.0))
      go (inr g) =
          (let before = g.before in
          let after = g.after in
          let is = b.each n s (still s at) in
          let o = b.lawful n s (still s at) in
          let low : g.start ≤ parted.tick = omega (arith, before) in
          let high : parted.tick < s.end = elim (cases_lt parted.tick s.end) [ inl l ↦ l | inr m ↦ absurd (later (omega (arith, m, after))) ] in
          record {
            belongs = is;
            plan = o;
            start = g.start;
            low = low;
            high = high;
            round = g.round;
            told = λ k l. (
                let i = get_or s.part.packs.items k 0 in
                elim (moved.shown i) [
                  | inr on ↦ on
                  | inl same ↦
                      subst (λ (v : Option Leaf). IsPackOn whole parted.tick i v) (sym (same ∙ b.told n s (still s at) (λ z. omega (arith, z, before)) k l))
                      (pack_shows whole w s.part o is.part g.start s.end parted.tick k s.shows.items g.round low high l)
                ]);
          })

-- ---- a round of the whole plan

module _ (whole : PlanContents) (w : IsPlan whole) (parted : Parted) (b : IsPartedOf whole parted) (early : parted.tick < stop_of whole)
    (n : ℕ) (new : List PartRounds) (shows : List (Option Leaf)) (end : ℕ) (moved : AreMoved whole parted.tick n parted.parts.items new parted.shows.items
    shows end) (all : n ≡ length parted.parts.items) where
  now_at : (c : ℕ) (s : PartRounds) → slice_get new c ≡ Some s → IsPartNow whole parted.tick shows s
  now_at c s at = let l = slice_get_within new c s at in let long = moved.long in moved.each c s (omega (arith, l, long, all)) at

  least_at : (c : ℕ) (s : PartRounds) → slice_get new c ≡ Some s → end ≤ s.end
  least_at c s at = let l = slice_get_within new c s at in let long = moved.long in moved.first.least c s (omega (arith, l, long, all)) at

  -- the same parts
  part_at : (c : ℕ) (s : PartRounds) → slice_get new c ≡ Some s → (was : PartRounds) × (slice_get parted.parts.items c ≡ Some was) × (s.part ≡ was.part)
  part_at c s at =
      let l = slice_get_within new c s at in
      let long = moved.long in
      let was = some_at parted.parts.items c (omega (arith, l, long)) in
      (was.0, was.1, moved.part c was.0 s was.1 at)

  -- each node still stands in one
  pub covered_now : IsCovered whole new parted.part.items parted.like.items
  covered_now = record {
    within = λ x l. (let i = b.covered.within x l in let long = moved.long in omega (arith, i, long));
    known = λ x s l at. (
        let (was, was_at, same) = part_at (get_or parted.part.items x 0) s at in
        subst (λ (p : PartPlan). get_or parted.like.items x 0 < length p.plan.tree.nodes) (sym same) (b.covered.known x was l was_at));
    likes = λ x s l at. (
        let (was, was_at, same) = part_at (get_or parted.part.items x 0) s at in
        subst (λ (p : PartPlan). onto_of p (get_or parted.like.items x 0) ≡ x) (sym same) (b.covered.likes x was l was_at));
  }

  -- the round begins at an event
  event_now : event_at whole parted.tick ≡ true
  event_now = elim b.event [ inl at_end ↦ absurd (omega (arith, at_end, early)) | inr on ↦ on ]

  -- and ends later
  later : parted.tick < end
  later = elim moved.first.is [
    | inl at_end ↦ omega (arith, at_end, early)
    | inr some ↦ (let up = (now_at some.0 some.1 some.3).high in let e = some.4 in omega (arith, up, e))
  ]

  -- where a round of some part ends or all end
  ends_there : IsRoundStart whole end
  ends_there = elim moved.first.is [
    | inl at_end ↦ inl at_end
    | inr some ↦
        (let s = some.1 in
        let p = now_at some.0 s some.3 in
        let r = p.round in
        let e : end ≡ r.last * s.part.factor = some.4 ∙ r.end_is in
        let up = later in
        subst (λ (m : ℕ). IsRoundStart whole m) (sym e) (own_begins whole w s.part p.plan p.belongs.part r.last (omega (arith, e, up)) r.round.last))
  ]

  -- so it goes up to the first end
  pub round_now : IsRoundUpTo whole parted.tick end
  round_now = record {
    event = event_now;
    above = later;
    below = moved.first.within;
    quiet = λ m low high.
        quiet_all whole w new parted.part.items parted.like.items covered_now (λ c s at. (now_at c s at).belongs.part) (λ c s at. (now_at c s at).plan) m
        (omega (arith, low))
        (λ c s at z.
        let p = now_at c s at in
        let before = p.low in
        let least = least_at c s at in
        quiet_own whole w s.part p.plan p.belongs.part p.start s.end m s.shows.items p.round (omega (arith, before, low)) (omega (arith, least, high)) z);
    last = ends_there;
  }

  -- it is told what each pack shows in it
  pub shown_now : AreShown whole parted.tick shows
  shown_now = record {
    long = moved.long_shows ∙ b.long;
    each = λ i l. (
        let (c, s, k, at, lk, e) = pack_covered whole w new parted.part.items parted.like.items covered_now (λ c s at. (now_at c s at).belongs.part)
        (λ c s at. (now_at c s at).plan) i l in
        subst (λ (j : ℕ). IsPackOn whole parted.tick j (get_or shows j None)) e ((now_at c s at).told k lk));
  }

  -- and the parts stand where it ends
  pub parts_now : ArePartsAt whole new end shows
  parts_now = record {
    each = λ c s at. (now_at c s at).belongs;
    lawful = λ c s at. (now_at c s at).plan;
    going = λ c s at. (
        let p = now_at c s at in
        let low = p.low in
        let up = later in
        record { start = p.start; before = omega (arith, low, up); after = least_at c s at; round = p.round });
    told = λ c s at k l. (
        let p = now_at c s at in
        pack_once whole parted.tick (get_or s.part.packs.items k 0) (get_or shows (get_or s.part.packs.items k 0) None) (get_or s.shows.items k None)
        (p.told k l)
        (pack_shows whole w s.part p.plan p.belongs.part p.start s.end parted.tick k s.shows.items p.round p.low p.high l));
  }

-- ---- what processors show

-- none is told yet
pub looked_none : (whole : PlanContents) (start end : ℕ) (told : List ℕ) (leaves : List (Option Leaf)) → AreLooked whole start end told 0 leaves leaves
looked_none whole start end told leaves = record { long = refl; each = λ q none l. inr (λ t. (let b = t.1 in absurd (omega (arith, b))), refl) }

-- one more is
pub looked_more : (whole : PlanContents) (start end : ℕ) (told : List ℕ) (n : ℕ) (before after : List (Option Leaf)) (q : ℕ) (shows : Leaf) →
    AreLooked whole start end told n before after → get_or told n 0 ≡ q → q < length after → ((none : Row) → leaf_at whole start end q none ≡ shows) →
    AreLooked whole start end told (n + 1) before (set after q (Some shows))
looked_more whole start end told n before after q shows t at l is = record {
  long = length-set after q (Some shows) ∙ t.long;
  each = λ p none lp. elim (cases_eq p q) [
    | inl same ↦
        inl (ap (λ j. get_or (set after q (Some shows)) j None) same ∙ get_or-set_same after q (Some shows) None l ∙ ap (λ (x : Leaf). Some x) (sym (is none))
        ∙ ap (λ j. Some (leaf_at whole start end j none)) (sym same))
    | inr ne ↦
        (let other : get_or (set after q (Some shows)) p None ≡ get_or after p None = get_or-set_other after q p (Some shows) None ne in
        elim (t.each p none lp) [
          | inl e ↦ inl (other ∙ e)
          | inr a ↦ inr (
            λ m. a.0 (
              m.0,
              (let b = m.1 in elim (cases_eq m.0 n) [
                | inl last ↦ absurd (ne (sym m.2 ∙ ap (λ j. get_or told j 0) last ∙ at))
                | inr ne' ↦ omega (arith, b, ne')
              ]),
              m.2,
            ),
            other ∙ a.1,
          )
        ])
  ];
}

-- where those that aren't told show the same as before, each stands there
pub all_looked : (whole : PlanContents) (tick end : ℕ) (told : List ℕ) (count : ℕ) (before after : List (Option Leaf)) → AreLooked whole tick end told count
    before after →
    length before ≡ whole.tree.processors → IsRoundStart whole tick → tick ≤ stop_of whole →
    ((start : ℕ) → IsRoundUpTo whole start tick → IsAllTold whole start tick before) →
    (tick ≡ 0 → (q : ℕ) → q < whole.tree.processors → IsTold told count q) →
    ((q start : ℕ) (none : Row) → q < whole.tree.processors → (IsTold told count q → ⊥) → IsRoundUpTo whole start tick → leaf_at whole tick end q
    none ≡ leaf_at whole start tick q none) →
    IsAllTold whole tick end after
all_looked whole tick end told count before after looked many begins within was first others = record {
  long = looked.long ∙ many;
  each = λ q none l. elim (looked.each q none (omega (arith, l, many))) [
    | inl e ↦ e
    | inr a ↦ elim (cases_eq tick 0) [
      | inl z ↦ absurd (a.0 (first z q l))
      | inr ne ↦
          (let r = round_before whole tick (omega (arith, ne)) within begins in
          a.1 ∙ (was r.0 r.1).each q none l ∙ ap (λ (x : Leaf). Some x) (sym (others q r.0 none l a.0 r.1)))
    ]
  ];
}

-- ---- at tick 0

-- these are the rounds of the first parts, none of which has gone by
pub record AreFirst (whole : PlanContents) (plans : List PartPlan) (parts : List PartRounds) : Type 0 where
  pub each : (c : ℕ) (r : PartRounds) → slice_get parts c ≡ Some r → IsPartRoundsOf whole r
  pub lawful : (c : ℕ) (r : PartRounds) → slice_get parts c ≡ Some r → IsPlan r.part.plan
  pub begin : (c : ℕ) (r : PartRounds) → slice_get parts c ≡ Some r → r.end ≡ 0
  pub own : (c : ℕ) (r : PartRounds) → slice_get parts c ≡ Some r → slice_get plans c ≡ Some r.part

-- none is
pub no_part : (whole : PlanContents) (plans : List PartPlan) → AreFirst whole plans []
no_part whole plans = record {
  each = λ c r at. absurd (let e : None ≡ Some r = at in cc);
  lawful = λ c r at. absurd (let e : None ≡ Some r = at in cc);
  begin = λ c r at. absurd (let e : None ≡ Some r = at in cc);
  own = λ c r at. absurd (let e : None ≡ Some r = at in cc);
}

-- what stands in a list stands there in a longer one
slice_get_front : {X : Type 0} (xs ys : List X) (c : ℕ) (x : X) → slice_get xs c ≡ Some x → slice_get (xs ++ ys) c ≡ Some x
slice_get_front [] ys c x at = absurd (let e : None ≡ Some x = at in cc)
slice_get_front (y ∷ xs) ys zero x at = at
slice_get_front (y ∷ xs) ys (suc c) x at = slice_get_front xs ys c x at

-- and the new one last
slice_get_last : {X : Type 0} (xs : List X) (x : X) → slice_get (xs ++ x ∷ []) (length xs) ≡ Some x
slice_get_last [] x = refl
slice_get_last (y ∷ xs) x = slice_get_last xs x

-- each item as it is
pub each_same : {X : Type 0} (xs : List X) → map (λ x. x) xs ≡ xs
each_same [] = refl
each_same (x ∷ xs) = ap (λ ys. x ∷ ys) (each_same xs)

-- and so they are with those of the next
pub one_part : (whole : PlanContents) (plans : List PartPlan) (plan : PartPlan) (parts : List PartRounds) (next : PartRounds) → AreFirst whole plans parts →
    length parts ≡ length plans →
    IsPartRoundsOf whole next → IsPlan next.part.plan → next.end ≡ 0 → next.part ≡ plan → AreFirst whole (plans ++ plan ∷ []) (parts ++ next ∷ [])
one_part whole plans plan parts next are long is lawful zero_end own = record {
  each = λ c r at. elim (slice_get-push parts next r c at)
      [ inl before ↦ are.each c r before.1 | inr last ↦ subst (λ (x : PartRounds). IsPartRoundsOf whole x) last.1 is ];
  lawful = λ c r at. elim (slice_get-push parts next r c at)
      [ inl before ↦ are.lawful c r before.1 | inr last ↦ subst (λ (x : PartRounds). IsPlan x.part.plan) last.1 lawful ];
  begin = λ c r at. elim (slice_get-push parts next r c at)
      [ inl before ↦ are.begin c r before.1 | inr last ↦ subst (λ (x : PartRounds). x.end ≡ 0) last.1 zero_end ];
  own = λ c r at. elim (slice_get-push parts next r c at) [
    | inl before ↦ slice_get_front plans (plan ∷ []) c r.part (are.own c r before.1)
    | inr last ↦ ap (slice_get (plans ++ plan ∷ [])) (last.0 ∙ long) ∙ slice_get_last plans plan ∙ ap (λ (x : PartPlan). Some x) (sym own)
        ∙ ap (λ (x : PartRounds). Some x.part) last.1
  ];
}

-- so those of all parts are the rounds of the plan by its parts
pub first_parted : (whole : PlanContents) (found : PartPlans) → ArePartPlansOf whole found → (parted : Parted) → AllByRecursion (λ t. t.offset ≡ 0)
    whole.set.tasks → parted.tick ≡ 0 →
    length parted.parts.items ≡ length found.parts.items → parted.part ≡ found.part → parted.like ≡ found.like → AreFirst whole found.parts.items
    parted.parts.items →
    length parted.shows.items ≡ packs_of whole → IsPlacedUpTo whole 0 parted.placed → IsPartedOf whole parted
first_parted whole found is parted on_time first many part like are long placed =
    let part_at : (x : ℕ) → get_or parted.part.items x 0 ≡ get_or found.part.items x 0 = (λ x. ap (λ (v : _). get_or v.items x 0) part) in
    let like_at : (x : ℕ) → get_or parted.like.items x 0 ≡ get_or found.like.items x 0 = (λ x. ap (λ (v : _). get_or v.items x 0) like) in
    let own : (x : ℕ) (s : PartRounds) → slice_get parted.parts.items (get_or parted.part.items x 0) ≡ Some s → slice_get found.parts.items
    (get_or found.part.items x 0) ≡ Some s.part =
    (λ x s at. ap (slice_get found.parts.items) (sym (part_at x)) ∙ are.own (get_or parted.part.items x 0) s at) in
    record {
      on_time = on_time;
      covered = record {
        within = λ x l. (let a = is.within x l in let e = part_at x in omega (arith, a, e, many));
        known = λ x s l at. (let a = is.known x s.part l (own x s at) in let e = like_at x in omega (arith, a, e));
        likes = λ x s l at. ap (onto_of s.part) (like_at x) ∙ is.likes x s.part l (own x s at);
      };
      each = are.each;
      lawful = are.lawful;
      going = λ c s at. inl (first, are.begin c s at);
      told = λ c s at later. absurd (later first);
      long = long;
      event = inr (ap (event_at whole) first ∙ event_first whole);
      within = omega (arith, first);
      placed = subst (λ (n : ℕ). IsPlacedUpTo whole n parted.placed) (sym first) placed;
    }
