-- The rounds of one part go on, computed or kept.
use Rattle.std.proofs.Common.{◌≡◌, ℕ, zero, suc, ◌+◌, ◌*◌, ◌<◌, ◌≤◌, ◌^◌, inl, inr, min, List, [], ◌∷◌, length, get_or, Option, None, Vec, Global}
use Rattle.std.proofs.Common.{true, false, refl, sym, ap, subst, ◌∙◌, arith, mul-le-mul_right, le_of_lt}
use Rattle.std.specs.Vec.{with_items}
use Rattle.std.proofs.Math.Nat.{lt_of_mul-lt-mul_right}
use Rattle.std.proofs.lemmas.Bool.{cases_lt}
use Rattle.std.proofs.lemmas.List.{with_items_is}
use Rattle.sched_base.specs.declared.rows.Leaf.{Leaf}
use Rattle.run_tree.specs.Plans.{IsPlan, PlanContents, stop_of}
use Rattle.run_tree.specs.Tree.{IsPack}
use Rattle.run_tree.proofs.TreeLemmas.{first_is_pack}
use Rattle.hyperperiod_laws.proofs.LaterRuns.{runs_again}
use Rattle.event_core.specs.Cores.{CoreContents, IsCoreOf, runs_at}
use Rattle.event_core.specs.Rounds.{IsRoundUpTo, event_at}
use Rattle.event_core.proofs.NextCores.{event_first}
use Rattle.event_core.proofs.PlanRounds.{stop_fits}
use Rattle.part_plans.specs.declared.parts.PartPlan.{PartPlan}
use Rattle.part_plans.specs.PartPlans.{IsPartPlanOf}
use Rattle.merged_rounds.specs.Laps.{AreTurns, CanComeRound, round_start}
use Rattle.merged_rounds.specs.Replays.{packs_of}
use Rattle.merged_rounds.proofs.LapLemmas.{early, next_round_at, recurs, turns_more}
use Rattle.part_rounds.specs.declared.sources.PartRounds.{PartRounds}
use Rattle.part_rounds.specs.PartRounds.{AreAgain, AreKeptOf, IsKeptRound, IsPartRound, IsPartRoundsOf, IsShownAt, kept_at, kept_end, own_member, own_pack}

-- ---- ticks of the whole plan and of a part's own one

-- so many longer ticks are as many as those that are as long
ticks_same : (f a b : ℕ) → 1 ≤ f → a * f ≡ b * f → a ≡ b
ticks_same f a b some same = elim (cases_lt a b) [
  | inl low ↦ absurd (let m : (a + 1) * f ≤ b * f = mul-le-mul_right f (omega (arith, low)) in omega (arith, m, same, some))
  | inr high ↦ elim (cases_lt b a) [
    | inl low ↦ absurd (let m : (b + 1) * f ≤ a * f = mul-le-mul_right f (omega (arith, low)) in omega (arith, m, same, some))
    | inr low ↦ omega (arith, high, low)
  ]
]

-- the earlier of two is the earlier one where ticks are longer
min_ticks : (f a b : ℕ) → min (a * f) (b * f) ≡ min a b * f
min_ticks f a b = elim (cases_lt a b) [
  | inl low ↦ (let m : a * f ≤ b * f = mul-le-mul_right f (le_of_lt low) in let e : a ≡ min a b = omega (arith, low) in let e' = ap (λ n. n * f) e in
      omega (arith, m, e'))
  | inr high ↦ (let m : b * f ≤ a * f = mul-le-mul_right f high in let e : b ≡ min a b = omega (arith, high) in let e' = ap (λ n. n * f) e in
      omega (arith, m, e'))
]

-- all rounds end at the same time
pub stop_part : (whole : PlanContents) (part : PartPlan) → IsPartPlanOf whole part → stop_of whole ≡ stop_of part.plan * part.factor
stop_part whole part is =
    let e = ap (λ n. whole.set.horizon * n) is.part.scale in
    let e' = ap (λ n. n * (part.factor * part.plan.tree.scale)) is.part.horizon in
    omega (arith, e, e')

-- what ends before all rounds does so in either
pub early_part : (whole : PlanContents) (part : PartPlan) → IsPartPlanOf whole part → (n : ℕ) → n * part.factor < stop_of whole → n < stop_of part.plan
early_part whole part is n l = let e = stop_part whole part is in lt_of_mul-lt-mul_right part.factor (let l' : n * part.factor < stop_of
    part.plan * part.factor = omega (arith, l, e) in l')

-- nor does what ends with them end later in either
pub within_part : (whole : PlanContents) (part : PartPlan) → IsPartPlanOf whole part → (n : ℕ) → n ≤ stop_of part.plan → n * part.factor ≤ stop_of whole
within_part whole part is n l =
    let e = stop_part whole part is in
    let m : n * part.factor ≤ stop_of part.plan * part.factor = mul-le-mul_right part.factor l in
    omega (arith, m, e)

-- such ticks fit
pub ticks_fit : (whole : PlanContents) (part : PartPlan) → IsPartPlanOf whole part → IsPlan whole → (n : ℕ) → n ≤ stop_of part.plan → n * part.factor < 2 ^ 127
ticks_fit whole part is w n l = let m = within_part whole part is n l in let fits = stop_fits whole w in omega (arith, m, fits)

-- a list as long as a vector's elements that is written over them is all of them
pub written : {X : Type 0} (v : Vec X Global) (new : List X) → length new ≡ length v.items → (with_items v new).items ≡ new
written v new same = with_items_is v new (let ok = v.ok.0 in omega (arith, same, ok))

-- ---- what a part's core computes

-- a core that moved on computes them on
pub computed_on : (whole : PlanContents) (r : PartRounds) → IsPartRoundsOf whole r → r.replays ≡ false → (core : CoreContents) → IsCoreOf r.part.plan core →
    (end : ℕ) (shows : Vec (Option Leaf) Global) → length shows.items ≡ packs_of r.part.plan → end ≡ core.tick * r.part.factor →
    IsPartRoundsOf whole (record r { core = core; end = end; shows = shows })
computed_on whole r b off core belongs end shows long at = record {
  part = b.part;
  stop = b.stop;
  early = (let m = within_part whole r.part b.part core.tick belongs.at.early in omega (arith, m, at));
  long = long;
  computed = λ z. record { belongs = belongs; at = at };
  again = λ on. absurd (let e : true ≡ false = sym on ∙ off in cc);
}

-- ---- what comes again

-- what is read where something stands is the same by any default
read_at : {X : Type 0} (xs : List X) (i : ℕ) (d e : X) → i < length xs → get_or xs i d ≡ get_or xs i e
read_at [] i d e l = absurd (omega (arith, l))
read_at (x ∷ xs) zero d e l = refl
read_at (x ∷ xs) (suc i) d e l = read_at xs i d e (omega (arith, l))

-- so is what was read there
pub was_read : {X : Type 0} (xs : List X) (i : ℕ) (d x : X) → i < length xs → x ≡ get_or xs i x → x ≡ get_or xs i d
was_read xs i d x l is = is ∙ read_at xs i x d l

-- a hyperperiod has ticks
turns_some : (p : PlanContents) → IsPlan p → (ticks : ℕ) → AreTurns p ticks → 0 < ticks
turns_some p h ticks turns =
    let some = turns.some in
    let scaled = h.tree.tree.scaled in
    let are = turns.are in
    let m : 1 * p.tree.scale ≤ turns.units * p.tree.scale = mul-le-mul_right p.tree.scale some in
    omega (arith, m, are, scaled)

-- kept rounds that end after tick 0 are some
some_kept : (ends : List ℕ) → 0 < round_start 0 ends (length ends) → 0 < length ends
some_kept [] l = absurd (omega (arith, l))
some_kept (end ∷ ends) l = omega arith

-- behind round i the next one begins
behind_round : (ends : List ℕ) (i : ℕ) → round_start 0 ends (i + 1) ≡ get_or ends i 0
behind_round ends i = let e : i + 1 ≡ suc i = omega arith in ap (round_start 0 ends) e

-- what runs in a round runs so many hyperperiods later
runs_later : (p : PlanContents) → IsPlan p → CanComeRound p → (ticks : ℕ) → AreTurns p ticks → (n : ℕ) → n + ticks < stop_of p → (x : ℕ) →
    x < length p.tree.nodes →
    runs_at p x (n + ticks) ≡ runs_at p x n
runs_later p h can ticks turns n l x in_tree =
    ap (λ d. runs_at p x (n + d)) turns.are
    ∙ runs_again p.set.tasks p.tree turns.units 0 (recurs p h can ticks turns n l) n x (omega arith) (early p h can ticks turns n l) in_tree

-- so the same is shown of packs
shown_later : (part : PartPlan) → IsPlan part.plan → CanComeRound part.plan → (ticks : ℕ) → AreTurns part.plan ticks → (n : ℕ) → n + ticks < stop_of part.plan →
    (k : ℕ) → k < packs_of part.plan → (o : Option Leaf) → IsShownAt part n k o → IsShownAt part (n + ticks) k o
shown_later part h can ticks turns n l k m o was =
    let pack : IsPack part.plan.tree (own_pack part k) = first_is_pack part.plan.tree h.tree.tree k m in
    let same = runs_later part.plan h can ticks turns n l (own_pack part k) pack.0 in
    record {
      none = λ e. same ∙ was.none e;
      on = λ leaf e. same ∙ was.on leaf e;
      leaf = λ leaf j e lj on.
          let member = h.tree.tree.members_are (own_pack part k) j pack lj in
          was.leaf leaf j e lj (sym (runs_later part.plan h can ticks turns n l (own_member part k j) member.0.0) ∙ on);
    }

module _ (whole : PlanContents) (r : PartRounds) (b : IsPartRoundsOf whole r) (on : r.replays ≡ true) (soon : r.end < stop_of whole)
    (h : IsPlan r.part.plan) where
  -- how they come again
  abbrev again : AreAgain r
  again = b.again on

  -- the kept round that comes next
  abbrev kept : IsKeptRound r.part r.kept r.next
  kept = again.kept.each r.next again.next

  -- what is kept of it is there
  pub shows_within : r.next * packs_of r.part.plan + packs_of r.part.plan ≤ length r.kept.shows.items
  shows_within =
      let next = again.next in
      let long = again.kept.long in
      let m : (r.next + 1) * packs_of r.part.plan ≤ length r.kept.ends.items * packs_of r.part.plan = mul-le-mul_right (packs_of r.part.plan)
      (omega (arith, next)) in
      omega (arith, m, long)

  -- it begins before all rounds end
  begins_at : r.end ≡ round_start 0 r.kept.ends.items r.next + r.shift
  begins_at = let at = again.at in let stop = b.stop in omega (arith, at, stop, soon)

  -- so it does in ticks of the part's plan
  begins_part : again.now ≡ kept.first + again.past
  begins_part =
      let at = begins_at in
      let now = again.now_is in
      let start = kept.start_is in
      let shift = again.shift_is in
      ticks_same r.part.factor again.now (kept.first + again.past) b.part.part.some (omega (arith, at, now, start, shift))

  -- before all rounds of that end
  soon_part : kept.first + again.past < stop_of r.part.plan
  soon_part =
      let now = again.now_is in
      let e = begins_part in
      let l = early_part whole r.part b.part again.now (omega (arith, now, soon)) in
      omega (arith, l, e)

  -- at an event
  event_part : event_at r.part.plan (kept.first + again.past) ≡ true
  event_part = elim again.begins [
    | inl over ↦ absurd (let l = soon_part in let e = begins_part in omega (arith, over, l, e))
    | inr event ↦ ap (event_at r.part.plan) (sym begins_part) ∙ event
  ]

  -- the tick of the part's plan at which it ends
  abbrev last : ℕ
  last = min (kept.last + again.past) (stop_of r.part.plan)

  -- from there on goes a round of the part
  round_part : IsRoundUpTo r.part.plan (kept.first + again.past) last
  round_part = elim again.shifts [
    | inl none ↦
        (let below = kept.round.below in
        let start : kept.first ≡ kept.first + again.past = omega (arith, none) in
        let end : kept.last ≡ last = omega (arith, none, below) in
        subst (λ (n : ℕ). IsRoundUpTo r.part.plan n last) start (subst (λ (n : ℕ). IsRoundUpTo r.part.plan kept.first n) end kept.round))
    | inr turns ↦ next_round_at r.part.plan h again.can again.past turns kept.first kept.last event_part soon_part kept.round
  ]

  -- in it the same is shown as in the kept one
  shown_part : (k : ℕ) → k < packs_of r.part.plan → IsShownAt r.part (kept.first + again.past) k (kept_at r.part r.kept r.next k)
  shown_part k m = elim again.shifts [
    | inl none ↦ (let e : kept.first ≡ kept.first + again.past = omega (arith, none) in subst (λ (n : ℕ). IsShownAt r.part n k (kept_at r.part r.kept r.next
        k)) e (kept.each k m))
    | inr turns ↦ shown_later r.part h again.can again.past turns kept.first soon_part k m (kept_at r.part r.kept r.next k) (kept.each k m)
  ]

  -- and it ends where the kept one does so much later, or with all rounds
  ends_at : min (get_or r.kept.ends.items r.next 0 + r.shift) r.stop ≡ last * r.part.factor
  ends_at =
      let end = kept.end_is in
      let shift = again.shift_is in
      let stop = b.stop in
      let stop' = stop_part whole r.part b.part in
      let m = min_ticks r.part.factor (kept.last + again.past) (stop_of r.part.plan) in
      omega (arith, end, shift, stop, stop', m)

  -- it is a round of the part
  pub again_round : (end : ℕ) (shows : List (Option Leaf)) → end ≡ min (get_or r.kept.ends.items r.next 0 + r.shift) r.stop → length shows ≡ packs_of
      r.part.plan →
      ((k : ℕ) → k < packs_of r.part.plan → get_or shows k None ≡ kept_at r.part r.kept r.next k) → IsPartRound r.part r.end end shows
  again_round end shows at long is = record {
    first = kept.first + again.past;
    last = last;
    round = round_part;
    start_is = again.now_is ∙ ap (λ n. n * r.part.factor) begins_part;
    end_is = at ∙ ends_at;
    long = long;
    each = λ k m. subst (λ (o : Option Leaf). IsShownAt r.part (kept.first + again.past) k o) (sym (is k m)) (shown_part k m);
  }

  -- so it is where what is kept of it is written over what was told
  module _ (end : ℕ) (at : end ≡ min (get_or r.kept.ends.items r.next 0 + r.shift) r.stop) (count : ℕ) (many : count ≡ packs_of r.part.plan)
      (kept_shows shows new : List (Option Leaf))
      (kept_is : kept_shows ≡ r.kept.shows.items) (was : shows ≡ r.shows.items) (same : length new ≡ length shows)
      (each : (k : ℕ) → k < length shows → get_or new k None ≡ get_or kept_shows (r.next * count + k) None) where
    pub written_long : length new ≡ packs_of r.part.plan
    written_long = same ∙ ap (λ (xs : List (Option Leaf)). length xs) was ∙ b.long

    pub written_is : (with_items r.shows new).items ≡ new
    written_is = written r.shows new (same ∙ ap (λ (xs : List (Option Leaf)). length xs) was)

    pub written_vec_long : length (with_items r.shows new).items ≡ packs_of r.part.plan
    written_vec_long = ap (λ (xs : List (Option Leaf)). length xs) written_is ∙ written_long

    pub written_round : IsPartRound r.part r.end end (with_items r.shows new).items
    written_round =
        subst (λ (xs : List (Option Leaf)). IsPartRound r.part r.end end xs) (sym written_is)
        (again_round end new at written_long
        (λ k m.
        each k (let long = written_long in omega (arith, m, long, same))
        ∙ ap (λ n. get_or kept_shows (r.next * n + k) None) many
        ∙ ap (λ (xs : List (Option Leaf)). get_or xs (r.next * packs_of r.part.plan + k) None) kept_is))

  -- the kept one ends no later than all rounds
  end_within : get_or r.kept.ends.items r.next 0 ≤ stop_of whole
  end_within = let end = kept.end_is in let m = within_part whole r.part b.part kept.last kept.round.below in omega (arith, end, m)

  -- its end fits
  pub end_fits : IsPlan whole → get_or r.kept.ends.items r.next 0 + r.shift < 2 ^ 128
  end_fits w =
      let fits = stop_fits whole w in
      let at = begins_at in
      let m = end_within in
      omega (arith, fits, at, m, soon)

  -- behind the last of them a hyperperiod is over
  over : (r.next + 1 < length r.kept.ends.items → ⊥) → r.turn ≡ get_or r.kept.ends.items r.next 0
  over all =
      let next = again.next in
      let e : length r.kept.ends.items ≡ r.next + 1 = omega (arith, next, all) in
      again.turn_end ∙ ap (round_start 0 r.kept.ends.items) e ∙ behind_round r.kept.ends.items r.next

  -- and so does the shift then
  pub shift_fits : IsPlan whole → (r.next + 1 < length r.kept.ends.items → ⊥) → r.shift + r.turn < 2 ^ 128
  shift_fits w all =
      let fits = end_fits w in
      let e = over all in
      omega (arith, fits, e)

  module _ (end : ℕ) (shows : Vec (Option Leaf) Global) (long : length shows.items ≡ packs_of r.part.plan) (at : end ≡ min (get_or r.kept.ends.items r.next
      0 + r.shift) r.stop) where
    -- it ends no later than all rounds
    ends_within : end ≤ stop_of whole
    ends_within = let stop = b.stop in omega (arith, at, stop)

    -- behind it comes the next of them
    pub again_next : r.next + 1 < length r.kept.ends.items → IsPartRoundsOf whole (record r { next = r.next + 1; end = end; shows = shows })
    again_next more = record {
      part = b.part;
      stop = b.stop;
      early = ends_within;
      long = long;
      computed = λ off. absurd (let e : true ≡ false = sym on ∙ off in cc);
      again = λ z. record {
        can = again.can;
        kept = again.kept;
        turn = again.turn;
        turn_end = again.turn_end;
        turn_is = again.turn_is;
        turns = again.turns;
        past = again.past;
        shift_is = again.shift_is;
        shifts = again.shifts;
        next = more;
        at = (let e = behind_round r.kept.ends.items r.next in omega (arith, at, e));
        now = last;
        now_is = at ∙ ends_at;
        begins = round_part.last;
      };
    }

    -- and behind the last one the first again
    pub again_first : (r.next + 1 < length r.kept.ends.items → ⊥) →
        IsPartRoundsOf whole (record r { next = 0; shift = r.shift + r.turn; end = end; shows = shows })
    again_first all = record {
      part = b.part;
      stop = b.stop;
      early = ends_within;
      long = long;
      computed = λ off. absurd (let e : true ≡ false = sym on ∙ off in cc);
      again = λ z. record {
        can = again.can;
        kept = again.kept;
        turn = again.turn;
        turn_end = again.turn_end;
        turn_is = again.turn_is;
        turns = again.turns;
        past = again.past + again.turn;
        shift_is = (let shift = again.shift_is in let turn = again.turn_is in omega (arith, shift, turn));
        shifts = inr (elim again.shifts [
          | inl none ↦ (let e : again.turn ≡ again.past + again.turn = omega (arith, none) in subst (λ (n : ℕ). AreTurns r.part.plan n) e again.turns)
          | inr turns ↦ turns_more r.part.plan again.past again.turn turns again.turns
        ]);
        next = (let next = again.next in omega (arith, next));
        at = (let e = over all in let zero_start : round_start 0 r.kept.ends.items 0 ≡ 0 = refl in omega (arith, at, e, zero_start));
        now = last;
        now_is = at ∙ ends_at;
        begins = round_part.last;
      };
    }

-- they begin again at tick 0
pub again_begins : (whole : PlanContents) (r : PartRounds) → IsPartPlanOf whole r.part → IsPlan r.part.plan → CanComeRound r.part.plan → (turn : ℕ) →
    AreTurns r.part.plan turn →
    AreKeptOf r.part r.kept → kept_end r.kept ≡ turn * r.part.factor → length r.shows.items ≡ packs_of r.part.plan →
    r.replays ≡ true → r.next ≡ 0 → r.shift ≡ 0 → r.turn ≡ turn * r.part.factor → r.stop ≡ stop_of whole → r.end ≡ 0 →
    IsPartRoundsOf whole r
again_begins whole r part h can turn turns kept kept_is long on next shift turn_is stop end = record {
  part = part;
  stop = stop;
  early = omega (arith, end);
  long = long;
  computed = λ off. absurd (let e : true ≡ false = sym on ∙ off in cc);
  again = λ z. record {
    can = can;
    kept = kept;
    turn = turn;
    turn_end = turn_is ∙ sym kept_is;
    turn_is = turn_is;
    turns = turns;
    past = 0;
    shift_is = (let none : 0 * r.part.factor ≡ 0 = omega arith in omega (arith, shift, none));
    shifts = inl refl;
    next = (
        let some = turns_some r.part.plan h turn turns in
        let factor = part.part.some in
        let m : 1 * r.part.factor ≤ turn * r.part.factor = mul-le-mul_right r.part.factor some in
        let l = some_kept r.kept.ends.items (omega (arith, m, factor, kept_is)) in
        omega (arith, l, next));
    at = (
        let begins : round_start 0 r.kept.ends.items r.next ≡ 0 = ap (round_start 0 r.kept.ends.items) next in
        omega (arith, begins, shift, end));
    now = 0;
    now_is = (let none : 0 * r.part.factor ≡ 0 = omega arith in omega (arith, end, none));
    begins = inr (event_first r.part.plan);
  };
}

-- what is below is at most that
pub up_to : (n m : ℕ) → n < m → n ≤ m
up_to n m l = omega arith
