-- The rounds of one processor go on, computed or kept.
use Rattle.std.proofs.Common.{◌≡◌, ℕ, zero, suc, ◌+◌, ◌*◌, ◌<◌, ◌≤◌, ◌^◌, inl, inr, min, List, [], ◌∷◌, length, get_or, true, false, refl, sym, ap}
use Rattle.std.proofs.Common.{subst, ◌∙◌, arith, mul-le-mul_right, le_of_lt}
use Rattle.std.proofs.Math.Nat.{lt_of_mul-lt-mul_right}
use Rattle.std.proofs.lemmas.Bool.{cases_lt}
use Rattle.sched_base.specs.declared.rows.Leaf.{Leaf}
use Rattle.sched_base.specs.declared.rows.Leaf.TheVariants.{Empty}
use Rattle.run_tree.specs.Plans.{IsPlan, PlanContents, stop_of}
use Rattle.hyperperiod_laws.proofs.LaterRuns.{runs_again}
use Rattle.event_core.specs.Cores.{CoreContents, IsCoreOf, runs_at}
use Rattle.event_core.specs.Rounds.{IsRoundUpTo, event_at}
use Rattle.event_core.proofs.NextCores.{event_first}
use Rattle.event_core.proofs.PlanRounds.{stop_fits}
use Rattle.partition_laws.specs.Partitions.{first_pack, member_of}
use Rattle.partition_laws.proofs.FlatTrees.{is_first}
use Rattle.own_plans.specs.declared.owns.OwnPlan.{OwnPlan}
use Rattle.own_plans.specs.OwnPlans.{IsOwnPlanOf}
use Rattle.merged_rounds.specs.Laps.{AreTurns, CanComeRound, round_start}
use Rattle.merged_rounds.proofs.LapLemmas.{early, next_round_at, recurs, turns_more}
use Rattle.partition_rounds.specs.declared.own_rounds.OwnRounds.{OwnRounds}
use Rattle.partition_rounds.specs.OwnRounds.{AreAgain, AreKeptOf, IsOwnRound, IsOwnRoundsOf, kept_end}

-- ---- ticks of the whole plan and of an own one

-- so many longer ticks are as many as those that are as long
ticks_same : (f a b : ℕ) → 1 ≤ f → a * f ≡ b * f → a ≡ b
ticks_same f a b some same = elim (cases_lt a b) [
  | inl low ↦ absurd (let m : (a + 1) * f ≤ b * f = mul-le-mul_right f (omega (arith, low)) in omega (arith, m, same, some))
  | inr high ↦ elim (cases_lt b a) [
    | inl low ↦ absurd (let m : (b + 1) * f ≤ a * f = mul-le-mul_right f (omega (arith, low)) in omega (arith, m, same, some))
    | inr low ↦ omega (arith, high, low)
  ]
]

-- the earlier of two is the earlier one where ticks are longer
min_ticks : (f a b : ℕ) → min (a * f) (b * f) ≡ min a b * f
min_ticks f a b = elim (cases_lt a b) [
  | inl low ↦ (let m : a * f ≤ b * f = mul-le-mul_right f (le_of_lt low) in let e : a ≡ min a b = omega (arith, low) in let e' = ap (λ n. n * f) e in
      omega (arith, m, e'))
  | inr high ↦ (let m : b * f ≤ a * f = mul-le-mul_right f high in let e : b ≡ min a b = omega (arith, high) in let e' = ap (λ n. n * f) e in
      omega (arith, m, e'))
]

-- all rounds end at the same time
pub stop_own : (whole : PlanContents) (q : ℕ) (own : OwnPlan) → IsOwnPlanOf whole q own → stop_of whole ≡ stop_of own.plan * own.factor
stop_own whole q own is =
    let e = ap (λ n. whole.set.horizon * n) is.own.scale in
    let e' = ap (λ n. n * (own.factor * own.plan.tree.scale)) is.own.horizon in
    omega (arith, e, e')

-- what ends before all rounds does so in either
pub early_own : (whole : PlanContents) (q : ℕ) (own : OwnPlan) → IsOwnPlanOf whole q own → (n : ℕ) → n * own.factor < stop_of whole → n < stop_of own.plan
early_own whole q own is n l = let e = stop_own whole q own is in lt_of_mul-lt-mul_right own.factor (let l' : n * own.factor < stop_of
    own.plan * own.factor = omega (arith, l, e) in l')

-- nor does what ends with them end later in either
pub within_own : (whole : PlanContents) (q : ℕ) (own : OwnPlan) → IsOwnPlanOf whole q own → (n : ℕ) → n ≤ stop_of own.plan → n * own.factor ≤ stop_of whole
within_own whole q own is n l =
    let e = stop_own whole q own is in
    let m : n * own.factor ≤ stop_of own.plan * own.factor = mul-le-mul_right own.factor l in
    omega (arith, m, e)

-- such ticks fit
pub ticks_fit : (whole : PlanContents) (q : ℕ) (own : OwnPlan) → IsOwnPlanOf whole q own → IsPlan whole → (n : ℕ) → n ≤ stop_of own.plan →
    n * own.factor < 2 ^ 127
ticks_fit whole q own is w n l = let m = within_own whole q own is n l in let fits = stop_fits whole w in omega (arith, m, fits)

-- ---- what an own plan's core computes

-- a core that moved on computes them on
pub computed_on : (whole : PlanContents) (q : ℕ) (r : OwnRounds) → IsOwnRoundsOf whole q r → r.replays ≡ false → (core : CoreContents) →
    IsCoreOf r.own.plan core →
    (end : ℕ) (shows : Leaf) → end ≡ core.tick * r.own.factor → IsOwnRoundsOf whole q (record r { core = core; end = end; shows = shows })
computed_on whole q r b off core belongs end shows at = record {
  own = b.own;
  stop = b.stop;
  early = (let m = within_own whole q r.own b.own core.tick belongs.at.early in omega (arith, m, at));
  computed = λ z. record { belongs = belongs; at = at };
  again = λ on. absurd (let e : true ≡ false = sym on ∙ off in cc);
}

-- ---- what comes again

-- what is read where something stands is the same by any default
read_at : {X : Type 0} (xs : List X) (i : ℕ) (d e : X) → i < length xs → get_or xs i d ≡ get_or xs i e
read_at [] i d e l = absurd (omega (arith, l))
read_at (x ∷ xs) zero d e l = refl
read_at (x ∷ xs) (suc i) d e l = read_at xs i d e (omega (arith, l))

-- so is what was read there
pub was_read : {X : Type 0} (xs : List X) (i : ℕ) (d x : X) → i < length xs → x ≡ get_or xs i x → x ≡ get_or xs i d
was_read xs i d x l is = is ∙ read_at xs i x d l

-- a hyperperiod has ticks
turns_some : (p : PlanContents) → IsPlan p → (ticks : ℕ) → AreTurns p ticks → 0 < ticks
turns_some p h ticks turns =
    let some = turns.some in
    let scaled = h.tree.tree.scaled in
    let are = turns.are in
    let m : 1 * p.tree.scale ≤ turns.units * p.tree.scale = mul-le-mul_right p.tree.scale some in
    omega (arith, m, are, scaled)

-- kept rounds that end after tick 0 are some
some_kept : (ends : List ℕ) → 0 < round_start 0 ends (length ends) → 0 < length ends
some_kept [] l = absurd (omega (arith, l))
some_kept (end ∷ ends) l = omega arith

-- behind round i the next one begins
behind_round : (ends : List ℕ) (i : ℕ) → round_start 0 ends (i + 1) ≡ get_or ends i 0
behind_round ends i = let e : i + 1 ≡ suc i = omega arith in ap (round_start 0 ends) e

-- what runs in a round runs so many hyperperiods later
runs_later : (p : PlanContents) → IsPlan p → CanComeRound p → (ticks : ℕ) → AreTurns p ticks → (n : ℕ) → n + ticks < stop_of p → (x : ℕ) →
    x < length p.tree.nodes →
    runs_at p x (n + ticks) ≡ runs_at p x n
runs_later p h can ticks turns n l x in_tree =
    ap (λ d. runs_at p x (n + d)) turns.are
    ∙ runs_again p.set.tasks p.tree turns.units 0 (recurs p h can ticks turns n l) n x (omega arith) (early p h can ticks turns n l) in_tree

module _ (whole : PlanContents) (q : ℕ) (r : OwnRounds) (b : IsOwnRoundsOf whole q r) (on : r.replays ≡ true) (soon : r.end < stop_of whole)
    (h : IsPlan r.own.plan) where
  -- how they come again
  abbrev again : AreAgain r
  again = b.again on

  -- the kept round that comes next
  abbrev kept : IsOwnRound r.own (round_start 0 r.kept.ends.items r.next) (get_or r.kept.ends.items r.next 0) (get_or r.kept.shows.items r.next Empty)
  kept = again.kept.each r.next again.next

  -- it begins before all rounds end
  begins_at : r.end ≡ round_start 0 r.kept.ends.items r.next + r.shift
  begins_at = let at = again.at in let stop = b.stop in omega (arith, at, stop, soon)

  -- so it does in ticks of the own plan
  begins_own : again.now ≡ kept.first + again.past
  begins_own =
      let at = begins_at in
      let now = again.now_is in
      let start = kept.start_is in
      let shift = again.shift_is in
      ticks_same r.own.factor again.now (kept.first + again.past) b.own.own.some (omega (arith, at, now, start, shift))

  -- before all rounds of that end
  soon_own : kept.first + again.past < stop_of r.own.plan
  soon_own =
      let now = again.now_is in
      let e = begins_own in
      let l = early_own whole q r.own b.own again.now (omega (arith, now, soon)) in
      omega (arith, l, e)

  -- at an event
  event_own : event_at r.own.plan (kept.first + again.past) ≡ true
  event_own = elim again.begins [
    | inl over ↦ absurd (let l = soon_own in let e = begins_own in omega (arith, over, l, e))
    | inr event ↦ ap (event_at r.own.plan) (sym begins_own) ∙ event
  ]

  -- the tick of the own plan at which it ends
  abbrev last : ℕ
  last = min (kept.last + again.past) (stop_of r.own.plan)

  -- from there on goes a round of the own plan
  round_own : IsRoundUpTo r.own.plan (kept.first + again.past) last
  round_own = elim again.shifts [
    | inl none ↦
        (let below = kept.round.below in
        let start : kept.first ≡ kept.first + again.past = omega (arith, none) in
        let end : kept.last ≡ last = omega (arith, none, below) in
        subst (λ (n : ℕ). IsRoundUpTo r.own.plan n last) start (subst (λ (n : ℕ). IsRoundUpTo r.own.plan kept.first n) end kept.round))
    | inr turns ↦ next_round_at r.own.plan h again.can again.past turns kept.first kept.last event_own soon_own kept.round
  ]

  -- in it runs what runs in the kept one
  runs_own : runs_at r.own.plan (member_of r.own.plan.tree 0 kept.place) (kept.first + again.past) ≡ true
  runs_own = elim again.shifts [
    | inl none ↦ (let e : kept.first + again.past ≡ kept.first = omega (arith, none) in ap (runs_at r.own.plan (member_of r.own.plan.tree 0 kept.place)) e
        ∙ kept.runs)
    | inr turns ↦
        (let t = r.own.plan.tree in
        let one = b.own.own.one in
        let pack = is_first t h.tree.tree b.own.own.root 0 (omega (arith, one)) in
        let member = h.tree.tree.members_are (first_pack t 0) kept.place pack kept.within in
        runs_later r.own.plan h again.can again.past turns kept.first soon_own (member_of t 0 kept.place) member.0.0 ∙ kept.runs)
  ]

  -- and it ends where the kept one does so much later, or with all rounds
  ends_at : min (get_or r.kept.ends.items r.next 0 + r.shift) r.stop ≡ last * r.own.factor
  ends_at =
      let end = kept.end_is in
      let shift = again.shift_is in
      let stop = b.stop in
      let stop' = stop_own whole q r.own b.own in
      let m = min_ticks r.own.factor (kept.last + again.past) (stop_of r.own.plan) in
      omega (arith, end, shift, stop, stop', m)

  -- it is a round of the own plan
  pub again_round : (end : ℕ) (shows : Leaf) → end ≡ min (get_or r.kept.ends.items r.next 0 + r.shift) r.stop → shows ≡ get_or r.kept.shows.items r.next Empty →
      IsOwnRound r.own r.end end shows
  again_round end shows at is = record {
    first = kept.first + again.past;
    last = last;
    round = round_own;
    start_is = again.now_is ∙ ap (λ n. n * r.own.factor) begins_own;
    end_is = at ∙ ends_at;
    place = kept.place;
    within = kept.within;
    runs = runs_own;
    shown = is ∙ kept.shown;
  }

  -- the kept one ends no later than all rounds
  end_within : get_or r.kept.ends.items r.next 0 ≤ stop_of whole
  end_within = let end = kept.end_is in let m = within_own whole q r.own b.own kept.last kept.round.below in omega (arith, end, m)

  -- its end fits
  pub end_fits : IsPlan whole → get_or r.kept.ends.items r.next 0 + r.shift < 2 ^ 128
  end_fits w =
      let fits = stop_fits whole w in
      let at = begins_at in
      let m = end_within in
      omega (arith, fits, at, m, soon)

  -- behind the last of them a hyperperiod is over
  over : (r.next + 1 < length r.kept.ends.items → ⊥) → r.turn ≡ get_or r.kept.ends.items r.next 0
  over all =
      let next = again.next in
      let e : length r.kept.ends.items ≡ r.next + 1 = omega (arith, next, all) in
      again.turn_end ∙ ap (round_start 0 r.kept.ends.items) e ∙ behind_round r.kept.ends.items r.next

  -- and so does the shift then
  pub shift_fits : IsPlan whole → (r.next + 1 < length r.kept.ends.items → ⊥) → r.shift + r.turn < 2 ^ 128
  shift_fits w all =
      let fits = end_fits w in
      let e = over all in
      omega (arith, fits, e)

  module _ (end : ℕ) (shows : Leaf) (at : end ≡ min (get_or r.kept.ends.items r.next 0 + r.shift) r.stop) where
    -- it ends no later than all rounds
    ends_within : end ≤ stop_of whole
    ends_within = let stop = b.stop in omega (arith, at, stop)

    -- behind it comes the next of them
    pub again_next : r.next + 1 < length r.kept.ends.items → IsOwnRoundsOf whole q (record r { next = r.next + 1; end = end; shows = shows })
    again_next more = record {
      own = b.own;
      stop = b.stop;
      early = ends_within;
      computed = λ off. absurd (let e : true ≡ false = sym on ∙ off in cc);
      again = λ z. record {
        can = again.can;
        kept = again.kept;
        turn = again.turn;
        turn_end = again.turn_end;
        turn_is = again.turn_is;
        turns = again.turns;
        past = again.past;
        shift_is = again.shift_is;
        shifts = again.shifts;
        next = more;
        at = (let e = behind_round r.kept.ends.items r.next in omega (arith, at, e));
        now = last;
        now_is = at ∙ ends_at;
        begins = round_own.last;
      };
    }

    -- and behind the last one the first again
    pub again_first : (r.next + 1 < length r.kept.ends.items → ⊥) →
        IsOwnRoundsOf whole q (record r { next = 0; shift = r.shift + r.turn; end = end; shows = shows })
    again_first all = record {
      own = b.own;
      stop = b.stop;
      early = ends_within;
      computed = λ off. absurd (let e : true ≡ false = sym on ∙ off in cc);
      again = λ z. record {
        can = again.can;
        kept = again.kept;
        turn = again.turn;
        turn_end = again.turn_end;
        turn_is = again.turn_is;
        turns = again.turns;
        past = again.past + again.turn;
        shift_is = (let shift = again.shift_is in let turn = again.turn_is in omega (arith, shift, turn));
        shifts = inr (elim again.shifts [
          | inl none ↦ (let e : again.turn ≡ again.past + again.turn = omega (arith, none) in subst (λ (n : ℕ). AreTurns r.own.plan n) e again.turns)
          | inr turns ↦ turns_more r.own.plan again.past again.turn turns again.turns
        ]);
        next = (let next = again.next in omega (arith, next));
        at = (let e = over all in let zero_start : round_start 0 r.kept.ends.items 0 ≡ 0 = refl in omega (arith, at, e, zero_start));
        now = last;
        now_is = at ∙ ends_at;
        begins = round_own.last;
      };
    }

-- they begin again at tick 0
pub again_begins : (whole : PlanContents) (q : ℕ) (r : OwnRounds) → IsOwnPlanOf whole q r.own → IsPlan r.own.plan → CanComeRound r.own.plan → (turn : ℕ) →
    AreTurns r.own.plan turn →
    AreKeptOf r.own r.kept → kept_end r.kept ≡ turn * r.own.factor → r.replays ≡ true → r.next ≡ 0 → r.shift ≡ 0 → r.turn ≡ turn * r.own.factor →
    r.stop ≡ stop_of whole → r.end ≡ 0 →
    IsOwnRoundsOf whole q r
again_begins whole q r own h can turn turns kept kept_is on next shift turn_is stop end = record {
  own = own;
  stop = stop;
  early = omega (arith, end);
  computed = λ off. absurd (let e : true ≡ false = sym on ∙ off in cc);
  again = λ z. record {
    can = can;
    kept = kept;
    turn = turn;
    turn_end = turn_is ∙ sym kept_is;
    turn_is = turn_is;
    turns = turns;
    past = 0;
    shift_is = (let none : 0 * r.own.factor ≡ 0 = omega arith in omega (arith, shift, none));
    shifts = inl refl;
    next = (
        let some = turns_some r.own.plan h turn turns in
        let factor = own.own.some in
        let m : 1 * r.own.factor ≤ turn * r.own.factor = mul-le-mul_right r.own.factor some in
        let l = some_kept r.kept.ends.items (omega (arith, m, factor, kept_is)) in
        omega (arith, l, next));
    at = (
        let begins : round_start 0 r.kept.ends.items r.next ≡ 0 = ap (round_start 0 r.kept.ends.items) next in
        omega (arith, begins, shift, end));
    now = 0;
    now_is = (let none : 0 * r.own.factor ≡ 0 = omega arith in omega (arith, end, none));
    begins = inr (event_first r.own.plan);
  };
}

-- what is below is at most that
pub up_to : (n m : ℕ) → n < m → n ≤ m
up_to n m l = omega arith
