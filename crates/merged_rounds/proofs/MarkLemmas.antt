-- Packs that may show something else than before, by their marks.
use Rattle.std.proofs.Common.{◌≡◌, ℕ, ◌-◌, ◌<◌, ◌≤◌, ◌⊎◌, inl, inr, Bool, true, false, List, [], ◌∷◌, zero, suc, length, get_or, Option, None, Some}
use Rattle.std.proofs.Common.{refl, sym, ap, subst, ◌∙◌, arith}
use Rattle.std.proofs.lemmas.Bool.{both_ways}
use Rattle.sched_base.specs.declared.rows.Leaf.{Leaf}
use Rattle.sched_base.specs.declared.rows.Leaf.TheVariants.{Empty}
use Rattle.sched_base.specs.declared.rows.Row.{Row}
use Rattle.sched_base.specs.Places.{is_held}
use Rattle.run_tree.specs.Boundaries.{set_boundary}
use Rattle.run_tree.specs.Plans.{IsPlan, PlanContents}
use Rattle.run_tree.specs.Schedule.{onto_at}
use Rattle.run_tree.proofs.ScheduleLemmas.{length-places}
use Rattle.event_core.specs.Cores.{places_of}
use Rattle.event_core.specs.Rounds.{IsRoundUpTo}
use Rattle.event_core.proofs.RowsGone.{as_many, pack_within}
use Rattle.event_core.proofs.SettledPacks.{same_start}
use Rattle.merged_rounds.specs.Changes.{IsNone}
use Rattle.merged_rounds.specs.declared.turns.Turn.{Turn}
use Rattle.merged_rounds.specs.Laps.{CanComeRound, IsAllTold, round_start}
use Rattle.merged_rounds.specs.Replays.{AreHolding, AreStill, IsPackOn, IsTurnOf, packs_of, turn_end}
use Rattle.merged_rounds.proofs.ChangeLemmas.{among}
use Rattle.merged_rounds.proofs.ReplayLemmas.{leaf_of, onto_end}
use Rattle.merged_rounds.proofs.ReplaySteps.{held_by, held_there}

-- from a later pack on, where what those show is the same
pub still_later : (onto : List (Option ℕ)) (leaves shows shows' : List (Option Leaf)) (marks : List Bool) (from : ℕ) → length shows' ≡ length shows →
    ((k : ℕ) → from ≤ k → get_or shows' k None ≡ get_or shows k None) →
    AreStill onto leaves shows marks 0 → AreStill onto leaves shows' marks from
still_later onto leaves shows shows' marks from long same s = record {
  none = λ k low l off free. same k low ∙ s.none k (omega arith) (omega (arith, l, long)) off free;
  some = λ k q low l off at. same k low ∙ s.some k q (omega arith) (omega (arith, l, long)) off at;
}

-- a pack stands on a processor of the list
pub stands_within : (os : List (Option ℕ)) (q k : ℕ) → get_or os q None ≡ Some k → q < length os
stands_within [] q k e = cc
stands_within (o ∷ os) zero k e = omega arith
stands_within (o ∷ os) (suc q) k e = let l = stands_within os q k e in omega (arith, l)

-- packs that are held before a tick are of level 0
pub packs_held : (p : PlanContents) → IsPlan p → (before start : ℕ) → IsRoundUpTo p before start → (q k : ℕ) → get_or (places_of p start).onto q None ≡ Some
    k → k < packs_of p
packs_held p h before start gone q k at =
    let m = stands_within (places_of p start).onto q k at in
    let many = length-places (set_boundary p.set.tasks) p.tree start in
    pack_within p h before q k (omega (arith, m, many)) (ap (λ (os : List (Option ℕ)). get_or os q None) (sym (onto_end p h before start gone)) ∙ at)

-- so are those of a list that says the same
pub packs_listed : (p : PlanContents) → IsPlan p → (before start : ℕ) → IsRoundUpTo p before start → (holds : List (Option ℕ)) → AreHolding p start holds →
    (q k : ℕ) → get_or holds q None ≡ Some k → k < packs_of p
packs_listed p h before start gone holds holding q k at =
    let m = stands_within holds q k at in
    let many = holding.long in
    packs_held p h before start gone q k (sym (holding.each q (omega (arith, m, many))) ∙ at)

-- ---- what the next round shows of packs without a mark

-- what is kept of the packs that processors hold is so in the next round, where those that are told are noted
module _ (p : PlanContents) (start end : ℕ) (seen changed : List ℕ) (n : ℕ) (many_seen : length seen ≡ n) (same : (k : ℕ) → k < n → get_or seen k 0 ≡ get_or
    changed k 0) (holds holds' : List (Option ℕ)) (holding : AreHolding p start holds)
    (placed : (q : ℕ) → q < p.tree.processors → IsNone changed n q → get_or (places_of p end).onto q None ≡ get_or (places_of p start).onto q None)
    (each : (j : ℕ) → j < length seen → get_or holds' (get_or seen j 0) None ≡ get_or (places_of p end).onto (get_or seen j 0) None)
    (rest : (q : ℕ) → IsNone seen (length seen) q → get_or holds' q None ≡ get_or holds q None) where
  -- one that is none of those told is none of those seen
  pub none_seen : (q : ℕ) → IsNone changed n q → IsNone seen (length seen) q
  none_seen q away k m e = let l : k < n = omega (arith, m, many_seen) in away k l (sym (same k l) ∙ e)

  holds_by : (q : ℕ) → q < p.tree.processors → ((k : ℕ) × (k < n) × (get_or changed k 0 ≡ q)) ⊎ IsNone changed n q → get_or holds' q None ≡ get_or
      (places_of p end).onto q None
  holds_by q l (inl (j, m, at)) =
      subst (λ (i : ℕ). get_or holds' i None ≡ get_or (places_of p end).onto i None) (same j m ∙ at) (each j (omega (arith, m, many_seen)))
  holds_by q l (inr away) = rest q (none_seen q away) ∙ holding.each q l ∙ sym (placed q l away)

  pub holds_now : length holds' ≡ length holds → AreHolding p end holds'
  holds_now long = record { long = long ∙ holding.long; each = λ q l. holds_by q l (among changed n q) }

module _ (p : PlanContents) (h : IsPlan p) (can : CanComeRound p) (before start end : ℕ) (gone : IsRoundUpTo p before start) (leaves leaves' shows : List
    (Option Leaf))
    (all : IsAllTold p before start leaves) (on : (k : ℕ) → k < packs_of p → IsPackOn p before k (get_or shows k None)) (long : length shows ≡ packs_of p)
    (holds holds' : List (Option ℕ)) (holding : AreHolding p start holds)
    (holding' : AreHolding p end holds') (marks : List Bool) (seen : List ℕ)
    (rest : (q : ℕ) → IsNone seen (length seen) q → get_or holds' q None ≡ get_or holds q None)
    (held : (q k : ℕ) → get_or holds q None ≡ Some k → get_or marks k false ≡ false → get_or holds' q None ≡ Some k)
    (marked : (j k : ℕ) → j < length seen → get_or (places_of p end).onto (get_or seen j 0) None ≡ Some k → get_or marks k false ≡ true)
    (leaf_rest : (q : ℕ) → IsNone seen (length seen) q → get_or leaves' q None ≡ get_or leaves q None) where
  abbrev onto : List (Option ℕ)
  onto = (places_of p start).onto

  abbrev onto' : List (Option ℕ)
  onto' = (places_of p end).onto

  nobody : Row
  nobody = record { processor = 0; start = 0; end = 0; leaf = Empty }

  many : length onto ≡ p.tree.processors
  many = length-places (set_boundary p.set.tasks) p.tree start

  many' : length onto' ≡ p.tree.processors
  many' = length-places (set_boundary p.set.tasks) p.tree end

  onto_is : onto ≡ onto_at (set_boundary p.set.tasks) p.tree before
  onto_is = onto_end p h before start gone

  shows_none : (k : ℕ) (o : Option Leaf) → IsPackOn p before k o → get_or marks k false ≡ false → is_held onto' k ≡ false → o ≡ None
  shows_none k None is off free = refl
  shows_none k (Some l) is off free =
      let (q, m, at) = held_by onto k (ap (λ os. is_held os k) onto_is ∙ is.held l refl) in
      let inside : q < p.tree.processors = omega (arith, m, many) in
      let now = sym (holding'.each q inside) ∙ held q k (holding.each q inside ∙ at) off in
      absurd (both_ways (is_held onto' k) free (held_there onto' q k (omega (arith, inside, many')) now))

  shown_on : (k q : ℕ) (o : Option Leaf) → IsPackOn p before k o → get_or (onto_at (set_boundary p.set.tasks) p.tree before) q None ≡ Some k →
      q < p.tree.processors → o ≡ get_or leaves q None
  shown_on k q None is there inside = absurd (
      let many_on = as_many p h before in
      both_ways (is_held (onto_at (set_boundary p.set.tasks) p.tree before) k) (is.none refl) (held_there (onto_at (set_boundary p.set.tasks) p.tree before)
      q k (omega (arith, inside, many_on)) there))
  shown_on k q (Some l) is there inside = ap (λ (x : Leaf). Some x) (sym (leaf_of p h can before start q k nobody inside there ∙ is.leaf l refl))
      ∙ sym (all.each q nobody inside)

  shows_some : (k q : ℕ) (o : Option Leaf) → IsPackOn p before k o → get_or marks k false ≡ false → get_or onto' q None ≡ Some k → o ≡ get_or leaves' q None
  shows_some k q o is off at =
      let m = stands_within onto' q k at in
      let inside : q < p.tree.processors = omega (arith, m, many') in
      let away : IsNone seen (length seen) q = (λ j l e. both_ways (get_or marks k false) off (marked j k l (ap (λ i. get_or onto' i None) e ∙ at))) in
      let there : get_or onto q None ≡ Some k = sym (holding.each q inside) ∙ sym (rest q away) ∙ holding'.each q inside ∙ at in
      shown_on k q o is (ap (λ (os : List (Option ℕ)). get_or os q None) (sym onto_is) ∙ there) inside ∙ sym (leaf_rest q away)

  pub still_now : AreStill onto' leaves' shows marks 0
  still_now = record {
    none = λ k low l off free. shows_none k (get_or shows k None) (on k (omega (arith, l, long))) off free;
    some = λ k q low l off at. shows_some k q (get_or shows k None) (on k (omega (arith, l, long))) off at;
  }

-- what each pack shows in the last round that is kept, by the tick at which that one began
pub last_on : (p : PlanContents) (t : Turn) (before tick : ℕ) → IsTurnOf p t → turn_end t ≡ tick → IsRoundUpTo p before tick → 0 < length t.ends → (k : ℕ) →
    k < packs_of p → IsPackOn p before k (get_or t.last.items k None)
last_on p t before tick turn end gone some k l =
    let e : length t.ends ≡ suc (length t.ends - 1) = omega (arith, some) in
    let at = round_start 0 t.ends (length t.ends - 1) in
    let round : IsRoundUpTo p at tick = subst (λ (n : ℕ). IsRoundUpTo p at n) (sym (ap (round_start 0 t.ends) e) ∙ end) (turn.turn.round (length t.ends - 1)
    (omega (arith, some))) in
    subst (λ (n : ℕ). IsPackOn p n k (get_or t.last.items k None)) (sym (same_start p before at tick gone round)) (turn.last k some l)
