-- The rounds of a partitioned plan, merged from one to the next.
use Rattle.std.proofs.Common.{◌≡◌, ℕ, ◌<◌, ◌⊎◌, inl, inr, true, List, length, get_or, slice_get, Option, Some, sym, ap, subst, ◌∙◌, arith}
use Rattle.std.proofs.lemmas.Option.{slice_get-get_or}
use Rattle.sched_base.specs.declared.rows.Leaf.{Leaf}
use Rattle.sched_base.specs.declared.rows.Row.{Row}
use Rattle.sched_base.specs.Tables.{lane_of}
use Rattle.run_tree.specs.Plans.{PlanContents}
use Rattle.sched_laws.proofs.WholeRounds.{length-round}
use Rattle.event_core.specs.Rounds.{IsRoundUpTo, rows_of_round}
use Rattle.event_core.specs.Told.{IsTold}
use Rattle.event_core.proofs.SettledPacks.{same_start}
use Rattle.merged_rows.specs.Columns.{AreShown, ends_showing}
use Rattle.merged_rounds.specs.declared.sums.RoundSum.{RoundSum}
use Rattle.merged_rounds.specs.Changes.{IsNone}
use Rattle.merged_rounds.specs.Laps.{IsAllTold, IsSumUpTo}
use Rattle.merged_rounds.proofs.LapLemmas.{row_shows}
use Rattle.round_looks.specs.Looks.{leaf_at}
use Rattle.partition_rounds.specs.declared.partitions.Partition.{Partition}
use Rattle.part_rounds.specs.Merging.{IsShownUpTo}
use Rattle.partition_rounds.specs.Merging.{IsMergingOf}
use Rattle.partition_rounds.specs.OwnRounds.{IsPartitionOf}

module _ (p : PlanContents) (tick : ℕ) (leaves : List (Option Leaf)) (sum : RoundSum) where
  -- of the round that ended at this tick each leaf is known
  pub gone_told : (tick ≡ 0) ⊎ IsShownUpTo p tick leaves sum → (start : ℕ) → IsRoundUpTo p start tick → IsAllTold p start tick leaves
  gone_told (inl none) start round = absurd (let above = round.above in omega (arith, none, above))
  gone_told (inr gone) start round = subst (λ (n : ℕ). IsAllTold p n tick leaves) (sym (same_start p start gone.start tick round gone.round)) gone.told

  module _ (end count : ℕ) (told seen : List ℕ) (long : length seen ≡ count) (each : (k : ℕ) → k < count → get_or seen k 0 ≡ get_or told k 0) where
    -- a processor that is not seen is not told
    not_told : (q : ℕ) → IsNone seen (length seen) q → IsTold told count q → ⊥
    not_told q away t = away t.0 (let m = t.1 in omega (arith, m, long)) (each t.0 t.1 ∙ t.2)

    -- so it shows in the next round what its last row does
    stays : (tick ≡ 0) ⊎ IsShownUpTo p tick leaves sum → (tick ≡ 0 → (q : ℕ) → q < p.tree.processors → IsTold told count q) →
        ((q start : ℕ) (none : Row) → q < p.tree.processors → (IsTold told count q → ⊥) → IsRoundUpTo p start tick → leaf_at p tick end q none ≡ leaf_at p
        start tick q none) →
        (q : ℕ) (none : Row) → q < p.tree.processors → IsNone seen (length seen) q → ends_showing (lane_of sum.rows.lanes q) (leaf_at p tick end q none) ≡ true
    stays (inl none) first others q row l away = absurd (not_told q away (first none q l))
    stays (inr gone) first others q row l away =
        ap (ends_showing (lane_of sum.rows.lanes q)) (others q gone.start row l (not_told q away) gone.round) ∙ gone.last q row l

    pub next_shown : (now : List (Option Leaf)) → (tick ≡ 0) ⊎ IsShownUpTo p tick leaves sum → IsAllTold p tick end now →
        (tick ≡ 0 → (q : ℕ) → q < p.tree.processors → IsTold told count q) →
        ((q start : ℕ) (none : Row) → q < p.tree.processors → (IsTold told count q → ⊥) → IsRoundUpTo p start tick → leaf_at p tick end q none ≡ leaf_at p
        start tick q none) →
        AreShown sum.rows.lanes seen now (rows_of_round p tick end)
    next_shown now gone all first others = record {
      long = length-round p.set.tasks p.tree tick end ∙ sym all.long;
      each = λ q r at. (let s = row_shows p tick end q r at in all.each q r s.0 ∙ ap (λ (x : Leaf). Some x) (sym s.1));
      rest = λ q r at away. (let s = row_shows p tick end q r at in ap (ends_showing (lane_of sum.rows.lanes q)) s.1 ∙ stays gone first others q r s.0 away);
    }

-- the next round is merged
pub merging_on : (p : PlanContents) (start : ℕ) (part : Partition) (leaves : List (Option Leaf)) (sum : RoundSum) → IsPartitionOf p part →
    IsRoundUpTo p start part.tick →
    IsAllTold p start part.tick leaves → IsSumUpTo p part.tick sum →
    ((q : ℕ) (r : Row) → slice_get (rows_of_round p start part.tick) q ≡ Some r → ends_showing (lane_of sum.rows.lanes q) r.leaf ≡ true) →
    IsMergingOf p part leaves sum
merging_on p start part leaves sum belongs round all is ends = record {
  belongs = belongs;
  sum = is;
  many = all.long;
  gone = inr record {
    start = start;
    round = round;
    told = all;
    last = λ q none l.
        let rows = rows_of_round p start part.tick in
        let long = length-round p.set.tasks p.tree start part.tick in
        ends q (get_or rows q none) (slice_get-get_or rows q none (omega (arith, l, long)));
  };
}
