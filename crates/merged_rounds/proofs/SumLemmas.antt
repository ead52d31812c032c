-- Rounds merged and counted, from one to the next.
use Rattle.std.proofs.Common.{◌≡◌, ℕ, ◌+◌, ◌*◌, ◌/◌, ◌<◌, ◌≤◌, List, [], length, map, replicate, slice_get, Option, None, Some, true, sym, ap, subst}
use Rattle.std.proofs.Common.{◌∙◌, arith, Fits, w64}
use Rattle.std.proofs.Math.Nat.{mul-le-mul_left}
use Rattle.std.proofs.lemmas.List.{length-map}
use Rattle.std.proofs.lemmas.Option.{slice_get_within}
use Rattle.sched_base.specs.declared.rows.Leaf.TheVariants.{Empty}
use Rattle.sched_base.specs.declared.rows.NodeId.{NodeId}
use Rattle.sched_base.specs.declared.rows.Row.{Row}
use Rattle.sched_base.specs.Lanes.{lanes_of}
use Rattle.sched_base.specs.Tables.{IsRound, IsTable, end_after, end_of, lane_of, row_limit, rounds_in, with_round}
use Rattle.sched_base.proofs.ScheduleLanes.{lanes_of-none, length-lanes_of}
use Rattle.sched_base.proofs.TableLemmas.{IsTable-none, IsTable-with_round}
use Rattle.run_tree.specs.Plans.{IsPlan, PlanContents, rounds_of, stop_of}
use Rattle.sched_laws.proofs.WholeRounds.{length-round, round_get}
use Rattle.event_core.specs.Rounds.{IsRoundUpTo, rounds_before, rows_before, rows_of_round}
use Rattle.event_core.proofs.PlanRounds.{is_round, next_count, next_end, next_lanes, no_end, no_round}
use Rattle.event_core.proofs.RoundsInOrder.{next_rounds, no_rounds, no_rows, too_long}
use Rattle.merged_rows.specs.Columns.{AreGoingOn, AreShown, ends_showing, lanes_up_to}
use Rattle.merged_rows.proofs.ChangedLemmas.{shown_round}
use Rattle.merged_rows.specs.Lawful.{AreLawful}
use Rattle.merged_rows.specs.Merging.{merged}
use Rattle.merged_rows.proofs.MergedTables.{end_of_all, merged_none}
use Rattle.merged_rows.proofs.PushLemmas.{round_ends}
use Rattle.merged_rounds.specs.declared.sums.RoundSum.{RoundSum}
use Rattle.merged_rounds.specs.Changes.{leaves_in}
use Rattle.merged_rounds.specs.Laps.{IsSumUpTo}
use Rattle.merged_rounds.specs.Passes.{AreMergedOf, IsKept}
use Rattle.merged_rounds.proofs.ScheduleLemmas.{lawful_merged}

-- so few rounds are counted
pub next_fits : (count n processors : ℕ) → n ≡ processors → 1 ≤ processors → count * processors ≤ row_limit → Fits w64 (count + 1)
next_fits count n processors is some few =
    let most : count * 1 ≤ count * processors = mul-le-mul_left count some in
    omega (arith, most, few)

pub rows_fit : (count n processors : ℕ) → n ≡ processors → processors ≤ 32 → 1 ≤ processors → count * processors ≤ row_limit → Fits w64 ((count + 1) * n)
rows_fit count n processors is most some few =
    let same : (count + 1) * n ≡ (count + 1) * processors = ap (λ k. (count + 1) * k) is in
    omega (arith, same, most, few)

-- no round yet
pub sum_none : (p : PlanContents) → IsPlan p → (sum : RoundSum) → sum.rounds ≡ 0 → sum.rows.lanes ≡ replicate p.tree.processors [] → sum.rows.end ≡ 0 →
    IsSumUpTo p 0 sum
sum_none p h sum count none end =
    let m = p.tree.processors in
    let lanes : lanes_of m (rows_before p 0) ≡ lanes_of m [] = ap (lanes_of m) (no_rows p) in
    record {
      count = count ∙ sym (no_rounds p);
      few = omega (arith, ap (λ n. n * m) count);
      lanes = none ∙ sym (merged_none m) ∙ ap (map merged) (sym (lanes_of-none m) ∙ sym lanes);
      tick = end;
      table = subst IsTable (sym (lanes ∙ lanes_of-none m)) (IsTable-none m);
      end = ap end_of lanes ∙ no_end p h;
      rounds = ap rounds_in lanes ∙ no_round p h ∙ sym (no_rounds p);
    }

module _ (p : PlanContents) (h : IsPlan p) (start end : ℕ) (round : IsRoundUpTo p start end) (sum : RoundSum) (before : IsSumUpTo p start sum) where
  raw : List (List Row)
  raw = lanes_of p.tree.processors (rows_before p start)

  -- the rows of the round are one for each processor, from here up to its end
  whole : length (rows_of_round p start end) ≡ length (lanes_of p.tree.processors (rows_before p start))
  whole = length-round p.set.tasks p.tree start end ∙ sym (length-lanes_of p.tree.processors (rows_before p start))

  pub round_here : IsRound sum.rows.end (rows_of_round p start end)
  round_here = subst (λ (n : ℕ). IsRound n (rows_of_round p start end)) (sym before.tick) (is_round p h start end round)

  pub round_to : end_after sum.rows.end (rows_of_round p start end) ≡ end
  round_to =
      let long = length-round p.set.tasks p.tree start end in
      let some = h.sized.some_processors in
      end_of_all (rows_of_round p start end) sum.rows.end end (omega (arith, long, some))
      (λ k row at. ap (λ (x : Row). x.end) (round_get p.set.tasks p.tree start end k row at))

  -- as many lanes as processors
  pub lanes_whole : length sum.rows.lanes ≡ p.tree.processors
  lanes_whole = ap length before.lanes ∙ length-map (lanes_of p.tree.processors (rows_before p start)) merged ∙ length-lanes_of p.tree.processors
      (rows_before p start)

  -- without room for it there are too many rows
  pub no_room : start < stop_of p → (n rows : ℕ) → n ≡ p.tree.processors → rows ≡ (sum.rounds + 1) * n → row_limit < rows →
      (row_limit < rounds_of p * p.tree.processors) × (rows ≡ (row_limit / p.tree.processors + 1) * p.tree.processors)
  no_room early n rows is are past =
      let same : rows ≡ (sum.rounds + 1) * p.tree.processors = are ∙ ap (λ k. (sum.rounds + 1) * k) is in
      let t = too_long p start sum.rounds p.tree.processors round.event early before.count before.few (omega (arith, past, same)) in
      (t.0, same ∙ t.1)

  -- where those processors show what they do that may show something else, the round is merged
  pub seen_on : (next : RoundSum) (changed : List ℕ) → length sum.rows.begun ≡ length sum.rows.lanes → sum.rows.lanes ≡ lanes_up_to 0 sum.rows.end
      sum.rows.begun → next.rows.lanes ≡ lanes_up_to 0 end next.rows.begun →
      AreShown sum.rows.lanes changed (leaves_in p start end) (rows_of_round p start end) → AreGoingOn sum.rows.begun sum.rows.end changed
      (leaves_in p start end) next.rows.begun (length changed) →
      next.rows.lanes ≡ map merged (with_round (lanes_of p.tree.processors (rows_before p start)) (rows_of_round p start end))
  seen_on next changed many was is shows going =
      let rows = rows_of_round p start end in
      let whole : length rows ≡ length sum.rows.begun = length-round p.set.tasks p.tree start end ∙ sym lanes_whole ∙ sym many in
      is ∙ ap (λ n. lanes_up_to 0 n next.rows.begun) (sym round_to)
      ∙ shown_round sum.rows.begun sum.rows.end changed (leaves_in p start end) next.rows.begun rows (lanes_of p.tree.processors (rows_before p start))
      whole round_here (sym was ∙ before.lanes)
      (subst (λ (ls : List (List Row)). AreShown ls changed (leaves_in p start end) rows) was shows) going

  module _ (next : RoundSum) (lanes : next.rows.lanes ≡ map merged (with_round (lanes_of p.tree.processors (rows_before p start)) (rows_of_round p start
      end))) where
    -- with the round
    pub sum_on : next.rounds ≡ sum.rounds + 1 → next.rounds * p.tree.processors ≤ row_limit → next.rows.end ≡ end → IsSumUpTo p end next
    sum_on one few to =
        let m = p.tree.processors in
        let rows = rows_of_round p start end in
        let old = lanes_of m (rows_before p start) in
        let long = length-lanes_of m (rows_before p start) in
        let now = next_lanes p h start end round in
        let counted = next_rounds p start end round in
        let count = before.count in
        let is_now : IsRound (end_of old) rows = subst (λ (n : ℕ). IsRound n rows) (sym before.end) (is_round p h start end round) in
        record {
          count = omega (arith, counted, count, one);
          few = few;
          lanes = lanes ∙ ap (map merged) (sym now);
          tick = to;
          table = subst IsTable (sym now) (IsTable-with_round old rows before.table whole is_now);
          end = ap end_of now ∙ next_end p h start end round old long;
          rounds = ap rounds_in now ∙ next_count p h start end round old long ∙ ap (λ n. n + 1) before.rounds ∙ sym counted;
        }

    -- each processor ends with what it shows in the round
    pub ends_on : (q : ℕ) (r : Row) → slice_get (rows_of_round p start end) q ≡ Some r → ends_showing (lane_of next.rows.lanes q) r.leaf ≡ true
    ends_on q r at =
        let rows = rows_of_round p start end in
        let old = lanes_of p.tree.processors (rows_before p start) in
        ap (λ (ls : List (List Row)). ends_showing (lane_of ls q) r.leaf) lanes
        ∙ round_ends old rows q r (let l = slice_get_within rows q r at in omega (arith, l, whole)) at

-- all rounds
pub all_merged : (p : PlanContents) (sum : RoundSum) → IsSumUpTo p (stop_of p) sum → AreMergedOf p sum.rows.lanes
all_merged p sum is = is.lanes

pub all_lawful : (p : PlanContents) → IsPlan p → (sum : RoundSum) → IsSumUpTo p (stop_of p) sum → AreLawful p.set sum.rows.lanes
all_lawful p h sum is =
    let few = is.few in
    let count = ap (λ n. n * p.tree.processors) is.count in
    lawful_merged p h sum.rows.lanes is.lanes (rounds_before p (stop_of p)) is.table is.rounds (omega (arith, few, count))

pub all_few : (p : PlanContents) (sum : RoundSum) → IsSumUpTo p (stop_of p) sum → rounds_of p * p.tree.processors ≤ row_limit
all_few p sum is = subst (λ (n : ℕ). n * p.tree.processors ≤ row_limit) is.count is.few

-- where no node is kept
pub none_kept : (p : PlanContents) (tick q : ℕ) (rows : List Row) (node : Option NodeId) → node ≡ None → IsKept p tick rows node
none_kept p tick q rows shown nobody = record {
  leaf = Empty;
  stays = λ n t e le. absurd (let e' : None ≡ Some n = sym nobody ∙ e in cc);
  last = λ n e. absurd (let e' : None ≡ Some n = sym nobody ∙ e in cc);
}
