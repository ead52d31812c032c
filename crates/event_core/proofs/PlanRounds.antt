-- The rounds of a plan, as rounds of a table.
use Rattle.std.proofs.Common.{◌≡◌, ℕ, ◌*◌, ◌+◌, [], ◌<◌, ◌≤◌, ◌^◌, List, length, ap, sym, ◌∙◌, arith, lit<, zero-add, le_of_lt}
use Rattle.std.proofs.Math.Nat.{mul-le-mul}
use Rattle.sched_base.specs.declared.rows.Row.{Row}
use Rattle.sched_base.specs.Tables.{IsRound, end_of, end_after, rounds_in, with_round}
use Rattle.sched_base.proofs.TableLemmas.{length-lane_of-with_round}
use Rattle.run_tree.specs.Plans.{IsPlan, PlanContents, stop_of}
use Rattle.sched_laws.proofs.WholeRounds.{length-round, round_get, set_round}
use Rattle.event_core.specs.Rounds.{IsRoundUpTo, rows_before, rows_of_round}
use Rattle.event_core.proofs.RoundsInOrder.{next_rows}
use Rattle.sched_base.specs.Lanes.{lanes_of}
use Rattle.sched_base.proofs.ScheduleLanes.{end_of-with_round, lane_of-lanes_of, lanes_of-round}

-- all ticks of a plan's rounds fit
pub stop_fits : (p : PlanContents) → IsPlan p → stop_of p < 2 ^ 127
stop_fits p h =
    let units = h.lawful.horizon_fits in
    let scale = h.sized.scale_fits in
    let most : p.set.horizon * p.tree.scale ≤ 2 ^ 32 * 2 ^ 94 = mul-le-mul (le_of_lt units) scale in
    let fits : 2 ^ 32 * 2 ^ 94 < 2 ^ 127 = lit< tt in
    omega (arith, most, fits)

module _ (p : PlanContents) (h : IsPlan p) where
  -- lanes with no row
  pub no_end : end_of (lanes_of p.tree.processors []) ≡ 0
  no_end = let some = h.sized.some_processors in ap (end_after 0) (lane_of-lanes_of p.tree.processors [] 0 (omega (arith, some)))

  pub no_round : rounds_in (lanes_of p.tree.processors []) ≡ 0
  no_round = let some = h.sized.some_processors in ap length (lane_of-lanes_of p.tree.processors [] 0 (omega (arith, some)))

  module _ (start end : ℕ) (r : IsRoundUpTo p start end) where
    -- the rows of a round are a whole round
    pub is_round : IsRound start (rows_of_round p start end)
    is_round = let up = r.above in let below = r.below in let fits = stop_fits p h in set_round p.set h.lawful p.tree h.tree start end up
        (omega (arith, below, fits))

    -- the lanes before its end are those before its start with one round more
    pub next_lanes : lanes_of p.tree.processors (rows_before p end) ≡ with_round (lanes_of p.tree.processors (rows_before p start)) (rows_of_round p start end)
    next_lanes =
        ap (lanes_of p.tree.processors) (next_rows p start end r)
        ∙ lanes_of-round p.tree.processors (rows_before p start) (rows_of_round p start end) (length-round p.set.tasks p.tree start end)
        (record { own = λ k row at. is_round.own k row at ∙ sym (zero-add k) })

    module _ (lanes : List (List Row)) (long : length lanes ≡ p.tree.processors) where
      same_length : length (rows_of_round p start end) ≡ length lanes
      same_length = length-round p.set.tasks p.tree start end ∙ sym long

      some_lanes : 0 < length lanes
      some_lanes = let some = h.sized.some_processors in omega (arith, some, long)

      -- it ends where the round does
      pub next_end : end_of (with_round lanes (rows_of_round p start end)) ≡ end
      next_end = end_of-with_round lanes (rows_of_round p start end) end same_length some_lanes (λ row at. ap (λ (x : Row). x.end) (round_get p.set.tasks
          p.tree start end 0 row at))

      -- it has one round more
      pub next_count : rounds_in (with_round lanes (rows_of_round p start end)) ≡ rounds_in lanes + 1
      next_count = length-lane_of-with_round lanes (rows_of_round p start end) 0 same_length some_lanes
