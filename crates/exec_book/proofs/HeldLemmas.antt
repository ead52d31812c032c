-- What the type of a book keeps of what it holds, and what follows for the row that is out on a lane.
use Rattle.std.proofs.Common.{◌≡◌, ℕ, ◌<◌, ◌*◌, ◌∙◌, true, List, Some, None, length, sym, ap, arith}
use Rattle.std.specs.Prelude.{sum, slice_get}
use Rattle.sched_base.specs.declared.rows.Row.{Row}
use Rattle.sched_base.specs.Rows.{is_of_task}
use Rattle.sched_base.specs.Tables.{RowAt, rounds_in, row_limit}
use Rattle.sched_base.proofs.TableLemmas.{row_within}
use Rattle.run_tree.specs.Plans.{PlanContents, IsPlan, rounds_of}
use Rattle.book_machine.specs.Machine.{State, posted_at, IsOut}
use Rattle.book_machine.specs.Reached.{IsReached, OutRow, counts_of}
use Rattle.book_machine.specs.Rounds.{AreFirstRounds}
use Rattle.book_machine.proofs.Lanes.{out_within}
use Rattle.book_machine.proofs.RoundLemmas.{row_of_all}
use Rattle.plan_rounds.specs.PlanRows.{RoundsContents, plan_rows}
use Rattle.exec_book.specs.Jobs.{JobStoreContents, JobsKept, Made}
use Rattle.plan_rounds.specs.Parts.{RowsPart}
use Rattle.plan_rounds.proofs.RoundLemmas.{first_rounds, plan_count, plan_lanes, plan_table}
use Rattle.exec_book.proofs.PostLemmas.{posts_below}
use Rattle.exec_book.proofs.JobLemmas.{away_for}

-- a book that holds these keeps their parts
pub record Keeps {J : Type 0} (id used : J → ℕ) (made : J → Made) (all_made : List Made) (p : PlanContents) (count window : ℕ) (s : State)
    (rounds : RoundsContents) (store : JobStoreContents J) (side : ℕ) : Type 0 where
  pub rows : RowsPart p count window s (Some rounds)
  pub counted : side ≡ sum (counts_of s.lanes)
  pub jobs : JobsKept id used made all_made (plan_rows p) (length p.set.tasks) s store

-- what is known where a row is out on the lane
pub record LaneOut {J : Type 0} (p : PlanContents) (s : State) (rounds : RoundsContents) (store : JobStoreContents J) (lane : ℕ) : Type 0 where
  pub out : IsOut s lane
  pub within : lane < length s.lanes
  pub same_lanes : length s.lanes ≡ length rounds.table.lanes
  pub in_table : lane < length rounds.table.lanes
  pub round : posted_at s lane < rounds_in rounds.table.lanes
  pub out_row : (row : Row) → RowAt rounds.table.lanes lane (posted_at s lane) row → OutRow (plan_rows p) s lane row
  pub away : (row : Row) → RowAt rounds.table.lanes lane (posted_at s lane) row → (t : ℕ) → is_of_task t row.leaf ≡ true → slice_get store.jobs.places
      t ≡ Some None
  -- the posts are fewer than the rows
  pub few : sum (counts_of s.lanes) < row_limit

pub lane_out : {J : Type 0} (id used : J → ℕ) (made : J → Made) (all_made : List Made) (p : PlanContents) (count window : ℕ) (s : State)
    (rounds : RoundsContents) (store : JobStoreContents J) (side lane : ℕ)
    → Keeps id used made all_made p count window s rounds store side → IsPlan p → IsReached (plan_rows p) window s → IsOut s lane → LaneOut p s rounds store
    lane
lane_out id used made all_made p count window s rounds store side lane keeps lawful reached out =
    let all = plan_rows p in
    let first : AreFirstRounds rounds.table.lanes all = first_rounds p lawful rounds keeps.rows.kept.rounds in
    let within : lane < length s.lanes = out_within s.lanes lane out in
    let long : length s.lanes ≡ length all = reached.lanes in
    let wide : length rounds.table.lanes ≡ length all = first.same_lanes in
    let row_out : (row : Row) → RowAt rounds.table.lanes lane (posted_at s lane) row → OutRow all s lane row =
    λ row at. (out, row_of_all rounds.table.lanes all first lane (posted_at s lane) row at) in
    record {
      out = out;
      within = within;
      same_lanes = long ∙ sym wide;
      in_table = omega (arith, within, long, wide);
      round = keeps.rows.kept.out lane out;
      out_row = row_out;
      away = λ row at t on. away_for id used made all_made all (length p.set.tasks) window s store lane row (plan_table p lawful) reached keeps.jobs
          (row_out row at) within t on;
      few =
          let (row, here) = reached.out_is_row lane out in
          let inside = (row_within all (plan_table p lawful) lane (posted_at s lane) row here).1 in
          let sum_below = posts_below s.lanes (rounds_in all) lane (λ q. reached.posted_are_rows q) within inside in
          let product : rounds_in all * length s.lanes ≡ rounds_of p * p.tree.processors = ap (λ n. n * length s.lanes) (plan_count p lawful)
          ∙ ap (λ n. rounds_of p * n) (long ∙ plan_lanes p lawful) in
          let rows = keeps.rows.few in
          omega (arith, sum_below, product, rows);
    }
