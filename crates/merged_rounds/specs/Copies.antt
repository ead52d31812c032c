-- Rows that come again so many ticks later.
use Rattle.std.specs.Prelude.{ℕ, zero, suc, ◌≡◌, ◌<◌, ◌≤◌, ◌+◌, ◌&&◌, Bool, true, ltb, if◌then◌else◌, List, [], ◌∷◌, length, None, slice_index_or}
use Rattle.sched_base.specs.declared.rows.Leaf.{Leaf}
use Rattle.sched_base.specs.Tables.{row_limit}
use Rattle.run_tree.specs.Boundaries.{set_boundary}
use Rattle.run_tree.specs.Plans.{PlanContents, stop_of}
use Rattle.run_tree.specs.Schedule.{leaf_on, onto_at, shown}
use Rattle.event_core.specs.Rounds.{event_at}
use Rattle.merged_rows.specs.Columns.{Begun, showing}
use Rattle.merged_rounds.specs.declared.copies.Window.{Window}
use Rattle.merged_rounds.specs.declared.sources.Source.{Source}
use Rattle.merged_rounds.specs.Laps.{AreTurns}
use Rattle.merged_rounds.specs.Replays.{turn_end}

-- what processor q shows in the round that begins at tick n
abbrev pub leaf_from : PlanContents → ℕ → ℕ → Leaf
leaf_from p n q =
    shown p.set.tasks p.tree.scale n (leaf_on (set_boundary p.set.tasks) p.tree n (slice_index_or (onto_at (set_boundary p.set.tasks) p.tree n) q None))

-- the merged rows of processor q as they begin before this tick
abbrev pub begun_before : PlanContents → ℕ → ℕ → List Begun
begun_before p q zero = []
begun_before p q (suc n) = if event_at p n then showing (begun_before p q n) n (leaf_from p n q) else begun_before p q n

-- whether a row begins behind a window's start and before its end
abbrev pub is_within : Window → Begun → Bool
is_within w b = ltb w.from b.start && ltb b.start w.until

-- such a row comes again, so many ticks later: where the last row shows the same, that one goes on
abbrev pub copy_on : Window → List Begun → Begun → List Begun
copy_on w lane b = if is_within w b then showing lane (b.start + w.ticks) b.leaf else lane

-- the rows of a window, appended so many ticks later
abbrev pub copied : Window → List Begun → List Begun → List Begun
copied w lane [] = lane
copied w lane (b ∷ rows) = copied w (copy_on w lane b) rows

-- a processor shows this leaf from tick `now` on, and then its rows of the window come again
abbrev pub copied_from : Window → ℕ → List Begun → Leaf → List Begun
copied_from w now lane leaf = copied w (showing lane now leaf) (showing lane now leaf)

-- of the first n processors the rows of the window came again, and the others are as they were
pub record AreCopied (p : PlanContents) (now : ℕ) (w : Window) (first lanes : List (List Begun)) (n : ℕ) : Type 0 where
  pub long : length lanes ≡ length first
  pub each : (q : ℕ) → q < n → slice_index_or lanes q [] ≡ copied_from w now (slice_index_or first q []) (leaf_from p now q)
  pub rest : (q : ℕ) → n ≤ q → slice_index_or lanes q [] ≡ slice_index_or first q []

-- Kept rounds come again, and so many ticks are hyperperiods, no more than went by, and no fewer than are left.
pub record IsLastLap (p : PlanContents) (source : Source) (ticks : ℕ) : Type 0 where
  pub replays : source.replays ≡ true
  pub early : source.tick < stop_of p
  pub gone : ticks ≤ source.tick
  pub left : stop_of p ≤ source.tick + ticks
  pub turns : AreTurns p ticks
  pub few : length source.replay.lap.ends ≤ row_limit
  pub within : turn_end source.replay.lap < stop_of p
