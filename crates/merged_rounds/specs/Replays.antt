-- The rounds of the first hyperperiod, kept, and how they come again.
use Rattle.std.specs.Prelude.{ℕ, ◌≡◌, ◌≢◌, ◌<◌, ◌≤◌, ◌+◌, ◌-◌, ◌⊎◌, ◌&&◌, not, min, Bool, true, false, List, [], ◌∷◌, ◌++◌, filter, length, Option, None, Some}
use Rattle.std.specs.Prelude.{slice_index, slice_index_or}
use Rattle.std.specs.List.{range_with_len}
use Rattle.sched_base.specs.declared.rows.Leaf.{Leaf}
use Rattle.sched_base.specs.Places.{is_held, place}
use Rattle.run_tree.specs.Boundaries.{set_boundary}
use Rattle.run_tree.specs.Plans.{PlanContents, stop_of}
use Rattle.run_tree.specs.Schedule.{leaf_on, onto_at, packs_at, packs_running}
use Rattle.cpu_assign.specs.Changed.{AreChanged, ChangeLists, with_pack}
use Rattle.event_core.specs.Cores.{IsCoreOf, places_of}
use Rattle.event_core.specs.Rounds.{IsRoundStart, IsRoundUpTo}
use Rattle.event_core.specs.Serving.{IsAmong}
use Rattle.merged_rounds.specs.declared.replays.Replay.{Replay}
use Rattle.merged_rounds.specs.declared.sources.Source.{Source}
use Rattle.merged_rounds.specs.declared.turns.Turn.{Turn}
use Rattle.sched_base.specs.declared.rows.NodeId.{NodeId}
use Rattle.sched_base.specs.Tables.{lane_of}
use Rattle.merged_rounds.specs.declared.sums.RoundSum.{RoundSum}
use Rattle.merged_rounds.specs.Laps.{AreTurns, CanComeRound, IsSumUpTo, round_start}
use Rattle.merged_rounds.specs.Passes.{IsKept}
use Rattle.merged_rounds.specs.Shown.{is_some, packs_in, shown_in}

-- the number of packs of level 0
abbrev pub packs_of : PlanContents → ℕ
packs_of p = length (packs_at p.tree 0)

-- at tick n pack k is on no processor where nothing is told of it, and else it is on one, where this leaf runs
pub record IsPackOn (p : PlanContents) (n k : ℕ) (shows : Option Leaf) : Type 0 where
  pub none : shows ≡ None → is_held (onto_at (set_boundary p.set.tasks) p.tree n) k ≡ false
  pub held : (l : Leaf) → shows ≡ Some l → is_held (onto_at (set_boundary p.set.tasks) p.tree n) k ≡ true
  pub leaf : (l : Leaf) → shows ≡ Some l → leaf_on (set_boundary p.set.tasks) p.tree n (Some k) ≡ l

-- ---- rounds of the first hyperperiod, by the packs that show something else than before

-- Entries are packs, by their numbers, with what they show. Those of round i go up to its number in this list: the place of the first one.
abbrev pub part_start : List ℕ → ℕ → ℕ
part_start parts i = slice_index (0 ∷ parts) i

-- none of the entries from place `low` up to `high` is of pack k
abbrev pub IsNotAmong : List ℕ → ℕ → ℕ → ℕ → Type 0
IsNotAmong packs low high k = (j : ℕ) → low ≤ j → j < high → slice_index packs j ≢ k

-- the entries from place `low` up to `high` are of packs with numbers below `many`, in order
pub record AreOrdered (packs : List ℕ) (low high many : ℕ) : Type 0 where
  pub up : low ≤ high
  pub within : high ≤ length packs
  pub level : (j : ℕ) → low ≤ j → j < high → slice_index packs j < many
  pub order : (j : ℕ) → low ≤ j → j + 1 < high → slice_index packs j < slice_index packs (j + 1)

-- they are packs of level 0, in order, with what each shows at this tick
pub record AreEntries (p : PlanContents) (packs : List ℕ) (shown : List (Option Leaf)) (low high tick : ℕ) : Type 0 where
  pub ordered : AreOrdered packs low high (packs_of p)
  pub shows : (j : ℕ) → low ≤ j → j < high → IsPackOn p tick (slice_index packs j) (slice_index_or shown j None)

-- These are the ends of rounds from tick 0 on, and the entries of each. A pack without one shows the same as in the round before; in the
-- first round each has one.
pub record IsTurn (p : PlanContents) (ends parts packs : List ℕ) (shown : List (Option Leaf)) : Type 0 where
  pub round : (i : ℕ) → i < length ends → IsRoundUpTo p (round_start 0 ends i) (slice_index ends i)
  pub long : length parts ≡ length ends
  pub both : length shown ≡ length packs
  pub entries : (i : ℕ) → i < length ends → AreEntries p packs shown (part_start parts i) (slice_index parts i) (round_start 0 ends i)
  pub rest : (i k : ℕ) (o : Option Leaf) → i < length ends → k < packs_of p → IsNotAmong packs (part_start parts i) (slice_index parts i) k →
      (0 < i) × (IsPackOn p (round_start 0 ends (i - 1)) k o → IsPackOn p (round_start 0 ends i) k o)

-- the packs of a turn's entries, and what they show
abbrev pub packs_kept : Turn → List ℕ
packs_kept t = packs_in t.entries.items

-- what these packs show
abbrev pub shown_kept : Turn → List (Option Leaf)
shown_kept t = shown_in t.entries.items

-- the tick at which the last of its rounds ends
abbrev pub turn_end : Turn → ℕ
turn_end t = round_start 0 t.ends (length t.ends)

-- the kept rounds of a hyperperiod, and what each pack shows in the last of them
pub record IsTurnOf (p : PlanContents) (t : Turn) : Type 0 where
  pub turn : IsTurn p t.ends t.parts.items (packs_kept t) (shown_kept t)
  pub whole : part_start t.parts.items (length t.parts.items) ≡ length (packs_kept t)
  pub last : (k : ℕ) → 0 < length t.ends → k < packs_of p →
      IsPackOn p (round_start 0 t.ends (length t.ends - 1)) k (slice_index_or t.last.items k None)
  pub long : length t.last.items ≡ packs_of p

-- Of the first n packs those that show something else than before are among the ones that were looked at, and the lists have those that
-- showed something and show nothing, and those that begin.
pub record AreNotedTo (before now : List (Option Leaf)) (n : ℕ) (changes : ChangeLists) : Type 0 where
  pub same : (k : ℕ) → k < n → (IsAmong changes.seen k → ⊥) → slice_index_or now k None ≡ slice_index_or before k None
  pub within : (k : ℕ) → k < length changes.seen → slice_index changes.seen k < n
  pub stops : changes.stopped ≡ filter (λ i. not (is_some (slice_index_or now i None)) && is_some (slice_index_or before i None)) (range_with_len 0 n)
  pub begins : changes.begun ≡ filter (λ i. is_some (slice_index_or now i None) && not (is_some (slice_index_or before i None))) (range_with_len 0 n)

-- The first n packs show this at tick `start`, and the entries of those that show something else than before are there, or of each of
-- them in the first round.
pub record AreKept (p : PlanContents) (start : ℕ) (before after : Turn) (n : ℕ) : Type 0 where
  pub ends : after.ends ≡ before.ends
  pub parts : after.parts ≡ before.parts
  pub turn : IsTurn p after.ends after.parts.items (packs_kept after) (shown_kept after)
  pub long : length after.last.items ≡ length before.last.items
  pub entries : AreEntries p (packs_kept after) (shown_kept after) (length (packs_kept before)) (length (packs_kept after)) start
  pub below : (j : ℕ) → length (packs_kept before) ≤ j → j < length (packs_kept after) → slice_index (packs_kept after) j < n
  pub few : length (packs_kept after) ≤ length (packs_kept before) + n
  pub later : (k : ℕ) → n ≤ k → slice_index_or after.last.items k None ≡ slice_index_or before.last.items k None
  pub on : (k : ℕ) → k < n → IsPackOn p start k (slice_index_or after.last.items k None)
  pub rest : (k : ℕ) → k < n → IsNotAmong (packs_kept after) (length (packs_kept before)) (length (packs_kept after)) k →
      (0 < length before.ends) × (slice_index_or after.last.items k None ≡ slice_index_or before.last.items k None)

-- From number `from` on, a pack without a mark shows what the processor does that holds it, and nothing where none does.
pub record AreStill (onto : List (Option ℕ)) (leaves shows : List (Option Leaf)) (marks : List Bool) (from : ℕ) : Type 0 where
  pub none : (k : ℕ) → from ≤ k → k < length shows → slice_index_or marks k false ≡ false → is_held onto k ≡ false → slice_index_or shows k None ≡ None
  pub some : (k q : ℕ) → from ≤ k → k < length shows → slice_index_or marks k false ≡ false → slice_index_or onto q None ≡ Some k →
      slice_index_or shows k None ≡ slice_index_or leaves q None

-- these are the packs that processors hold before the round that starts at this tick
pub record AreHolding (p : PlanContents) (tick : ℕ) (holds : List (Option ℕ)) : Type 0 where
  pub long : length holds ≡ p.tree.processors
  pub each : (q : ℕ) → q < p.tree.processors → slice_index_or holds q None ≡ slice_index_or (places_of p tick).onto q None

-- pack k, which showed another leaf or nothing, is listed with the packs that were looked at, and as one that stops or begins
pub record IsListed (before after : ChangeLists) (k : ℕ) (runs held : Bool) : Type 0 where
  pub seen : after.seen ≡ before.seen ++ k ∷ []
  pub stopped : after.stopped ≡ with_pack before.stopped k (not runs && held)
  pub begun : after.begun ≡ with_pack before.begun k (runs && not held)

-- pack k shows what it did, or it is listed
abbrev pub IsEntryTaken : List (Option Leaf) → ℕ → Option Leaf → ChangeLists → ChangeLists → Type 0
IsEntryTaken shows k leaf before after =
    ((leaf ≡ slice_index_or shows k None) × (after ≡ before)) ⊎ IsListed before after k (is_some leaf) (is_some (slice_index_or shows k None))

-- There is an entry of pack k between these places, and what it shows is set; or there is none, and it shows the same as before.
abbrev pub IsTaken : List ℕ → List (Option Leaf) → ℕ → ℕ → List (Option Leaf) → List (Option Leaf) → ℕ → Type 0
IsTaken packs shown low high before now k =
    ((j : ℕ) × (low ≤ j) × (j < high) × (slice_index packs j ≡ k) × (slice_index_or now k None ≡ slice_index_or shown j None))
    ⊎ (IsNotAmong packs low high k × (slice_index_or now k None ≡ slice_index_or before k None))

-- Rounds of the first hyperperiod come again, `shift` ticks later, and the next one begins at this tick. Packs stand where they do, and
-- it is known what each shows in the round that is just gone.
pub record IsReplayOf (p : PlanContents) (tick : ℕ) (r : Replay) : Type 0 where
  pub can : CanComeRound p
  pub lap : IsTurnOf p r.lap
  pub turn : AreTurns p (turn_end r.lap)
  pub shift : AreTurns p r.shift
  pub next : r.next < length r.lap.ends
  pub at : tick ≡ min (round_start 0 r.lap.ends r.next + r.shift) (stop_of p)
  pub event : IsRoundStart p tick
  pub places : r.places ≡ places_of p tick
  pub shown : (start k : ℕ) → IsRoundUpTo p start tick → k < packs_of p → IsPackOn p start k (slice_index_or r.shows.items k None)
  pub gone : (k : ℕ) → 0 < r.next → k < packs_of p → IsPackOn p (round_start 0 r.lap.ends (r.next - 1)) k (slice_index_or r.shows.items k None)
  pub held : (k : ℕ) → k < packs_of p → is_held r.places.onto k ≡ is_some (slice_index_or r.shows.items k None)
  pub room : r.changes.room ≡ packs_of p
  pub long : length r.shows.items ≡ packs_of p

-- the packs that run at tick `start` were placed, and those are known that show something else than before
pub record HasPlaced (p : PlanContents) (start : ℕ) (before after : Replay) : Type 0 where
  pub changed : AreChanged (packs_running (set_boundary p.set.tasks) p.tree start) before.places.onto after.changes
  pub placed : after.places ≡ place (packs_running (set_boundary p.set.tasks) p.tree start) before.places
  pub same : (k : ℕ) → k < packs_of p → (IsAmong after.changes.seen k → ⊥) → slice_index_or after.shows.items k None ≡ slice_index_or before.shows.items k None
  pub within : (k : ℕ) → k < length after.changes.seen → slice_index after.changes.seen k < packs_of p

-- a core computes the rounds, from the source's tick on
pub record IsComputed (p : PlanContents) (s : Source) : Type 0 where
  pub belongs : IsCoreOf p s.core
  pub tick : s.core.tick ≡ s.tick

-- where a source replays, its rounds are those that come again, and else those of its core
pub record IsSourceOf (p : PlanContents) (s : Source) : Type 0 where
  pub computed : s.replays ≡ false → IsComputed p s
  pub again : s.replays ≡ true → IsReplayOf p s.tick s.replay

-- up to this tick the rounds of a hyperperiod go, which is over then, and they can come again
pub record BeginsAgain (p : PlanContents) (tick : ℕ) (kept : Turn) : Type 0 where
  pub can : CanComeRound p
  pub lap : IsTurnOf p kept
  pub end : turn_end kept ≡ tick
  pub turns : AreTurns p tick

-- The rounds up to the source's tick are merged, and where a node is kept of a processor, it shows what the last row shows.
pub record IsMergingFrom (p : PlanContents) (source : Source) (so_far : RoundSum) (nodes : List (Option NodeId)) : Type 0 where
  pub belongs : IsSourceOf p source
  pub sum : IsSumUpTo p source.tick so_far
  pub kept : (q : ℕ) → q < p.tree.processors → IsKept p source.tick (lane_of so_far.rows.lanes q) (slice_index_or nodes q None)
