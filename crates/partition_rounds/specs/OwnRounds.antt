-- Rounds of the processors of a partitioned plan.
use Rattle.std.specs.Prelude.{ℕ, ◌*◌, ◌+◌, ◌<◌, ◌≤◌, ◌≡◌, ◌⊎◌, min, true, false, length, Some, slice_get, slice_index, slice_index_or}
use Rattle.std.specs.List.{AllByRecursion}
use Rattle.sched_base.specs.declared.rows.Leaf.{Leaf}
use Rattle.sched_base.specs.declared.rows.Leaf.TheVariants.{Empty}
use Rattle.run_tree.specs.Plans.{IsPlan, PlanContents, stop_of}
use Rattle.event_core.specs.Cores.{CoreContents, IsCoreOf, runs_at}
use Rattle.event_core.specs.Rounds.{IsRoundStart, IsRoundUpTo}
use Rattle.merged_rounds.specs.Laps.{AreTurns, CanComeRound, round_start}
use Rattle.own_plans.specs.declared.owns.OwnPlan.{OwnPlan}
use Rattle.own_plans.specs.OwnPlans.{IsOwnPlanOf}
use Rattle.partition_laws.specs.Partitions.{IsPartitioned, member_count, member_of}
use Rattle.partition_rounds.specs.declared.kept.KeptRounds.{KeptRounds}
use Rattle.partition_rounds.specs.declared.own_rounds.OwnRounds.{OwnRounds}
use Rattle.partition_rounds.specs.declared.partitions.Partition.{Partition}

-- From tick `start` up to tick `end` of the whole plan goes a round of an own plan. In it a member runs, and this is what the whole plan shows.
pub record IsOwnRound (own : OwnPlan) (start end : ℕ) (shows : Leaf) : Type 0 where
  pub first : ℕ
  pub last : ℕ
  pub round : IsRoundUpTo own.plan first last
  pub start_is : start ≡ first * own.factor
  pub end_is : end ≡ last * own.factor
  pub place : ℕ
  pub within : place < member_count own.plan.tree 0
  pub runs : runs_at own.plan (member_of own.plan.tree 0 place) first ≡ true
  pub shown : shows ≡ slice_index_or own.leaves.items (member_of own.plan.tree 0 place) Empty

-- these are rounds of an own plan that follow one another from tick 0 on
pub record AreKeptOf (own : OwnPlan) (kept : KeptRounds) : Type 0 where
  pub long : length kept.shows.items ≡ length kept.ends.items
  pub each : (i : ℕ) → i < length kept.ends.items →
      IsOwnRound own (round_start 0 kept.ends.items i) (slice_index kept.ends.items i) (slice_index_or kept.shows.items i Empty)

-- the tick at which the last of them ends
abbrev pub kept_end : KeptRounds → ℕ
kept_end kept = round_start 0 kept.ends.items (length kept.ends.items)

-- a core computes the rounds of an own plan from this tick of the whole plan on
pub record IsComputedOf (own : OwnPlan) (core : CoreContents) (tick : ℕ) : Type 0 where
  pub belongs : IsCoreOf own.plan core
  pub at : tick ≡ core.tick * own.factor

-- Kept rounds, which go on for hyperperiods of an own plan, come again, `shift` ticks later. The next one begins at the end of the present one.
pub record AreAgain (r : OwnRounds) : Type 0 where
  pub can : CanComeRound r.own.plan
  pub kept : AreKeptOf r.own r.kept
  pub turn : ℕ
  pub turn_end : r.turn ≡ kept_end r.kept
  pub turn_is : r.turn ≡ turn * r.own.factor
  pub turns : AreTurns r.own.plan turn
  pub past : ℕ
  pub shift_is : r.shift ≡ past * r.own.factor
  pub shifts : (past ≡ 0) ⊎ AreTurns r.own.plan past
  pub next : r.next < length r.kept.ends.items
  pub at : r.end ≡ min (round_start 0 r.kept.ends.items r.next + r.shift) r.stop
  pub now : ℕ
  pub now_is : r.end ≡ now * r.own.factor
  pub begins : IsRoundStart r.own.plan now

-- the rounds of processor q of a plan, from the end of the present one on
pub record IsOwnRoundsOf (whole : PlanContents) (q : ℕ) (r : OwnRounds) : Type 0 where
  pub own : IsOwnPlanOf whole q r.own
  pub stop : r.stop ≡ stop_of whole
  pub early : r.end ≤ stop_of whole
  pub computed : r.replays ≡ false → IsComputedOf r.own r.core r.end
  pub again : r.replays ≡ true → AreAgain r

-- a round of an own plan goes on up to this tick or further, and shows this leaf
pub record IsGoing (own : OwnPlan) (tick end : ℕ) (shows : Leaf) : Type 0 where
  pub start : ℕ
  pub before : start < tick
  pub after : tick ≤ end
  pub round : IsOwnRound own start end shows

-- The rounds of a partitioned plan without offsets, up to a tick: those of each of its processors, of which the present one goes on there or ends.
pub record IsPartitionOf (whole : PlanContents) (part : Partition) : Type 0 where
  pub partitioned : IsPartitioned whole.tree
  pub on_time : AllByRecursion (λ t. t.offset ≡ 0) whole.set.tasks
  pub many : length part.lanes.items ≡ whole.tree.processors
  pub each : (q : ℕ) (r : OwnRounds) → slice_get part.lanes.items q ≡ Some r → IsOwnRoundsOf whole q r
  pub lawful : (q : ℕ) (r : OwnRounds) → slice_get part.lanes.items q ≡ Some r → IsPlan r.own.plan
  pub going : (q : ℕ) (r : OwnRounds) → slice_get part.lanes.items q ≡ Some r →
      ((part.tick ≡ 0) × (r.end ≡ 0)) ⊎ IsGoing r.own part.tick r.end r.shows
  pub event : IsRoundStart whole part.tick
  pub within : part.tick ≤ stop_of whole
