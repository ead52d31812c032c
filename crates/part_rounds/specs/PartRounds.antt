-- Rounds of a part of a plan.
use Rattle.std.specs.Prelude.{ℕ, ◌*◌, ◌+◌, ◌<◌, ◌≤◌, ◌≡◌, ◌⊎◌, min, true, false, List, Option, None, Some, length, slice_index, slice_index_or}
use Rattle.sched_base.specs.declared.rows.Leaf.{Leaf}
use Rattle.sched_base.specs.declared.rows.Leaf.TheVariants.{Empty}
use Rattle.run_tree.specs.Plans.{PlanContents, stop_of}
use Rattle.run_tree.specs.Tree.{member, members}
use Rattle.event_core.specs.Cores.{CoreContents, IsCoreOf, runs_at}
use Rattle.event_core.specs.Rounds.{IsRoundStart, IsRoundUpTo}
use Rattle.merged_rounds.specs.Laps.{AreTurns, CanComeRound, round_start}
use Rattle.merged_rounds.specs.Replays.{packs_of}
use Rattle.partition_laws.specs.Partitions.{first_pack}
use Rattle.part_plans.specs.declared.parts.PartPlan.{PartPlan}
use Rattle.part_plans.specs.PartPlans.{IsPartPlanOf}
use Rattle.part_rounds.specs.declared.kept.KeptRounds.{KeptRounds}
use Rattle.part_rounds.specs.declared.sources.PartRounds.{PartRounds}

-- pack k of level 0 of a part, and its member j
abbrev pub own_pack : PartPlan → ℕ → ℕ
own_pack part k = first_pack part.plan.tree k

-- member j of that pack
abbrev pub own_member : PartPlan → ℕ → ℕ → ℕ
own_member part k j = member part.plan.tree (own_pack part k) j

-- at a tick of the part's plan its pack k rests, and nothing is told of it, or it runs, and this is what the whole plan shows of the member that runs
pub record IsShownAt (part : PartPlan) (n k : ℕ) (shows : Option Leaf) : Type 0 where
  pub none : shows ≡ None → runs_at part.plan (own_pack part k) n ≡ false
  pub on : (l : Leaf) → shows ≡ Some l → runs_at part.plan (own_pack part k) n ≡ true
  pub leaf : (l : Leaf) (j : ℕ) → shows ≡ Some l → j < length (members part.plan.tree (own_pack part k)) → runs_at part.plan (own_member part k j) n ≡ true →
      l ≡ slice_index_or part.leaves.items (own_member part k j) Empty

-- From tick `start` up to tick `end` of the whole plan goes a round of a part, and in it this is told of each of its packs of level 0.
pub record IsPartRound (part : PartPlan) (start end : ℕ) (shows : List (Option Leaf)) : Type 0 where
  pub first : ℕ
  pub last : ℕ
  pub round : IsRoundUpTo part.plan first last
  pub start_is : start ≡ first * part.factor
  pub end_is : end ≡ last * part.factor
  pub long : length shows ≡ packs_of part.plan
  pub each : (k : ℕ) → k < packs_of part.plan → IsShownAt part first k (slice_index_or shows k None)

-- what is kept of pack k in round i: as many stand there for each round as there are packs
abbrev pub kept_at : PartPlan → KeptRounds → ℕ → ℕ → Option Leaf
kept_at part kept i k = slice_index_or kept.shows.items (i * packs_of part.plan + k) None

-- round i of those that follow one another from tick 0 on, of which this is kept
pub record IsKeptRound (part : PartPlan) (kept : KeptRounds) (i : ℕ) : Type 0 where
  pub first : ℕ
  pub last : ℕ
  pub round : IsRoundUpTo part.plan first last
  pub start_is : round_start 0 kept.ends.items i ≡ first * part.factor
  pub end_is : slice_index kept.ends.items i ≡ last * part.factor
  pub each : (k : ℕ) → k < packs_of part.plan → IsShownAt part first k (kept_at part kept i k)

-- these are rounds of a part that follow one another from tick 0 on
pub record AreKeptOf (part : PartPlan) (kept : KeptRounds) : Type 0 where
  pub long : length kept.shows.items ≡ length kept.ends.items * packs_of part.plan
  pub each : (i : ℕ) → i < length kept.ends.items → IsKeptRound part kept i

-- the tick at which the last of them ends
abbrev pub kept_end : KeptRounds → ℕ
kept_end kept = round_start 0 kept.ends.items (length kept.ends.items)

-- a core computes the rounds of a part from this tick of the whole plan on
pub record IsComputedOf (part : PartPlan) (core : CoreContents) (tick : ℕ) : Type 0 where
  pub belongs : IsCoreOf part.plan core
  pub at : tick ≡ core.tick * part.factor

-- Kept rounds, which go on for hyperperiods of a part, come again, `shift` ticks later. The next one begins at the end of the present one.
pub record AreAgain (r : PartRounds) : Type 0 where
  pub can : CanComeRound r.part.plan
  pub kept : AreKeptOf r.part r.kept
  pub turn : ℕ
  pub turn_end : r.turn ≡ kept_end r.kept
  pub turn_is : r.turn ≡ turn * r.part.factor
  pub turns : AreTurns r.part.plan turn
  pub past : ℕ
  pub shift_is : r.shift ≡ past * r.part.factor
  pub shifts : (past ≡ 0) ⊎ AreTurns r.part.plan past
  pub next : r.next < length r.kept.ends.items
  pub at : r.end ≡ min (round_start 0 r.kept.ends.items r.next + r.shift) r.stop
  pub now : ℕ
  pub now_is : r.end ≡ now * r.part.factor
  pub begins : IsRoundStart r.part.plan now

-- the rounds of a part of a plan, from the end of the present one on
pub record IsPartRoundsOf (whole : PlanContents) (r : PartRounds) : Type 0 where
  pub part : IsPartPlanOf whole r.part
  pub stop : r.stop ≡ stop_of whole
  pub early : r.end ≤ stop_of whole
  pub long : length r.shows.items ≡ packs_of r.part.plan
  pub computed : r.replays ≡ false → IsComputedOf r.part r.core r.end
  pub again : r.replays ≡ true → AreAgain r

-- a round of a part goes on up to this tick or further, and this is told of its packs
pub record IsGoing (part : PartPlan) (tick end : ℕ) (shows : List (Option Leaf)) : Type 0 where
  pub start : ℕ
  pub before : start < tick
  pub after : tick ≤ end
  pub round : IsPartRound part start end shows
