-- One processor of a partitioned plan in turn, as the next round of the plan begins.
use Rattle.std.specs.Prelude.{ℕ, ◌+◌, ◌≡◌, List, Option, Some, set}
use Rattle.sched_base.specs.declared.rows.Leaf.{Leaf}
use Rattle.partition_rounds.specs.OwnRounds.{IsOwnRound}
use Rattle.partition_rounds.specs.declared.own_rounds.OwnRounds.{OwnRounds}

-- processor q moved to the end of the round that begins at tick `now`, and is told with what it shows there
pub record HasGone (q now : ℕ) (lane : OwnRounds) (told told' : List ℕ) (leaves leaves' : List (Option Leaf)) (count count' : ℕ) : Type 0 where
  pub round : IsOwnRound lane.own now lane.end lane.shows
  pub told_is : told' ≡ set told count q
  pub leaves_is : leaves' ≡ set leaves q (Some lane.shows)
  pub count_is : count' ≡ count + 1

-- it is as it was, and isn't told
pub record HasStayed (lane lane' : OwnRounds) (told told' : List ℕ) (leaves leaves' : List (Option Leaf)) (count count' : ℕ) : Type 0 where
  pub same : lane' ≡ lane
  pub told_is : told' ≡ told
  pub leaves_is : leaves' ≡ leaves
  pub count_is : count' ≡ count
