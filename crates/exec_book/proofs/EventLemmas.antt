-- An event fits a byte.
use Rattle.std.proofs.Common.{ℕ, ◌<◌, length, arith}
use Rattle.run_tree.specs.Plans.{PlanContents, IsPlan}
use Rattle.plan_rounds.specs.PlanRows.{plan_rows}
use Rattle.plan_rounds.proofs.RoundLemmas.{plan_lanes}

-- a plan's lanes have small numbers
pub lane_is_small : (p : PlanContents) → IsPlan p → (q : ℕ) → q < length (plan_rows p) → q < 64
lane_is_small p h q within =
    let lanes = plan_lanes p h in
    let few = h.sized.few_processors in
    omega (arith, within, lanes, few)
