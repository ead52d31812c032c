-- The rounds of a plan with the compiled tree of its set, as they are counted.
use Rattle.std.proofs.Common.{◌≡◌, ℕ, Bool, List, Option, ◌+◌, ◌*◌, ◌/◌, ◌<◌, ◌≤◌, ap, subst}
use Rattle.sched_base.specs.Tables.{row_limit}
use Rattle.run_tree.specs.Compiled.{tree_of}
use Rattle.run_tree.specs.Plans.{PlanContents, rounds_of}
use Rattle.run_tree.specs.Tree.{Tree}
use Rattle.event_core.specs.Counts.{IsCountFault}
use Rattle.event_core.specs.declared.counts.CountFault.{CountFault}
use Rattle.event_core.specs.declared.counts.CountFault.TheVariants as count
use Rattle.pure_commands.specs.Commands.{schedule_rows, plan_of, rows_of}
use Rattle.pure_commands.specs.Faults.{of_count}
use Rattle.pure_commands.specs.Input.{IsSchedulable, StopsAtSet}
use Rattle.pure_commands.proofs.EndLemmas.{keeps_same}

-- a plan with the compiled tree of its set is the plan of that set
pub plan_is : (p : PlanContents) → p.tree ≡ tree_of p.tree.scale p.set → p ≡ plan_of p.set p.tree.scale
plan_is p is =
    let made : Tree → PlanContents = λ t. record { set = p.set; tree = t } in
    ap made is

-- a plan whose schedule isn't counted
pub uncounted : (met : Bool) (p : PlanContents) (out : Option (List ℕ)) (faults : ℕ) (e : CountFault) → IsSchedulable p.set p.tree.scale
    → p.tree ≡ tree_of p.tree.scale p.set → IsCountFault p e → StopsAtSet (schedule_rows met) out out faults faults p.set (of_count e)
uncounted met p out faults (count.TooLong rows) run is long =
    let told = subst (λ (q : PlanContents). (row_limit < rows_of q) × (rows ≡ (row_limit / q.tree.processors + 1) * q.tree.processors)) (plan_is p is) long in
    ((p.tree.scale, run, told), keeps_same out)
uncounted met p out faults count.NoMemory run is long = (tt, keeps_same out)

-- the schedule of a plan has room where its rounds were counted
pub has_room : (p : PlanContents) → p.tree ≡ tree_of p.tree.scale p.set → rounds_of p * p.tree.processors ≤ row_limit
    → rows_of (plan_of p.set p.tree.scale) ≤ row_limit
has_room p is few = subst (λ (q : PlanContents). rows_of q ≤ row_limit) (plan_is p is) few
