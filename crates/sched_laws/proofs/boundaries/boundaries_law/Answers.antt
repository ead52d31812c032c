use Rattle.run_tree.proofs.SetBoundaryLemmas.{set_leaves}
use Rattle.sched_laws.proofs.boundaries.boundaries_law.Goals as goal

-- src/boundaries.rt:10:1
pub returns : goal.returns
returns c = λ s lawful t is. set_leaves s.tasks lawful.each t is.tasks
