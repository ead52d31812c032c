use Rattle.std.proofs.Common.{◌∙◌}
use Rattle.run_tree.specs.Plans.{schedule_of}
use Rattle.sched_laws.proofs.ValidRows.{set_valid}
use Rattle.sched_base.specs.Lanes.{NamesOneOf}
use Rattle.sched_base.proofs.ScheduleLanes.{lane_of-lanes_of, lanes_of-all, length-lanes_of}
use Rattle.sched_laws.proofs.RowNames.{schedule_names}
use Rattle.sched_laws.proofs.TableRows.{schedule_within}
use Rattle.round_table.proofs.laws.table_law.Goals as goal

pub returns-clause-valid : goal.returns-clause-valid
returns-clause-valid c = λ p h. set_valid p.set h.lawful p.tree h.tree

pub returns-clause-processors : goal.returns-clause-processors
returns-clause-processors c = λ p h. length-lanes_of p.tree.processors (schedule_of p) ∙ h.tree.processors

pub returns-clause-placed : goal.returns-clause-placed
returns-clause-placed c = λ p h. schedule_within p h

pub returns-clause-lane : goal.returns-clause-lane
returns-clause-lane c = λ p q l. lane_of-lanes_of p.tree.processors (schedule_of p) q l

pub returns-clause-rows : goal.returns-clause-rows
returns-clause-rows c = λ p h. schedule_names p h

pub returns-clause-lanes : goal.returns-clause-lanes
returns-clause-lanes c = λ p h. lanes_of-all (λ r. NamesOneOf p.set.tasks r.leaf) p.tree.processors (schedule_of p) (schedule_names p h)
