use Rattle.std.proofs.Common.{refl}
use Rattle.exec_book.proofs.held.Held.hand_out.Goals as goal

pub lift-job-requires-clause-there : goal.lift-job-requires-clause-there
lift-job-requires-clause-there g c task is = c.requires.job c.row-row.result task (rw c.posted.ensures at (rw c.table.ensures at c.row-row.ensures.value)) is

pub row-row-requires-clause-processor : goal.row-row-requires-clause-processor
row-row-requires-clause-processor g c = rw c.table.ensures c.requires.lane

pub row-row-requires-clause-round : goal.row-row-requires-clause-round
row-row-requires-clause-round g c = rw (c.posted.ensures, c.table.ensures) c.requires.round

pub step-requires-clause-lanes : goal.step-requires-clause-lanes
step-requires-clause-lanes g c = rw c.table-2.ensures c.requires.lanes

pub step-requires-clause-legal : goal.step-requires-clause-legal
step-requires-clause-legal g c = rw c.table-2.ensures c.requires.legal

pub step-requires-clause-some_window : goal.step-requires-clause-some_window
step-requires-clause-some_window g c = c.requires.some_window

pub step-requires-clause-small_window : goal.step-requires-clause-small_window
step-requires-clause-small_window g c = c.requires.small_window

pub lift-job-requires-clause-lane : goal.lift-job-requires-clause-lane
lift-job-requires-clause-lane g c = c.requires.notes

pub returns-clause-row : goal.returns-clause-row
returns-clause-row g c = rw c.posted.ensures at (rw c.table.ensures at c.row-row.ensures.value)

pub returns-clause-job : goal.returns-clause-job
returns-clause-job g c = c.lift-job.ensures.job

pub returns-clause-state : goal.returns-clause-state
returns-clause-state g c = c.step.ensures

pub returns-clause-held : goal.returns-clause-held
returns-clause-held g c = rw c.lift-job.ensures.store refl
