use Rattle.std.proofs.Common.{◌≡◌, ◌∙◌, Some, ap, sym}
use Rattle.std.specs.Prelude.{slice_get}
use Rattle.sched_base.specs.Tables.{Table, rounds_in}
use Rattle.sched_base.proofs.ColumnLemmas.{rounds_held}
use Rattle.sched_base.proofs.tables.RowTable.rounds.Goals as goal

pub returns-in-Some-clause-value : goal.returns-in-Some-clause-value
returns-in-Some-clause-value c =
    let lanes = c.self.inside.lanes.items in
    let at : slice_get lanes 0 ≡ Some c.in-Some.lane.now = ap (λ ls. slice_get ls 0) (sym c.deref.ensures.value) ∙ sym c.in-Some.ensures.value in
    c.len.ensures ∙ rounds_held c.self.inside.ends.ends lanes c.in-Some.lane.now c.self.invariant.filled at ∙ ap (λ (t : Table). rounds_in t.lanes)
    c.self.view_is
