use Rattle.std.proofs.Common.{◌∙◌, ap, sym, length}
use Rattle.sched_base.specs.Tables.{Table}
use Rattle.sched_base.proofs.ColumnLemmas.{length-lanes_held}
use Rattle.sched_base.proofs.tables.RowTable.processors.Goals as goal

pub returns-clause-value : goal.returns-clause-value
returns-clause-value c =
    let lanes = c.self.inside.lanes in
    c.len.ensures ∙ lanes.ok.0 ∙ sym (length-lanes_held 0 c.self.inside.ends.ends lanes.items) ∙ ap (λ (t : Table). length t.lanes) c.self.view_is
