use Rattle.std.proofs.Common.{ℕ, ◌∙◌, ap}
use Rattle.sched_base.specs.Tables.{all_rows}
use Rattle.table_text.specs.Steps.{step_of}
use Rattle.table_text.specs.Table.{table_text}
use Rattle.table_text.proofs.table.write_table.Goals as goal

pub returns-clause-wrote : goal.returns-clause-wrote
unfolding table_text
returns-clause-wrote g c =
    let rows = all_rows c.args.rows.now.lanes in
    let step = c.step_of-step.ensures.value ∙ ap (λ (t : ℕ). step_of t rows) c.some_ticks.ensures.value in
    rw step at c.write_parts.ensures.wrote
