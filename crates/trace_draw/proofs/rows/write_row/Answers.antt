use Rattle.std.proofs.Common.{◌≡◌, true, sym, refl, subst}
use Rattle.std.proofs.lemmas.Bool.{eq-eqb}
use Rattle.sched_base.specs.Rows.{is_of_task}
use Rattle.trace_draw.proofs.rows.write_row.Goals as goal

pub write_row_of-requires-clause-task : goal.write_row_of-requires-clause-task
write_row_of-requires-clause-task g c =
    c.requires.row.known c.in-Task.id.0 (subst (λ leaf. is_of_task c.in-Task.id.0 leaf ≡ true) (sym c.in-Task.is) (eq-eqb _ _ refl))

pub write_row_of-requires-clause-window : goal.write_row_of-requires-clause-window
write_row_of-requires-clause-window g c = c.requires.window
