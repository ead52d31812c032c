use Rattle.std.proofs.Common.{◌≡◌, true, sym, refl, subst}
use Rattle.std.proofs.lemmas.Bool.{eq-eqb}
use Rattle.sched_base.specs.Rows.{is_of_task}
use Rattle.trace_verdict.proofs.searches.is_early.Goals as goal

pub begin_of-requires-clause-known : goal.begin_of-requires-clause-known
begin_of-requires-clause-known c = c.requires.row.known c.in-Task.id.0 (subst (λ leaf. is_of_task c.in-Task.id.0 leaf ≡ true) (sym c.in-Task.is)
    (eq-eqb _ _ refl))
