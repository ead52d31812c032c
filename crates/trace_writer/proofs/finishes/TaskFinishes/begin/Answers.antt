use Rattle.std.proofs.Common.{[], sym, ap, subst, length, ◌∙◌}
use Rattle.row_totals.proofs.SumLemmas.{written_back}
use Rattle.trace_writer.specs.Finishes.{IsDoneBy}
use Rattle.trace_writer.proofs.finishes.TaskFinishes.begin.Goals as goal

pub returns-clause-none : goal.returns-clause-none
returns-clause-none c = λ j.
    let ends = c.self.inside.ends in
    let kept = written_back c.begin_each.new.ends ends.items ends.len (c.begin_each.auto.ends ∙ c.as_mut_slice.ensures.len)
    (ap length (sym c.as_mut_slice.ensures.value) ∙ c.as_mut_slice.ensures.len) in
    subst (IsDoneBy c.args.scale c.args.task.now j []) (sym kept) (c.begin_each.ensures j)
