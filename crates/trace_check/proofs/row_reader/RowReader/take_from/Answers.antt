use Rattle.std.proofs.Common.{◌++◌, take, drop, subst, sym, ap, ◌∙◌}
use Rattle.std.proofs.lemmas.List.{take-append-drop}
use Rattle.trace_check.specs.WholeRows.{AreRowsOf}
use Rattle.trace_check.proofs.row_reader.RowReader.take_from.Goals as goal

pub returns-clause-read : goal.returns-clause-read
returns-clause-read c =
    λ whole so. subst (λ t. AreRowsOf c.args.set.now.tasks whole c.take.new.self.rows c.take.new.self.totals.items t) (ap (drop c.in_ok-count.count)
    c.ahead.ensures ∙ sym c.pass.ensures.ahead)
    (c.in_ok-count.ensures.read whole (subst (λ t. AreRowsOf c.args.set.now.tasks whole c.args.self.now.rows c.args.self.now.totals.items t)
    (sym c.ahead.ensures) so))

pub returns-clause-split : goal.returns-clause-split
returns-clause-split c =
    let n = c.in_ok-count.count in
    let old = c.args.window.now.ahead in
    (take n old, sym (take-append-drop n old) ∙ ap (λ t. take n old ++ t) (sym c.pass.ensures.ahead))
