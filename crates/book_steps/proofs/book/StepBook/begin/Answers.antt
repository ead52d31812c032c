use Rattle.std.proofs.Common.{ℕ, List, Option, ◌∙◌, ap, length, replicate}
use Rattle.sched_base.specs.Tables.{Table}
use Rattle.run_tree.specs.Plans.{IsPlan, PlanContents}
use Rattle.book_machine.specs.Machine.{State, start}
use Rattle.book_steps.specs.Books.{BookHeld, no_rows}
use Rattle.book_steps.specs.Pending.{rounds_up_to}
use Rattle.book_steps.proofs.BookLemmas.{AreFaults-start, AreTotals-start, IsLed-start}
use Rattle.book_steps.proofs.PendingLemmas.{PendingKept-start, no_rows_yet}
use Rattle.book_steps.proofs.book.StepBook.begin.Goals as goal

pub invariant_of-result : goal.invariant_of-result
invariant_of-result c =
    let p = c.args.plan in
    let lawful : IsPlan p = c.know_lawful.ensures.lawful in
    let parts = c.in_ok-pending.field-0 in
    let are = c.in_ok-pending.ensures in
    record {
      compiled = c.requires.compiled;
      some_window = c.requires.some_window;
      small_window = c.requires.small_window;
      pending = PendingKept-start p lawful c.args.window parts.state are.state parts.pending are.source are.start are.width are.held are.computed are.given
          are.last;
      led = IsLed-start p lawful c.args.window parts.state are.state;
      totals = AreTotals-start p parts.state parts.totals.items p.tree.processors are.state are.totals;
      faults = AreFaults-start parts.state parts.pending.computed parts.faults.items p.tree.processors are.state are.faults;
    }

abbrev held : PlanContents → ℕ → State → Table → List ℕ → List (Option ℕ) → BookHeld
held p window s table ticks whys = record { plan = p; window = window; state = s; table = table; totals = ticks; faults = whys }

pub returns : goal.returns
returns c =
    let p = c.args.plan in
    let w = c.args.window in
    let parts = c.in_ok-pending.field-0 in
    let are = c.in_ok-pending.ensures in
    let table = rounds_up_to p parts.pending.source.tick in
    ap (λ s. held p w s table parts.totals.items parts.faults.items) are.state
    ∙ ap (λ t. held p w (start p.tree.processors) t parts.totals.items parts.faults.items) (no_rows_yet p c.know_lawful.ensures.lawful
    parts.pending.source.tick are.start)
    ∙ ap (λ ticks. held p w (start p.tree.processors) (no_rows p) ticks parts.faults.items) are.totals
    ∙ ap (held p w (start p.tree.processors) (no_rows p) (replicate (length p.set.tasks) 0)) are.faults
