use Rattle.std.proofs.Common.{subst, sym}
use Rattle.plan_rounds.specs.Parts.{RowsKept}
use Rattle.plan_rounds.proofs.RoundLemmas.{first_rounds}
use Rattle.plan_rounds.proofs.FrontLemmas.{follows_plan}
use Rattle.book_steps.specs.Books.{AreFaults}
use Rattle.book_steps.specs.Pending.{all_computed}
use Rattle.book_steps.proofs.PendingLemmas.{computed_is}
use Rattle.book_steps.proofs.book.StepBook.know_sound.Goals as goal

pub returns : goal.returns
returns c =
    let plan = c.self.inside.plan in
    let lawful = c.know_lawful.ensures.lawful in
    let window = c.self.inside.window in
    let state = c.self.inside.state in
    let pending = c.self.invariant.pending in
    let kept : RowsKept plan window state (all_computed plan c.self.inside.pending) = pending.kept in
    let led = c.self.invariant.led in
    rw (← c.self.view_is) (record {
      follows = (led.0, follows_plan plan lawful window led.0 state led.1.replays);
      first = first_rounds plan lawful (all_computed plan c.self.inside.pending) kept.rounds;
      in_window = kept.in_window;
      totals = c.self.invariant.totals;
      faults = subst (λ n. AreFaults state n c.self.inside.faults.items) (sym (computed_is plan lawful window state c.self.inside.pending pending))
          c.self.invariant.faults;
    })
