use Rattle.std.proofs.Common.{◌≡◌, ◌∙◌, ap, arith, refl}
use Rattle.sched_base.specs.Tables.{RowAt}
use Rattle.book_machine.specs.Machine.{least_posted}
use Rattle.book_machine.proofs.LinkLemmas.{earlier_at_least, told_by_link}
use Rattle.book_machine.proofs.machine.MachineState.told_by_link.Goals.{After-row-row}
use Rattle.book_machine.proofs.machine.MachineState.told_by_link.Goals as goal

module _ (c : After-row-row) where
  at : RowAt c.args.linked.now.lanes c.args.p c.args.round c.row-row.result
  at = rw (← c.table.ensures) c.row-row.ensures.value

pub returns-then-round-self : goal.returns-then-round-self
returns-then-round-self c =
    let least : c.self.inside.least ≡ least_posted c.args.self.now = c.self.invariant.least_is ∙ ap least_posted c.self.view_is in
    let same : c.args.round ≡ c.self.inside.least = c.if-round-self.true in (
      c.row-row.result,
      at (goal.at.returns-then-round-self c).After-row-row,
      (
        λ _. earlier_at_least c.args.linked.now.lanes c.args.self.now c.args.p c.args.round c.row-row.result.leaf c.requires.lanes
            (omega (arith, least, same)),
        λ _. refl,
      ),
    )

pub returns : goal.returns
returns c =
    let r = c.row-row.result in
    let here = at (goal.at.returns c).After-row-row in
    told_by_link c.args.linked.now.lanes c.args.self.now c.requires.in_order c.args.p c.args.round c.link.result r (c.link.ensures r here) here
    c.has_posted.result c.has_posted.ensures
